-- How many bytes a frame has at most.
use Rattle.std.proofs.Common.{◌≡◌, ℕ, ◌*◌, ◌≤◌, ◌&&◌, true, List, [], ◌∷◌, length, refl, arith, length-append}
use Rattle.std.proofs.lemmas.Bool.{and_parts, leb-true}
use Rattle.std.specs.Int.{w8, w16, w32, w64}
use Rattle.std.specs.List.{flat_map, list_all, AllByRecursion}
use Rattle.std.specs.Prelude.{nat_le}
use Rattle.upd_base.specs.Text.{is_payload, is_printable}
use Rattle.upd_base.specs.Batch.{is_batch, ascends}
use Rattle.upd_base.specs.declared.kind.Kind.{Kind}
use Rattle.upd_base.specs.declared.kind.Kind.TheVariants.{Sequencer, Lamport, Consensus}
use Rattle.upd_base.specs.declared.item.Item.{Item}
use Rattle.upd_base.specs.declared.item.Item.TheVariants.{Msg, Switch}
use Rattle.upd_base.specs.declared.body.Body.{Body}
use Rattle.upd_base.specs.declared.body.Body.TheVariants.{Ask, Ord, Req, Ack, Rb, Est, Prop, Reply, Next, Decide, Past}
use Rattle.upd_base.specs.declared.frame.Frame.{Frame}
use Rattle.upd_base.specs.declared.limits.TheConstants.{MAX_PAYLOAD, MAX_BATCH}
use Rattle.upd_frame.specs.Spelling.{digits, kind_bytes, item_bytes, batch_bytes, body_bytes, spelling, IsItem, IsBatch, IsBody, IsFrame}
use Rattle.line_rules.specs.declared.line_state.TheConstants.{MAX_FRAME}

one : (n : ℕ) → length (digits w8 n) ≡ 1
unfolding digits
one n = refl

two : (n : ℕ) → length (digits w16 n) ≡ 2
unfolding digits
two n = refl

four : (n : ℕ) → length (digits w32 n) ≡ 4
unfolding digits
four n = refl

eight : (n : ℕ) → length (digits w64 n) ≡ 8
unfolding digits
eight n = refl

short_kind : (k : Kind) → length (kind_bytes k) ≤ 2
unfolding kind_bytes
short_kind (Sequencer m) = omega arith
short_kind Lamport = omega arith
short_kind Consensus = omega arith

short_payload : (payload : List ℕ) → is_payload payload ≡ true → length payload ≤ MAX_PAYLOAD
short_payload payload is =
    let limits = and_parts (nat_le 1 (length payload) && nat_le (length payload) MAX_PAYLOAD) (list_all is_printable payload) is in
    leb-true (length payload) MAX_PAYLOAD (and_parts (nat_le 1 (length payload)) (nat_le (length payload) MAX_PAYLOAD) limits.0).1

short_item : (i : Item) → IsItem i → length (item_bytes i) ≤ 264
unfolding item_bytes
short_item (Msg origin number payload) within = simp length-append (omega (arith, two (length payload), four number, short_payload payload within.2))
short_item (Switch origin number kind) within = simp length-append (omega (arith, four number, short_kind kind))

short_items : (items : List Item) → AllByRecursion IsItem items → length (flat_map item_bytes items) ≤ 264 * length items
short_items [] each = omega arith
short_items (i ∷ items) each = omega (arith, length-append (item_bytes i) (flat_map item_bytes items), short_item i each.0, short_items items each.1)

few_items : (items : List Item) → is_batch items ≡ true → length items ≤ MAX_BATCH
few_items items is =
    let limits = and_parts (nat_le 1 (length items) && nat_le (length items) MAX_BATCH) (ascends items) is in
    leb-true (length items) MAX_BATCH (and_parts (nat_le 1 (length items)) (nat_le (length items) MAX_BATCH) limits.0).1

short_batch : (items : List Item) → IsBatch items → length (batch_bytes items) ≤ 8449
unfolding batch_bytes
short_batch items within =
    omega (arith, length-append (digits w8 (length items)) (flat_map item_bytes items), one (length items), few_items items within.0, short_items items within.1)

short_body : (b : Body) → IsBody b → length (body_bytes b) ≤ 8474
unfolding body_bytes
short_body (Ask item) within = simp length-append (omega (arith, short_item item within))
short_body (Ord place item) within = simp length-append (omega (arith, eight place, short_item item within.1))
short_body (Req stamp item) within = simp length-append (omega (arith, eight stamp, short_item item within.1))
short_body (Ack stamp) within = simp length-append (omega (arith, eight stamp))
short_body (Rb item) within = simp length-append (omega (arith, short_item item within))
short_body (Est instance round stamp batch) within = simp length-append (omega (arith, eight instance, eight round, eight stamp, short_batch batch within.3))
short_body (Prop instance round batch) within = simp length-append (omega (arith, eight instance, eight round, short_batch batch within.2))
short_body (Reply instance round accepts) within = simp length-append (omega (arith, eight instance, eight round))
short_body (Next instance round) within = simp length-append (omega (arith, eight instance, eight round))
short_body (Decide instance batch) within = simp length-append (omega (arith, eight instance, short_batch batch within.1))
short_body Past within = omega arith

pub short : (f : Frame) → IsFrame f → length (spelling f) ≤ MAX_FRAME
unfolding spelling
short f within = omega (arith, length-append (digits w16 f.version) (body_bytes f.body), two f.version, short_body f.body within.body)
