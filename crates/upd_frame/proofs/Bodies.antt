-- Bodies and frames: what is read is spelled so, and what is spelled so is read.
use Rattle.std.proofs.Common.{◌≡◌, ℕ, zero, suc, ◌-◌, ◌^◌, ◌<◌, ◌≤◌, Bool, true, false, cond, leb, eqb, List, [], ◌∷◌, ◌++◌, length, take, drop, Option, Some, None, Result, Ok, Err, refl, sym, ap, subst, ◌∙◌, append_assoc, arith, inl, inr}
use Rattle.std.specs.Int.{w16, w64}
use Rattle.std.proofs.lemmas.Option.{none-some}
use Rattle.std.proofs.lemmas.Bool.{cases_eq, ne_eqb, eq-eqb, eqb-true, leb-true, le-leb}
use Rattle.std.proofs.lemmas.List.{append-nil, nil_from_length, length-append, take_at, drop_at}
use Rattle.upd_base.specs.declared.item.Item.{Item}
use Rattle.upd_base.specs.declared.body.Body.{Body}
use Rattle.upd_base.specs.declared.body.Body.TheVariants.{Ask, Ord, Req, Ack, Rb, Est, Prop, Reply, Next, Decide, Past}
use Rattle.upd_base.specs.declared.frame.Frame.{Frame}
use Rattle.upd_base.specs.declared.limits.TheConstants.{MAX_VERSION}
use Rattle.upd_frame.specs.declared.fault.FrameFault.{FrameFault}
use Rattle.upd_frame.specs.declared.fault.FrameFault.TheVariants.{BadTag, LongTail}
use Rattle.upd_frame.specs.declared.tag.Tag.{Tag}
use Rattle.upd_frame.specs.declared.tag.Tag.TheVariants as tags
use Rattle.upd_frame.specs.Spelling.{digits, item_bytes, batch_bytes, flag_byte, body_bytes, spelling, IsCount, IsItem, IsBatch, IsBody, IsFrame, Spells}
use Rattle.upd_frame.specs.Reader.{Reader, place, done, go_on, ◌>>=◌, only, byte, number}
use Rattle.upd_frame.specs.Reading.{is_version, from_one, any, tag_of, flag_of, item, batch, count, body, frame, front, ended, reading}
use Rattle.upd_frame.proofs.Fields.{IsBytes, Takes, Takes-then, go_on_ok, ok_is, byte_takes, byte_again, wide16, wide64, Reads, numbers, one_takes, two_takes}
use Rattle.upd_frame.proofs.Items.{item_takes, item_again, flags, batches}

lone_item_takes : (all : ℕ) (left : List ℕ) (x : Item) (rest : List ℕ) → IsBytes left → item None all left ≡ Ok (x, rest) → Takes left (item_bytes x) rest × IsItem x
lone_item_takes all left x rest fits e = let r = item_takes None all left x rest fits e in (r.takes, r.within)

lone_items : Reads (item None) item_bytes IsItem
lone_items = record { takes = lone_item_takes; again = λ all x rest within. item_again None all x rest within refl }

count_takes : (all : ℕ) (left : List ℕ) (n : ℕ) (rest : List ℕ) → IsBytes left → count all left ≡ Ok (n, rest) → Takes left (digits w64 n) rest × IsCount n
unfolding count
count_takes all left n rest fits e = let r = (numbers w64 (2 ^ 64) wide64 from_one).takes all left n rest fits e in (r.0, (leb-true 1 n r.1.1, r.1.0))

count_again : (all n : ℕ) (rest : List ℕ) → IsCount n → count all (digits w64 n ++ rest) ≡ Ok (n, rest)
unfolding count
count_again all n rest within = (numbers w64 (2 ^ 64) wide64 from_one).again all n rest (within.1, le-leb 1 n within.0)

counts : Reads count (digits w64) IsCount
counts = record { takes = count_takes; again = count_again }

stamp_takes : (all : ℕ) (left : List ℕ) (n : ℕ) (rest : List ℕ) → IsBytes left → number w64 any all left ≡ Ok (n, rest) → Takes left (digits w64 n) rest × (n < 2 ^ 64)
stamp_takes all left n rest fits e = let r = (numbers w64 (2 ^ 64) wide64 any).takes all left n rest fits e in (r.0, r.1.0)

stamps : Reads (number w64 any) (digits w64) (λ n. n < 2 ^ 64)
stamps = record { takes = stamp_takes; again = λ all n rest within. (numbers w64 (2 ^ 64) wide64 any).again all n rest (within, refl) }

-- ---- tags

abbrev pub tag_byte : Tag → ℕ
tag_byte tags.Ask = 1
tag_byte tags.Ord = 2
tag_byte tags.Req = 3
tag_byte tags.Ack = 4
tag_byte tags.Rb = 5
tag_byte tags.Est = 6
tag_byte tags.Prop = 7
tag_byte tags.Reply = 8
tag_byte tags.Next = 9
tag_byte tags.Decide = 10
tag_byte tags.Past = 11

-- a test for one byte, and what is said of the others
one_of : (b n : ℕ) (u t : Tag) (other : Option Tag) → tag_byte u ≡ n → cond (eqb b n) (Some u) other ≡ Some t → (other ≡ Some t → b ≡ tag_byte t) → b ≡ tag_byte t
one_of b n u t other is e rest =
    elim (cases_eq b n) [
      | inl same ↦ same ∙ sym is ∙ ap tag_byte (here (sym (ap (λ (x : Bool). cond x (Some u) other) (eq-eqb b n same)) ∙ e))
      | inr differs ↦ rest (sym (ap (λ (x : Bool). cond x (Some u) other) (ne_eqb b n differs)) ∙ e)
    ]
  where
    here : Some u ≡ Some t → u ≡ t
    here h = cc

pub tag_is : (b : ℕ) (t : Tag) → tag_of b ≡ Some t → b ≡ tag_byte t
tag_is b t e =
    one_of b 1 tags.Ask t _ refl e (λ e. one_of b 2 tags.Ord t _ refl e (λ e. one_of b 3 tags.Req t _ refl e (λ e. one_of b 4 tags.Ack t _ refl e (λ e. one_of b 5 tags.Rb t _ refl e
    (λ e. one_of b 6 tags.Est t _ refl e (λ e. one_of b 7 tags.Prop t _ refl e (λ e. one_of b 8 tags.Reply t _ refl e (λ e. one_of b 9 tags.Next t _ refl e (λ e. one_of b 10 tags.Decide t _ refl e
    (λ e. one_of b 11 tags.Past t _ refl e (λ e. absurd (none-some t e))))))))))))

-- ---- bodies

-- what is read behind a tag
record Content (t : Tag) (left : List ℕ) (p : Body × List ℕ) : Type 0 where
  text : List ℕ
  takes : Takes left text p.1
  spelt : body_bytes p.0 ≡ tag_byte t ∷ text
  within : IsBody p.0

content : (t : Tag) (all : ℕ) (left : List ℕ) (p : Body × List ℕ) → IsBytes left → body t all left ≡ Ok p → Content t left p
unfolding body body_bytes
content tags.Ask all left p fits e =
    let a = one_takes (item None) item_bytes IsItem lone_items (λ x. Ask x) all left p fits e in
    let made : Content tags.Ask left (Ask a.0, a.1) = record { text = item_bytes a.0; takes = a.2; spelt = refl; within = a.3 } in
    subst (Content tags.Ask left) a.4 made
content tags.Ord all left p fits e =
    let a = two_takes count (digits w64) IsCount counts (item None) item_bytes IsItem lone_items (λ n x. Ord n x) all left p fits e in
    let made : Content tags.Ord left (Ord a.0 a.1, a.2) = record { text = digits w64 a.0 ++ item_bytes a.1; takes = a.3; spelt = refl; within = (a.4, a.5) } in
    subst (Content tags.Ord left) a.6 made
content tags.Req all left p fits e =
    let a = two_takes count (digits w64) IsCount counts (item None) item_bytes IsItem lone_items (λ n x. Req n x) all left p fits e in
    let made : Content tags.Req left (Req a.0 a.1, a.2) = record { text = digits w64 a.0 ++ item_bytes a.1; takes = a.3; spelt = refl; within = (a.4, a.5) } in
    subst (Content tags.Req left) a.6 made
content tags.Ack all left p fits e =
    let a = one_takes count (digits w64) IsCount counts (λ n. Ack n) all left p fits e in
    let made : Content tags.Ack left (Ack a.0, a.1) = record { text = digits w64 a.0; takes = a.2; spelt = refl; within = a.3 } in
    subst (Content tags.Ack left) a.4 made
content tags.Rb all left p fits e =
    let a = one_takes (item None) item_bytes IsItem lone_items (λ x. Rb x) all left p fits e in
    let made : Content tags.Rb left (Rb a.0, a.1) = record { text = item_bytes a.0; takes = a.2; spelt = refl; within = a.3 } in
    subst (Content tags.Rb left) a.4 made
content tags.Est all left p fits e =
    let a = go_on_ok (count all left) (λ k after. go_on (count all after) (λ r after. go_on (number w64 any all after) (λ s after. go_on (batch all after) (λ b rest. Ok (Est k r s b, rest))))) p e in
    let b = go_on_ok (count all a.1) (λ r after. go_on (number w64 any all after) (λ s after. go_on (batch all after) (λ b rest. Ok (Est a.0 r s b, rest)))) p a.3 in
    let ta = count_takes all left a.0 a.1 fits a.2 in
    let tb = count_takes all a.1 b.0 b.1 ta.0.rest_fits b.2 in
    let d = two_takes (number w64 any) (digits w64) (λ n. n < 2 ^ 64) stamps batch batch_bytes IsBatch batches (λ s x. Est a.0 b.0 s x) all b.1 p tb.0.rest_fits b.3 in
    let two = Takes-then left (digits w64 a.0) a.1 (digits w64 b.0) b.1 ta.0 tb.0 in
    let four = Takes-then left (digits w64 a.0 ++ digits w64 b.0) b.1 (digits w64 d.0 ++ batch_bytes d.1) d.2 two d.3 in
    let made : Content tags.Est left (Est a.0 b.0 d.0 d.1, d.2) = record {
      text = (digits w64 a.0 ++ digits w64 b.0) ++ (digits w64 d.0 ++ batch_bytes d.1);
      takes = four;
      spelt = ap (λ (l : List ℕ). 6 ∷ l) (append_assoc (digits w64 a.0 ++ digits w64 b.0) (digits w64 d.0) (batch_bytes d.1));
      within = (ta.1, tb.1, d.4, d.5);
    } in
    subst (Content tags.Est left) d.6 made
content tags.Prop all left p fits e =
    let a = go_on_ok (count all left) (λ k after. go_on (count all after) (λ r after. go_on (batch all after) (λ b rest. Ok (Prop k r b, rest)))) p e in
    let ta = count_takes all left a.0 a.1 fits a.2 in
    let d = two_takes count (digits w64) IsCount counts batch batch_bytes IsBatch batches (λ r x. Prop a.0 r x) all a.1 p ta.0.rest_fits a.3 in
    let three = Takes-then left (digits w64 a.0) a.1 (digits w64 d.0 ++ batch_bytes d.1) d.2 ta.0 d.3 in
    let made : Content tags.Prop left (Prop a.0 d.0 d.1, d.2) = record {
      text = digits w64 a.0 ++ (digits w64 d.0 ++ batch_bytes d.1);
      takes = three;
      spelt = ap (λ (l : List ℕ). 7 ∷ l) (append_assoc (digits w64 a.0) (digits w64 d.0) (batch_bytes d.1));
      within = (ta.1, d.4, d.5);
    } in
    subst (Content tags.Prop left) d.6 made
content tags.Reply all left p fits e =
    let a = go_on_ok (count all left) (λ k after. go_on (count all after) (λ r after. go_on (byte flag_of BadTag all after) (λ b rest. Ok (Reply k r b, rest)))) p e in
    let ta = count_takes all left a.0 a.1 fits a.2 in
    let d = two_takes count (digits w64) IsCount counts (byte flag_of BadTag) (λ x. flag_byte x ∷ []) (λ x. Unit {0}) flags (λ r x. Reply a.0 r x) all a.1 p ta.0.rest_fits a.3 in
    let three = Takes-then left (digits w64 a.0) a.1 (digits w64 d.0 ++ (flag_byte d.1 ∷ [])) d.2 ta.0 d.3 in
    let made : Content tags.Reply left (Reply a.0 d.0 d.1, d.2) = record {
      text = digits w64 a.0 ++ (digits w64 d.0 ++ (flag_byte d.1 ∷ []));
      takes = three;
      spelt = ap (λ (l : List ℕ). 8 ∷ l) (append_assoc (digits w64 a.0) (digits w64 d.0) (flag_byte d.1 ∷ []));
      within = (ta.1, d.4);
    } in
    subst (Content tags.Reply left) d.6 made
content tags.Next all left p fits e =
    let a = two_takes count (digits w64) IsCount counts count (digits w64) IsCount counts (λ k r. Next k r) all left p fits e in
    let made : Content tags.Next left (Next a.0 a.1, a.2) = record { text = digits w64 a.0 ++ digits w64 a.1; takes = a.3; spelt = refl; within = (a.4, a.5) } in
    subst (Content tags.Next left) a.6 made
content tags.Decide all left p fits e =
    let a = two_takes count (digits w64) IsCount counts batch batch_bytes IsBatch batches (λ k x. Decide k x) all left p fits e in
    let made : Content tags.Decide left (Decide a.0 a.1, a.2) = record { text = digits w64 a.0 ++ batch_bytes a.1; takes = a.3; spelt = refl; within = (a.4, a.5) } in
    subst (Content tags.Decide left) a.6 made
content tags.Past all left p fits e =
    let made : Content tags.Past left (Past, left) = record { text = []; takes = record { parts = refl; rest_fits = fits }; spelt = refl; within = tt } in
    subst (Content tags.Past left) (ok_is (Past, left) p e) made

-- a spelling begins with a tag, behind which the body is read
record Again (b : Body) : Type 0 where
  tag : Tag
  text : List ℕ
  spelt : body_bytes b ≡ tag_byte tag ∷ text
  reads : (all : ℕ) (rest : List ℕ) → body tag all (text ++ rest) ≡ Ok (b, rest)

again : (b : Body) → IsBody b → Again b
unfolding body body_bytes
again (Ask x) within = record { tag = tags.Ask; text = item_bytes x; spelt = refl; reads = λ all rest. rw (lone_items.again all x rest within) refl }
again (Ord n x) within = record {
  tag = tags.Ord;
  text = digits w64 n ++ item_bytes x;
  spelt = refl;
  reads = λ all rest. rw (append_assoc (digits w64 n) (item_bytes x) rest, count_again all n (item_bytes x ++ rest) within.0, lone_items.again all x rest within.1) refl;
}
again (Req n x) within = record {
  tag = tags.Req;
  text = digits w64 n ++ item_bytes x;
  spelt = refl;
  reads = λ all rest. rw (append_assoc (digits w64 n) (item_bytes x) rest, count_again all n (item_bytes x ++ rest) within.0, lone_items.again all x rest within.1) refl;
}
again (Ack n) within = record { tag = tags.Ack; text = digits w64 n; spelt = refl; reads = λ all rest. rw (count_again all n rest within) refl }
again (Rb x) within = record { tag = tags.Rb; text = item_bytes x; spelt = refl; reads = λ all rest. rw (lone_items.again all x rest within) refl }
again (Est k r s b) within = record {
  tag = tags.Est;
  text = digits w64 k ++ digits w64 r ++ digits w64 s ++ batch_bytes b;
  spelt = refl;
  reads = λ all rest.
      let regrouped : (digits w64 k ++ digits w64 r ++ digits w64 s ++ batch_bytes b) ++ rest ≡ digits w64 k ++ (digits w64 r ++ (digits w64 s ++ (batch_bytes b ++ rest))) = simp append_assoc in
      ap (body tags.Est all) regrouped
      ∙ rw (
        count_again all k (digits w64 r ++ (digits w64 s ++ (batch_bytes b ++ rest))) within.0,
        count_again all r (digits w64 s ++ (batch_bytes b ++ rest)) within.1,
        stamps.again all s (batch_bytes b ++ rest) within.2,
        batches.again all b rest within.3,
      ) refl;
}
again (Prop k r b) within = record {
  tag = tags.Prop;
  text = digits w64 k ++ digits w64 r ++ batch_bytes b;
  spelt = refl;
  reads = λ all rest.
      let regrouped : (digits w64 k ++ digits w64 r ++ batch_bytes b) ++ rest ≡ digits w64 k ++ (digits w64 r ++ (batch_bytes b ++ rest)) = simp append_assoc in
      ap (body tags.Prop all) regrouped
      ∙ rw (count_again all k (digits w64 r ++ (batch_bytes b ++ rest)) within.0, count_again all r (batch_bytes b ++ rest) within.1, batches.again all b rest within.2) refl;
}
again (Reply k r y) within = record {
  tag = tags.Reply;
  text = digits w64 k ++ digits w64 r ++ (flag_byte y ∷ []);
  spelt = refl;
  reads = λ all rest.
      let regrouped : (digits w64 k ++ digits w64 r ++ (flag_byte y ∷ [])) ++ rest ≡ digits w64 k ++ (digits w64 r ++ (flag_byte y ∷ rest)) = simp append_assoc in
      ap (body tags.Reply all) regrouped
      ∙ rw (count_again all k (digits w64 r ++ (flag_byte y ∷ rest)) within.0, count_again all r (flag_byte y ∷ rest) within.1, flags.again all y rest tt) refl;
}
again (Next k r) within = record {
  tag = tags.Next;
  text = digits w64 k ++ digits w64 r;
  spelt = refl;
  reads = λ all rest. rw (append_assoc (digits w64 k) (digits w64 r) rest, count_again all k (digits w64 r ++ rest) within.0, count_again all r rest within.1) refl;
}
again (Decide k b) within = record {
  tag = tags.Decide;
  text = digits w64 k ++ batch_bytes b;
  spelt = refl;
  reads = λ all rest. rw (append_assoc (digits w64 k) (batch_bytes b) rest, count_again all k (batch_bytes b ++ rest) within.0, batches.again all b rest within.1) refl;
}
again Past within = record { tag = tags.Past; text = []; spelt = refl; reads = λ all rest. refl }

tag_again : (t : Tag) → tag_of (tag_byte t) ≡ Some t
tag_again tags.Ask = refl
tag_again tags.Ord = refl
tag_again tags.Req = refl
tag_again tags.Ack = refl
tag_again tags.Rb = refl
tag_again tags.Est = refl
tag_again tags.Prop = refl
tag_again tags.Reply = refl
tag_again tags.Next = refl
tag_again tags.Decide = refl
tag_again tags.Past = refl

-- ---- frames

abbrev framed : ℕ → Body → Frame
framed version b = record { version = version; body = b }

frame_takes : (all : ℕ) (left : List ℕ) (f : Frame) (rest : List ℕ) → IsBytes left → frame all left ≡ Ok (f, rest) → Takes left (spelling f) rest × IsFrame f
unfolding frame spelling
frame_takes all left f rest fits e =
    let a = go_on_ok (number w16 is_version all left) (λ v after. go_on (byte tag_of BadTag all after) (λ t after. go_on (body t all after) (λ b rest. Ok (framed v b, rest)))) (f, rest) e in
    let b = go_on_ok (byte tag_of BadTag all a.1) (λ t after. go_on (body t all after) (λ b rest. Ok (framed a.0 b, rest))) (f, rest) a.3 in
    let d = go_on_ok (body b.0 all b.1) (λ b rest. Ok (framed a.0 b, rest)) (f, rest) b.3 in
    let ta = (numbers w16 (2 ^ 16) wide16 is_version).takes all left a.0 a.1 fits a.2 in
    let one = byte_takes tag_of BadTag all a.1 b.0 b.1 ta.0.rest_fits b.2 in
    let c = content b.0 all b.1 (d.0, d.1) one.rest_fits d.2 in
    let tagged : a.1 ≡ body_bytes d.0 ++ d.1 = one.parts ∙ ap (λ (n : ℕ). n ∷ b.1) (tag_is one.value b.0 one.means) ∙ ap (λ (l : List ℕ). tag_byte b.0 ∷ l) c.takes.parts ∙ ap (λ (l : List ℕ). l ++ d.1) (sym c.spelt) in
    let second : Takes a.1 (body_bytes d.0) d.1 = record { parts = tagged; rest_fits = c.takes.rest_fits } in
    let both = Takes-then left (digits w16 a.0) a.1 (body_bytes d.0) d.1 ta.0 second in
    let made : Takes left (spelling (framed a.0 d.0)) d.1 × IsFrame (framed a.0 d.0) = (both, record { version = leb-true a.0 MAX_VERSION ta.1.1; body = c.within }) in
    subst (λ (p : Frame × List ℕ). Takes left (spelling p.0) p.1 × IsFrame p.0) (ok_is (framed a.0 d.0, d.1) (f, rest) d.3) made

frame_again : (all : ℕ) (f : Frame) (rest : List ℕ) → IsFrame f → frame all (spelling f ++ rest) ≡ Ok (f, rest)
unfolding frame spelling
frame_again all f rest within =
    let b = again f.body within.body in
    let version : f.version < 2 ^ 16 = omega (arith, within.version) in
    let regrouped : spelling f ++ rest ≡ digits w16 f.version ++ (tag_byte b.tag ∷ (b.text ++ rest)) = append_assoc (digits w16 f.version) (body_bytes f.body) rest ∙ ap (λ (l : List ℕ). digits w16 f.version ++ (l ++ rest)) b.spelt in
    ap (frame all) regrouped
    ∙ rw (
      (numbers w16 (2 ^ 16) wide16 is_version).again all f.version (tag_byte b.tag ∷ (b.text ++ rest)) (version, le-leb f.version MAX_VERSION within.version),
      byte_again tag_of BadTag all (tag_byte b.tag) b.tag (b.text ++ rest) (tag_again b.tag),
      b.reads all rest,
    ) refl

pub frames : Reads frame spelling IsFrame
frames = record { takes = frame_takes; again = frame_again }

-- ---- all of the bytes

abbrev gave : Frame × List ℕ → Result (Frame × List ℕ) FrameFault
gave x = Ok x

abbrev read_as : Frame → Result Frame FrameFault
read_as f = Ok f

tail_told : ℕ → List ℕ → Result Frame FrameFault
tail_told all rest = Err (LongTail (place all rest))

ended_ok : (all : ℕ) (r : Result (Frame × List ℕ) FrameFault) (f : Frame) → ended all r ≡ Ok f → r ≡ Ok (f, [])
unfolding tail_told
ended_ok all (Ok x) f e = chosen (eqb (length x.1) 0) refl
  where
    chosen : (b : Bool) → eqb (length x.1) 0 ≡ b → gave x ≡ gave (f, [])
    chosen true t =
        let now : read_as x.0 ≡ read_as f = sym (ap (λ (c : Bool). cond c (read_as x.0) (tail_told all x.1)) t) ∙ e in
        let nothing : x.1 ≡ [] = nil_from_length x.1 (eqb-true (length x.1) 0 t) in
        let same : x.0 ≡ f = ok_is x.0 f now in
        ap gave (λ i. (same i, nothing i))
    chosen false t = let now : tail_told all x.1 ≡ read_as f = sym (ap (λ (c : Bool). cond c (read_as x.0) (tail_told all x.1)) t) ∙ e in absurd cc
ended_ok all (Err d) f e = absurd cc

pub read_is_spelt : (bytes : List ℕ) (f : Frame) → IsBytes bytes → reading bytes ≡ Ok f → Spells bytes f
unfolding reading
read_is_spelt bytes f fits e =
    let t = frame_takes (length bytes) bytes f [] fits (ended_ok (length bytes) (frame (length bytes) bytes) f e) in
    record { within = t.1; whole = t.0.parts ∙ append-nil (spelling f) }

pub spelt_is_read : (bytes : List ℕ) (f : Frame) → Spells bytes f → reading bytes ≡ Ok f
unfolding reading
spelt_is_read bytes f s =
    let whole : frame (length bytes) bytes ≡ Ok (f, []) = ap (frame (length bytes)) (s.whole ∙ sym (append-nil (spelling f))) ∙ frame_again (length bytes) f [] s.within in
    rw whole refl

-- the frame at the front of bytes, and how many bytes it has
pub front_parts : (bytes : List ℕ) (f : Frame) (rest : List ℕ) (size : ℕ) → IsBytes bytes → front bytes ≡ Ok (f, rest) → size ≡ length bytes - length rest
    → Spells (take size bytes) f × (drop size bytes ≡ rest)
front_parts bytes f rest size fits e is =
    let t = frame_takes (length bytes) bytes f rest fits e in
    let n : length (spelling f) ≡ size = omega (arith, ap length t.0.parts, length-append (spelling f) rest) in
    (record { within = t.1; whole = ap (take size) t.0.parts ∙ take_at (spelling f) rest size n }, ap (drop size) t.0.parts ∙ drop_at (spelling f) rest size n)
