-- Reading on from where it came: each step leaves the same to come.
use Rattle.std.proofs.Common.{◌≡◌, ℕ, zero, suc, ◌+◌, ◌-◌, ◌*◌, ◌<◌, ◌≤◌, min, Bool, true, false, cond, List, [], ◌∷◌, ◌++◌, length, get_or, take, drop, Option, Some, None, Result, Ok, Err, refl, sym, ap, subst, ◌∙◌, append_assoc, arith, inl, inr}
use Rattle.std.specs.Int.{w16, w32, w64}
use Rattle.std.specs.List.{list_all}
use Rattle.std.proofs.lemmas.Bool.{and_parts}
use Rattle.std.proofs.lemmas.List.{append-nil, length-append, length-take, take_at, drop_at, take-append-drop, length-drop}
use Rattle.upd_base.specs.Text.{is_printable}
use Rattle.upd_base.specs.Item.{id_of}
use Rattle.upd_base.specs.declared.kind.Kind.{Kind}
use Rattle.upd_base.specs.declared.item.Item.{Item}
use Rattle.upd_base.specs.declared.item.Item.TheVariants.{Msg, Switch}
use Rattle.upd_base.specs.declared.body.Body.{Body}
use Rattle.upd_base.specs.declared.body.Body.TheVariants.{Ask, Ord, Req, Ack, Rb, Est, Prop, Reply, Next, Decide, Past}
use Rattle.upd_base.specs.declared.frame.Frame.{Frame}
use Rattle.upd_frame.specs.declared.fault.FrameFault.{FrameFault}
use Rattle.upd_frame.specs.declared.fault.FrameFault.TheVariants.{Short, LongTail, BadTag, BadNumber, BadText, NoMemory}
use Rattle.upd_frame.specs.declared.tag.Tag.{Tag}
use Rattle.upd_frame.specs.declared.tag.Tag.TheVariants as tags
use Rattle.upd_frame.specs.declared.progress.Stage.{Stage}
use Rattle.upd_frame.specs.declared.progress.Stage.TheVariants.{Start, Within}
use Rattle.upd_frame.specs.Reader.{Fails, Reader, place, done, go_on, ◌>>=◌, only, byte, number, text}
use Rattle.upd_frame.specs.Reading.{is_count, is_length, is_version, any, tag_of, flag_of, comes_after, member, kind, message, switch, item, items, batch, count, body, frame, front}
use Rattle.upd_frame.specs.Progress.{skip, head_of, head, no_payload, item_head, to_come, Leaves, Passes, weight, Steps, EndsAt}
use Rattle.upd_frame.proofs.Fields.{go_on_ok}
use Rattle.upd_frame.proofs.Text.{byte_good, text_bad}
use Rattle.upd_frame.proofs.Ahead.{Taken, Ahead, ahead_done, ahead_bind, ahead_if, ahead_byte, ahead_number, ahead_member, ahead_kind, ahead_count}

-- ---- one after another

assoc : {A B C : Type 0} (r : Result (A × List ℕ) FrameFault) (f : A → List ℕ → Result (B × List ℕ) FrameFault) (g : B → List ℕ → Result (C × List ℕ) FrameFault)
    → go_on (go_on r f) g ≡ go_on r (λ x m. go_on (f x m) g)
assoc (Ok x) f g = refl
assoc (Err d) f g = refl

alike : {A B : Type 0} (r : Result (A × List ℕ) FrameFault) (f g : A → List ℕ → Result (B × List ℕ) FrameFault) → ((x : A) (m : List ℕ) → f x m ≡ g x m) → go_on r f ≡ go_on r g
alike (Ok x) f g h = h x.0 x.1
alike (Err d) f g h = refl

-- the same field first
field : {A B C D : Type 0} (r : Result (A × List ℕ) FrameFault) (f : A → List ℕ → Result (B × List ℕ) FrameFault) (d : B → List ℕ → Result (D × List ℕ) FrameFault)
    (h : A → List ℕ → Result (C × List ℕ) FrameFault) (g : C → List ℕ → Result (D × List ℕ) FrameFault)
    → ((x : A) (m : List ℕ) → go_on (f x m) d ≡ go_on (h x m) g) → go_on (go_on r f) d ≡ go_on (go_on r h) g
field r f d h g each = assoc r f d ∙ alike r (λ x m. go_on (f x m) d) (λ x m. go_on (h x m) g) each ∙ sym (assoc r h g)

pub fails_on : {A B : Type 0} (e : FrameFault) (r : Result (A × List ℕ) FrameFault) (k : A → List ℕ → Result (B × List ℕ) FrameFault) → Fails e r → Fails e (go_on r k)
fails_on NoMemory r k h = tt
fails_on Short r k h = ap (λ q. go_on q k) h
fails_on (LongTail n) r k h = ap (λ q. go_on q k) h
fails_on (BadTag n) r k h = ap (λ q. go_on q k) h
fails_on (BadNumber n) r k h = ap (λ q. go_on q k) h
fails_on (BadText n) r k h = ap (λ q. go_on q k) h

-- ---- what stands before items

abbrev drops : {A : Type 0} → A → List ℕ → Result (ℕ × List ℕ) FrameFault
drops x m = Ok (0, m)

abbrev rest_of : ℕ → ℕ → List ℕ → Result (ℕ × List ℕ) FrameFault
rest_of all n m = skip (items n None) all m

lone : (all : ℕ) (m : List ℕ) (f : Item → Body) → go_on (go_on (item None all m) (λ i after. Ok (f i, after))) drops ≡ rest_of all 1 m
unfolding items
lone all m f = assoc (item None all m) (λ i after. Ok (f i, after)) drops ∙ sym (assoc (item None all m) (λ x after. Ok (x ∷ [], after)) drops)

many : (all : ℕ) (m : List ℕ) (f : List Item → Body) → go_on (go_on (batch all m) (λ b after. Ok (f b, after))) drops ≡ go_on (byte (only is_count) BadNumber all m) (rest_of all)
unfolding batch
many all m f = assoc (batch all m) (λ b after. Ok (f b, after)) drops ∙ assoc (byte (only is_count) BadNumber all m) (λ n after. items n None all after) drops

body_law : (t : Tag) (all : ℕ) (m : List ℕ) → skip (body t) all m ≡ go_on (head_of t all m) (rest_of all)
unfolding body head_of items
body_law tags.Ask all m = lone all m (λ i. Ask i)
body_law tags.Ord all m = field (count all m) _ drops _ (rest_of all) (λ n m. lone all m (λ i. Ord n i))
body_law tags.Req all m = field (count all m) _ drops _ (rest_of all) (λ n m. lone all m (λ i. Req n i))
body_law tags.Ack all m = field (count all m) _ drops _ (rest_of all) (λ n m. refl)
body_law tags.Rb all m = lone all m (λ i. Rb i)
body_law tags.Est all m = field (count all m) _ drops _ (rest_of all) (λ k m. field (count all m) _ drops _ (rest_of all) (λ r m. field (number w64 any all m) _ drops _ (rest_of all) (λ s m. many all m (λ b. Est k r s b))))
body_law tags.Prop all m = field (count all m) _ drops _ (rest_of all) (λ k m. field (count all m) _ drops _ (rest_of all) (λ r m. many all m (λ b. Prop k r b)))
body_law tags.Reply all m = field (count all m) _ drops _ (rest_of all) (λ k m. field (count all m) _ drops _ (rest_of all) (λ r m. field (byte flag_of BadTag all m) _ drops _ (rest_of all) (λ y m. refl)))
body_law tags.Next all m = field (count all m) _ drops _ (rest_of all) (λ k m. field (count all m) _ drops _ (rest_of all) (λ r m. refl))
body_law tags.Decide all m = field (count all m) _ drops _ (rest_of all) (λ k m. many all m (λ b. Decide k b))
body_law tags.Past all m = refl

abbrev framed : ℕ → Body → Frame
framed version b = record { version = version; body = b }

head_law : (all : ℕ) (m : List ℕ) → skip frame all m ≡ go_on (head all m) (rest_of all)
unfolding frame head
head_law all m =
    field (number w16 is_version all m) _ drops _ (rest_of all) (λ v m. field (byte tag_of BadTag all m) _ drops _ (rest_of all)
    (λ t m. assoc (body t all m) (λ b after. Ok (framed v b, after)) drops ∙ body_law t all m))

-- ---- what stands before a payload

abbrev behind : ℕ → ℕ → ℕ × (ℕ × ℕ) → List ℕ → Result (ℕ × List ℕ) FrameFault
behind all n h m = go_on (text h.0 all m) (λ bytes after. skip (items n (Some h.1)) all after)

abbrev others : ℕ → ℕ → Item → List ℕ → Result (ℕ × List ℕ) FrameFault
others all n x m = skip (items n (Some (id_of x))) all m

content_law : (s : Bool) (o n all c : ℕ) (m : List ℕ) → go_on ((cond s (switch o n) (message o n)) all m) (others all c) ≡ go_on (go_on ((cond s no_payload (number w16 is_length)) all m) (λ size after. Ok ((size, (o, n)), after))) (behind all c)
unfolding switch message no_payload text
content_law true o n all c m =
    assoc (kind all m) (λ k after. Ok (Switch o n k, after)) (others all c)
    ∙ sym (ap (λ r. go_on r (behind all c)) (assoc (kind all m) (λ k after. Ok (0, after)) (λ size after. Ok ((size, (o, n)), after))) ∙ assoc (kind all m) (λ k after. Ok ((0, (o, n)), after)) (behind all c))
content_law false o n all c m =
    assoc (number w16 is_length all m) (λ len after. go_on (text len all after) (λ payload rest. Ok (Msg o n payload, rest))) (others all c)
    ∙ alike (number w16 is_length all m) (λ len after. go_on (go_on (text len all after) (λ payload rest. Ok (Msg o n payload, rest))) (others all c)) (λ len after. behind all c (len, (o, n)) after)
    (λ len after. assoc (text len all after) (λ payload rest. Ok (Msg o n payload, rest)) (others all c))
    ∙ sym (assoc (number w16 is_length all m) (λ size after. Ok ((size, (o, n)), after)) (behind all c))

item_law : (c : ℕ) (before : Option (ℕ × ℕ)) (all : ℕ) (m : List ℕ) → skip (items (suc c) before) all m ≡ go_on (item_head before all m) (behind all c)
unfolding items item item_head
item_law c before all m =
    assoc (item before all m) (λ x after. go_on (items c (Some (id_of x)) all after) (λ xs rest. Ok (x ∷ xs, rest))) drops
    ∙ alike (item before all m) (λ x after. go_on (go_on (items c (Some (id_of x)) all after) (λ xs rest. Ok (x ∷ xs, rest))) drops) (others all c)
    (λ x after. assoc (items c (Some (id_of x)) all after) (λ xs rest. Ok (x ∷ xs, rest)) drops)
    ∙ field (byte flag_of BadTag all m) _ (others all c) _ (behind all c) (λ s m. field (member all m) _ (others all c) _ (behind all c) (λ o m.
    field (number w32 (comes_after before o) all m) _ (others all c) _ (behind all c) (λ n m. content_law s o n all c m)))

-- ---- they look only at what they take

ahead_head_of : (t : Tag) → Ahead (head_of t)
unfolding head_of
ahead_head_of tags.Ask = ahead_done _
ahead_head_of tags.Ord = ahead_bind count _ ahead_count (λ n. ahead_done _)
ahead_head_of tags.Req = ahead_bind count _ ahead_count (λ n. ahead_done _)
ahead_head_of tags.Ack = ahead_bind count _ ahead_count (λ n. ahead_done _)
ahead_head_of tags.Rb = ahead_done _
ahead_head_of tags.Est = ahead_bind count _ ahead_count (λ k. ahead_bind count _ ahead_count (λ r. ahead_bind (number w64 any) _ (ahead_number w64 any) (λ s. ahead_byte (only is_count) BadNumber (λ n. tt))))
ahead_head_of tags.Prop = ahead_bind count _ ahead_count (λ k. ahead_bind count _ ahead_count (λ r. ahead_byte (only is_count) BadNumber (λ n. tt)))
ahead_head_of tags.Reply = ahead_bind count _ ahead_count (λ k. ahead_bind count _ ahead_count (λ r. ahead_bind (byte flag_of BadTag) _ (ahead_byte flag_of BadTag (λ n. tt)) (λ y. ahead_done _)))
ahead_head_of tags.Next = ahead_bind count _ ahead_count (λ k. ahead_bind count _ ahead_count (λ r. ahead_done _))
ahead_head_of tags.Decide = ahead_bind count _ ahead_count (λ k. ahead_byte (only is_count) BadNumber (λ n. tt))
ahead_head_of tags.Past = ahead_done _

ahead_head : Ahead head
unfolding head
ahead_head = ahead_bind (number w16 is_version) _ (ahead_number w16 is_version) (λ v. ahead_bind (byte tag_of BadTag) _ (ahead_byte tag_of BadTag (λ n. tt)) (λ t. ahead_head_of t))

ahead_no_payload : Ahead no_payload
unfolding no_payload
ahead_no_payload = ahead_bind kind _ ahead_kind (λ k. ahead_done _)

ahead_item_head : (before : Option (ℕ × ℕ)) → Ahead (item_head before)
unfolding item_head
ahead_item_head before =
    ahead_bind (byte flag_of BadTag) _ (ahead_byte flag_of BadTag (λ n. tt)) (λ s. ahead_bind member _ ahead_member (λ o. ahead_bind (number w32 (comes_after before o)) _ (ahead_number w32 (comes_after before o))
    (λ n. ahead_bind (cond s no_payload (number w16 is_length)) _ (ahead_if s no_payload (number w16 is_length) ahead_no_payload (ahead_number w16 is_length)) (λ size. ahead_done _))))

-- ---- steps

pub begins : (all : ℕ) (left : List ℕ) (n : ℕ) (rest : List ℕ) → head all left ≡ Ok (n, rest) → Passes Start left (Within 0 n None) rest
unfolding text
begins all left n rest e =
    let t = ahead_head.ok all left n rest e in
    record { text = t.text; parts = t.parts; onward = λ all' more. head_law all' (t.text ++ more) ∙ ap (λ q. go_on q (rest_of all')) (t.anew all' more) }

pub begin_fails : (e : FrameFault) (all : ℕ) (left : List ℕ) → Fails e (head all left) → Fails e (to_come Start all left)
begin_fails e all left h = subst (Fails e) (sym (head_law all left)) (fails_on e (head all left) (rest_of all) h)

pub next_items : (all : ℕ) (left : List ℕ) (c : ℕ) (before : Option (ℕ × ℕ)) (h : ℕ × (ℕ × ℕ)) (rest : List ℕ) → item_head before all left ≡ Ok (h, rest) → Passes (Within 0 (suc c) before) left (Within h.0 c (Some h.1)) rest
unfolding text
next_items all left c before h rest e =
    let t = (ahead_item_head before).ok all left h rest e in
    record { text = t.text; parts = t.parts; onward = λ all' more. item_law c before all' (t.text ++ more) ∙ ap (λ q. go_on q (behind all' c)) (t.anew all' more) }

pub next_fails : (e : FrameFault) (all : ℕ) (left : List ℕ) (c : ℕ) (before : Option (ℕ × ℕ)) → Fails e (item_head before all left) → Fails e (to_come (Within 0 (suc c) before) all left)
unfolding text
next_fails e all left c before h = subst (Fails e) (sym (item_law c before all left)) (fails_on e (item_head before all left) (behind all c) h)

text_part : {A : Type 0} (bs : List ℕ) (n all : ℕ) (more : List ℕ) (k : List ℕ → Result (A × List ℕ) FrameFault) → ((i : ℕ) → i < length bs → is_printable (get_or bs i 0) ≡ true) → length bs ≤ n
    → go_on (text n all (bs ++ more)) (λ _ m. k m) ≡ go_on (text (n - length bs) all more) (λ _ m. k m)
unfolding text
text_part [] n all more k good le = let e : n ≡ n - 0 = omega arith in ap (λ (j : ℕ). go_on (text j all more) (λ _ m. k m)) e
text_part (b ∷ bs) zero all more k good le = absurd (omega arith)
text_part (b ∷ bs) (suc n) all more k good le =
    let e : n - length bs ≡ suc n - suc (length bs) = omega arith in
    ap (λ q. go_on (go_on q (λ c m. go_on (text n all m) (λ cs rest. Ok (c ∷ cs, rest)))) (λ _ m. k m)) (byte_good all b (bs ++ more) (good 0 (omega arith)))
    ∙ assoc (text n all (bs ++ more)) (λ cs rest. Ok (b ∷ cs, rest)) (λ _ m. k m)
    ∙ text_part bs n all more k (λ i lt. good (suc i) (omega arith)) (omega arith)
    ∙ ap (λ (j : ℕ). go_on (text j all more) (λ _ m. k m)) e

pub texts_pass : (size c : ℕ) (before : Option (ℕ × ℕ)) (left seen rest : List ℕ) → left ≡ seen ++ rest → ((i : ℕ) → i < length seen → is_printable (get_or seen i 0) ≡ true) → length seen ≤ size
    → Passes (Within size c before) left (Within (size - length seen) c before) rest
texts_pass size c before left seen rest parts good le = record { text = seen; parts = parts; onward = λ all more. text_part seen size all more (λ m. skip (items c before) all m) good le }

pub text_fails : (size c : ℕ) (before : Option (ℕ × ℕ)) (all i : ℕ) (left : List ℕ) → i < size → i < length left → ((k : ℕ) → k < i → is_printable (get_or left k 0) ≡ true) → is_printable (get_or left i 0) ≡ false
    → to_come (Within size c before) all left ≡ Err (BadText (place all (drop i left)))
text_fails size c before all i left lt within good bad = ap (λ q. go_on q (λ _ m. skip (items c before) all m)) (text_bad size all i left lt within good bad)

pub text_ends : (size c : ℕ) (before : Option (ℕ × ℕ)) (all : ℕ) → 0 < size → to_come (Within size c before) all [] ≡ Err Short
unfolding text byte
text_ends zero c before all lt = absurd (omega arith)
text_ends (suc size) c before all lt = refl

-- ---- places

pub record Stands (bytes : List ℕ) (at : ℕ) (stage : Stage) (left : List ℕ) : Type 0 where
  pub within : at ≤ length bytes
  pub leaves : Leaves (take at bytes) stage
  pub left_is : left ≡ drop at bytes

pub stands_on : (bytes : List ℕ) (at : ℕ) (stage new : Stage) (left rest : List ℕ) → Stands bytes at stage left → Passes stage left new rest → Stands bytes (length bytes - length rest) new rest
stands_on bytes at stage new left rest s p =
    let whole : bytes ≡ (take at bytes ++ p.text) ++ rest = sym (take-append-drop at bytes) ∙ ap (λ (l : List ℕ). take at bytes ++ l) (sym s.left_is ∙ p.parts) ∙ sym (append_assoc (take at bytes) p.text rest) in
    let n : length (take at bytes ++ p.text) ≡ length bytes - length rest = omega (arith, ap length whole, length-append (take at bytes ++ p.text) rest) in
    let front_is : take (length bytes - length rest) bytes ≡ take at bytes ++ p.text = ap (take (length bytes - length rest)) whole ∙ take_at (take at bytes ++ p.text) rest (length bytes - length rest) n in
    record {
      within = omega arith;
      leaves = λ all more. ap (λ (l : List ℕ). skip frame all (l ++ more)) front_is ∙ ap (skip frame all) (append_assoc (take at bytes) p.text more) ∙ s.leaves all (p.text ++ more) ∙ p.onward all more;
      left_is = sym (ap (drop (length bytes - length rest)) whole ∙ drop_at (take at bytes ++ p.text) rest (length bytes - length rest) n);
    }

skip_fails : (e : FrameFault) (r : Result (Frame × List ℕ) FrameFault) → Fails e (go_on r drops) → Fails e r
skip_fails NoMemory r h = tt
skip_fails Short (Err d) h = cc
skip_fails (LongTail n) (Err d) h = cc
skip_fails (BadTag n) (Err d) h = cc
skip_fails (BadNumber n) (Err d) h = cc
skip_fails (BadText n) (Err d) h = cc
skip_fails Short (Ok x) h = absurd cc
skip_fails (LongTail n) (Ok x) h = absurd cc
skip_fails (BadTag n) (Ok x) h = absurd cc
skip_fails (BadNumber n) (Ok x) h = absurd cc
skip_fails (BadText n) (Ok x) h = absurd cc

-- what is to come there is the frame without its value
stands_here : (bytes : List ℕ) (at : ℕ) (stage : Stage) (left : List ℕ) → Stands bytes at stage left → to_come stage (length bytes) left ≡ skip frame (length bytes) bytes
stands_here bytes at stage left s = ap (to_come stage (length bytes)) s.left_is ∙ sym (s.leaves (length bytes) (drop at bytes)) ∙ ap (skip frame (length bytes)) (take-append-drop at bytes)

pub stands_fails : (e : FrameFault) (bytes : List ℕ) (at : ℕ) (stage : Stage) (left : List ℕ) → Stands bytes at stage left → Fails e (to_come stage (length bytes) left) → Fails e (front bytes)
stands_fails e bytes at stage left s h = skip_fails e (front bytes) (subst (Fails e) (stands_here bytes at stage left s) h)

abbrev left_by : Result (ℕ × List ℕ) FrameFault → List ℕ
left_by (Ok x) = x.1
left_by (Err d) = []

skip_reads : (r : Result (Frame × List ℕ) FrameFault) (rest : List ℕ) → go_on r drops ≡ Ok (0, rest) → (f : Frame) × (r ≡ Ok (f, rest))
skip_reads (Ok x) rest h = (x.0, ap (λ (r : Result (ℕ × List ℕ) FrameFault). Ok (x.0, left_by r)) h)
skip_reads (Err d) rest h = absurd cc

pub stands_whole : (bytes : List ℕ) (at : ℕ) (stage : Stage) (left : List ℕ) → Stands bytes at stage left → to_come stage (length bytes) left ≡ Ok (0, left) → EndsAt bytes at
stands_whole bytes at stage left s h =
    let read : (f : Frame) × (front bytes ≡ Ok (f, left)) = skip_reads (front bytes) left (sym (stands_here bytes at stage left s) ∙ h) in
    (read.0, read.1 ∙ ap (λ (l : List ℕ). Ok (read.0, l)) s.left_is)

-- where no byte of a payload and no item is to come, nothing is
pub none_to_come : (size c : ℕ) (before : Option (ℕ × ℕ)) (all : ℕ) (left : List ℕ) → size ≡ 0 → c ≡ 0 → to_come (Within size c before) all left ≡ Ok (0, left)
unfolding text items
none_to_come size c before all left no_byte no_item = rw (no_byte, no_item) refl
