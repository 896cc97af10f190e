-- A reader looks only at what it takes, and what it refuses stays refused, whatever follows.
use Rattle.std.proofs.Common.{◌≡◌, ◌≢◌, ℕ, zero, suc, ◌+◌, ◌-◌, ◌<◌, ◌≤◌, Bool, true, false, cond, ltb, eqb, List, [], ◌∷◌, ◌++◌, length, take, drop, Option, Some, None, Result, Ok, Err, refl, sym, ap, subst, ◌∙◌, append_assoc, arith, inl, inr}
use Rattle.std.specs.Int.{Width, byte_len, from_be_bytes, w16, w32, w64}
use Rattle.std.proofs.lemmas.Bool.{cases_lt, lt-ltb, le-ltb}
use Rattle.std.proofs.lemmas.List.{append-nil, length-append, length-take, take_at, drop_at, take-append-drop, take-append-le, drop-append-le}
use Rattle.upd_base.specs.Text.{is_printable}
use Rattle.upd_base.specs.Item.{id_of}
use Rattle.upd_base.specs.declared.kind.Kind.{Kind}
use Rattle.upd_base.specs.declared.item.Item.{Item}
use Rattle.upd_base.specs.declared.body.Body.{Body}
use Rattle.upd_base.specs.declared.frame.Frame.{Frame}
use Rattle.upd_frame.specs.declared.fault.FrameFault.{FrameFault}
use Rattle.upd_frame.specs.declared.fault.FrameFault.TheVariants.{Short, LongTail, BadTag, BadNumber, BadText, NoMemory}
use Rattle.upd_frame.specs.declared.tag.Tag.{Tag}
use Rattle.upd_frame.specs.declared.tag.Tag.TheVariants as tags
use Rattle.upd_frame.specs.Spelling.{spelling, IsFrame}
use Rattle.upd_frame.specs.Reader.{Fails, Reader, place, done, go_on, ◌>>=◌, only, told, byte, number, text}
use Rattle.upd_frame.specs.Reading.{member, kind_of, kind, message, switch, item, items, batch, count, body, frame, front, ended, reading, tag_of, flag_of, is_member, is_count, is_version, is_length, from_one, any, comes_after}
use Rattle.upd_frame.specs.Laws.{IsOfField, IsOfFront}
use Rattle.upd_frame.proofs.Fields.{go_on_ok, ok_is, told_ok}
use Rattle.upd_frame.proofs.Bodies.{frames}

-- what was taken is read so wherever it begins
pub record Taken {A : Type 0} (r : Reader A) (left : List ℕ) (x : A) (rest : List ℕ) : Type 0 where
  pub text : List ℕ
  pub parts : left ≡ text ++ rest
  pub anew : (all : ℕ) (more : List ℕ) → r all (text ++ more) ≡ Ok (x, more)

pub record Ahead {A : Type 0} (r : Reader A) : Type 0 where
  pub ok : (all : ℕ) (left : List ℕ) (x : A) (rest : List ℕ) → r all left ≡ Ok (x, rest) → Taken r left x rest
  pub err : (all : ℕ) (left : List ℕ) (f : FrameFault) (more : List ℕ) → r all left ≡ Err f → f ≢ Short → r (all + length more) (left ++ more) ≡ Err f
  pub sort : (all : ℕ) (left : List ℕ) (f : FrameFault) → r all left ≡ Err f → IsOfFront f

pub ahead_done : {A : Type 0} (x : A) → Ahead (done x)
ahead_done x = record {
  ok = λ all left y rest e. let p = ok_is (x, left) (y, rest) e in subst (λ (q : _ × List ℕ). Taken (done x) left q.0 q.1) p (record { text = []; parts = refl; anew = λ a more. refl });
  err = λ all left f more e not. absurd cc;
  sort = λ all left f e. absurd cc;
}

abbrev refusal : {B : Type 0} → FrameFault → Result (B × List ℕ) FrameFault
refusal d = Err d

err_is : {B : Type 0} (d g : FrameFault) → refusal {B = B} d ≡ refusal {B = B} g → d ≡ g
err_is d g h = cc

bind_err : {A B : Type 0} (r : Reader A) (k : A → Reader B) → Ahead r → ((x : A) → Ahead (k x)) → (all : ℕ) (left : List ℕ) (f : FrameFault) (more : List ℕ) → (r >>= k) all left ≡ Err f → f ≢ Short → (r >>= k) (all + length more) (left ++ more) ≡ Err f
bind_err {A} {B} r k first next all left f more e not = split (r all left) refl
  where
    split : (q : Result (A × List ℕ) FrameFault) → r all left ≡ q → (r >>= k) (all + length more) (left ++ more) ≡ Err f
    split (Ok x) is =
        let t = first.ok all left x.0 x.1 is in
        let later : k x.0 all x.1 ≡ Err f = sym (ap (λ (q : Result (A × List ℕ) FrameFault). go_on q (λ y rest. k y all rest)) is) ∙ e in
        let same : left ++ more ≡ t.text ++ (x.1 ++ more) = ap (λ (l : List ℕ). l ++ more) t.parts ∙ append_assoc t.text x.1 more in
        let here : r (all + length more) (left ++ more) ≡ Ok (x.0, x.1 ++ more) = ap (r (all + length more)) same ∙ t.anew (all + length more) (x.1 ++ more) in
        ap (λ (q : Result (A × List ℕ) FrameFault). go_on q (λ y rest. k y (all + length more) rest)) here ∙ (next x.0).err all x.1 f more later not
    split (Err d) is =
        let same : d ≡ f = err_is {B = B} d f (sym (ap (λ (q : Result (A × List ℕ) FrameFault). go_on q (λ y rest. k y all rest)) is) ∙ e) in
        let here : r (all + length more) (left ++ more) ≡ Err d = first.err all left d more is (λ short. not (sym same ∙ short)) in
        ap (λ (q : Result (A × List ℕ) FrameFault). go_on q (λ y rest. k y (all + length more) rest)) here ∙ ap (λ (g : FrameFault). Err g) same

bind_sort : {A B : Type 0} (r : Reader A) (k : A → Reader B) → Ahead r → ((x : A) → Ahead (k x)) → (all : ℕ) (left : List ℕ) (f : FrameFault) → (r >>= k) all left ≡ Err f → IsOfFront f
bind_sort {A} {B} r k first next all left f e = split (r all left) refl
  where
    split : (q : Result (A × List ℕ) FrameFault) → r all left ≡ q → IsOfFront f
    split (Ok x) is = (next x.0).sort all x.1 f (sym (ap (λ (q : Result (A × List ℕ) FrameFault). go_on q (λ y rest. k y all rest)) is) ∙ e)
    split (Err d) is =
        let same : d ≡ f = err_is {B = B} d f (sym (ap (λ (q : Result (A × List ℕ) FrameFault). go_on q (λ y rest. k y all rest)) is) ∙ e) in
        subst IsOfFront same (first.sort all left d is)

pub ahead_bind : {A B : Type 0} (r : Reader A) (k : A → Reader B) → Ahead r → ((x : A) → Ahead (k x)) → Ahead (r >>= k)
ahead_bind {A} {B} r k first next = record {
  ok = λ all left y rest e.
      let a = go_on_ok (r all left) (λ x after. k x all after) (y, rest) e in
      let t = first.ok all left a.0 a.1 a.2 in
      let u = (next a.0).ok all a.1 y rest a.3 in
      record {
        text = t.text ++ u.text;
        parts = t.parts ∙ ap (λ (l : List ℕ). t.text ++ l) u.parts ∙ sym (append_assoc t.text u.text rest);
        anew = λ all' more.
            let here : r all' ((t.text ++ u.text) ++ more) ≡ Ok (a.0, u.text ++ more) = ap (r all') (append_assoc t.text u.text more) ∙ t.anew all' (u.text ++ more) in
            ap (λ (q : Result (A × List ℕ) FrameFault). go_on q (λ x after. k x all' after)) here ∙ u.anew all' more;
      };
  err = bind_err r k first next;
  sort = bind_sort r k first next;
}

pub ahead_if : {A : Type 0} (b : Bool) (r s : Reader A) → Ahead r → Ahead s → Ahead (cond b r s)
ahead_if true r s first second = first
ahead_if false r s first second = second

-- ---- fields

same_place : (all : ℕ) (left more : List ℕ) → place (all + length more) (left ++ more) ≡ place all left
same_place all left more = omega (arith, length-append left more)

told_err : {A : Type 0} (o : Option A) (g f : FrameFault) (rest after : List ℕ) (g' : FrameFault) → g' ≡ g → told o g rest ≡ Err f → told o g' after ≡ Err f
told_err {A} (Some x) g f rest after g' same e = absurd cc
told_err {A} None g f rest after g' same e = ap (λ (h : FrameFault). refusal {B = A} h) same ∙ e

byte_ok : {A : Type 0} (meaning : ℕ → Option A) (fault : ℕ → FrameFault) (all : ℕ) (left : List ℕ) (x : A) (rest : List ℕ) → byte meaning fault all left ≡ Ok (x, rest) → Taken (byte meaning fault) left x rest
unfolding byte
byte_ok meaning fault all [] x rest e = absurd cc
byte_ok meaning fault all (b ∷ left) x rest e =
    let t = told_ok (meaning b) (fault (place all (b ∷ left))) left x rest e in
    record { text = b ∷ []; parts = ap (λ (l : List ℕ). b ∷ l) t.1; anew = λ all' more. ap (λ (o : Option _). told o (fault (place all' (b ∷ more))) more) t.0 }

byte_err : {A : Type 0} (meaning : ℕ → Option A) (fault : ℕ → FrameFault) (all : ℕ) (left : List ℕ) (f : FrameFault) (more : List ℕ) → byte meaning fault all left ≡ Err f → f ≢ Short → byte meaning fault (all + length more) (left ++ more) ≡ Err f
unfolding byte
byte_err meaning fault all [] f more e not = absurd (not cc)
byte_err meaning fault all (b ∷ left) f more e not =
    told_err (meaning b) (fault (place all (b ∷ left))) f left (left ++ more) (fault (place (all + length more) (b ∷ (left ++ more)))) (ap fault (same_place all (b ∷ left) more)) e

told_sort : {A : Type 0} (o : Option A) (g f : FrameFault) (rest : List ℕ) → IsOfFront g → told o g rest ≡ Err f → IsOfFront f
told_sort {A} (Some x) g f rest sort e = absurd cc
told_sort {A} None g f rest sort e = subst IsOfFront (err_is {B = A} g f e) sort

byte_sort : {A : Type 0} (meaning : ℕ → Option A) (fault : ℕ → FrameFault) → ((n : ℕ) → IsOfFront (fault n)) → (all : ℕ) (left : List ℕ) (f : FrameFault) → byte meaning fault all left ≡ Err f → IsOfFront f
unfolding byte
byte_sort {A} meaning fault sort all [] f e = subst IsOfFront (err_is {B = A} Short f e) tt
byte_sort meaning fault sort all (b ∷ left) f e = told_sort (meaning b) (fault (place all (b ∷ left))) f left (sort (place all (b ∷ left))) e

pub ahead_byte : {A : Type 0} (meaning : ℕ → Option A) (fault : ℕ → FrameFault) → ((n : ℕ) → IsOfFront (fault n)) → Ahead (byte meaning fault)
ahead_byte meaning fault sort = record { ok = byte_ok meaning fault; err = byte_err meaning fault; sort = byte_sort meaning fault sort }

number_ok : (w : Width) (wanted : ℕ → Bool) (all : ℕ) (left : List ℕ) (n : ℕ) (rest : List ℕ) → number w wanted all left ≡ Ok (n, rest) → Taken (number w wanted) left n rest
unfolding number
number_ok w wanted all left n rest e =
    elim (cases_lt (length left) (byte_len w)) [
      | inl lt ↦ absurd (short lt)
      | inr le ↦
          let t = told_ok (only wanted (from_be_bytes w (take (byte_len w) left))) (BadNumber (place all left)) (drop (byte_len w) left) n rest (long le) in
          let len : length (take (byte_len w) left) ≡ byte_len w = omega (arith, length-take (byte_len w) left) in
          record {
            text = take (byte_len w) left;
            parts = sym (take-append-drop (byte_len w) left) ∙ ap (λ (l : List ℕ). take (byte_len w) left ++ l) t.1;
            anew = λ all' more.
                let enough : ltb (length (take (byte_len w) left ++ more)) (byte_len w) ≡ false = le-ltb _ _ (omega (arith, length-append (take (byte_len w) left) more)) in
                rw (enough, take_at (take (byte_len w) left) more (byte_len w) len, drop_at (take (byte_len w) left) more (byte_len w) len, t.0) refl;
          }
    ]
  where
    long : byte_len w ≤ length left → told (only wanted (from_be_bytes w (take (byte_len w) left))) (BadNumber (place all left)) (drop (byte_len w) left) ≡ Ok (n, rest)
    long le = rw (le-ltb (length left) (byte_len w) le) at e

    short : length left < byte_len w → ⊥
    short lt = let f = rw (lt-ltb (length left) (byte_len w) lt) at e in absurd cc

number_err : (w : Width) (wanted : ℕ → Bool) (all : ℕ) (left : List ℕ) (f : FrameFault) (more : List ℕ) → number w wanted all left ≡ Err f → f ≢ Short → number w wanted (all + length more) (left ++ more) ≡ Err f
unfolding number
number_err w wanted all left f more e not =
    elim (cases_lt (length left) (byte_len w)) [
      | inl lt ↦ absurd (not (short lt))
      | inr le ↦
          let enough : ltb (length (left ++ more)) (byte_len w) ≡ false = le-ltb _ _ (omega (arith, length-append left more)) in
          rw (enough, take-append-le (byte_len w) left more le)
          (told_err (only wanted (from_be_bytes w (take (byte_len w) left))) (BadNumber (place all left)) f (drop (byte_len w) left) (drop (byte_len w) (left ++ more)) (BadNumber (place (all + length more) (left ++ more)))
          (ap (λ (p : ℕ). BadNumber p) (same_place all left more)) (long le))
    ]
  where
    long : byte_len w ≤ length left → told (only wanted (from_be_bytes w (take (byte_len w) left))) (BadNumber (place all left)) (drop (byte_len w) left) ≡ Err f
    long le = rw (le-ltb (length left) (byte_len w) le) at e

    short : length left < byte_len w → f ≡ Short
    short lt = let h = rw (lt-ltb (length left) (byte_len w) lt) at e in cc

number_sort : (w : Width) (wanted : ℕ → Bool) (all : ℕ) (left : List ℕ) (f : FrameFault) → number w wanted all left ≡ Err f → IsOfFront f
unfolding number
number_sort w wanted all left f e =
    elim (cases_lt (length left) (byte_len w)) [
      | inl lt ↦ subst IsOfFront (err_is {B = ℕ} Short f (short lt)) tt
      | inr le ↦ told_sort (only wanted (from_be_bytes w (take (byte_len w) left))) (BadNumber (place all left)) f (drop (byte_len w) left) tt (long le)
    ]
  where
    long : byte_len w ≤ length left → told (only wanted (from_be_bytes w (take (byte_len w) left))) (BadNumber (place all left)) (drop (byte_len w) left) ≡ Err f
    long le = rw (le-ltb (length left) (byte_len w) le) at e

    short : length left < byte_len w → refusal {B = ℕ} Short ≡ refusal {B = ℕ} f
    short lt = rw (lt-ltb (length left) (byte_len w) lt) at e

pub ahead_number : (w : Width) (wanted : ℕ → Bool) → Ahead (number w wanted)
ahead_number w wanted = record { ok = number_ok w wanted; err = number_err w wanted; sort = number_sort w wanted }

pub ahead_text : (n : ℕ) → Ahead (text n)
unfolding text
ahead_text zero = ahead_done []
ahead_text (suc n) = ahead_bind (byte (only is_printable) BadText) (λ b. text n >>= λ bs. done (b ∷ bs)) (ahead_byte (only is_printable) BadText (λ n. tt)) (λ b. ahead_bind (text n) (λ bs. done (b ∷ bs)) (ahead_text n) (λ bs. ahead_done (b ∷ bs)))

-- ---- items

pub ahead_member : Ahead member
unfolding member
ahead_member = ahead_byte (only is_member) BadNumber (λ n. tt)

ahead_form : (form : ℕ) → Ahead (kind_of form)
unfolding kind_of
ahead_form zero = ahead_bind member _ ahead_member (λ m. ahead_done _)
ahead_form (suc zero) = ahead_done _
ahead_form (suc (suc form)) = ahead_done _

pub ahead_kind : Ahead kind
unfolding kind
ahead_kind = ahead_bind (byte (only (λ b. ltb b 3)) BadTag) kind_of (ahead_byte (only (λ b. ltb b 3)) BadTag (λ n. tt)) ahead_form

pub ahead_message : (origin n : ℕ) → Ahead (message origin n)
unfolding message
ahead_message origin n = ahead_bind (number w16 is_length) _ (ahead_number w16 is_length) (λ len. ahead_bind (text len) _ (ahead_text len) (λ bs. ahead_done _))

pub ahead_switch : (origin n : ℕ) → Ahead (switch origin n)
unfolding switch
ahead_switch origin n = ahead_bind kind _ ahead_kind (λ k. ahead_done _)

pub ahead_item : (before : Option (ℕ × ℕ)) → Ahead (item before)
unfolding item
ahead_item before =
    ahead_bind (byte flag_of BadTag) _ (ahead_byte flag_of BadTag (λ n. tt)) (λ s. ahead_bind member _ ahead_member (λ o.
    ahead_bind (number w32 (comes_after before o)) _ (ahead_number w32 (comes_after before o)) (λ n. ahead_if s (switch o n) (message o n) (ahead_switch o n) (ahead_message o n))))

pub ahead_items : (count : ℕ) (before : Option (ℕ × ℕ)) → Ahead (items count before)
unfolding items
ahead_items zero before = ahead_done []
ahead_items (suc count) before = ahead_bind (item before) _ (ahead_item before) (λ x. ahead_bind (items count (Some (id_of x))) _ (ahead_items count (Some (id_of x))) (λ xs. ahead_done _))

pub ahead_batch : Ahead batch
unfolding batch
ahead_batch = ahead_bind (byte (only is_count) BadNumber) _ (ahead_byte (only is_count) BadNumber (λ n. tt)) (λ n. ahead_items n None)

pub ahead_count : Ahead count
unfolding count
ahead_count = ahead_number w64 from_one

ahead_body : (t : Tag) → Ahead (body t)
unfolding body
ahead_body tags.Ask = ahead_bind (item None) _ (ahead_item None) (λ x. ahead_done _)
ahead_body tags.Ord = ahead_bind count _ ahead_count (λ n. ahead_bind (item None) _ (ahead_item None) (λ x. ahead_done _))
ahead_body tags.Req = ahead_bind count _ ahead_count (λ n. ahead_bind (item None) _ (ahead_item None) (λ x. ahead_done _))
ahead_body tags.Ack = ahead_bind count _ ahead_count (λ n. ahead_done _)
ahead_body tags.Rb = ahead_bind (item None) _ (ahead_item None) (λ x. ahead_done _)
ahead_body tags.Est = ahead_bind count _ ahead_count (λ k. ahead_bind count _ ahead_count (λ r. ahead_bind (number w64 any) _ (ahead_number w64 any) (λ s. ahead_bind batch _ ahead_batch (λ b. ahead_done _))))
ahead_body tags.Prop = ahead_bind count _ ahead_count (λ k. ahead_bind count _ ahead_count (λ r. ahead_bind batch _ ahead_batch (λ b. ahead_done _)))
ahead_body tags.Reply = ahead_bind count _ ahead_count (λ k. ahead_bind count _ ahead_count (λ r. ahead_bind (byte flag_of BadTag) _ (ahead_byte flag_of BadTag (λ n. tt)) (λ y. ahead_done _)))
ahead_body tags.Next = ahead_bind count _ ahead_count (λ k. ahead_bind count _ ahead_count (λ r. ahead_done _))
ahead_body tags.Decide = ahead_bind count _ ahead_count (λ k. ahead_bind batch _ ahead_batch (λ b. ahead_done _))
ahead_body tags.Past = ahead_done _

pub ahead_frame : Ahead frame
unfolding frame
ahead_frame = ahead_bind (number w16 is_version) _ (ahead_number w16 is_version) (λ v. ahead_bind (byte tag_of BadTag) _ (ahead_byte tag_of BadTag (λ n. tt)) (λ t. ahead_bind (body t) _ (ahead_body t) (λ b. ahead_done _)))

-- ---- frames at the front of bytes

nil_right : (xs ys : List ℕ) → xs ++ ys ≡ [] → ys ≡ []
nil_right [] ys e = e
nil_right (x ∷ xs) ys e = absurd cc

abbrev gave : Frame → List ℕ → Result (Frame × List ℕ) FrameFault
gave f rest = Ok (f, rest)

abbrev refused : FrameFault → Result (Frame × List ℕ) FrameFault
refused d = Err d

abbrev read_as : Frame → Result Frame FrameFault
read_as f = Ok f

abbrev failed : FrameFault → Result Frame FrameFault
failed d = Err d

failed_is : (d g : FrameFault) → failed d ≡ failed g → d ≡ g
failed_is d g h = cc

pub front_short : (bytes more : List ℕ) (f : Frame) → IsFrame f → bytes ++ more ≡ spelling f → more ≢ [] → front bytes ≡ Err Short
front_short bytes more f within is some = split (front bytes) refl
  where
    whole : frame (length bytes + length more) (bytes ++ more) ≡ gave f []
    whole = ap (frame (length bytes + length more)) (is ∙ sym (append-nil (spelling f))) ∙ frames.again (length bytes + length more) f [] within

    no_fault : (d : FrameFault) → front bytes ≡ refused d → d ≢ Short → ⊥
    no_fault d e not = let h : gave f [] ≡ refused d = sym whole ∙ ahead_frame.err (length bytes) bytes d more e not in absurd cc

    split : (q : Result (Frame × List ℕ) FrameFault) → front bytes ≡ q → front bytes ≡ Err Short
    split (Ok x) e =
        let t = ahead_frame.ok (length bytes) bytes x.0 x.1 e in
        let same : bytes ++ more ≡ t.text ++ (x.1 ++ more) = ap (λ (l : List ℕ). l ++ more) t.parts ∙ append_assoc t.text x.1 more in
        let here : gave x.0 (x.1 ++ more) ≡ gave f [] = sym (ap (frame (length bytes + length more)) same ∙ t.anew (length bytes + length more) (x.1 ++ more)) ∙ whole in
        absurd (some (nil_right x.1 more (ap (λ (p : Frame × List ℕ). p.1) (ok_is (x.0, x.1 ++ more) (f, []) here))))
    split (Err Short) e = e
    split (Err (LongTail n)) e = absurd (no_fault (LongTail n) e (λ h. cc))
    split (Err (BadTag n)) e = absurd (no_fault (BadTag n) e (λ h. cc))
    split (Err (BadNumber n)) e = absurd (no_fault (BadNumber n) e (λ h. cc))
    split (Err (BadText n)) e = absurd (no_fault (BadText n) e (λ h. cc))
    split (Err NoMemory) e = absurd (no_fault NoMemory e (λ h. cc))

pub is_short : (bytes more : List ℕ) (f : Frame) → IsFrame f → bytes ++ more ≡ spelling f → more ≢ [] → reading bytes ≡ Err Short
unfolding reading
is_short bytes more f within is some = rw (front_short bytes more f within is some) refl

pub is_read : (f : Frame) (more : List ℕ) → IsFrame f → front (spelling f ++ more) ≡ Ok (f, more)
is_read f more within = frames.again (length (spelling f ++ more)) f more within

pub none_begins : (f g : Frame) (more rest : List ℕ) → IsFrame f → IsFrame g → spelling f ++ more ≡ spelling g ++ rest → (f ≡ g) × (more ≡ rest)
none_begins f g more rest in_f in_g same =
    let here : gave f more ≡ gave g rest = sym (is_read f more in_f) ∙ ap front same ∙ is_read g rest in_g in
    let p = ok_is (f, more) (g, rest) here in
    (ap (λ (q : Frame × List ℕ). q.0) p, ap (λ (q : Frame × List ℕ). q.1) p)

of_front : (all : ℕ) (r : Result (Frame × List ℕ) FrameFault) (d : FrameFault) → IsOfField d → ended all r ≡ Err d → r ≡ Err d
of_front all (Ok x) d field e = absurd (no_tail (eqb (length x.1) 0) refl)
  where
    told_tail : (place : ℕ) (g : FrameFault) → IsOfField g → failed (LongTail place) ≡ failed g → ⊥
    told_tail place Short h e = h
    told_tail place (LongTail n) h e = h
    told_tail place (BadTag n) h e = cc
    told_tail place (BadNumber n) h e = cc
    told_tail place (BadText n) h e = cc
    told_tail place NoMemory h e = h

    no_tail : (b : Bool) → eqb (length x.1) 0 ≡ b → ⊥
    no_tail true t = let now : read_as x.0 ≡ failed d = sym (ap (λ (c : Bool). cond c (read_as x.0) (failed (LongTail (place all x.1)))) t) ∙ e in absurd cc
    no_tail false t = told_tail (place all x.1) d field (sym (ap (λ (c : Bool). cond c (read_as x.0) (failed (LongTail (place all x.1)))) t) ∙ e)
of_front all (Err g) d field e = ap refused (failed_is g d e)

not_short : (d : FrameFault) → IsOfField d → d ≢ Short
not_short Short h e = h
not_short (LongTail n) h e = h
not_short (BadTag n) h e = cc
not_short (BadNumber n) h e = cc
not_short (BadText n) h e = cc
not_short NoMemory h e = h

pub faults_stay : (bytes more : List ℕ) (d : FrameFault) → IsOfField d → reading bytes ≡ Err d → reading (bytes ++ more) ≡ Err d
unfolding reading
faults_stay bytes more d field e =
    let at_front : front bytes ≡ refused d = of_front (length bytes) (front bytes) d field e in
    let later : frame (length (bytes ++ more)) (bytes ++ more) ≡ refused d = ap (λ (n : ℕ). frame n (bytes ++ more)) (length-append bytes more) ∙ ahead_frame.err (length bytes) bytes d more at_front (not_short d field) in
    rw later refl

-- what a call answers at the front of bytes
pub front_fails : (d : FrameFault) (bytes : List ℕ) → Fails d (front bytes) → IsOfFront d
front_fails NoMemory bytes h = tt
front_fails Short bytes h = tt
front_fails (LongTail n) bytes h = ahead_frame.sort (length bytes) bytes (LongTail n) h
front_fails (BadTag n) bytes h = tt
front_fails (BadNumber n) bytes h = tt
front_fails (BadText n) bytes h = tt

pub front_stays : (bytes more : List ℕ) (d : FrameFault) → IsOfField d → front bytes ≡ Err d → front (bytes ++ more) ≡ Err d
front_stays bytes more d field e = ap (λ (n : ℕ). frame n (bytes ++ more)) (length-append bytes more) ∙ ahead_frame.err (length bytes) bytes d more e (not_short d field)
