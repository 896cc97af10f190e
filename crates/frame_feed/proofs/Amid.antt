-- Text of a payload that goes on behind what has come.
use Rattle.std.proofs.Common.{◌≡◌, ℕ, zero, suc, ◌+◌, ◌-◌, ◌<◌, ◌≤◌, Bool, true, false, List, [], ◌++◌, length, get_or, take, drop, Option, Some, None, Err, refl, sym, ap, subst, ◌∙◌, arith}
use Rattle.std.specs.List.{list_all}
use Rattle.std.specs.Option.{SomeIff, unwrap_or}
use Rattle.std.proofs.lemmas.List.{append-nil, drop-drop, length-drop}
use Rattle.std.proofs.lemmas.List.Folds.{list_all_at}
use Rattle.upd_base.specs.Text.{is_printable}
use Rattle.upd_frame.specs.declared.fault.FrameFault.TheVariants.{Short}
use Rattle.upd_frame.specs.declared.progress.Stage.{Stage}
use Rattle.upd_frame.specs.declared.progress.Stage.TheVariants.{Start, Within}
use Rattle.upd_frame.specs.Reading.{front, frame}
use Rattle.upd_frame.specs.Progress.{skip}
use Rattle.upd_frame.proofs.Onward.{Stands, stands_on, stands_fails, texts_pass, text_ends}
use Rattle.frame_feed.specs.Fed.{IsFed, with_text}

each_printable : (xs : List ℕ) → list_all is_printable xs ≡ true → (i : ℕ) → i < length xs → is_printable (get_or xs i 0) ≡ true
each_printable xs all i lt = split (is_printable (get_or xs i 0)) refl
  where
    split : (b : Bool) → is_printable (get_or xs i 0) ≡ b → b ≡ true
    split true is = refl
    split false is = let same : true ≡ false = sym all ∙ list_all_at is_printable xs i 0 lt is in absurd cc

-- what is unread is read, and is cut short
pub amid : (bytes unread : List ℕ) (taken at size count : ℕ) (before : Option (ℕ × ℕ)) → IsFed bytes taken at (Within size count before) → unread ≡ drop at bytes
    → list_all is_printable unread ≡ true → length unread < size → IsFed bytes taken (at + length unread) (Within (size - length unread) count before) × (front (drop taken bytes) ≡ Err Short)
amid bytes unread taken at size count before fed is all lt =
    let left = drop taken bytes in
    let new : Stage = Within (size - length unread) count before in
    let there : taken + (at - taken) ≡ at = omega (arith, fed.behind) in
    let here : unread ≡ drop (at - taken) left = is ∙ ap (λ (n : ℕ). drop n bytes) (sym there) ∙ sym (drop-drop (at - taken) taken bytes) in
    let long = length-drop taken bytes in
    let passes = texts_pass size count before (drop (at - taken) left) unread [] (sym here ∙ sym (append-nil unread)) (each_printable unread all) (omega arith) in
    let stands = stands_on left (at - taken) (Within size count before) new (drop (at - taken) left) [] (record { within = omega (arith, fed.within, long); leaves = fed.leaves; left_is = refl }) passes in
    let place : length left - 0 ≡ at + length unread - taken = omega (arith, ap length is, length-drop at bytes, long, fed.behind, fed.within) in
    let on = subst (λ (n : ℕ). Stands left n new []) place stands in (
      record { behind = omega (arith, fed.behind); within = omega (arith, ap length is, length-drop at bytes, fed.within); leaves = on.leaves },
      stands_fails Short left (at + length unread - taken) new [] on (text_ends (size - length unread) count before (length left) (omega arith)),
    )

-- ---- text up to a place

abbrev count_of : Stage → ℕ
count_of Start = 0
count_of (Within size count before) = count

abbrev before_of : Stage → Option (ℕ × ℕ)
before_of Start = None
before_of (Within size count before) = before

pub waits : (n : ℕ) (stage : Stage) → 0 < n → with_text n stage ≡ Within n (count_of stage) (before_of stage)
unfolding with_text
waits zero stage lt = absurd (omega arith)
waits (suc n) Start lt = refl
waits (suc n) (Within size count before) lt = refl

pub its_text : (size count : ℕ) (before : Option (ℕ × ℕ)) → with_text size (Within size count before) ≡ Within size count before
unfolding with_text
its_text zero count before = refl
its_text (suc size) count before = refl

pub no_text : (stage : Stage) → with_text 0 stage ≡ stage
unfolding with_text
no_text stage = refl

-- a text that ends where its size says, or has no place to end
pub ends_there : (at size count : ℕ) (before : Option (ℕ × ℕ)) (end : Option ℕ) (P : Type 0) → SomeIff end P (at + size) → with_text (unwrap_or end at - at) (Within size count before) ≡ Within size count before
ends_there at size count before None P iff =
    let none : at - at ≡ 0 = omega arith in
    rw none (no_text (Within size count before))
ends_there at size count before (Some end) P iff =
    let left : end - at ≡ size = omega (arith, iff.1) in
    rw left (its_text size count before)

-- before a frame
pub starts : (bytes : List ℕ) (taken : ℕ) → taken ≤ length bytes → IsFed bytes taken taken (with_text (taken - taken) Start)
starts bytes taken le =
    let none : taken - taken ≡ 0 = omega arith in
    let fed : IsFed bytes taken taken Start = record {
      behind = omega arith;
      within = le;
      leaves = λ all more. ap (λ (n : ℕ). skip frame all (take n (drop taken bytes) ++ more)) none;
    } in
    rw (none, no_text Start) fed

-- what is unread is read, and is cut short
pub amid_text : (bytes unread : List ℕ) (taken at end : ℕ) (stage : Stage) → IsFed bytes taken at (with_text (end - at) stage) → unread ≡ drop at bytes
    → list_all is_printable unread ≡ true → length bytes < end → IsFed bytes taken (length bytes) (with_text (end - length bytes) stage) × (front (drop taken bytes) ≡ Err Short)
amid_text bytes unread taken at end stage fed is all lt =
    let long : length unread ≡ length bytes - at = ap length is ∙ length-drop at bytes in
    let old : with_text (end - at) stage ≡ Within (end - at) (count_of stage) (before_of stage) = waits (end - at) stage (omega (arith, fed.within)) in
    let new : with_text (end - length bytes) stage ≡ Within (end - length bytes) (count_of stage) (before_of stage) = waits (end - length bytes) stage (omega arith) in
    let on = amid bytes unread taken at (end - at) (count_of stage) (before_of stage) (subst (IsFed bytes taken at) old fed) is all (omega (arith, fed.within)) in
    let place : at + length unread ≡ length bytes = omega (arith, fed.within) in
    let left : end - at - length unread ≡ end - length bytes = omega (arith, fed.within) in
    let here = subst (λ (n : ℕ). IsFed bytes taken n (Within (end - at - length unread) (count_of stage) (before_of stage))) place on.0 in
    let there = subst (λ (n : ℕ). IsFed bytes taken (length bytes) (Within n (count_of stage) (before_of stage))) left here in
    (subst (IsFed bytes taken (length bytes)) (sym new) there, on.1)
