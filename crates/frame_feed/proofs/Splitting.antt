-- A stream splits in one way.
use Rattle.std.proofs.Common.{◌≡◌, ℕ, List, [], ◌∷◌, ◌++◌, Result, Ok, Err, refl, sym, ap, subst, ◌∙◌, append_assoc}
use Rattle.std.specs.Prelude.{IsErr}
use Rattle.std.specs.List.{flat_map, AllByRecursion}
use Rattle.std.proofs.lemmas.List.Concat.{flat_map-cons}
use Rattle.upd_base.specs.declared.frame.Frame.{Frame}
use Rattle.upd_frame.specs.declared.fault.FrameFault.{FrameFault}
use Rattle.upd_frame.specs.Spelling.{spelling, IsFrame}
use Rattle.upd_frame.specs.Reading.{front}
use Rattle.upd_frame.proofs.Ahead.{is_read, none_begins}
use Rattle.frame_feed.specs.Stream.{Splits}

abbrev gave : Frame → List ℕ → Result (Frame × List ℕ) FrameFault
gave f rest = Ok (f, rest)

-- a frame does not begin what begins with none
begins : (f : Frame) (more rest : List ℕ) → IsFrame f → rest ≡ spelling f ++ more → IsErr (front rest) → ⊥
begins f more rest within is none =
    let here : front rest ≡ gave f more = ap front is ∙ is_read f more within in
    let bad : IsErr (gave f more) = subst (λ (r : Result (Frame × List ℕ) FrameFault). IsErr r) here none in
    absurd cc

after : (f : Frame) (fs : List Frame) (rest : List ℕ) → flat_map spelling (f ∷ fs) ++ rest ≡ spelling f ++ (flat_map spelling fs ++ rest)
after f fs rest = ap (λ (l : List ℕ). l ++ rest) (flat_map-cons spelling f fs) ∙ append_assoc (spelling f) (flat_map spelling fs) rest

same_way : (fs gs : List Frame) (rest left : List ℕ) → flat_map spelling fs ++ rest ≡ flat_map spelling gs ++ left → AllByRecursion IsFrame fs → AllByRecursion IsFrame gs → IsErr (front rest) → IsErr (front left)
    → (fs ≡ gs) × (rest ≡ left)
same_way [] [] rest left same in_f in_g none_f none_g = (refl, same)
same_way [] (g ∷ gs) rest left same in_f in_g none_f none_g = absurd (begins g (flat_map spelling gs ++ left) rest in_g.0 (same ∙ after g gs left) none_f)
same_way (f ∷ fs) [] rest left same in_f in_g none_f none_g = absurd (begins f (flat_map spelling fs ++ rest) left in_f.0 (sym same ∙ after f fs rest) none_g)
same_way (f ∷ fs) (g ∷ gs) rest left same in_f in_g none_f none_g =
    let first = none_begins f g (flat_map spelling fs ++ rest) (flat_map spelling gs ++ left) in_f.0 in_g.0 (sym (after f fs rest) ∙ same ∙ after g gs left) in
    let others = same_way fs gs rest left first.1 in_f.1 in_g.1 none_f none_g in
    (λ i. first.0 i ∷ others.0 i, others.1)

pub one_way : (stream : List ℕ) (fs gs : List Frame) (rest left : List ℕ) → Splits stream fs rest → Splits stream gs left → (fs ≡ gs) × (rest ≡ left)
one_way stream fs gs rest left one other = same_way fs gs rest left (sym one.whole ∙ other.whole) one.each other.each one.none other.none
