-- What a line gave in two steps, and what a state tells of it once a frame was brought.
use Rattle.std.proofs.Common.{ℕ, zero, suc, ◌≡◌, ◌+◌, List, [], ◌∷◌, ◌++◌, length, take, drop, sym, ◌∙◌, ap, subst, arith, Option, Some, None, append_assoc, append-nil, length-append}
use Rattle.std.specs.Prelude.{slice_get}
use Rattle.std.proofs.lemmas.List.{length-take-le, take-append-drop}
use Rattle.std.proofs.lemmas.Grind.{flat_map-append}
use Rattle.fifo_net.proofs.Links.{IsPrefix-self}
use Rattle.upd_base.specs.declared.frame.Frame.{Frame}
use Rattle.upd_frame.specs.Spelling.{spelling}
use Rattle.upd_lines.specs.Line.{Carried, Told}
use Rattle.frame_carriage.specs.Carry.{GaveAnother}
use Rattle.line_rules.specs.Given.{GaveBytes, GaveExactly}
use Rattle.line_rules.specs.Received.{bytes_of}
use Rattle.line_rules.specs.LineState.{GavePart, IsAt, IsServing}
use Rattle.line_rules.specs.declared.line_state.LineState.TheVariants.{Lied}

pub bytes_more : (a b c : Option Carried) (P Q R : List ℕ → Type 0) → ((x y : List ℕ) → P x → Q y → R (x ++ y)) → GaveBytes a b P → GaveBytes b c Q → GaveBytes a c R
bytes_more None None None P Q R both p q = tt
bytes_more None None (Some c) P Q R both p q = absurd q
bytes_more None (Some b) c P Q R both p q = absurd p
bytes_more (Some a) None c P Q R both p q = absurd p
bytes_more (Some a) (Some b) None P Q R both p q = absurd q
bytes_more (Some a) (Some b) (Some c) P Q R both (x, e, p) (y, f, q) = (x ++ y, f ∙ ap (λ l. l ++ y) e ∙ append_assoc a.got x y, both x y p q)

pub bytes_map : (a b : Option Carried) (P Q : List ℕ → Type 0) → ((x : List ℕ) → P x → Q x) → GaveBytes a b P → GaveBytes a b Q
bytes_map None None P Q both p = tt
bytes_map None (Some b) P Q both p = absurd p
bytes_map (Some a) None P Q both p = absurd p
bytes_map (Some a) (Some b) P Q both (x, e, p) = (x, e, both x p)

get_behind : (xs ys : List ℕ) (n i : ℕ) → n ≡ length xs + i → slice_get (xs ++ ys) n ≡ slice_get ys i
get_behind [] ys n i e = ap (slice_get ys) (let same : n ≡ i = omega arith in same)
get_behind (x ∷ xs) ys zero i e = absurd (omega arith)
get_behind (x ∷ xs) ys (suc n) i e = get_behind xs ys n i (omega arith)

-- a lie in the next frame, behind those that came
pub lie_part : (frames : List Frame) (frame : Frame) (old mid new : Told) (before now count at put got : ℕ) → IsServing frames old mid count → GaveAnother mid new (spelling frame) at put got
    → IsAt frames (frame ∷ []) old new before now (Lied (record { at = count + at; put = put; got = got }))
lie_part frames frame old mid new before now count at put got s a =
    let xs : List ℕ = bytes_of frames in
    let ys : List ℕ = spelling frame in
    let many = a.given.0 in
    let few = a.given.2 in
    let whole : take many ys ++ drop many ys ≡ ys = take-append-drop many ys in
    let long : length (take many ys) ≡ many = length-take-le many ys few in
    let sum = length-append xs (take many ys) in
    let one = s.gave.count in
    let two = a.given.3.count in (
      record {
        differs = a.differs;
        put_there = ap (λ l. slice_get (xs ++ l) (count + at)) (append-nil ys) ∙ get_behind xs ys (count + at) at (let e = s.counted in omega arith) ∙ a.put_there;
        behind = (let e = s.counted in omega arith);
        given = (let e = s.counted in let lt = a.given.1 in omega arith);
        not_faithful = a.not_faithful;
        got_there = bytes_more old.bytes mid.bytes new.bytes _ _ _
            (λ x y p q. get_behind x y (count + at) at (let l : length x ≡ length xs = ap length p in let e = s.counted in omega arith) ∙ q)
            s.gave.bytes a.given.3.bytes;
      },
      (
        take many ys,
        (drop many ys, append-nil ys ∙ sym whole),
        record {
          count = omega arith;
          bytes = bytes_more old.bytes mid.bytes new.bytes _ _ _ (λ x y p q. (y, ap (λ l. l ++ y) p)) s.gave.bytes a.given.3.bytes;
          faithful = a.given.3.faithful ∙ s.gave.faithful;
        },
      ),
    )

-- a frame that came whole is a part that came
pub whole_part : (frames : List Frame) (frame : Frame) (old new : Told) (count : ℕ) → IsServing (frames ++ frame ∷ []) old new count → GavePart (bytes_of frames) (bytes_of (frame ∷ [])) old new
whole_part frames frame old new count s =
    (bytes_of (frame ∷ []), IsPrefix-self (bytes_of (frame ∷ [])), subst (GaveExactly old new) (flat_map-append spelling frames (frame ∷ [])) s.gave)
