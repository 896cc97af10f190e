-- The steps of a generated scenario, as they are read.
use Rattle.std.proofs.Common.{ℕ, zero, suc, ◌≡◌, ◌<◌, ◌≤◌, ◌+◌, ◌/◌, ◌%◌, ◌==◌, inl, inr, List, [], ◌∷◌, length, map, refl, ap, ◌∙◌, arith, Some, Ok, lt-ltb}
use Rattle.std.proofs.lemmas.Fmt.{decimal_digit}
use Rattle.serde_json.specs.Data.{object}
use Rattle.serde_json.specs.View.{items_of}
use Rattle.upd_base.specs.Kind.{kind_text}
use Rattle.upd_base.specs.Text.{payload}
use Rattle.upd_base.specs.Plan.{change_count}
use Rattle.upd_base.specs.declared.kind.Kind.{Kind}
use Rattle.upd_base.specs.declared.kind.Kind.TheVariants.{Sequencer}
use Rattle.upd_base.specs.declared.call.Call.TheVariants.{Send, Change}
use Rattle.scenario.specs.declared.before.Before.{Before}
use Rattle.scenario.specs.Reading.{after, call_of, each, kind, kind_in, kind_of, member_below, member_in, op_in, payload_of, step, thread}
use Rattle.scenario.specs.Gives.{◌>>=◌}
use Rattle.scenario.specs.Tree.{item_path}
use Rattle.scenario_gen.specs.Generate.{call_by, kind_by, member_by, message, step_by}
use Rattle.scenario_gen.proofs.Counts.{AreNumbers, change, tested, total}
use Rattle.scenario_gen.proofs.Payload.{message_is_payload}
use Rattle.scenario_gen.proofs.Tree.{change_data, send_data, step_data, thread_data}

-- Kinds --------------------------------------------------------------------------------------------------------------

sequencer_named : (m : ℕ) → m < 5 → kind_of 5 (kind_text (Sequencer m)) ≡ Some (Sequencer m)
unfolding kind_text
sequencer_named zero lt = rw (decimal_digit 0 (omega arith)) refl
sequencer_named (suc zero) lt = rw (decimal_digit 1 (omega arith)) refl
sequencer_named (suc (suc zero)) lt = rw (decimal_digit 2 (omega arith)) refl
sequencer_named (suc (suc (suc zero))) lt = rw (decimal_digit 3 (omega arith)) refl
sequencer_named (suc (suc (suc (suc zero)))) lt = rw (decimal_digit 4 (omega arith)) refl
sequencer_named (suc (suc (suc (suc (suc m))))) lt = absurd (omega arith)

kind_named : (word : ℕ) → kind_of 5 (kind_text (kind_by word)) ≡ Some (kind_by word)
unfolding kind_text
kind_named word = elim (tested (word / 5 % 3 == 0)) [
  | inl e ↦ rw e (sequencer_named (word / 15 % 5) (omega arith))
  | inr e ↦ elim (tested (word / 5 % 3 == 1)) [ inl f ↦ rw (e, f) refl | inr f ↦ rw (e, f) refl ]
]

-- A step -------------------------------------------------------------------------------------------------------------

change_read : (b : Before) (path : List ℕ) (at : ℕ) (k : Kind) → at < 5 → kind_of 5 (kind_text k) ≡ Some k → b.steps < 1000 → b.changes < 32
    → step 5 b path (object (change_data at k)) ≡ Ok (record { at = at; call = Change k }, after b (record { at = at; call = Change k }))
unfolding step member_in member_below op_in call_of kind_in kind
change_read b path at k five named steps changes = rw (lt-ltb b.steps 1000 steps, lt-ltb at 5 five, lt-ltb b.changes 32 changes, named) refl

send_read : (b : Before) (path : List ℕ) (at : ℕ) (text : List ℕ) → at < 5 → payload text ≡ Some text → b.steps < 1000
    → step 5 b path (object (send_data at text)) ≡ Ok (record { at = at; call = Send text }, after b (record { at = at; call = Send text }))
unfolding step member_in member_below op_in call_of payload_of
send_read b path at text five good steps = rw (lt-ltb b.steps 1000 steps, lt-ltb at 5 five, good) refl

step_read : (b : Before) (path : List ℕ) (call : ℕ × ℕ) → call.0 < 1000 → b.steps < 1000 → b.changes + change call ≤ 32
    → step 5 b path (step_data call) ≡ Ok (step_by call, after b (step_by call))
step_read b path call number steps changes = elim (tested (call.0 % 32 == 31)) [
  | inl e ↦
      let more : change call ≡ 1 = rw e refl in
      rw e (change_read b path (member_by call.1) (kind_by call.1) (omega arith) (kind_named call.1) steps (omega arith))
  | inr e ↦ rw e (send_read b path (member_by call.1) (message call.0) (omega arith) (message_is_payload call.0 number) steps)
]

-- Threads ------------------------------------------------------------------------------------------------------------

-- what stands before the step that follows these calls
abbrev pub after_all : Before → List (ℕ × ℕ) → Before
after_all b calls = record { steps = b.steps + length calls; changes = b.changes + total change calls }

before_is : (b : Before) (steps changes : ℕ) → b.steps ≡ steps → b.changes ≡ changes → b ≡ record { steps = steps; changes = changes }
before_is b steps changes s c = ap (λ x. record { steps = x; changes = b.changes }) s ∙ ap (λ x. record { steps = steps; changes = x }) c

counted : (call : ℕ × ℕ) → change_count (call_by call.0 call.1) ≡ change call
counted call = elim (tested (call.0 % 32 == 31)) [ inl e ↦ rw e refl | inr e ↦ rw e refl ]

next_is : (b : Before) (call : ℕ × ℕ) (calls : List (ℕ × ℕ)) → after_all (after b (step_by call)) calls ≡ after_all b (call ∷ calls)
next_is b call calls = before_is (after_all (after b (step_by call)) calls) (b.steps + suc (length calls)) (b.changes + (change call + total change calls)) (omega arith) (let k = counted call in omega arith)

pub steps_read : (b : Before) (path : List ℕ) (i : ℕ) (calls : List (ℕ × ℕ)) → AreNumbers calls → b.steps + length calls ≤ 1000 → b.changes + total change calls ≤ 32
    → each (step 5) b path i (items_of (map step_data calls)) ≡ Ok (map step_by calls, after_all b calls)
unfolding each
steps_read b path i [] numbers steps changes = ap (λ x. Ok ([], x)) (before_is b (b.steps + 0) (b.changes + 0) (omega arith) (omega arith))
steps_read b path i (call ∷ calls) numbers steps changes =
    let s = step_by call in
    let k = counted call in
    ap (λ r. r >>= λ first. each (step 5) first.1 path (i + 1) (items_of (map step_data calls)) >>= λ rest. Ok (first.0 ∷ rest.0, rest.1))
    (step_read b (item_path path i) call numbers.0 (omega arith) (omega arith))
    ∙ ap (λ r. r >>= λ rest. Ok (s ∷ rest.0, rest.1)) (steps_read (after b s) path (i + 1) calls numbers.1 (omega arith) (omega arith))
    ∙ ap (λ x. Ok (s ∷ map step_by calls, x)) (next_is b call calls)

thread_read : (b : Before) (path : List ℕ) (calls : List (ℕ × ℕ)) → AreNumbers calls → b.steps + length calls ≤ 1000 → b.changes + total change calls ≤ 32
    → thread 5 b path (thread_data calls) ≡ Ok (map step_by calls, after_all b calls)
unfolding thread
thread_read b path calls numbers steps changes = steps_read b path 0 calls numbers steps changes

-- the calls of threads fit, one thread after another
abbrev pub Fit : Before → List (List (ℕ × ℕ)) → Type 0
Fit b [] = Unit {0}
Fit b (calls ∷ threads) = AreNumbers calls × (b.steps + length calls ≤ 1000) × (b.changes + total change calls ≤ 32) × Fit (after_all b calls) threads

abbrev pub after_threads : Before → List (List (ℕ × ℕ)) → Before
after_threads b [] = b
after_threads b (calls ∷ threads) = after_threads (after_all b calls) threads

pub threads_read : (b : Before) (path : List ℕ) (i : ℕ) (threads : List (List (ℕ × ℕ))) → Fit b threads
    → each (thread 5) b path i (items_of (map thread_data threads)) ≡ Ok (map (map step_by) threads, after_threads b threads)
unfolding each
threads_read b path i [] h = refl
threads_read b path i (calls ∷ threads) h =
    let s = map step_by calls in
    ap (λ r. r >>= λ first. each (thread 5) first.1 path (i + 1) (items_of (map thread_data threads)) >>= λ rest. Ok (first.0 ∷ rest.0, rest.1))
    (thread_read b (item_path path i) calls h.0 h.1 h.2)
    ∙ ap (λ r. r >>= λ rest. Ok (s ∷ rest.0, rest.1)) (threads_read (after_all b calls) path (i + 1) threads h.3)
