-- How many calls and changes the threads of a generated scenario have.
use Rattle.std.proofs.Common.{ℕ, zero, suc, ◌≡◌, ◌<◌, ◌≤◌, ◌+◌, ◌*◌, ◌%◌, ◌==◌, ◌⊎◌, inl, inr, Bool, true, false, List, [], ◌∷◌, length, refl, ap, arith, if◌then◌else◌}
use Rattle.std.specs.List.{enumerate_from}
use Rattle.std.proofs.lemmas.Bool.{eqb-true, eq-eqb}
use Rattle.rand_pcg.specs.Lcg.{Lcg}
use Rattle.rand_pcg.specs.Pcg.{pcg32}
use Rattle.scenario_gen.specs.Generate.{of_thread, words_from}

pub tested : (b : Bool) → (b ≡ true) ⊎ (b ≡ false)
tested true = inl refl
tested false = inr refl

-- the sum over calls
abbrev pub total : (ℕ × ℕ → ℕ) → List (ℕ × ℕ) → ℕ
total f [] = 0
total f (call ∷ calls) = f call + total f calls

abbrev pub one : ℕ × ℕ → ℕ
one call = 1

abbrev pub change : ℕ × ℕ → ℕ
change call = if call.0 % 32 == 31 then 1 else 0

pub total_one : (calls : List (ℕ × ℕ)) → total one calls ≡ length calls
total_one [] = refl
total_one (call ∷ calls) = omega (arith, total_one calls)

-- a call is of one of the four threads
here : (f : ℕ × ℕ → ℕ) (call : ℕ × ℕ) (calls : List (ℕ × ℕ)) (thread : ℕ) → call.0 % 4 ≡ thread → total f (of_thread thread (call ∷ calls)) ≡ f call + total f (of_thread thread calls)
here f call calls thread is = rw (eq-eqb (call.0 % 4) thread is) refl

elsewhere : (f : ℕ × ℕ → ℕ) (call : ℕ × ℕ) (calls : List (ℕ × ℕ)) (thread : ℕ) → (call.0 % 4 ≡ thread → ⊥) → total f (of_thread thread (call ∷ calls)) ≡ total f (of_thread thread calls)
elsewhere f call calls thread differs = elim (tested (call.0 % 4 == thread)) [
  | inl e ↦ absurd (differs (eqb-true (call.0 % 4) thread e))
  | inr e ↦ rw e refl
]

-- the sum over the threads of a list, and over the list
abbrev Adds : (ℕ × ℕ → ℕ) → List (ℕ × ℕ) → Type 0
Adds f calls = total f (of_thread 0 calls) + (total f (of_thread 1 calls) + (total f (of_thread 2 calls) + total f (of_thread 3 calls))) ≡ total f calls

one_more : (f : ℕ × ℕ → ℕ) (call : ℕ × ℕ) (calls : List (ℕ × ℕ)) → Adds f calls → Adds f (call ∷ calls)
one_more f call calls t = elim (tested (call.0 % 4 == 0)) [
  | inl a ↦
      let is : call.0 % 4 ≡ 0 = eqb-true (call.0 % 4) 0 a in
      let p = here f call calls 0 is in
      let q = elsewhere f call calls 1 (λ e. omega arith) in
      let r = elsewhere f call calls 2 (λ e. omega arith) in
      let s = elsewhere f call calls 3 (λ e. omega arith) in
      omega arith
  | inr a ↦ elim (tested (call.0 % 4 == 1)) [
    | inl b ↦
        let is : call.0 % 4 ≡ 1 = eqb-true (call.0 % 4) 1 b in
        let p = elsewhere f call calls 0 (λ e. omega arith) in
        let q = here f call calls 1 is in
        let r = elsewhere f call calls 2 (λ e. omega arith) in
        let s = elsewhere f call calls 3 (λ e. omega arith) in
        omega arith
    | inr b ↦ elim (tested (call.0 % 4 == 2)) [
      | inl d ↦
          let is : call.0 % 4 ≡ 2 = eqb-true (call.0 % 4) 2 d in
          let p = elsewhere f call calls 0 (λ e. omega arith) in
          let q = elsewhere f call calls 1 (λ e. omega arith) in
          let r = here f call calls 2 is in
          let s = elsewhere f call calls 3 (λ e. omega arith) in
          omega arith
      | inr d ↦
          let na : (call.0 % 4 ≡ 0 → ⊥) = λ e. (let x = eq-eqb (call.0 % 4) 0 e in cc) in
          let nb : (call.0 % 4 ≡ 1 → ⊥) = λ e. (let x = eq-eqb (call.0 % 4) 1 e in cc) in
          let nc : (call.0 % 4 ≡ 2 → ⊥) = λ e. (let x = eq-eqb (call.0 % 4) 2 e in cc) in
          let is : call.0 % 4 ≡ 3 = omega arith in
          let p = elsewhere f call calls 0 na in
          let q = elsewhere f call calls 1 nb in
          let r = elsewhere f call calls 2 nc in
          let s = here f call calls 3 is in
          omega arith
    ]
  ]
]

pub all_threads : (f : ℕ × ℕ → ℕ) (calls : List (ℕ × ℕ))
    → total f (of_thread 0 calls) + (total f (of_thread 1 calls) + (total f (of_thread 2 calls) + total f (of_thread 3 calls))) ≡ total f calls
all_threads f [] = refl
all_threads f (call ∷ calls) = one_more f call calls (all_threads f calls)

-- one of each 32 calls is a change
pub few_changes : (c : ℕ) (ws : List ℕ) → 32 * total change (enumerate_from c ws) ≤ length ws + c % 32
few_changes c [] = omega arith
few_changes c (w ∷ ws) = elim (tested (c % 32 == 31)) [
  | inl e ↦
      let is : c % 32 ≡ 31 = eqb-true (c % 32) 31 e in
      let next : (c + 1) % 32 ≡ 0 = omega arith in
      let counts : total change (enumerate_from c (w ∷ ws)) ≡ 1 + total change (enumerate_from (c + 1) ws) = rw e refl in
      let rest = few_changes (c + 1) ws in
      omega arith
  | inr e ↦
      let differs : (c % 32 ≡ 31 → ⊥) = λ p. (let x = eq-eqb (c % 32) 31 p in cc) in
      let next : (c + 1) % 32 ≡ c % 32 + 1 = omega arith in
      let counts : total change (enumerate_from c (w ∷ ws)) ≡ 0 + total change (enumerate_from (c + 1) ws) = rw e refl in
      let rest = few_changes (c + 1) ws in
      omega arith
]

pub length_words : (n : ℕ) (g : Lcg) → length (words_from n g) ≡ n
length_words zero g = refl
length_words (suc n) g = ap suc (length_words n (pcg32 g).1)

pub length_numbered : (c : ℕ) (ws : List ℕ) → length (enumerate_from c ws) ≡ length ws
length_numbered c [] = refl
length_numbered c (w ∷ ws) = ap suc (length_numbered (c + 1) ws)

-- the number of each call is below 1000
abbrev pub AreNumbers : List (ℕ × ℕ) → Type 0
AreNumbers [] = Unit {0}
AreNumbers (call ∷ calls) = (call.0 < 1000) × AreNumbers calls

pub numbers : (c : ℕ) (ws : List ℕ) → c + length ws ≤ 1000 → AreNumbers (enumerate_from c ws)
numbers c [] le = tt
numbers c (w ∷ ws) le = (omega arith, numbers (c + 1) ws (omega arith))

pub numbers_of_thread : (thread : ℕ) (calls : List (ℕ × ℕ)) → AreNumbers calls → AreNumbers (of_thread thread calls)
numbers_of_thread thread [] h = tt
numbers_of_thread thread (call ∷ calls) h = elim (tested (call.0 % 4 == thread)) [
  | inl e ↦ rw e (h.0, numbers_of_thread thread calls h.1)
  | inr e ↦ rw e (numbers_of_thread thread calls h.1)
]
