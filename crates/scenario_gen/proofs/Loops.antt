-- What is left to be written, as a loop goes on.
use Rattle.std.proofs.Common.{ℕ, zero, suc, ◌≡◌, ◌<◌, ◌≤◌, ◌+◌, ◌-◌, ◌%◌, ◌==◌, inl, inr, List, [], ◌∷◌, ◌++◌, length, map, drop, drop-cons, get_or, add-one, append_assoc, append-nil, refl, sym, ap, ◌∙◌, arith}
use Rattle.std.specs.Prelude.{codes, decimal, Result, Ok, Err, OnOk}
use Rattle.std.specs.List.{enumerate_from}
use Rattle.std.proofs.lemmas.Bool.{eqb-true, eq-eqb}
use Rattle.std.proofs.lemmas.List.{drop_all}
use Rattle.rand_pcg.specs.Lcg.{Lcg}
use Rattle.rand_pcg.specs.Pcg.{pcg32}
use Rattle.json.specs.Token.{Token}
use Rattle.json.specs.Tree.{items_tokens, json_tokens}
use Rattle.scenario_gen.specs.Generate.{numbered, of_thread, words_from}
use Rattle.scenario_gen.specs.Spelling.{items_of, scenario_json, step_json, thread_json, threads_json}
use Rattle.scenario_gen.proofs.Counts.{tested}

-- the steps of a thread from call i on, whose words are these, and the end of the array
abbrev pub left : ℕ → ℕ → List ℕ → List Token
left thread i ws = items_tokens (items_of (map step_json (of_thread thread (enumerate_from i ws))))

front : (ws : List ℕ) (i w : ℕ) → i < length ws → w ≡ get_or ws i 0 → drop i ws ≡ w ∷ drop (i + 1) ws
front ws i w lt is = rw (add-one) (drop-cons ws i 0 lt ∙ ap (λ x. x ∷ drop (suc i) ws) (sym is))

left_more : (thread i w : ℕ) (ws : List ℕ) → i % 4 ≡ thread → left thread i (w ∷ ws) ≡ json_tokens (step_json (i, w)) ++ left thread (i + 1) ws
left_more thread i w ws is = rw (eq-eqb (i % 4) thread is) refl

left_same : (thread i w : ℕ) (ws : List ℕ) → (i % 4 ≡ thread → ⊥) → left thread i (w ∷ ws) ≡ left thread (i + 1) ws
left_same thread i w ws differs = elim (tested (i % 4 == thread)) [
  | inl e ↦ absurd (differs (eqb-true (i % 4) thread e))
  | inr e ↦ rw e refl
]

pub step_written : (thread i w : ℕ) (ws : List ℕ) (old new whole : List Token) → i < length ws → w ≡ get_or ws i 0 → i % 4 ≡ thread → new ≡ old ++ json_tokens (step_json (i, w))
    → old ++ left thread i (drop i ws) ≡ whole → new ++ left thread (i + 1) (drop (i + 1) ws) ≡ whole
step_written thread i w ws old new whole lt is own made rest =
    ap (λ l. l ++ left thread (i + 1) (drop (i + 1) ws)) made
    ∙ append_assoc old (json_tokens (step_json (i, w))) (left thread (i + 1) (drop (i + 1) ws))
    ∙ ap (λ l. old ++ l) (sym (left_more thread i w (drop (i + 1) ws) own))
    ∙ ap (λ l. old ++ left thread i l) (sym (front ws i w lt is)) ∙ rest

pub step_passed : (thread i w : ℕ) (ws : List ℕ) (old whole : List Token) → i < length ws → w ≡ get_or ws i 0 → (i % 4 ≡ thread → ⊥)
    → old ++ left thread i (drop i ws) ≡ whole → old ++ left thread (i + 1) (drop (i + 1) ws) ≡ whole
step_passed thread i w ws old whole lt is differs rest =
    ap (λ l. old ++ l) (sym (left_same thread i w (drop (i + 1) ws) differs)) ∙ ap (λ l. old ++ left thread i l) (sym (front ws i w lt is)) ∙ rest

pub steps_written : (thread i : ℕ) (ws : List ℕ) (old whole : List Token) → length ws ≤ i → old ++ left thread i (drop i ws) ≡ whole → old ++ Token.end_array ∷ [] ≡ whole
steps_written thread i ws old whole le rest = ap (λ l. old ++ left thread i l) (sym (drop_all i ws le)) ∙ rest

-- the threads that are left
abbrev pub four : List ℕ
four = 0 ∷ 1 ∷ 2 ∷ 3 ∷ []

abbrev pub threads_left : List (ℕ × ℕ) → ℕ → List Token
threads_left calls thread = items_tokens (items_of (map (thread_json calls) (drop thread four)))

next_thread : (thread : ℕ) → thread < 4 → drop thread four ≡ thread ∷ drop (thread + 1) four
next_thread zero lt = refl
next_thread (suc zero) lt = refl
next_thread (suc (suc zero)) lt = refl
next_thread (suc (suc (suc zero))) lt = refl
next_thread (suc (suc (suc (suc n)))) lt = absurd (omega arith)

pub thread_written : (calls : List (ℕ × ℕ)) (thread : ℕ) (old new whole : List Token) → thread < 4 → new ≡ old ++ json_tokens (thread_json calls thread)
    → old ++ threads_left calls thread ≡ whole → new ++ threads_left calls (thread + 1) ≡ whole
thread_written calls thread old new whole lt made rest =
    ap (λ l. l ++ threads_left calls (thread + 1)) made
    ∙ append_assoc old (json_tokens (thread_json calls thread)) (threads_left calls (thread + 1))
    ∙ ap (λ ts. old ++ items_tokens (items_of (map (thread_json calls) ts))) (sym (next_thread thread lt)) ∙ rest

pub threads_written : (calls : List (ℕ × ℕ)) (thread : ℕ) (old whole : List Token) → 4 ≤ thread → old ++ threads_left calls thread ≡ whole → old ++ Token.end_array ∷ [] ≡ whole
threads_written calls thread old whole le rest = ap (λ ts. old ++ items_tokens (items_of (map (thread_json calls) ts))) (sym (drop_all thread four le)) ∙ rest

-- the words that are left
pub word_drawn : (n i : ℕ) (old new whole : List ℕ) (g next : Lcg) (w : ℕ) → i < n → (w, next) ≡ pcg32 g → new ≡ old ++ w ∷ [] → old ++ words_from (n - i) g ≡ whole → new ++ words_from (n - (i + 1)) next ≡ whole
word_drawn n i old new whole g next w lt drew made rest =
    let more : n - i ≡ suc (n - (i + 1)) = omega arith in
    ap (λ l. l ++ words_from (n - (i + 1)) next) made
    ∙ append_assoc old (w ∷ []) (words_from (n - (i + 1)) next)
    ∙ ap (λ (p : ℕ × Lcg). old ++ p.0 ∷ words_from (n - (i + 1)) p.1) drew
    ∙ ap (λ k. old ++ words_from k g) (sym more) ∙ rest

pub words_drawn : (n i : ℕ) (old whole : List ℕ) (g : Lcg) → n ≤ i → old ++ words_from (n - i) g ≡ whole → old ≡ whole
words_drawn n i old whole g le rest =
    let none : n - i ≡ 0 = omega arith in
    sym (append-nil old) ∙ ap (λ k. old ++ words_from k g) (sym none) ∙ rest

-- A scenario ---------------------------------------------------------------------------------------------------------

ok_map : {E P Q : Type 0} (r : Result (Unit {0}) E) → (P → Q) → OnOk r P → OnOk r Q
ok_map (Ok x) f p = f p
ok_map (Err e) f p = tt

-- the tokens of a scenario, one after another
pub record Written (t0 t1 t2 t3 t4 t5 t6 t7 : List Token) (ws : List ℕ) : Type 0 where
  pub begun : t1 ≡ t0 ++ Token.begin_object ∷ []
  pub members : t2 ≡ t1 ++ Token.key (codes "members") ∷ []
  pub many : t3 ≡ t2 ++ Token.number (decimal 5) ∷ []
  pub first : t4 ≡ t3 ++ Token.key (codes "first") ∷ []
  pub kind : t5 ≡ t4 ++ Token.string (codes "consensus") ∷ []
  pub threads : t6 ≡ t5 ++ Token.key (codes "threads") ∷ []
  pub each : t7 ≡ t6 ++ json_tokens (threads_json (numbered ws))

pub scenario_written : {E : Type 0} (r : Result (Unit {0}) E) (t0 t1 t2 t3 t4 t5 t6 t7 t8 : List Token) (ws : List ℕ) → Written t0 t1 t2 t3 t4 t5 t6 t7 ws
    → OnOk r (t8 ≡ t7 ++ Token.end_object ∷ []) → OnOk r (t8 ≡ t0 ++ json_tokens (scenario_json ws))
scenario_written r t0 t1 t2 t3 t4 t5 t6 t7 t8 ws w = ok_map r (λ h.
    let threads = json_tokens (threads_json (numbered ws)) in
    h ∙ ap (λ t. t ++ Token.end_object ∷ []) (w.each
    ∙ ap (λ t. t ++ threads) (w.threads
    ∙ ap (λ t. t ++ Token.key (codes "threads") ∷ []) (w.kind
    ∙ ap (λ t. t ++ Token.string (codes "consensus") ∷ []) (w.first
    ∙ ap (λ t. t ++ Token.key (codes "first") ∷ []) (w.many
    ∙ ap (λ t. t ++ Token.number (decimal 5) ∷ []) (w.members
    ∙ ap (λ t. t ++ Token.key (codes "members") ∷ []) w.begun))))))
    ∙ simp append_assoc)
