-- The plan that a generated line is read as.
use Rattle.std.proofs.Common.{ℕ, zero, suc, ◌≡◌, ◌<◌, ◌≤◌, List, [], ◌∷◌, ◌++◌, length, map, refl, ap, subst, ◌∙◌, arith, Ok, le-leb}
use Rattle.std.specs.Prelude.{codes, slice_index}
use Rattle.std.specs.Str.{IsUtf8}
use Rattle.std.proofs.lemmas.Str.{IsUtf8-append, IsUtf8-from_ascii}
use Rattle.json.specs.Token.{Token}
use Rattle.json.specs.Print.{print}
use Rattle.json.specs.Tree.{json_tokens}
use Rattle.scenario.specs.declared.fault.ScenarioFault.TheVariants.{TooLong}
use Rattle.scenario.specs.Gives.{◌>>=◌}
use Rattle.scenario.specs.Reading.{kind, kind_in, members_in, none_before, path_of, plan_of, reading, threads_in, tree}
use Rattle.scenario.specs.Tree.{check}
use Rattle.scenario.proofs.Json.{tree_ok}
use Rattle.scenario_gen.specs.Generate.{generated, generator_of, numbered, of_thread, plan_by, words}
use Rattle.scenario_gen.specs.Spelling.{scenario_json}
use Rattle.scenario_gen.proofs.Counts.{all_threads, change, few_changes, length_numbered, length_words, numbers, numbers_of_thread, one, total_one}
use Rattle.scenario_gen.proofs.Length.{line_short}
use Rattle.scenario_gen.proofs.Line.{newline}
use Rattle.scenario_gen.proofs.Steps.{Fit, threads_read}
use Rattle.scenario_gen.proofs.Tree.{read_line, scenario_data}

abbrev four : List (ℕ × ℕ) → List (List (ℕ × ℕ))
four calls = map (λ thread. of_thread thread calls) (0 ∷ 1 ∷ 2 ∷ 3 ∷ [])

four_fit : (ws : List ℕ) → length ws ≤ 1000 → Fit none_before (four (numbered ws))
four_fit ws le =
    let calls = numbered ws in
    let small = numbers 0 ws (omega arith) in
    let many = length_numbered 0 ws in
    let changes = few_changes 0 ws in
    let steps = all_threads one calls in
    let all = all_threads change calls in
    let sum = total_one calls in
    let a = total_one (of_thread 0 calls) in
    let b = total_one (of_thread 1 calls) in
    let c = total_one (of_thread 2 calls) in
    let d = total_one (of_thread 3 calls) in (
      numbers_of_thread 0 calls small,
      omega arith,
      omega arith,
      (
        numbers_of_thread 1 calls small,
        omega arith,
        omega arith,
        (
          numbers_of_thread 2 calls small,
          omega arith,
          omega arith,
          (
            numbers_of_thread 3 calls small,
            omega arith,
            omega arith,
            tt,
          ),
        ),
      ),
    )

plan_read : (ws : List ℕ) → length ws ≤ 1000 → plan_of (scenario_data (numbered ws)) ≡ Ok (plan_by ws)
unfolding plan_of members_in kind_in kind threads_in
plan_read ws le =
    rw (threads_read none_before (path_of (codes "threads")) 0 (four (numbered ws)) (four_fit ws le)) refl

ascii : (i : ℕ) → slice_index newline i < 128
ascii zero = omega arith
ascii (suc i) = omega arith

pub reads : (ws : List ℕ) → length ws ≤ 1000 → IsUtf8 (print (json_tokens (scenario_json ws))) → reading (print (json_tokens (scenario_json ws)) ++ newline) ≡ Ok (plan_by ws)
unfolding reading
reads ws le utf8 =
    let line = print (json_tokens (scenario_json ws)) ++ newline in
    let valid : IsUtf8 line = IsUtf8-append (print (json_tokens (scenario_json ws))) newline utf8 (IsUtf8-from_ascii newline ascii) in
    ap (λ b. check b TooLong >>= λ _. tree line >>= plan_of) (le-leb (length line) 1048576 (line_short ws le))
    ∙ ap (λ r. r >>= plan_of) (tree_ok line (scenario_data (numbered ws)) valid (read_line ws))
    ∙ plan_read ws le

pub generated_read : (seed calls : ℕ) (ws before text line : List ℕ) (ts : List Token) → calls ≤ 1000 → ws ≡ words seed calls → before ≡ [] → ts ≡ json_tokens (scenario_json ws) → IsUtf8 (print ts)
    → text ≡ before ++ print ts → line ≡ text ++ newline → reading line ≡ Ok (generated seed calls)
generated_read seed calls ws before text line ts few drawn empty spelling utf8 made ended =
    let many : length ws ≤ 1000 = (let l = length_words calls (generator_of seed) in let e = ap length drawn in omega arith) in
    let is : line ≡ print (json_tokens (scenario_json ws)) ++ newline =
    ended ∙ ap (λ t. t ++ newline) (made ∙ ap (λ b. b ++ print ts) empty ∙ ap print spelling) in
    ap reading is ∙ reads ws many (subst (λ x. IsUtf8 (print x)) spelling utf8) ∙ ap (λ x. Ok (plan_by x)) drawn
