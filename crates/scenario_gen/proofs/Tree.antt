-- The tree that a generated line is read as.
use Rattle.std.proofs.Common.{ℕ, ◌≡◌, ◌<◌, ◌≤◌, ◌%◌, ◌^◌, ◌==◌, inl, inr, List, [], ◌∷◌, ◌++◌, map, refl, sym, ap, ◌∙◌, arith, Some, option_map, option_and_then, if◌then◌else◌, append-nil}
use Rattle.std.specs.Prelude.{codes}
use Rattle.json.specs.Json as json
use Rattle.json.specs.Print.{print, ArePrintable}
use Rattle.json.specs.Tree as tree
use Rattle.json.proofs.Printed.Decimals.{IsNumber-decimal}
use Rattle.json.proofs.Printed.Trees.{ArePrintable-json_tokens, value-json_tokens}
use Rattle.serde_json.specs.Data.{Data, Members, array, item, member, no_members, number, object, put, string, unsigned}
use Rattle.serde_json.specs.Read.{max_depth, of_items, of_json, of_members, read}
use Rattle.serde_json.specs.View as view
use Rattle.serde_json.proofs.Numbers.{number_of-decimal}
use Rattle.upd_base.specs.Kind.{kind_text}
use Rattle.upd_base.specs.declared.kind.Kind.{Kind}
use Rattle.scenario_gen.specs.Generate.{kind_by, member_by, message, numbered, of_thread}
use Rattle.scenario_gen.specs.Spelling.{items_of, scenario_json, step_json, thread_json, threads_json}
use Rattle.scenario_gen.proofs.Counts.{tested}
use Rattle.scenario_gen.proofs.Line.{newline, tokens_of_line}

-- The data -----------------------------------------------------------------------------------------------------------

abbrev pub change_data : ℕ → Kind → Members
change_data at kind = member (codes "at") (number (unsigned at)) (member (codes "kind") (string (kind_text kind)) (member (codes "op") (string (codes "change")) no_members))

abbrev pub send_data : ℕ → List ℕ → Members
send_data at text = member (codes "at") (number (unsigned at)) (member (codes "op") (string (codes "send")) (member (codes "text") (string text) no_members))

abbrev pub step_data : ℕ × ℕ → Data
step_data call = object (if call.0 % 32 == 31 then change_data (member_by call.1) (kind_by call.1) else send_data (member_by call.1) (message call.0))

abbrev pub thread_data : List (ℕ × ℕ) → Data
thread_data calls = array (view.items_of (map step_data calls))

abbrev pub threads_data : List (ℕ × ℕ) → List Data
threads_data calls = map (λ thread. thread_data (of_thread thread calls)) (0 ∷ 1 ∷ 2 ∷ 3 ∷ [])

abbrev pub scenario_data : List (ℕ × ℕ) → Data
scenario_data calls =
    object (member (codes "first") (string (codes "consensus")) (member (codes "members") (number (unsigned 5)) (member (codes "threads") (array (view.items_of (threads_data calls))) no_members)))

-- Its reading --------------------------------------------------------------------------------------------------------

small : (word : ℕ) → member_by word < 2 ^ 64
small word = omega arith

step_of_json : (call : ℕ × ℕ) → of_json (step_json call) ≡ Some (step_data call)
step_of_json call = elim (tested (call.0 % 32 == 31)) [
  | inl e ↦ rw (e, number_of-decimal (member_by call.1) (small call.1)) refl
  | inr e ↦ rw (e, number_of-decimal (member_by call.1) (small call.1)) refl
]

steps_of_json : (calls : List (ℕ × ℕ)) → of_items (items_of (map step_json calls)) ≡ Some (view.items_of (map step_data calls))
steps_of_json [] = refl
steps_of_json (call ∷ calls) =
    ap (option_and_then (λ d. option_map (item d) (of_items (items_of (map step_json calls))))) (step_of_json call)
    ∙ ap (option_map (item (step_data call))) (steps_of_json calls)

thread_of_json : (calls : List (ℕ × ℕ)) (thread : ℕ) → of_json (thread_json calls thread) ≡ Some (thread_data (of_thread thread calls))
thread_of_json calls thread = ap (option_map array) (steps_of_json (of_thread thread calls))

threads_of_json : (calls : List (ℕ × ℕ)) (threads : List ℕ) → of_items (items_of (map (thread_json calls) threads)) ≡ Some (view.items_of (map (λ thread. thread_data (of_thread thread calls)) threads))
threads_of_json calls [] = refl
threads_of_json calls (thread ∷ threads) =
    ap (option_and_then (λ d. option_map (item d) (of_items (items_of (map (thread_json calls) threads))))) (thread_of_json calls thread)
    ∙ ap (option_map (item (thread_data (of_thread thread calls)))) (threads_of_json calls threads)

-- the members that stand before the threads
abbrev found : Members
found = member (codes "first") (string (codes "consensus")) (member (codes "members") (number (unsigned 5)) no_members)

scenario_of_json : (ws : List ℕ) → of_json (scenario_json ws) ≡ Some (scenario_data (numbered ws))
scenario_of_json ws =
    let threads = threads_json (numbered ws) in
    let rest = json.member (codes "first") (json.string (codes "consensus")) (json.member (codes "threads") threads json.no_members) in
    ap (λ o. option_map object (option_and_then (λ d. of_members rest (put (codes "members") d no_members)) (option_map number o))) (number_of-decimal 5 (omega arith))
    ∙ ap (λ o. option_map object (option_and_then (λ d. of_members json.no_members (put (codes "threads") d found)) (option_map array o))) (threads_of_json (numbered ws) (0 ∷ 1 ∷ 2 ∷ 3 ∷ []))

-- Its depth and its numbers ------------------------------------------------------------------------------------------

step_depth : (call : ℕ × ℕ) → tree.depth (step_json call) ≤ 1
step_depth call = elim (tested (call.0 % 32 == 31)) [ inl e ↦ rw e (omega arith) | inr e ↦ rw e (omega arith) ]

steps_depth : (calls : List (ℕ × ℕ)) → tree.items_depth (items_of (map step_json calls)) ≤ 1
steps_depth [] = omega arith
steps_depth (call ∷ calls) = let a = step_depth call in let b = steps_depth calls in omega arith

threads_depth : (calls : List (ℕ × ℕ)) (threads : List ℕ) → tree.items_depth (items_of (map (thread_json calls) threads)) ≤ 2
threads_depth calls [] = omega arith
threads_depth calls (thread ∷ threads) = let a = steps_depth (of_thread thread calls) in let b = threads_depth calls threads in omega arith

scenario_depth : (ws : List ℕ) → tree.depth (scenario_json ws) ≤ max_depth
scenario_depth ws = let a = threads_depth (numbered ws) (0 ∷ 1 ∷ 2 ∷ 3 ∷ []) in omega arith

step_numbers : (call : ℕ × ℕ) → tree.HasNumbers (step_json call)
step_numbers call = elim (tested (call.0 % 32 == 31)) [
  | inl e ↦ rw e (IsNumber-decimal (member_by call.1) (small call.1), (tt, (tt, tt)))
  | inr e ↦ rw e (IsNumber-decimal (member_by call.1) (small call.1), (tt, (tt, tt)))
]

steps_numbers : (calls : List (ℕ × ℕ)) → tree.ItemsHaveNumbers (items_of (map step_json calls))
steps_numbers [] = tt
steps_numbers (call ∷ calls) = (step_numbers call, steps_numbers calls)

threads_numbers : (calls : List (ℕ × ℕ)) (threads : List ℕ) → tree.ItemsHaveNumbers (items_of (map (thread_json calls) threads))
threads_numbers calls [] = tt
threads_numbers calls (thread ∷ threads) = (steps_numbers (of_thread thread calls), threads_numbers calls threads)

pub printable : (ws : List ℕ) → ArePrintable (tree.json_tokens (scenario_json ws))
printable ws = ArePrintable-json_tokens (scenario_json ws) (IsNumber-decimal 5 (omega arith), (tt, (threads_numbers (numbered ws) (0 ∷ 1 ∷ 2 ∷ 3 ∷ []), tt)))

-- the tree of the line
pub read_line : (ws : List ℕ) → read (print (tree.json_tokens (scenario_json ws)) ++ newline) ≡ Some (scenario_data (numbered ws))
read_line ws =
    let j = scenario_json ws in
    ap (option_and_then of_json)
    (ap (option_and_then (λ p. json.if_last p.0 p.1))
    (ap (json.value max_depth) (tokens_of_line (tree.json_tokens j) (printable ws) ∙ sym (append-nil (tree.json_tokens j))) ∙ value-json_tokens j max_depth [] (scenario_depth ws)))
    ∙ scenario_of_json ws
