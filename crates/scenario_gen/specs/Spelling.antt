-- How a generated scenario is spelt: one line of JSON without spaces.
use Rattle.std.specs.Prelude.{ℕ, ◌%◌, ◌==◌, if◌then◌else◌, List, [], ◌∷◌, ◌++◌, map, codes, decimal}
use Rattle.json.specs.Json.{Json, number, string, array, object, Items, no_items, item, Members, no_members, member}
use Rattle.json.specs.Tree.{json_tokens}
use Rattle.json.specs.Print.{print}
use Rattle.upd_base.specs.declared.kind.Kind.{Kind}
use Rattle.upd_base.specs.Kind.{kind_text}
use Rattle.scenario_gen.specs.Generate.{kind_by, member_by, message, numbered, of_thread, words}

abbrev pub items_of : List Json → Items
items_of [] = no_items
items_of (j ∷ js) = item j (items_of js)

-- the op of a step, and its operand
abbrev pub change_json : Kind → Members
change_json kind = member (codes "op") (string (codes "change")) (member (codes "kind") (string (kind_text kind)) no_members)

abbrev pub send_json : List ℕ → Members
send_json text = member (codes "op") (string (codes "send")) (member (codes "text") (string text) no_members)

abbrev pub call_json : ℕ → ℕ → Members
call_json c word = if c % 32 == 31 then change_json (kind_by word) else send_json (message c)

abbrev pub step_json : ℕ × ℕ → Json
step_json call = object (member (codes "at") (number (decimal (member_by call.1))) (call_json call.0 call.1))

abbrev pub thread_json : List (ℕ × ℕ) → ℕ → Json
thread_json calls thread = array (items_of (map step_json (of_thread thread calls)))

abbrev pub threads_json : List (ℕ × ℕ) → Json
threads_json calls = array (items_of (map (thread_json calls) (0 ∷ 1 ∷ 2 ∷ 3 ∷ [])))

abbrev pub scenario_json : List ℕ → Json
scenario_json ws =
    object (member (codes "members") (number (decimal 5)) (member (codes "first") (string (codes "consensus")) (member (codes "threads") (threads_json (numbered ws)) no_members)))

-- The line of a seed, with its end.
abbrev pub spelt : ℕ → ℕ → List ℕ
spelt seed calls = print (json_tokens (scenario_json (words seed calls))) ++ 10 ∷ []
