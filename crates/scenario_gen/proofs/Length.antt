-- A generated line is short enough for a scenario.
use Rattle.std.proofs.Common.{ℕ, ◌<◌, ◌≤◌, ◌+◌, ◌*◌, ◌/◌, ◌%◌, ◌==◌, ◌&&◌, inl, inr, Bool, true, false, cond, List, [], ◌∷◌, ◌++◌, length, map, arith, decimal, length-append}
use Rattle.std.specs.Prelude.{codes, nat_lt}
use Rattle.std.proofs.lemmas.Fmt.{length-decimal-le}
use Rattle.json.specs.Token.{Token}
use Rattle.json.specs.Print.{begins, ends, escape, escape_byte, escape_letter, print, print_from, quoted, token_text}
use Rattle.json.specs.Tree.{items_tokens, json_tokens, room}
use Rattle.json.proofs.Printed.Trees.{room-append}
use Rattle.upd_base.specs.Kind.{kind_text}
use Rattle.scenario_gen.specs.Generate.{kind_by, member_by, message, numbered, of_thread}
use Rattle.scenario_gen.specs.Spelling.{items_of, scenario_json, step_json, thread_json, threads_json}
use Rattle.scenario_gen.proofs.Counts.{AreNumbers, all_threads, length_numbered, numbers, numbers_of_thread, one, tested, total, total_one}

separator_short : (b : Bool) → length {A = ℕ} (cond b (44 ∷ []) []) ≤ 1
separator_short true = omega arith
separator_short false = omega arith

print_short : (c : Bool) (ts : List Token) → length (print_from c ts) ≤ room ts
unfolding print_from
print_short c [] = omega arith
print_short c (t ∷ ts) =
    let s = separator_short (c && begins t) in
    let r = print_short (ends t) ts in
    let a = length-append (cond (c && begins t) (44 ∷ []) []) (token_text t ++ print_from (ends t) ts) in
    let b = length-append (token_text t) (print_from (ends t) ts) in
    omega arith

-- Strings ------------------------------------------------------------------------------------------------------------

byte_short : (x : ℕ) → length (escape_byte x) ≤ 6
unfolding escape_byte
byte_short x = elim (tested (nat_lt 0 (escape_letter x))) [
  | inl e ↦ rw e (omega arith)
  | inr e ↦ elim (tested (nat_lt x 32)) [ inl f ↦ rw (e, f) (omega arith) | inr f ↦ rw (e, f) (omega arith) ]
]

escape_short : (s : List ℕ) → length (escape s) ≤ 6 * length s
escape_short [] = omega arith
escape_short (x ∷ s) =
    let b = byte_short x in
    let r = escape_short s in
    let a = length-append (escape_byte x) (escape s) in
    omega arith

quoted_short : (s : List ℕ) → length (quoted s) ≤ 6 * length s + 2
quoted_short s = let e = escape_short s in let a = length-append (escape s) (34 ∷ []) in omega arith

string_room : (s : List ℕ) (n : ℕ) → length s ≤ n → length (token_text (Token.string s)) + 1 ≤ 6 * n + 3
string_room s n le = let q = quoted_short s in omega arith

key_room : (s : List ℕ) (n : ℕ) → length s ≤ n → length (token_text (Token.key s)) + 1 ≤ 6 * n + 4
key_room s n le = let q = quoted_short s in let a = length-append (quoted s) (58 ∷ []) in omega arith

digit_room : (word : ℕ) → length (decimal (member_by word)) ≤ 1
digit_room word = length-decimal-le 1 (member_by word) (omega arith) (omega arith) (omega arith)

name_short : (word : ℕ) → length (kind_text (kind_by word)) ≤ 11
unfolding kind_text
name_short word = elim (tested (word / 5 % 3 == 0)) [
  | inl e ↦ rw e (let d = length-decimal-le 1 (word / 15 % 5) (omega arith) (omega arith) (omega arith) in let a = length-append (codes "sequencer ") (decimal (word / 15 % 5)) in omega arith)
  | inr e ↦ elim (tested (word / 5 % 3 == 1)) [ inl f ↦ rw (e, f) (omega arith) | inr f ↦ rw (e, f) (omega arith) ]
]

message_short : (c : ℕ) → c < 1000 → length (message c) ≤ 4
message_short c lt = let d = length-decimal-le 3 c (omega arith) (omega arith) (omega arith) in omega arith

-- Steps and threads --------------------------------------------------------------------------------------------------

step_room : (call : ℕ × ℕ) → call.0 < 1000 → room (json_tokens (step_json call)) ≤ 200
step_room call lt =
    let at = key_room (codes "at") 2 (omega arith) in
    let op = key_room (codes "op") 2 (omega arith) in
    let digit = digit_room call.1 in
    elim (tested (call.0 % 32 == 31)) [
      | inl e ↦ rw e (
          let name = string_room (codes "change") 6 (omega arith) in
          let kind = key_room (codes "kind") 4 (omega arith) in
          let value = string_room (kind_text (kind_by call.1)) 11 (name_short call.1) in
          omega arith)
      | inr e ↦ rw e (
          let name = string_room (codes "send") 4 (omega arith) in
          let text = key_room (codes "text") 4 (omega arith) in
          let value = string_room (message call.0) 4 (message_short call.0 lt) in
          omega arith)
    ]

steps_room : (calls : List (ℕ × ℕ)) → AreNumbers calls → room (items_tokens (items_of (map step_json calls))) ≤ 200 * length calls + 2
steps_room [] h = omega arith
steps_room (call ∷ calls) h =
    let s = step_room call h.0 in
    let r = steps_room calls h.1 in
    let a = room-append (json_tokens (step_json call)) (items_tokens (items_of (map step_json calls))) in
    omega arith

thread_room : (calls : List (ℕ × ℕ)) (thread : ℕ) → AreNumbers calls → room (json_tokens (thread_json calls thread)) ≤ 200 * total one (of_thread thread calls) + 4
thread_room calls thread h =
    let s = steps_room (of_thread thread calls) (numbers_of_thread thread calls h) in
    let l = total_one (of_thread thread calls) in
    omega arith

threads_room : (calls : List (ℕ × ℕ)) → AreNumbers calls → length calls ≤ 1000 → room (json_tokens (threads_json calls)) ≤ 200100
threads_room calls h le =
    let a = thread_room calls 0 h in
    let b = thread_room calls 1 h in
    let c = thread_room calls 2 h in
    let d = thread_room calls 3 h in
    let all = all_threads one calls in
    let l = total_one calls in
    let t3 = json_tokens (thread_json calls 3) in
    let e = room-append t3 (Token.end_array ∷ []) in
    let f = room-append (json_tokens (thread_json calls 2)) (t3 ++ (Token.end_array ∷ [])) in
    let g = room-append (json_tokens (thread_json calls 1)) (json_tokens (thread_json calls 2) ++ (t3 ++ (Token.end_array ∷ []))) in
    let k = room-append (json_tokens (thread_json calls 0)) (json_tokens (thread_json calls 1) ++ (json_tokens (thread_json calls 2) ++ (t3 ++ (Token.end_array ∷ [])))) in
    omega arith

pub line_short : (ws : List ℕ) → length ws ≤ 1000 → length (print (json_tokens (scenario_json ws)) ++ 10 ∷ []) ≤ 1048576
line_short ws le =
    let calls = numbered ws in
    let many = length_numbered 0 ws in
    let t = threads_room calls (numbers 0 ws (omega arith)) (omega arith) in
    let p = print_short false (json_tokens (scenario_json ws)) in
    let a = length-append (print (json_tokens (scenario_json ws))) (10 ∷ []) in
    let m = key_room (codes "members") 7 (omega arith) in
    let f = key_room (codes "first") 5 (omega arith) in
    let v = string_room (codes "consensus") 9 (omega arith) in
    let k = key_room (codes "threads") 7 (omega arith) in
    let d = length-decimal-le 1 5 (omega arith) (omega arith) (omega arith) in
    let r = room-append (json_tokens (threads_json calls)) (Token.end_object ∷ []) in
    omega arith
