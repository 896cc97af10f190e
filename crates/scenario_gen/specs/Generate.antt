-- The scenario of a seed: its calls, each by a word of the seed's generator.
use Rattle.std.specs.Prelude.{ℕ, zero, suc, ◌/◌, ◌%◌, ◌==◌, if◌then◌else◌, List, [], ◌∷◌, ◌++◌, map, filter, codes, decimal}
use Rattle.std.specs.List.{enumerate_from}
use Rattle.rand_core.specs.Pcg32Seed.{pcg32_seed}
use Rattle.rand_pcg.specs.Lcg.{Lcg}
use Rattle.rand_pcg.specs.Pcg.{pcg32, pcg32_of_seed}
use Rattle.upd_base.specs.Plan.{Planned}
use Rattle.upd_base.specs.declared.kind.Kind.{Kind}
use Rattle.upd_base.specs.declared.kind.Kind.TheVariants.{Sequencer, Lamport, Consensus}
use Rattle.upd_base.specs.declared.call.Call.{Call}
use Rattle.upd_base.specs.declared.call.Call.TheVariants.{Send, Change}
use Rattle.upd_base.specs.declared.call.Step.{Step}

-- The words of a generator are its successive outputs.
abbrev pub words_from : ℕ → Lcg → List ℕ
words_from zero g = []
words_from (suc n) g = (pcg32 g).0 ∷ words_from n (pcg32 g).1

-- the generator of a seed
abbrev pub generator_of : ℕ → Lcg
generator_of seed = pcg32_of_seed (pcg32_seed 16 seed)

-- the first words of a seed, as many as there are calls
abbrev pub words : ℕ → ℕ → List ℕ
words seed calls = words_from calls (generator_of seed)

-- Each word is that of one call: the calls by number, each with its word.
abbrev pub numbered : List ℕ → List (ℕ × ℕ)
numbered ws = enumerate_from 0 ws

-- Call number c belongs to thread c mod 4.
abbrev pub of_thread : ℕ → List (ℕ × ℕ) → List (ℕ × ℕ)
of_thread thread calls = filter (λ call. call.0 % 4 == thread) calls

-- the member that makes a call
abbrev pub member_by : ℕ → ℕ
member_by word = word % 5

-- the kind that a change asks for
abbrev pub kind_by : ℕ → Kind
kind_by word =
    if word / 5 % 3 == 0 then Sequencer (word / 15 % 5)
    else if word / 5 % 3 == 1 then Lamport else Consensus

-- what call number c sends
abbrev pub message : ℕ → List ℕ
message c = codes "m" ++ decimal c

-- The last call of each 32 is a change; the others send.
abbrev pub call_by : ℕ → ℕ → Call
call_by c word = if c % 32 == 31 then Change (kind_by word) else Send (message c)

abbrev pub step_by : ℕ × ℕ → Step
step_by call = record { at = member_by call.1; call = call_by call.0 call.1 }

abbrev pub steps_by : List (ℕ × ℕ) → ℕ → List Step
steps_by calls thread = map step_by (of_thread thread calls)

abbrev pub plan_by : List ℕ → Planned
plan_by ws = record { members = 5; first = Consensus; threads = map (steps_by (numbered ws)) (0 ∷ 1 ∷ 2 ∷ 3 ∷ []) }

-- The plan of a seed: five members that begin with consensus, and four threads.
abbrev pub generated : ℕ → ℕ → Planned
generated seed calls = plan_by (words seed calls)
