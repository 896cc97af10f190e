-- The lowest member with a longest log.
use Rattle.std.proofs.Common.{ℕ, zero, suc, ◌≡◌, ◌<◌, ◌≤◌, ◌⊎◌, inl, inr, List, [], ◌∷◌, ◌++◌, length, refl, sym, ◌∙◌, ap, subst, arith, true, false, append-nil, length-append}
use Rattle.std.specs.Prelude.{nat_lt}
use Rattle.std.proofs.lemmas.Bool.{cases_lt, cases_eq}
use Rattle.fifo_net.specs.Net.{IsPrefix}
use Rattle.order_trait.specs.Runs.{Agree}
use Rattle.upd_base.specs.Plan.{Planned}
use Rattle.upd_base.specs.declared.entry.Entry.{Entry}
use Rattle.group_run.specs.Group.{Rules}
use Rattle.group_run.specs.Run.{Events, log_in}
use Rattle.group_run.specs.Ordered.{IsOrdered}
use Rattle.group_run.proofs.Lists.{tested}
use Rattle.group_laws.specs.Canon.{longer_of, longest_below}

-- of two members, by which log is longer
abbrev pub LongerOf : Rules → Planned → Events → ℕ → ℕ → ℕ → Type 0
LongerOf rules plan past i j lead =
    ((lead ≡ j) × (length (log_in rules plan past i) < length (log_in rules plan past j))) ⊎ ((lead ≡ i) × (length (log_in rules plan past j) ≤ length (log_in rules plan past i)))

pub longer_cases : (rules : Rules) (plan : Planned) (past : Events) (i j : ℕ) → LongerOf rules plan past i j (longer_of rules plan past i j)
longer_cases rules plan past i j = elim (cases_lt (length (log_in rules plan past i)) (length (log_in rules plan past j))) [
  | inl lt ↦ let t : nat_lt (length (log_in rules plan past i)) (length (log_in rules plan past j)) ≡ true = grind arith in inl (rw t refl, lt)
  | inr ge ↦ let t : nat_lt (length (log_in rules plan past i)) (length (log_in rules plan past j)) ≡ false = grind arith in inr (rw t refl, ge)
]

-- the lead among so many members
pub record Leads (rules : Rules) (plan : Planned) (past : Events) (n lead : ℕ) : Type 0 where
  pub longest : (i : ℕ) → i < n → length (log_in rules plan past i) ≤ length (log_in rules plan past lead)
  pub lowest : (i : ℕ) → i < lead → length (log_in rules plan past i) < length (log_in rules plan past lead)

leads_next : (rules : Rules) (plan : Planned) (past : Events) (k lead next : ℕ) → lead ≤ k → Leads rules plan past k lead → LongerOf rules plan past lead k next → Leads rules plan past (suc k) next
leads_next rules plan past k lead next le l (inl (is, lt)) = subst (Leads rules plan past (suc k)) (sym is) (record {
  longest = λ i b. elim (cases_eq i k) [ inl e ↦ subst (λ x. length (log_in rules plan past x) ≤ length (log_in rules plan past k)) (sym e) (omega arith) | inr ne ↦ let a = l.longest i (omega arith) in omega arith ];
  lowest = λ i b. let a = l.longest i b in omega arith;
})
leads_next rules plan past k lead next le l (inr (is, ge)) = subst (Leads rules plan past (suc k)) (sym is) (record {
  longest = λ i b. elim (cases_eq i k) [ inl e ↦ subst (λ x. length (log_in rules plan past x) ≤ length (log_in rules plan past lead)) (sym e) ge | inr ne ↦ l.longest i (omega arith) ];
  lowest = l.lowest;
})

lead_low : (rules : Rules) (plan : Planned) (past : Events) (k : ℕ) → longest_below rules plan past k ≤ k
lead_low rules plan past zero = omega arith
lead_low rules plan past (suc k) = cases (longer_cases rules plan past (longest_below rules plan past k) k) (lead_low rules plan past k)
  where
    cases : LongerOf rules plan past (longest_below rules plan past k) k (longest_below rules plan past (suc k)) → longest_below rules plan past k ≤ k → longest_below rules plan past (suc k) ≤ suc k
    cases (inl (is, lt)) le = omega arith
    cases (inr (is, ge)) le = omega arith

pub leads_all : (rules : Rules) (plan : Planned) (past : Events) (n : ℕ) → Leads rules plan past n (longest_below rules plan past n)
leads_all rules plan past zero = record { longest = λ i lt. absurd (omega arith); lowest = λ i lt. absurd (omega arith) }
leads_all rules plan past (suc k) =
    leads_next rules plan past k (longest_below rules plan past k) (longest_below rules plan past (suc k)) (lead_low rules plan past k) (leads_all rules plan past k) (longer_cases rules plan past (longest_below rules plan past k) k)

-- of two lists that agree the shorter begins the longer
begins_longer : (xs ys : List Entry) → Agree xs ys → length xs ≤ length ys → IsPrefix xs ys
begins_longer xs ys (inl p) le = p
begins_longer xs ys (inr ([], e)) le = ([], sym (append-nil ys) ∙ sym e ∙ sym (append-nil xs))
begins_longer xs ys (inr (z ∷ zs, e)) le = absurd (let l = ap length e in let a = length-append ys (z ∷ zs) in omega arith)

pub log_begins : (rules : Rules) (plan : Planned) (past : Events) → IsOrdered rules plan past → (i lead : ℕ) → i < plan.members → lead < plan.members
    → length (log_in rules plan past i) ≤ length (log_in rules plan past lead) → IsPrefix (log_in rules plan past i) (log_in rules plan past lead)
log_begins rules plan past ordered i lead fi fl le = begins_longer (log_in rules plan past i) (log_in rules plan past lead) (ordered.agree i lead fi fl) le
