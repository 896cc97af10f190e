-- Which share of which instance stands under a number.
use Rattle.std.specs.Prelude.{ℕ, ◌≡◌, ◌≤◌, List, All}
use Rattle.ct_consensus.specs.Instance.{number_of, members_of, me_of}
use Rattle.ct_consensus.specs.declared.instance.Instance.{Instance}

pub record IsSeated (n me : ℕ) (entry : ℕ × Instance) : Type 0 where
  pub counts : 1 ≤ entry.0
  pub number : number_of entry.1 ≡ entry.0
  pub members : members_of entry.1 ≡ n
  pub me_is : me_of entry.1 ≡ me

abbrev pub AreSeated : ℕ → ℕ → List (ℕ × Instance) → Type 0
AreSeated n me entries = All (IsSeated n me) entries
