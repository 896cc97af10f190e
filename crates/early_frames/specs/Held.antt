-- Held frames as the code keeps them. Which wait, which is ready and what is left of them is said of group runs.
use Rattle.std.specs.Prelude.{ℕ, List}
use Rattle.upd_base.specs.declared.frame.Frame.{Frame}

-- What is seen of the held frames: each with its sender, in the order of arrival, and for how many more there is room.
pub record Kept : Type 0 where
  pub frames : List (ℕ × Frame)
  pub spare : ℕ
