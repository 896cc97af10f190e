pub mod Gives
pub mod Tree
pub mod Reading
pub use Rattle.upd_base.specs.Plan
pub mod Within
