pub mod Report
pub use Rattle.upd_base.specs.Plan
