pub use Rattle.msg_core.specs.Stages
pub use Rattle.pack_words.specs.GridState
pub mod PlanRuns
