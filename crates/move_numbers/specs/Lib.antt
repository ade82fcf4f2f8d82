pub use Rattle.mr2d.specs.Moves
pub use Rattle.mr2d.specs.Plans
pub mod MoveNumbers
