pub use Rattle.fold_ops.specs.Tree
pub use Rattle.fold_ops.specs.Fold
pub use Rattle.fold_ops.specs.FoldOf
pub use Rattle.route_tree.specs.Routes
pub mod Passing
pub mod Joining
pub mod Doing
pub mod Elements
