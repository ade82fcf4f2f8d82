use Rattle.std.proofs.Common.{◌≡◌, take}
use Rattle.std.specs.Prelude.{map}
use Rattle.std.specs.List.{AllByRecursion}
use Rattle.pack_words.specs.GridShapes.{IsSize}
use Rattle.piece_moves.specs.Sizes.{size_in, AreWhole}
use Rattle.piece_moves.proofs.sizes.sizes_of.Given as goal

abbrev pub invariant-loop-node : goal.invariant-loop-node
invariant-loop-node l = record {
  sizes : l.sizes.items ≡ map (size_in l.array) (take l.node-index l.nodes);
  fit : AllByRecursion IsSize l.sizes.items;
  whole : AllByRecursion (AreWhole l.array) (take l.node-index l.nodes);
}
