use Rattle.std.proofs.Common.{◌≡◌}
use Rattle.std.specs.Prelude.{map, slice_index_or}
use Rattle.std.specs.List.{range_with_len}
use Rattle.pack_words.specs.LocalCells.{zeros}
use Rattle.piece_moves.proofs.arrays.padded.Given as goal

abbrev pub invariant-loop-r : goal.invariant-loop-r
invariant-loop-r l = l.arrays.items ≡ map (λ k. slice_index_or l.fn.arrays.items k (zeros 1 0)) (range_with_len 0 l.r)
