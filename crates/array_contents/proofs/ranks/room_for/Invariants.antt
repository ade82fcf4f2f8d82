use Rattle.std.proofs.Common.{ℕ, [], length, slice_index_or, ◌<◌, ◌≤◌}
use Rattle.pack_words.specs.LocalCells.{zeros}
use Rattle.array_contents.specs.Contents.{arrays_of}
use Rattle.array_contents.proofs.ranks.room_for.Given as goal

abbrev pub invariant-loop-rank : goal.invariant-loop-rank
invariant-loop-rank l = (r : ℕ) → r < l.rank → l.array < length (slice_index_or (arrays_of l.ranks) r []) → (slice_index_or (slice_index_or (arrays_of l.ranks) r []) l.array (zeros 1 0)).lld ≤ l.longest
