-- Memories with room for a plan, rank by rank.
use Rattle.std.specs.Prelude.{◌≡◌, ℕ, ◌<◌, ◌≤◌, List, length, slice_get, slice_index_or, Some}
use Rattle.pack_words.specs.declared.rank_op.RankOp.{RankOp}
use Rattle.pack_words.specs.RankOps.{RankState}
use Rattle.pack_words.specs.GridState.{scratch_needed}

-- each of these numbers is the most elements that one of its rank's operations uses
abbrev pub AreRooms : List (ℕ × RankOp) → List ℕ → Type 0
AreRooms steps rooms = (r : ℕ) → r < length rooms → slice_index_or rooms r 0 ≡ scratch_needed r steps

-- each of these first memories has room for its rank's operations
abbrev pub HaveRoom : List (ℕ × RankOp) → List RankState → Type 0
HaveRoom steps nodes = (r : ℕ) (n : RankState) → slice_get nodes r ≡ Some n → scratch_needed r steps ≤ length n.held
