-- The greatest runs of an axis: consecutive indices that lie in one block of A and in one block of B.
use Rattle.std.specs.Prelude.{◌≡◌, ℕ, ◌+◌, ◌/◌, ◌^◌, ◌<◌, ◌≤◌, ◌↔◌, ◌&&◌, Bool, nat_le, nat_lt, List, [], ◌∷◌}
use Rattle.block_meet.specs.declared.axis.Axis.{Axis}
use Rattle.block_meet.specs.declared.axis.Run.{Run}
use Rattle.index_tools.specs.Spread.{Spread, spread, owner, local}

-- What the calls ask of an axis of n indices: the bounds of the index functions.
pub record IsAxis (n : ℕ) (a : Axis) : Type 0 where
  pub block : 1 ≤ a.nb
  pub block_fits : a.nb ≤ 2 ^ 24
  pub processes : a.procs ≤ 64
  pub source : a.src < a.procs
  pub within : a.first + n ≤ 2 ^ 24

-- how the dimension is spread that the axis is a part of
abbrev pub spread_of : Axis → Spread
spread_of a = spread a.nb a.src a.procs

-- the block that the i-th index of the axis lies in
abbrev pub block_at : Axis → ℕ → ℕ
block_at a i = (a.first + i) / a.nb

-- the i-th and the j-th index lie in one block of A and in one block of B
abbrev pub AreTogether : Axis → Axis → ℕ → ℕ → Type 0
AreTogether a b i j = (block_at a i ≡ block_at a j) × (block_at b i ≡ block_at b j)

-- A greatest run of the first n indices: it holds just those indices that lie in one block of A and one of B with
-- its first. Beside it stand the owners and the local indices of its first index.
pub record IsRun (n : ℕ) (a b : Axis) (r : Run) : Type 0 where
  pub some : 0 < r.len
  pub inside : r.start + r.len ≤ n
  pub members : (i : ℕ) → i < n → ((r.start ≤ i) × (i < r.start + r.len)) ↔ AreTogether a b r.start i
  pub owner_a : r.pa ≡ owner (spread_of a) (a.first + r.start)
  pub owner_b : r.pb ≡ owner (spread_of b) (b.first + r.start)
  pub local_a : r.la ≡ local (spread_of a) (a.first + r.start)
  pub local_b : r.lb ≡ local (spread_of b) (b.first + r.start)

-- greatest runs one after the other, from index `from` up to index `to`
abbrev pub AreRunsFrom : ℕ → Axis → Axis → ℕ → ℕ → List Run → Type 0
AreRunsFrom n a b from to [] = from ≡ to
AreRunsFrom n a b from to (r ∷ rs) = (r.start ≡ from) × IsRun n a b r × AreRunsFrom n a b (from + r.len) to rs

-- the greatest runs of the first n indices, in increasing order
abbrev pub AreRuns : ℕ → Axis → Axis → List Run → Type 0
AreRuns n a b rs = AreRunsFrom n a b 0 n rs

-- whether a run holds an index
abbrev pub holds : ℕ → Run → Bool
holds i r = nat_le r.start i && nat_lt i (r.start + r.len)
