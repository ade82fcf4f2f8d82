-- The meets of two spread parts of matrices: rectangles in one block of A and in one block of B.
use Rattle.std.specs.Prelude.{◌≡◌, ℕ, ◌+◌, ◌-◌, ◌<◌, ◌≤◌, ◌↔◌, ◌&&◌, nat_le, nat_lt, Bool, IsTrue, List, map, filter, length, [], ◌∷◌, ⊤}
use Rattle.std.specs.List.{flat_map, sum_by, range_with_len, AllByRecursion}
use Rattle.index_tools.specs.Spread.{owner, local}
use Rattle.block_meet.specs.declared.axis.Axis.{Axis}
use Rattle.block_meet.specs.declared.axis.Run.{Run}
use Rattle.pack_words.specs.declared.cut.Cut.{Cut}
use Rattle.pack_words.specs.declared.shape.Shape.{Shape}
use Rattle.pack_words.specs.declared.shape.Shape.TheVariants.{Ge, Tr}
use Rattle.pack_words.specs.declared.uplo.Uplo.TheVariants.{Upper, Lower}
use Rattle.block_meet.specs.declared.side.Side.{Side}
use Rattle.block_meet.specs.declared.side.Meet.{Meet}
use Rattle.block_meet.specs.Runs.{AreTogether, spread_of}
use Rattle.block_meet.specs.Pairs.{lies_on}
use Rattle.pack_words.specs.Selected.{selects, is_selected}

-- the rows of a part that begins at row `first` of the side's matrix, and its columns
abbrev pub rows_of : Side → ℕ → Axis
rows_of s first = record { first = first; nb = s.mb; src = s.rsrc; procs = s.nprow }

abbrev pub columns_of : Side → ℕ → Axis
columns_of s first = record { first = first; nb = s.nb; src = s.csrc; procs = s.npcol }

-- whether the rectangle has the element (i, j)
abbrev pub covers : ℕ → ℕ → Meet → Bool
covers i j m = (nat_le m.i0 i && nat_lt i (m.i0 + m.rows)) && (nat_le m.j0 j && nat_lt j (m.j0 + m.cols))

-- the element (i, j) lies on process `source` in A and on process `dest` in B
pub record IsOnPair (ra ca rb cb : Axis) (source dest : ℕ × ℕ) (i j : ℕ) : Type 0 where
  pub row_in_a : owner (spread_of ra) (ra.first + i) ≡ source.0
  pub column_in_a : owner (spread_of ca) (ca.first + j) ≡ source.1
  pub row_in_b : owner (spread_of rb) (rb.first + i) ≡ dest.0
  pub column_in_b : owner (spread_of cb) (cb.first + j) ≡ dest.1

-- the element (i0+u, j0+v) has these local indices
pub record IsPlaced (ra ca rb cb : Axis) (m : Meet) (u v : ℕ) : Type 0 where
  pub row_in_a : local (spread_of ra) (ra.first + (m.i0 + u)) ≡ m.ai + u
  pub column_in_a : local (spread_of ca) (ca.first + (m.j0 + v)) ≡ m.aj + v
  pub row_in_b : local (spread_of rb) (rb.first + (m.i0 + u)) ≡ m.bi + u
  pub column_in_b : local (spread_of cb) (cb.first + (m.j0 + v)) ≡ m.bj + v

-- the rectangle has a selected element
abbrev pub HasSelected : Cut → Meet → Type 0
HasSelected cut m = (i : ℕ) × ((j : ℕ) × (IsTrue (covers i j m) × IsTrue (is_selected cut i j)))

-- A meet of the pair (source, dest) of processes: a rectangle with a selected element, which has just the elements
-- that lie in one block of A and in one block of B with its first. They lie on source in A and on dest in B, from the
-- local indices (ai, aj) and (bi, bj) on.
pub record IsMeet (cut : Cut) (ra ca rb cb : Axis) (source dest : ℕ × ℕ) (m : Meet) : Type 0 where
  pub some : HasSelected cut m
  pub bottom : m.i0 + m.rows ≤ cut.m
  pub right : m.j0 + m.cols ≤ cut.n
  pub members : (i j : ℕ) → i < cut.m → j < cut.n → IsTrue (covers i j m) ↔ (AreTogether ra rb m.i0 i × AreTogether ca cb m.j0 j)
  pub on_pair : (u v : ℕ) → u < m.rows → v < m.cols → IsOnPair ra ca rb cb source dest (m.i0 + u) (m.j0 + v)
  pub placed : (u v : ℕ) → u < m.rows → v < m.cols → IsPlaced ra ca rb cb m u v

-- by increasing j0, then i0
abbrev pub IsBefore : Meet → Meet → Type 0
IsBefore x y = (x.j0 ≤ y.j0) × (x.j0 ≡ y.j0 → x.i0 < y.i0)

abbrev pub AreOrdered : List Meet → Type 0
AreOrdered [] = ⊤
AreOrdered (m ∷ ms) = AllByRecursion (IsBefore m) ms × AreOrdered ms

-- the rectangle of a run of the rows and a run of the columns
abbrev pub rectangle : Run → Run → Meet
rectangle r c = record { i0 = r.start; j0 = c.start; rows = r.len; cols = c.len; ai = r.la; aj = c.la; bi = r.lb; bj = c.lb }

-- all of them, column run by column run
abbrev pub rectangles : List Run → List Run → List Meet
rectangles rs cs = flat_map (λ c. map (λ r. rectangle r c) rs) cs

-- whether a rectangle has a selected element: the shape decides at one corner
abbrev pub touched : Shape → ℕ → ℕ → Meet → Bool
touched Ge m n t = selects Ge m n t.i0 t.j0
touched (Tr Upper d) m n t = selects (Tr Upper d) m n t.i0 (t.j0 + t.cols - 1)
touched (Tr Lower d) m n t = selects (Tr Lower d) m n (t.i0 + t.rows - 1) t.j0

abbrev pub touches : Cut → Meet → Bool
touches cut t = touched cut.shape cut.m cut.n t

-- the meets of a pair of processes, from all runs of the rows and of the columns
abbrev pub meets_between : Cut → List Run → List Run → ℕ × ℕ → ℕ × ℕ → List Meet
meets_between cut rs cs source dest = filter (touches cut) (rectangles (filter (lies_on source.0 dest.0) rs) (filter (lies_on source.1 dest.1) cs))

-- how many meets all pairs have: process (p, u) of A and process (q, v) of B, added up
abbrev pub meets_of_all_pairs : Cut → Axis → Axis → Axis → Axis → List Run → List Run → ℕ
meets_of_all_pairs cut ra rb ca cb rs cs = sum_by (λ p. sum_by (λ q. sum_by (λ u. sum_by (λ v. length (meets_between cut rs cs (p, u) (q, v))) (range_with_len 0 cb.procs)) (range_with_len 0 ca.procs)) (range_with_len 0 rb.procs)) (range_with_len 0 ra.procs)
