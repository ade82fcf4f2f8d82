-- The move of a part of a matrix, whole or a trapezoid of it, into a part of another.
use Rattle.std.specs.Prelude.{◌≡◌, ◌≢◌, ℕ, ◌+◌, ◌<◌, ◌≤◌, ◌==◌, ◌&&◌, Bool, true, false, ℤ, List, [], length, map, slice_index_or, slice_set, Option, None, Some}
use Rattle.std.specs.List.{range_with_len, filter, flat_map, find}
use Rattle.pack_words.specs.declared.cut.Cut.{Cut}
use Rattle.pack_words.specs.Selected.{is_selected}
use Rattle.pack_words.specs.LocalCells.{LocalCells}
use Rattle.pack_words.specs.GridState.{GridState}
use Rattle.mr2d.specs.Homes.{SpreadArray, RankPlace, rank_place, home_on, Arrays, cells_of, word_in, IsSpread}

-- A move: the shape and its extents, the array of A with the first row and column of the part there, and the same of B.
-- Rows and columns count from 0.
pub record Move : Type 0 where
  pub cut : Cut
  pub a : SpreadArray
  pub ia : ℕ
  pub ja : ℕ
  pub b : SpreadArray
  pub ib : ℕ
  pub jb : ℕ

-- the homes of the part's element (i, j)
abbrev pub home_a : Move → ℕ → ℕ → RankPlace
home_a mv i j = home_on mv.a (mv.ia + i) (mv.ja + j)

abbrev pub home_b : Move → ℕ → ℕ → RankPlace
home_b mv i j = home_on mv.b (mv.ib + i) (mv.jb + j)

-- the element (i, j) of the part is selected
pub record IsElement (mv : Move) (i j : ℕ) : Type 0 where
  pub row : i < mv.cut.m
  pub column : j < mv.cut.n
  pub selected : is_selected mv.cut i j ≡ true

-- how large an array is
abbrev pub frame_of : LocalCells → ℕ × ℕ × ℕ
frame_of c = (c.lld, c.cols, length c.words)

abbrev pub frames_of : Arrays → List (List (ℕ × ℕ × ℕ))
frames_of arrays = map (λ mine. map frame_of mine) arrays

-- The plain move: of each selected element the home in B has A's word of before; every place that is no such home has its
-- word of before, in B and in all other arrays; arrays keep their sizes, and waiting messages stay.
pub record IsPlainMove (mv : Move) (before after : GridState) : Type 0 where
  pub placed : (i j : ℕ) → IsElement mv i j → word_in after.arrays mv.b.array (home_b mv i j) ≡ word_in before.arrays mv.a.array (home_a mv i j)
  pub others : (array : ℕ) (at : RankPlace) → (array ≡ mv.b.array → (i j : ℕ) → IsElement mv i j → home_b mv i j ≢ at) → word_in after.arrays array at ≡ word_in before.arrays array at
  pub sizes : frames_of after.arrays ≡ frames_of before.arrays
  pub waits : (from to : ℕ) → after.waits from to ≡ before.waits from to

-- The selected elements, by columns
abbrev pub elements : Cut → List (ℕ × ℕ)
elements cut = flat_map (λ j. map (λ i. (i, j)) (filter (λ i. is_selected cut i j) (range_with_len 0 cut.m))) (range_with_len 0 cut.n)

-- a test on ordered pairs of ranks
abbrev pub Test : Type 0
Test = ℕ → ℕ → Bool

-- the element is one of those that go from a rank to a rank of which the test holds
abbrev pub is_done : Test → Move → ℕ → ℕ → Bool
is_done done mv i j = done (home_a mv i j).rank (home_b mv i j).rank

-- The move of the elements of some pairs of ranks: what the plain move says, of only these elements.
pub record IsMovedFor (done : Test) (mv : Move) (before after : Arrays) : Type 0 where
  pub placed : (i j : ℕ) → IsElement mv i j → is_done done mv i j ≡ true → word_in after mv.b.array (home_b mv i j) ≡ word_in before mv.a.array (home_a mv i j)
  pub others : (array : ℕ) (at : RankPlace) → (array ≡ mv.b.array → (i j : ℕ) → IsElement mv i j → is_done done mv i j ≡ true → home_b mv i j ≢ at) → word_in after array at ≡ word_in before array at
  pub sizes : frames_of after ≡ frames_of before

-- one place of one rank
abbrev pub is_same_place : RankPlace → RankPlace → Bool
is_same_place x y = (x.rank == y.rank) && (x.place == y.place)

-- the element of such a pair that has its home in B at this place, if there is one
abbrev pub element_at : Test → Move → RankPlace → Option (ℕ × ℕ)
element_at done mv at = find (λ (e : ℕ × ℕ). is_done done mv e.0 e.1 && is_same_place (home_b mv e.0 e.1) at) (elements mv.cut)

-- A's word of the element, or else the word that stands there
abbrev pub word_for : Move → Arrays → RankPlace → Option (ℕ × ℕ) → ℤ
word_for mv arrays at None = word_in arrays mv.b.array at
word_for mv arrays at (Some e) = word_in arrays mv.a.array (home_a mv e.0 e.1)

-- a rank's array of B after the move of those elements, place by place
abbrev pub moved_cells : Test → Move → Arrays → ℕ → LocalCells
moved_cells done mv arrays rank =
    let c = cells_of arrays rank mv.b.array in
    record c { words = map (λ x. word_for mv arrays (rank_place rank x) (element_at done mv (rank_place rank x))) (range_with_len 0 (length c.words)) }

abbrev pub moved_rank : Test → Move → Arrays → ℕ → List LocalCells
moved_rank done mv arrays rank = slice_set (slice_index_or arrays rank []) mv.b.array (moved_cells done mv arrays rank)

-- the arrays after the move of the elements of those pairs
unfoldable pub moved_for : Test → Move → Arrays → Arrays
moved_for done mv arrays = map (moved_rank done mv arrays) (range_with_len 0 (length arrays))

abbrev pub no_pair : Test
no_pair from to = false

abbrev pub every_pair : Test
every_pair from to = true

-- the state after the plain move
abbrev pub plain_move : Move → GridState → GridState
plain_move mv s = record s { arrays = moved_for every_pair mv s.arrays }

-- What is asked of a move: two spread arrays that are not one, and parts that lie in their matrices.
pub record IsMove (mv : Move) : Type 0 where
  pub source : IsSpread mv.a
  pub target : IsSpread mv.b
  pub rows_in_a : mv.ia + mv.cut.m ≤ mv.a.layout.rows
  pub columns_in_a : mv.ja + mv.cut.n ≤ mv.a.layout.columns
  pub rows_in_b : mv.ib + mv.cut.m ≤ mv.b.layout.rows
  pub columns_in_b : mv.jb + mv.cut.n ≤ mv.b.layout.columns
  pub apart : mv.a.array ≢ mv.b.array
