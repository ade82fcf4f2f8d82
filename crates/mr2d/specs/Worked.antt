-- Worked values of the plain move.
use Rattle.std.specs.Prelude.{◌≡◌, ℕ, ℤ, pos, List, [], ◌∷◌, refl}
use Rattle.proc_grid.specs.Grid.{Grid}
use Rattle.index_tools.specs.Home.{Layout}
use Rattle.index_tools.specs.Spread.{below}
use Rattle.pack_words.specs.declared.shape.Shape.TheVariants.{Ge, Tr}
use Rattle.pack_words.specs.declared.uplo.Uplo.TheVariants.{Upper}
use Rattle.pack_words.specs.declared.diag.Diag.TheVariants.{N, U}
use Rattle.pack_words.specs.LocalCells.{LocalCells}
use Rattle.mr2d.specs.Moves.{Move, every_pair, moved_for}

abbrev pub one_rank : ℕ → Grid
one_rank r = record { nprow = 1; npcol = 1; ranks = r ∷ [] }

abbrev pub square : Layout
square = record { rows = 2; columns = 2; mb = 2; nb = 2; rsrc = 0; csrc = 0; nprow = 1; npcol = 1 }

abbrev pub cells : ℕ → ℕ → List ℤ → LocalCells
cells lld cols words = record { lld = lld; cols = cols; words = words }

-- grids that share no rank: a 2 by 2 matrix from rank 0 to rank 1, whose array has leading dimension 5; padding stays
pub padding_stays : (let mv : Move = record { cut = record { shape = Ge; m = 2; n = 2 }; a = record { array = 0; grid = one_rank 0; layout = square; llds = λ p q. 2 }; ia = 0; ja = 0; b = record { array = 1; grid = one_rank 1; layout = square; llds = λ p q. 5 }; ib = 0; jb = 0 } in
    moved_for every_pair mv ((cells 2 2 (pos 1 ∷ pos 2 ∷ pos 11 ∷ pos 12 ∷ []) ∷ cells 1 0 [] ∷ []) ∷ (cells 1 0 [] ∷ cells 5 2 (pos 7 ∷ pos 7 ∷ pos 7 ∷ pos 7 ∷ pos 7 ∷ pos 7 ∷ pos 7 ∷ pos 7 ∷ pos 7 ∷ pos 7 ∷ []) ∷ []) ∷ []))
    ≡ (cells 2 2 (pos 1 ∷ pos 2 ∷ pos 11 ∷ pos 12 ∷ []) ∷ cells 1 0 [] ∷ []) ∷ (cells 1 0 [] ∷ cells 5 2 (pos 1 ∷ pos 2 ∷ pos 7 ∷ pos 7 ∷ pos 7 ∷ pos 11 ∷ pos 12 ∷ pos 7 ∷ pos 7 ∷ pos 7 ∷ []) ∷ []) ∷ []
unfolding moved_for below
padding_stays = refl

-- an upper trapezoid of 3 by 2 on one rank: its diagonal begins in row 1; without it two elements fewer are moved
abbrev pub tall : Layout
tall = record { rows = 3; columns = 2; mb = 3; nb = 2; rsrc = 0; csrc = 0; nprow = 1; npcol = 1 }

pub tall_trapezoid : (let mv : Move = record { cut = record { shape = Tr Upper N; m = 3; n = 2 }; a = record { array = 0; grid = one_rank 0; layout = tall; llds = λ p q. 3 }; ia = 0; ja = 0; b = record { array = 1; grid = one_rank 0; layout = tall; llds = λ p q. 3 }; ib = 0; jb = 0 } in
    moved_for every_pair mv ((cells 3 2 (pos 1 ∷ pos 2 ∷ pos 3 ∷ pos 11 ∷ pos 12 ∷ pos 13 ∷ []) ∷ cells 3 2 (pos 0 ∷ pos 0 ∷ pos 0 ∷ pos 0 ∷ pos 0 ∷ pos 0 ∷ []) ∷ []) ∷ []))
    ≡ (cells 3 2 (pos 1 ∷ pos 2 ∷ pos 3 ∷ pos 11 ∷ pos 12 ∷ pos 13 ∷ []) ∷ cells 3 2 (pos 1 ∷ pos 2 ∷ pos 0 ∷ pos 11 ∷ pos 12 ∷ pos 13 ∷ []) ∷ []) ∷ []
unfolding moved_for below
tall_trapezoid = refl

pub tall_without_diagonal : (let mv : Move = record { cut = record { shape = Tr Upper U; m = 3; n = 2 }; a = record { array = 0; grid = one_rank 0; layout = tall; llds = λ p q. 3 }; ia = 0; ja = 0; b = record { array = 1; grid = one_rank 0; layout = tall; llds = λ p q. 3 }; ib = 0; jb = 0 } in
    moved_for every_pair mv ((cells 3 2 (pos 1 ∷ pos 2 ∷ pos 3 ∷ pos 11 ∷ pos 12 ∷ pos 13 ∷ []) ∷ cells 3 2 (pos 0 ∷ pos 0 ∷ pos 0 ∷ pos 0 ∷ pos 0 ∷ pos 0 ∷ []) ∷ []) ∷ []))
    ≡ (cells 3 2 (pos 1 ∷ pos 2 ∷ pos 3 ∷ pos 11 ∷ pos 12 ∷ pos 13 ∷ []) ∷ cells 3 2 (pos 1 ∷ pos 0 ∷ pos 0 ∷ pos 11 ∷ pos 12 ∷ pos 0 ∷ []) ∷ []) ∷ []
unfolding moved_for below
tall_without_diagonal = refl
