-- What a join holds.
use Rattle.std.proofs.Common.{◌≡◌, ℕ, ◌+◌, ◌*◌, List, sym, ap, subst, ◌∙◌, arith}
use Rattle.std.specs.Prelude.{map, max}
use Rattle.index_tools.specs.Home as home
use Rattle.pack_words.specs.LocalCells.{LocalCells}
use Rattle.mm_grammar.specs.PlainText.{plain_text}
use Rattle.spread_cells.specs.LayoutView.{layout_view}
use Rattle.spread_cells.specs.Joining.{Joined, joined, HoldsSpread}
use Rattle.spread_cells.specs.JoinedMatrix.{matrix_of}
use Rattle.spread_cells.specs.declared.layout.Layout.{Layout}
use Rattle.piece_grammar.specs.Pieces as pieces
use Rattle.piece_file.specs.PieceView.{piece_view}
use Rattle.piece_file.specs.Gathering.{AreTurns}
use Rattle.piece_file.specs.declared.piece.Piece.{Piece as Held}
use Rattle.piece_moves.specs.PieceMove.{array_of}
use Rattle.file_tools.specs.JoinWalk.{layout_by, whole_of, join_words}
use Rattle.file_tools.proofs.TurnLaws.{turns_hold}

-- the words that were counted are those of the join
pub count_is : (items d e : List Held) (l : Layout) (a b : ℕ) → d ≡ items → e ≡ items → layout_view l ≡ layout_by (map piece_view d) → a ≡ pieces.words_of (map piece_view e) → b ≡ max 1 l.rows * max 1 l.columns + l.rows * l.columns
    → a + b ≡ join_words (map piece_view items)
count_is items d e l a b here there layout words whole =
    let area : home.Layout → ℕ = λ m. max 1 m.rows * max 1 m.columns + m.rows * m.columns in
    let ours : layout_view l ≡ layout_by (map piece_view items) = layout ∙ ap (λ (ps : List Held). layout_by (map piece_view ps)) here in
    let all : a ≡ pieces.words_of (map piece_view items) = words ∙ ap (λ (ps : List Held). pieces.words_of (map piece_view ps)) there in
    let rest : b ≡ area (layout_by (map piece_view items)) = whole ∙ ap area ours in
    omega (arith, all, rest)

-- the arrays hold the matrix
pub arrays_hold : (items d e : List Held) (l : Layout) (arrays now : List LocalCells) → d ≡ items → e ≡ items → layout_view l ≡ layout_by (map piece_view d) → AreTurns (map piece_view e) → arrays ≡ map array_of (map piece_view items) → now ≡ arrays → HoldsSpread (layout_view l) now
arrays_hold items d e l arrays now here there layout turns are is =
    let P : home.Layout → Type 0 = λ m. HoldsSpread m now in
    let Q : List LocalCells → Type 0 = HoldsSpread (layout_by (map piece_view items)) in
    let T : List Held → Type 0 = λ ps. AreTurns (map piece_view ps) in
    subst P (sym (layout ∙ ap (λ (ps : List Held). layout_by (map piece_view ps)) here)) (subst Q (sym (is ∙ are)) (turns_hold (map piece_view items) (subst T there turns)))

-- the matrix that is written is the whole matrix
pub cells_are_whole : (items d : List Held) (l : Layout) (arrays now : List LocalCells) (cells : Joined) → d ≡ items → layout_view l ≡ layout_by (map piece_view d) → arrays ≡ map array_of (map piece_view items) → now ≡ arrays → cells ≡ record { layout = layout_view l; arrays = now }
    → plain_text (matrix_of cells) ≡ plain_text (whole_of (map piece_view items))
cells_are_whole items d l arrays now cells here layout are is made =
    ap plain_text (ap matrix_of made ∙ ap (λ (m : home.Layout). joined m now) (layout ∙ ap (λ (ps : List Held). layout_by (map piece_view ps)) here) ∙ ap (joined (layout_by (map piece_view items))) (is ∙ are))
