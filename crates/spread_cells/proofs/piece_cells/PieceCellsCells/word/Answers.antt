use Rattle.std.proofs.Common.{◌≡◌, ◌+◌, ◌*◌, pos, get_or, ◌∙◌, sym}
use Rattle.std.proofs.lemmas.Int.{to_z-of_z}
use mir.Syntax.{w32}
use Rattle.mm_text.specs.Loading.{matrix_of}
use Rattle.spread_cells.proofs.PieceLemmas.{word_of_some, word_of_none, word_of_no_column}
use Rattle.spread_cells.proofs.piece_cells.PieceCellsCells.word.Goals as goal

pub returns-in_default : goal.returns-in_default
returns-in_default c = word_of_none (matrix_of c.args.self.now.whole.now) c.args.self.now.rows.now c.args.self.now.columns.now c.args.i c.args.j c.requires.row c.requires.column (sym c.in_default.ensures)

pub returns-in_default-index_at : goal.returns-in_default-index_at
returns-in_default-index_at c = word_of_no_column (matrix_of c.args.self.now.whole.now) c.args.self.now.rows.now c.args.self.now.columns.now c.args.i c.args.j c.requires.row c.requires.column (sym c.in_default-index_at.ensures)

pub returns : goal.returns
returns c =
    let word = to_z-of_z w32 c.word_or_zero.result (record { sfits = c.word_or_zero.type_inv }) in
    let is : c.word_or_zero.result ≡ get_or c.args.self.now.whole.now.words.items (c.in-Some-index_at.column * c.args.self.now.whole.now.rows + c.in-Some.row) (pos 0) = cc in
    word ∙ word_of_some (matrix_of c.args.self.now.whole.now) c.args.self.now.rows.now c.args.self.now.columns.now c.args.i c.args.j c.in-Some.row c.in-Some-index_at.column c.word_or_zero.result c.requires.row c.requires.column (sym c.in-Some.ensures) (sym c.in-Some-index_at.ensures) is
