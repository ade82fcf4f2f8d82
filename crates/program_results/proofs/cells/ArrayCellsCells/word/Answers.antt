-- The word that the homes of the row and the column lead to.
use Rattle.std.proofs.Common.{◌∙◌}
use Rattle.std.proofs.lemmas.Int.{to_z-of_z}
use mir.Syntax.{w32}
use Rattle.spread_cells.proofs.JoiningLaws.{word_found}
use Rattle.program_results.proofs.cells.ArrayCellsCells.word.Goals as goal

pub returns : goal.returns
returns c =
    to_z-of_z w32 c.get.result (record { sfits = c.get.type_inv })
    ∙ word_found c.args.self.now.layout c.args.self.now.arrays c.args.i c.args.j c.row_home-row.result c.column_home-column.result c.cells.result.now c.get.result c.requires.row c.requires.column c.row_home-row.ensures.home c.column_home-column.ensures.home c.cells.ensures.array c.get.ensures
