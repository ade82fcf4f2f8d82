-- The array of the process's rank.
use Rattle.std.proofs.Common.{ℕ, ◌<◌, ap, ◌∙◌, arith}
use Rattle.std.specs.Prelude.{map}
use Rattle.pack_words.specs.GridState.{arrays_held}
use Rattle.mr2d.specs.Homes.{cells_of}
use Rattle.spread_cells.specs.Joining.{Joined, array_at}
use Rattle.program_results.proofs.CellLaws.{part_is}
use Rattle.program_results.proofs.cells.ArrayCells.cells.Goals as goal

pub returns-clause-array : goal.returns-clause-array
returns-clause-array c =
    let x = c.self.inside.place.now in
    let arrays = map arrays_held c.self.inside.nodes.now in
    let row : c.args.p < x.layout.nprow = omega (arith, c.requires.row, ap (λ (j : Joined). j.layout.nprow) c.self.view_is) in
    let column : c.args.q < x.layout.npcol = omega (arith, c.requires.column, ap (λ (j : Joined). j.layout.npcol) c.self.view_is) in
    c.cells_at.ensures ∙ ap (λ (r : ℕ). cells_of arrays r c.self.inside.array) c.rank.ensures.rank
    ∙ part_is arrays c.self.inside.array x c.args.p c.args.q c.rank.ensures.filled row column
    ∙ ap (λ (j : Joined). array_at j.layout j.arrays c.args.p c.args.q) c.self.view_is
