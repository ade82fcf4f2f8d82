-- The array of the process's rank.
use Rattle.std.proofs.Common.{◌≡◌, ℕ, ◌/◌, ◌%◌, ap, ◌∙◌}
use Rattle.std.specs.Prelude.{map}
use Rattle.pack_words.specs.GridState.{arrays_held}
use Rattle.mr2d.specs.Homes.{cells_of}
use Rattle.program_results.specs.Standing.{rank_at}
use Rattle.program_results.proofs.CellLaws.{piece_is}
use Rattle.program_results.proofs.cells.piece_cells.Goals as goal

pub returns : goal.returns
returns c =
    let x = c.args.place.now in
    let k = c.args.process in
    let rank : c.rank.result ≡ rank_at x (k / x.layout.npcol) (k % x.layout.npcol) = c.rank.ensures.rank ∙ ap (λ (n : ℕ). rank_at x (k / n) (k % n)) c.npcol-npcol.ensures.columns in
    c.cells_at.ensures ∙ ap (λ (r : ℕ). cells_of (map arrays_held c.args.nodes.now) r c.args.array) rank ∙ piece_is (map arrays_held c.args.nodes.now) c.args.array x k c.rank.ensures.filled c.requires.process
