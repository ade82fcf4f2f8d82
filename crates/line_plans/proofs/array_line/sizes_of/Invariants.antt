use Rattle.std.proofs.Common.{◌≡◌, ◌≤◌, ◌*◌, ◌^◌, map}
use Rattle.std.specs.List.{AllByRecursion, range_with_len}
use Rattle.proc_grid.specs.Grid.{place_of}
use Rattle.program_meaning.specs.Declarations.{spread_of, size_by, words_in}
use Rattle.line_plans.specs.ArrayLines.{words_of, HasLead}
use Rattle.line_plans.proofs.array_line.sizes_of.Given as goal

abbrev pub invariant-loop-rank : goal.invariant-loop-rank
invariant-loop-rank l = (l.sizes.items ≡ map (λ r. size_by (spread_of (words_of l.line) l.ctx) l.ctx (place_of l.ctx r)) (range_with_len 0 l.rank)) × (l.words ≡ words_in l.sizes.items) × AllByRecursion HasLead l.sizes.items × (l.words ≤ l.rank * 2 ^ 48)
