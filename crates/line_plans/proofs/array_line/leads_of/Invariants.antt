use Rattle.std.proofs.Common.{◌≡◌, ◌/◌, map, None}
use Rattle.std.specs.List.{range_with_len}
use Rattle.proc_grid.specs.FirstOf.{first_of}
use Rattle.program_meaning.specs.Declarations.{lead_on, process_info}
use Rattle.line_plans.specs.ArrayLines.{words_of}
use Rattle.line_plans.proofs.array_line.leads_of.Given as goal

abbrev pub invariant-loop-k : goal.invariant-loop-k
invariant-loop-k l = (l.leads.items ≡ map (λ k. lead_on (words_of l.line) l.ctx.nprow (k / l.ctx.npcol) l.line.lld) (range_with_len 0 l.k)) × (first_of (process_info l.contexts (words_of l.line) l.ctx) l.k ≡ None)
