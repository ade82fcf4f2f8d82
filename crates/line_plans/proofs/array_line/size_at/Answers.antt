use Rattle.std.proofs.Common.{sym}
use Rattle.line_plans.specs.ArrayLines.{words_of}
use Rattle.line_plans.proofs.ProcessLaws.{place_inside, number_inside, lead_good}
use Rattle.line_plans.proofs.array_line.size_at.Goals as goal

pub lead_at-lead-requires-clause-inside : goal.lead_at-lead-requires-clause-inside
lead_at-lead-requires-clause-inside c =
    let at = place_inside c.args.ctx.now c.in-Some.prow c.in-Some.pcol c.args.rank c.npcol.ensures.grid (sym c.in-Some.ensures.place) in
    number_inside (words_of c.args.line.now) c.args.ctx.now c.args.leads.now c.in-Some.prow c.in-Some.pcol c.npcol.result c.requires.leads c.npcol.ensures.columns at.0 at.1

pub lead_at-lead-requires-clause-good : goal.lead_at-lead-requires-clause-good
lead_at-lead-requires-clause-good c =
    let at = place_inside c.args.ctx.now c.in-Some.prow c.in-Some.pcol c.args.rank c.npcol.ensures.grid (sym c.in-Some.ensures.place) in
    lead_good (words_of c.args.line.now) c.args.ctx.now c.args.leads.now c.in-Some.prow c.in-Some.pcol c.npcol.result c.requires.fit c.requires.leads c.npcol.ensures.columns at.0 at.1
