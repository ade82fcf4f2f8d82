use Rattle.std.proofs.Common.{pos, ◌^◌}
use Rattle.line_plans.specs.ArrayLines.{words_of}
use Rattle.line_plans.proofs.ProcessLaws.{good_line, passed_by, refused_by}
use Rattle.line_plans.proofs.array_line.lead_of.Goals as goal

pub least_lead-requires-clause-good : goal.least_lead-requires-clause-good
least_lead-requires-clause-good c = good_line c.args.contexts.now (words_of c.args.line.now) c.args.ctx.now (pos (2 ^ 24)) _ c.npcol.ensures.grid c.requires.context c.in-Ok-check_process.ensures.passes

pub returns-in-Ok-check_process-clause-passes : goal.returns-in-Ok-check_process-clause-passes
returns-in-Ok-check_process-clause-passes c = passed_by c.args.contexts.now (words_of c.args.line.now) c.args.ctx.now c.args.k _ c.args.line.now.lld c.ranks.ensures.grid c.requires.context c.requires.k c.in-None.is c.ranks.ensures.ranks c.in-Ok-check_process.ensures.passes

pub returns-in-Err-check_process-clause-refuses : goal.returns-in-Err-check_process-clause-refuses
returns-in-Err-check_process-clause-refuses c = refused_by c.args.contexts.now (words_of c.args.line.now) c.args.ctx.now c.args.k _ c.args.line.now.lld _ c.ranks.ensures.grid c.requires.context c.requires.k c.in-None.is c.ranks.ensures.ranks c.in-Err-check_process.ensures.refuses
