use Rattle.std.proofs.Common.{◌≡◌, ◌+◌, ◌/◌, ◌∷◌, [], ◌++◌, length, refl, ap, ◌∙◌, arith, w64, to_z-of_z, to_z, of_z}
use Rattle.proc_grid.proofs.FirstLemmas.{first_of-at}
use Rattle.program_meaning.specs.Declarations.{lead_on, process_info}
use Rattle.line_plans.specs.ArrayLines.{words_of}
use Rattle.line_plans.proofs.ProcessLaws.{first_none, first_next, grown_by}
use Rattle.line_plans.proofs.array_line.leads_of.Goals as goal

pub loop-k-init : goal.loop-k-init
loop-k-init c = (c.in-Ok.ensures.items, first_none (process_info c.args.contexts.now (words_of c.args.line.now) c.args.ctx.now))

pub returns-in-Err-clause-refuses : goal.returns-in-Err-clause-refuses
returns-in-Err-clause-refuses c =
    first_of-at (process_info c.args.contexts.now (words_of c.args.line.now) c.args.ctx.now) c.loop-k.k (length c.args.ctx.now.ranks) c.in-Err.info c.loop-k.invariant.1 c.in-Err.ensures.refuses c.lead_of.ensures.inside

pub loop-k-preserved : goal.loop-k-preserved
loop-k-preserved c =
    let whole : to_z w64 (of_z w64 c.in-Ok-lead_of.lead) ≡ c.in-Ok-lead_of.lead = grind (arith, to_z-of_z) in (
      grown_by (λ k. lead_on (words_of c.args.line.now) c.args.ctx.now.nprow (k / c.args.ctx.now.npcol) c.args.line.now.lld) c.loop-k.leads.items c.push.new.self.items c.in-Ok-lead_of.lead c.loop-k.k (c.loop-k.k + 1) (c.in-Ok-push.ensures.items ∙ ap (λ n. c.loop-k.leads.items ++ n ∷ []) whole) c.in-Ok-lead_of.ensures.lead c.loop-k.invariant.0 refl,
      first_next (process_info c.args.contexts.now (words_of c.args.line.now) c.args.ctx.now) c.loop-k.k (c.loop-k.k + 1) c.loop-k.invariant.1 c.in-Ok-lead_of.ensures.passes refl,
    )
