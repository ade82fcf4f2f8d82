use Rattle.std.proofs.Common.{◌≡◌, pos, ap, ◌∙◌, arith, w64, to_z-of_z, to_z, of_z}
use Rattle.std.specs.Prelude.{slice_index_or}
use Rattle.program_meaning.specs.Declarations.{spread_of, sizes_over}
use Rattle.line_plans.specs.ArrayLines.{words_of}
use Rattle.line_plans.proofs.ProcessLaws.{leads_by}
use Rattle.line_plans.proofs.ArrayDone.{good_by, measured_by}
use Rattle.line_plans.proofs.array_line.measure_line.Goals as goal

pub sizes_of-requires-clause-good : goal.sizes_of-requires-clause-good
sizes_of-requires-clause-good c = good_by c.args.declared.now.contexts (words_of c.args.line.now) c.grid-ctx.result.now c.in-Ok.ensures.grid c.grid-ctx.ensures.is c.in-Ok.ensures.passes

pub sizes_of-requires-clause-fit : goal.sizes_of-requires-clause-fit
sizes_of-requires-clause-fit c = leads_by c.args.declared.now.contexts (words_of c.args.line.now) c.grid-ctx.result.now c.in-Ok.ensures.grid c.grid-ctx.ensures.is c.in-Ok.ensures.passes

pub returns-clause-ok : goal.returns-clause-ok
returns-clause-ok c =
    let ctxt : to_z w64 (of_z w64 c.context.result) ≡ pos c.args.line.now.grid = grind (arith, to_z-of_z) in
    let m : to_z w64 (of_z w64 c.args.line.now.m) ≡ c.args.line.now.m = grind (arith, to_z-of_z) in
    let n : to_z w64 (of_z w64 c.args.line.now.n) ≡ c.args.line.now.n = grind (arith, to_z-of_z) in
    let mb : to_z w64 (of_z w64 c.args.line.now.mb) ≡ c.args.line.now.mb = grind (arith, to_z-of_z) in
    let nb : to_z w64 (of_z w64 c.args.line.now.nb) ≡ c.args.line.now.nb = grind (arith, to_z-of_z) in
    let rsrc : to_z w64 (of_z w64 c.args.line.now.rsrc) ≡ c.args.line.now.rsrc = grind (arith, to_z-of_z) in
    let csrc : to_z w64 (of_z w64 c.args.line.now.csrc) ≡ c.args.line.now.csrc = grind (arith, to_z-of_z) in
    let first : to_z w64 (of_z w64 c.first_lead.result) ≡ c.first_lead.result = grind (arith, to_z-of_z) in
    measured_by c.args.declared.now.contexts c.args.declared.now.shapes.ranks (words_of c.args.line.now) c.grid-ctx.result.now c.in-Ok-sizes_of.sizes.items c.in-Ok-sizes_of.words _ _ _ _ _ _ _ _ _
    ctxt m n mb nb rsrc csrc
    (first ∙ c.first_lead.ensures ∙ ap (λ xs. slice_index_or xs 0 (pos 0)) (c.deref-2.ensures.value ∙ c.in-Ok.ensures.leads))
    (c.new-llds.ensures ∙ c.in-Ok.ensures.leads)
    c.in-Ok.ensures.grid c.grid-ctx.ensures.is c.grid-ctx.ensures.within c.in-Ok.ensures.passes
    (c.in-Ok-sizes_of.ensures.sizes ∙ ap (λ r. sizes_over (spread_of (words_of c.args.line.now) c.grid-ctx.result.now) c.grid-ctx.result.now r) c.ranks-ranks.ensures.ranks)
    c.in-Ok-sizes_of.ensures.words c.in-Ok-sizes_of.ensures.few c.in-Ok-sizes_of.ensures.leads
