-- No cause was found.
use Rattle.std.proofs.Common.{sym, ◌∙◌}
use Rattle.scope_ops.specs.CombineRefusals.{first_lead}
use Rattle.scope_ops.proofs.Calls.{on_ok}
use Rattle.scope_ops.proofs.CombineArrays.{part_fits, rc_fit, none_told}
use Rattle.scope_ops.proofs.arrays.check_arrays.Goals as goal

pub returns-clause-part : goal.returns-clause-part
returns-clause-part c =
    on_ok c.check_leads.result (λ none. part_fits c.args.shapes.now c.args.members.now c.args.part.now c.requires.shapes c.requires.within c.args.rc c.requires.arrays (sym c.are_in_arrays.ensures ∙ c.if-not-are_in_arrays.false))
    (none_told (first_lead c.args.shapes.now c.args.members.now c.args.part.now c.args.rc) c.check_leads.result c.check_leads.ensures)

pub returns-clause-rc : goal.returns-clause-rc
returns-clause-rc c =
    on_ok c.check_leads.result (λ none. rc_fit c.args.shapes.now c.args.members.now c.args.part.now c.requires.shapes c.requires.within c.args.rc c.requires.arrays (sym c.same_arrays.ensures ∙ c.if-same_arrays.false) (sym c.are_in_arrays.ensures ∙ c.if-not-are_in_arrays.false) none)
    (none_told (first_lead c.args.shapes.now c.args.members.now c.args.part.now c.args.rc) c.check_leads.result c.check_leads.ensures)
