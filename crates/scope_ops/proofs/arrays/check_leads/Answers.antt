-- One member more, and one whose leading dimensions are too low.
use Rattle.std.proofs.Common.{refl, length, slice_index, arith}
use Rattle.proc_grid.specs.FirstOf.{first_of}
use Rattle.scope_ops.specs.CombineRefusals.{lead_fault}
use Rattle.scope_ops.proofs.Leads.{leads_refused, leads_more}
use Rattle.scope_ops.proofs.arrays.check_leads.Goals as goal

pub loop-k-init : goal.loop-k-init
unfolding first_of
loop-k-init c = refl

pub returns-in-Err : goal.returns-in-Err
returns-in-Err c = leads_refused (λ k. lead_fault c.args.shapes.now c.args.part.now c.args.rc (slice_index c.args.members.now k)) (length c.args.members.now) c.loop-k.k c.in-Err.e c.loop-k.invariant c.in-Err.ensures (omega arith)

pub loop-k-preserved : goal.loop-k-preserved
loop-k-preserved c = leads_more (λ k. lead_fault c.args.shapes.now c.args.part.now c.args.rc (slice_index c.args.members.now k)) c.loop-k.k c.in-Ok.field-0 c.loop-k.invariant c.in-Ok.ensures
