use Rattle.std.specs.Prelude.{◌≡◌, None, slice_index}
use Rattle.proc_grid.specs.FirstOf.{first_of}
use Rattle.scope_ops.specs.CombineRefusals.{lead_fault}
use Rattle.scope_ops.proofs.arrays.check_leads.Given as goal

abbrev pub invariant-loop-k : goal.invariant-loop-k
invariant-loop-k l = first_of (λ k. lead_fault l.shapes l.part l.rc (slice_index l.members k)) l.k ≡ None
