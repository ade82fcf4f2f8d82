use Rattle.std.proofs.Common.{ap, ℕ}
use Rattle.array_contents.specs.Columns.{filling_of}
use Rattle.grid_exec.proofs.WordSteps.{on_ok, leads_there, filled_placed}
use Rattle.grid_exec.proofs.filling.fill_placed.Goals as goal

pub fill_matrix-requires-clause-lead : goal.fill_matrix-requires-clause-lead
fill_matrix-requires-clause-lead c = leads_there c.args.declared.now c.args.contents.now c.args.array c.of-lld.result.0 c.requires.holds c.requires.placed (ap (λ (x : ℕ × ℕ). x.0) c.of-lld.ensures.size)

pub returns : goal.returns
returns c = on_ok c.fill_matrix.result _ _ c.fill_matrix.ensures.filled (λ w. filled_placed c.args.declared.now (filling_of c.args.filling.now) c.args.array c.of-lld.result.0 c.args.contents.now c.fill_matrix.new.self c.requires.holds c.requires.placed (ap (λ (x : ℕ × ℕ). x.0) c.of-lld.ensures.size) w)
