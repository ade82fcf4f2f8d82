use Rattle.std.proofs.Common.{◌≡◌, take, drop}
use Rattle.store_io.specs.Outside.{SameCounts}
use Rattle.text_io.specs.Reading.{OnlyReads}
use Rattle.program_meaning.specs.WithFiles.{Reaches}
use Rattle.grid_exec.specs.Sections.{AreFront, MayDeclare}
use Rattle.grid_exec.specs.Reading.{standing}
use Rattle.grid_exec.proofs.front.fill_lines.Given as goal

abbrev pub invariant-loop-k : goal.invariant-loop-k
invariant-loop-k g x = MayDeclare x.held.declared (drop x.k x.lines) × AreFront (take x.k x.lines) × (x.held.declared.shapes.ranks ≡ x.fn.held.declared.shapes.ranks) × Reaches (g.S.Store.state x.fn.store) (standing x.fn.held x.plan) (take x.k x.lines) (standing x.held x.plan) × OnlyReads (g.S.Store.state x.fn.store) (g.S.Store.state x.store) × SameCounts (g.S.Store.state x.fn.store) (g.S.Store.state x.store)
