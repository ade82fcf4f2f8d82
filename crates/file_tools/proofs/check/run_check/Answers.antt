use Rattle.std.proofs.Common.{ℕ, List, [], Some, IsTrue, subst}
use Rattle.grid_lang.specs.declared.line.Numbered.{Numbered}
use Rattle.command_walks.specs.Walk.{Walk, Comes}
use Rattle.program_walks.specs.ProgramWalks.{program_walk, checked_walk}
use Rattle.file_tools.proofs.ProgramLaws.{read_on}
use Rattle.file_tools.proofs.check.run_check.Goals as goal

pub returns-in-Ok : goal.returns-in-Ok
returns-in-Ok g c =
    let old = g.S.Store.state c.args.store.now in
    let mid = g.S.Store.state c.open_program.new.store in
    let P : List ℕ → Type 0 = λ n. (f : List Numbered → Walk) → IsTrue old.told → Comes (program_walk n f) old.files (f c.in-Ok.program) in
    read_on c.check_read.result c.args.name (checked_walk c.args.name) c.in-Ok.program (Some []) old mid mid (g.O.Sink.state c.args.out.now) (g.O.Sink.state c.check_read.new.out)
    (subst P c.as_str.ensures c.in-Ok.ensures.comes) c.in-Ok.ensures.ok (c.check_read.ensures mid)
