use Rattle.file_tools.proofs.RunLaws.{planned_follows}
use Rattle.tool_threads.proofs.programs.run_read.Goals as goal

pub returns-in-Ok : goal.returns-in-Ok
returns-in-Ok g c =
    planned_follows c.run_job.result c.args.name c.args.program.now c.in-Ok.job (g.S.Store.state c.args.store.now) (g.S.Store.state c.plan_program.new.store) (g.S.Store.state c.run_job.new.store) (g.O.Sink.state c.args.out.now) (g.O.Sink.state c.run_job.new.out)
    c.in-Ok.ensures.answer c.in-Ok.ensures.cause c.in-Ok.ensures.same c.run_job.ensures
