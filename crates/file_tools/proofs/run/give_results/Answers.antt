use Rattle.file_tools.proofs.RunLaws.{result_stops}
use Rattle.file_tools.proofs.run.give_results.Goals as goal

pub returns-in-Err : goal.returns-in-Err
returns-in-Err g c =
    result_stops c.args.finished c.in-Err.error.save c.into_name.result (g.S.Store.state c.args.store.now) (g.S.Store.state c.save.new.store) c.in-Err.ensures.number c.into_name.ensures c.in-Err.ensures.saves (g.O.Sink.state c.args.out.now)
