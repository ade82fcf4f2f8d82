use Rattle.file_tools.proofs.SavingLaws.{save_stops}
use Rattle.file_tools.proofs.saving.save_texts.Goals as goal

pub returns-in-Err-clause-stops : goal.returns-in-Err-clause-stops
returns-in-Err-clause-stops g c = λ output.
    save_stops (g.L.SaveList.save_at c.args.list) (g.L.SaveList.count c.args.list) output c.in-Err.error.save c.into_name.result (g.S.Store.state c.args.store.now) (g.S.Store.state c.save_all.new.store) c.in-Err.ensures.number c.into_name.ensures c.in-Err.ensures.saves
