use Rattle.save_list.proofs.SavedLaws.{fails_at}
use Rattle.save_list.proofs.saving.save_all.Goals as goal

pub returns-in-Err-clause-saves : goal.returns-in-Err-clause-saves
returns-in-Err-clause-saves g c =
    fails_at (g.L.SaveList.save_at c.args.list.now) c.loop-number.number c.in-Err.field-0 (g.S.Store.state c.args.store.now) (g.S.Store.state c.loop-number.store) (g.S.Store.state c.save_one.new.store)
    c.loop-number.invariant.told c.loop-number.invariant.files c.loop-number.invariant.opens c.loop-number.invariant.counts c.save_one.ensures.opens.told c.in-Err.ensures.saves c.save_one.ensures.opens.opens c.in-Err.ensures.cause
