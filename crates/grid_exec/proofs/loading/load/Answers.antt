use Rattle.std.proofs.Common.{◌∙◌}
use Rattle.grid_exec.specs.Reading.{standing}
use Rattle.grid_exec.proofs.LoadSteps.{load_done, load_stopped, load_unread}
use Rattle.grid_exec.proofs.loading.load.Goals as goal

pub returns-in-Ok-put_matrix-clause-done : goal.returns-in-Ok-put_matrix-clause-done
returns-in-Ok-put_matrix-clause-done g c = λ before p reads.
    load_done before (g.S.Store.state c.args.store.now) c.args.number c.args.array c.args.file.now c.as_str-2.result.now c.in-Ok-read_matrix.whole c.in-Ok-put_matrix.held p (standing c.args.held p) reads c.as_str-2.ensures c.in-Ok-read_matrix.ensures.loads (c.in-Ok-put_matrix.ensures.done p)

pub returns-in-Ok-read_matrix-clause-done : goal.returns-in-Ok-read_matrix-clause-done
returns-in-Ok-read_matrix-clause-done g c = λ before p reads.
    load_stopped before (g.S.Store.state c.args.store.now) c.args.number c.args.array c.args.file.now c.as_str-2.result.now c.in-Ok-read_matrix.whole c.in-Err-put_matrix.halt c.stopped.result p (standing c.args.held p) reads c.as_str-2.ensures c.in-Ok-read_matrix.ensures.loads (c.in-Err-put_matrix.ensures.done p) c.stopped.ensures

pub returns-clause-done : goal.returns-clause-done
returns-clause-done g c = λ before p reads.
    load_unread before (g.S.Store.state c.args.store.now) c.args.number c.args.array c.args.file.now c.as_str-2.result.now c.new.result c.in-Err.e c.unread.result p (standing c.args.held p) reads c.as_str-2.ensures (c.new.ensures ∙ c.in-Ok.ensures.ok ∙ c.as_str.ensures) c.in-Err.ensures.loads c.unread.ensures
