use Rattle.std.proofs.Common.{arith}
use Rattle.text_io.proofs.LineFinding.{ended_finds, last_finds, none_finds, far_finds}
use Rattle.text_io.proofs.reader.Reader.next.Goals as goal

pub returns-in-Ok-Ended-clause-finds : goal.returns-in-Ok-Ended-clause-finds
returns-in-Ok-Ended-clause-finds g c = λ told.
    let run = rw c.in-Ok-Ended.field-0-is at (c.in-Ok-Ended.ensures.runs told) in
    ended_finds c.finish.result c.args.self.now c.take_run.new.self c.finish.new.self (g.S.Store.state c.args.store.now).left (g.S.Store.state c.take_run.new.store).left c.in-Ok-Ended.run'
    run c.in-Ok-Ended.ensures.before c.finish.ensures.waiting c.finish.ensures.ends

pub returns-then-run-eq0-clause-finds : goal.returns-then-run-eq0-clause-finds
returns-then-run-eq0-clause-finds g c = λ told.
    let run = rw c.in-Ok-Last.field-0-is at (c.in-Ok-Last.ensures.runs told) in
    none_finds c.args.self.now (g.S.Store.state c.args.store.now).left c.in-Ok-Last.run' c.take_run.new.self.text run.0 c.if-run-eq0.true

pub returns-else-run-eq0-clause-finds : goal.returns-else-run-eq0-clause-finds
returns-else-run-eq0-clause-finds g c = λ told.
    let run = rw c.in-Ok-Last.field-0-is at (c.in-Ok-Last.ensures.runs told) in
    last_finds c.finish-else-run-eq0.result c.args.self.now c.take_run.new.self c.finish-else-run-eq0.new.self (g.S.Store.state c.args.store.now).left (g.S.Store.state c.take_run.new.store).left c.in-Ok-Last.run'
    run.0 run.1 (omega arith) c.in-Ok-Last.ensures.before c.finish-else-run-eq0.ensures.waiting c.finish-else-run-eq0.ensures.ends

pub returns-in-Ok-Far-clause-finds : goal.returns-in-Ok-Far-clause-finds
returns-in-Ok-Far-clause-finds g c = λ told.
    let run = rw c.in-Ok-Far.field-0-is at (c.in-Ok-Far.ensures.runs told) in
    let near = rw c.in-Ok-Far.field-0-is at c.in-Ok-Far.ensures.near in
    far_finds c.args.self.now (g.S.Store.state c.args.store.now).left _ run.0 c.take_run.new.self.text near run.1 run.2
