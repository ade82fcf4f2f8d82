use Rattle.std.proofs.Common.{◌≡◌, ◌+◌, ◌-◌, ◌^◌, ◌≤◌, IsTrue}
use Rattle.text_io.specs.Reading.{SameButLeft, unread}
use Rattle.text_io.specs.Runs.{IsRun}
use Rattle.text_io.proofs.reader.Reader.take_run.Given as goal

abbrev pub invariant-loop-count : goal.invariant-loop-count
invariant-loop-count g l =
    let state = g.S.Store.state in
    record {
      near : l.before + l.count ≤ 2 ^ 30 + 1;
      number : l.self.number ≡ l.fn.self.number;
      before : l.self.before ≡ l.fn.self.before;
      same : SameButLeft (state l.fn.store) (state l.store);
      runs : IsTrue (state l.fn.store).told → IsRun (unread l.fn.self.waiting (state l.fn.store)) (unread l.self.waiting (state l.store)) l.count l.self.text;
    }

abbrev pub decreases-loop-count : goal.decreases-loop-count
decreases-loop-count g l = 2 ^ 30 + 1 - (l.before + l.count)
