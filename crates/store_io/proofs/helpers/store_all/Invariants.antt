use Rattle.std.proofs.Common.{length, take, ◌-◌, ◌≡◌, ◌≤◌, IsTrue}
use Rattle.store_io.specs.Outside.{Outside, WritesOn, KeepsOutput}
use Rattle.store_io.proofs.helpers.store_all.Given as goal

abbrev pub invariant-loop-done : goal.invariant-loop-done
invariant-loop-done g l =
    let old : Outside = g.S.Store.state l.fn.store in
    let now : Outside = g.S.Store.state l.store in
    record {
      within : l.done ≤ length l.bytes;
      told : now.told ≡ old.told;
      files : IsTrue old.told → WritesOn old now (take l.done l.bytes);
      left : IsTrue old.told → now.left ≡ old.left;
      reading : now.reading ≡ old.reading;
      output : KeepsOutput old now;
      faults : now.faults ≡ old.faults;
      misses : now.misses ≡ old.misses;
    }

abbrev pub decreases-loop-done : goal.decreases-loop-done
decreases-loop-done g l = length l.bytes - l.done
