use Rattle.std.proofs.Common.{◌≡◌, ℕ, ◌-◌, ◌≤◌, length, ◌++◌, IsTrue}
use Rattle.text_io.specs.Reading.{SameButLeft}
use Rattle.program_file.proofs.bytes.take_bytes.Given as goal

-- the bytes that are there and those that are left are those of the input
abbrev pub invariant-loop-room : goal.invariant-loop-room
invariant-loop-room g l =
    let state = g.S.Store.state in
    record {
      same : SameButLeft (state l.fn.store) (state l.store);
      most : length l.text.items ≤ 4202497;
      all : IsTrue (state l.fn.store).told → l.text.items ++ (state l.store).left ≡ (state l.fn.store).left;
    }

abbrev pub decreases-loop-room : goal.decreases-loop-room
decreases-loop-room g l = 4202497 - length l.text.items
