use Rattle.std.proofs.Common.{◌≡◌, IsTrue}
use Rattle.store_io.specs.Outside.{SameCounts}
use Rattle.save_list.specs.Save.{saved, numbered}
use Rattle.save_list.specs.Saving.{opened}
use Rattle.save_list.proofs.saving.save_all.Given as goal

-- the texts before this one are saved
abbrev pub invariant-loop-number : goal.invariant-loop-number
invariant-loop-number g l =
    let state = g.S.Store.state in
    record {
      told : (state l.store).told ≡ (state l.fn.store).told;
      opens : (state l.store).opens ≡ opened l.number (state l.fn.store).opens;
      counts : SameCounts (state l.fn.store) (state l.store);
      files : IsTrue (state l.fn.store).told → (state l.store).files ≡ saved (numbered (g.L.SaveList.save_at l.list) l.number) (state l.fn.store).files;
    }
