-- What saving texts one after the other leaves of a store.
use Rattle.std.specs.Prelude.{◌≡◌, ℕ, zero, suc, ◌+◌, ◌-◌, ◌^◌, min, IsTrue, Result, Ok, Err}
use Rattle.store_io.specs.Outside.{Outside, SameCounts, HasFailed, IsEither}
use Rattle.text_io.specs.Saving.{HoldsFront}
use Rattle.save_list.specs.Save.{Save, saved, numbered}
use Rattle.save_list.specs.declared.save_err.SaveErr.{SaveErr}

-- a count of openings, after so many more; it stops at its last value
unfoldable pub opened : (more before : ℕ) → ℕ
opened zero before = before
opened (suc more) before = min (opened more before + 1) (2 ^ 64 - 1)

-- all of these saves are done, with one opening each
pub record HasSaved (save_at : ℕ → Save) (count : ℕ) (old new : Outside) : Type 0 where
  pub told : new.told ≡ old.told
  pub files : IsTrue old.told → new.files ≡ saved (numbered save_at count) old.files
  pub opens : new.opens ≡ opened count old.opens
  pub counts : SameCounts old new

-- The store failed at the save of this number: those before it are done, its file is as before or holds a front of its
-- text, and no later one was begun.
pub record FailsAtSave (save_at : ℕ → Save) (number : ℕ) (old new : Outside) : Type 0 where
  pub told : new.told ≡ old.told
  pub files : IsTrue old.told → IsEither (new.files ≡ saved (numbered save_at number) old.files)
      (HoldsFront (saved (numbered save_at number) old.files) new.files (save_at number).name (save_at number).text)
  pub opens : new.opens ≡ opened (suc number) old.opens
  pub failed : HasFailed old new

abbrev pub SavesAll : {X : Type 0} → Result X SaveErr → (save_at : ℕ → Save) → (count : ℕ) → (old new : Outside) → Type 0
SavesAll (Ok x) save_at count old new = HasSaved save_at count old new
SavesAll (Err e) save_at count old new = FailsAtSave save_at e.save old new
