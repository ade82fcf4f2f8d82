-- What a call leaves, by its status: the store before and after it (old, new), the output before and after it (before,
-- after), and the line that is said on the error stream. The words of most commands tell the names of the files that are to be saved.
use Rattle.std.specs.Prelude.{◌≡◌, ℕ, suc, IsTrue, List, [], ◌∷◌, ◌++◌, length, Option, Some, None}
use Rattle.store_io.specs.Outside.{Outside, Poured, SameCounts, HasFailed, HasMissed, Rose, IsEither}
use Rattle.text_io.specs.Saving.{HoldsFront}
use Rattle.tool_lines.specs.Texts.{missing, store_fault, out_of_memory, output_fault}
use Rattle.tool_lines.specs.Saying.{SaysFront, Gains}
use Rattle.save_list.specs.Save.{Save, save, saved, names_of}
use Rattle.save_list.specs.Saving.{opened}
use Rattle.command_walks.specs.Answer.{refused, done}
use Rattle.command_walks.specs.Walk.{Walk, Refuses, answer, Needs}
use Rattle.command_walks.specs.declared.status.Status.{Status}
use Rattle.command_walks.specs.declared.status.Status.TheVariants as status

-- all files are as before, and none was opened for writing
pub record Untouched (old new : Outside) : Type 0 where
  pub files : new.files ≡ old.files
  pub opens : new.opens ≡ old.opens

-- the names of these saves are those that the words tell, where the words alone tell them
abbrev pub IsNamed : Option (List (List ℕ)) → List Save → Type 0
IsNamed (Some names) saves = names_of saves ≡ names
IsNamed None saves = Unit {0}

-- The walk ends with these saves and this output. Their names are those that the words tell.
pub record EndsWith (walk : Walk) (names : Option (List (List ℕ))) (saves : List Save) (output : List ℕ) (old : Outside) : Type 0 where
  pub named : IsNamed names saves
  pub answered : IsTrue old.told → answer walk old.files ≡ done saves output

-- All was done that the walk asks for, with one opening for each save.
pub record IsDone (walk : Walk) (names : Option (List (List ℕ))) (line : List ℕ) (old new : Outside) (before after : Poured) : Type 0 where
  pub saves : List Save
  pub output : List ℕ
  pub ends : EndsWith walk names saves output old
  pub files : IsTrue old.told → new.files ≡ saved saves old.files
  pub opens : new.opens ≡ opened (length saves) old.opens
  pub gained : IsTrue before.told → after.bytes ≡ before.bytes ++ output
  pub counts : SameCounts old new
  pub poured : after.faults ≡ before.faults
  pub line_is : line ≡ []

-- The words aren't in the table, and the usage is said.
pub record IsUsage (walk : Walk) (line : List ℕ) (old new : Outside) (before after : Poured) : Type 0 where
  pub walk_is : walk ≡ Refuses line status.Words
  pub untouched : Untouched old new
  pub counts : SameCounts old new
  pub silent : after ≡ before

-- What was read is refused, or a limit is passed.
pub record IsRefused (walk : Walk) (line : List ℕ) (old new : Outside) (before after : Poured) : Type 0 where
  pub answered : IsTrue old.told → answer walk old.files ≡ refused line status.Refused
  pub untouched : Untouched old new
  pub counts : SameCounts old new
  pub silent : after ≡ before

-- A file isn't held, and so the walk ends there.
pub record LacksFile (walk : Walk) (name line : List ℕ) (old new : Outside) : Type 0 where
  pub missed : HasMissed old new
  pub line_is : line ≡ missing name
  pub answered : IsTrue old.told → answer walk old.files ≡ refused line status.Store

-- The store failed at a file.
pub record FailsAtFile (name line : List ℕ) (old new : Outside) : Type 0 where
  pub failed : HasFailed old new
  pub line_is : line ≡ store_fault name

-- A file that the walk needs isn't held, or the store failed at it. What the walk needs before is held and good.
pub record StopsAtNeed (walk : Walk) (line : List ℕ) (old new : Outside) (before after : Poured) : Type 0 where
  pub name : List ℕ
  pub needed : IsTrue old.told → Needs walk old.files name
  pub why : IsEither (LacksFile walk name line old new) (FailsAtFile name line old new)
  pub untouched : Untouched old new
  pub silent : after ≡ before

-- The store failed at a save. Those before it are done, its file has its old contents or a front of its text, and every
-- other file is as before. No later save was begun.
pub record StopsAtSave (walk : Walk) (names : Option (List (List ℕ))) (line : List ℕ) (old new : Outside) (before after : Poured) : Type 0 where
  pub first : List Save
  pub name : List ℕ
  pub text : List ℕ
  pub later : List Save
  pub output : List ℕ
  pub ends : EndsWith walk names (first ++ save name text ∷ later) output old
  pub files : IsTrue old.told → IsEither (new.files ≡ saved first old.files) (HoldsFront (saved first old.files) new.files name text)
  pub opens : new.opens ≡ opened (suc (length first)) old.opens
  pub why : FailsAtFile name line old new
  pub silent : after ≡ before

-- Memory was wanted.
pub record WantsMemory (line : List ℕ) (old new : Outside) (before after : Poured) : Type 0 where
  pub untouched : Untouched old new
  pub counts : SameCounts old new
  pub silent : after ≡ before
  pub line_is : line ≡ out_of_memory

-- All saves are done, and the output failed: it gained some front of what it was to gain.
pub record FailsAtOutput (walk : Walk) (names : Option (List (List ℕ))) (line : List ℕ) (old new : Outside) (before after : Poured) : Type 0 where
  pub saves : List Save
  pub output : List ℕ
  pub ends : EndsWith walk names saves output old
  pub files : IsTrue old.told → new.files ≡ saved saves old.files
  pub opens : new.opens ≡ opened (length saves) old.opens
  pub gained : IsTrue before.told → SaysFront before after output
  pub counts : SameCounts old new
  pub poured : Rose before.faults after.faults
  pub line_is : line ≡ output_fault

-- what a call leaves that ends with this status and this line
abbrev pub Leaves : Status → (walk : Walk) → (names : Option (List (List ℕ))) → (line : List ℕ) → (old new : Outside) → (before after : Poured) → Type 0
Leaves status.Done walk names line old new before after = IsDone walk names line old new before after
Leaves status.Refused walk names line old new before after = IsRefused walk line old new before after
Leaves status.Words walk names line old new before after = IsUsage walk line old new before after
Leaves status.Store walk names line old new before after = IsEither (StopsAtNeed walk line old new before after) (StopsAtSave walk names line old new before after)
Leaves status.NoMemory walk names line old new before after = WantsMemory line old new before after
Leaves status.Sink walk names line old new before after = FailsAtOutput walk names line old new before after

-- The same with the error stream before and after it (quiet, said). A fault of the error stream changes no status.
pub record IsOutcome (s : Status) (walk : Walk) (names : Option (List (List ℕ))) (old new : Outside) (before after quiet said : Poured) : Type 0 where
  pub line : List ℕ
  pub leaves : Leaves s walk names line old new before after
  pub says : IsTrue quiet.told → Gains quiet said line
  pub silent : s ≡ status.Done → said ≡ quiet

-- Status, files and output are the answer's.
pub record IsAnswer (s : Status) (walk : Walk) (old new : Outside) (before after : Poured) : Type 0 where
  pub status : s ≡ (answer walk old.files).status
  pub files : new.files ≡ saved (answer walk old.files).saves old.files
  pub output : IsTrue before.told → after.bytes ≡ before.bytes ++ (answer walk old.files).output

-- Where no fault of the store or of the output rose, they are, or memory was wanted.
abbrev pub IsComplete : Status → (walk : Walk) → (old new : Outside) → (before after : Poured) → Type 0
IsComplete s walk old new before after =
    IsTrue old.told → (Rose old.faults new.faults → ⊥) → (Rose before.faults after.faults → ⊥) → IsEither (s ≡ status.NoMemory) (IsAnswer s walk old new before after)
