-- What the words ask the files for, whatever comes in the way.
use Rattle.std.specs.Prelude.{ℕ, List, []}
use Rattle.save_list.specs.Save.{Save}
use Rattle.command_walks.specs.declared.status.Status.{Status}
use Rattle.command_walks.specs.declared.status.Status.TheVariants as status

-- the saves, what is written to the output and to the error stream, and the status
pub record Answer : Type 0 where
  pub saves : List Save
  pub output : List ℕ
  pub error : List ℕ
  pub status : Status

-- nothing is saved, and one line tells why
abbrev pub refused : (line : List ℕ) → Status → Answer
refused line status = record { saves = []; output = []; error = line; status = status }

-- all is well
abbrev pub done : List Save → (output : List ℕ) → Answer
done saves output = record { saves = saves; output = output; error = []; status = status.Done }
