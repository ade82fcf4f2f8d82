-- Parts of a call that follows a walk: reading on, stopping, saving and telling.
use Rattle.std.specs.Prelude.{◌≡◌, ℕ, IsTrue, List, ◌++◌, Result, Ok, Err, Option}
use Rattle.store_io.specs.Outside.{Outside, Poured, SameCounts, Rose}
use Rattle.mm_reader.specs.Views.{fault_of}
use Rattle.mm_text.specs.declared.matrix.LoadErr.{LoadErr}
use Rattle.mm_text.specs.declared.matrix.LoadErr.TheVariants as load
use Rattle.piece_file.specs.FaultView.{fault_view}
use Rattle.piece_file.specs.declared.fault.PieceErr.{PieceErr}
use Rattle.piece_file.specs.declared.fault.PieceErr.TheVariants as gather
use Rattle.tool_lines.specs.Texts.{missing, store_fault, at_line, out_of_memory}
use Rattle.tool_lines.specs.FaultTexts.{matrix_fault_text, piece_fault_text}
use Rattle.tool_lines.specs.Saying.{SaysFront}
use Rattle.command_walks.specs.Walk.{Walk}
use Rattle.command_walks.specs.Outcome.{Leaves}
use Rattle.command_walks.specs.declared.status.Status.{Status}
use Rattle.command_walks.specs.declared.status.Status.TheVariants as status

-- what reading leaves where it goes on
pub record ReadsOn (old new : Outside) : Type 0 where
  pub told : new.told ≡ old.told
  pub files : new.files ≡ old.files
  pub opens : new.opens ≡ old.opens
  pub counts : SameCounts old new

-- a command stops with this status and line, and its output is as it was
abbrev pub StopsWith : Status → (line : List ℕ) → (walk : Walk) → (names : Option (List (List ℕ))) → (old new : Outside) → Type 0
StopsWith s line walk names old new = (pour : Poured) → Leaves s walk names line old new pour pour

-- with what status and line a command stops that can't read the matrix of a file
abbrev pub load_status : LoadErr → Status
load_status load.Missing = status.Store
load_status load.Failed = status.Store
load_status (load.Mm error) = status.Refused
load_status load.NoMemory = status.NoMemory

abbrev pub load_line : (name : List ℕ) → LoadErr → List ℕ
load_line name load.Missing = missing name
load_line name load.Failed = store_fault name
load_line name (load.Mm error) = at_line name error.line (matrix_fault_text (fault_of error.what))
load_line name load.NoMemory = out_of_memory

-- and one that can't read the pieces of a prefix
abbrev pub gather_status : PieceErr → Status
gather_status (gather.Missing name) = status.Store
gather_status (gather.Failed name) = status.Store
gather_status (gather.Bad name line fault) = status.Refused
gather_status gather.NoMemory = status.NoMemory

abbrev pub gather_line : PieceErr → List ℕ
gather_line (gather.Missing name) = missing name
gather_line (gather.Failed name) = store_fault name
gather_line (gather.Bad name line fault) = at_line name line (piece_fault_text (fault_view fault))
gather_line gather.NoMemory = out_of_memory

-- what telling the output leaves: all of it was told, or the output failed, and gained some front of it
pub record IsTold (text : List ℕ) (before after : Poured) : Type 0 where
  pub gained : IsTrue before.told → after.bytes ≡ before.bytes ++ text
  pub poured : after.faults ≡ before.faults

pub record IsLost (text : List ℕ) (before after : Poured) : Type 0 where
  pub gained : IsTrue before.told → SaysFront before after text
  pub poured : Rose before.faults after.faults

abbrev pub Prints : {X Y : Type 0} → Result X Y → (text : List ℕ) → (before after : Poured) → Type 0
Prints (Ok x) text before after = IsTold text before after
Prints (Err y) text before after = IsLost text before after
