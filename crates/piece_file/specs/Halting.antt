-- Reading a piece part by part, and why it halts.
use Rattle.std.specs.Prelude.{◌≡◌, ℕ, ◌+◌, ◌^◌, ◌≤◌, IsTrue, List, [], Option, Some, None, Result, Ok, Err}
use Rattle.store_io.specs.Outside.{Outside}
use Rattle.text_io.specs.Halting.{Leaves, Reads}
use Rattle.text_io.specs.declared.halt.Halt.{Halt}
use Rattle.text_io.specs.declared.halt.Halt.TheVariants.{Bad, Failed, Memory}
use Rattle.mm_grammar.specs.FileLines.{Line}
use Rattle.mm_grammar.specs.Symmetry.{General}
use Rattle.mm_grammar.specs.Parts as parts
use Rattle.mm_grammar.specs.Place as at
use Rattle.mm_reader.specs.ReaderView.{ReaderView, line_of, lines_left}
use Rattle.mm_reader.specs.Taking.{TakesNext}
use Rattle.mm_reader.specs.Views.{header_view}
use Rattle.mm_reader.specs.declared.fault.MmErr.{MmErr}
use Rattle.mm_reader.specs.declared.header.Header.{Header}
use Rattle.piece_grammar.specs.Head as piece
use Rattle.piece_grammar.specs.Faults as faults
use Rattle.piece_grammar.specs.Turn.{Turn}
use Rattle.piece_grammar.specs.Place.{Place, Behind}
use Rattle.piece_grammar.specs.PieceReading.{step, at_end, read_on}
use Rattle.piece_file.specs.HeadView.{head_view}
use Rattle.piece_file.specs.FaultView.{fault_view}
use Rattle.piece_file.specs.declared.head.Head.{Head}
use Rattle.piece_file.specs.declared.fault.PieceFault.{PieceFault}
use Rattle.piece_file.specs.declared.fault.PieceFault.TheVariants.{Mm}
use Rattle.piece_file.specs.declared.fault.Refusal.{Refusal}

abbrev pub refusal_view : Refusal → faults.Refusal
refusal_view r = record { line = r.line; fault = fault_view r.fault }

-- ---- a line

-- what a step gives, by the place of its answer
abbrev pub stepped : {X : Type 0} → (X → Place) → Result X PieceFault → Result Place faults.Fault
stepped behind (Ok x) = Ok (behind x)
stepped behind (Err fault) = Err (fault_view fault)

-- the step of a line of this text at a place, wherever in the file the line stands
abbrev pub Makes : {X : Type 0} → (X → Place) → Result X PieceFault → Turn → Place → (text : List ℕ) → Type 0
Makes behind result turn place text = (upto : ℕ) → upto ≤ 2 ^ 30 → step turn place (line_of text upto) ≡ stepped behind result

-- the answer of a step, whose fault stands at this line
abbrev pub halted : {X : Type 0} → ℕ → Result X PieceFault → Result X (Halt Refusal)
halted n (Ok x) = Ok x
halted n (Err fault) = Err (Bad (record { line = n; fault = fault }))

-- after the line of a head, after the size line of its array, and after a line before that or that line
abbrev pub behind_head : Head → Place
behind_head head = Behind (head_view head) (at.AtSize General)

abbrev pub behind_size : Head → Header → Place
behind_size head size = Behind (head_view head) (at.AtValues (header_view size) [])

abbrev pub behind_between : Head → Option Header → Place
behind_between head None = behind_head head
behind_between head (Some size) = behind_size head size

-- The size is that of a head's array, and the words up to those of this array are at most 2^26.
pub record Fits (turn : Turn) (h : piece.Head) (size : parts.Header) : Type 0 where
  pub general : size.symmetry ≡ General
  pub rows : size.rows ≡ h.lld
  pub columns : size.columns ≡ piece.array_columns h
  pub few : turn.before + piece.array_words h ≤ 2 ^ 26

-- ---- a part

-- why reading a piece halts where reading a matrix file does
abbrev pub halt_in : Halt MmErr → Halt Refusal
halt_in (Bad e) = Bad (record { line = e.line; fault = Mm e.what })
halt_in Failed = Failed
halt_in Memory = Memory

-- what a halt says of the lines from number n on, at this place
abbrev pub Halts : Halt Refusal → Turn → (n : ℕ) → Place → List Line → Type 0
Halts (Bad r) turn n place lines = read_on turn n place lines ≡ Err (refusal_view r)
Halts Failed turn n place lines = Unit {0}
Halts Memory turn n place lines = Unit {0}

-- a call that takes a line where one has to stand; where it halts, it does so at each place where the file's end has this fault
abbrev pub Wants : {X : Type 0} → Result X (Halt Refusal) → PieceFault → (old new : ReaderView) → (before after : Outside) → Type 0
Wants (Ok x) missing old new before after = TakesNext old new before after
Wants (Err halt) missing old new before after =
    (IsTrue before.told → (turn : Turn) (place : Place) → at_end place ≡ Err (fault_view missing) → Halts halt turn old.number place (lines_left old before)) × Leaves halt before after

-- reading from the place on is reading what is left at the place after the answer, or halts
abbrev pub Went : {X : Type 0} → (X → Place) → Result X (Halt Refusal) → Turn → Place → (old new : ReaderView) → (before after : Outside) → Type 0
Went behind (Ok x) turn place old new before after = read_on turn old.number place (lines_left old before) ≡ read_on turn new.number (behind x) (lines_left new after)
Went behind (Err halt) turn place old new before after = Halts halt turn old.number place (lines_left old before)

-- a call that reads a part of a piece from a place on: where the store tells, how far it came; what it leaves as it was, and why it failed
abbrev pub Passes : {X : Type 0} → (X → Place) → Result X (Halt Refusal) → Turn → Place → (old new : ReaderView) → (before after : Outside) → Type 0
Passes behind result turn place old new before after = (IsTrue before.told → Went behind result turn place old new before after) × Reads result before after

-- the same, whatever is asked of the piece
abbrev pub PassesAlways : {X : Type 0} → (X → Place) → Result X (Halt Refusal) → Place → (old new : ReaderView) → (before after : Outside) → Type 0
PassesAlways behind result place old new before after = (IsTrue before.told → (turn : Turn) → Went behind result turn place old new before after) × Reads result before after

-- all lines were read, and give the piece
abbrev pub Gave : {X : Type 0} → (X → piece.Piece) → Result X (Halt Refusal) → Turn → (n : ℕ) → Place → List Line → Outside → Type 0
Gave view (Ok p) turn n place lines after = (read_on turn n place lines ≡ Ok (view p)) × (after.left ≡ [])
Gave view (Err halt) turn n place lines after = Halts halt turn n place lines

-- a call that reads the lines from number n on to the file's end
abbrev pub GivesPiece : {X : Type 0} → (X → piece.Piece) → Result X (Halt Refusal) → Turn → (n : ℕ) → Place → (Outside → List Line) → (before after : Outside) → Type 0
GivesPiece view result turn n place lines before after = (IsTrue before.told → Gave view result turn n place (lines before) after) × Reads result before after

-- the same, whatever is asked of the piece
abbrev pub GivesAlways : {X : Type 0} → (X → piece.Piece) → Result X (Halt Refusal) → (n : ℕ) → Place → (Outside → List Line) → (before after : Outside) → Type 0
GivesAlways view result n place lines before after = (IsTrue before.told → (turn : Turn) → Gave view result turn n place (lines before) after) × Reads result before after
