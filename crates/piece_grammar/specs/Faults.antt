-- What can be wrong with a piece.
use Rattle.std.specs.Prelude.{ℕ}
use Rattle.line_text.specs.Formats as formats
use Rattle.descriptor.specs.declared.info.Info.{Info}
use Rattle.mm_grammar.specs.Faults.{Fault as MatrixFault}

pub data Fault : Type 0 where
  -- a fault that any matrix file may have
  Mm : MatrixFault → Fault
  -- the second line is missing, has another form, or names no process of a grid
  DescLine : Fault
  -- the grid or the whole matrix is another one than that of the first piece
  Disagree : Fault
  -- `descinit` answers this INFO
  DescEntry : Info → Fault
  -- the process isn't that of the name
  WrongPlace : Fault
  -- the array has so many rows and columns, and not LLD by so many columns
  Shape : (rows columns lld wanted : ℕ) → Fault
  -- the pieces up to this one have so many words
  TooLarge : (words : ℕ) → Fault

-- a fault and its line, counted from 1
abbrev pub Refusal : Type 0
Refusal = formats.Refusal Fault
