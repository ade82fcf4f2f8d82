-- What can be wrong with a Matrix Market file.
use Rattle.std.specs.Prelude.{ℕ}
use Rattle.line_text.specs.Formats as formats

pub data Fault : Type 0 where
  -- the file is longer than 2^30 bytes
  FileLong : Fault
  -- a line is longer than 1,024 bytes
  LineLong : Fault
  -- a byte isn't text
  NotText : Fault
  -- the file doesn't begin as a Matrix Market file of a matrix
  Banner : Fault
  -- it isn't an array of integers
  Field : Fault
  -- its symmetry is another
  Symmetry : Fault
  -- its size line is missing, bad or past a limit
  Size : Fault
  -- a word stands behind the last value, of so many wanted
  TooMany : (want : ℕ) → Fault
  -- a line isn't one value
  Value : Fault
  -- a value is out of range
  Range : Fault
  -- the file ends before the last value
  TooFew : (have want : ℕ) → Fault

-- a fault and its line, counted from 1
abbrev pub Refusal : Type 0
Refusal = formats.Refusal Fault
