-- The lines of a file, each with its place in the file, and what every line must keep.
use Rattle.std.specs.Prelude.{ℕ, ◌+◌, ◌^◌, Bool, List, [], ◌∷◌, ◌||◌, length, Option, Some, None, nat_lt, if◌then◌else◌}
use Rattle.std.specs.List.{list_all}
use Rattle.line_text.specs.Lines.{whole_lines, without_end, without_return}
pub use Rattle.line_text.specs.TextBytes.{is_text_byte}
use Rattle.mm_grammar.specs.Faults.{Fault, FileLong, LineLong, NotText}

-- a line without its end and without one carriage return before that, and how many bytes the file has up to the line's end, all of them counted
pub record Line : Type 0 where
  pub text : List ℕ
  pub upto : ℕ

-- the line of this run of bytes, behind so many bytes of the file
abbrev pub line_behind : ℕ → List ℕ → Line
line_behind before run = record { text = without_return (without_end run); upto = before + length run }

unfoldable pub lines_behind : ℕ → List (List ℕ) → List Line
lines_behind before [] = []
lines_behind before (run ∷ runs) = line_behind before run ∷ lines_behind (before + length run) runs

-- all lines of a file
abbrev pub file_lines : List ℕ → List Line
file_lines bytes = lines_behind 0 (whole_lines bytes)

-- what is wrong with a line wherever it stands, the first of these: byte number 2^30 + 1 of the file stands in it; it has more than
-- 1,024 bytes; a byte of it isn't text, and it may not hold any bytes
unfoldable pub line_fault : (free : Bool) → Line → Option Fault
line_fault free line =
    if nat_lt (2 ^ 30) line.upto then Some FileLong
    else (if nat_lt 1024 (length line.text) then Some LineLong else (if free || list_all is_text_byte line.text then None else Some NotText))
