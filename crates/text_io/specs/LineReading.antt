-- The lines of a file as a reader takes them, one after the other.
use Rattle.std.specs.Prelude.{◌≡◌, ℕ, suc, ◌+◌, ◌<◌, ◌≤◌, ◌^◌, List, [], ◌∷◌, ◌++◌, length}
use Rattle.store_io.specs.Outside.{Outside}
use Rattle.line_text.specs.Lines.{whole_lines, without_end, without_return, ended, HasNoEnd}
use Rattle.text_io.specs.declared.reader.LineFault.{LineFault}
use Rattle.text_io.specs.declared.reader.LineFault.TheVariants.{FileLong, LineLong}
use Rattle.text_io.specs.declared.reader.Next.{Next}
use Rattle.text_io.specs.declared.reader.Next.TheVariants.{Line, End, Fault}

-- a reader: the bytes that wait to be looked at, the line that was taken last, the number of the next line, and how many bytes the lines that were taken have
pub record ReaderView : Type 0 where
  pub waiting : List ℕ
  pub text : List ℕ
  pub number : ℕ
  pub before : ℕ

-- the lines of the file that weren't taken, each with its end, where so many bytes of it are left in the store
abbrev pub lines_with : ReaderView → List ℕ → List (List ℕ)
lines_with r left = whole_lines (r.waiting ++ left)

abbrev pub lines_left : ReaderView → Outside → List (List ℕ)
lines_left r store = lines_with r store.left

-- a line without its end and without one carriage return before that
abbrev pub text_of : List ℕ → List ℕ
text_of line = without_return (without_end line)

-- byte number 2^30 + 1 of the file stands in a line of this text, up to which the file has so many bytes; or it has more than 1,024 bytes
abbrev pub HasFault : LineFault → (upto : ℕ) → (text : List ℕ) → Type 0
HasFault FileLong upto text = 2 ^ 30 < upto
HasFault LineLong upto text = (upto ≤ 2 ^ 30) × (1024 < length text)

-- the next line was taken
pub record TakesLine (old new : ReaderView) (lines rest : List (List ℕ)) : Type 0 where
  pub line : List ℕ
  pub whole : lines ≡ line ∷ rest
  pub text : new.text ≡ text_of line
  pub upto : new.before ≡ old.before + length line

-- the next line has this fault
pub record Refuses (fault : LineFault) (old : ReaderView) (lines : List (List ℕ)) : Type 0 where
  pub line : List ℕ
  pub more : List (List ℕ)
  pub whole : lines ≡ line ∷ more
  pub fails : HasFault fault (old.before + length line) (text_of line)

-- what stands next
abbrev pub Finds : Next → (old new : ReaderView) → (lines rest : List (List ℕ)) → Type 0
Finds Line old new lines rest = TakesLine old new lines rest
Finds End old new lines rest = lines ≡ []
Finds (Fault what) old new lines rest = Refuses what old lines

-- a line that was taken is neither too long nor too far on in the file
pub record IsTaken (old new : ReaderView) : Type 0 where
  pub short : length new.text ≤ 1024
  pub near : new.before ≤ 2 ^ 30
  pub number : new.number ≡ suc old.number
  pub more : suc old.before ≤ new.before

-- the line that was taken last, its number and the bytes up to it are as before
pub record KeepsLine (old new : ReaderView) : Type 0 where
  pub text : new.text ≡ old.text
  pub number : new.number ≡ old.number
  pub before : new.before ≡ old.before

-- no line was taken
pub record IsSame (old new : ReaderView) : Type 0 where
  pub number : new.number ≡ old.number
  pub before : new.before ≡ old.before

abbrev pub Moves : Next → (old new : ReaderView) → Type 0
Moves Line old new = IsTaken old new
Moves End old new = IsSame old new
Moves (Fault what) old new = IsSame old new

-- bytes that are one line with its end
abbrev pub IsWhole : List ℕ → Type 0
IsWhole bytes = (run : List ℕ) × HasNoEnd run × (bytes ≡ ended run)
