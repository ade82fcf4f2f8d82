-- The bytes of a line as a reader gathers them.
use Rattle.std.specs.Prelude.{◌≡◌, ℕ, ◌+◌, ◌<◌, ◌≤◌, ◌^◌, List, [], ◌∷◌, ◌++◌, length, take}
use Rattle.line_text.specs.Lines.{without_return, HasNoEnd}
use Rattle.text_io.specs.LineReading.{ReaderView, HasFault}
use Rattle.text_io.specs.declared.reader.Next.{Next}
use Rattle.text_io.specs.declared.reader.Next.TheVariants.{Line, End, Fault}
use Rattle.text_io.specs.declared.reader.Run.{Run}
use Rattle.text_io.specs.declared.reader.Run.TheVariants.{Ended, Last, Far}

-- so many bytes without a line end stand before others, and the first 1,025 of them are kept
pub record IsRun (start after : List ℕ) (count : ℕ) (text : List ℕ) : Type 0 where
  pub run : List ℕ
  pub whole : start ≡ run ++ after
  pub no_end : HasNoEnd run
  pub long : length run ≡ count
  pub kept : text ≡ take 1025 run

-- a line with its end, a last line without one, or more bytes than a file may have
abbrev pub Runs : Run → (before : ℕ) → (start left text : List ℕ) → Type 0
Runs (Ended count) before start left text = IsRun start (10 ∷ left) count text
Runs (Last count) before start left text = IsRun start [] count text × (left ≡ [])
Runs Far before start left text = (count : ℕ) × IsRun start left count text × (2 ^ 30 < before + count)

abbrev pub IsNear : Run → (before : ℕ) → Type 0
IsNear (Ended count) before = before + count ≤ 2 ^ 30
IsNear (Last count) before = before + count ≤ 2 ^ 30
IsNear Far before = before ≤ 2 ^ 30

-- a line of these bytes, with its end so many, was taken; or its fault
abbrev pub Ends : Next → List ℕ → ℕ → (old new : ReaderView) → Type 0
Ends Line text bytes old new = (new.text ≡ without_return text) × (new.before ≡ old.before + bytes)
Ends End text bytes old new = ⊥
Ends (Fault what) text bytes old new = HasFault what (old.before + bytes) (without_return text)
