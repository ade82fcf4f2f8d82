-- What holds of every format. `Stands` says in the format's own words that lines lead to a state, `Text` that they are all lines of a text of a value.
use Rattle.std.specs.Prelude.{◌≡◌, ℕ, suc, ◌⊎◌, List, [], ◌∷◌, ◌++◌, length, Ok, Err}
use Rattle.line_text.specs.Formats.{Format, Refusal, read_text}
use Rattle.line_text.specs.FaultTables.{FaultTable, fault_of}
use Rattle.line_text.specs.FormatMeaning.{Leads, IsAccepted, FailsAtLine, FailsAtEnd, IsRefused}

-- A format's own words say exactly what its steps do: all that has to be proved of a format.
pub record Describes {State Line Value Fault : Type 0} (format : Format State Line Value Fault) (faults : FaultTable State Line Fault) (Stands : List Line → State → Type 0) (Text : List Line → Value → Type 0) : Type 0 where
  -- a line that is taken leads on, and lines that stand were taken
  pub at_start : Stands [] format.start
  pub goes_on : (before : List Line) (state next : State) (line : Line) → Stands before state → format.step (suc (length before)) state line ≡ Ok next → Stands (before ++ line ∷ []) next
  pub leads : (before : List Line) (state : State) → Stands before state → Leads format before state
  -- a text is what leads to a state whose end is its value
  pub ends : (all : List Line) (value : Value) → IsAccepted format Stands all value → Text all value
  pub ended : (all : List Line) (value : Value) → Text all value → IsAccepted format Stands all value
  -- the faults are those of the table
  pub of_line : (n : ℕ) (state : State) (line : Line) → fault_of (format.step n state line) ≡ faults.of_line n state line
  pub of_end : (state : State) → fault_of (format.finish state) ≡ faults.of_end state

-- Reading gives the value, or the fault, and gives it exactly there.
pub record IsReading {State Line Value Fault : Type 0} (format : Format State Line Value Fault) (faults : FaultTable State Line Fault) (Stands : List Line → State → Type 0) (Text : List Line → Value → Type 0) : Type 0 where
  pub accepts : (bytes : List ℕ) (value : Value) → read_text format bytes ≡ Ok value → Text (format.lines_of bytes) value
  pub refuses : (bytes : List ℕ) (refusal : Refusal Fault) → read_text format bytes ≡ Err refusal → IsRefused faults Stands (format.lines_of bytes) refusal
  pub reads : (bytes : List ℕ) (value : Value) → Text (format.lines_of bytes) value → read_text format bytes ≡ Ok value
  pub finds : (bytes : List ℕ) (refusal : Refusal Fault) → IsRefused faults Stands (format.lines_of bytes) refusal → read_text format bytes ≡ Err refusal

-- Told exactly once: each text has exactly one value or exactly one fault at exactly one line, and never both.
pub record IsDecided {State Line Value Fault : Type 0} (format : Format State Line Value Fault) (faults : FaultTable State Line Fault) (Stands : List Line → State → Type 0) (Text : List Line → Value → Type 0) : Type 0 where
  pub either : (bytes : List ℕ) → ((value : Value) × Text (format.lines_of bytes) value) ⊎ ((refusal : Refusal Fault) × IsRefused faults Stands (format.lines_of bytes) refusal)
  pub one_value : (bytes : List ℕ) (v w : Value) → Text (format.lines_of bytes) v → Text (format.lines_of bytes) w → v ≡ w
  pub one_fault : (bytes : List ℕ) (r s : Refusal Fault) → IsRefused faults Stands (format.lines_of bytes) r → IsRefused faults Stands (format.lines_of bytes) s → r ≡ s
  pub not_both : (bytes : List ℕ) (value : Value) (refusal : Refusal Fault) → Text (format.lines_of bytes) value → IsRefused faults Stands (format.lines_of bytes) refusal → ⊥

-- The line of a fault is the first: whatever comes after it, it stays the fault, so the lines up to it go on to no text; where the end is the fault, all
-- lines are no text; and the lines before were taken.
pub record IsFirst {State Line Value Fault : Type 0} (faults : FaultTable State Line Fault) (Stands : List Line → State → Type 0) (Text : List Line → Value → Type 0) : Type 0 where
  pub stays : (all before more : List Line) (state : State) (fault : Fault) → Stands before state → (bad : FailsAtLine faults all before state fault)
      → IsRefused faults Stands ((before ++ bad.line ∷ []) ++ more) (record { line = suc (length before); fault = fault })
  pub stops : (all before more : List Line) (state : State) (fault : Fault) (value : Value) → Stands before state → (bad : FailsAtLine faults all before state fault) → Text ((before ++ bad.line ∷ []) ++ more) value → ⊥
  pub end_stops : (all before : List Line) (state : State) (fault : Fault) (value : Value) → Stands before state → FailsAtEnd faults all before state fault → Text all value → ⊥
  pub taken : (all front behind : List Line) (refusal : Refusal Fault) → IsRefused faults Stands all refusal → all ≡ front ++ behind → suc (length front) ≡ refusal.line → (state : State) × Stands front state
