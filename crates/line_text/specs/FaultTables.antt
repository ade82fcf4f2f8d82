-- Tables of faults: rows in their order, of which the first that is met is taken.
use Rattle.std.specs.Prelude.{ℕ, Bool, true, false, List, [], ◌∷◌, Option, Some, None, Result, Ok, Err}
use Rattle.line_text.specs.Formats.{Format}

-- the fault where the test is met
abbrev pub when : {Fault : Type 0} → Bool → Fault → Option Fault
when true fault = Some fault
when false fault = None

-- the first of some faults
abbrev pub first_fault : {Fault : Type 0} → List (Option Fault) → Option Fault
first_fault [] = None
first_fault (Some fault ∷ more) = Some fault
first_fault (None ∷ more) = first_fault more

-- a fault that stands first, or what comes after it
abbrev pub unless_fault : {A Fault : Type 0} → Option Fault → Result A Fault → Result A Fault
unless_fault (Some fault) next = Err fault
unless_fault None next = next

-- the fault of an answer
abbrev pub fault_of : {A Fault : Type 0} → Result A Fault → Option Fault
fault_of (Ok a) = None
fault_of (Err fault) = Some fault

-- what is wrong with a line of this number in a state, and with the end of the text there
pub record FaultTable (State Line Fault : Type 0) : Type 0 where
  pub of_line : ℕ → State → Line → Option Fault
  pub of_end : State → Option Fault

-- the faults that the steps of a format tell
abbrev pub step_faults : {State Line Value Fault : Type 0} → Format State Line Value Fault → FaultTable State Line Fault
step_faults format = record { of_line = λ n state line. fault_of (format.step n state line); of_end = λ state. fault_of (format.finish state) }
