-- What it is to be a text of a value, and what it is to have a fault.
use Rattle.std.specs.Prelude.{◌≡◌, ℕ, suc, ◌⊎◌, List, [], ◌∷◌, ◌++◌, length, Some, Ok}
use Rattle.line_text.specs.Formats.{Format, Refusal}
use Rattle.line_text.specs.FaultTables.{FaultTable}

-- the lines, the first of them with this number, are taken one after the other from the one state to the other
abbrev pub LeadsFrom : {State Line Value Fault : Type 0} → Format State Line Value Fault → ℕ → State → List Line → State → Type 0
LeadsFrom format n state [] last = state ≡ last
LeadsFrom {State = State} format n state (line ∷ more) last = (next : State) × (format.step n state line ≡ Ok next) × LeadsFrom format (suc n) next more last

-- all these lines are taken from the start to the state
abbrev pub Leads : {State Line Value Fault : Type 0} → Format State Line Value Fault → List Line → State → Type 0
Leads format taken state = LeadsFrom format 1 format.start taken state

-- all these lines lead to a state whose end is the value
pub record IsAccepted {State Line Value Fault : Type 0} (format : Format State Line Value Fault) (Stands : List Line → State → Type 0) (all : List Line) (value : Value) : Type 0 where
  pub state : State
  pub stand : Stands all state
  pub ends : format.finish state ≡ Ok value

-- the line after these is the bad one
pub record FailsAtLine {State Line Fault : Type 0} (faults : FaultTable State Line Fault) (all before : List Line) (state : State) (fault : Fault) : Type 0 where
  pub line : Line
  pub behind : List Line
  pub whole : all ≡ before ++ line ∷ behind
  pub fails : faults.of_line (suc (length before)) state line ≡ Some fault

-- these are all lines, and it is too early for the end
pub record FailsAtEnd {State Line Fault : Type 0} (faults : FaultTable State Line Fault) (all before : List Line) (state : State) (fault : Fault) : Type 0 where
  pub whole : all ≡ before
  pub fails : faults.of_end state ≡ Some fault

-- the lines before lead to a state, and the next line, or the end, has this fault there
pub record IsRefused {State Line Fault : Type 0} (faults : FaultTable State Line Fault) (Stands : List Line → State → Type 0) (all : List Line) (refusal : Refusal Fault) : Type 0 where
  pub before : List Line
  pub state : State
  pub stand : Stands before state
  pub number : refusal.line ≡ suc (length before)
  pub next : FailsAtLine faults all before state refusal.fault ⊎ FailsAtEnd faults all before state refusal.fault
