-- Formats of texts that are read line by line, and the reading of such a text. Matrix files, piece files, grid programs and traces are such formats.
use Rattle.std.specs.Prelude.{ℕ, suc, List, [], ◌∷◌, Result, Ok, Err}

-- how bytes are cut into lines, how reading begins, what a line with its number makes of a state, and what the end of the text makes of it
pub record Format (State Line Value Fault : Type 0) : Type 0 where
  pub lines_of : List ℕ → List Line
  pub start : State
  pub step : ℕ → State → Line → Result State Fault
  pub finish : State → Result Value Fault

-- a fault and its line, counted from 1; a fault at the end stands at the number of lines plus 1
pub record Refusal (Fault : Type 0) : Type 0 where
  pub line : ℕ
  pub fault : Fault

-- the fault stands at this line
abbrev pub refused_at : {A Fault : Type 0} → ℕ → Result A Fault → Result A (Refusal Fault)
refused_at n (Ok a) = Ok a
refused_at n (Err fault) = Err (record { line = n; fault = fault })

-- what comes next, where nothing was refused
abbrev pub and_then : {A B E : Type 0} → Result A E → (A → Result B E) → Result B E
and_then (Ok a) next = next a
and_then (Err e) next = Err e

-- what these lines are read to, the first of them with this number, in this state
unfoldable pub read_on : {State Line Value Fault : Type 0} → Format State Line Value Fault → ℕ → State → List Line → Result Value (Refusal Fault)
read_on format n state [] = refused_at n (format.finish state)
read_on format n state (line ∷ more) = and_then (refused_at n (format.step n state line)) (λ next. read_on format (suc n) next more)

-- what all lines of a text are read to
abbrev pub read_all : {State Line Value Fault : Type 0} → Format State Line Value Fault → List Line → Result Value (Refusal Fault)
read_all format all = read_on format 1 format.start all

-- what bytes are read to: these from the line of this number on, in this state, and a whole text
abbrev pub read_bytes : {State Line Value Fault : Type 0} → Format State Line Value Fault → ℕ → State → List ℕ → Result Value (Refusal Fault)
read_bytes format n state bytes = read_on format n state (format.lines_of bytes)

abbrev pub read_text : {State Line Value Fault : Type 0} → Format State Line Value Fault → List ℕ → Result Value (Refusal Fault)
read_text format bytes = read_all format (format.lines_of bytes)
