-- What the parts of the reader answer.
use Rattle.std.specs.Prelude.{◌≡◌, ℕ, true, List, Result, Ok, Err}
use Rattle.std.specs.List.{list_all}
use Rattle.std.specs.Char.{is_ascii}
use Rattle.grid_lang.specs.declared.fault.LangFault.{LangFault}
use Rattle.grid_lang.specs.declared.halt.Halt.{Halt}
use Rattle.grid_lang.specs.declared.halt.Halt.TheVariants.{Bad, NoMemory}
use Rattle.grid_lang.specs.declared.line.Line.{Line}

-- all bytes of these words are ASCII
abbrev pub AreAscii : List (List ℕ) → Type 0
AreAscii ws = list_all (λ w. list_all is_ascii w) ws ≡ true

-- it is what was asked for, or out of memory
abbrev pub IsReadLine : Result Line LangFault → Result Line Halt → Type 0
IsReadLine asked (Ok line) = asked ≡ Ok line
IsReadLine asked (Err (Bad fault)) = asked ≡ Err fault
IsReadLine asked (Err NoMemory) = Unit {0}

-- the state after a line, or why there is none
abbrev pub IsStepped : {State : Type 0} → Result State LangFault → State → Result (Unit {0}) Halt → Type 0
IsStepped asked new (Ok u) = asked ≡ Ok new
IsStepped asked new (Err (Bad fault)) = asked ≡ Err fault
IsStepped asked new (Err NoMemory) = Unit {0}

-- they are the numbers that were asked for, or it is the fault, or out of memory
abbrev pub AreNumbers : Result (List ℕ) LangFault → Result (List ℕ) Halt → Type 0
AreNumbers asked (Ok ns) = asked ≡ Ok ns
AreNumbers asked (Err (Bad fault)) = asked ≡ Err fault
AreNumbers asked (Err NoMemory) = Unit {0}
