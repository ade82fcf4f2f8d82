-- The parts of a program.
use Rattle.std.specs.Prelude.{Bool, true, false}
use Rattle.grid_lang.specs.declared.part.Part.{Part}
use Rattle.grid_lang.specs.declared.part.Part.TheVariants.{Opening, Declarations, Exchanges, Results}

-- what may stand where so much was reached: RANKS first and once, then declarations, exchanges, results
abbrev pub may_stand : (reached part : Part) → Bool
may_stand Opening Opening = true
may_stand Opening other = false
may_stand reached Opening = false
may_stand Declarations part = true
may_stand Exchanges Declarations = false
may_stand Exchanges part = true
may_stand Results Results = true
may_stand Results part = false

-- what is reached after a line
abbrev pub reached_by : Part → Part
reached_by Opening = Declarations
reached_by Declarations = Declarations
reached_by Exchanges = Exchanges
reached_by Results = Results
