-- The sections of a program after RANKS: declarations and words of arrays, and then exchanges and results.
use Rattle.std.specs.Prelude.{◌≡◌, ◌⊎◌, ℕ, List, []}
use Rattle.std.specs.List.{AllByRecursion}
use Rattle.grid_lang.specs.declared.line.Line.{Line}
use Rattle.grid_lang.specs.declared.line.Numbered.{Numbered}
use Rattle.grid_lang.specs.declared.line.Line.TheVariants.{Load, Ranks}
use Rattle.grid_lang.specs.ProgramParts.{part_of_line}
use Rattle.grid_lang.specs.Facts.{Known, nothing_known, known_after, AreSound}
use Rattle.line_plans.specs.Kinds.{kind_of_line}
use Rattle.line_plans.specs.Known.{Stands}
use Rattle.line_plans.specs.declared.kind.Kind.TheVariants as kind
use Rattle.line_plans.specs.declared.declared.Declared.{Declared}

-- a declaration, or words of an array
abbrev pub IsFront : Line → Type 0
IsFront line = (kind_of_line line ≡ kind.Declaration) ⊎ (kind_of_line line ≡ kind.Words)

abbrev pub AreFront : List Numbered → Type 0
AreFront lines = AllByRecursion (λ l. IsFront l.line) lines

-- an exchange, or a result
abbrev pub IsLater : Line → Type 0
IsLater line = (kind_of_line line ≡ kind.Exchange) ⊎ (kind_of_line line ≡ kind.Outcome)

abbrev pub AreLater : List Numbered → Type 0
AreLater lines = AllByRecursion (λ l. IsLater l.line) lines

-- the lines are sound after what is declared
abbrev pub AreKnown : Declared → List Numbered → Type 0
AreKnown d lines = (k : Known) × Stands d k × AreSound k lines

-- and declarations may still come: the part of LOAD and all other declarations is reached
abbrev pub MayDeclare : Declared → List Numbered → Type 0
MayDeclare d lines = (k : Known) × Stands d k × (k.reached ≡ part_of_line (Load 0 [])) × AreSound k lines

-- the lines stand after RANKS of so many ranks, and are sound there
abbrev pub IsAfterRanks : ℕ → List Numbered → Type 0
IsAfterRanks ranks lines = AreSound (known_after nothing_known (Ranks ranks)) lines
