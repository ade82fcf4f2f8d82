-- The bounds of the numbers among the words.
use Rattle.std.specs.Prelude.{ℕ, ◌*◌, ◌^◌, ◌≤◌, ◌<◌}
use Rattle.tool_words.specs.declared.asked.How.{How}
use Rattle.tool_words.specs.declared.asked.How.TheVariants.{Plain, Threads, Seed}
use Rattle.tool_words.specs.declared.asked.Asked.{Asked}
use Rattle.tool_words.specs.declared.asked.Asked.TheVariants.{Split, Join, Move, Check, Run, Load}

-- a grid of p by q processes, 64 at most, and blocks of mb by nb
pub record IsTarget (p q mb nb : ℕ) : Type 0 where
  pub rows : 1 ≤ p
  pub columns : 1 ≤ q
  pub grid : p * q ≤ 64
  pub row_block : 1 ≤ mb
  pub row_block_fits : mb ≤ 2 ^ 24
  pub column_block : 1 ≤ nb
  pub column_block_fits : nb ≤ 2 ^ 24

abbrev pub IsHow : How → Type 0
IsHow Plain = Unit {0}
IsHow Threads = Unit {0}
IsHow (Seed s) = s < 2 ^ 64

-- every number lies within its bounds
abbrev pub IsWithin : Asked → Type 0
IsWithin (Split input output p q mb nb) = IsTarget p q mb nb
IsWithin (Join prefix output) = Unit {0}
IsWithin (Move prefix output p q mb nb how) = IsTarget p q mb nb × IsHow how
IsWithin (Check program) = Unit {0}
IsWithin (Run program how) = IsHow how
IsWithin (Load seed size) = (seed < 2 ^ 64) × (1 ≤ size) × (size ≤ 2000)
