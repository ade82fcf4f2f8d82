-- The places of a matrix file: what has to stand next.
use Rattle.std.specs.Prelude.{ℤ, List}
use Rattle.mm_grammar.specs.Symmetry.{Symmetry}
use Rattle.mm_grammar.specs.Parts.{Header}

pub data Place : Type 0 where
  -- the banner
  AtBanner : Place
  -- the size line, with lines between before it
  AtSize : Symmetry → Place
  -- the values behind those that were stored
  AtValues : Header → (stored : List ℤ) → Place
