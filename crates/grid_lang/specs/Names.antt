-- What is declared so far.
use Rattle.std.specs.Prelude.{ℕ, ◌+◌, List, Option, Some, None, String, bytes_eq, if◌then◌else◌}
use Rattle.std.specs.BTreeMap.{BTreeMap, get_by_text}
use Rattle.grid_lang.specs.declared.named.Named.{Named}
use Rattle.grid_lang.specs.declared.named.Named.TheVariants.{Grid, Array, Matrix}

-- what each word names, if it is declared
abbrev pub Names : Type 0
Names = List ℕ → Option Named

-- the names of a map by their texts
abbrev pub names_of : {A : Type 0} → BTreeMap (String A) Named → Names
names_of map = λ word. get_by_text map word

-- the number of ranks, the names, and how many grids and arrays there are
pub record Declared : Type 0 where
  pub ranks : ℕ
  pub names : Names
  pub grids : ℕ
  pub arrays : ℕ

-- nothing is declared
abbrev pub no_names : Declared
no_names = record { ranks = 0; names = λ word. None; grids = 0; arrays = 0 }

-- one name more
abbrev pub with_name : List ℕ → Named → Names → Names
with_name name what names = λ word. if bytes_eq name word then Some what else names word

abbrev pub with_ranks : ℕ → Declared → Declared
with_ranks n d = record d { ranks = n }

abbrev pub with_grid : List ℕ → Declared → Declared
with_grid word d = record { ranks = d.ranks; names = with_name word (Grid d.grids) d.names; grids = d.grids + 1; arrays = d.arrays }

abbrev pub with_array : List ℕ → Declared → Declared
with_array word d = record { ranks = d.ranks; names = with_name word (Array d.arrays) d.names; grids = d.grids; arrays = d.arrays + 1 }

abbrev pub with_matrix : List ℕ → Declared → Declared
with_matrix word d = record { ranks = d.ranks; names = with_name word (Matrix d.arrays) d.names; grids = d.grids; arrays = d.arrays + 1 }
