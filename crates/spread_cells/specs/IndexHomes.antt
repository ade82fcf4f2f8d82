-- Where the indices of one dimension lie, one by one.
use Rattle.std.specs.Prelude.{ℕ, List, map}
use Rattle.std.specs.List.{range_with_len}
use Rattle.index_tools.specs.Spread.{Spread, owner, local}
use Rattle.spread_cells.specs.declared.index_home.IndexHome.{IndexHome}

-- the process that owns the index, and the index's local index there
abbrev pub index_home : Spread → ℕ → IndexHome
index_home s index = record { process = owner s index; local = local s index }

-- the same of each index below n
abbrev pub index_homes : Spread → ℕ → List IndexHome
index_homes s n = map (index_home s) (range_with_len 0 n)
