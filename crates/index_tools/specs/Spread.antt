-- How the indices of one dimension are spread over processes in blocks.
-- ScaLAPACK Users' Guide, "The Two-dimensional Block-Cyclic Distribution".
use Rattle.std.specs.Prelude.{◌≡◌, ℕ, zero, suc, ◌+◌, ◌/◌, ◌%◌, ◌==◌, if◌then◌else◌}

-- blocks of so many indices, dealt out in turn, the first block to the process `first`
pub record Spread : Type 0 where
  pub block : ℕ
  pub first : ℕ
  pub processes : ℕ

abbrev pub spread : ℕ → ℕ → ℕ → Spread
spread block first processes = record { block = block; first = first; processes = processes }

-- the process that an index, counted from 0, belongs to
abbrev pub owner : Spread → ℕ → ℕ
owner s index = (s.first + index / s.block) % s.processes

-- how many of the indices below n belong to a process, counted one by one
unfoldable pub below : Spread → ℕ → ℕ → ℕ
below s process zero = 0
below s process (suc n) = below s process n + (if owner s n == process then 1 else 0)

-- the local index of an index on the process that it belongs to: how many of that process's indices are below it
abbrev pub local : Spread → ℕ → ℕ
local s index = below s (owner s index) index

-- The index belongs to the process and has exactly `place` of the process's indices below it.
pub record IsIndexAt (s : Spread) (process place index : ℕ) : Type 0 where
  pub owned : owner s index ≡ process
  pub counted : below s process index ≡ place
