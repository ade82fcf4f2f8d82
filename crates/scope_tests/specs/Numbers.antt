-- Numbers of arrays.
use Rattle.std.specs.Prelude.{ℕ, Bool, ◌&&◌, nat_lt, Option, Some, None}

-- an array, and the arrays RA and CA where they are asked for, are among the first so many
abbrev pub are_numbers : ℕ → ℕ → Option (ℕ × ℕ) → Bool
are_numbers count array None = nat_lt array count
are_numbers count array (Some rc) = nat_lt array count && nat_lt rc.0 count && nat_lt rc.1 count
