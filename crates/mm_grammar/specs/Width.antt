-- The width of the integers of a file.
use Rattle.std.specs.Prelude.{ℕ, ◌+◌, ◌^◌, ℤ, pos, negsuc, Bool, nat_lt}

pub data Width : Type 0 where
  -- integers of 32 bits
  width32 : Width
  -- integers of 64 bits
  width64 : Width

-- the values are the integers from -bound to bound - 1
abbrev pub bound : Width → ℕ
bound width32 = 2 ^ 31
bound width64 = 2 ^ 63

-- and a matrix has at most so many of them
abbrev pub most : Width → ℕ
most width32 = 2 ^ 26
most width64 = 2 ^ 25

-- from -bound to bound - 1
abbrev pub is_in_range : Width → ℤ → Bool
is_in_range width (pos n) = nat_lt n (bound width)
is_in_range width (negsuc n) = nat_lt n (bound width)

-- from 1 - bound to bound - 1: the integers whose negatives are in range too
abbrev pub has_negative : Width → ℤ → Bool
has_negative width (pos n) = nat_lt n (bound width)
has_negative width (negsuc n) = nat_lt (n + 1) (bound width)
