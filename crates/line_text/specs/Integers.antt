-- Integers in the range of 32 bits, and others.
use Rattle.std.specs.Prelude.{◌≡◌, ◌^◌, ◌≤◌, ℤ, pos, negsuc, Option, Some, None, nat_lt, if◌then◌else◌}
use Rattle.line_text.specs.declared.integers.Integer.{Integer}
use Rattle.line_text.specs.declared.integers.Integer.TheVariants.{Fits, OutOfRange}

-- past the range of 32 bits
abbrev pub IsPast : ℤ → Type 0
IsPast (pos n) = 2 ^ 31 ≤ n
IsPast (negsuc n) = 2 ^ 31 ≤ n

-- some integer past that range
pub record IsOut (z : Option ℤ) : Type 0 where
  pub value : ℤ
  pub is : z ≡ Some value
  pub past : IsPast value

-- what a word was found to be is what it is: no integer, this one, or one out of range
abbrev pub IsFound : Option Integer → Option ℤ → Type 0
IsFound None z = z ≡ None
IsFound (Some (Fits v)) z = z ≡ Some v
IsFound (Some OutOfRange) z = IsOut z

-- an integer of 32 bits, if it is one
abbrev pub in_32_bits : Option ℤ → Option ℤ
in_32_bits None = None
in_32_bits (Some (pos n)) = if nat_lt n (2 ^ 31) then Some (pos n) else None
in_32_bits (Some (negsuc n)) = if nat_lt n (2 ^ 31) then Some (negsuc n) else None
