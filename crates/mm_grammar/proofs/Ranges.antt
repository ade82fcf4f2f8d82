-- The range of 32 bits is that of an `i32`.
use Rattle.std.proofs.Common.{◌≡◌, ◌^◌, ◌<◌, true, ℤ, pos, negsuc, FitsSigned, arith}
use Rattle.std.specs.Int.{w32}
use Rattle.std.proofs.lemmas.Bool.{ltb-true, lt-ltb}
use Rattle.mm_grammar.specs.Width.{width32, is_in_range}

pub i32_in_range : (z : ℤ) → FitsSigned w32 z → is_in_range width32 z ≡ true
i32_in_range (pos n) is = lt-ltb n (2 ^ 31) (omega arith)
i32_in_range (negsuc n) is = lt-ltb n (2 ^ 31) (omega arith)

pub in_range_i32 : (z : ℤ) → is_in_range width32 z ≡ true → FitsSigned w32 z
in_range_i32 (pos n) is = let h : n < 2 ^ 31 = ltb-true n (2 ^ 31) is in omega arith
in_range_i32 (negsuc n) is = let h : n < 2 ^ 31 = ltb-true n (2 ^ 31) is in omega arith
