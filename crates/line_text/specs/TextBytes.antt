-- The bytes of which texts consist.
use Rattle.std.specs.Prelude.{ℕ, Bool, ◌||◌, ◌&&◌, nat_le, ◌==◌}

-- a tab, or a byte from 32 to 126
abbrev pub is_text_byte : ℕ → Bool
is_text_byte b = b == 9 || (nat_le 32 b && nat_le b 126)
