-- Names of files among the words.
use Rattle.std.specs.Prelude.{ℕ, List, Bool, not, ◌&&◌, length, ◌==◌, nat_le}
use Rattle.std.specs.List.{list_any}

-- a name of a file: 1 to 1,024 bytes, none of them 0
abbrev pub is_name : List ℕ → Bool
is_name text = nat_le 1 (length text) && nat_le (length text) 1024 && not (list_any (λ b. b == 0) text)
