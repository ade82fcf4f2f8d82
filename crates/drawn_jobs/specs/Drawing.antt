-- The numbers that are drawn from a seed, as words.
use Rattle.std.specs.Prelude.{ℕ, zero, suc, ℤ, pos, List, map}
use Rattle.std.specs.List.{range_with_len}
use Rattle.std.specs.Int.{int_wrap, w32}
use Rattle.msg_core.specs.Drawn.{next_state, drawn}

-- the state of the generator after so many numbers
unfoldable pub state_after : ℕ → ℕ → ℕ
state_after seed zero = seed
state_after seed (suc k) = next_state (state_after seed k)

-- the k-th drawn number, counted from 0, in two's complement
abbrev pub drawn_word : ℕ → ℕ → ℤ
drawn_word seed k = int_wrap w32 (pos (drawn (state_after seed k)))

-- the first so many of them
abbrev pub drawn_words : ℕ → ℕ → List ℤ
drawn_words seed count = map (drawn_word seed) (range_with_len 0 count)
