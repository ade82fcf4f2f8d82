-- Parts of what is printed.
use Rattle.std.specs.Prelude.{ℕ, List}
use Rattle.std.specs.Fmt.{signed_decimal}
use Rattle.std.specs.List.{flat_map, range_with_len}
use Rattle.mm_grammar.specs.Matrix.{Matrix}
use Rattle.program_results.specs.Printing.{after_space, value_at}

-- so many values of row i from the second on, each after a space
unfoldable pub next_values : Matrix → ℕ → ℕ → List ℕ
next_values m i n = flat_map (λ j. after_space (signed_decimal (value_at m i j))) (range_with_len 1 n)
