-- What joining two held words gives, for the combines of A User's Guide to the BLACS. A held word is a word and the place of
-- its holder. The order at a tie is this project's own.
use Rattle.std.specs.Prelude.{ℕ, ◌+ℤ◌, min, unsigned_abs, if◌then◌else◌}
use Rattle.std.specs.Int.{int_wrap, w32}
use Rattle.std.specs.Ordering.{nat_cmp, int_cmp, is_gt, then_cmp, on, flip_args}
use Rattle.std.specs.declared.cmp.Ordering.{Ordering}
use Rattle.fold_ops.specs.declared.held.Held.{Held}

-- the sum modulo 2^32 in two's complement, and the lesser place
abbrev pub sum_joined : Held → Held → Held
sum_joined a b = record { value = int_wrap w32 (a.value +ℤ b.value); place = min a.place b.place }

-- the absolute value, a whole number
abbrev pub size : Held → ℕ
size a = unsigned_abs a.value

-- the lesser place comes first, and then the greater word
abbrev pub by_tie : Held → Held → Ordering
by_tie = then_cmp (on (λ a. a.place) nat_cmp) (on (λ a. a.value) (flip_args int_cmp))

-- the greater absolute value comes first, and then as at a tie
abbrev pub greatest_first : Held → Held → Ordering
greatest_first = then_cmp (on size (flip_args nat_cmp)) by_tie

-- the lesser absolute value comes first, and then as at a tie
abbrev pub least_first : Held → Held → Ordering
least_first = then_cmp (on size nat_cmp) by_tie

-- the one of the two that comes first
abbrev pub first_by : (Held → Held → Ordering) → Held → Held → Held
first_by order a b = if is_gt (order a b) then b else a

abbrev pub max_joined : Held → Held → Held
max_joined = first_by greatest_first

abbrev pub min_joined : Held → Held → Held
min_joined = first_by least_first
