-- The fold of the whole list of words of a scope, as the combines of A User's Guide to the BLACS give it.
use Rattle.std.specs.Prelude.{◌≡◌, ℕ, ℤ, pos, ◌+ℤ◌, ◌<◌, ◌≤◌, unsigned_abs, List, [], ◌∷◌, length}
use Rattle.std.specs.Int.{int_wrap, w32}
use Rattle.fold_ops.specs.declared.held.Held.{Held}
use Rattle.fold_ops.specs.Tree.{word_at}

-- the sum as a whole number
abbrev pub total : List ℤ → ℤ
total [] = pos 0
total (w ∷ ws) = w +ℤ total ws

-- the value is the sum modulo 2^32 in two's complement
pub record IsSumFold (words : List ℤ) (fold : Held) : Type 0 where
  pub value : fold.value ≡ int_wrap w32 (total words)

-- the word of greatest absolute value, with the least place of such a word
pub record IsMaxFold (words : List ℤ) (fold : Held) : Type 0 where
  pub place : fold.place < length words
  pub value : fold.value ≡ word_at words fold.place
  pub greatest : (k : ℕ) → k < length words → unsigned_abs (word_at words k) ≤ unsigned_abs fold.value
  pub first : (k : ℕ) → k < fold.place → unsigned_abs (word_at words k) < unsigned_abs fold.value

-- the word of least absolute value, with the least place of such a word
pub record IsMinFold (words : List ℤ) (fold : Held) : Type 0 where
  pub place : fold.place < length words
  pub value : fold.value ≡ word_at words fold.place
  pub least : (k : ℕ) → k < length words → unsigned_abs fold.value ≤ unsigned_abs (word_at words k)
  pub first : (k : ℕ) → k < fold.place → unsigned_abs fold.value < unsigned_abs (word_at words k)
