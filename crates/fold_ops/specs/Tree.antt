-- Joining the members of a scope in any grouping and any order.
use Rattle.std.specs.Prelude.{◌≡◌, ℕ, ℤ, pos, ◌+◌, ◌<◌, ◌≤◌, nat_eq, FitsSigned, if◌then◌else◌, List, length, slice_index_or}
use Rattle.std.specs.Int.{w32}
use Rattle.fold_ops.specs.declared.held.Held.{Held}

-- a way of joining: what one member holds, by its place, or two ways joined
pub data Tree : Type 0 where
  one : ℕ → Tree
  both : Tree → Tree → Tree

-- how often a place is joined
abbrev pub times : ℕ → Tree → ℕ
times k (one j) = if nat_eq j k then 1 else 0
times k (both a b) = times k a + times k b

-- each of n places is joined exactly once, and no other
pub record JoinsAll (n : ℕ) (tree : Tree) : Type 0 where
  pub once : (k : ℕ) → k < n → times k tree ≡ 1
  pub no_other : (k : ℕ) → n ≤ k → times k tree ≡ 0

-- the word at a place
abbrev pub word_at : List ℤ → ℕ → ℤ
word_at words k = slice_index_or words k (pos 0)

-- the words are 32 bits wide
abbrev pub AllFit : List ℤ → Type 0
AllFit words = (k : ℕ) → k < length words → FitsSigned w32 (word_at words k)

-- what the tree's joins give, where each member holds its word
abbrev pub joined_over : (Held → Held → Held) → List ℤ → Tree → Held
joined_over joined words (one k) = record { value = word_at words k; place = k }
joined_over joined words (both a b) = joined (joined_over joined words a) (joined_over joined words b)
