-- What holds of each element of a front, one element after the other.
use Rattle.std.proofs.Common.{ℕ, ◌+◌, ◌<◌, ◌≤◌, List, [], ◌∷◌, ◌++◌, length, take, get_or, take_all, arith}
use Rattle.std.specs.List.{AllByRecursion}
use Rattle.std.proofs.lemmas.List.{take_more}

pub front_none : {X : Type 0} (P : X → Type 0) (xs : List X) → AllByRecursion P (take 0 xs)
front_none P [] = tt
front_none P (x ∷ xs) = tt

pub all_append : {X : Type 0} (P : X → Type 0) (xs ys : List X) → AllByRecursion P xs → AllByRecursion P ys → AllByRecursion P (xs ++ ys)
all_append P [] ys all more = more
all_append P (x ∷ xs) ys all more = (all.0, all_append P xs ys all.1 more)

pub front_more : {X : Type 0} (P : X → Type 0) (i : ℕ) (xs : List X) (d : X) → i < length xs → AllByRecursion P (take i xs) → P (get_or xs i d) → AllByRecursion P (take (i + 1) xs)
front_more P i xs d lt all is = rw (take_more xs i d lt) (all_append P (take i xs) (get_or xs i d ∷ []) all (is, tt))

pub front_all : {X : Type 0} (P : X → Type 0) (i : ℕ) (xs : List X) → length xs ≤ i → AllByRecursion P (take i xs) → AllByRecursion P (take (length xs) xs)
front_all P i xs le all = rw (take_all (length xs) xs (omega arith)) (rw (take_all i xs le) at all)
