-- Lists by their elements.
use Rattle.std.specs.Prelude.{◌≡◌, ℕ, ◌+◌, ◌<◌, ◌≤◌, List, length, map, take, slice_index, slice_index_or, min}
use Rattle.std.specs.List.{range_with_len}
use Rattle.std.proofs.Common.{zero, suc, sym, ap, ◌∙◌, refl, arith, length-take, ◌∷◌}
use Rattle.std.proofs.lemmas.List.{ext_get_or, length-map, get_or-map, get_or-take}
use Rattle.std.proofs.lemmas.List.FromFn.{length-map-range_with_len, get_or-map-range_with_len}

-- a list of n elements by a function of the position
pub as_table : {X : Type 0} (d : X) (xs : List X) (f : ℕ → X) (n : ℕ) → length xs ≡ n → ((k : ℕ) → k < n → slice_index_or xs k d ≡ f k) → xs ≡ map f (range_with_len 0 n)
as_table d xs f n long each =
    let size : length (map f (range_with_len 0 n)) ≡ n = length-map-range_with_len f 0 n in
    ext_get_or d xs (map f (range_with_len 0 n)) (omega arith) (λ k lt. let l : k < n = omega arith in each k l ∙ sym (get_or-map-range_with_len f 0 n k k d l (omega arith)))

-- f of the elements of a list, by their positions
pub table_of : {X : Type 0} (d : X) (ranks : List ℕ) (f : ℕ → X) → map f ranks ≡ map (λ p. f (slice_index ranks p)) (range_with_len 0 (length ranks))
table_of d ranks f = as_table d (map f ranks) (λ p. f (slice_index ranks p)) (length ranks) (length-map ranks f) (λ k lt. get_or-map f ranks k 0 d lt)

-- tables whose functions agree
pub same_tables : {X : Type 0} (f g : ℕ → X) (a n : ℕ) → ((k : ℕ) → k < a + n → f k ≡ g k) → map f (range_with_len a n) ≡ map g (range_with_len a n)
same_tables f g a zero same = refl
same_tables f g a (suc n) same = ap (λ x. x ∷ map f (range_with_len (a + 1) n)) (same a (omega arith)) ∙ ap (λ xs. g a ∷ xs) (same_tables f g (a + 1) n (λ k lt. same k (omega arith)))

-- g of the first n elements of a list
pub first_table : {X Y : Type 0} (d : X) (e : Y) (g : X → Y) (xs : List X) (f : ℕ → Y) (n : ℕ) → n ≤ length xs → ((k : ℕ) → k < n → g (slice_index_or xs k d) ≡ f k) → map g (take n xs) ≡ map f (range_with_len 0 n)
first_table d e g xs f n le each =
    let front : length (take n xs) ≡ min n (length xs) = length-take n xs in
    let size : length (take n xs) ≡ n = omega arith in
    as_table e (map g (take n xs)) f n (length-map (take n xs) g ∙ size) (λ k lt.
    get_or-map g (take n xs) k d e (omega arith) ∙ ap g (get_or-take n xs k d lt) ∙ each k lt)

-- a table of a table
pub map_table : {X Y : Type 0} (g : X → Y) (f : ℕ → X) (a n : ℕ) → map g (map f (range_with_len a n)) ≡ map (λ k. g (f k)) (range_with_len a n)
map_table g f a zero = refl
map_table g f a (suc n) = ap (λ ys. g (f a) ∷ ys) (map_table g f (a + 1) n)
