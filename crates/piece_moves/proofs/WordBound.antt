-- A move's messages have at most as many words as there are elements.
use Rattle.std.proofs.Common.{◌≡◌, ℕ, zero, suc, ◌+◌, ◌*◌, ◌<◌, ◌≤◌, ◌==◌, ◌&&◌, Bool, true, false, cond, List, [], ◌∷◌, length, refl, sym, ap, ap₂, ◌∙◌, arith}
use Rattle.std.specs.Prelude.{map, filter, count_by, sum_by}
use Rattle.std.specs.List.{range_with_len, flat_map}
use Rattle.std.proofs.lemmas.Bool.{eqb-true}
use Rattle.std.proofs.lemmas.List.{length-append, length-map}
use Rattle.std.proofs.lemmas.List.Sums.{sum_by-cons, sum_by-append, length-filter, count_by-le-length}
use Rattle.std.proofs.lemmas.List.FromFn.{length-range_with_len}
use Rattle.pack_words.specs.declared.cut.Cut.{Cut}
use Rattle.pack_words.specs.Selected.{is_selected}
use Rattle.mr2d.specs.Moves.{Move, home_a, home_b, elements}
use Rattle.mr2d.specs.Plans.{pairs}
use Rattle.move_numbers.specs.MoveNumbers.{goes, going, move_words}

abbrev one_if : Bool → ℕ
one_if b = cond b 1 0

count_cons : {X : Type 0} (t : X → Bool) (x : X) (xs : List X) → count_by t (x ∷ xs) ≡ one_if (t x) + count_by t xs
count_cons t x xs = sum_by-cons (λ y. cond (t y) 1 0) x xs

sum_both : {X : Type 0} (f g : X → ℕ) (xs : List X) → sum_by (λ x. f x + g x) xs ≡ sum_by f xs + sum_by g xs
sum_both f g [] = refl
sum_both f g (x ∷ xs) =
    let a = sum_by-cons (λ y. f y + g y) x xs in
    let b = sum_by-cons f x xs in
    let c = sum_by-cons g x xs in
    let d = sum_both f g xs in
    omega (arith, a, b, c, d)

sum_same : {X : Type 0} (f g : X → ℕ) (xs : List X) → ((x : X) → f x ≡ g x) → sum_by f xs ≡ sum_by g xs
sum_same f g [] h = refl
sum_same f g (x ∷ xs) h =
    let b = sum_by-cons f x xs in
    let c = sum_by-cons g x xs in
    omega (arith, b, c, h x, sum_same f g xs h)

sum_less : {X : Type 0} (f g : X → ℕ) (xs : List X) → ((x : X) → f x ≤ g x) → sum_by f xs ≤ sum_by g xs
sum_less f g [] h = let e : 0 ≤ 0 = omega arith in e
sum_less f g (x ∷ xs) h =
    let b = sum_by-cons f x xs in
    let c = sum_by-cons g x xs in
    omega (arith, b, c, h x, sum_less f g xs h)

sum_none : {X : Type 0} (xs : List X) → sum_by (λ x. 0) xs ≡ 0
sum_none [] = refl
sum_none (x ∷ xs) = let b = sum_by-cons (λ y. 0) x xs in omega (arith, b, sum_none xs)

-- what each is counted in at most once, all together is counted at most once each
count_all : {X E : Type 0} (t : X → E → Bool) (xs : List X) (es : List E) → ((e : E) → count_by (λ x. t x e) xs ≤ 1) → sum_by (λ x. count_by (t x) es) xs ≤ length es
count_all t xs [] h = let none = sum_none xs in omega (arith, none)
count_all t xs (e ∷ es) h =
    let step = sum_same (λ x. count_by (t x) (e ∷ es)) (λ x. one_if (t x e) + count_by (t x) es) xs (λ x. count_cons (t x) e es) in
    let both = sum_both (λ x. one_if (t x e)) (λ x. count_by (t x) es) xs in
    let rest = count_all t xs es h in
    let here : sum_by (λ x. one_if (t x e)) xs ≤ 1 = h e in
    omega (arith, step, both, rest, here)

-- a number stands in a range at most once
unequal : (x y : ℕ) → x < y → (x == y) ≡ false
unequal x y lt = by (x == y) refl
  where
    by : (b : Bool) → (x == y) ≡ b → (x == y) ≡ false
    by true e = let same = eqb-true x y e in absurd (omega (arith, lt, same))
    by false e = e

later : (a s n : ℕ) → a < s → count_by (λ k. a == k) (range_with_len s n) ≡ 0
later a s zero lt = refl
later a s (suc n) lt =
    let step = count_cons (λ k. a == k) s (range_with_len (s + 1) n) in
    let here : one_if (a == s) ≡ 0 = ap one_if (unequal a s lt) in
    let rest = later a (s + 1) n (omega arith) in
    omega (arith, step, here, rest)

same_number : (x y : ℕ) → (x == y) ≡ true → x ≡ y
same_number x y e = eqb-true x y e

once : (a s n : ℕ) → count_by (λ k. a == k) (range_with_len s n) ≤ 1
once a s zero = omega arith
once a s (suc n) = by (a == s) refl (once a (s + 1) n)
  where
    by : (b : Bool) → (a == s) ≡ b → count_by (λ k. a == k) (range_with_len (s + 1) n) ≤ 1 → count_by (λ k. a == k) (range_with_len s (suc n)) ≤ 1
    by true e rest =
        let same = same_number a s e in
        let none = later a (s + 1) n (omega (arith, same)) in
        let step = count_cons (λ k. a == k) s (range_with_len (s + 1) n) in
        let here : one_if (a == s) ≡ 1 = ap one_if e in
        omega (arith, none, step, here)
    by false e rest =
        let step = count_cons (λ k. a == k) s (range_with_len (s + 1) n) in
        let here : one_if (a == s) ≡ 0 = ap one_if e in
        omega (arith, rest, step, here)

-- one pair among all
in_row : (a b from : ℕ) (ks : List ℕ) → count_by (λ k. b == k) ks ≤ 1 → count_by (λ (p : ℕ × ℕ). (a == p.0) && (b == p.1)) (map (λ to. (from, to)) ks) ≤ one_if (a == from)
in_row a b from ks few = by (a == from) refl
  where
    along : (c : Bool) → (a == from) ≡ c → (ms : List ℕ) → count_by (λ (p : ℕ × ℕ). (a == p.0) && (b == p.1)) (map (λ to. (from, to)) ms) ≡ count_by (λ k. c && (b == k)) ms
    along c e [] = refl
    along c e (m ∷ ms) =
        count_cons (λ (p : ℕ × ℕ). (a == p.0) && (b == p.1)) (from, m) (map (λ to. (from, to)) ms) ∙ ap₂ (λ (d : Bool) (n : ℕ). one_if (d && (b == m)) + n) e (along c e ms) ∙ sym (count_cons (λ k. c && (b == k)) m ms)

    none : (ms : List ℕ) → count_by (λ (k : ℕ). false) ms ≡ 0
    none [] = refl
    none (m ∷ ms) = let step = count_cons (λ (k : ℕ). false) m ms in let rest = none ms in omega (arith, step, rest)

    by : (c : Bool) → (a == from) ≡ c → count_by (λ (p : ℕ × ℕ). (a == p.0) && (b == p.1)) (map (λ to. (from, to)) ks) ≤ one_if (a == from)
    by true e = let whole = along true e ks in let here : one_if (a == from) ≡ 1 = ap one_if e in omega (arith, whole, here, few)
    by false e = let whole = along false e ks in let empty = none ks in omega (arith, whole, empty)

rows_once : (a b r : ℕ) (fs : List ℕ) → count_by (λ (p : ℕ × ℕ). (a == p.0) && (b == p.1)) (flat_map (λ from. map (λ to. (from, to)) (range_with_len 0 r)) fs) ≤ count_by (λ k. a == k) fs
rows_once a b r [] = let e : 0 ≤ 0 = omega arith in e
rows_once a b r (f ∷ fs) =
    let t : ℕ × ℕ → Bool = λ p. (a == p.0) && (b == p.1) in
    let row : List (ℕ × ℕ) = map (λ to. (f, to)) (range_with_len 0 r) in
    let split = sum_by-append (λ p. one_if (t p)) row (flat_map (λ from. map (λ to. (from, to)) (range_with_len 0 r)) fs) in
    let step = count_cons (λ k. a == k) f fs in
    omega (arith, split, step, in_row a b f (range_with_len 0 r) (once b 0 r), rows_once a b r fs)

pair_once : (a b ranks : ℕ) → count_by (λ (p : ℕ × ℕ). (a == p.0) && (b == p.1)) (pairs ranks) ≤ 1
pair_once a b ranks = let rows = rows_once a b ranks (range_with_len 0 ranks) in let few = once a 0 ranks in omega (arith, rows, few)

-- the elements of a cut
elements_few : (cut : Cut) (js : List ℕ) → length {A = ℕ × ℕ} (flat_map (λ j. map (λ i. (i, j)) (filter (λ i. is_selected cut i j) (range_with_len 0 cut.m))) js) ≤ cut.m * length js
elements_few cut [] = let e : 0 ≤ cut.m * 0 = omega arith in e
elements_few cut (j ∷ js) =
    let rows : List ℕ = filter (λ i. is_selected cut i j) (range_with_len 0 cut.m) in
    let column : List (ℕ × ℕ) = map (λ i. (i, j)) rows in
    let whole = length-append column (flat_map (λ k. map (λ i. (i, k)) (filter (λ i. is_selected cut i k) (range_with_len 0 cut.m))) js) in
    let size : length column ≡ length rows = length-map rows (λ (i : ℕ). (i, j)) in
    let chosen = length-filter (λ i. is_selected cut i j) (range_with_len 0 cut.m) in
    let less = count_by-le-length (λ i. is_selected cut i j) (range_with_len 0 cut.m) in
    let all = length-range_with_len 0 cut.m in
    let more : cut.m * suc (length js) ≡ cut.m + cut.m * length js = grind arith in
    omega (arith, whole, size, chosen, less, all, more, elements_few cut js)

-- The words of all messages of a move are at most its rows times its columns.
pub words_few : (mv : Move) (ranks : ℕ) → move_words mv ranks ≤ mv.cut.m * mv.cut.n
unfolding move_words
words_few mv ranks =
    let less = sum_less (λ p. cond (p.0 == p.1) 0 (going mv p)) (going mv) (pairs ranks) (λ p. at_most (p.0 == p.1) (going mv p)) in
    let all = count_all (goes mv) (pairs ranks) (elements mv.cut) (λ e. pair_once (home_a mv e.0 e.1).rank (home_b mv e.0 e.1).rank ranks) in
    let few = elements_few mv.cut (range_with_len 0 mv.cut.n) in
    let columns = ap (λ (n : ℕ). mv.cut.m * n) (length-range_with_len 0 mv.cut.n) in
    omega (arith, less, all, few, columns)
  where
    at_most : (b : Bool) (n : ℕ) → cond b 0 n ≤ n
    at_most true n = omega arith
    at_most false n = omega arith
