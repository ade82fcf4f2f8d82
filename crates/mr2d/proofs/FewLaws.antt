-- A move has at most one message or copy for each meet.
use Rattle.std.proofs.Common.{◌≡◌, ℕ, zero, suc, ◌+◌, ◌<◌, ◌≤◌, ◌==◌, ◌&&◌, not, nat_lt, Bool, true, false, cond, inl, inr, ◌⊎◌, Option, None, Some, List, [], ◌∷◌, length, map, slice_get, count_by, refl, sym, ap, ◌∙◌, arith}
use Rattle.std.specs.List.{sum_by, range_with_len, flat_map}
use Rattle.std.proofs.lemmas.Bool.{cases_eq, cases_lt}
use Rattle.std.proofs.lemmas.Bool.Decides.{nat_tests}
use Rattle.std.proofs.lemmas.List.Sums.{sum_by-cons, sum_by-append}
use Rattle.std.proofs.lemmas.Option.{same_Some}
use Rattle.proc_grid.specs.Grid.{Grid, IsGrid, place_of, rank_at, place_number}
use Rattle.proc_grid.proofs.GridLemmas.{rank_at-some, rank_at-place_of}
use Rattle.pack_words.specs.declared.cut.Cut.{Cut}
use Rattle.block_meet.specs.declared.axis.Axis.{Axis}
use Rattle.block_meet.specs.declared.axis.Run.{Run}
use Rattle.block_meet.specs.declared.side.Meet.{Meet}
use Rattle.block_meet.specs.Meets.{meets_of_all_pairs}
use Rattle.block_meet.proofs.SumLemmas.{sum_same, sum_zero, sum_both, sum_swapped}
use Rattle.mr2d.specs.Homes.{rank_of}
use Rattle.mr2d.specs.Plans.{Rectangles, pairs, has_some, sends, stays}
use Rattle.mr2d.specs.Between.{meets_between, meets_by}

sum_least : {X : Type 0} (f g : X → ℕ) (xs : List X) → ((x : X) → f x ≤ g x) → sum_by f xs ≤ sum_by g xs
sum_least f g [] h = omega arith
sum_least f g (x ∷ xs) h =
    let e : sum_by f (x ∷ xs) ≡ f x + sum_by f xs = sum_by-cons f x xs in
    let d : sum_by g (x ∷ xs) ≡ g x + sum_by g xs = sum_by-cons g x xs in
    let one : f x ≤ g x = h x in
    let rest : sum_by f xs ≤ sum_by g xs = sum_least f g xs h in
    omega arith

-- A term of a sum is no greater.
term_from : (f : ℕ → ℕ) (x a n : ℕ) → a ≤ x → x < a + n → f x ≤ sum_by f (range_with_len a n)
term_from f x a zero l h = absurd (omega arith)
term_from f x a (suc n) l h =
    let e : sum_by f (range_with_len a (suc n)) ≡ f a + sum_by f (range_with_len (a + 1) n) = sum_by-cons f a (range_with_len (a + 1) n) in
    by_place (λ m. term_from f x (a + 1) n m (omega arith)) (cases_eq x a) e
  where
    low : (x a : ℕ) → (x ≡ a → ⊥) → a ≤ x → a + 1 ≤ x
    low x a e l = grind arith

    by_place : (a + 1 ≤ x → f x ≤ sum_by f (range_with_len (a + 1) n)) → (x ≡ a) ⊎ (x ≡ a → ⊥) → sum_by f (range_with_len a (suc n)) ≡ f a + sum_by f (range_with_len (a + 1) n) → f x ≤ sum_by f (range_with_len a (suc n))
    by_place rest (inl d) e = let g : f x ≡ f a = ap f d in omega arith
    by_place rest (inr d) e = let g : f x ≤ sum_by f (range_with_len (a + 1) n) = rest (low x a d l) in omega arith

term_least : (f : ℕ → ℕ) (x n : ℕ) → x < n → f x ≤ sum_by f (range_with_len 0 n)
term_least f x n h = term_from f x 0 n (omega arith) (omega arith)

-- One number of a range has a value, all others have none.
none_past : (v x a n : ℕ) → x < a → sum_by (λ r. cond (x == r) v 0) (range_with_len a n) ≡ 0
none_past v x a zero h = refl
none_past v x a (suc n) h =
    sum_by-cons (λ r. cond (x == r) v 0) a (range_with_len (a + 1) n) ∙ ap (λ c. cond c v 0 + sum_by (λ r. cond (x == r) v 0) (range_with_len (a + 1) n)) (apart x a h) ∙ ap (λ k. 0 + k) (none_past v x (a + 1) n (omega arith))
  where
    apart : (x a : ℕ) → x < a → (x == a) ≡ false
    apart x a h = grind (arith, nat_tests)

one_at_most : (v x a n : ℕ) → sum_by (λ r. cond (x == r) v 0) (range_with_len a n) ≤ v
one_at_most v x a zero = omega arith
one_at_most v x a (suc n) =
    let e : sum_by (λ r. cond (x == r) v 0) (range_with_len a (suc n)) ≡ cond (x == a) v 0 + sum_by (λ r. cond (x == r) v 0) (range_with_len (a + 1) n) = sum_by-cons (λ r. cond (x == r) v 0) a (range_with_len (a + 1) n) in
    by_place (one_at_most v x (a + 1) n) (cases_eq x a) e
  where
    same : (x a v : ℕ) → x ≡ a → ◌≡◌ {A = ℕ} (cond (x == a) v 0) v
    same x a v e = grind (arith, nat_tests)

    other : (x a v : ℕ) → (x ≡ a → ⊥) → ◌≡◌ {A = ℕ} (cond (x == a) v 0) 0
    other x a v e = grind (arith, nat_tests)

    by_place : sum_by (λ r. cond (x == r) v 0) (range_with_len (a + 1) n) ≤ v → (x ≡ a) ⊎ (x ≡ a → ⊥) → sum_by (λ r. cond (x == r) v 0) (range_with_len a (suc n)) ≡ cond (x == a) v 0 + sum_by (λ r. cond (x == r) v 0) (range_with_len (a + 1) n)
        → sum_by (λ r. cond (x == r) v 0) (range_with_len a (suc n)) ≤ v
    by_place rest (inl d) e =
        let p : sum_by (λ r. cond (x == r) v 0) (range_with_len (a + 1) n) ≡ 0 = none_past v x (a + 1) n (omega arith) in
        let q : cond (x == a) v 0 ≡ v = same x a v d in
        omega arith
    by_place rest (inr d) e = let q : cond (x == a) v 0 ≡ 0 = other x a v d in omega arith

-- What ranks have by their places is no more than what all places have.
by_places : (g : Grid) (F : Option (ℕ × ℕ) → ℕ) (n : ℕ) → IsGrid g → F None ≡ 0 → sum_by (λ r. F (place_of g r)) (range_with_len 0 n) ≤ sum_by (λ p. sum_by (λ q. F (Some (p, q))) (range_with_len 0 g.npcol)) (range_with_len 0 g.nprow)
by_places g F n w none =
    let first : sum_by (λ r. F (place_of g r)) (range_with_len 0 n) ≤ sum_by (λ r. sum_by (λ p. sum_by (λ q. cond (rank_of g p q == r) (F (Some (p, q))) 0) (range_with_len 0 g.npcol)) (range_with_len 0 g.nprow)) (range_with_len 0 n) =
    sum_least _ _ (range_with_len 0 n) (λ r. at_place r (place_of g r) refl) in
    let turned : sum_by (λ r. sum_by (λ p. sum_by (λ q. cond (rank_of g p q == r) (F (Some (p, q))) 0) (range_with_len 0 g.npcol)) (range_with_len 0 g.nprow)) (range_with_len 0 n)
    ≡ sum_by (λ p. sum_by (λ q. sum_by (λ r. cond (rank_of g p q == r) (F (Some (p, q))) 0) (range_with_len 0 n)) (range_with_len 0 g.npcol)) (range_with_len 0 g.nprow) =
    sum_swapped (λ r p. sum_by (λ q. cond (rank_of g p q == r) (F (Some (p, q))) 0) (range_with_len 0 g.npcol)) (range_with_len 0 n) (range_with_len 0 g.nprow)
    ∙ sum_same _ _ (range_with_len 0 g.nprow) (λ p. sum_swapped (λ r q. cond (rank_of g p q == r) (F (Some (p, q))) 0) (range_with_len 0 n) (range_with_len 0 g.npcol)) in
    let last : sum_by (λ p. sum_by (λ q. sum_by (λ r. cond (rank_of g p q == r) (F (Some (p, q))) 0) (range_with_len 0 n)) (range_with_len 0 g.npcol)) (range_with_len 0 g.nprow)
    ≤ sum_by (λ p. sum_by (λ q. F (Some (p, q))) (range_with_len 0 g.npcol)) (range_with_len 0 g.nprow) =
    sum_least _ _ (range_with_len 0 g.nprow) (λ p. sum_least _ _ (range_with_len 0 g.npcol) (λ q. one_at_most (F (Some (p, q))) (rank_of g p q) 0 n)) in
    omega arith
  where
    shown : (p q r : ℕ) → rank_at g p q ≡ Some r → (p < g.nprow) × (q < g.npcol) × (rank_of g p q ≡ r)
    shown p q r e = by_tests (cases_lt p g.nprow) (cases_lt q g.npcol)
      where
        gone : (c d : Bool) (o : Option ℕ) → (c && d) ≡ false → cond (c && d) o None ≡ Some r → ⊥
        gone c d o f h = let z : None ≡ Some r = ap (λ t. cond t o None) (sym f) ∙ h in cc

        no_row : (p m q n : ℕ) → m ≤ p → (nat_lt p m && nat_lt q n) ≡ false
        no_row p m q n h = grind (arith, nat_tests)

        no_column : (p m q n : ℕ) → n ≤ q → (nat_lt p m && nat_lt q n) ≡ false
        no_column p m q n h = grind (arith, nat_tests)

        by_tests : (p < g.nprow) ⊎ (g.nprow ≤ p) → (q < g.npcol) ⊎ (g.npcol ≤ q) → (p < g.nprow) × (q < g.npcol) × (rank_of g p q ≡ r)
        by_tests (inl hp) (inl hq) = (hp, hq, same_Some (rank_of g p q) r (sym (rank_at-some g p q w hp hq) ∙ e))
        by_tests (inl hp) (inr hq) = absurd (gone (nat_lt p g.nprow) (nat_lt q g.npcol) (slice_get g.ranks (place_number g.npcol p q)) (no_column p g.nprow q g.npcol hq) e)
        by_tests (inr hp) c = absurd (gone (nat_lt p g.nprow) (nat_lt q g.npcol) (slice_get g.ranks (place_number g.npcol p q)) (no_row p g.nprow q g.npcol hp) e)

    at_place : (r : ℕ) (o : Option (ℕ × ℕ)) → place_of g r ≡ o → F (place_of g r) ≤ sum_by (λ p. sum_by (λ q. cond (rank_of g p q == r) (F (Some (p, q))) 0) (range_with_len 0 g.npcol)) (range_with_len 0 g.nprow)
    at_place r None e = let z : F (place_of g r) ≡ 0 = ap F e ∙ none in omega arith
    at_place r (Some place) e =
        let s = shown place.0 place.1 r (rank_at-place_of g place.0 place.1 r w e) in
        let own : F (place_of g r) ≡ cond (rank_of g place.0 place.1 == r) (F (Some (place.0, place.1))) 0 = ap F e ∙ sym (here (rank_of g place.0 place.1) r (F (Some (place.0, place.1))) s.2) in
        let row : cond (rank_of g place.0 place.1 == r) (F (Some (place.0, place.1))) 0 ≤ sum_by (λ q. cond (rank_of g place.0 q == r) (F (Some (place.0, q))) 0) (range_with_len 0 g.npcol) =
        term_least (λ q. cond (rank_of g place.0 q == r) (F (Some (place.0, q))) 0) place.1 g.npcol s.1 in
        let whole : sum_by (λ q. cond (rank_of g place.0 q == r) (F (Some (place.0, q))) 0) (range_with_len 0 g.npcol) ≤ sum_by (λ p. sum_by (λ q. cond (rank_of g p q == r) (F (Some (p, q))) 0) (range_with_len 0 g.npcol)) (range_with_len 0 g.nprow) =
        term_least (λ p. sum_by (λ q. cond (rank_of g p q == r) (F (Some (p, q))) 0) (range_with_len 0 g.npcol)) place.0 g.nprow s.0 in
        omega arith
      where
        here : (x r v : ℕ) → x ≡ r → ◌≡◌ {A = ℕ} (cond (x == r) v 0) v
        here x r v e = grind (arith, nat_tests)

-- A sum over all pairs.
sum_pairs : (h : ℕ × ℕ → ℕ) (xs ys : List ℕ) → sum_by h (flat_map (λ from. map (λ to. (from, to)) ys) xs) ≡ sum_by (λ from. sum_by (λ to. h (from, to)) ys) xs
sum_pairs h [] ys = refl
sum_pairs h (x ∷ xs) ys =
    sum_by-append h (map (λ to. (x, to)) ys) (flat_map (λ from. map (λ to. (from, to)) ys) xs) ∙ ap (λ n. n + sum_by h (flat_map (λ from. map (λ to. (from, to)) ys) xs)) (row ys)
    ∙ ap (λ n. sum_by (λ to. h (x, to)) ys + n) (sum_pairs h xs ys) ∙ sym (sum_by-cons (λ from. sum_by (λ to. h (from, to)) ys) x xs)
  where
    row : (zs : List ℕ) → sum_by h (map (λ to. (x, to)) zs) ≡ sum_by (λ to. h (x, to)) zs
    row [] = refl
    row (z ∷ zs) = sum_by-cons h (x, z) (map (λ to. (x, to)) zs) ∙ ap (λ n. h (x, z) + n) (row zs) ∙ sym (sum_by-cons (λ to. h (x, to)) z zs)

-- Messages and copies are at most the rectangles of all pairs of ranks.
few_pairs : (ms : Rectangles) (ps : List (ℕ × ℕ)) → count_by (λ p. sends ms p.0 p.1) ps + count_by (λ p. stays ms p.0 p.1) ps ≤ sum_by (λ p. length (ms p.0 p.1)) ps
few_pairs ms ps =
    let e : sum_by (λ p. cond (sends ms p.0 p.1) 1 0 + cond (stays ms p.0 p.1) 1 0) ps ≡ sum_by (λ p. cond (sends ms p.0 p.1) 1 0) ps + sum_by (λ p. cond (stays ms p.0 p.1) 1 0) ps = sum_both (λ p. cond (sends ms p.0 p.1) 1 0) (λ p. cond (stays ms p.0 p.1) 1 0) ps in
    let l : sum_by (λ p. cond (sends ms p.0 p.1) 1 0 + cond (stays ms p.0 p.1) 1 0) ps ≤ sum_by (λ p. length (ms p.0 p.1)) ps = sum_least _ _ ps (λ p. one (ms p.0 p.1) (p.0 == p.1)) in
    omega arith
  where
    one : (ts : List Meet) (c : Bool) → cond (has_some ts && not c) 1 0 + cond (has_some ts && c) 1 0 ≤ length ts
    one [] c = omega arith
    one (t ∷ ts) true = omega arith
    one (t ∷ ts) false = omega arith

-- The rectangles of all pairs of ranks are at most those of all pairs of processes.
pub few_moves : (cut : Cut) (a b : Grid) (ra rb ca cb : Axis) (rs cs : List Run) (ranks : ℕ) → IsGrid a → IsGrid b → ra.procs ≡ a.nprow → rb.procs ≡ b.nprow → ca.procs ≡ a.npcol → cb.procs ≡ b.npcol
    → count_by (λ p. sends (meets_by cut a b rs cs) p.0 p.1) (pairs ranks) + count_by (λ p. stays (meets_by cut a b rs cs) p.0 p.1) (pairs ranks) ≤ meets_of_all_pairs cut ra rb ca cb rs cs
few_moves cut a b ra rb ca cb rs cs ranks wa wb era erb eca ecb =
    let first = few_pairs (meets_by cut a b rs cs) (pairs ranks) in
    let split : sum_by (λ p. length (meets_by cut a b rs cs p.0 p.1)) (pairs ranks) ≡ sum_by (λ f. sum_by (λ t. L (place_of a f) (place_of b t)) (range_with_len 0 ranks)) (range_with_len 0 ranks) =
    sum_pairs (λ p. length (meets_by cut a b rs cs p.0 p.1)) (range_with_len 0 ranks) (range_with_len 0 ranks) in
    let inner : sum_by (λ f. sum_by (λ t. L (place_of a f) (place_of b t)) (range_with_len 0 ranks)) (range_with_len 0 ranks) ≤ sum_by (λ f. G (place_of a f)) (range_with_len 0 ranks) =
    sum_least _ _ (range_with_len 0 ranks) (λ f. by_places b (L (place_of a f)) ranks wb (none (place_of a f))) in
    let outer : sum_by (λ f. G (place_of a f)) (range_with_len 0 ranks) ≤ sum_by (λ p. sum_by (λ q. G (Some (p, q))) (range_with_len 0 a.npcol)) (range_with_len 0 a.nprow) =
    by_places a G ranks wa (sum_zero _ (range_with_len 0 b.nprow) (λ r. sum_zero _ (range_with_len 0 b.npcol) (λ s. refl))) in
    let turned : sum_by (λ p. sum_by (λ q. G (Some (p, q))) (range_with_len 0 a.npcol)) (range_with_len 0 a.nprow) ≡ meets_of_all_pairs cut ra rb ca cb rs cs =
    sum_same _ _ (range_with_len 0 a.nprow) (λ p.
    sum_swapped (λ q r. sum_by (λ s. L (Some (p, q)) (Some (r, s))) (range_with_len 0 b.npcol)) (range_with_len 0 a.npcol) (range_with_len 0 b.nprow))
    ∙ ap (λ n. sum_by (λ p. sum_by (λ r. sum_by (λ q. sum_by (λ s. L (Some (p, q)) (Some (r, s))) (range_with_len 0 b.npcol)) (range_with_len 0 a.npcol)) (range_with_len 0 b.nprow)) (range_with_len 0 n)) (sym era)
    ∙ ap (λ n. sum_by (λ p. sum_by (λ r. sum_by (λ q. sum_by (λ s. L (Some (p, q)) (Some (r, s))) (range_with_len 0 b.npcol)) (range_with_len 0 a.npcol)) (range_with_len 0 n)) (range_with_len 0 ra.procs)) (sym erb)
    ∙ ap (λ n. sum_by (λ p. sum_by (λ r. sum_by (λ q. sum_by (λ s. L (Some (p, q)) (Some (r, s))) (range_with_len 0 b.npcol)) (range_with_len 0 n)) (range_with_len 0 rb.procs)) (range_with_len 0 ra.procs)) (sym eca)
    ∙ ap (λ n. sum_by (λ p. sum_by (λ r. sum_by (λ q. sum_by (λ s. L (Some (p, q)) (Some (r, s))) (range_with_len 0 n)) (range_with_len 0 ca.procs)) (range_with_len 0 rb.procs)) (range_with_len 0 ra.procs)) (sym ecb) in
    omega arith
  where
    L : Option (ℕ × ℕ) → Option (ℕ × ℕ) → ℕ
    L x y = length (meets_between cut rs cs x y)

    G : Option (ℕ × ℕ) → ℕ
    G x = sum_by (λ r. sum_by (λ s. length (meets_between cut rs cs x (Some (r, s)))) (range_with_len 0 b.npcol)) (range_with_len 0 b.nprow)

    none : (x : Option (ℕ × ℕ)) → length (meets_between cut rs cs x None) ≡ 0
    none None = refl
    none (Some x) = refl
