-- The rectangles of all row runs and column runs are those of all pairs of processes.
use Rattle.std.proofs.Common.{◌≡◌, ℕ, zero, suc, ◌+◌, ◌<◌, ◌≤◌, ◌⊎◌, inl, inr, ◌==◌, ◌&&◌, Bool, true, false, cond, List, [], ◌∷◌, length, filter, count_by, refl, sym, ap, ◌∙◌, subst, arith}
use Rattle.std.specs.List.{sum_by, range_with_len, AllByRecursion}
use Rattle.std.proofs.lemmas.Bool.{cases_eq}
use Rattle.std.proofs.lemmas.Bool.Decides.{nat_tests}
use Rattle.std.proofs.lemmas.List.Sums.{sum_by-cons, length-filter}
use Rattle.block_meet.specs.declared.axis.Axis.{Axis}
use Rattle.block_meet.specs.declared.axis.Run.{Run}
use Rattle.block_meet.specs.declared.side.Meet.{Meet}
use Rattle.pack_words.specs.declared.cut.Cut.{Cut}
use Rattle.block_meet.specs.Runs.{IsAxis, IsRun, AreRuns, AreRunsFrom}
use Rattle.block_meet.specs.Pairs.{lies_on}
use Rattle.block_meet.specs.Meets.{rectangle, rectangles, touches, meets_between, meets_of_all_pairs}
use Rattle.block_meet.proofs.DealLemmas.{owners_below}
use Rattle.block_meet.proofs.CountLemmas.{count_by_rows}

-- Sums term by term.
pub sum_same : {X : Type 0} (f g : X → ℕ) (xs : List X) → ((x : X) → f x ≡ g x) → sum_by f xs ≡ sum_by g xs
sum_same f g [] h = refl
sum_same f g (x ∷ xs) h = sum_by-cons f x xs ∙ ap (λ n. n + sum_by f xs) (h x) ∙ ap (λ n. g x + n) (sum_same f g xs h) ∙ sym (sum_by-cons g x xs)

pub sum_both : {X : Type 0} (f g : X → ℕ) (xs : List X) → sum_by (λ x. f x + g x) xs ≡ sum_by f xs + sum_by g xs
sum_both f g [] = refl
sum_both f g (x ∷ xs) =
    sum_by-cons (λ x. f x + g x) x xs ∙ ap (λ n. f x + g x + n) (sum_both f g xs) ∙ crossed (f x) (g x) (sum_by f xs) (sum_by g xs)
    ∙ ap (λ n. n + (g x + sum_by g xs)) (sym (sum_by-cons f x xs)) ∙ ap (λ n. sum_by f (x ∷ xs) + n) (sym (sum_by-cons g x xs))
  where
    crossed : (a b c d : ℕ) → a + b + (c + d) ≡ a + c + (b + d)
    crossed a b c d = omega arith

pub sum_zero : {X : Type 0} (f : X → ℕ) (xs : List X) → ((x : X) → f x ≡ 0) → sum_by f xs ≡ 0
sum_zero f [] h = refl
sum_zero f (x ∷ xs) h = sum_by-cons f x xs ∙ ap (λ n. n + sum_by f xs) (h x) ∙ ap (λ n. 0 + n) (sum_zero f xs h)

pub sum_swapped : {X Y : Type 0} (f : X → Y → ℕ) (xs : List X) (ys : List Y) → sum_by (λ x. sum_by (f x) ys) xs ≡ sum_by (λ y. sum_by (λ x. f x y) xs) ys
sum_swapped f [] ys = sym (sum_zero _ ys (λ y. refl))
sum_swapped f (x ∷ xs) ys =
    sum_by-cons (λ x. sum_by (f x) ys) x xs ∙ ap (λ n. sum_by (f x) ys + n) (sum_swapped f xs ys)
    ∙ sym (sum_both (f x) (λ y. sum_by (λ x. f x y) xs) ys) ∙ sum_same _ _ ys (λ y. sym (sum_by-cons (λ x. f x y) x xs))

-- A sum with one term at one number of a range.
sum_past : (g : ℕ → ℕ) (x a n : ℕ) → x < a → sum_by (λ p. cond (x == p) (g p) 0) (range_with_len a n) ≡ 0
sum_past g x a zero h = refl
sum_past g x a (suc n) h = sum_by-cons (λ p. cond (x == p) (g p) 0) a (range_with_len (a + 1) n) ∙ ap (λ c. cond c (g a) 0 + sum_by (λ p. cond (x == p) (g p) 0) (range_with_len (a + 1) n)) (apart x a h) ∙ ap (λ k. 0 + k) (sum_past g x (a + 1) n (omega arith))
  where
    apart : (x a : ℕ) → x < a → (x == a) ≡ false
    apart x a h = grind (arith, nat_tests)

sum_at_from : (g : ℕ → ℕ) (x a n : ℕ) → a ≤ x → x < a + n → sum_by (λ p. cond (x == p) (g p) 0) (range_with_len a n) ≡ g x
sum_at_from g x a zero l h = absurd (omega arith)
sum_at_from g x a (suc n) l h = sum_by-cons (λ p. cond (x == p) (g p) 0) a (range_with_len (a + 1) n) ∙ by_place (λ m. sum_at_from g x (a + 1) n m (omega arith)) (cases_eq x a)
  where
    same : (x a : ℕ) → x ≡ a → (x == a) ≡ true
    same x a e = grind (arith, nat_tests)

    other : (x a : ℕ) → (x ≡ a → ⊥) → (x == a) ≡ false
    other x a e = grind (arith, nat_tests)

    low : (x a : ℕ) → (x ≡ a → ⊥) → a ≤ x → a + 1 ≤ x
    low x a e l = grind arith

    by_place : (a + 1 ≤ x → sum_by (λ p. cond (x == p) (g p) 0) (range_with_len (a + 1) n) ≡ g x) → (x ≡ a) ⊎ (x ≡ a → ⊥) → cond (x == a) (g a) 0 + sum_by (λ p. cond (x == p) (g p) 0) (range_with_len (a + 1) n) ≡ g x
    by_place rest (inl e) = ap (λ c. cond c (g a) 0 + sum_by (λ p. cond (x == p) (g p) 0) (range_with_len (a + 1) n)) (same x a e) ∙ ap (λ k. g a + k) (sum_past g x (a + 1) n (omega arith)) ∙ (let z : g a + 0 ≡ g a = omega arith in z) ∙ ap g (sym e)
    by_place rest (inr e) = ap (λ c. cond c (g a) 0 + sum_by (λ p. cond (x == p) (g p) 0) (range_with_len (a + 1) n)) (other x a e) ∙ ap (λ k. 0 + k) (rest (low x a e l)) ∙ (let z : 0 + g x ≡ g x = omega arith in z)

pub sum_at : (g : ℕ → ℕ) (x n : ℕ) → x < n → sum_by (λ p. cond (x == p) (g p) 0) (range_with_len 0 n) ≡ g x
sum_at g x n h = sum_at_from g x 0 n (omega arith) (omega arith)

-- a pair of two coordinates
pair_at : (v x y m n : ℕ) → x < m → y < n → sum_by (λ p. sum_by (λ q. cond ((x == p) && (y == q)) v 0) (range_with_len 0 n)) (range_with_len 0 m) ≡ v
pair_at v x y m n h k =
    sum_same _ _ (range_with_len 0 m) (λ p. inner p (x == p))
    ∙ sum_at (λ p. v) x m h
  where
    inner : (p : ℕ) (c : Bool) → sum_by (λ q. cond (c && (y == q)) v 0) (range_with_len 0 n) ≡ cond c v 0
    inner p true = sum_at (λ q. v) y n k
    inner p false = sum_zero _ (range_with_len 0 n) (λ q. refl)

-- Dealt to pairs, a list of runs gives the same sum.
pub sum_dealt : (f : Run → ℕ) (m n : ℕ) (rs : List Run) → AllByRecursion (λ r. (r.pa < m) × (r.pb < n)) rs → sum_by f rs ≡ sum_by (λ p. sum_by (λ q. sum_by f (filter (lies_on p q) rs)) (range_with_len 0 n)) (range_with_len 0 m)
sum_dealt f m n [] h = sym (sum_zero _ (range_with_len 0 m) (λ p. sum_zero _ (range_with_len 0 n) (λ q. refl)))
sum_dealt f m n (r ∷ rs) h =
    sum_by-cons f r rs ∙ ap (λ k. k + sum_by f rs) (sym (pair_at (f r) r.pa r.pb m n h.0.0 h.0.1)) ∙ ap (λ k. one + k) (sum_dealt f m n rs h.1)
    ∙ sym (sum_same _ _ (range_with_len 0 m) (λ p. sum_same _ _ (range_with_len 0 n) (λ q. front p q (lies_on p q r)) ∙ sum_both (λ q. cond (lies_on p q r) (f r) 0) (λ q. sum_by f (filter (lies_on p q) rs)) (range_with_len 0 n))
    ∙ sum_both (λ p. sum_by (λ q. cond (lies_on p q r) (f r) 0) (range_with_len 0 n)) (λ p. sum_by (λ q. sum_by f (filter (lies_on p q) rs)) (range_with_len 0 n)) (range_with_len 0 m))
  where
    one : ℕ
    one = sum_by (λ p. sum_by (λ q. cond ((r.pa == p) && (r.pb == q)) (f r) 0) (range_with_len 0 n)) (range_with_len 0 m)

    front : (p q : ℕ) (c : Bool) → sum_by f (cond c (r ∷ filter (lies_on p q) rs) (filter (lies_on p q) rs)) ≡ cond c (f r) 0 + sum_by f (filter (lies_on p q) rs)
    front p q true = sum_by-cons f r (filter (lies_on p q) rs)
    front p q false = let e : sum_by f (filter (lies_on p q) rs) ≡ 0 + sum_by f (filter (lies_on p q) rs) = omega arith in e

-- A count is a sum.
count_dealt : (t : Run → Bool) (m n : ℕ) (rs : List Run) → AllByRecursion (λ r. (r.pa < m) × (r.pb < n)) rs → count_by t rs ≡ sum_by (λ p. sum_by (λ q. count_by t (filter (lies_on p q) rs)) (range_with_len 0 n)) (range_with_len 0 m)
count_dealt t m n rs h = sum_dealt (λ r. cond (t r) 1 0) m n rs h

-- The owners of listed runs.
pub owners_listed : (n : ℕ) (a b : Axis) (from to : ℕ) (rs : List Run) → a.src < a.procs → b.src < b.procs → AreRunsFrom n a b from to rs → AllByRecursion (λ r. (r.pa < a.procs) × (r.pb < b.procs)) rs
owners_listed n a b from to [] sa sb h = tt
owners_listed n a b from to (r ∷ rs) sa sb h = (below r h.1, owners_listed n a b (from + r.len) to rs sa sb h.2)
  where
    below : (r : Run) → IsRun n a b r → (r.pa < a.procs) × (r.pb < b.procs)
    below r w = let o = owners_below a b (a.first + r.start) (b.first + r.start) sa sb in (subst (λ x. x < a.procs) (sym w.owner_a) o.0, subst (λ x. x < b.procs) (sym w.owner_b) o.1)

-- The rectangles that are touched are those of all pairs.
pub sum_over_pairs : (cut : Cut) (ra rb ca cb : Axis) (rs cs : List Run) → IsAxis cut.m ra → IsAxis cut.m rb → IsAxis cut.n ca → IsAxis cut.n cb → AreRuns cut.m ra rb rs → AreRuns cut.n ca cb cs
    → count_by (touches cut) (rectangles rs cs) ≡ meets_of_all_pairs cut ra rb ca cb rs cs
sum_over_pairs cut ra rb ca cb rs cs wra wrb wca wcb h k =
    count_by_rows t rs cs
    ∙ sum_dealt (λ r. count_by (λ c. t (rectangle r c)) cs) ra.procs rb.procs rs (owners_listed cut.m ra rb 0 cut.m rs wra.source wrb.source h)
    ∙ sum_same _ _ (range_with_len 0 ra.procs) (λ p. sum_same _ _ (range_with_len 0 rb.procs) (λ q. by_columns (filter (lies_on p q) rs) ∙ each p q))
  where
    t : Meet → Bool
    t = touches cut

    by_columns : (xs : List Run) → sum_by (λ r. count_by (λ c. touches cut (rectangle r c)) cs) xs
        ≡ sum_by (λ p. sum_by (λ q. sum_by (λ r. count_by (λ c. touches cut (rectangle r c)) (filter (lies_on p q) cs)) xs) (range_with_len 0 cb.procs)) (range_with_len 0 ca.procs)
    by_columns xs =
        sum_same _ _ xs (λ r. count_dealt (λ c. touches cut (rectangle r c)) ca.procs cb.procs cs (owners_listed cut.n ca cb 0 cut.n cs wca.source wcb.source k))
        ∙ sum_swapped (λ r p. sum_by (λ q. count_by (λ c. touches cut (rectangle r c)) (filter (lies_on p q) cs)) (range_with_len 0 cb.procs)) xs (range_with_len 0 ca.procs)
        ∙ sum_same _ _ (range_with_len 0 ca.procs) (λ p. sum_swapped (λ r q. count_by (λ c. touches cut (rectangle r c)) (filter (lies_on p q) cs)) xs (range_with_len 0 cb.procs))

    each : (p q : ℕ) → sum_by (λ u. sum_by (λ v. sum_by (λ r. count_by (λ c. touches cut (rectangle r c)) (filter (lies_on u v) cs)) (filter (lies_on p q) rs)) (range_with_len 0 cb.procs)) (range_with_len 0 ca.procs)
        ≡ sum_by (λ u. sum_by (λ v. length (meets_between cut rs cs (p, u) (q, v))) (range_with_len 0 cb.procs)) (range_with_len 0 ca.procs)
    each p q = sum_same _ _ (range_with_len 0 ca.procs) (λ u. sum_same _ _ (range_with_len 0 cb.procs) (λ v.
        sym (count_by_rows (touches cut) (filter (lies_on p q) rs) (filter (lies_on u v) cs)) ∙ sym (length-filter (touches cut) (rectangles (filter (lies_on p q) rs) (filter (lies_on u v) cs)))))
