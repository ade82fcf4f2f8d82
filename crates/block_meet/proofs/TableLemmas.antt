-- A table that keeps the first indices of one period tells those of all runs.
use Rattle.std.proofs.Common.{◌≡◌, ℕ, zero, suc, ◌+◌, ◌-◌, ◌*◌, ◌/◌, ◌%◌, ◌^◌, ◌<◌, ◌≤◌, Bool, true, false, cond, inl, inr, min, nat_le, nat_eq, ◌&&◌, List, [], ◌∷◌, ◌++◌, length, get_or, count_by, refl, sym, ap, ◌∙◌, subst, arith, length-append}
use Rattle.std.proofs.Math.Nat.{mod-lt, mod-eq_of_lt, div-eq_of_lt}
use Rattle.std.proofs.lemmas.Nat.{div-add-mod', div_below, le-div, mod-mul-add}
use Rattle.std.specs.List.Sorted.{IsPartitionedBy, IsPartitionPoint}
use Rattle.std.proofs.lemmas.List.{get_or_read_under, get_or_default}
use Rattle.std.proofs.lemmas.List.Sums.{sum_by-cons}
use Rattle.std.proofs.lemmas.Bool.{cases_lt}
use Rattle.std.proofs.lemmas.Bool.Decides.{nat_tests}
use Rattle.index_tools.specs.Multiples.{IsLeastCommonMultiple}
use Rattle.block_meet.specs.declared.axis.Axis.{Axis}
use Rattle.block_meet.specs.Runs.{IsAxis, block_at}
use Rattle.block_meet.specs.Numbers.{run_number, run_count, IsFirstOf}
use Rattle.block_meet.specs.Table.{IsPeriod, AreStarts, IsTable}
use Rattle.block_meet.specs.Stretch.{stretch}
use Rattle.block_meet.proofs.Blocks.{block_le}
use Rattle.block_meet.proofs.NumberLemmas.{number_le, number_at_most, number_shifts, first_shift, first_zero, first_next}

-- One start more.
pub starts_more : (P : ℕ → ℕ → Type 0) (ss : List ℕ) (s : ℕ) → ((k : ℕ) → k < length ss → P k (get_or ss k 0)) → P (length ss) s → (k : ℕ) → k < length (ss ++ s ∷ []) → P k (get_or (ss ++ s ∷ []) k 0)
starts_more P [] s f h zero l = h
starts_more P [] s f h (suc k) l = absurd (omega arith)
starts_more P (x ∷ ss) s f h zero l = f zero (omega arith)
starts_more P (x ∷ ss) s f h (suc k) l = starts_more (λ j. P (suc j)) ss s (λ j m. f (suc j) (omega arith)) h k (omega arith)

-- what is known of the starts so far and of the next one
pub record AreStartsTo (a b : Axis) (last s : ℕ) (ss : List ℕ) : Type 0 where
  pub next : IsFirstOf a b (suc (length ss)) s
  pub each : (k : ℕ) → k < length ss → IsFirstOf a b (suc k) (get_or ss k 0)
  pub within : (k : ℕ) → k < length ss → get_or ss k 0 ≤ last

-- At first there is none, and the first run ends where both blocks reach.
pub starts_none : (a b : Axis) (last next : ℕ) (ss : List ℕ) → 0 < a.nb → 0 < b.nb → length ss ≡ 0 → next ≡ 0 + stretch a b 0 → AreStartsTo a b last next ss
starts_none a b last next ss ha hb none e = record {
  next = subst (λ x. IsFirstOf a b (suc (length ss)) x) (sym e) (subst (λ x. IsFirstOf a b (suc x) (0 + stretch a b 0)) (sym none) (first_next a b 0 0 ha hb (first_zero a b)));
  each = λ k h. absurd (omega arith);
  within = λ k h. absurd (omega arith);
}

-- One start more.
pub starts_kept : (a b : Axis) (last s next : ℕ) (ss ts : List ℕ) → 0 < a.nb → 0 < b.nb → ts ≡ ss ++ s ∷ [] → next ≡ s + stretch a b s → s ≤ last → AreStartsTo a b last s ss → AreStartsTo a b last next ts
starts_kept a b last s next ss ts ha hb e f h t = subst (λ xs. AreStartsTo a b last next xs) (sym e) (record {
  next = subst (λ x. IsFirstOf a b (suc (length (ss ++ s ∷ []))) x) (sym f) (subst (λ x. IsFirstOf a b (suc x) (s + stretch a b s)) (sym longer) (first_next a b (suc (length ss)) s ha hb t.next));
  each = starts_more (λ k x. IsFirstOf a b (suc k) x) ss s t.each t.next;
  within = starts_more (λ k x. x ≤ last) ss s t.within h;
})
  where
    longer : length (ss ++ s ∷ []) ≡ suc (length ss)
    longer = simp length-append (omega arith)

-- The starts are all that there are where the next one lies after `last`.
pub starts_done : (a b : Axis) (last next : ℕ) (ss : List ℕ) → last < next → AreStartsTo a b last next ss → AreStarts a b last ss
starts_done a b last next ss h t = record { count = by_length (length ss) (run_number a b last) (t.next.before last h) reached; each = t.each }
  where
    by_length : (n x : ℕ) → x < suc n → (0 < n → n ≤ x) → n ≡ x
    by_length n x h f = grind arith

    reached : 0 < length ss → length ss ≤ run_number a b last
    reached p =
        let low : length ss - 1 < length ss = omega arith in
        let own : run_number a b (get_or ss (length ss - 1) 0) ≡ suc (length ss - 1) = (t.each (length ss - 1) low).its_number in
        let top : run_number a b (get_or ss (length ss - 1) 0) ≤ run_number a b last = number_le a b _ last (t.within (length ss - 1) low) in
        omega arith

-- A run below the count begins within the indices.
pub first_inside : (n : ℕ) (a b : Axis) (k s : ℕ) → k < run_count a b n → IsFirstOf a b k s → s < n
first_inside zero a b k s h f = absurd (omega arith)
first_inside (suc m) a b k s h f = by_order s m (run_number a b m) k h (λ l. f.before m l)
  where
    by_order : (s m x k : ℕ) → k < x + 1 → (m < s → x < k) → s < suc m
    by_order s m x k h g = grind arith

-- Runs that have another before them are kept by a table that isn't empty.
pub table_some : (n : ℕ) (a b : Axis) (reach : ℕ) (ss : List ℕ) (k : ℕ) → IsTable n a b reach ss → 0 < k → k < run_count a b n → 0 < length ss
table_some zero a b reach ss k t p h = absurd (omega arith)
table_some (suc m) a b reach ss k t p h =
    elim (cases_lt reach m) [
      | inl l ↦
          let ha : 0 < a.nb = t.first.block in
          let hb : 0 < b.nb = t.second.block in
          let w : IsPeriod a b reach = t.repeats (omega arith) in
          let split : m / reach * reach + m % reach ≡ m = div-add-mod' m reach in
          let whole : run_number a b m ≡ m / reach * run_number a b reach + run_number a b (m % reach) = ap (run_number a b) (sym split) ∙ number_shifts a b reach (m / reach) (m % reach) ha hb w in
          let inside : m % reach < reach = mod-lt m w.positive in
          let rest : run_number a b (m % reach) ≤ run_number a b reach = number_le a b (m % reach) reach (omega arith) in
          some (m / reach) (length ss) (run_number a b reach) (run_number a b (m % reach)) (run_number a b m) k t.kept.count whole rest p h
      | inr l ↦
          let most : run_number a b m ≤ run_number a b reach = number_le a b m reach l in
          let count : length ss ≡ run_number a b reach = t.kept.count in
          omega arith
    ]
  where
    some : (q c m r x k : ℕ) → c ≡ m → x ≡ q * m + r → r ≤ m → 0 < k → k < x + 1 → 0 < c
    some q zero m r x k e f g p h = let z : m ≡ 0 = sym e in let y : q * m ≡ 0 = ap (λ v. q * v) z ∙ omega arith in omega arith
    some q (suc c) m r x k e f g p h = omega arith

-- The first index of a run that has another before it, by the table.
pub table_first : (n : ℕ) (a b : Axis) (reach : ℕ) (ss : List ℕ) (k : ℕ) → IsTable n a b reach ss → 0 < k → k < run_count a b n → IsFirstOf a b k (get_or ss ((k - 1) % length ss) 0 + (k - 1) / length ss * reach)
table_first zero a b reach ss k t p h = absurd (omega arith)
table_first (suc m) a b reach ss k t p h =
    let some : 0 < length ss = table_some (suc m) a b reach ss k t p h in
    let place : (k - 1) % length ss < length ss = mod-lt (k - 1) some in
    let here : IsFirstOf a b (suc ((k - 1) % length ss)) (get_or ss ((k - 1) % length ss) 0) = t.kept.each ((k - 1) % length ss) place in
    let split : (k - 1) / length ss * length ss + (k - 1) % length ss ≡ k - 1 = div-add-mod' (k - 1) (length ss) in
    elim (cases_lt reach m) [
      | inl l ↦
          let ha : 0 < a.nb = t.first.block in
          let hb : 0 < b.nb = t.second.block in
          let w : IsPeriod a b reach = t.repeats (omega arith) in
          let there = first_shift a b reach ((k - 1) / length ss) ((k - 1) % length ss) _ ha hb w here in
          let number : (k - 1) / length ss * run_number a b reach + suc ((k - 1) % length ss) ≡ k = ap (λ c. (k - 1) / length ss * c + suc ((k - 1) % length ss)) (sym t.kept.count) ∙ omega arith in
          moved _ _ _ _ number (omega arith) there
      | inr l ↦
          let most : run_number a b m ≤ run_number a b reach = number_le a b m reach l in
          let count : length ss ≡ run_number a b reach = t.kept.count in
          let low : k - 1 < length ss = omega arith in
          let same : (k - 1) % length ss ≡ k - 1 = mod-eq_of_lt low in
          let none : (k - 1) / length ss ≡ 0 = div-eq_of_lt low in
          let gone : (k - 1) / length ss * reach ≡ 0 = ap (λ q. q * reach) none ∙ omega arith in
          moved _ _ _ _ (omega arith) (omega arith) here
    ]
  where
    moved : (i j s u : ℕ) → i ≡ j → s ≡ u → IsFirstOf a b i s → IsFirstOf a b j u
    moved i j s u e f w = subst (λ x. IsFirstOf a b x u) e (subst (λ x. IsFirstOf a b i x) f w)

-- The table is short.
pub table_fits : (n : ℕ) (a b : Axis) (reach : ℕ) (ss : List ℕ) → IsTable n a b reach ss → length ss ≤ 2 ^ 24
table_fits n a b reach ss t =
    let count : length ss ≡ run_number a b reach = t.kept.count in
    let most : run_number a b reach ≤ reach = number_at_most a b reach in
    let low : reach ≤ n - 1 = t.within in
    let top : a.first + n ≤ 2 ^ 24 = t.first.within in
    omega arith

-- How many elements pass, where just those at the front do.
pub count_front : (p : ℕ → Bool) (xs : List ℕ) (c : ℕ) → c ≤ length xs → ((k : ℕ) → k < c → p (get_or xs k 0) ≡ true) → ((k : ℕ) → c ≤ k → k < length xs → p (get_or xs k 0) ≡ false) → count_by p xs ≡ c
count_front p [] c h f g = omega arith
count_front p (x ∷ xs) zero h f g = sum_by-cons (λ y. cond (p y) 1 0) x xs ∙ ap (λ t. cond t 1 0 + count_by p xs) (g zero (omega arith) (omega arith)) ∙ ap (λ n. 0 + n) (count_front p xs zero (omega arith) (λ k l. absurd (omega arith)) (λ k l m. g (suc k) (omega arith) (omega arith))) ∙ omega arith
count_front p (x ∷ xs) (suc c) h f g = sum_by-cons (λ y. cond (p y) 1 0) x xs ∙ ap (λ t. cond t 1 0 + count_by p xs) (f zero (omega arith)) ∙ ap (λ n. 1 + n) (count_front p xs c (omega arith) (λ k l. f (suc k) (omega arith)) (λ k l m. g (suc k) (omega arith) (omega arith))) ∙ omega arith

-- The number of an index that the table reaches.
pub number_up_to : (a b : Axis) (reach : ℕ) (ss : List ℕ) (i : ℕ) → AreStarts a b reach ss → i ≤ reach → count_by (λ s. nat_le s i) ss ≡ run_number a b i
number_up_to a b reach ss i w h =
    let top : run_number a b i ≤ run_number a b reach = number_le a b i reach h in
    let count : length ss ≡ run_number a b reach = w.count in
    count_front (λ s. nat_le s i) ss (run_number a b i) (omega arith) (λ k l. passes k l (omega arith)) (λ k l m. fails k l m)
  where
    passes : (k : ℕ) → k < run_number a b i → k < length ss → nat_le (get_or ss k 0) i ≡ true
    passes k l m = by_test (get_or ss k 0) i (run_number a b i) k l (λ o. (w.each k m).before i o)
      where
        by_test : (s i x k : ℕ) → k < x → (i < s → x < suc k) → nat_le s i ≡ true
        by_test s i x k l f = grind (arith, nat_tests)

    fails : (k : ℕ) → run_number a b i ≤ k → k < length ss → nat_le (get_or ss k 0) i ≡ false
    fails k l m = by_test (get_or ss k 0) i (run_number a b i) (run_number a b (get_or ss k 0)) k l (w.each k m).its_number (λ o. number_le a b (get_or ss k 0) i o)
      where
        by_test : (s i x y k : ℕ) → x ≤ k → y ≡ suc k → (s ≤ i → y ≤ x) → nat_le s i ≡ false
        by_test s i x y k l e f = grind (arith, nat_tests)

-- The number of an index after it.
pub number_past : (a b : Axis) (reach : ℕ) (ss : List ℕ) (i : ℕ) → 0 < a.nb → 0 < b.nb → AreStarts a b reach ss → IsPeriod a b reach → run_number a b i ≡ i / reach * length ss + count_by (λ s. nat_le s (i % reach)) ss
number_past a b reach ss i ha hb w p =
    let split : i / reach * reach + i % reach ≡ i = div-add-mod' i reach in
    let inside : i % reach < reach = mod-lt i p.positive in
    let rest : count_by (λ s. nat_le s (i % reach)) ss ≡ run_number a b (i % reach) = number_up_to a b reach ss (i % reach) w (omega arith) in
    ap (run_number a b) (sym split) ∙ number_shifts a b reach (i / reach) (i % reach) ha hb p
    ∙ ap (λ c. i / reach * c + run_number a b (i % reach)) (sym w.count) ∙ ap (λ x. i / reach * length ss + x) (sym rest)

-- No more runs begin than blocks of A and blocks of B do.
number_blocks : (a b : Axis) (i : ℕ) → 0 < a.nb → 0 < b.nb → run_number a b i + block_at a 0 + block_at b 0 ≤ block_at a i + block_at b i
unfolding run_number
number_blocks a b zero ha hb = omega arith
number_blocks a b (suc i) ha hb =
    let before : run_number a b i + block_at a 0 + block_at b 0 ≤ block_at a i + block_at b i = number_blocks a b i ha hb in
    let la : block_at a i ≤ block_at a (suc i) = block_le a i (suc i) ha (omega arith) in
    let lb : block_at b i ≤ block_at b (suc i) = block_le b i (suc i) hb (omega arith) in
    step (run_number a b i) (block_at a 0) (block_at b 0) (block_at a i) (block_at a (suc i)) (block_at b i) (block_at b (suc i)) before la lb
  where
    step : (x y z p q r s : ℕ) → x + y + z ≤ p + r → p ≤ q → r ≤ s → x + cond (nat_eq p q && nat_eq r s) 0 1 + y + z ≤ q + s
    step x y z p q r s h f g = grind (arith, nat_tests)

blocks_most : (a : Axis) (i : ℕ) → 0 < a.nb → block_at a i ≤ block_at a 0 + i / a.nb + 1
blocks_most a i h =
    let front : (a.first + 0) / a.nb * a.nb + (a.first + 0) % a.nb ≡ a.first + 0 = div-add-mod' (a.first + 0) a.nb in
    let back : i / a.nb * a.nb + i % a.nb ≡ i = div-add-mod' i a.nb in
    let r : (a.first + 0) % a.nb < a.nb = mod-lt (a.first + 0) h in
    let s : i % a.nb < a.nb = mod-lt i h in
    let top : block_at a i < block_at a 0 + i / a.nb + 2 = div_below (a.first + i) a.nb (block_at a 0 + i / a.nb + 2) h (omega arith) in
    omega arith

quotient_le : (i j d : ℕ) → 0 < d → i ≤ j → i / d ≤ j / d
quotient_le i j d h l = let s : i / d * d + i % d ≡ i = div-add-mod' i d in le-div (i / d) j d h (omega arith)

-- A table keeps little.
pub table_held : (n : ℕ) (a b : Axis) (reach : ℕ) (ss : List ℕ) (period : ℕ) → IsTable n a b reach ss → IsLeastCommonMultiple (a.nb * a.procs) (b.nb * b.procs) period
    → length ss ≤ min n (2 * period) / a.nb + min n (2 * period) / b.nb + 3
table_held n a b reach ss period t m =
    let ha : 0 < a.nb = t.first.block in
    let hb : 0 < b.nb = t.second.block in
    let count : length ss ≡ run_number a b reach = t.kept.count in
    let blocks : run_number a b reach + block_at a 0 + block_at b 0 ≤ block_at a reach + block_at b reach = number_blocks a b reach ha hb in
    let most_a : block_at a reach ≤ block_at a 0 + reach / a.nb + 1 = blocks_most a reach ha in
    let most_b : block_at b reach ≤ block_at b 0 + reach / b.nb + 1 = blocks_most b reach hb in
    let low : reach ≤ n - 1 = t.within in
    let short : reach ≤ period = t.short period m in
    let within : reach ≤ min n (2 * period) = omega arith in
    let qa : reach / a.nb ≤ min n (2 * period) / a.nb = quotient_le _ _ a.nb ha within in
    let qb : reach / b.nb ≤ min n (2 * period) / b.nb = quotient_le _ _ b.nb hb within in
    omega arith

-- Without remainder under a product, none under a factor.
pub factor_mod : (p d k : ℕ) → 0 < d → p % (d * k) ≡ 0 → p % d ≡ 0
factor_mod p d k h e =
    let whole : p / (d * k) * (d * k) + p % (d * k) ≡ p = div-add-mod' p (d * k) in
    let turned : p ≡ (p / (d * k) * k) * d + 0 = sym whole ∙ regroup (p / (d * k)) d k (p % (d * k)) e in
    ap (λ x. x % d) turned ∙ mod-mul-add (p / (d * k) * k) d 0 h
  where
    regroup : (q d k r : ℕ) → r ≡ 0 → q * (d * k) + r ≡ (q * k) * d + 0
    regroup q d k r e = omega arith

-- The table that is made.
pub table_new : (n : ℕ) (a b : Axis) (reach period : ℕ) (ss : List ℕ) → IsAxis n a → IsAxis n b → IsLeastCommonMultiple a.nb b.nb period → reach ≤ n - 1 → reach ≤ period → (reach < n - 1 → reach ≡ period)
    → AreStarts a b reach ss → IsTable n a b reach ss
table_new n a b reach period ss wa wb m low short whole w = record {
  first = wa;
  second = wb;
  within = low;
  repeats = λ l. subst (λ p. IsPeriod a b p) (sym (whole l)) (record { positive = m.common.positive; of_a = m.common.of_first; of_b = m.common.of_second });
  short = λ p q. let s : period ≤ p = m.smallest p (record { positive = q.common.positive; of_first = factor_mod p a.nb a.procs wa.block q.common.of_first; of_second = factor_mod p b.nb b.procs wb.block q.common.of_second }) in omega arith;
  kept = w;
}

-- There are no more runs than indices.
pub count_le : (a b : Axis) (n : ℕ) → run_count a b n ≤ n
count_le a b zero = omega arith
count_le a b (suc m) = let most : run_number a b m ≤ m = number_at_most a b m in omega arith

-- The same as the code reads it.
pub table_start : (n : ℕ) (a b : Axis) (reach : ℕ) (ss : List ℕ) (k held x : ℕ) → IsTable n a b reach ss → 0 < k → k < run_count a b n → held ≡ length ss → x ≡ get_or ss ((k - 1) % held) x → IsFirstOf a b k (x + (k - 1) / held * reach)
table_start n a b reach ss k held x t p h e f =
    let some : 0 < length ss = table_some n a b reach ss k t p h in
    let place : (k - 1) % length ss < length ss = mod-lt (k - 1) some in
    let in_held : (k - 1) % held < held = subst (λ h. (k - 1) % h < h) (sym e) place in
    let read : x ≡ get_or ss ((k - 1) % held) 0 = get_or_read_under ss ((k - 1) % held) held x 0 f in_held e in
    subst (λ y. IsFirstOf a b k (y + (k - 1) / held * reach)) (sym read) (subst (λ h. IsFirstOf a b k (get_or ss ((k - 1) % h) 0 + (k - 1) / h * reach)) (sym e) (table_first n a b reach ss k t p h))

-- The starts rise.
pub starts_rise : (a b : Axis) (last : ℕ) (ss xs : List ℕ) (i : ℕ) → AreStarts a b last ss → xs ≡ ss → IsPartitionedBy (λ s. nat_le s i) xs
starts_rise a b last ss xs i w e = subst (IsPartitionedBy (λ s. nat_le s i)) (sym e) (λ j k d l h t. passes j k d l h t)
  where
    passes : (j k d : ℕ) → j ≤ k → k < length ss → nat_le (get_or ss k d) i ≡ true → nat_le (get_or ss j d) i ≡ true
    passes j k d l h t =
        let x : get_or ss k d ≡ get_or ss k 0 = get_or_default ss k d 0 h in
        let y : get_or ss j d ≡ get_or ss j 0 = get_or_default ss j d 0 (omega arith) in
        by_test (get_or ss j d) (get_or ss k d) i (get_or ss j 0) (get_or ss k 0) j k (run_number a b (get_or ss k 0)) x y l (w.each k h).its_number ((w.each j (omega arith)).before (get_or ss k 0)) t
      where
        by_test : (u v i s r j k x : ℕ) → v ≡ r → u ≡ s → j ≤ k → x ≡ suc k → (r < s → x < suc j) → nat_le v i ≡ true → nat_le u i ≡ true
        by_test u v i s r j k x e f l g h t = grind (arith, nat_tests)

-- A search in the starts finds how many pass.
pub found_count : (p : ℕ → Bool) (xs : List ℕ) (i : ℕ) → i ≤ length xs → IsPartitionPoint (λ y. p y ≡ true) (λ y. p y ≡ false) xs i → i ≡ count_by p xs
found_count p xs i h w = sym (count_front p xs i h (λ k l. w.0 k 0 (omega arith) l) (λ k l m. w.1 k 0 l m))

-- The number of an index as the code computes it, within the table's reach,
pub number_within : (n : ℕ) (a b : Axis) (reach : ℕ) (ss xs : List ℕ) (i up : ℕ) → IsTable n a b reach ss → i ≤ reach → xs ≡ ss → up ≡ count_by (λ s. nat_le s i) xs → up ≡ run_number a b i
number_within n a b reach ss xs i up t h e u = u ∙ ap (count_by (λ s. nat_le s i)) e ∙ number_up_to a b reach ss i t.kept h

-- and after it.
pub number_after_reach : (n : ℕ) (a b : Axis) (reach : ℕ) (ss xs : List ℕ) (i held up : ℕ) → IsTable n a b reach ss → reach < i → i < n → held ≡ length ss → xs ≡ ss → up ≡ count_by (λ s. nat_le s (i % reach)) xs → i / reach * held + up ≡ run_number a b i
number_after_reach n a b reach ss xs i held up t l h e f u =
    ap (λ x. i / reach * x + up) e ∙ ap (λ x. i / reach * length ss + x) (u ∙ ap (count_by (λ s. nat_le s (i % reach))) f)
    ∙ sym (number_past a b reach ss i t.first.block t.second.block t.kept (t.repeats (omega arith)))

-- Its product is no greater.
pub product_within : (n : ℕ) (a b : Axis) (reach : ℕ) (ss : List ℕ) (i held : ℕ) → IsTable n a b reach ss → reach < i → i < n → held ≡ length ss → i / reach * held ≤ i
product_within n a b reach ss i held t l h e =
    let whole : i / reach * held + count_by (λ s. nat_le s (i % reach)) ss ≡ run_number a b i = number_after_reach n a b reach ss ss i held _ t l h e refl refl in
    let most : run_number a b i ≤ i = number_at_most a b i in
    omega arith

-- Each index lies in one of the runs that are counted.
pub number_counted : (n : ℕ) (a b : Axis) (i : ℕ) → i < n → run_number a b i < run_count a b n
number_counted zero a b i h = absurd (omega arith)
number_counted (suc m) a b i h = let l : run_number a b i ≤ run_number a b m = number_le a b i m (omega arith) in omega arith

pub count_last : (n : ℕ) (a b : Axis) → 0 < n → run_number a b (n - 1) + 1 ≡ run_count a b n
count_last zero a b h = absurd (omega arith)
count_last (suc m) a b h = let e : suc m - 1 ≡ m = omega arith in ap (λ x. run_number a b x + 1) e
