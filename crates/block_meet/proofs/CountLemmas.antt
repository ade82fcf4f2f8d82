-- Runs counted by where they begin and end.
use Rattle.std.proofs.Common.{◌≡◌, ℕ, zero, suc, ◌+◌, ◌-◌, ◌*◌, ◌<◌, ◌≤◌, inl, inr, min, Bool, true, cond, nat_le, nat_lt, List, [], ◌∷◌, length, get_or, take, map, slice_get, Some, count_by, refl, sym, ap, ◌∙◌, subst, arith}
use Rattle.std.specs.List.{sum_by, AllByRecursion}
use Rattle.std.proofs.lemmas.Bool.{cases_lt}
use Rattle.std.proofs.lemmas.Bool.Decides.{nat_tests}
use Rattle.std.proofs.lemmas.List.Sums.{sum_by-cons, sum_by-append, sum_by_more}
use Rattle.block_meet.specs.declared.axis.Axis.{Axis}
use Rattle.block_meet.specs.declared.axis.Run.{Run}
use Rattle.pack_words.specs.declared.shape.Shape.{Shape}
use Rattle.pack_words.specs.declared.shape.Shape.TheVariants.{Ge, Tr}
use Rattle.pack_words.specs.declared.uplo.Uplo.{Uplo}
use Rattle.pack_words.specs.declared.uplo.Uplo.TheVariants.{Upper, Lower}
use Rattle.pack_words.specs.declared.diag.Diag.{Diag}
use Rattle.pack_words.specs.declared.diag.Diag.TheVariants.{N, U}
use Rattle.block_meet.specs.declared.side.Meet.{Meet}
use Rattle.block_meet.specs.Meets.{rectangle, rectangles, touched}
use Rattle.block_meet.specs.Runs.{IsRun, AreRunsFrom, AreRuns}
use Rattle.block_meet.specs.Numbers.{run_number, run_count}
use Rattle.block_meet.proofs.NumberLemmas.{together_number}
use Rattle.block_meet.proofs.LawLemmas.{IsReached, reached_next, reached_zero, count_runs}

-- the numbers inside a run
inside_number : (n : ℕ) (a b : Axis) (j t : ℕ) (r : Run) → 0 < a.nb → 0 < b.nb → IsRun n a b r → IsReached n a b j r.start → r.start ≤ t → t < r.start + r.len → run_number a b t ≡ j
inside_number n a b j t r ha hb w f l h = let s = w.some in let i = w.inside in together_number a b r.start t ha hb l ((w.members t (omega arith)).0 (l, h)) ∙ f.here (omega arith)

-- All runs from an index on end after those before it.
all_after : (n : ℕ) (a b : Axis) (from to t : ℕ) (rs : List Run) → AreRunsFrom n a b from to rs → t ≤ from → count_by (λ r. nat_lt t (r.start + r.len)) rs ≡ length rs
all_after n a b from to t [] h l = refl
all_after n a b from to t (r ∷ rs) h l =
    let s = h.1.some in
    let e = h.0 in
    let rest : count_by (λ r. nat_lt t (r.start + r.len)) rs ≡ length rs = all_after n a b (from + r.len) to t rs h.2 (omega arith) in
    sum_by-cons (λ r. cond (nat_lt t (r.start + r.len)) 1 0) r rs ∙ one t (r.start + r.len) _ _ (omega arith) rest
  where
    one : (t x c n : ℕ) → t < x → c ≡ n → cond (nat_lt t x) 1 0 + c ≡ suc n
    one t x c n h e = grind (arith, nat_tests)

ends_from : (n : ℕ) (a b : Axis) (j from t : ℕ) (rs : List Run) → 0 < a.nb → 0 < b.nb → AreRunsFrom n a b from n rs → IsReached n a b j from → from ≤ t → t < n → count_by (λ r. nat_lt t (r.start + r.len)) rs + run_number a b t ≡ length rs + j
ends_from n a b j from t [] ha hb h f l m = absurd (let e : from ≡ n = h in omega arith)
ends_from n a b j from t (r ∷ rs) ha hb h f l m =
    let s = h.1.some in
    let e = h.0 in
    let there : IsReached n a b j r.start = subst (λ s. IsReached n a b j s) (sym h.0) f in
    let next : IsReached n a b (suc j) (from + r.len) = subst (λ s. IsReached n a b (suc j) (s + r.len)) h.0 (reached_next n a b j r ha hb h.1 there) in
    ap (λ x. x + run_number a b t) (sum_by-cons (λ r. cond (nat_lt t (r.start + r.len)) 1 0) r rs)
    ∙ elim (cases_lt t (from + r.len)) [
      | inl o ↦
          let number : run_number a b t ≡ j = inside_number n a b j t r ha hb h.1 there (omega arith) (omega arith) in
          let rest : count_by (λ r. nat_lt t (r.start + r.len)) rs ≡ length rs = all_after n a b (from + r.len) n t rs h.2 (omega arith) in
          one t (r.start + r.len) _ _ _ _ (omega arith) rest number
      | inr o ↦
          let rest : count_by (λ r. nat_lt t (r.start + r.len)) rs + run_number a b t ≡ length rs + suc j = ends_from n a b (suc j) (from + r.len) t rs ha hb h.2 next o m in
          other t (r.start + r.len) _ _ _ _ (omega arith) rest
    ]
  where
    one : (t x c n k j : ℕ) → t < x → c ≡ n → k ≡ j → cond (nat_lt t x) 1 0 + c + k ≡ suc n + j
    one t x c n k j h e f = grind (arith, nat_tests)

    other : (t x c n k j : ℕ) → x ≤ t → c + k ≡ n + suc j → cond (nat_lt t x) 1 0 + c + k ≡ suc n + j
    other t x c n k j h e = grind (arith, nat_tests)

-- How many runs end after an index: all but those with lower numbers.
pub ends_after : (n : ℕ) (a b : Axis) (t : ℕ) (rs : List Run) → 0 < a.nb → 0 < b.nb → AreRuns n a b rs → t < n → run_count a b n - run_number a b t ≡ count_by (λ r. nat_lt t (r.start + r.len)) rs
ends_after n a b t rs ha hb h l =
    let whole : count_by (λ r. nat_lt t (r.start + r.len)) rs + run_number a b t ≡ length rs + 0 = ends_from n a b 0 0 t rs ha hb h (reached_zero n a b) (omega arith) l in
    let count : length rs ≡ run_count a b n = count_runs n a b rs ha hb h in
    omega arith

-- No run ends after the last index.
pub ends_none : (n : ℕ) (a b : Axis) (from to t : ℕ) (rs : List Run) → AreRunsFrom n a b from to rs → n ≤ t → count_by (λ r. nat_lt t (r.start + r.len)) rs ≡ 0
ends_none n a b from to t [] h l = refl
ends_none n a b from to t (r ∷ rs) h l =
    let i = h.1.inside in
    let rest : count_by (λ r. nat_lt t (r.start + r.len)) rs ≡ 0 = ends_none n a b (from + r.len) to t rs h.2 l in
    sum_by-cons (λ r. cond (nat_lt t (r.start + r.len)) 1 0) r rs ∙ none t (r.start + r.len) _ (omega arith) rest
  where
    none : (t x c : ℕ) → x ≤ t → c ≡ 0 → ◌≡◌ {A = ℕ} (cond (nat_lt t x) 1 0 + c) 0
    none t x c h e = grind (arith, nat_tests)

-- None of the runs from an index on begins before it.
none_before : (n : ℕ) (a b : Axis) (from to t : ℕ) (rs : List Run) → AreRunsFrom n a b from to rs → t ≤ from → count_by (λ r. nat_lt r.start t) rs ≡ 0
none_before n a b from to t [] h l = refl
none_before n a b from to t (r ∷ rs) h l =
    let e = h.0 in
    let rest : count_by (λ r. nat_lt r.start t) rs ≡ 0 = none_before n a b (from + r.len) to t rs h.2 (omega arith) in
    sum_by-cons (λ r. cond (nat_lt r.start t) 1 0) r rs ∙ none r.start t _ (omega arith) rest
  where
    none : (x t c : ℕ) → t ≤ x → c ≡ 0 → ◌≡◌ {A = ℕ} (cond (nat_lt x t) 1 0 + c) 0
    none x t c h e = grind (arith, nat_tests)

begins_from : (n : ℕ) (a b : Axis) (j from t : ℕ) (rs : List Run) → 0 < a.nb → 0 < b.nb → AreRunsFrom n a b from n rs → IsReached n a b j from → from < t → t ≤ n → count_by (λ r. nat_lt r.start t) rs + j ≡ run_number a b (t - 1) + 1
begins_from n a b j from t [] ha hb h f l m = absurd (let e : from ≡ n = h in omega arith)
begins_from n a b j from t (r ∷ rs) ha hb h f l m =
    let s = h.1.some in
    let e = h.0 in
    let there : IsReached n a b j r.start = subst (λ s. IsReached n a b j s) (sym h.0) f in
    let next : IsReached n a b (suc j) (from + r.len) = subst (λ s. IsReached n a b (suc j) (s + r.len)) h.0 (reached_next n a b j r ha hb h.1 there) in
    ap (λ x. x + j) (sum_by-cons (λ r. cond (nat_lt r.start t) 1 0) r rs)
    ∙ elim (cases_lt (from + r.len) t) [
      | inl o ↦
          let rest : count_by (λ r. nat_lt r.start t) rs + suc j ≡ run_number a b (t - 1) + 1 = begins_from n a b (suc j) (from + r.len) t rs ha hb h.2 next o m in
          other r.start t _ _ j (omega arith) rest
      | inr o ↦
          let number : run_number a b (t - 1) ≡ j = inside_number n a b j (t - 1) r ha hb h.1 there (omega arith) (omega arith) in
          let rest : count_by (λ r. nat_lt r.start t) rs ≡ 0 = none_before n a b (from + r.len) n t rs h.2 o in
          one r.start t _ _ j (omega arith) rest number
    ]
  where
    one : (x t c k j : ℕ) → x < t → c ≡ 0 → k ≡ j → cond (nat_lt x t) 1 0 + c + j ≡ k + 1
    one x t c k j h e f = grind (arith, nat_tests)

    other : (x t c k j : ℕ) → x < t → c + suc j ≡ k + 1 → cond (nat_lt x t) 1 0 + c + j ≡ k + 1
    other x t c k j h e = grind (arith, nat_tests)

-- Counting by tests that agree.
pub count_same : {X : Type 0} (p q : X → Bool) (xs : List X) → AllByRecursion (λ x. p x ≡ q x) xs → count_by p xs ≡ count_by q xs
count_same p q [] h = refl
count_same p q (x ∷ xs) h = sum_by-cons (λ y. cond (p y) 1 0) x xs ∙ ap (λ c. cond c 1 0 + count_by p xs) h.0 ∙ ap (λ n. cond (q x) 1 0 + n) (count_same p q xs h.1) ∙ sym (sum_by-cons (λ y. cond (q y) 1 0) x xs)

starts_inside : (n : ℕ) (a b : Axis) (from to t u : ℕ) (rs : List Run) → AreRunsFrom n a b from to rs → u ≡ min t n → AllByRecursion (λ r. nat_lt r.start u ≡ nat_lt r.start t) rs
starts_inside n a b from to t u [] h e = tt
starts_inside n a b from to t u (r ∷ rs) h e = (let s = h.1.some in let i = h.1.inside in same r.start t u n (omega arith) e, starts_inside n a b (from + r.len) to t u rs h.2 e)
  where
    same : (x t u n : ℕ) → x < n → u ≡ min t n → nat_lt x u ≡ nat_lt x t
    same x t u n h e = grind (arith, nat_tests)

-- How many runs begin before an index.
pub begins_before : (n : ℕ) (a b : Axis) (t u : ℕ) (rs : List Run) → 0 < a.nb → 0 < b.nb → AreRuns n a b rs → u ≡ min t n → 0 < u → run_number a b (u - 1) + 1 ≡ count_by (λ r. nat_lt r.start t) rs
begins_before n a b t u rs ha hb h e p =
    let whole : count_by (λ r. nat_lt r.start u) rs + 0 ≡ run_number a b (u - 1) + 1 = begins_from n a b 0 0 u rs ha hb h (reached_zero n a b) p (omega arith) in
    let same : count_by (λ r. nat_lt r.start u) rs ≡ count_by (λ r. nat_lt r.start t) rs = count_same _ _ rs (starts_inside n a b 0 n t u rs h e) in
    omega arith

pub begins_none : (n : ℕ) (a b : Axis) (t u : ℕ) (rs : List Run) → AreRuns n a b rs → u ≡ min t n → u ≡ 0 → ◌≡◌ {A = ℕ} 0 (count_by (λ r. nat_lt r.start t) rs)
begins_none n a b t u rs h e z =
    let none : count_by (λ r. nat_lt r.start u) rs ≡ 0 = none_before n a b 0 n u rs h (omega arith) in
    let same : count_by (λ r. nat_lt r.start u) rs ≡ count_by (λ r. nat_lt r.start t) rs = count_same _ _ rs (starts_inside n a b 0 n t u rs h e) in
    omega arith

-- What holds of each run that holds something.
runs_agree : (P : Run → Type 0) (n : ℕ) (a b : Axis) (from to : ℕ) (rs : List Run) → ((r : Run) → 0 < r.len → P r) → AreRunsFrom n a b from to rs → AllByRecursion P rs
runs_agree P n a b from to [] f h = tt
runs_agree P n a b from to (r ∷ rs) f h = (f r h.1.some, runs_agree P n a b (from + r.len) to rs f h.2)

-- The column runs that a row run touches, by shapes.
pub touched_whole : (s : Shape) (m n : ℕ) (r : Run) (cs : List Run) → s ≡ Ge → length cs ≡ count_by (λ c. touched s m n (rectangle r c)) cs
touched_whole s m n r cs e = sym (ap (λ x. count_by (λ c. touched x m n (rectangle r c)) cs) e ∙ all cs)
  where
    all : (xs : List Run) → count_by (λ c. true) xs ≡ length xs
    all [] = refl
    all (x ∷ xs) = sum_by-cons (λ y. cond true 1 0) x xs ∙ ap (λ k. 1 + k) (all xs) ∙ omega arith

pub touched_upper : (s : Shape) (u : Uplo) (d : Diag) (m n t : ℕ) (r : Run) (k : ℕ) (a b : Axis) (cs : List Run) → s ≡ Tr u d → u ≡ Upper → d ≡ N → t ≡ r.start - (m - n) → AreRuns k a b cs
    → count_by (λ c. nat_lt t (c.start + c.len)) cs ≡ count_by (λ c. touched s m n (rectangle r c)) cs
touched_upper s u d m n t r k a b cs e f g i h =
    count_same _ _ cs (runs_agree _ k a b 0 k cs (λ c l. one t r.start (m - n) (c.start + c.len) (omega arith) i) h)
    ∙ ap (λ x. count_by (λ c. touched x m n (rectangle r c)) cs) (sym (let w : s ≡ Tr Upper N = cc in w))
  where
    one : (t i d e : ℕ) → 0 < e → t ≡ i - d → nat_lt t e ≡ nat_le i (e - 1 + d)
    one t i d e h k = grind (arith, nat_tests)

pub touched_upper_unit : (s : Shape) (u : Uplo) (d : Diag) (m n t : ℕ) (r : Run) (k : ℕ) (a b : Axis) (cs : List Run) → s ≡ Tr u d → u ≡ Upper → d ≡ U → t ≡ r.start + 1 - (m - n) → AreRuns k a b cs
    → count_by (λ c. nat_lt t (c.start + c.len)) cs ≡ count_by (λ c. touched s m n (rectangle r c)) cs
touched_upper_unit s u d m n t r k a b cs e f g i h =
    count_same _ _ cs (runs_agree _ k a b 0 k cs (λ c l. one t r.start (m - n) (c.start + c.len) (omega arith) i) h)
    ∙ ap (λ x. count_by (λ c. touched x m n (rectangle r c)) cs) (sym (let w : s ≡ Tr Upper U = cc in w))
  where
    one : (t i d e : ℕ) → 0 < e → t ≡ i + 1 - d → nat_lt t e ≡ nat_lt i (e - 1 + d)
    one t i d e h k = grind (arith, nat_tests)

pub touched_lower : (s : Shape) (u : Uplo) (d : Diag) (m n t : ℕ) (r : Run) (k : ℕ) (a b : Axis) (cs : List Run) → s ≡ Tr u d → u ≡ Lower → d ≡ N → 0 < r.len → t ≡ r.start + r.len + (n - m) → AreRuns k a b cs
    → count_by (λ c. nat_lt c.start t) cs ≡ count_by (λ c. touched s m n (rectangle r c)) cs
touched_lower s u d m n t r k a b cs e f g p i h =
    count_same _ _ cs (runs_agree _ k a b 0 k cs (λ c l. one t (r.start + r.len) (n - m) c.start (omega arith) i) h)
    ∙ ap (λ x. count_by (λ c. touched x m n (rectangle r c)) cs) (sym (let w : s ≡ Tr Lower N = cc in w))
  where
    one : (t e d x : ℕ) → 0 < e → t ≡ e + d → nat_lt x t ≡ nat_le x (e - 1 + d)
    one t e d x h k = grind (arith, nat_tests)

pub touched_lower_unit : (s : Shape) (u : Uplo) (d : Diag) (m n t : ℕ) (r : Run) (k : ℕ) (a b : Axis) (cs : List Run) → s ≡ Tr u d → u ≡ Lower → d ≡ U → t ≡ r.start + r.len - 1 + (n - m) → AreRuns k a b cs
    → count_by (λ c. nat_lt c.start t) cs ≡ count_by (λ c. touched s m n (rectangle r c)) cs
touched_lower_unit s u d m n t r k a b cs e f g i h =
    ap (λ x. count_by (λ c. nat_lt c.start x) cs) i
    ∙ ap (λ x. count_by (λ c. touched x m n (rectangle r c)) cs) (sym (let w : s ≡ Tr Lower U = cc in w))

-- Rectangles are counted row run by row run, too.
row_more : (t : Meet → Bool) (r : Run) (rs cs : List Run) → count_by t (rectangles (r ∷ rs) cs) ≡ count_by (λ c. t (rectangle r c)) cs + count_by t (rectangles rs cs)
row_more t r rs [] = refl
row_more t r rs (c ∷ cs) =
    sum_by-append (λ m. cond (t m) 1 0) (rectangle r c ∷ map (λ r. rectangle r c) rs) (rectangles (r ∷ rs) cs)
    ∙ parts _ _ _ _ _ _ _ _ (sum_by-cons (λ m. cond (t m) 1 0) (rectangle r c) (map (λ r. rectangle r c) rs)) (row_more t r rs cs)
    (sum_by-cons (λ c. cond (t (rectangle r c)) 1 0) c cs) (sum_by-append (λ m. cond (t m) 1 0) (map (λ r. rectangle r c) rs) (rectangles rs cs))
  where
    parts : (x y one rest column all down below : ℕ) → x ≡ one + column → y ≡ down + rest → all ≡ one + down → below ≡ column + rest → x + y ≡ all + below
    parts x y one rest column all down below e f g h = omega arith

pub count_by_rows : (t : Meet → Bool) (rs cs : List Run) → count_by t (rectangles rs cs) ≡ sum_by (λ r. count_by (λ c. t (rectangle r c)) cs) rs
count_by_rows t [] cs = none cs
  where
    none : (cs : List Run) → count_by t (rectangles [] cs) ≡ 0
    none [] = refl
    none (c ∷ cs) = none cs
count_by_rows t (r ∷ rs) cs =
    row_more t r rs cs ∙ ap (λ n. count_by (λ c. t (rectangle r c)) cs + n) (count_by_rows t rs cs)
    ∙ sym (sum_by-cons (λ r. count_by (λ c. t (rectangle r c)) cs) r rs)

-- In a whole shape every rectangle counts.
pub count_whole : (s : Shape) (m n : ℕ) (rs cs : List Run) → s ≡ Ge → length rs * length cs ≡ count_by (touched s m n) (rectangles rs cs)
count_whole s m n rs cs e = sym (count_by_rows (touched s m n) rs cs ∙ each rs)
  where
    each : (xs : List Run) → sum_by (λ r. count_by (λ c. touched s m n (rectangle r c)) cs) xs ≡ length xs * length cs
    each [] = let z : 0 ≡ 0 * length cs = omega arith in z
    each (x ∷ xs) = sum_by-cons (λ r. count_by (λ c. touched s m n (rectangle r c)) cs) x xs ∙ ap (λ k. k + sum_by (λ r. count_by (λ c. touched s m n (rectangle r c)) cs) xs) (sym (touched_whole s m n x cs e)) ∙ ap (λ k. length cs + k) (each xs) ∙ omega arith

-- One row run more is counted.
pub count_row : (f : Run → ℕ) (rs : List Run) (k : ℕ) (r : Run) (before now more : ℕ) → slice_get rs k ≡ Some r → k < length rs → before ≡ sum_by f (take k rs) → more ≡ f r → now ≡ before + more → now ≡ sum_by f (take (k + 1) rs)
count_row f rs k r before now more e h b m n =
    let at : get_or rs k r ≡ r = found rs k r e in
    n ∙ ap (λ x. x + more) b ∙ ap (λ x. sum_by f (take k rs) + x) (m ∙ ap f (sym at)) ∙ sym (sum_by_more f rs k r h)
  where
    found : (xs : List Run) (k : ℕ) (r : Run) → slice_get xs k ≡ Some r → get_or xs k r ≡ r
    found [] k r e = refl
    found (x ∷ xs) zero r e = cc
    found (x ∷ xs) (suc k) r e = found xs k r e
