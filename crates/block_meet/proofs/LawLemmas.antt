-- Runs cover each index once; inside a run owners stay and local indices go up.
use Rattle.std.proofs.Common.{◌≡◌, ℕ, zero, suc, ◌+◌, ◌-◌, ◌*◌, ◌/◌, ◌%◌, ◌<◌, ◌≤◌, ◌&&◌, cond, nat_le, nat_lt, Some, List, [], ◌∷◌, length, get_or, slice_get, count_by, refl, sym, ap, ◌∙◌, subst, arith}
use Rattle.std.proofs.Math.Nat.{mod-lt, add-mul-div_right, add-mul-mod_self_right}
use Rattle.index_tools.proofs.Counts.{below_place}
use Rattle.std.proofs.lemmas.Bool.Decides.{nat_tests}
use Rattle.std.proofs.lemmas.List.Sums.{sum_by-cons}
use Rattle.index_tools.specs.Spread.{Spread, owner, below, local}
use Rattle.index_tools.proofs.HomeLemmas.{below_owned}
use Rattle.block_meet.specs.declared.axis.Axis.{Axis}
use Rattle.block_meet.specs.declared.axis.Run.{Run}
use Rattle.block_meet.specs.Runs.{IsAxis, spread_of, block_at, AreTogether, IsRun, AreRunsFrom, AreRuns, holds}
use Rattle.block_meet.specs.Numbers.{run_number, run_count, IsFirstOf}
use Rattle.block_meet.proofs.NumberLemmas.{number_le, together_number, number_together, first_zero, one_first, number_next}

-- Runs end where they say.
pub runs_end : (n : ℕ) (a b : Axis) (from to : ℕ) (rs : List Run) → AreRunsFrom n a b from to rs → from ≤ to
runs_end n a b from to [] h = let e : from ≡ to = h in omega arith
runs_end n a b from to (r ∷ rs) h = let e : from + r.len ≤ to = runs_end n a b (from + r.len) to rs h.2 in omega arith

-- How many of the runs hold an index: one of those that it lies among.
runs_hold : (n : ℕ) (a b : Axis) (from to : ℕ) (rs : List Run) (i : ℕ) → AreRunsFrom n a b from to rs → count_by (holds i) rs ≡ cond (nat_le from i && nat_lt i to) 1 0
runs_hold n a b from to [] i h = let e : from ≡ to = h in none from to i e
  where
    none : (from to i : ℕ) → from ≡ to → ◌≡◌ {A = ℕ} 0 (cond (nat_le from i && nat_lt i to) 1 0)
    none from to i e = grind (arith, nat_tests)
runs_hold n a b from to (r ∷ rs) i h =
    let rest : count_by (holds i) rs ≡ cond (nat_le (from + r.len) i && nat_lt i to) 1 0 = runs_hold n a b (from + r.len) to rs i h.2 in
    let end : from + r.len ≤ to = runs_end n a b (from + r.len) to rs h.2 in
    sum_by-cons (λ x. cond (holds i x) 1 0) r rs ∙ ap (λ x. cond (holds i r) 1 0 + x) rest ∙ joined r.start from r.len to i h.0 end
  where
    joined : (s from l to i : ℕ) → s ≡ from → from + l ≤ to → cond (nat_le s i && nat_lt i (s + l)) 1 0 + cond (nat_le (from + l) i && nat_lt i to) 1 0 ≡ cond (nat_le from i && nat_lt i to) 1 0
    joined s from l to i e h = grind (arith, nat_tests)

pub each_once : (n : ℕ) (a b : Axis) (rs : List Run) → AreRuns n a b rs → (i : ℕ) → i < n → count_by (holds i) rs ≡ 1
each_once n a b rs h i l = runs_hold n a b 0 n rs i h ∙ inside i n l
  where
    inside : (i n : ℕ) → i < n → ◌≡◌ {A = ℕ} (cond (nat_le 0 i && nat_lt i n) 1 0) 1
    inside i n l = grind (arith, nat_tests)

-- Along one block the local index goes up by one.
local_along : (s : Spread) (g u : ℕ) → ((v : ℕ) → v ≤ u → owner s (g + v) ≡ owner s g) → below s (owner s g) (g + u) ≡ below s (owner s g) g + u
local_along s g zero f = let e : g + 0 ≡ g = omega arith in ap (below s (owner s g)) e ∙ omega arith
local_along s g (suc u) f =
    let e : g + suc u ≡ suc (g + u) = omega arith in
    let before : below s (owner s g) (g + u) ≡ below s (owner s g) g + u = local_along s g u (λ v l. f v (omega arith)) in
    let next : below s (owner s g) (suc (g + u)) ≡ below s (owner s g) (g + u) + 1 = below_owned s (owner s g) (g + u) (f u (omega arith)) in
    ap (below s (owner s g)) e ∙ next ∙ omega arith

-- one side of a run
inside_side : (a : Axis) (s u p l : ℕ) → ((v : ℕ) → v ≤ u → block_at a s ≡ block_at a (s + v)) → p ≡ owner (spread_of a) (a.first + s) → l ≡ local (spread_of a) (a.first + s)
    → (owner (spread_of a) (a.first + (s + u)) ≡ p) × (local (spread_of a) (a.first + (s + u)) ≡ l + u)
inside_side a s u p l f e g =
    let s' : Spread = spread_of a in
    let own : owner s' (a.first + (s + u)) ≡ owner s' (a.first + s) = stays u (omega arith) in
    let place : a.first + (s + u) ≡ (a.first + s) + u = omega arith in (
      own ∙ sym e,
      ap (λ p. below s' p (a.first + (s + u))) own ∙ ap (below s' (owner s' (a.first + s))) place ∙ local_along s' (a.first + s) u (λ v h. ap (owner s') (let r : (a.first + s) + v ≡ a.first + (s + v) = omega arith in r) ∙ stays v h) ∙ ap (λ x. x + u) (sym g),
    )
  where
    stays : (v : ℕ) → v ≤ u → owner (spread_of a) (a.first + (s + v)) ≡ owner (spread_of a) (a.first + s)
    stays v h = ap (λ b. (a.src + b) % a.procs) (sym (f v h))

pub inside_run : (n : ℕ) (a b : Axis) (r : Run) → IsRun n a b r → (u : ℕ) → u < r.len
    → (owner (spread_of a) (a.first + (r.start + u)) ≡ r.pa) × (owner (spread_of b) (b.first + (r.start + u)) ≡ r.pb) × (local (spread_of a) (a.first + (r.start + u)) ≡ r.la + u) × (local (spread_of b) (b.first + (r.start + u)) ≡ r.lb + u)
inside_run n a b r w u h =
    let x = inside_side a r.start u r.pa r.la (λ v l. (together v l).0) w.owner_a w.local_a in
    let y = inside_side b r.start u r.pb r.lb (λ v l. (together v l).1) w.owner_b w.local_b in
    (x.0, y.0, x.1, y.1)
  where
    together : (v : ℕ) → v ≤ u → AreTogether a b r.start (r.start + v)
    together v l = let i = w.inside in (w.members (r.start + v) (omega arith)).0 (omega arith, omega arith)

-- A run of a start is that of the closed form.
pub run_of_start : (n : ℕ) (a b : Axis) (r q : Run) → IsRun n a b r → IsRun n a b q → r.start ≡ q.start → r ≡ q
run_of_start n a b r q x y e =
    joined _ _ _ _ _ _ _ _ _ _ _ _ e (by_order r.len q.len (λ h. clash r q x y e h) (λ h. clash q r y x (sym e) h))
    (x.owner_a ∙ ap (λ s. owner (spread_of a) (a.first + s)) e ∙ sym y.owner_a) (x.owner_b ∙ ap (λ s. owner (spread_of b) (b.first + s)) e ∙ sym y.owner_b)
    (x.local_a ∙ ap (λ s. local (spread_of a) (a.first + s)) e ∙ sym y.local_a) (x.local_b ∙ ap (λ s. local (spread_of b) (b.first + s)) e ∙ sym y.local_b)
  where
    by_order : (s t : ℕ) → (s < t → ⊥) → (t < s → ⊥) → s ≡ t
    by_order s t h k = grind arith

    clash : (r q : Run) → IsRun n a b r → IsRun n a b q → r.start ≡ q.start → r.len < q.len → ⊥
    clash r q x y e h =
        let i = y.inside in
        let t : AreTogether a b q.start (r.start + r.len) = (y.members (r.start + r.len) (omega arith)).0 (omega arith, omega arith) in
        let u : AreTogether a b r.start (r.start + r.len) = subst (λ s. AreTogether a b s (r.start + r.len)) (sym e) t in
        let m : r.start + r.len < r.start + r.len = ((x.members (r.start + r.len) (omega arith)).1 u).1 in
        omega arith

    joined : (s t l m p q u v g h i j : ℕ) → s ≡ t → l ≡ m → p ≡ q → u ≡ v → g ≡ h → i ≡ j
        → (let r : Run = record { start = s; len = l; pa = p; pb = u; la = g; lb = i } in r) ≡ record { start = t; len = m; pa = q; pb = v; la = h; lb = j }
    joined s t l m p q u v g h i j e f k w x y = cc

-- what is known of the run number at an index from which runs are listed
pub record IsReached (n : ℕ) (a b : Axis) (k from : ℕ) : Type 0 where
  pub here : from < n → run_number a b from ≡ k
  pub earlier : (i : ℕ) → i < from → run_number a b i < k

-- After a run comes the next number.
pub reached_next : (n : ℕ) (a b : Axis) (k : ℕ) (r : Run) → 0 < a.nb → 0 < b.nb → IsRun n a b r → IsReached n a b k r.start → IsReached n a b (suc k) (r.start + r.len)
reached_next n a b k r ha hb w f = record { here = λ h. next h; earlier = λ i h. below_next i h }
  where
    own : run_number a b r.start ≡ k
    own = let i = w.inside in let s = w.some in f.here (omega arith)

    within : (i : ℕ) → r.start ≤ i → i < r.start + r.len → run_number a b i ≡ k
    within i l h = let e = w.inside in together_number a b r.start i ha hb l ((w.members i (omega arith)).0 (l, h)) ∙ own

    below_next : (i : ℕ) → i < r.start + r.len → run_number a b i < suc k
    below_next i h = by_order i r.start (run_number a b i) k (f.earlier i) (λ l. within i l h)
      where
        by_order : (i s x k : ℕ) → (i < s → x < k) → (s ≤ i → x ≡ k) → x < suc k
        by_order i s x k g h = grind arith

    next : r.start + r.len < n → run_number a b (r.start + r.len) ≡ suc k
    next h =
        let s = w.some in
        let e : suc (r.start + r.len - 1) ≡ r.start + r.len = omega arith in
        let last : run_number a b (r.start + r.len - 1) ≡ k = within (r.start + r.len - 1) (omega arith) (omega arith) in
        let top : run_number a b (suc (r.start + r.len - 1)) ≤ run_number a b (r.start + r.len - 1) + 1 = (number_next a b (r.start + r.len - 1)).1 in
        let same : run_number a b (suc (r.start + r.len - 1)) ≡ run_number a b (r.start + r.len) = ap (run_number a b) e in
        let low : run_number a b r.start ≤ run_number a b (r.start + r.len) = number_le a b r.start (r.start + r.len) (omega arith) in
        let mine : run_number a b r.start ≡ k = own in
        let other : run_number a b (r.start + r.len) ≡ run_number a b r.start → ⊥ = λ (g : run_number a b (r.start + r.len) ≡ run_number a b r.start).
        let m : r.start + r.len < r.start + r.len = ((w.members (r.start + r.len) h).1 (number_together a b r.start (r.start + r.len) (omega arith) g)).1 in omega arith in
        one_more _ _ _ _ _ last top same low other mine
      where
        one_more : (x y z v k : ℕ) → x ≡ k → y ≤ x + 1 → y ≡ z → v ≤ z → (z ≡ v → ⊥) → v ≡ k → z ≡ suc k
        one_more x y z v k e t g l o f = grind arith

-- The run with the number j + k is the k-th of the runs that are listed from number j on.
nth_from : (n : ℕ) (a b : Axis) (j from : ℕ) (rs : List Run) (k : ℕ) (q : Run) → 0 < a.nb → 0 < b.nb → AreRunsFrom n a b from n rs → IsReached n a b j from → IsRun n a b q → run_number a b q.start ≡ j + k → ((i : ℕ) → i < q.start → run_number a b i < j + k) → slice_get rs k ≡ Some q
nth_from n a b j from [] k q ha hb h f w e g = absurd (let i = w.inside in let s = w.some in let t : from ≡ n = h in let l : run_number a b q.start < j = f.earlier q.start (omega arith) in omega arith)
nth_from n a b j from (r ∷ rs) zero q ha hb h f w e g =
    let x = h.1.some in
    let y = h.1.inside in
    let z = h.0 in
    let one : run_number a b from ≡ j + 0 = f.here (omega arith) ∙ omega arith in
    let start : r.start ≡ q.start = h.0 ∙ one_first a b (j + 0) from q.start (record { its_number = one; before = λ i l. let m : run_number a b i < j = f.earlier i l in omega arith }) (record { its_number = e; before = g }) in
    ap Some (run_of_start n a b r q h.1 w start)
nth_from n a b j from (r ∷ rs) (suc k) q ha hb h f w e g =
    let number : j + suc k ≡ suc j + k = omega arith in
    let there : IsReached n a b j r.start = subst (λ s. IsReached n a b j s) (sym h.0) f in
    let next : IsReached n a b (suc j) (from + r.len) = subst (λ s. IsReached n a b (suc j) (s + r.len)) h.0 (reached_next n a b j r ha hb h.1 there) in
    nth_from n a b (suc j) (from + r.len) rs k q ha hb h.2 next w (e ∙ number) (λ i l. subst (λ x. run_number a b i < x) number (g i l))

pub reached_zero : (n : ℕ) (a b : Axis) → IsReached n a b 0 0
reached_zero n a b = record { here = λ h. (first_zero a b).its_number; earlier = λ i h. absurd (omega arith) }

pub nth_run : (n : ℕ) (a b : Axis) (rs : List Run) (k : ℕ) (q : Run) → 0 < a.nb → 0 < b.nb → AreRuns n a b rs → IsRun n a b q → IsFirstOf a b k q.start → slice_get rs k ≡ Some q
nth_run n a b rs k q ha hb h w f =
    let e : k ≡ 0 + k = omega arith in
    nth_from n a b 0 0 rs k q ha hb h (reached_zero n a b) w (f.its_number ∙ e) (λ i l. subst (λ x. run_number a b i < x) e (f.before i l))

-- How many runs are listed.
count_from : (n : ℕ) (a b : Axis) (j from : ℕ) (rs : List Run) → 0 < a.nb → 0 < b.nb → AreRunsFrom n a b from n rs → IsReached n a b j from → 0 < n → (0 < from → run_number a b (from - 1) + 1 ≡ j) → (from ≡ 0 → 0 < length rs) → j + length rs ≡ run_number a b (n - 1) + 1
count_from n a b j from [] ha hb h f p e z = let t : from ≡ n = h in let last : run_number a b (from - 1) ≡ run_number a b (n - 1) = ap (λ x. run_number a b (x - 1)) t in let before = e (omega arith) in omega arith
count_from n a b j from (r ∷ rs) ha hb h f p e z =
    let s = h.1.some in
    let i = h.1.inside in
    let x = h.0 in
    let there : IsReached n a b j r.start = subst (λ s. IsReached n a b j s) (sym h.0) f in
    let next : IsReached n a b (suc j) (from + r.len) = subst (λ s. IsReached n a b (suc j) (s + r.len)) h.0 (reached_next n a b j r ha hb h.1 there) in
    let own : run_number a b from ≡ j = f.here (omega arith) in
    let last : run_number a b (from + r.len - 1) ≡ run_number a b from = together_number a b from (from + r.len - 1) ha hb (omega arith) (subst (λ s. AreTogether a b s (from + r.len - 1)) h.0 ((h.1.members (from + r.len - 1) (omega arith)).0 (omega arith, omega arith))) in
    let rest : suc j + length rs ≡ run_number a b (n - 1) + 1 = count_from n a b (suc j) (from + r.len) rs ha hb h.2 next p (λ q. omega arith) (λ q. absurd (omega arith)) in
    omega arith

pub count_runs : (n : ℕ) (a b : Axis) (rs : List Run) → 0 < a.nb → 0 < b.nb → AreRuns n a b rs → length rs ≡ run_count a b n
count_runs zero a b [] ha hb h = refl
count_runs zero a b (r ∷ rs) ha hb h = absurd (let s = h.1.some in let i = h.1.inside in omega arith)
count_runs (suc m) a b [] ha hb h = absurd (let e : 0 ≡ suc m = h in omega arith)
count_runs (suc m) a b (r ∷ rs) ha hb h =
    let whole : 0 + length (r ∷ rs) ≡ run_number a b (suc m - 1) + 1 = count_from (suc m) a b 0 0 (r ∷ rs) ha hb h (reached_zero (suc m) a b) (omega arith) (λ p. absurd (omega arith)) (λ p. omega arith) in
    let e : suc m - 1 ≡ m = omega arith in
    let same : run_number a b (suc m - 1) ≡ run_number a b m = ap (run_number a b) e in
    omega arith

-- After whole turns of an axis's blocks the owner is the same, and the local index is so many blocks further.
owner_after : (s : Spread) (g t : ℕ) → 0 < s.block → owner s (g + t * (s.block * s.processes)) ≡ owner s g
owner_after s g t h =
    let place : g + t * (s.block * s.processes) ≡ g + t * s.processes * s.block = omega arith in
    let blocks : (g + t * (s.block * s.processes)) / s.block ≡ g / s.block + t * s.processes = ap (λ x. x / s.block) place ∙ add-mul-div_right g (t * s.processes) h in
    let turn : s.first + (g / s.block + t * s.processes) ≡ (s.first + g / s.block) + t * s.processes = omega arith in
    ap (λ x. (s.first + x) % s.processes) blocks ∙ ap (λ x. x % s.processes) turn ∙ add-mul-mod_self_right (s.first + g / s.block) t s.processes

local_after : (s : Spread) (g t : ℕ) → 0 < s.block → s.first < s.processes → local s (g + t * (s.block * s.processes)) ≡ local s g + t * s.block
local_after s g t h k =
    let some : 0 < s.block * s.processes = product s.block s.processes h (omega arith) in
    let turns : (g + t * (s.block * s.processes)) / (s.block * s.processes) ≡ g / (s.block * s.processes) + t = add-mul-div_right g t some in
    let place : g + t * (s.block * s.processes) ≡ g + t * s.processes * s.block = omega arith in
    let rest : (g + t * (s.block * s.processes)) % s.block ≡ g % s.block = ap (λ x. x % s.block) place ∙ add-mul-mod_self_right g (t * s.processes) s.block in
    below_place s (g + t * (s.block * s.processes)) h k
    ∙ ap (λ x. s.block * x + (g + t * (s.block * s.processes)) % s.block) turns ∙ ap (λ x. s.block * (g / (s.block * s.processes) + t) + x) rest
    ∙ regroup s.block (g / (s.block * s.processes)) t (g % s.block) ∙ ap (λ x. x + t * s.block) (sym (below_place s g h k))
  where
    product : (x y : ℕ) → 0 < x → 0 < y → 0 < x * y
    product x y p q = grind arith

    regroup : (x q t r : ℕ) → x * (q + t) + r ≡ x * q + r + t * x
    regroup x q t r = omega arith

pub after_turns : (a : Axis) (i t : ℕ) → 1 ≤ a.nb → a.src < a.procs
    → (owner (spread_of a) (a.first + (i + t * (a.nb * a.procs))) ≡ owner (spread_of a) (a.first + i)) × (local (spread_of a) (a.first + (i + t * (a.nb * a.procs))) ≡ local (spread_of a) (a.first + i) + t * a.nb)
after_turns a i t h k =
    let s : Spread = spread_of a in
    let place : a.first + (i + t * (a.nb * a.procs)) ≡ (a.first + i) + t * (a.nb * a.procs) = omega arith in
    let own : owner s (a.first + (i + t * (a.nb * a.procs))) ≡ owner s (a.first + i) = ap (owner s) place ∙ owner_after s (a.first + i) t h in
    (own, ap (λ x. local s x) place ∙ local_after s (a.first + i) t h k)

-- The runs of an axis are determined.
runs_same : (n : ℕ) (a b : Axis) (from : ℕ) (rs qs : List Run) → AreRunsFrom n a b from n rs → AreRunsFrom n a b from n qs → rs ≡ qs
runs_same n a b from [] [] h k = refl
runs_same n a b from [] (q ∷ qs) h k = absurd (let e : from ≡ n = h in let s = k.1.some in let i = k.1.inside in let f = k.0 in omega arith)
runs_same n a b from (r ∷ rs) [] h k = absurd (let e : from ≡ n = k in let s = h.1.some in let i = h.1.inside in let f = h.0 in omega arith)
runs_same n a b from (r ∷ rs) (q ∷ qs) h k =
    let one : r ≡ q = run_of_start n a b r q h.1 k.1 (h.0 ∙ sym k.0) in
    let rest : rs ≡ qs = runs_same n a b (from + r.len) rs qs h.2 (subst (λ (x : Run). AreRunsFrom n a b (from + x.len) n qs) (sym one) k.2) in
    cc

pub only_runs : (n : ℕ) (a b : Axis) (rs qs : List Run) → AreRuns n a b rs → AreRuns n a b qs → rs ≡ qs
only_runs n a b rs qs h k = runs_same n a b 0 rs qs h k

-- Each of them is a run.
pub each_run : (n : ℕ) (a b : Axis) (from to : ℕ) (rs : List Run) (k : ℕ) (d : Run) → AreRunsFrom n a b from to rs → k < length rs → IsRun n a b (get_or rs k d)
each_run n a b from to [] k d h l = absurd (omega arith)
each_run n a b from to (r ∷ rs) zero d h l = h.1
each_run n a b from to (r ∷ rs) (suc k) d h l = each_run n a b (from + r.len) to rs k d h.2 (omega arith)

-- A run's owners are processes.
pub owners_below : (n : ℕ) (a b : Axis) (r : Run) → IsAxis n a → IsAxis n b → IsRun n a b r → (r.pa < a.procs) × (r.pb < b.procs)
owners_below n a b r wa wb w =
    let sa : a.src < a.procs = wa.source in
    let sb : b.src < b.procs = wb.source in
    (subst (λ p. p < a.procs) (sym w.owner_a) (mod-lt _ (omega arith)), subst (λ p. p < b.procs) (sym w.owner_b) (mod-lt _ (omega arith)))
