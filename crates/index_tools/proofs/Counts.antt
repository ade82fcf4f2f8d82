-- The counts of `below`, in closed form.
use Rattle.std.proofs.Common.{◌≡◌, ℕ, zero, suc, ◌+◌, ◌-◌, ◌*◌, ◌/◌, ◌%◌, ◌<◌, ◌≤◌, Bool, true, false, cond, nat_eq, nat_lt, sym, ap, ◌∙◌, arith}
use Rattle.std.proofs.Math.Nat.{mod-eq_of_lt, mod-eq-sub-mod, add-mul-mod_self_right, div-div-eq-div-mul, mod-lt}
use Rattle.std.proofs.lemmas.Nat.{div-mul-add, div-add-mod'}
use Rattle.std.proofs.lemmas.Bool.Decides.{nat_tests}
use Rattle.index_tools.specs.Spread.{Spread, owner, below}

-- a process's distance from the first
abbrev pub distance : (first process processes : ℕ) → ℕ
distance first process processes = (processes + process - first) % processes

small_mod : (a p : ℕ) → a < p → a % p ≡ a
small_mod a p h = mod-eq_of_lt h

wrapped_mod : (a p : ℕ) → p ≤ a → a < p + p → a % p ≡ a - p
wrapped_mod a p h l = let m : a - p < p = omega arith in mod-eq-sub-mod h ∙ mod-eq_of_lt m

-- the same with both remainders by cases
same_place : (f p P r m d : ℕ) → f < P → p < P → r < P → (f + r < P → m ≡ f + r) → (P ≤ f + r → m ≡ f + r - P) → (P + p - f < P → d ≡ P + p - f) → (P ≤ P + p - f → d ≡ P + p - f - P) → nat_eq m p ≡ nat_eq r d
same_place f p P r m d hf hp hr low high dlow dhigh = grind (arith, nat_tests)

-- The block number q * P + r belongs to the process exactly where r is its distance.
pub owns_block : (f p P q r : ℕ) → f < P → p < P → r < P → nat_eq ((f + (q * P + r)) % P) p ≡ nat_eq r (distance f p P)
owns_block f p P q r hf hp hr =
    let turn : (f + (q * P + r)) % P ≡ (f + r) % P = ap (λ n. n % P) (let e : f + (q * P + r) ≡ (f + r) + q * P = omega arith in e) ∙ add-mul-mod_self_right (f + r) q P in
    ap (λ n. nat_eq n p) turn ∙ same_place f p P r _ _ hf hp hr (λ h. small_mod (f + r) P h) (λ h. wrapped_mod (f + r) P h (omega arith)) (λ h. small_mod (P + p - f) P h) (λ h. wrapped_mod (P + p - f) P h (omega arith))

-- Inside a block.
pub below_in_block : (s : Spread) (p b t : ℕ) → t ≤ s.block → below s p (b * s.block + t) ≡ below s p (b * s.block) + cond (nat_eq ((s.first + b) % s.processes) p) t 0
unfolding below
below_in_block s p b zero h = grind (arith, nat_tests)
below_in_block s p b (suc t) h =
    let low : t < s.block = omega arith in
    let at : (b * s.block + t) / s.block ≡ b = div-mul-add b s.block t low in
    let before : below s p (b * s.block + t) ≡ below s p (b * s.block) + cond (nat_eq ((s.first + b) % s.processes) p) t 0 = below_in_block s p b t (omega arith) in
    let step : b * s.block + suc t ≡ suc (b * s.block + t) = omega arith in
    let test : owner s (b * s.block + t) ≡ (s.first + b) % s.processes = ap (λ n. (s.first + n) % s.processes) at in
    ap (below s p) step ∙ ap (λ n. below s p (b * s.block + t) + cond (nat_eq n p) 1 0) test ∙ grown _ _ _ t before
  where
    grown : (x y : ℕ) (c : Bool) (t : ℕ) → x ≡ y + cond c t 0 → x + cond c 1 0 ≡ y + cond c (suc t) 0
    grown x y true t h = omega arith
    grown x y false t h = omega arith

-- Over the blocks of one turn.
pub below_in_turn : (s : Spread) (p q r : ℕ) → s.first < s.processes → p < s.processes → r ≤ s.processes → below s p ((q * s.processes + r) * s.block) ≡ below s p (q * s.processes * s.block) + cond (nat_lt (distance s.first p s.processes) r) s.block 0
below_in_turn s p q zero hf hp hr = ap (λ n. below s p (n * s.block)) (let e : q * s.processes + 0 ≡ q * s.processes = omega arith in e) ∙ grind (arith, nat_tests)
below_in_turn s p q (suc r) hf hp hr =
    let low : r < s.processes = omega arith in
    let block : (q * s.processes + suc r) * s.block ≡ (q * s.processes + r) * s.block + s.block = omega arith in
    ap (below s p) block ∙ below_in_block s p (q * s.processes + r) s.block (omega arith)
    ∙ more (below s p ((q * s.processes + r) * s.block)) (below s p (q * s.processes * s.block)) (nat_eq ((s.first + (q * s.processes + r)) % s.processes) p) r (distance s.first p s.processes) s.block (below_in_turn s p q r hf hp (omega arith)) (owns_block s.first p s.processes q r hf hp low)
  where
    more : (x y : ℕ) (c : Bool) (r d b : ℕ) → x ≡ y + cond (nat_lt d r) b 0 → c ≡ nat_eq r d → x + cond c b 0 ≡ y + cond (nat_lt d (suc r)) b 0
    more x y c r d b h e = grind (arith, nat_tests)

-- Over whole turns.
pub below_turns : (s : Spread) (p q : ℕ) → s.first < s.processes → p < s.processes → below s p (q * s.processes * s.block) ≡ q * s.block
unfolding below
below_turns s p zero hf hp = ap (below s p) (let e : 0 * s.processes * s.block ≡ 0 = omega arith in e) ∙ omega arith
below_turns s p (suc q) hf hp =
    let d : distance s.first p s.processes < s.processes = mod-lt _ (omega arith) in
    let shape : suc q * s.processes * s.block ≡ (q * s.processes + s.processes) * s.block = omega arith in
    ap (below s p) shape ∙ below_in_turn s p q s.processes hf hp (omega arith) ∙ turned _ q _ _ s.block d (below_turns s p q hf hp)
  where
    turned : (x q d P b : ℕ) → d < P → x ≡ q * b → x + cond (nat_lt d P) b 0 ≡ suc q * b
    turned x q d P b h e = grind (arith, nat_tests)

-- The count below any index.
pub below_closed : (s : Spread) (p q r t : ℕ) → s.first < s.processes → p < s.processes → r < s.processes → t ≤ s.block → below s p ((q * s.processes + r) * s.block + t)
    ≡ q * s.block + cond (nat_lt (distance s.first p s.processes) r) s.block 0 + cond (nat_eq r (distance s.first p s.processes)) t 0
below_closed s p q r t hf hp hr ht =
    below_in_block s p (q * s.processes + r) t ht
    ∙ ap (λ c. below s p ((q * s.processes + r) * s.block) + cond c t 0) (owns_block s.first p s.processes q r hf hp hr)
    ∙ ap (λ x. x + cond (nat_eq r (distance s.first p s.processes)) t 0) (below_in_turn s p q r hf hp (omega arith) ∙ ap (λ x. x + cond (nat_lt (distance s.first p s.processes) r) s.block 0) (below_turns s p q hf hp))

-- The same by quotients, as the code computes it.
pub below_formula : (s : Spread) (p n : ℕ) → 0 < s.block → s.first < s.processes → p < s.processes → below s p n
    ≡ n / s.block / s.processes * s.block + cond (nat_lt (distance s.first p s.processes) (n / s.block % s.processes)) s.block 0 + cond (nat_eq (n / s.block % s.processes) (distance s.first p s.processes)) (n % s.block) 0
below_formula s p n hb hf hp =
    let r : n / s.block % s.processes < s.processes = mod-lt _ (omega arith) in
    let t : n % s.block < s.block = mod-lt _ hb in
    let shape : n ≡ (n / s.block / s.processes * s.processes + n / s.block % s.processes) * s.block + n % s.block = sym (ap (λ b. b * s.block + n % s.block) (div-add-mod' (n / s.block) s.processes) ∙ div-add-mod' n s.block) in
    ap (below s p) shape ∙ below_closed s p _ _ _ hf hp r (omega arith)

placed : (x o q w r d b t : ℕ) → nat_eq o o ≡ nat_eq r d → q ≡ w → x ≡ q * b + cond (nat_lt d r) b 0 + cond (nat_eq r d) t 0 → x ≡ b * w + t
placed x o q w r d b t e f g = grind (arith, nat_tests)

-- On its own process an index comes after whole blocks and its place in its block.
pub below_place : (s : Spread) (i : ℕ) → 0 < s.block → s.first < s.processes → below s (owner s i) i ≡ s.block * (i / (s.block * s.processes)) + i % s.block
below_place s i hb hf =
    let b : ℕ = i / s.block in
    let r : b % s.processes < s.processes = mod-lt _ (omega arith) in
    let mine : owner s i < s.processes = mod-lt _ (omega arith) in
    let same : nat_eq (owner s i) (owner s i) ≡ nat_eq (b % s.processes) (distance s.first (owner s i) s.processes)
    = ap (λ n. nat_eq ((s.first + n) % s.processes) (owner s i)) (sym (div-add-mod' b s.processes)) ∙ owns_block s.first (owner s i) s.processes (b / s.processes) (b % s.processes) hf mine r in
    let blocks : b / s.processes ≡ i / (s.block * s.processes) = div-div-eq-div-mul i s.block s.processes in
    placed (below s (owner s i) i) (owner s i) (b / s.processes) (i / (s.block * s.processes)) (b % s.processes) _ s.block (i % s.block) same blocks (below_formula s (owner s i) i hb hf mine)
