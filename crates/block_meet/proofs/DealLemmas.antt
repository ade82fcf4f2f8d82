-- First indices that are dealt out stand in the lists of their pairs.
use Rattle.std.proofs.Common.{◌≡◌, ℕ, zero, suc, ◌+◌, ◌-◌, ◌*◌, ◌<◌, ◌≤◌, Bool, true, false, cond, inl, inr, List, [], ◌∷◌, ◌++◌, length, get_or, map, Vec, Global, refl, sym, ap, ◌∙◌, subst, arith, length-append, length-set}
use Rattle.std.proofs.Math.Nat.{mod-lt}
use Rattle.std.proofs.Math.ListN.{set}
use Rattle.std.proofs.lemmas.Nat.{same_from_place, mul-add-lt, mul-le}
use Rattle.std.proofs.lemmas.List.{map-set, get_or-map, get_or-set_same, get_or-set_other}
use Rattle.std.proofs.lemmas.Bool.{cases_eq}
use Rattle.index_tools.specs.Spread.{owner}
use Rattle.block_meet.specs.declared.axis.Axis.{Axis}
use Rattle.block_meet.specs.Runs.{IsAxis, spread_of}
use Rattle.block_meet.specs.Steps.{steps, IsStep, AreSteps}
use Rattle.block_meet.specs.Stretch.{left, stretch}
use Rattle.block_meet.specs.Pairs.{is_on, begins_on, IsPutOut}
use Rattle.block_meet.proofs.Blocks.{left_some}
use Rattle.block_meet.proofs.RunLemmas.{IsStart, stretch_together, next_start}
use Rattle.block_meet.proofs.TableLemmas.{starts_more}
use Rattle.block_meet.proofs.StepLemmas.{steps_le, step_passes, steps_stay, step_here, steps_none}
use Rattle.block_meet.proofs.PairLemmas.{one_pair, two_pairs}

-- One list is longer by an index.
pub list_longer : (lists : List (Vec ℕ Global)) (k : ℕ) (list more : Vec ℕ Global) (x : ℕ) → list ≡ get_or lists k list → more.items ≡ list.items ++ x ∷ [] → k < length lists
    → map (λ v. v.items) (set lists k more) ≡ set (map (λ v. v.items) lists) k (get_or (map (λ v. v.items) lists) k [] ++ x ∷ [])
list_longer lists k list more x e f h =
    let one : get_or (map (λ v. v.items) lists) k [] ≡ list.items = get_or-map (λ v. v.items) lists k list [] h ∙ ap (λ v. v.items) (sym e) in
    map-set (λ v. v.items) lists k more ∙ ap (set (map (λ v. v.items) lists) k) (f ∙ ap (λ xs. xs ++ x ∷ []) (sym one))

-- An index's owners are processes.
pub owners_below : (a b : Axis) (i j : ℕ) → a.src < a.procs → b.src < b.procs → (owner (spread_of a) i < a.procs) × (owner (spread_of b) j < b.procs)
owners_below a b i j h k = (mod-lt _ (omega arith), mod-lt _ (omega arith))

-- There are few pairs, and each has a place.
pub pairs_few : (n : ℕ) (a b : Axis) → IsAxis n a → IsAxis n b → a.procs * b.procs ≤ 64 * 64
pairs_few n a b wa wb = mul-le a.procs b.procs 64 64 wa.processes wb.processes

pub pair_place : (p q m n : ℕ) → p < m → q < n → p * n + q < m * n
pair_place p q m n h k = let l : p * n + q < n * m = mul-add-lt p n q m h k in omega arith

-- So their place fits.
pub place_fits : (n : ℕ) (a b : Axis) (p q : ℕ) → IsAxis n a → IsAxis n b → p < a.procs → q < b.procs → p * b.procs + q < 64 * 64
place_fits n a b p q wa wb h k = let l = pair_place p q a.procs b.procs h k in let m = pairs_few n a b wa wb in omega arith

-- the indices of a pair, as far as the one before `start`
pub record ArePutTo (t : ℕ → Bool) (reach start : ℕ) (ss : List ℕ) : Type 0 where
  pub count : length ss ≡ steps t (start - 1)
  pub each : (k : ℕ) → k < length ss → IsStep t (suc k) (get_or ss k 0)
  pub within : (k : ℕ) → k < length ss → get_or ss k 0 ≤ reach

-- what the lists hold before the run that begins at `start`
pub record IsPutTo (a b : Axis) (reach start : ℕ) (lists : List (List ℕ)) : Type 0 where
  pub some : 0 < start
  pub fresh : IsStart a b start
  pub count : length lists ≡ a.procs * b.procs
  pub each : (p q : ℕ) → p < a.procs → q < b.procs → ArePutTo (begins_on a b p q) reach start (get_or lists (p * b.procs + q) [])

-- Within a stretch no run begins but at its first index.
stays_on : (a b : Axis) (p q s j : ℕ) → 0 < a.nb → 0 < b.nb → s ≤ j → suc j < s + stretch a b s → begins_on a b p q j ≡ false
stays_on a b p q s j ha hb l h =
    let x = stretch_together a b s j ha hb l (omega arith) in
    let y = stretch_together a b s (suc j) ha hb (omega arith) h in
    ap (λ c. cond c false (is_on a b p q (suc j))) (one_pair _ _ _ _ (sym x.0 ∙ y.0) (sym x.1 ∙ y.1))

-- So the count before the next run is that at the first index.
stretch_count : (a b : Axis) (p q s : ℕ) → 0 < a.nb → 0 < b.nb → steps (begins_on a b p q) (s + stretch a b s - 1) ≡ steps (begins_on a b p q) s
stretch_count a b p q s ha hb =
    let xa : 0 < left a s = left_some a s ha in
    let xb : 0 < left b s = left_some b s hb in
    let e : s + stretch a b s - 1 ≡ s + (stretch a b s - 1) = omega arith in
    ap (steps (begins_on a b p q)) e ∙ steps_stay (begins_on a b p q) s (stretch a b s - 1) (λ j l h. stays_on a b p q s j ha hb l (omega arith))

-- Where a run begins, it is counted at its pair.
begin_count : (a b : Axis) (p q s : ℕ) → 0 < s → IsStart a b s → steps (begins_on a b p q) s ≡ steps (begins_on a b p q) (s - 1) + cond (is_on a b p q s) 1 0
begin_count a b p q zero h f = absurd (omega arith)
begin_count a b p q (suc i) h f =
    let here : begins_on a b p q i ≡ is_on a b p q (suc i) = ap (λ c. cond c false (is_on a b p q (suc i))) (two_pairs _ _ _ _ (λ x y. f.apart i (omega arith) (x, y))) in
    let e : suc i - 1 ≡ i = omega arith in
    step_passes (begins_on a b p q) i _ here ∙ ap (λ x. steps (begins_on a b p q) x + cond (is_on a b p q (suc i)) 1 0) (sym e)

begin_step : (a b : Axis) (p q s : ℕ) → 0 < s → IsStart a b s → is_on a b p q s ≡ true → IsStep (begins_on a b p q) (suc (steps (begins_on a b p q) (s - 1))) s
begin_step a b p q zero h f e = absurd (omega arith)
begin_step a b p q (suc i) h f e =
    let here : begins_on a b p q i ≡ true = ap (λ c. cond c false (is_on a b p q (suc i))) (two_pairs _ _ _ _ (λ x y. f.apart i (omega arith) (x, y))) ∙ e in
    let same : steps (begins_on a b p q) i + 1 ≡ suc (steps (begins_on a b p q) (suc i - 1)) = plain _ _ (ap (steps (begins_on a b p q)) (let g : i ≡ suc i - 1 = omega arith in g)) in
    subst (λ x. IsStep (begins_on a b p q) x (suc i)) same (step_here (begins_on a b p q) i here)
  where
    plain : (x y : ℕ) → x ≡ y → x + 1 ≡ suc y
    plain x y e = omega arith

-- At first the lists are empty.
pub put_none : (a b : Axis) (reach next : ℕ) (lists : List (List ℕ)) → 0 < a.nb → 0 < b.nb → next ≡ stretch a b 0 → length lists ≡ a.procs * b.procs → ((k : ℕ) → get_or lists k [] ≡ []) → IsPutTo a b reach next lists
put_none a b reach next lists ha hb e count none =
    let xa : 0 < left a 0 = left_some a 0 ha in
    let xb : 0 < left b 0 = left_some b 0 hb in
    record {
      some = omega arith;
      fresh = subst (λ s. IsStart a b s) (let f : 0 + stretch a b 0 ≡ next = omega arith in f) (next_start a b 0 ha hb);
      count = count;
      each = λ p q hp hq. subst (λ ss. ArePutTo (begins_on a b p q) reach next ss) (sym (none (p * b.procs + q))) (record {
        count =
            let g : next - 1 ≡ 0 + stretch a b 0 - 1 = omega arith in
            sym (ap (steps (begins_on a b p q)) g ∙ stretch_count a b p q 0 ha hb ∙ steps_none (begins_on a b p q));
        each = λ k h. absurd (omega arith);
        within = λ k h. absurd (omega arith);
      });
    }

-- One index more is put at its pair.
put_more : (n : ℕ) (a b : Axis) (reach s next : ℕ) (lists more : List (List ℕ)) → IsAxis n a → IsAxis n b → s ≤ reach → next ≡ s + stretch a b s
    → more ≡ set lists (owner (spread_of a) (a.first + s) * b.procs + owner (spread_of b) (b.first + s)) (get_or lists (owner (spread_of a) (a.first + s) * b.procs + owner (spread_of b) (b.first + s)) [] ++ s ∷ [])
    → IsPutTo a b reach s lists → IsPutTo a b reach next more
put_more n a b reach s next lists more wa wb low f e w = subst (λ ls. IsPutTo a b reach next ls) (sym e) (record {
  some = let h = w.some in omega arith;
  fresh = subst (λ x. IsStart a b x) (sym f) (next_start a b s wa.block wb.block);
  count = length-set lists (oa * b.procs + ob) _ ∙ w.count;
  each = λ p q hp hq. one p q hp hq;
})
  where
    oa : ℕ
    oa = owner (spread_of a) (a.first + s)

    ob : ℕ
    ob = owner (spread_of b) (b.first + s)

    inside : owner (spread_of a) (a.first + s) * b.procs + owner (spread_of b) (b.first + s) < length lists
    inside =
        let o = owners_below a b (a.first + s) (b.first + s) wa.source wb.source in
        let l = pair_place (owner (spread_of a) (a.first + s)) (owner (spread_of b) (b.first + s)) a.procs b.procs o.0 o.1 in
        let c = w.count in
        omega arith

    counted : (p q : ℕ) (c : Bool) → is_on a b p q s ≡ c → steps (begins_on a b p q) (next - 1) ≡ steps (begins_on a b p q) (s - 1) + cond c 1 0
    counted p q c g = ap (λ x. steps (begins_on a b p q) (x - 1)) f ∙ stretch_count a b p q s wa.block wb.block ∙ begin_count a b p q s w.some w.fresh ∙ ap (λ d. steps (begins_on a b p q) (s - 1) + cond d 1 0) g

    own : (p q : ℕ) → is_on a b p q s ≡ true → (ss : List ℕ) → ArePutTo (begins_on a b p q) reach s ss → ArePutTo (begins_on a b p q) reach next (ss ++ s ∷ [])
    own p q g ss v = record {
      count = (let l : length (ss ++ s ∷ []) ≡ length ss + 1 = simp length-append (omega arith) in l) ∙ ap (λ x. x + 1) v.count ∙ sym (counted p q true g);
      each = starts_more (λ k x. IsStep (begins_on a b p q) (suc k) x) ss s v.each (subst (λ x. IsStep (begins_on a b p q) (suc x) s) (sym v.count) (begin_step a b p q s w.some w.fresh g));
      within = starts_more (λ k x. x ≤ reach) ss s v.within low;
    }

    other : (p q : ℕ) → is_on a b p q s ≡ false → (ss : List ℕ) → ArePutTo (begins_on a b p q) reach s ss → ArePutTo (begins_on a b p q) reach next ss
    other p q g ss v = record { count = v.count ∙ (let z : steps (begins_on a b p q) (s - 1) ≡ steps (begins_on a b p q) (s - 1) + 0 = omega arith in z) ∙ sym (counted p q false g); each = v.each; within = v.within }

    one : (p q : ℕ) → p < a.procs → q < b.procs
        → ArePutTo (begins_on a b p q) reach next (get_or (set lists (owner (spread_of a) (a.first + s) * b.procs + owner (spread_of b) (b.first + s)) (get_or lists (owner (spread_of a) (a.first + s) * b.procs + owner (spread_of b) (b.first + s)) [] ++ s ∷ [])) (p * b.procs + q) [])
    one p q hp hq = elim (cases_eq (p * b.procs + q) (owner (spread_of a) (a.first + s) * b.procs + owner (spread_of b) (b.first + s))) [
      | inl g ↦
          let o = owners_below a b (a.first + s) (b.first + s) wa.source wb.source in
          let parts = same_from_place p q (owner (spread_of a) (a.first + s)) (owner (spread_of b) (b.first + s)) b.procs hq o.1 g in
          let read = ap (λ k. get_or (set lists (owner (spread_of a) (a.first + s) * b.procs + owner (spread_of b) (b.first + s)) (get_or lists (owner (spread_of a) (a.first + s) * b.procs + owner (spread_of b) (b.first + s)) [] ++ s ∷ [])) k []) g
          ∙ get_or-set_same lists (owner (spread_of a) (a.first + s) * b.procs + owner (spread_of b) (b.first + s)) _ [] inside
          ∙ ap (λ k. get_or lists k [] ++ s ∷ []) (sym g) in
          subst (λ ss. ArePutTo (begins_on a b p q) reach next ss) (sym read) (own p q (one_pair _ _ _ _ (sym parts.0) (sym parts.1)) _ (w.each p q hp hq))
      | inr g ↦
          let read = get_or-set_other lists (owner (spread_of a) (a.first + s) * b.procs + owner (spread_of b) (b.first + s)) (p * b.procs + q) (get_or lists (owner (spread_of a) (a.first + s) * b.procs + owner (spread_of b) (b.first + s)) [] ++ s ∷ []) [] g in
          subst (λ ss. ArePutTo (begins_on a b p q) reach next ss) (sym read) (other p q (two_pairs _ _ _ _ (λ x y. g (ap (λ v. v * b.procs + q) (sym x) ∙ ap (λ v. owner (spread_of a) (a.first + s) * b.procs + v) (sym y)))) _ (w.each p q hp hq))
    ]

-- The same with the owners that the code computed.
pub put_at : (n : ℕ) (a b : Axis) (reach s next x y : ℕ) (lists more : List (List ℕ)) → IsAxis n a → IsAxis n b → s ≤ reach → next ≡ s + stretch a b s → x ≡ owner (spread_of a) (a.first + s) → y ≡ owner (spread_of b) (b.first + s)
    → more ≡ set lists (x * b.procs + y) (get_or lists (x * b.procs + y) [] ++ s ∷ []) → IsPutTo a b reach s lists → IsPutTo a b reach next more
put_at n a b reach s next x y lists more wa wb low f ex ey e w =
    put_more n a b reach s next lists more wa wb low f (subst (λ u. more ≡ set lists (u * b.procs + owner (spread_of b) (b.first + s)) (get_or lists (u * b.procs + owner (spread_of b) (b.first + s)) [] ++ s ∷ [])) ex (subst (λ v. more ≡ set lists (x * b.procs + v) (get_or lists (x * b.procs + v) [] ++ s ∷ [])) ey e)) w

-- All are put out where the next run begins after `reach`.
pub put_done : (a b : Axis) (reach next : ℕ) (lists : List (List ℕ)) → reach < next → IsPutTo a b reach next lists → IsPutOut a b reach lists
put_done a b reach next lists h w = record { count = w.count; each = λ p q hp hq. done (begins_on a b p q) _ (w.each p q hp hq) }
  where
    done : (t : ℕ → Bool) (ss : List ℕ) → ArePutTo t reach next ss → AreSteps t reach ss
    done t ss v = record { count = by_length (length ss) (steps t reach) (let low : steps t reach ≤ steps t (next - 1) = steps_le t reach (next - 1) (omega arith) in let c = v.count in omega arith) reached; each = v.each }
      where
        by_length : (n x : ℕ) → x ≤ n → (0 < n → n ≤ x) → n ≡ x
        by_length n x h f = grind arith

        reached : 0 < length ss → length ss ≤ steps t reach
        reached p =
            let low : length ss - 1 < length ss = omega arith in
            let its : steps t (get_or ss (length ss - 1) 0) ≡ suc (length ss - 1) = (v.each (length ss - 1) low).its_number in
            let top : steps t (get_or ss (length ss - 1) 0) ≤ steps t reach = steps_le t _ reach (v.within (length ss - 1) low) in
            omega arith

-- Empty lists stay empty as one more is made.
pub empty_more : (lists : List (Vec ℕ Global)) (v : Vec ℕ Global) → ((k : ℕ) → get_or (map (λ v. v.items) lists) k [] ≡ []) → v.items ≡ [] → (k : ℕ) → get_or (map (λ v. v.items) (lists ++ v ∷ [])) k [] ≡ []
empty_more [] v f e zero = e
empty_more [] v f e (suc k) = refl
empty_more (w ∷ lists) v f e zero = f zero
empty_more (w ∷ lists) v f e (suc k) = empty_more lists v (λ j. f (suc j)) e k
