-- The run that begins at an index is the greatest one there.
use Rattle.std.proofs.Common.{◌≡◌, ℕ, ◌+◌, ◌-◌, ◌<◌, ◌≤◌, min, List, [], ◌∷◌, ◌++◌, refl, sym, ap, ◌∙◌, subst, arith}
use Rattle.block_meet.specs.declared.axis.Axis.{Axis}
use Rattle.block_meet.specs.declared.axis.Run.{Run}
use Rattle.block_meet.specs.Runs.{block_at, AreTogether, IsRun, AreRunsFrom}
use Rattle.block_meet.specs.Stretch.{left, stretch, run_from}
use Rattle.block_meet.proofs.Blocks.{block_le, left_some, left_stays, left_ends}

-- No index before s is together with it: a run begins at s.
pub record IsStart (a b : Axis) (s : ℕ) : Type 0 where
  pub apart : (i : ℕ) → i < s → AreTogether a b i s → ⊥

pub start_zero : (a b : Axis) → IsStart a b 0
start_zero a b = record { apart = λ i h t. omega arith }

-- Within the stretch all are together with its first.
pub stretch_together : (a b : Axis) (s i : ℕ) → 0 < a.nb → 0 < b.nb → s ≤ i → i < s + stretch a b s → AreTogether a b s i
stretch_together a b s i ha hb low high = (sym (left_stays a s i ha low (omega arith)), sym (left_stays b s i hb low (omega arith)))

-- After the stretch a block of A or a block of B has changed.
pub past_stretch : (a b : Axis) (s i : ℕ) → 0 < a.nb → 0 < b.nb → s + stretch a b s ≤ i → AreTogether a b s i → ⊥
past_stretch a b s i ha hb h t =
    let ea : block_at a (s + left a s) ≡ block_at a s + 1 = left_ends a s ha in
    let eb : block_at b (s + left b s) ≡ block_at b s + 1 = left_ends b s hb in
    let la : s + left a s ≤ i → block_at a (s + left a s) ≤ block_at a i = λ (l : s + left a s ≤ i). block_le a (s + left a s) i ha l in
    let lb : s + left b s ≤ i → block_at b (s + left b s) ≤ block_at b i = λ (l : s + left b s ≤ i). block_le b (s + left b s) i hb l in
    apart (left a s) (left b s) s i (block_at a s) (block_at b s) _ _ _ _ h t.0 t.1 ea eb la lb
  where
    apart : (x y s i p q pi qi pe qe : ℕ) → s + min x y ≤ i → p ≡ pi → q ≡ qi → pe ≡ p + 1 → qe ≡ q + 1 → (s + x ≤ i → pe ≤ pi) → (s + y ≤ i → qe ≤ qi) → ⊥
    apart x y s i p q pi qi pe qe h e f g k u v = grind arith

-- The run at a start is a greatest run.
pub run_at_start : (n : ℕ) (a b : Axis) (s : ℕ) → 0 < a.nb → 0 < b.nb → s < n → IsStart a b s → IsRun n a b (run_from n a b s)
run_at_start n a b s ha hb h f =
    let xa : 0 < left a s = left_some a s ha in
    let xb : 0 < left b s = left_some b s hb in
    record {
      some = omega arith;
      inside = omega arith;
      members = λ i hi. (λ w. stretch_together a b s i ha hb w.0 (upper n s (left a s) (left b s) i w.1), λ t. (from_start i t, before_end i hi t));
      owner_a = refl;
      owner_b = refl;
      local_a = refl;
      local_b = refl;
    }
  where
    upper : (n s x y i : ℕ) → i < s + min (min (n - s) x) y → i < s + min x y
    upper n s x y i h = omega arith

    from_start : (i : ℕ) → AreTogether a b s i → s ≤ i
    from_start i t = by_order s i (λ o. f.apart i o (sym t.0, sym t.1))
      where
        by_order : (s i : ℕ) → (i < s → ⊥) → s ≤ i
        by_order s i k = grind arith

    before_end : (i : ℕ) → i < n → AreTogether a b s i → i < s + min (min (n - s) (left a s)) (left b s)
    before_end i hi t = by_order s i n (left a s) (left b s) h hi (λ o. past_stretch a b s i ha hb o t)
      where
        by_order : (s i n x y : ℕ) → s < n → i < n → (s + min x y ≤ i → ⊥) → i < s + min (min (n - s) x) y
        by_order s i n x y h hi k = grind arith

-- The next run begins after the stretch.
pub next_start : (a b : Axis) (s : ℕ) → 0 < a.nb → 0 < b.nb → IsStart a b (s + stretch a b s)
next_start a b s ha hb = record { apart = λ i h t. between i h t }
  where
    back : (i : ℕ) → i < s + stretch a b s → AreTogether a b i (s + stretch a b s) → AreTogether a b s (s + stretch a b s)
    back i h t =
        let e : s + stretch a b s ≡ s + stretch a b s = refl in
        let sa : s ≤ i → block_at a i ≡ block_at a s = λ (l : s ≤ i). left_stays a s i ha l (omega arith) in
        let sb : s ≤ i → block_at b i ≡ block_at b s = λ (l : s ≤ i). left_stays b s i hb l (omega arith) in
        let la : i ≤ s → block_at a i ≤ block_at a s = λ (l : i ≤ s). block_le a i s ha l in
        let lb : i ≤ s → block_at b i ≤ block_at b s = λ (l : i ≤ s). block_le b i s hb l in
        let ma : block_at a s ≤ block_at a (s + stretch a b s) = block_le a s (s + stretch a b s) ha (omega arith) in
        let mb : block_at b s ≤ block_at b (s + stretch a b s) = block_le b s (s + stretch a b s) hb (omega arith) in
        (same i s _ _ _ t.0 sa la ma, same i s _ _ _ t.1 sb lb mb)
      where
        same : (i s pi ps pe : ℕ) → pi ≡ pe → (s ≤ i → pi ≡ ps) → (i ≤ s → pi ≤ ps) → ps ≤ pe → ps ≡ pe
        same i s pi ps pe e f g h = grind arith

    between : (i : ℕ) → i < s + stretch a b s → AreTogether a b i (s + stretch a b s) → ⊥
    between i h t = past_stretch a b s (s + stretch a b s) ha hb (omega arith) (back i h t)

-- One run more, after those that are there.
pub runs_more : (n : ℕ) (a b : Axis) (from to next : ℕ) (rs : List Run) (r : Run) → AreRunsFrom n a b from to rs → r.start ≡ to → IsRun n a b r → next ≡ to + r.len → AreRunsFrom n a b from next (rs ++ r ∷ [])
runs_more n a b from to next [] r h e w f = (e ∙ sym h, w, ap (λ x. x + r.len) h ∙ sym f)
runs_more n a b from to next (x ∷ rs) r h e w f = (h.0, h.1, runs_more n a b (from + x.len) to next rs r h.2 e w f)

-- The same for the run that the code computed.
pub run_is : (n : ℕ) (a b : Axis) (s : ℕ) (r : Run) → 0 < a.nb → 0 < b.nb → s < n → IsStart a b s → r ≡ run_from n a b s → IsRun n a b r
run_is n a b s r ha hb h f e = subst (λ x. IsRun n a b x) (sym e) (run_at_start n a b s ha hb h f)

-- Where indices are left after a run, the next run begins there.
pub start_after : (n : ℕ) (a b : Axis) (s : ℕ) (r : Run) → 0 < a.nb → 0 < b.nb → r ≡ run_from n a b s → s + r.len < n → IsStart a b (s + r.len)
start_after n a b s r ha hb e h =
    let len : r.len ≡ min (min (n - s) (left a s)) (left b s) = ap (λ (x : Run). x.len) e in
    let whole : s + stretch a b s ≡ s + r.len = omega arith in
    subst (λ x. IsStart a b x) whole (next_start a b s ha hb)
