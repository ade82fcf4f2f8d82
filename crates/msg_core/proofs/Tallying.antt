-- Counting along a plan.
use Rattle.std.proofs.Common.{◌≡◌, ℕ, zero, suc, ◌+◌, ◌*◌, ◌<◌, max, Bool, cond, Some, inl, inr, List, [], ◌∷◌, ◌++◌, length, slice_get, get_or, set, take, drop, sym, refl, ap, ◌∙◌, subst, arith, add-one, length-append}
use Rattle.std.proofs.lemmas.Option.{slice_get-get_or, get_or_from_slice_get}
use Rattle.std.proofs.lemmas.Bool.{lt-ltb}
use Rattle.std.proofs.lemmas.List.{append-nil}
use Rattle.std.specs.Prelude.{nat_lt}
use Rattle.machine.specs.declared.kind.Kind.TheVariants.{Send, Recv, Local}
use Rattle.machine.specs.Changes.{at_pair}
use Rattle.machine.specs.Queues.{Lens, no_lens, lens_by}
use Rattle.machine.specs.Orders.{FitsLens, messages_by, messages_of, occupancy}
use Rattle.machine.proofs.Longer.{most_end, messages_end}
use Rattle.msg_core.specs.declared.node.Step.{Ghosts as StepOf}
use Rattle.msg_core.specs.declared.tally.Tally.{Tally}
use Rattle.msg_core.specs.Kinds.{kinds_of}
use Rattle.msg_core.specs.Plans.{IsInOrder, lens_of}
use Rattle.msg_core.specs.Tallies.{IsTally, AreTallies, AllZero, most_by}
use Rattle.msg_core.specs.PairRows.{rows_to, rows_from}
use Rattle.msg_core.proofs.KindLists.{kinds_end, lens_kinds}
use Rattle.msg_core.proofs.Pairs.{at_cases, at_else, at_here}
use Rattle.msg_core.proofs.Lists.{within_get, get_set_same, get_set_other, take_at}
use Rattle.msg_core.proofs.Linked.{other_pair}
use Rattle.msg_core.proofs.Staging.{take_past}

pub zero_end : (ts : List Tally) (t : Tally) → AllZero ts → t.sent ≡ 0 → t.waits ≡ 0 → t.most ≡ 0 → AllZero (ts ++ t ∷ [])
zero_end [] t all s w m = (record { sent_is = s; waits_is = w; most_is = m; below = omega arith; within = omega arith; few = omega arith }, tt)
zero_end (x ∷ ts) t all s w m = (all.0, zero_end ts t all.1 s w m)

zero_at : (ts : List Tally) (k : ℕ) → AllZero ts → k < length ts → (t : Tally) × (slice_get ts k ≡ Some t) × IsTally t 0 0 0 0
zero_at [] k all h = absurd (omega arith)
zero_at (t ∷ ts) zero all h = (t, refl, all.0)
zero_at (t ∷ ts) (suc k) all h = zero_at ts k all.1 (omega arith)

pub all_zero : (ts : List Tally) → AllZero ts → length ts ≡ 4096 → AreTallies ts 0 (messages_of []) no_lens (occupancy [])
all_zero ts all long = record { pairs = λ i j hi hj. zero_at ts (i * 64 + j) all (omega arith) }

pub tally_within : (all : List Tally) (n : ℕ) (m : ℕ → ℕ → ℕ) (q : Lens) (o : ℕ → ℕ → ℕ) (a b : ℕ) → a < 64 → b < 64 → AreTallies all n m q o → a * 64 + b < length all
tally_within all n m q o a b ha hb w = let old = w.pairs a b ha hb in within_get all (a * 64 + b) old.0 old.1

-- the counts that are read are the pair's
pub tally_read : (all : List Tally) (n : ℕ) (m : ℕ → ℕ → ℕ) (q : Lens) (o : ℕ → ℕ → ℕ) (a b : ℕ) (d t : Tally) → a < 64 → b < 64 → AreTallies all n m q o → t ≡ get_or all (a * 64 + b) d → IsTally t n (m a b) (length (q a b)) (o a b)
tally_read all n m q o a b d t ha hb w is =
    let old = w.pairs a b ha hb in
    let same : t ≡ old.0 = is ∙ get_or_from_slice_get all (a * 64 + b) old.0 d old.1 in
    subst (λ (e : Tally). IsTally e n (m a b) (length (q a b)) (o a b)) (sym same) old.2

-- counts that stay
keeps : (t : Tally) (n m w o : ℕ) → IsTally t n m w o → IsTally t (n + 1) m w (max o w)
keeps t n m w o h = (let b = h.below in let f = h.few in let x = h.most_is in let i = h.within in record { sent_is = h.sent_is; waits_is = h.waits_is; most_is = omega (arith, x, b); below = omega arith; within = omega (arith, b, i); few = omega (arith, f) })

tally_same : (t : Tally) (n m w o m' w' o' : ℕ) → m ≡ m' → w ≡ w' → o ≡ o' → IsTally t n m w o → IsTally t n m' w' o'
tally_same t n m w o m' w' o' a b c h = (let s = h.sent_is in let x = h.waits_is in let y = h.most_is in let l = h.below in let i = h.within in let f = h.few in record { sent_is = omega (arith, s, a); waits_is = omega (arith, x, b); most_is = omega (arith, y, c); below = omega (arith, l, b, c); within = omega (arith, i, a, c); few = omega (arith, f, a) })

-- a local operation changes no count
pub tally_local : (all : List Tally) (n : ℕ) (r : ℕ) (m : ℕ → ℕ → ℕ) (q : Lens) (o : ℕ → ℕ → ℕ) → AreTallies all n m q o → AreTallies all (n + 1) (messages_by Local r m) (lens_by Local r q) (most_by Local r q o)
tally_local all n r m q o w = record { pairs = λ i j hi hj. let old = w.pairs i j hi hj in (old.0, old.1, keeps old.0 n (m i j) (length (q i j)) (o i j) old.2) }

-- a send changes its pair's
pub tally_sent : (all : List Tally) (n r to len : ℕ) (m : ℕ → ℕ → ℕ) (q : Lens) (o : ℕ → ℕ → ℕ) (t : Tally) → r < 64 → to < 64 → AreTallies all n m q o → IsTally t (n + 1) (m r to + 1) (length (q r to) + 1) (max (o r to) (length (q r to) + 1))
    → AreTallies (set all (r * 64 + to) t) (n + 1) (messages_by (Send to len) r m) (lens_by (Send to len) r q) (most_by (Send to len) r q o)
tally_sent all n r to len m q o t hr ht w here = record {
  pairs = λ i j hi hj. elim (at_cases m r to (m r to + 1) i j) [
    | inl h ↦
        let old = w.pairs i j hi hj in
        let line = at_else q r to (q r to ++ len ∷ []) i j h.1 in (
          old.0,
          get_set_other all (r * 64 + to) (i * 64 + j) t (other_pair i j r to hi hj hr ht h.1) ∙ old.1,
          tally_same old.0 (n + 1) (m i j) (length (q i j)) (max (o i j) (length (q i j))) _ _ _ (sym h.0) (ap length (sym line)) (ap (λ l. max (o i j) (length l)) (sym line)) (keeps old.0 n (m i j) (length (q i j)) (o i j) old.2),
        )
    | inr h ↦
        let old = w.pairs r to hr ht in
        let place : i * 64 + j ≡ r * 64 + to = omega (arith, h.0, h.1) in
        let line : at_pair q r to (q r to ++ len ∷ []) i j ≡ q r to ++ len ∷ [] = ap (λ a. at_pair q r to (q r to ++ len ∷ []) a j) h.0 ∙ (ap (λ b. at_pair q r to (q r to ++ len ∷ []) r b) h.1 ∙ at_here q r to (q r to ++ len ∷ [])) in
        let long : length (q r to) + 1 ≡ length (at_pair q r to (q r to ++ len ∷ []) i j) = (let l = length-append (q r to) (len ∷ []) in let k = ap length line in omega (arith, l, k)) in
        let most : o r to ≡ o i j = ap (λ a. o a to) (sym h.0) ∙ ap (λ b. o i b) (sym h.1) in (
          t,
          ap (λ k. slice_get (set all (r * 64 + to) t) k) place ∙ get_set_same all (r * 64 + to) old.0 t old.1,
          tally_same t (n + 1) (m r to + 1) (length (q r to) + 1) (max (o r to) (length (q r to) + 1)) _ _ _ (sym h.2) long (ap (λ a. max a (length (q r to) + 1)) most ∙ ap (λ b. max (o i j) b) long) here,
        )
  ];
}

-- a receive finds a message
pub fits_some : (r from len : ℕ) (q : Lens) → FitsLens (Recv from len) r q → length (q from r) ≡ length (drop 1 (q from r)) + 1
fits_some r from len q fits = some (q from r) fits
  where
    some : (l : List ℕ) → slice_get l 0 ≡ Some len → length l ≡ length (drop 1 l) + 1
    some [] e = cc
    some (x ∷ l) e = omega arith

-- and takes it from its pair's
pub tally_taken : (all : List Tally) (n r from len : ℕ) (m : ℕ → ℕ → ℕ) (q : Lens) (o : ℕ → ℕ → ℕ) (t : Tally) → r < 64 → from < 64 → AreTallies all n m q o → IsTally t (n + 1) (m from r) (length (drop 1 (q from r))) (o from r)
    → AreTallies (set all (from * 64 + r) t) (n + 1) (messages_by (Recv from len) r m) (lens_by (Recv from len) r q) (most_by (Recv from len) r q o)
tally_taken all n r from len m q o t hr hf w here = record {
  pairs = λ i j hi hj. elim (at_cases q from r (drop 1 (q from r)) i j) [
    | inl h ↦
        let old = w.pairs i j hi hj in (
          old.0,
          get_set_other all (from * 64 + r) (i * 64 + j) t (other_pair i j from r hi hj hf hr h.1) ∙ old.1,
          tally_same old.0 (n + 1) (m i j) (length (q i j)) (max (o i j) (length (q i j))) _ _ _ refl (ap length (sym h.0)) (ap (λ l. max (o i j) (length l)) (sym h.0)) (keeps old.0 n (m i j) (length (q i j)) (o i j) old.2),
        )
    | inr h ↦
        let old = w.pairs from r hf hr in
        let place : i * 64 + j ≡ from * 64 + r = omega (arith, h.0, h.1) in
        let some : m from r ≡ m i j = ap (λ a. m a r) (sym h.0) ∙ ap (λ b. m i b) (sym h.1) in
        let most : o from r ≡ o i j = ap (λ a. o a r) (sym h.0) ∙ ap (λ b. o i b) (sym h.1) in
        let low = here.below in (
          t,
          ap (λ k. slice_get (set all (from * 64 + r) t) k) place ∙ get_set_same all (from * 64 + r) old.0 t old.1,
          tally_same t (n + 1) (m from r) (length (drop 1 (q from r))) (o from r) _ _ _ some (ap length (sym h.2)) (let l = ap length h.2 in omega (arith, most, low, l)) here,
        )
  ];
}

module _ {Op : Type 0} (t : StepOf Op) where
  lens_end : (xs : List (ℕ × Op)) (x : ℕ × Op) (q : Lens) → lens_of t (xs ++ x ∷ []) q ≡ lens_by (t.kind_of x.1) x.0 (lens_of t xs q)
  lens_end [] x q = refl
  lens_end (y ∷ xs) x q = lens_end xs x (lens_by (t.kind_of y.1) y.0 q)

  -- an operation of a plan fits what waits before it
  pub fits_at : (xs : List (ℕ × Op)) (q : Lens) (k : ℕ) (x : ℕ × Op) → IsInOrder t xs q → slice_get xs k ≡ Some x → FitsLens (t.kind_of x.1) x.0 (lens_of t (take k xs) q)
  fits_at [] q k x order e = cc
  fits_at (y ∷ xs) q zero x order e = let same : y ≡ x = cc in subst (λ (z : ℕ × Op). FitsLens (t.kind_of z.1) z.0 q) same order.0
  fits_at (y ∷ xs) q (suc k) x order e = fits_at xs (lens_by (t.kind_of y.1) y.0 q) k x order.1 e

  -- the counts after the first k operations
  abbrev pub Counted : List Tally → ℕ → List (ℕ × Op) → Type 0
  Counted all n steps = AreTallies all n (messages_of (kinds_of t steps)) (lens_of t steps no_lens) (occupancy (kinds_of t steps))

  pub counted_fits : (steps : List (ℕ × Op)) (k : ℕ) (x : ℕ × Op) → IsInOrder t steps no_lens → x ≡ get_or steps k x → k < length steps → FitsLens (t.kind_of x.1) x.0 (lens_of t (take k steps) no_lens)
  counted_fits steps k x order is h = fits_at steps no_lens k x order (slice_get-get_or steps k x h ∙ ap (λ y. Some y) (sym is))

  pub counted_step : (all : List Tally) (steps : List (ℕ × Op)) (k : ℕ) (x : ℕ × Op) → x ≡ get_or steps k x → k < length steps
      → AreTallies all (k + 1) (messages_by (t.kind_of x.1) x.0 (messages_of (kinds_of t (take k steps)))) (lens_by (t.kind_of x.1) x.0 (lens_of t (take k steps) no_lens)) (most_by (t.kind_of x.1) x.0 (lens_of t (take k steps) no_lens) (occupancy (kinds_of t (take k steps))))
      → Counted all (k + 1) (take (k + 1) steps)
  counted_step all steps k x is h w =
      let front : List (ℕ × Op) = take k steps in
      let more : take (k + 1) steps ≡ front ++ x ∷ [] = ap (λ n. take n steps) (add-one k) ∙ take_at steps k x (slice_get-get_or steps k x h ∙ ap (λ y. Some y) (sym is)) in
      let kinds : kinds_of t (take (k + 1) steps) ≡ kinds_of t front ++ (x.0, t.kind_of x.1) ∷ [] = ap (λ l. kinds_of t l) more ∙ kinds_end t front x in
      record {
        pairs = λ i j hi hj.
            let old = w.pairs i j hi hj in (
              old.0,
              old.1,
              tally_same old.0 (k + 1) _ _ _ _ _ _
                  (sym (ap (λ ks. messages_of ks i j) kinds ∙ messages_end (kinds_of t front) (x.0, t.kind_of x.1) i j))
                  (sym (ap (λ l. length (lens_of t l no_lens i j)) more ∙ ap (λ (q : Lens). length (q i j)) (lens_end front x no_lens)))
                  (sym (ap (λ ks. occupancy ks i j) kinds ∙ (most_end (kinds_of t front) (x.0, t.kind_of x.1) no_lens i j ∙ ap (λ (q : Lens). max (occupancy (kinds_of t front) i j) (length (lens_by (t.kind_of x.1) x.0 q i j))) (sym (lens_kinds t front no_lens)))))
                  old.2,
            );
      }

  pub counted_all : (all : List Tally) (steps : List (ℕ × Op)) (k : ℕ) → length steps ≡ k → Counted all k (take k steps) → Counted all (length steps) steps
  counted_all all steps k h w = subst (λ (n : ℕ). Counted all n steps) (sym h) (subst (λ (ys : List (ℕ × Op)). Counted all k ys) (take_past t k steps (omega (arith, h))) w)

-- a table with one pair more
pub row_some : (m f : ℕ → ℕ → ℕ) (from to : ℕ) → 0 < m from to → rows_to m f from (to + 1) ≡ rows_to m f from to ++ (from, to, f from to) ∷ []
row_some m f from to h = ap (λ n. rows_to m f from n) (add-one to) ∙ ap (λ (b : Bool). rows_to m f from to ++ cond b ((from, to, f from to) ∷ []) []) (lt-ltb 0 (m from to) h)

pub row_none : (m f : ℕ → ℕ → ℕ) (from to : ℕ) → m from to ≡ 0 → rows_to m f from (to + 1) ≡ rows_to m f from to
row_none m f from to h =
    ap (λ n. rows_to m f from n) (add-one to)
    ∙ (ap (λ (n : ℕ). rows_to m f from to ++ cond (nat_lt 0 n) ((from, to, f from to) ∷ []) []) h ∙ append-nil (rows_to m f from to))

pub rows_more : (m f : ℕ → ℕ → ℕ) (ranks from : ℕ) → rows_from m f ranks (from + 1) ≡ rows_from m f ranks from ++ rows_to m f from ranks
rows_more m f ranks from = ap (λ n. rows_from m f ranks n) (add-one from)
