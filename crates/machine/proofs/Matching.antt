-- In a common order each receive wants the length of the message that it takes, so on its lists it doesn't matter whether receives look at lengths.
use Rattle.std.proofs.Common.{◌≡◌, ◌≢◌, ℕ, zero, suc, ◌+◌, ◌≤◌, Option, Some, None, List, [], ◌∷◌, ◌++◌, length, slice_get, take, drop, sym, refl, ap, ◌∙◌, arith, inl, inr, append_assoc}
use Rattle.std.proofs.lemmas.Bool.Decides.{eqb_tells}
use Rattle.std.proofs.lemmas.Bool.{cases_lt}
use Rattle.std.proofs.lemmas.List.{append-nil}
use Rattle.machine.specs.declared.kind.Kind.{Kind}
use Rattle.machine.specs.declared.kind.Kind.TheVariants.{Send, Recv, Local}
use Rattle.machine.specs.Queues.{Lens, no_lens, lens_by, lens_with, lens_to, take_count, takes_from, wants_with, wants_from}
use Rattle.machine.specs.Machine.{Lists, Done, free_rules, fitting_rules, any_length, same_length, takes_first, can_next, step, next, sent, taken, queue, can_step, IsRunFrom}
use Rattle.machine.specs.Orders.{own, own_lists, FitsLens, IsOrderFrom, IsOrder, lens_after, AreMatched}
use Rattle.machine.proofs.Pairs.{at_cases}
use Rattle.machine.proofs.Lists.{get_append}
use Rattle.machine.proofs.Waiting.{first_after, sends_more}
use Rattle.machine.proofs.Orders.{own_here, own_else}

-- what waits, and then what is sent, is what is taken, and then what waits at the end
abbrev Balanced : Lens → List (ℕ × Kind) → ℕ → ℕ → Type 0
Balanced q xs i j = q i j ++ lens_to j (own i xs) ≡ wants_from i (own j xs) ++ lens_after xs q i j

sends_none : (k : Kind) (r : ℕ) (xs : List (ℕ × Kind)) (i j : ℕ) → lens_with k j (lens_to j (own i xs)) ≡ lens_to j (own i xs) → lens_to j (own i ((r, k) ∷ xs)) ≡ lens_to j (own i xs)
sends_none k r xs i j e = elim (eqb_tells r i) [
  | inl h ↦ ap (λ l. lens_to j l) (own_here i (r, k) xs h.1) ∙ e
  | inr h ↦ ap (λ l. lens_to j l) (own_else i (r, k) xs h.1)
]

wants_none : (k : Kind) (r : ℕ) (xs : List (ℕ × Kind)) (i j : ℕ) → wants_with k i (wants_from i (own j xs)) ≡ wants_from i (own j xs) → wants_from i (own j ((r, k) ∷ xs)) ≡ wants_from i (own j xs)
wants_none k r xs i j e = elim (eqb_tells r j) [
  | inl h ↦ ap (λ l. wants_from i l) (own_here j (r, k) xs h.1) ∙ e
  | inr h ↦ ap (λ l. wants_from i l) (own_else j (r, k) xs h.1)
]

with_one : (to len j : ℕ) (l : List ℕ) → to ≡ j → lens_with (Send to len) j l ≡ len ∷ l
with_one to len j l e = elim (eqb_tells to j) [ inl h ↦ rw h.0 refl | inr h ↦ absurd (h.1 e) ]

with_none : (to len j : ℕ) (l : List ℕ) → to ≢ j → lens_with (Send to len) j l ≡ l
with_none to len j l n = elim (eqb_tells to j) [ inl h ↦ absurd (n h.1) | inr h ↦ rw h.0 refl ]

want_one : (from len i : ℕ) (l : List ℕ) → from ≡ i → wants_with (Recv from len) i l ≡ len ∷ l
want_one from len i l e = elim (eqb_tells from i) [ inl h ↦ rw h.0 refl | inr h ↦ absurd (h.1 e) ]

want_none : (from len i : ℕ) (l : List ℕ) → from ≢ i → wants_with (Recv from len) i l ≡ l
want_none from len i l n = elim (eqb_tells from i) [ inl h ↦ absurd (n h.1) | inr h ↦ rw h.0 refl ]

-- a list that begins so
begins : (l : List ℕ) (len : ℕ) → slice_get l 0 ≡ Some len → l ≡ len ∷ drop 1 l
begins [] len e = cc
begins (x ∷ l) len e = let h : x ≡ len = cc in ap (λ y. y ∷ l) h

balanced_step : (k : Kind) (r : ℕ) (xs : List (ℕ × Kind)) (q : Lens) (i j : ℕ) → FitsLens k r q → Balanced (lens_by k r q) xs i j → Balanced q ((r, k) ∷ xs) i j
balanced_step (Send to len) r xs q i j fits b =
    let k : Kind = Send to len in
    let wants = wants_none k r xs i j refl in
    elim (at_cases q r to (q r to ++ len ∷ []) i j) [
      | inl h ↦
          let sends : lens_to j (own i ((r, k) ∷ xs)) ≡ lens_to j (own i xs) = elim (eqb_tells r i) [
            | inl e ↦ sends_none k r xs i j (with_none to len j (lens_to j (own i xs)) (elim h.1 [ inl n ↦ absurd (n (sym e.1)) | inr n ↦ (λ s. n (sym s)) ]))
            | inr e ↦ ap (λ l. lens_to j l) (own_else i (r, k) xs e.1)
          ] in
          ap (λ l. q i j ++ l) sends ∙ (ap (λ l. l ++ lens_to j (own i xs)) (sym h.0) ∙ (b ∙ ap (λ l. l ++ lens_after xs (lens_by k r q) i j) (sym wants)))
      | inr h ↦
          let sends : lens_to j (own i ((r, k) ∷ xs)) ≡ len ∷ lens_to j (own i xs) = ap (λ l. lens_to j l) (own_here i (r, k) xs (sym h.0)) ∙ with_one to len j (lens_to j (own i xs)) (sym h.1) in
          let here : q r to ≡ q i j = ap (λ a. q a to) (sym h.0) ∙ ap (λ c. q i c) (sym h.1) in
          ap (λ l. q i j ++ l) sends
          ∙ (sym (append_assoc (q i j) (len ∷ []) (lens_to j (own i xs)))
          ∙ (ap (λ l. (l ++ len ∷ []) ++ lens_to j (own i xs)) (sym here)
          ∙ (ap (λ l. l ++ lens_to j (own i xs)) (sym h.2)
          ∙ (b ∙ ap (λ l. l ++ lens_after xs (lens_by k r q) i j) (sym wants)))))
    ]
balanced_step (Recv from len) r xs q i j fits b =
    let k : Kind = Recv from len in
    let sends = sends_none k r xs i j refl in
    elim (at_cases q from r (drop 1 (q from r)) i j) [
      | inl h ↦
          let wants : wants_from i (own j ((r, k) ∷ xs)) ≡ wants_from i (own j xs) = elim (eqb_tells r j) [
            | inl e ↦ wants_none k r xs i j (want_none from len i (wants_from i (own j xs)) (elim h.1 [ inl n ↦ (λ s. n (sym s)) | inr n ↦ absurd (n (sym e.1)) ]))
            | inr e ↦ ap (λ l. wants_from i l) (own_else j (r, k) xs e.1)
          ] in
          ap (λ l. q i j ++ l) sends ∙ (ap (λ l. l ++ lens_to j (own i xs)) (sym h.0) ∙ (b ∙ ap (λ l. l ++ lens_after xs (lens_by k r q) i j) (sym wants)))
      | inr h ↦
          let wants : wants_from i (own j ((r, k) ∷ xs)) ≡ len ∷ wants_from i (own j xs) = ap (λ l. wants_from i l) (own_here j (r, k) xs (sym h.1)) ∙ want_one from len i (wants_from i (own j xs)) (sym h.0) in
          let here : q i j ≡ q from r = ap (λ a. q a j) h.0 ∙ ap (λ c. q from c) h.1 in
          ap (λ l. q i j ++ l) sends
          ∙ (ap (λ l. l ++ lens_to j (own i xs)) (here ∙ begins (q from r) len fits)
          ∙ (ap (λ l. (len ∷ l) ++ lens_to j (own i xs)) (sym h.2)
          ∙ (ap (λ l. len ∷ l) b ∙ ap (λ l. l ++ lens_after xs (lens_by k r q) i j) (sym wants))))
    ]
balanced_step Local r xs q i j fits b =
    ap (λ l. q i j ++ l) (sends_none Local r xs i j refl) ∙ (b ∙ ap (λ l. l ++ lens_after xs q i j) (sym (wants_none Local r xs i j refl)))

balanced : (xs : List (ℕ × Kind)) (q : Lens) → IsOrderFrom xs q → (i j : ℕ) → Balanced q xs i j
balanced [] q order i j = append-nil (q i j)
balanced (x ∷ xs) q order i j = balanced_step x.1 x.0 xs q i j order.0 (balanced xs (lens_by x.1 x.0 q) order.1 i j)

-- the lists of a common order match
pub order_matched : (order : List (ℕ × Kind)) → IsOrder order → AreMatched (own_lists order)
order_matched order can i j = (lens_after order no_lens i j, balanced order no_lens can i j)

-- the length that a receive wants is the next of those wanted
wants_here : (i : ℕ) (ks : List Kind) (n len : ℕ) → slice_get ks n ≡ Some (Recv i len) → slice_get (wants_from i ks) (takes_from i (take n ks)) ≡ Some len
wants_here i [] n len e = cc
wants_here i (k ∷ ks) zero len e =
    let same : k ≡ Recv i len = cc in
    ap (λ (z : Kind). slice_get (wants_with z i (wants_from i ks)) 0) same ∙ ap (λ l. slice_get l 0) (want_one i len i (wants_from i ks) refl)
wants_here i (k ∷ ks) (suc n) len e = later k (wants_from i ks) (takes_from i (take n ks)) (wants_here i ks n len e)
  where
    later : (k : Kind) (l : List ℕ) (m : ℕ) → slice_get l m ≡ Some len → slice_get (wants_with k i l) (take_count k i + m) ≡ Some len
    later (Send to x) l m f = let z : 0 + m ≡ m = omega arith in ap (λ c. slice_get l c) z ∙ f
    later (Recv from x) l m f = elim (eqb_tells from i) [
      | inl h ↦ (let z : 1 + m ≡ suc m = omega arith in rw h.0 (ap (λ c. slice_get (x ∷ l) c) z ∙ f))
      | inr h ↦ (let z : 0 + m ≡ m = omega arith in rw h.0 (ap (λ c. slice_get l c) z ∙ f))
    ]
    later Local l m f = let z : 0 + m ≡ m = omega arith in ap (λ c. slice_get l c) z ∙ f

module _ (lists : Lists) (matched : AreMatched lists) where
  -- in every state the first message that waits has the length that the receive wants
  pub fits_always : (d : Done) (r from len have : ℕ) → next lists d r ≡ Some (Recv from len) → slice_get (queue lists d from r) 0 ≡ Some have → have ≡ len
  fits_always d r from len have here first =
      let n : ℕ = taken lists d from r in
      let m = matched from r in
      let more = sends_all r (lists from) (d from) in
      let wanted : slice_get (lens_to r (lists from)) n ≡ Some len = ap (λ l. slice_get l n) m.1 ∙ get_append (wants_from from (lists r)) m.0 n len (wants_here from (lists r) (d r) len here) in
      let found : slice_get (lens_to r (lists from)) n ≡ Some have = ap (λ l. slice_get l n) more.1 ∙ get_append (sent lists d from r) more.0 n have (sym (first_after n (sent lists d from r)) ∙ first) in
      let same : Some have ≡ Some len = sym found ∙ wanted in
      cc
    where
      sends_all : (j : ℕ) (ks : List Kind) (n : ℕ) → (more : List ℕ) × (lens_to j ks ≡ lens_to j (take n ks) ++ more)
      sends_all j ks n = elim (cases_lt n (length ks)) [
        | inl low ↦ (let s = sends_more j ks n (length ks) (omega arith) in (s.0, ap (λ l. lens_to j l) (sym (take_past ks (length ks) (omega arith))) ∙ s.1))
        | inr high ↦ ([], ap (λ l. lens_to j l) (sym (take_past ks n high)) ∙ sym (append-nil (lens_to j (take n ks))))
      ]
        where
          take_past : (xs : List Kind) (m : ℕ) → length xs ≤ m → take m xs ≡ xs
          take_past [] zero h = refl
          take_past [] (suc m) h = refl
          take_past (x ∷ xs) zero h = absurd (omega arith)
          take_past (x ∷ xs) (suc m) h = ap (λ l. x ∷ l) (take_past xs m (omega arith))

  -- so it doesn't matter whether receives look at lengths
  pub rules_alike : (d : Done) (r : ℕ) → can_step lists free_rules d r ≡ can_step lists fitting_rules d r
  rules_alike d r = by (next lists d r) refl
    where
      first : (m : Option ℕ) (len : ℕ) → ((have : ℕ) → m ≡ Some have → have ≡ len) → takes_first any_length m len ≡ takes_first same_length m len
      first None len h = refl
      first (Some have) len h = elim (eqb_tells have len) [ inl t ↦ sym t.0 | inr t ↦ absurd (t.1 (h have refl)) ]

      by : (m : Option Kind) → next lists d r ≡ m → can_step lists free_rules d r ≡ can_step lists fitting_rules d r
      by None e = ap (λ m. can_next free_rules m r (queue lists d)) e ∙ sym (ap (λ m. can_next fitting_rules m r (queue lists d)) e)
      by (Some (Send to len)) e = ap (λ m. can_next free_rules m r (queue lists d)) e ∙ sym (ap (λ m. can_next fitting_rules m r (queue lists d)) e)
      by (Some (Recv from len)) e =
          ap (λ m. can_next free_rules m r (queue lists d)) e
          ∙ (first (slice_get (queue lists d from r) 0) len (λ have f. fits_always d r from len have e f) ∙ sym (ap (λ m. can_next fitting_rules m r (queue lists d)) e))
      by (Some Local) e = ap (λ m. can_next free_rules m r (queue lists d)) e ∙ sym (ap (λ m. can_next fitting_rules m r (queue lists d)) e)
