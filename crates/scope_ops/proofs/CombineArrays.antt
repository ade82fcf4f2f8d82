-- The arrays of a combine serve where no cause was found.
use Rattle.std.specs.Prelude.{◌≡◌, ◌≢◌, ℕ, ◌+◌, ◌-◌, ◌<◌, ◌≤◌, Bool, true, false, cond, not, ◌&&◌, ◌||◌, nat_eq, nat_le, nat_lt, Option, Some, None, Result, Ok, Err, MatchOption, OnOk, List, length, slice_index}
use Rattle.std.specs.Option.{option_or}
use Rattle.std.proofs.Common.{sym, ◌∙◌, refl, subst, inl, inr, arith}
use Rattle.std.proofs.lemmas.Bool.Decides.{nat_tests, eqb_tells}
use Rattle.proc_grid.proofs.FirstLemmas.{first_of-each}
use Rattle.pack_words.specs.GridShapes.{ShapesView, IsShapes, shape_of}
use Rattle.scope_ops.specs.declared.part.Part.{Part}
use Rattle.scope_ops.specs.declared.scope_err.ScopeErr.{ScopeErr}
use Rattle.scope_ops.specs.declared.scope_err.ScopeErr.TheVariants.{SameArray, OutOfArray, BadRcLead}
use Rattle.scope_ops.specs.Parts.{fits}
use Rattle.scope_ops.specs.Scopes.{all_below}
use Rattle.scope_ops.specs.Combines.{corner_part}
use Rattle.scope_ops.specs.CombineOps.{AllFitPart, RcFit, AreThere}
use Rattle.scope_ops.specs.CombineRefusals.{same_arrays, has_columns, is_in_arrays, low_lead, lead_fault, first_lead, arrays_fault}
use Rattle.scope_ops.proofs.Below.{below_all}
use Rattle.scope_ops.proofs.Calls.{is_size}

both : (a b : Bool) → (a && b) ≡ true → (a ≡ true) × (b ≡ true)
both true true h = (refl, refl)
both true false h = cc
both false b h = cc

none_of : (a b c : Bool) → (a || b || c) ≡ false → (a ≡ false) × (b ≡ false) × (c ≡ false)
none_of true b c h = cc
none_of false true c h = cc
none_of false false true h = cc
none_of false false false h = (refl, refl, refl)

apart : (a b : ℕ) → nat_eq a b ≡ false → a ≢ b
apart a b e same = elim (eqb_tells a b) [ inl h ↦ let x : true ≡ false = sym h.0 ∙ e in (cc) | inr h ↦ h.1 same ]

none_both : (o q : Option ScopeErr) → option_or o q ≡ None → (o ≡ None) × (q ≡ None)
none_both None q h = (refl, h)
none_both (Some e) q h = cc

high_lead : (lead rows : ℕ) → low_lead lead rows ≡ None → rows ≤ lead
high_lead lead rows h = at (nat_lt lead rows) refl h
  where
    at : (b : Bool) → nat_lt lead rows ≡ b → cond b (Some (BadRcLead lead rows)) None ≡ None → rows ≤ lead
    at true e g = cc
    at false e g = grind (arith, nat_tests)

at_most : (a b : ℕ) → nat_le a b ≡ true → a ≤ b
at_most a b h = grind (arith, nat_tests)

corner_fits : (size : ℕ × ℕ) (array : ℕ) (part : Part) → part.m ≤ size.0 → part.n ≤ size.1 → fits size (corner_part array part) ≡ true
corner_fits size array part rows columns = four (nat_le 1 1) (nat_le 1 1) (nat_le (1 - 1 + part.m) size.0) (nat_le (1 - 1 + part.n) size.1) refl refl (low (1 - 1 + part.m) size.0 (omega arith)) (low (1 - 1 + part.n) size.1 (omega arith))
  where
    low : (a b : ℕ) → a ≤ b → nat_le a b ≡ true
    low a b h = grind (arith, nat_tests)

    four : (a b c d : Bool) → a ≡ true → b ≡ true → c ≡ true → d ≡ true → (a && b && c && d) ≡ true
    four true true true true p q r s = refl
    four true true true false p q r s = cc
    four true true false d p q r s = cc
    four true false c d p q r s = cc
    four false b c d p q r s = cc

part_there : (v : ShapesView) (part : Part) (rc : Option (ℕ × ℕ)) → AreThere v part rc → part.array < v.count
part_there v part None there = there
part_there v part (Some rc) there = there.0

module _ (v : ShapesView) (members : List ℕ) (part : Part) (shapes : IsShapes v) (within : (k : ℕ) → k < length members → slice_index members k < v.ranks) where
  pub part_fits : (rc : Option (ℕ × ℕ)) → AreThere v part rc → all_below (is_in_arrays v members part rc) (length members) ≡ true → AllFitPart v members part
  part_fits rc there all = record {
    array = part_there v part rc there;
    each = λ k lt. record {
      size_is = is_size v (slice_index members k) part.array shapes (within k lt) (part_there v part rc there);
      fits_is = (both (fits (shape_of v (slice_index members k) part.array) part) (has_columns v (slice_index members k) part rc) (below_all (is_in_arrays v members part rc) (length members) k lt all)).0;
    };
  }

  corner : (array : ℕ) → array < v.count → ((k : ℕ) → k < length members → part.m ≤ (shape_of v (slice_index members k) array).0) → ((k : ℕ) → k < length members → part.n ≤ (shape_of v (slice_index members k) array).1) → AllFitPart v members (corner_part array part)
  corner array la rows columns = record {
    array = la;
    each = λ k lt. record {
      size_is = is_size v (slice_index members k) array shapes (within k lt) la;
      fits_is = corner_fits (shape_of v (slice_index members k) array) array part (rows k lt) (columns k lt);
    };
  }

  pub rc_fit : (rc : Option (ℕ × ℕ)) → AreThere v part rc → same_arrays part rc ≡ false → all_below (is_in_arrays v members part rc) (length members) ≡ true → first_lead v members part rc ≡ None → RcFit v members part rc
  rc_fit None there differ all leads = tt
  rc_fit (Some rc) there differ all leads =
      let ne = none_of (nat_eq part.array rc.0) (nat_eq part.array rc.1) (nat_eq rc.0 rc.1) differ in
      let columns : (k : ℕ) → k < length members → (nat_le part.n (shape_of v (slice_index members k) rc.0).1 ≡ true) × (nat_le part.n (shape_of v (slice_index members k) rc.1).1 ≡ true) = λ k lt.
      both (nat_le part.n (shape_of v (slice_index members k) rc.0).1) (nat_le part.n (shape_of v (slice_index members k) rc.1).1)
      ((both (fits (shape_of v (slice_index members k) part.array) part) (has_columns v (slice_index members k) part (Some rc)) (below_all (is_in_arrays v members part (Some rc)) (length members) k lt all)).1) in
      let rows : (k : ℕ) → k < length members → (low_lead (shape_of v (slice_index members k) rc.0).0 part.m ≡ None) × (low_lead (shape_of v (slice_index members k) rc.1).0 part.m ≡ None) = λ k lt.
      none_both (low_lead (shape_of v (slice_index members k) rc.0).0 part.m) (low_lead (shape_of v (slice_index members k) rc.1).0 part.m)
      (first_of-each (λ j. lead_fault v part (Some rc) (slice_index members j)) (length members) k leads lt) in
      record {
        rows = corner rc.0 there.1 (λ k lt. high_lead (shape_of v (slice_index members k) rc.0).0 part.m (rows k lt).0) (λ k lt. at_most part.n (shape_of v (slice_index members k) rc.0).1 (columns k lt).0);
        columns = corner rc.1 there.2 (λ k lt. high_lead (shape_of v (slice_index members k) rc.1).0 part.m (rows k lt).1) (λ k lt. at_most part.n (shape_of v (slice_index members k) rc.1).1 (columns k lt).1);
        not_rows = apart part.array rc.0 ne.0;
        not_columns = apart part.array rc.1 ne.1;
        apart = apart rc.0 rc.1 ne.2;
      }

-- ---- what the check answers

abbrev Tells : Option ScopeErr → Result (Unit {0}) ScopeErr → Type 0
Tells o result = MatchOption o (result ≡ Ok tt) (λ e. result ≡ Err e)

pub tells_same : (v : ShapesView) (members : List ℕ) (part : Part) (rc : Option (ℕ × ℕ)) → same_arrays part rc ≡ true → Tells (arrays_fault v members part rc) (Err SameArray)
tells_same v members part rc h =
    subst (λ b. Tells (cond b (Some SameArray) (cond (not (all_below (is_in_arrays v members part rc) (length members))) (Some OutOfArray) (first_lead v members part rc))) (Err SameArray)) (sym h) refl

pub tells_out : (v : ShapesView) (members : List ℕ) (part : Part) (rc : Option (ℕ × ℕ)) → same_arrays part rc ≡ false → all_below (is_in_arrays v members part rc) (length members) ≡ false → Tells (arrays_fault v members part rc) (Err OutOfArray)
tells_out v members part rc h g =
    subst (λ b. Tells (cond b (Some SameArray) (cond (not (all_below (is_in_arrays v members part rc) (length members))) (Some OutOfArray) (first_lead v members part rc))) (Err OutOfArray)) (sym h)
    (subst (λ b. Tells (cond (not b) (Some OutOfArray) (first_lead v members part rc)) (Err OutOfArray)) (sym g) refl)

pub tells_leads : (v : ShapesView) (members : List ℕ) (part : Part) (rc : Option (ℕ × ℕ)) (result : Result (Unit {0}) ScopeErr) → same_arrays part rc ≡ false → all_below (is_in_arrays v members part rc) (length members) ≡ true → Tells (first_lead v members part rc) result
    → Tells (arrays_fault v members part rc) result
tells_leads v members part rc result h g leads =
    subst (λ b. Tells (cond b (Some SameArray) (cond (not (all_below (is_in_arrays v members part rc) (length members))) (Some OutOfArray) (first_lead v members part rc))) result) (sym h)
    (subst (λ b. Tells (cond (not b) (Some OutOfArray) (first_lead v members part rc)) result) (sym g) leads)

-- an Ok says that no cause was found
pub none_told : (o : Option ScopeErr) (result : Result (Unit {0}) ScopeErr) → Tells o result → OnOk result (o ≡ None)
none_told None (Ok u) h = refl
none_told (Some e) (Ok u) h = cc
none_told o (Err e) h = tt
