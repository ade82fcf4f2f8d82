-- A broadcast place by place.
use Rattle.std.specs.Prelude.{◌≡◌, ◌≢◌, ℕ, zero, suc, ◌+◌, ◌-◌, ◌<◌, Bool, true, false, cond, not, ◌&&◌, nat_eq, Option, Some, None, ℤ, List, [], ◌∷◌, length, slice_get, slice_index, slice_index_or}
use Rattle.std.specs.List.{list_any}
use Rattle.std.proofs.Common.{sym, ap, ◌∙◌, refl, subst}
use Rattle.std.proofs.lemmas.List.{get_or-set_same, get_or-set_other}
use Rattle.std.proofs.lemmas.Option.{get_or_from_slice_get}
use Rattle.msg_core.proofs.Lists.{within_get}
use Rattle.pack_words.specs.declared.shape.Shape.{Shape}
use Rattle.pack_words.specs.LocalCells.{LocalCells, zeros, word_at}
use Rattle.pack_words.specs.GridState.{GridState}
use Rattle.pack_words.specs.GridSteps.{arrays_in, array_in}
use Rattle.pack_words.specs.GridShapes.{ShapesView, shape_of, HasShapes}
use Rattle.pack_words.specs.Parts.{IsPartGiven}
use Rattle.pack_words.proofs.ByPlace.{part_given}
use Rattle.pack_words.proofs.Shaped.{is_held}
use Rattle.scope_ops.specs.declared.part.Part.{Part}
use Rattle.scope_ops.specs.declared.part.Spot.{Spot}
use Rattle.scope_ops.specs.Parts.{part_from, cut_of}
use Rattle.scope_ops.specs.Lines.{words_of, assigned_to, numbered_from, received, given_to, is_other, broadcast_line}
use Rattle.scope_ops.specs.Ops.{Fits}
use Rattle.scope_ops.specs.Broadcasts.{AreMembers, AllFit}
use Rattle.scope_ops.specs.ByPlace.{IsBroadcast}
use Rattle.scope_ops.proofs.Fitting.{is_part}
use Rattle.scope_ops.proofs.Along.{from_zero, numbered_past, any_some, equals, tells}

-- the arrays of a rank after words are given
given_arrays : (test : ℕ → Bool) (shape : Shape) (target : Part) (ws : List ℤ) (s : GridState) (r : ℕ) → arrays_in (given_to test shape target ws s) r ≡ cond (test r) (received shape target ws (arrays_in s r)) (arrays_in s r)
unfolding given_to
given_arrays test shape target ws s r = by (slice_get s.arrays r) refl where
  change : ℕ → List LocalCells → List LocalCells
  change k cs = cond (test k) (received shape target ws cs) cs

  past : (css : List (List LocalCells)) (k : ℕ) → slice_get css k ≡ None → slice_index_or css k [] ≡ []
  past [] k e = refl
  past (cs ∷ css) zero e = cc
  past (cs ∷ css) (suc k) e = past css k e

  nothing : (b : Bool) → [] ≡ cond b (received shape target ws []) []
  nothing true = refl
  nothing false = refl

  by : (m : Option (List LocalCells)) → slice_get s.arrays r ≡ m → arrays_in (given_to test shape target ws s) r ≡ cond (test r) (received shape target ws (arrays_in s r)) (arrays_in s r)
  by None e = past (numbered_from 0 (λ k cs. cond (test k) (received shape target ws cs) cs) s.arrays) r (numbered_past 0 (λ k cs. cond (test k) (received shape target ws cs) cs) s.arrays r e)
      ∙ (nothing (test r) ∙ ap (λ cs. cond (test r) (received shape target ws cs) cs) (sym (past s.arrays r e)))
  by (Some cs) e = get_or_from_slice_get (numbered_from 0 (λ k ds. cond (test k) (received shape target ws ds) ds) s.arrays) r (cond (test r) (received shape target ws cs) cs) [] (from_zero (λ k ds. cond (test k) (received shape target ws ds) ds) s.arrays r cs e)
      ∙ ap (λ ds. cond (test r) (received shape target ws ds) ds) (sym (get_or_from_slice_get s.arrays r cs [] e))

and_both : (a b : Bool) → (a && not b) ≡ true → (a ≡ true) × (b ≡ false)
and_both true false h = (refl, refl)
and_both true true h = cc
and_both false b h = cc

-- another member has a position other than the source's
other_at : (members : List ℕ) (k r : ℕ) → is_other members (slice_index members k) r ≡ true → (j : ℕ) × (j < length members) × (j ≢ k) × (slice_index members j ≡ r)
other_at members k r h =
    let both = and_both (list_any (λ x. nat_eq x r) members) (nat_eq r (slice_index members k)) h in
    let j = any_some (λ x. nat_eq x r) members both.0 in
    let is : slice_index members j.0 ≡ r = get_or_from_slice_get members j.0 j.1 0 j.2 ∙ tells j.1 r j.3 in
    (j.0, within_get members j.0 j.1 j.2, (λ q. let x : true ≡ false = sym (equals r (slice_index members k) (sym is ∙ ap (slice_index members) q)) ∙ both.1 in (cc)), is)

pub broadcast_placed : (v : ShapesView) (members : List ℕ) (k : ℕ) (shape : Shape) (part : Part) (rcv : Spot) (s : GridState) → AreMembers v.ranks members → AllFit v members k part rcv → HasShapes v s
    → IsBroadcast members (slice_index members k) shape part (part_from rcv part) s (broadcast_line members (slice_index members k) shape part (part_from rcv part) s)
unfolding broadcast_line given_to
broadcast_placed v members k shape part rcv s ms fit shaped =
    let source : ℕ = slice_index members k in
    let target : Part = part_from rcv part in
    let ws : List ℤ = words_of shape part (array_in s source part.array) in
    let t : GridState = broadcast_line members source shape part target s in
    let arrays : (r : ℕ) (b : Bool) → is_other members source r ≡ b → arrays_in t r ≡ cond b (received shape target ws (arrays_in s r)) (arrays_in s r) = λ r b e.
    given_arrays (is_other members source) shape target ws s r ∙ ap (λ x. cond x (received shape target ws (arrays_in s r)) (arrays_in s r)) e in
    record {
      given = λ r other.
          let j = other_at members k r other in
          let lr : r < v.ranks = subst (λ (x : ℕ). x < v.ranks) j.3 (ms.within j.0 j.1) in
          let held = is_held v s r rcv.array shaped lr fit.rcv_array in
          let within : rcv.array < length (arrays_in s r) = subst (λ (cs : List LocalCells). rcv.array < length cs) (sym held.arrays_are) (within_get held.arrays rcv.array held.cells held.at) in
          let got : array_in t r rcv.array ≡ assigned_to shape target ws (array_in s r rcv.array) =
          ap (λ cs. slice_index_or cs rcv.array (zeros 1 0)) (arrays r true other) ∙ get_or-set_same (arrays_in s r) rcv.array (assigned_to shape target ws (array_in s r rcv.array)) (zeros 1 0) within in
          let part_is = is_part (shape_of v r rcv.array) shape target (subst (λ (x : ℕ). Fits (shape_of v x rcv.array) target) j.3 (fit.others_fit j.0 j.1 j.2)) in
          let one = part_given (shape_of v r rcv.array) (cut_of shape part) part.i part.j rcv.i rcv.j (array_in s source part.array) (array_in s r rcv.array) part_is (ap (λ c. c.lld) held.cells_are ∙ held.lead) (ap (λ c. length c.words) held.cells_are ∙ held.count) in
          subst (λ (c : LocalCells). IsPartGiven (cut_of shape target) rcv.i rcv.j (λ x y. word_at (array_in s source part.array) (part.i - 1 + x) (part.j - 1 + y)) (array_in s r rcv.array) c) (sym got) one;
      other_arrays = λ r a ne. either r a ne (is_other members source r) (arrays r (is_other members source r) refl);
      other_ranks = λ r e. arrays r false e;
      waits = λ from to. refl;
    }
  where
    either : (r a : ℕ) → a ≢ rcv.array → (b : Bool) → arrays_in (broadcast_line members (slice_index members k) shape part (part_from rcv part) s) r ≡ cond b (received shape (part_from rcv part) (words_of shape part (array_in s (slice_index members k) part.array)) (arrays_in s r)) (arrays_in s r)
        → array_in (broadcast_line members (slice_index members k) shape part (part_from rcv part) s) r a ≡ array_in s r a
    either r a ne true e = ap (λ cs. slice_index_or cs a (zeros 1 0)) e ∙ get_or-set_other (arrays_in s r) rcv.array a _ (zeros 1 0) ne
    either r a ne false e = ap (λ cs. slice_index_or cs a (zeros 1 0)) e
