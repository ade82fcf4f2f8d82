-- The world after a combine shows the line.
use Rattle.std.specs.Prelude.{◌≡◌, ◌≢◌, ℕ, zero, suc, ◌<◌, Bool, true, false, cond, nat_eq, Option, Some, None, List, [], ◌∷◌, length, map, slice_get}
use Rattle.std.proofs.Common.{sym, ap, ◌∙◌, refl, subst, arith, inl, inr, ◌⊎◌}
use Rattle.std.proofs.lemmas.Bool.Decides.{eqb_tells}
use Rattle.std.proofs.lemmas.Option.{slice_get-get_or}
use Rattle.msg_core.specs.InOrder.{World}
use Rattle.msg_core.proofs.Lists.{same_places}
use Rattle.proc_grid.specs.Grid.{Grid}
use Rattle.proc_grid.specs.Scopes.{members}
use Rattle.proc_grid.specs.declared.scope.Scope.{Scope}
use Rattle.route_plans.specs.PlanPassing.{memory_of, HaveMemories}
use Rattle.pack_words.specs.declared.fold_kind.FoldKind.{FoldKind}
use Rattle.pack_words.specs.LocalCells.{LocalCells}
use Rattle.pack_words.specs.declared.shape.Shape.TheVariants.{Ge}
use Rattle.pack_words.specs.RankOps.{RankState}
use Rattle.pack_words.specs.GridState.{GridState, Shows, arrays_held}
use Rattle.scope_ops.specs.declared.part.Part.{Part}
use Rattle.scope_ops.specs.Lines.{numbered_from, received, given_to}
use Rattle.scope_ops.specs.Combines.{folds, fold_values, holder_rows, holder_columns, corner_part, is_destination, combine_line}
use Rattle.scope_ops.proofs.Along.{from_zero, numbered_past, numbered_same}
use Rattle.scope_ops.proofs.Stored.{stored_arrays}

-- ---- the line as one change of each rank's arrays

abbrev pub changed : (ℕ → Bool) → (List LocalCells → List LocalCells) → ℕ → List LocalCells → List LocalCells
changed test f r cs = cond (test r) (f cs) cs

numbered_twice : {X : Type 0} (k : ℕ) (f h : ℕ → X → X) (xs : List X) → numbered_from k f (numbered_from k h xs) ≡ numbered_from k (λ r x. f r (h r x)) xs
numbered_twice k f h [] = refl
numbered_twice k f h (x ∷ xs) = ap (λ ys. f k (h k x) ∷ ys) (numbered_twice (suc k) f h xs)

three : {X : Type 0} (b : Bool) (f g h : X → X) (x : X) → cond b (h (cond b (g (cond b (f x) x)) (cond b (f x) x))) (cond b (g (cond b (f x) x)) (cond b (f x) x)) ≡ cond b (h (g (f x))) x
three true f g h x = refl
three false f g h x = refl

pub line_arrays : (g : Grid) (scope : Scope) (dest : Option (ℕ × ℕ)) (fold : FoldKind) (part : Part) (rc : Option (ℕ × ℕ)) (s : GridState)
    → (combine_line g scope dest fold part rc s).arrays ≡ numbered_from 0 (changed (is_destination g scope dest) (stored_arrays g (members g scope) part rc (folds fold (members g scope) part s))) s.arrays
unfolding combine_line given_to
line_arrays g scope dest fold part None s = refl
line_arrays g scope dest fold part (Some rc) s =
    let first : ℕ → List LocalCells → List LocalCells = changed (is_destination g scope dest) (received Ge part (fold_values (folds fold (members g scope) part s))) in
    let second : ℕ → List LocalCells → List LocalCells = changed (is_destination g scope dest) (received Ge (corner_part rc.0 part) (holder_rows g (members g scope) (folds fold (members g scope) part s))) in
    let third : ℕ → List LocalCells → List LocalCells = changed (is_destination g scope dest) (received Ge (corner_part rc.1 part) (holder_columns g (members g scope) (folds fold (members g scope) part s))) in
    ap (numbered_from 0 third) (numbered_twice 0 second first s.arrays)
    ∙ numbered_twice 0 third (λ r x. second r (first r x)) s.arrays
    ∙ numbered_same 0 (λ r x. third r (second r (first r x))) (changed (is_destination g scope dest) (stored_arrays g (members g scope) part (Some rc) (folds fold (members g scope) part s))) s.arrays
    (λ r cs. three (is_destination g scope dest r) (received Ge part (fold_values (folds fold (members g scope) part s))) (received Ge (corner_part rc.0 part) (holder_rows g (members g scope) (folds fold (members g scope) part s)))
    (received Ge (corner_part rc.1 part) (holder_columns g (members g scope) (folds fold (members g scope) part s))) cs)

pub line_waits : (g : Grid) (scope : Scope) (dest : Option (ℕ × ℕ)) (fold : FoldKind) (part : Part) (rc : Option (ℕ × ℕ)) (s : GridState) (i j : ℕ) → (combine_line g scope dest fold part rc s).waits i j ≡ s.waits i j
unfolding combine_line given_to
line_waits g scope dest fold part None s i j = refl
line_waits g scope dest fold part (Some rc) s i j = refl

-- ---- nodes by rank

pub get_mapped : {X Y : Type 0} (f : X → Y) (xs : List X) (k : ℕ) (x : X) → slice_get xs k ≡ Some x → slice_get (map f xs) k ≡ Some (f x)
get_mapped f [] k x e = cc
get_mapped f (y ∷ xs) zero x e = let same : y ≡ x = cc in ap (λ z. Some (f z)) same
get_mapped f (y ∷ xs) (suc k) x e = get_mapped f xs k x e

past_mapped : {X Y : Type 0} (f : X → Y) (xs : List X) (k : ℕ) → slice_get xs k ≡ None → slice_get (map f xs) k ≡ None
past_mapped f [] k e = refl
past_mapped f (y ∷ xs) zero e = cc
past_mapped f (y ∷ xs) (suc k) e = past_mapped f xs k e

mapped_same : {X Y : Type 0} (f : X → Y) (xs ys : List X) (k : ℕ) → slice_get xs k ≡ slice_get ys k → slice_get (map f xs) k ≡ slice_get (map f ys) k
mapped_same {X} f xs ys k e = at (slice_get ys k) refl
  where
    at : (m : Option X) → slice_get ys k ≡ m → slice_get (map f xs) k ≡ slice_get (map f ys) k
    at None h = past_mapped f xs k (e ∙ h) ∙ sym (past_mapped f ys k h)
    at (Some x) h = get_mapped f xs k x (e ∙ h) ∙ sym (get_mapped f ys k x h)

-- a rank is that of a member, or of none
find : (n : ℕ) (rank : ℕ → ℕ) (r : ℕ) → ((p : ℕ) × (p < n) × (rank p ≡ r)) ⊎ ((p : ℕ) → p < n → rank p ≢ r)
find zero rank r = inr (λ p lt. absurd (omega arith))
find (suc n) rank r = at (find n rank r) (eqb_tells (rank n) r)
  where
    at : ((p : ℕ) × (p < n) × (rank p ≡ r)) ⊎ ((p : ℕ) → p < n → rank p ≢ r) → ((nat_eq (rank n) r ≡ true) × (rank n ≡ r)) ⊎ ((nat_eq (rank n) r ≡ false) × (rank n ≢ r)) → ((p : ℕ) × (p < suc n) × (rank p ≡ r)) ⊎ ((p : ℕ) → p < suc n → rank p ≢ r)
    at (inl h) d = inl (h.0, let lt = h.1 in omega arith, h.2)
    at (inr miss) (inl d) = inl (n, omega arith, d.1)
    at (inr miss) (inr d) = inr (λ p lt. elim (eqb_tells p n) [ inl e ↦ subst (λ k. rank k ≢ r) (sym e.1) d.1 | inr e ↦ miss p (let ne = e.1 in omega arith) ])

-- ---- the arrays

pub shown_arrays : (w w' : World RankState) (s : GridState) (test : ℕ → Bool) (f : List LocalCells → List LocalCells) (none : RankState) (n : ℕ) (rank : ℕ → ℕ) (mem : ℕ → RankState) → Shows w s → HaveMemories none n rank mem w w'
    → ((p : ℕ) → p < n → rank p < length w.nodes) → ((p : ℕ) → p < n → (mem p).arrays ≡ changed test f (rank p) (memory_of none rank w p).arrays) → ((r : ℕ) → ((p : ℕ) → p < n → rank p ≢ r) → test r ≡ false)
    → map arrays_held w'.nodes ≡ numbered_from 0 (changed test f) s.arrays
shown_arrays w w' s test f none n rank mem is have within here elsewhere = same_places (map arrays_held w'.nodes) (numbered_from 0 (changed test f) s.arrays) (λ r. at r (find n rank r))
  where
    kept : (r : ℕ) → test r ≡ false → (m : Option (List LocalCells)) → slice_get s.arrays r ≡ m → slice_get s.arrays r ≡ slice_get (numbered_from 0 (changed test f) s.arrays) r
    kept r miss None e = e ∙ sym (numbered_past 0 (changed test f) s.arrays r e)
    kept r miss (Some cs) e = e ∙ ap (λ b. Some (cond b (f cs) cs)) (sym miss) ∙ sym (from_zero (changed test f) s.arrays r cs e)

    of_member : (p : ℕ) → p < n → slice_get (map arrays_held w'.nodes) (rank p) ≡ slice_get (numbered_from 0 (changed test f) s.arrays) (rank p)
    of_member p lt =
        let long = have.else_as_before.count in
        let there = within p lt in
        let before : slice_get w.nodes (rank p) ≡ Some (memory_of none rank w p) = slice_get-get_or w.nodes (rank p) none there in
        let after : slice_get w'.nodes (rank p) ≡ Some (mem p) = slice_get-get_or w'.nodes (rank p) none (omega arith) ∙ ap (λ (a : RankState). Some a) (have.memories p lt) in
        let arrays : slice_get s.arrays (rank p) ≡ Some (memory_of none rank w p).arrays = ap (λ (css : List (List LocalCells)). slice_get css (rank p)) (sym is.arrays_are) ∙ get_mapped arrays_held w.nodes (rank p) (memory_of none rank w p) before in
        get_mapped arrays_held w'.nodes (rank p) (mem p) after ∙ ap (λ (cs : List LocalCells). Some cs) (here p lt) ∙ sym (from_zero (changed test f) s.arrays (rank p) (memory_of none rank w p).arrays arrays)

    at : (r : ℕ) → ((p : ℕ) × (p < n) × (rank p ≡ r)) ⊎ ((p : ℕ) → p < n → rank p ≢ r) → slice_get (map arrays_held w'.nodes) r ≡ slice_get (numbered_from 0 (changed test f) s.arrays) r
    at r (inl h) = subst (λ (k : ℕ). slice_get (map arrays_held w'.nodes) k ≡ slice_get (numbered_from 0 (changed test f) s.arrays) k) h.2 (of_member h.0 h.1)
    at r (inr miss) = mapped_same arrays_held w'.nodes w.nodes r (have.else_as_before.others r miss) ∙ ap (λ (css : List (List LocalCells)). slice_get css r) is.arrays_are ∙ kept r (elsewhere r miss) (slice_get s.arrays r) refl
