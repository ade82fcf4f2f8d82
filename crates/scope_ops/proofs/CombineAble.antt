-- The members can do the operations of a combine, and their accumulators have the room.
use Rattle.std.specs.Prelude.{◌≡◌, ℕ, zero, suc, ◌+◌, ◌*◌, ◌<◌, ◌≤◌, ◌^◌, Option, Some, IfSome, List, [], ◌∷◌, ◌++◌, length, map, slice_get}
use Rattle.std.specs.List.{range_with_len}
use Rattle.std.proofs.Common.{sym, ap, ◌∙◌, refl, subst, arith, inl, inr}
use Rattle.std.proofs.Math.Nat.{mul-le-mul}
use Rattle.std.proofs.lemmas.Bool.Decides.{eqb_tells}
use Rattle.msg_core.specs.InOrder.{World}
use Rattle.route_plans.specs.PlanSteps.{own_step, plan_each}
use Rattle.pack_words.specs.declared.shape.Shape.TheVariants.{Ge}
use Rattle.pack_words.specs.declared.rank_op.RankOp.{RankOp}
use Rattle.pack_words.specs.LocalCells.{LocalCells}
use Rattle.pack_words.specs.WholeRegions.{IsWhole}
use Rattle.pack_words.specs.RankOps.{RankState, size_of, shapes, AreInArray}
use Rattle.pack_words.specs.GridState.{GridState, Shows, HasRoom, scratch_needed, arrays_held}
use Rattle.pack_words.specs.GridShapes.{ShapesView, shape_of, HasShapes}
use Rattle.pack_words.specs.Parts.{part_region}
use Rattle.pack_words.proofs.PartLaws.{part_in_shape}
use Rattle.pack_words.proofs.Shaped.{is_held, held_regions}
use Rattle.scope_ops.specs.declared.part.Part.{Part}
use Rattle.scope_ops.specs.declared.own.Own.TheVariants as own
use Rattle.scope_ops.specs.Parts.{cut_of}
use Rattle.scope_ops.specs.Ops.{Fits}
use Rattle.scope_ops.specs.CombineOps.{element_count, own_op}
use Rattle.scope_ops.proofs.Fitting.{is_part}
use Rattle.scope_ops.proofs.CombineShown.{get_mapped}

-- ---- room

needed_front : (r : ℕ) (xs ys : List (ℕ × RankOp)) → scratch_needed r xs ≤ scratch_needed r (xs ++ ys)
needed_front r [] ys = omega arith
needed_front r (x ∷ xs) ys = let h = needed_front r xs ys in omega (arith, h)

needed_range : (part : Part) (rank : ℕ → ℕ) (a k p : ℕ) → a ≤ p → p < a + k → element_count part ≤ scratch_needed (rank p) (map (own_step rank (own_op own.Load part)) (range_with_len a k))
needed_range part rank a zero p low high = absurd (omega arith)
needed_range part rank a (suc k) p low high = elim (eqb_tells p a) [
  | inl e ↦
      let same : rank a ≡ rank p = ap rank (sym e.1) in
      elim (eqb_tells (rank a) (rank p)) [
        | inl h ↦ rw h.0 (omega arith)
        | inr h ↦ absurd (h.1 same)
      ]
  | inr e ↦
      let ne = e.1 in
      let h = needed_range part rank (a + 1) k p (omega arith) (omega arith) in
      omega (arith, h)
]

-- a member's accumulator has room for its part
pub member_room : (part : Part) (rank : ℕ → ℕ) (n p : ℕ) (rest : List (ℕ × RankOp)) (nodes : List RankState) (a : RankState) → p < n → HasRoom (plan_each rank (own_op own.Load part) n ++ rest) nodes → slice_get nodes (rank p) ≡ Some a → element_count part ≤ length a.held
member_room part rank n p rest nodes a lt room here =
    let P : Option RankState → Type 0 = λ m. IfSome m (λ b. scratch_needed (rank p) (plan_each rank (own_op own.Load part) n ++ rest) ≤ length b.held) in
    let all : scratch_needed (rank p) (plan_each rank (own_op own.Load part) n ++ rest) ≤ length a.held = subst P here (room.each (rank p)) in
    let some = needed_range part rank 0 n p (omega arith) (omega arith) in
    let front = needed_front (rank p) (plan_each rank (own_op own.Load part) n) rest in
    omega (arith, some, front, all)

-- ---- sizes

-- a part that fits has no more elements than an array may have
pub few_elements : (size : ℕ × ℕ) (part : Part) → Fits size part → element_count part ≤ 2 ^ 26
few_elements size part fits =
    let is = is_part size Ge part fits in
    let rows : part.m ≤ size.0 = let h = is.rows in omega arith in
    let columns : part.n ≤ size.1 = let h = is.columns in omega arith in
    let area : part.m * part.n ≤ size.0 * size.1 = mul-le-mul rows columns in
    let most = fits.size_is.area_fits in
    omega (arith, area, most)

pub part_whole : (size : ℕ × ℕ) (part : Part) → Fits size part → IsWhole (part_region (cut_of Ge part) part.i part.j)
part_whole size part fits = record { first_row = refl; first_column = refl; most = few_elements size part fits }

-- the part lies in the array of a rank whose world shows a state with the shapes
pub in_array : (v : ShapesView) (w : World RankState) (s : GridState) (r : ℕ) (a : RankState) (part : Part) → Shows w s → HasShapes v s → r < v.ranks → slice_get w.nodes r ≡ Some a → part.array < v.count → Fits (shape_of v r part.array) part
    → AreInArray (shapes a) part.array (part_region (cut_of Ge part) part.i part.j ∷ [])
in_array v w s r a part is shaped lr here la fits =
    let held = is_held v s r part.array shaped lr la in
    let arrays : Some a.arrays ≡ Some held.arrays = sym (get_mapped arrays_held w.nodes r a here) ∙ ap (λ (css : List (List LocalCells)). slice_get css r) is.arrays_are ∙ held.here in
    let same : held.arrays ≡ a.arrays = some_same held.arrays a.arrays (sym arrays) in
    subst (λ (cs : List LocalCells). AreInArray (map size_of cs) part.array (part_region (cut_of Ge part) part.i part.j ∷ [])) same
    (held_regions v s r part.array (part_region (cut_of Ge part) part.i part.j ∷ []) held (part_in_shape (shape_of v r part.array) (cut_of Ge part) part.i part.j (is_part (shape_of v r part.array) Ge part fits)))
  where
    some_same : {X : Type 0} (x y : X) → Some x ≡ Some y → x ≡ y
    some_same x y e = cc
