-- Words of arrays that are set leave what a plan stands for.
use Rattle.std.proofs.Common.{◌≡◌, ℕ, zero, suc, List, [], ◌∷◌, length, map, Option, Some, None, ℤ, refl, sym, ap, ◌∙◌}
use Rattle.std.specs.Prelude.{slice_index_or, slice_set}
use Rattle.std.proofs.Math.Seq.{map-set_same}
use Rattle.std.proofs.lemmas.List.{length-set}
use Rattle.descriptor.specs.declared.spread.Spread.{Spread}
use Rattle.msg_core.specs.Plans.{PlanView}
use Rattle.pack_words.specs.declared.rank_op.RankOp.{RankOp}
use Rattle.pack_words.specs.LocalCells.{LocalCells, zeros}
use Rattle.pack_words.specs.GridState.{GridState}
use Rattle.pack_words.specs.GridShapes.{ShapesView, HasShapes, measure_of, measures_of}
use Rattle.pack_words.specs.GridPlans.{IsOf}
use Rattle.pack_words.proofs.Kept.{shapes_along}
use Rattle.scope_ops.specs.Lines.{numbered_from}
use Rattle.program_meaning.specs.Filling.{Writing, Filling, written_cells, with_written}
use Rattle.program_meaning.specs.Declarations.{filled}
use Rattle.line_plans.specs.declared.declared.Declared.{Declared}
use Rattle.line_plans.specs.Exact.{IsExact}
use Rattle.line_plans.specs.Standing.{state_of, IsAt, IsFresh}

numbered_long : {X : Type 0} (k : ℕ) (f : ℕ → X → X) (xs : List X) → length (numbered_from k f xs) ≡ length xs
numbered_long k f [] = refl
numbered_long k f (x ∷ xs) = ap suc (numbered_long (suc k) f xs)

measure_kept : (f : ℕ → ℤ → ℤ) (c : LocalCells) → measure_of (written_cells f c) ≡ measure_of c
measure_kept f c = let m : ℕ → ℕ × ℕ × ℕ = λ n. (c.lld, c.cols, n) in ap m (numbered_long 0 f c.words)

row_kept : (array : ℕ) (f : ℕ → ℤ → ℤ) (cs : List LocalCells) → measures_of (slice_set cs array (written_cells f (slice_index_or cs array (zeros 1 0)))) ≡ measures_of cs
row_kept array f cs = map-set_same measure_of cs array (written_cells f (slice_index_or cs array (zeros 1 0))) (zeros 1 0) (measure_kept f (slice_index_or cs array (zeros 1 0)))

all_kept : (k array : ℕ) (f : Writing) (css : List (List LocalCells)) → map measures_of (numbered_from k (λ r cs. slice_set cs array (written_cells (f r) (slice_index_or cs array (zeros 1 0)))) css) ≡ map measures_of css
all_kept k array f [] = refl
all_kept k array f (cs ∷ css) = ap (λ ms. ms ∷ map measures_of (numbered_from (suc k) (λ r cs. slice_set cs array (written_cells (f r) (slice_index_or cs array (zeros 1 0)))) css)) (row_kept array (f k) cs) ∙ ap (λ mss. measures_of cs ∷ mss) (all_kept (suc k) array f css)

pub written_shapes : (v : ShapesView) (state : GridState) (array : ℕ) (f : Writing) → HasShapes v state → HasShapes v (with_written array f state)
unfolding with_written
written_shapes v state array f h = shapes_along v state (with_written array f state) (sym (all_kept 0 array f state.arrays)) h

row_long : (array k : ℕ) (f : Writing) (css : List (List LocalCells)) (r : ℕ) → length (slice_index_or (numbered_from k (λ n cs. slice_set cs array (written_cells (f n) (slice_index_or cs array (zeros 1 0)))) css) r []) ≡ length (slice_index_or css r [])
row_long array k f [] r = refl
row_long array k f (cs ∷ css) zero = length-set cs array (written_cells (f k) (slice_index_or cs array (zeros 1 0)))
row_long array k f (cs ∷ css) (suc r) = row_long array (suc k) f css r

pub written_exact : (v : ShapesView) (state : GridState) (array : ℕ) (f : Writing) → IsExact v state → IsExact v (with_written array f state)
unfolding with_written
written_exact v state array f h = record { each = λ r lt. row_long array 0 f state.arrays r ∙ h.each r lt }

written_of : (v : ShapesView) (p : PlanView RankOp) (state : GridState) (array : ℕ) (f : Writing) → IsOf v p state → IsOf v p (with_written array f state)
unfolding with_written
written_of v p state array f is = record {
  shaped = shapes_along v state (with_written array f state) (sym (all_kept 0 array f state.arrays)) is.shaped;
  lens_are = is.lens_are;
}

pub filled_at : (d : Declared) (p : PlanView RankOp) (state : GridState) (f : Filling) (array : ℕ) (o : Option (Option Spread)) → IsOf d.shapes p state → IsAt d p (filled f array o (state_of d p state))
unfolding with_written
filled_at d p state f array None is = record { state_is = refl; of_plan = is }
filled_at d p state f array (Some None) is = record { state_is = refl; of_plan = written_of d.shapes p state array _ is }
filled_at d p state f array (Some (Some spread)) is = record { state_is = refl; of_plan = written_of d.shapes p state array _ is }

filled_exact : (d : Declared) (p : PlanView RankOp) (state : GridState) (f : Filling) (array : ℕ) (o : Option (Option Spread)) → IsExact d.shapes state → IsExact d.shapes (filled f array o (state_of d p state)).state
filled_exact d p state f array None h = h
filled_exact d p state f array (Some None) h = written_exact d.shapes state array _ h
filled_exact d p state f array (Some (Some spread)) h = written_exact d.shapes state array _ h

pub filled_fresh : (d : Declared) (p : PlanView RankOp) (state : GridState) (f : Filling) (array : ℕ) (o : Option (Option Spread)) → IsOf d.shapes p state → IsExact d.shapes state → IsFresh d p (filled f array o (state_of d p state))
filled_fresh d p state f array o is exact = record { at = filled_at d p state f array o is; exact = filled_exact d p state f array o exact }

pub same_fresh : (d : Declared) (p : PlanView RankOp) (state : GridState) → IsOf d.shapes p state → IsExact d.shapes state → IsFresh d p (state_of d p state)
same_fresh d p state is exact = record { at = record { state_is = refl; of_plan = is }; exact = exact }
