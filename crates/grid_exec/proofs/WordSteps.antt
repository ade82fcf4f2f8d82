-- Words of arrays that are set.
use Rattle.std.proofs.Common.{◌≡◌, ℕ, zero, suc, ◌+◌, ◌*◌, ◌<◌, ◌≤◌, Bool, true, false, List, [], ◌∷◌, length, Option, Some, None, Result, Ok, Err, refl, sym, ap, subst, ◌∙◌, arith, pos, inl, inr, nat_le}
use Rattle.std.specs.Prelude.{◌⊎◌, slice_get, slice_index_or, OnOk}
use Rattle.std.proofs.lemmas.Option.{slice_get_within}
use Rattle.line_text.specs.FaultTables.{when, unless_fault}
use Rattle.proc_grid.specs.Grid.{Grid}
use Rattle.proc_grid.specs.Held.{context_at}
use Rattle.descriptor.specs.Bounds.{part}
use Rattle.descriptor.specs.Good.{IsGood}
use Rattle.descriptor.specs.declared.spread.Spread.{Spread}
use Rattle.mm_text.specs.declared.cells.Whole.{Whole}
use Rattle.mm_text.specs.Loading.{matrix_of}
use Rattle.mm_grammar.specs.Matrix.{Matrix}
use Rattle.msg_core.specs.Plans.{PlanView}
use Rattle.pack_words.specs.declared.rank_op.RankOp.{RankOp}
use Rattle.pack_words.specs.LocalCells.{LocalCells, zeros}
use Rattle.pack_words.specs.GridState.{GridState}
use Rattle.pack_words.specs.GridShapes.{ShapesView, IsShapes, shape_of, HasShapes}
use Rattle.pack_words.proofs.Shaped.{is_held}
use Rattle.mr2d.specs.Homes.{HaveArrays}
use Rattle.mr2d.specs.Calls.{spread_array}
use Rattle.mr2d.proofs.ShapeLaws.{have_arrays}
use Rattle.array_contents.specs.Contents.{Writes, HaveLead}
use Rattle.program_meaning.specs.declared.fault.ExecFault.{ExecFault}
use Rattle.program_meaning.specs.ProgramState.{ProgramState, or_no_grid, or_no_spread}
use Rattle.program_meaning.specs.Filling.{Writing, Filling, with_written, fills_array, fills_matrix, loads_matrix}
use Rattle.program_meaning.specs.Declarations.{filled, load_line}
use Rattle.program_meaning.specs.Sound.{IsSound}
use Rattle.line_plans.specs.declared.declared.Declared.{Declared}
use Rattle.line_plans.specs.declared.halt.Halt.{Halt}
use Rattle.line_plans.specs.declared.halt.Halt.TheVariants.{Fault, NoMemory}
use Rattle.line_plans.specs.Exact.{IsExact}
use Rattle.line_plans.specs.Standing.{state_of}
use Rattle.line_plans.proofs.FillLaws.{written_shapes, written_exact}
use Rattle.grid_exec.specs.declared.held.Held.{Held}
use Rattle.grid_exec.specs.Holding.{resting, HoldsArrays}
use Rattle.grid_exec.specs.Reading.{standing, IsHeld}
use Rattle.grid_exec.specs.Words.{IsFilledTo, size_fault}

pub on_ok : {X E : Type 0} (r : Result X E) (P Q : Type 0) → OnOk r P → (P → Q) → OnOk r Q
on_ok (Ok x) P Q h f = f h
on_ok (Err e) P Q h f = tt

-- what is written rests
written_rests : (array : ℕ) (f : Writing) (old new : List (List LocalCells)) → Writes array f old new → with_written array f (resting old) ≡ resting new
unfolding with_written
written_rests array f old new h = ap resting (h (resting old) refl)

holds_written : (v : ShapesView) (array : ℕ) (f : Writing) (old new : List (List LocalCells)) → HoldsArrays v old → Writes array f old new → HoldsArrays v new
holds_written v array f old new h w =
    let same = written_rests array f old new w in
    record {
      shaped = subst (λ (s : GridState). HasShapes v s) same (written_shapes v (resting old) array f h.shaped);
      exact = subst (λ (s : GridState). IsExact v s) same (written_exact v (resting old) array f h.exact);
    }

pub few_ranks : (d : Declared) (arrays : List (List LocalCells)) → HoldsArrays d.shapes arrays → length arrays ≤ 64
few_ranks d arrays h = let n = h.shaped.ranks_are in let m = d.sound.most in omega arith

-- the arrays of an ARRAY
pub arrays_there : (d : Declared) (arrays : List (List LocalCells)) (array : ℕ) (spread : Spread) (g : Grid) → IsShapes d.shapes → HoldsArrays d.shapes arrays → slice_get d.spreads.items array ≡ Some (Some spread) → context_at d.contexts spread.desc.ctxt ≡ Some g → HaveArrays (spread_array array spread g) arrays
arrays_there d arrays array spread g is h at e = have_arrays (spread_array array spread g) d.shapes (resting arrays) is ((d.sound.spread_out array spread at).sizes g e) h.shaped

pub filled_spread : (d : Declared) (f : Filling) (array : ℕ) (spread : Spread) (g : Grid) (old new : List (List LocalCells)) → HoldsArrays d.shapes old → slice_get d.spreads.items array ≡ Some (Some spread) → context_at d.contexts spread.desc.ctxt ≡ Some g
    → Writes array (fills_array f (spread_array array spread g)) old new → IsFilledTo d f array old new
filled_spread d f array spread g old new h at e w = record {
  holds = holds_written d.shapes array _ old new h w;
  done = λ p.
      ap (state_of d p) (sym (written_rests array _ old new w))
      ∙ ap (λ (x : Grid). state_of d p (with_written array (fills_array f (spread_array array spread x)) (resting old))) (sym (ap or_no_grid e))
      ∙ ap (λ (o : Option (Option Spread)). filled f array o (state_of d p (resting old))) (sym at);
}

-- the arrays of a MATRIX have its leading dimension
past_end : {X : Type 0} (xss : List (List X)) (r : ℕ) → length xss ≤ r → slice_index_or xss r [] ≡ []
past_end [] r le = refl
past_end (xs ∷ xss) zero le = absurd (omega arith)
past_end (xs ∷ xss) (suc r) le = past_end xss r (omega arith)

below_or_not : (r n : ℕ) → (r < n) ⊎ (n ≤ r)
below_or_not r n = grind arith

pub leads_there : (d : Declared) (arrays : List (List LocalCells)) (array lld : ℕ) → HoldsArrays d.shapes arrays → slice_get d.spreads.items array ≡ Some None → lld ≡ (shape_of d.shapes 0 array).0 → HaveLead array lld arrays
leads_there d arrays array lld h at e r lt = step (below_or_not r d.shapes.ranks)
  where
    low : array < d.shapes.count
    low = subst (λ n. array < n) d.sound.one_each (slice_get_within d.spreads.items array None at)

    step : (r < d.shapes.ranks) ⊎ (d.shapes.ranks ≤ r) → (slice_index_or (slice_index_or arrays r []) array (zeros 1 0)).lld ≡ lld
    step (inl here) =
        let held = is_held d.shapes (resting arrays) r array h.shaped here low in
        ap (λ (c : LocalCells). c.lld) held.cells_are ∙ held.lead ∙ ap (λ (x : ℕ × ℕ). x.0) (d.sound.alike array at r here) ∙ sym e
    step (inr past) =
        let none = past_end arrays r (let n = h.shaped.ranks_are in omega arith) in
        absurd (let z : array < length (let xs : List LocalCells = [] in xs) = subst (λ (xs : List LocalCells). array < length xs) none lt in omega arith)

pub array_there : (d : Declared) (array : ℕ) (o : Option Spread) → slice_get d.spreads.items array ≡ Some o → array < d.shapes.count
array_there d array o at = subst (λ n. array < n) d.sound.one_each (slice_get_within d.spreads.items array o at)

pub filled_placed : (d : Declared) (f : Filling) (array lld : ℕ) (old new : List (List LocalCells)) → HoldsArrays d.shapes old → slice_get d.spreads.items array ≡ Some None → lld ≡ (shape_of d.shapes 0 array).0
    → Writes array (fills_matrix f lld) old new → IsFilledTo d f array old new
filled_placed d f array lld old new h at e w = record {
  holds = holds_written d.shapes array _ old new h w;
  done = λ p.
      ap (state_of d p) (sym (written_rests array _ old new w))
      ∙ ap (λ n. state_of d p (with_written array (fills_matrix f n) (resting old))) (e ∙ ap (λ n. (slice_index_or d.shapes.sizes n (1, 0)).0) (let z : array * d.shapes.ranks + 0 ≡ array * d.shapes.ranks = omega arith in z))
      ∙ ap (λ (o : Option (Option Spread)). filled f array o (state_of d p (resting old))) (sym at);
}

-- ---- LOAD

pub load_written : (d : Declared) (p : PlanView RankOp) (m : Whole) (array : ℕ) (spread : Spread) (g : Grid) (h : Held) (old new : List (List LocalCells)) → slice_get d.spreads.items array ≡ Some (Some spread) → context_at d.contexts spread.desc.ctxt ≡ Some g
    → None ≡ size_fault m spread → h.declared ≡ d → h.contents ≡ new → Writes array (loads_matrix (matrix_of m) (spread_array array spread g)) old new → IsHeld (Ok h) p (load_line (Some (matrix_of m)) array (state_of d p (resting old)))
load_written d p m array spread g h old new at e fits same held w =
    subst (λ (x : Spread). IsHeld (Ok h) p (unless_fault (size_fault m x) (Ok (state_of d p (with_written array (loads_matrix (matrix_of m) (spread_array array x (or_no_grid (context_at d.contexts x.desc.ctxt)))) (resting old)))))) (sym (ap or_no_spread at))
    (subst (λ (o : Option ExecFault). IsHeld (Ok h) p (unless_fault o (Ok (state_of d p (with_written array (loads_matrix (matrix_of m) (spread_array array spread (or_no_grid (context_at d.contexts spread.desc.ctxt)))) (resting old)))))) fits
    (ap (λ (x : Grid). state_of d p (with_written array (loads_matrix (matrix_of m) (spread_array array spread x)) (resting old))) (ap or_no_grid e)
    ∙ ap (state_of d p) (written_rests array _ old new w)
    ∙ ap (λ (arrays : List (List LocalCells)). state_of d p (resting arrays)) (sym held)
    ∙ ap (λ (x : Declared). state_of x p (resting h.contents)) (sym same)))

pub load_refused : (d : Declared) (p : PlanView RankOp) (m : Whole) (array : ℕ) (spread : Spread) (f : ExecFault) (old : List (List LocalCells)) → slice_get d.spreads.items array ≡ Some (Some spread)
    → Some f ≡ size_fault m spread → IsHeld (Err (Fault f)) p (load_line (Some (matrix_of m)) array (state_of d p (resting old)))
load_refused d p m array spread f old at fault =
    subst (λ (x : Spread). IsHeld (Err (Fault f)) p (unless_fault (size_fault m x) (Ok (state_of d p (with_written array (loads_matrix (matrix_of m) (spread_array array x (or_no_grid (context_at d.contexts x.desc.ctxt)))) (resting old)))))) (sym (ap or_no_spread at))
    (subst (λ (o : Option ExecFault). IsHeld (Err (Fault f)) p (unless_fault o (Ok (state_of d p (with_written array (loads_matrix (matrix_of m) (spread_array array spread (or_no_grid (context_at d.contexts spread.desc.ctxt)))) (resting old)))))) fault refl)

pub load_wanting : (p : PlanView RankOp) (r : Result ProgramState ExecFault) → IsHeld (Err NoMemory) p r
load_wanting p (Ok s) = tt
load_wanting p (Err f) = tt

pub holds_loaded : (d : Declared) (array : ℕ) (f : Writing) (old new : List (List LocalCells)) → HoldsArrays d.shapes old → Writes array f old new → HoldsArrays d.shapes new
holds_loaded d array f old new h w = holds_written d.shapes array f old new h w
