-- An ARRAY line's answer is its meaning's.
use Rattle.std.proofs.Common.{◌≡◌, ℕ, suc, ◌+◌, ◌*◌, ◌/◌, ◌^◌, ◌<◌, ◌≤◌, nat_lt, Bool, true, false, List, [], ◌∷◌, length, max, Option, Some, None, Result, Ok, Err, ℤ, pos, refl, sym, ap, subst, ◌∙◌, arith, Vec, Global}
use Rattle.std.specs.Prelude.{slice_index, slice_index_or, is_some, IfOk, IfErr}
use Rattle.std.specs.List.{AllByRecursion}
use Rattle.std.specs.Option.{option_map}
use Rattle.std.proofs.lemmas.Bool.Decides.{nat_tests}
use Rattle.std.proofs.lemmas.Nat.{mul-add-lt}
use Rattle.std.proofs.lemmas.List.FromFn.{length-map-range_with_len, get_or-map-range_with_len}
use Rattle.line_text.specs.FaultTables.{when, first_fault, unless_fault}
use Rattle.index_tools.specs.Home.{local_columns}
use Rattle.proc_grid.specs.FirstOf.{first_of}
use Rattle.proc_grid.specs.Grid.{Grid, IsGrid, place_of, place_number}
use Rattle.proc_grid.specs.Held.{context_at}
use Rattle.proc_grid.proofs.FirstLemmas.{first_of-each}
use Rattle.proc_grid.proofs.GridLemmas.{place_of-rank, place_number-below}
use Rattle.descriptor.specs.Good.{IsGood, layout_of, lld_of}
use Rattle.descriptor.specs.Bounds.{part, least_lld}
use Rattle.descriptor.specs.declared.info.Info.{Info}
use Rattle.descriptor.specs.declared.spread.Spread.{Spread}
use Rattle.mr2d.specs.Homes.{rank_of}
use Rattle.msg_core.specs.Plans.{PlanView, word_count}
use Rattle.pack_words.specs.declared.rank_op.RankOp.{RankOp}
use Rattle.pack_words.specs.GridState.{GridState, rank_steps}
use Rattle.pack_words.specs.GridPlans.{IsOf}
use Rattle.program_meaning.specs.declared.fault.ExecFault.{ExecFault}
use Rattle.program_meaning.specs.declared.fault.ExecFault.TheVariants as fault
use Rattle.program_meaning.specs.ProgramState.{or_no_grid, large_fault}
use Rattle.program_meaning.specs.Declarations.{ArrayWords, lead_on, leads_on, process_info, spread_of, size_by, sizes_over, words_in, array_unless, array_line, with_array}
use Rattle.line_plans.specs.declared.declared.Declared.{Declared}
use Rattle.line_plans.specs.declared.grown.Grown.{Grown}
use Rattle.line_plans.specs.declared.halt.Halt.{Halt}
use Rattle.line_plans.specs.declared.halt.Halt.TheVariants.{Fault, NoMemory}
use Rattle.line_plans.specs.Fitting.{FitsSizes}
use Rattle.line_plans.specs.Exact.{IsExact}
use Rattle.line_plans.specs.Standing.{state_of, IsGrown, IsCounted, HasArrayMore}
use Rattle.line_plans.specs.ArrayLines.{IsNumber, IsGoodLine, HasLeads, HasLead, IsMeasured, IsRefusedArray}
use Rattle.line_plans.proofs.Settling.{grid_is}
use Rattle.line_plans.proofs.ProcessLaws.{good_line, leads_by, leads_long, lead_is}
use Rattle.line_plans.proofs.SoundLaws.{array_done}

-- what a line says that DESCINIT passes is good: its numbers are in range, and each leading dimension is at least the local rows
pub good_spread_by : (held : List Grid) (w : ArrayWords) (g : Grid) → IsGrid g → context_at held (pos w.grid) ≡ Some g → first_of (process_info held w g) (length g.ranks) ≡ None → IsGood (spread_of w g) g
unfolding spread_of
good_spread_by held w g is e none =
    let some : 0 < length g.ranks = let low = place_number-below g 0 0 is is.some_rows is.some_columns in omega arith in
    let first = first_of-each (process_info held w g) (length g.ranks) 0 none some in
    let line = good_line held w g (lead_on w g.nprow (0 / g.npcol) w.lld) (slice_index g.ranks 0) is e first in
    let leads = leads_by held w g is e none in
    let lead : (p q : ℕ) → p < g.nprow → q < g.npcol → IsNumber (slice_index_or (leads_on w g) (p * g.npcol + q) (pos 0)) (least_lld (part w.m) (part w.mb) (part w.rsrc) g.nprow p) (2 ^ 24)
    = λ p q hp hq. subst (λ (l : ℤ). IsNumber l (least_lld (part w.m) (part w.mb) (part w.rsrc) g.nprow p) (2 ^ 24)) (sym (lead_is w g p q hp hq (product_below p q g.nprow g.npcol hp hq))) (leads.each p q hp hq) in
    record {
      dtype = refl;
      rows = line.rows.number;
      columns = line.columns.number;
      row_block = line.row_block.number;
      column_block = line.column_block.number;
      row_source = line.row_source.number;
      column_source = line.column_source.number;
      rows_fit = line.rows.most;
      columns_fit = line.columns.most;
      row_block_fits = line.row_block.most;
      column_block_fits = line.column_block.most;
      layout = record { row_block = line.row_block.least; column_block = line.column_block.least; row_source = line.row_below; column_source = line.column_below };
      llds = leads_long w g;
      room = record { rows_fit = λ p q hp hq. let l = (lead p q hp hq).least in below_greatest _ _ l };
      some_lld = λ p q hp hq. let l = (lead p q hp hq).least in one_greatest _ _ l;
      llds_fit = λ p q hp hq. (lead p q hp hq).most;
    }
  where
    product_below : (p q a b : ℕ) → p < a → q < b → p * b + q < a * b
    product_below p q a b hp hq = let h = mul-add-lt p b q a hp hq in grind arith

    below_greatest : (n l : ℕ) → max 1 n ≤ l → n ≤ l
    below_greatest n l h = omega arith

    one_greatest : (n l : ℕ) → max 1 n ≤ l → 1 ≤ l
    one_greatest n l h = omega arith

-- the sizes that the definitions give fit
pub fits_by : (held : List Grid) (ranks : ℕ) (w : ArrayWords) (g : Grid) → IsGrid g → context_at held (pos w.grid) ≡ Some g → ((k : ℕ) → k < length g.ranks → slice_index g.ranks k < ranks) → first_of (process_info held w g) (length g.ranks) ≡ None
    → FitsSizes held ranks (sizes_over (spread_of w g) g ranks) (spread_of w g)
unfolding spread_of
fits_by held ranks w g is e low none = record {
  known = ap is_some e;
  good = λ h eh. subst (λ (x : Grid). IsGood (spread_of w g) x) (same h eh) (good_spread_by held w g is e none);
  within = λ h eh. subst (λ (x : Grid). (p q : ℕ) → p < x.nprow → q < x.npcol → rank_of x p q < ranks) (same h eh) below;
  sizes_are = λ h eh. subst (λ (x : Grid). (p q : ℕ) → p < x.nprow → q < x.npcol → slice_index_or (sizes_over (spread_of w g) g ranks) (rank_of x p q) (1, 0) ≡ (lld_of (spread_of w g) x p q, max 1 (local_columns (layout_of (spread_of w g) x) q))) (same h eh) here;
}
  where
    same : (h : Grid) → context_at held (pos w.grid) ≡ Some h → g ≡ h
    same h eh = ap or_no_grid (sym e ∙ eh)

    below : (p q : ℕ) → p < g.nprow → q < g.npcol → rank_of g p q < ranks
    below p q hp hq = low (place_number g.npcol p q) (place_number-below g p q is hp hq)

    here : (p q : ℕ) → p < g.nprow → q < g.npcol → slice_index_or (sizes_over (spread_of w g) g ranks) (rank_of g p q) (1, 0) ≡ (lld_of (spread_of w g) g p q, max 1 (local_columns (layout_of (spread_of w g) g) q))
    here p q hp hq =
        get_or-map-range_with_len (λ r. size_by (spread_of w g) g (place_of g r)) 0 ranks (rank_of g p q) (rank_of g p q) (1, 0) (below p q hp hq) (omega arith)
        ∙ ap (size_by (spread_of w g) g) (place_of-rank g p q is hp hq)

-- over the line's grid
over_grid : (before : Declared) (p : PlanView RankOp) (state : GridState) (w : ArrayWords) (g : Grid) (r : Result Grown Halt) → context_at before.contexts (pos w.grid) ≡ Some g
    → IsGrown r p state (array_unless (option_map fault.Info (first_of (process_info before.contexts w g) (length g.ranks))) (Some (spread_of w g)) (sizes_over (spread_of w g) g before.shapes.ranks) (state_of before p state))
    → IsGrown r p state (array_line w (state_of before p state))
over_grid before p state w g r e h = subst (λ (x : Grid). IsGrown r p state (array_unless (option_map fault.Info (first_of (process_info before.contexts w x) (length x.ranks))) (Some (spread_of w x)) (sizes_over (spread_of w x) x before.shapes.ranks) (state_of before p state))) (sym (grid_is before p state w.grid g e)) h

sizes_long : (spread : Spread) (g : Grid) (ranks : ℕ) → length (sizes_over spread g ranks) ≡ ranks
sizes_long spread g ranks = length-map-range_with_len (λ r. size_by spread g (place_of g r)) 0 ranks

total_is : (before : Declared) (p : PlanView RankOp) (w : ArrayWords) (spread : Spread) (sizes : List (ℕ × ℕ)) (area : ℕ) (m : IsMeasured before.contexts before.shapes.ranks w spread sizes area) → before.words + word_count rank_steps p.steps + area ≡ before.words + word_count rank_steps p.steps + words_in (sizes_over (spread_of w m.grid) m.grid before.shapes.ranks)
total_is before p w spread sizes area m = ap (λ n. before.words + word_count rank_steps p.steps + n) (m.words_are ∙ ap words_in m.sizes_are)

-- it is made
pub array_ready : (before : Declared) (p : PlanView RankOp) (state : GridState) (w : ArrayWords) (spread : Spread) (made : Vec (ℕ × ℕ) Global) (area : ℕ) (r : Result Grown Halt)
    → IsMeasured before.contexts before.shapes.ranks w spread made.items area → IsOf before.shapes p state → IsExact before.shapes state
    → large_fault (before.words + word_count rank_steps p.steps + area) ≡ None → IfOk r (λ x. HasArrayMore before x.declared (Some spread) made.items) → IfOk r (λ x. x.sizes ≡ Some made) → IfErr r (λ h. h ≡ NoMemory)
    → IsGrown r p state (array_line w (state_of before p state))
array_ready before p state w spread made area r m is exact few ok told err =
    over_grid before p state w m.grid r m.known
    (array_done before p state (option_map fault.Info (first_of (process_info before.contexts w m.grid) (length m.grid.ranks))) (Some (spread_of w m.grid)) (sizes_over (spread_of w m.grid) m.grid before.shapes.ranks) made r is exact
    (sizes_long (spread_of w m.grid) m.grid before.shapes.ranks)
    (ap (option_map fault.Info) m.passed)
    (subst (λ n. large_fault n ≡ None) (total_is before p w spread made.items area m) few)
    m.sizes_are
    (subst (λ (x : Spread). IfOk r (λ y. HasArrayMore before y.declared (Some x) made.items)) m.spread_is ok)
    told err)

-- it has too many words
pub array_large : (before : Declared) (p : PlanView RankOp) (state : GridState) (w : ArrayWords) (spread : Spread) (sizes : List (ℕ × ℕ)) (area : ℕ) (halt : Halt)
    → IsMeasured before.contexts before.shapes.ranks w spread sizes area → IsCounted (Err halt) (before.words + word_count rank_steps p.steps + area) → IsGrown (Err halt) p state (array_line w (state_of before p state))
array_large before p state w spread sizes area NoMemory m h = tt
array_large before p state w spread sizes area (Fault f) m h =
    over_grid before p state w m.grid (Err (Fault f)) m.known
    (answer (option_map fault.Info (first_of (process_info before.contexts w m.grid) (length m.grid.ranks))) (large_fault (before.words + word_count rank_steps p.steps + words_in (sizes_over (spread_of w m.grid) m.grid before.shapes.ranks))) (ap (option_map fault.Info) m.passed) (subst (λ n. large_fault n ≡ Some f) (total_is before p w spread sizes area m) h))
  where
    answer : (own large : Option ExecFault) → own ≡ None → large ≡ Some f → IsGrown (Err (Fault f)) p state (unless_fault (first_fault (own ∷ large ∷ [])) (Ok (with_array (Some (spread_of w m.grid)) (sizes_over (spread_of w m.grid) m.grid before.shapes.ranks) (state_of before p state))))
    answer own large a b =
        subst (λ (o : Option ExecFault). IsGrown (Err (Fault f)) p state (unless_fault (first_fault (o ∷ large ∷ [])) (Ok (with_array (Some (spread_of w m.grid)) (sizes_over (spread_of w m.grid) m.grid before.shapes.ranks) (state_of before p state))))) (sym a)
        (subst (λ (o : Option ExecFault). IsGrown (Err (Fault f)) p state (unless_fault (first_fault (None ∷ o ∷ [])) (Ok (with_array (Some (spread_of w m.grid)) (sizes_over (spread_of w m.grid) m.grid before.shapes.ranks) (state_of before p state))))) (sym b) refl)

-- DESCINIT refuses it
pub array_refused : (before : Declared) (p : PlanView RankOp) (state : GridState) (w : ArrayWords) (halt : Halt) → IsRefusedArray halt before.contexts w → IsGrown (Err halt) p state (array_line w (state_of before p state))
array_refused before p state w NoMemory h = tt
array_refused before p state w (Fault (fault.Info i)) h =
    over_grid before p state w h.0 (Err (Fault (fault.Info i))) h.1
    (answer (first_of (process_info before.contexts w h.0) (length h.0.ranks)) (large_fault (before.words + word_count rank_steps p.steps + words_in (sizes_over (spread_of w h.0) h.0 before.shapes.ranks))) h.2)
  where
    answer : (own : Option Info) (large : Option ExecFault) → own ≡ Some i → IsGrown (Err (Fault (fault.Info i))) p state (unless_fault (first_fault (option_map fault.Info own ∷ large ∷ [])) (Ok (with_array (Some (spread_of w h.0)) (sizes_over (spread_of w h.0) h.0 before.shapes.ranks) (state_of before p state))))
    answer own large a = subst (λ (o : Option Info). IsGrown (Err (Fault (fault.Info i))) p state (unless_fault (first_fault (option_map fault.Info o ∷ large ∷ [])) (Ok (with_array (Some (spread_of w h.0)) (sizes_over (spread_of w h.0) h.0 before.shapes.ranks) (state_of before p state))))) (sym a) refl
array_refused before p state w (Fault (fault.Grid x)) h = absurd h
array_refused before p state w (Fault (fault.Scope x)) h = absurd h
array_refused before p state w (Fault fault.SameArray) h = absurd h
array_refused before p state w (Fault fault.TooManyOps) h = absurd h
array_refused before p state w (Fault (fault.Waiting x y)) h = absurd h
array_refused before p state w (Fault (fault.TooLarge x)) h = absurd h
array_refused before p state w (Fault (fault.Size x y z u)) h = absurd h

-- where every process passes, the line's numbers are good
pub good_by : (held : List Grid) (w : ArrayWords) (g : Grid) → IsGrid g → context_at held (pos w.grid) ≡ Some g → first_of (process_info held w g) (length g.ranks) ≡ None → IsGoodLine w g
good_by held w g is e none =
    let filled = is.filled in
    let low : 0 * g.nprow + 0 < g.nprow * g.npcol = mul-add-lt 0 g.nprow 0 g.npcol is.some_columns is.some_rows in
    let some : 0 < length g.ranks = omega arith in
    good_line held w g (lead_on w g.nprow (0 / g.npcol) w.lld) (slice_index g.ranks 0) is e (first_of-each (process_info held w g) (length g.ranks) 0 none some)

spread_same : (w : ArrayWords) (g : Grid) (ctxt m n mb nb rsrc csrc lld : ℤ) (llds : List ℤ)
    → ctxt ≡ pos w.grid → m ≡ w.m → n ≡ w.n → mb ≡ w.mb → nb ≡ w.nb → rsrc ≡ w.rsrc → csrc ≡ w.csrc → lld ≡ slice_index_or (leads_on w g) 0 (pos 0) → llds ≡ leads_on w g
    → (let s : Spread = record { desc = record { dtype = pos 1; ctxt = ctxt; m = m; n = n; mb = mb; nb = nb; rsrc = rsrc; csrc = csrc; lld = lld }; llds = llds } in s) ≡ spread_of w g
unfolding spread_of
spread_same w g ctxt m n mb nb rsrc csrc lld llds a b c d e f h i j = cc

-- it is measured
pub measured_by : (held : List Grid) (ranks : ℕ) (w : ArrayWords) (g : Grid) (sizes : List (ℕ × ℕ)) (words : ℕ) (ctxt m n mb nb rsrc csrc lld : ℤ) (llds : List ℤ)
    → ctxt ≡ pos w.grid → m ≡ w.m → n ≡ w.n → mb ≡ w.mb → nb ≡ w.nb → rsrc ≡ w.rsrc → csrc ≡ w.csrc → lld ≡ slice_index_or (leads_on w g) 0 (pos 0) → llds ≡ leads_on w g
    → IsGrid g → context_at held (pos w.grid) ≡ Some g → ((k : ℕ) → k < length g.ranks → slice_index g.ranks k < ranks) → first_of (process_info held w g) (length g.ranks) ≡ None
    → sizes ≡ sizes_over (spread_of w g) g ranks → words ≡ words_in sizes → words ≤ 2 ^ 60 → AllByRecursion HasLead sizes
    → IsMeasured held ranks w (record { desc = record { dtype = pos 1; ctxt = ctxt; m = m; n = n; mb = mb; nb = nb; rsrc = rsrc; csrc = csrc; lld = lld }; llds = llds }) sizes words
measured_by held ranks w g sizes words ctxt m n mb nb rsrc csrc lld llds a b c d e f h i j is known low none sizes_are words_are few leads =
    let x : Spread = record { desc = record { dtype = pos 1; ctxt = ctxt; m = m; n = n; mb = mb; nb = nb; rsrc = rsrc; csrc = csrc; lld = lld }; llds = llds } in
    let same = spread_same w g ctxt m n mb nb rsrc csrc lld llds a b c d e f h i j in
    record {
      grid = g;
      known = known;
      passed = none;
      spread_is = same;
      sizes_are = sizes_are;
      words_are = words_are;
      words_fit = few;
      leads = leads;
      fits = subst (λ (xs : List (ℕ × ℕ)). FitsSizes held ranks xs x) (sym sizes_are) (subst (λ (s : Spread). FitsSizes held ranks (sizes_over (spread_of w g) g ranks) s) (sym same) (fits_by held ranks w g is known low none));
    }

pub measured_long : (held : List Grid) (ranks : ℕ) (w : ArrayWords) (spread : Spread) (sizes : List (ℕ × ℕ)) (words : ℕ) → IsMeasured held ranks w spread sizes words → length sizes ≡ ranks
measured_long held ranks w spread sizes words m = ap length m.sizes_are ∙ sizes_long (spread_of w m.grid) m.grid ranks

-- so many words are not too many
pub few_by : (n : ℕ) → large_fault n ≡ None → n ≤ 2 ^ 26
few_by n h = test (nat_lt (2 ^ 26) n) refl h
  where
    test : (b : Bool) → nat_lt (2 ^ 26) n ≡ b → when b (fault.TooLarge n) ≡ None → n ≤ 2 ^ 26
    test true e h = absurd cc
    test false e h = grind (arith, nat_tests)

pub part_few : (arrays messages area total : ℕ) → total ≡ arrays + messages + area → total ≤ 2 ^ 26 → area ≤ 2 ^ 26
part_few arrays messages area total e le = omega arith
