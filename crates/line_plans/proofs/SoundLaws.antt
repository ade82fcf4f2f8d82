-- What is declared stays sound as more is declared.
use Rattle.std.proofs.Common.{◌≡◌, ℕ, zero, suc, ◌+◌, ◌<◌, ◌≤◌, true, List, [], ◌∷◌, ◌++◌, length, Option, Some, None, Result, Ok, Err, ℤ, pos, negsuc, refl, sym, ap, subst, ◌∙◌, arith, length-append, inl, inr, Vec, Global}
use Rattle.std.specs.Prelude.{◌⊎◌, slice_get, slice_index, is_some, IfSome, IfNone, IfOk, IfErr}
use Rattle.line_text.specs.FaultTables.{first_fault, unless_fault}
use Rattle.std.specs.Option.{option_map}
use Rattle.proc_grid.specs.Grid.{Grid}
use Rattle.mr2d.specs.Homes.{HasShape, rank_of}
use Rattle.mr2d.specs.Calls.{spread_array}
use Rattle.proc_grid.specs.Held.{context_at}
use Rattle.proc_grid.specs.declared.grid_err.GridErr.{GridErr}
use Rattle.proc_grid.specs.declared.grid_err.GridErr.TheVariants as grid_err
use Rattle.descriptor.specs.declared.spread.Spread.{Spread}
use Rattle.msg_core.specs.Plans.{PlanView, message_count, word_count}
use Rattle.pack_words.specs.declared.rank_op.RankOp.{RankOp}
use Rattle.pack_words.specs.GridState.{GridState, rank_steps}
use Rattle.pack_words.specs.GridShapes.{ShapesView, shape_of}
use Rattle.pack_words.specs.GridPlans.{IsOf}
use Rattle.program_meaning.specs.declared.fault.ExecFault.{ExecFault}
use Rattle.program_meaning.specs.declared.fault.ExecFault.TheVariants as fault
use Rattle.program_meaning.specs.ProgramState.{ProgramState, large_fault}
use Rattle.program_meaning.specs.Declarations.{with_grid, words_in, with_array, array_unless}
use Rattle.line_plans.specs.declared.declared.Declared.{Declared}
use Rattle.line_plans.specs.declared.grown.Grown.{Grown}
use Rattle.line_plans.specs.declared.halt.Halt.{Halt}
use Rattle.line_plans.specs.declared.halt.Halt.TheVariants.{Fault, NoMemory}
use Rattle.line_plans.specs.Halts.{grid_halt_of}
use Rattle.program_meaning.specs.Sound.{AreWithin, IsSpreadOut, IsSound}
use Rattle.line_plans.specs.Fitting.{FitsSizes, AreAlike}
use Rattle.line_plans.specs.Standing.{state_of, IsFresh, sizes_in, grown_by, IsGrown, HasGridMore, HasArrayMore}
use Rattle.line_plans.specs.Exact.{IsExact, HasMore}
use Rattle.line_plans.proofs.ArrayLaws.{get_front, get_last, more_shapes, more_exact}

-- nothing is declared
pub none_sound : (ranks : ℕ) → 0 < ranks → ranks ≤ 64 → IsSound [] (record { ranks = ranks; count = 0; sizes = [] }) []
none_sound ranks some most = record {
  some = some;
  most = most;
  one_each = refl;
  within = λ n g e k lt. absurd cc;
  spread_out = λ array spread e. absurd cc;
  alike = λ array e r lt. absurd cc;
}

-- ---- one grid more

kept_at : (held : List Grid) (g : Grid) (n : ℕ) → is_some (slice_get held n) ≡ true → slice_get (held ++ g ∷ []) n ≡ slice_get held n
kept_at [] g n e = absurd cc
kept_at (h ∷ held) g zero e = refl
kept_at (h ∷ held) g (suc n) e = kept_at held g n e

context_kept : (held : List Grid) (g : Grid) (n : ℤ) → is_some (context_at held n) ≡ true → context_at (held ++ g ∷ []) n ≡ context_at held n
context_kept held g (pos n) e = kept_at held g n e
context_kept held g (negsuc n) e = refl

within_more : (ranks : ℕ) (held : List Grid) (g : Grid) → AreWithin ranks held → ((k : ℕ) → k < length g.ranks → slice_index g.ranks k < ranks) → AreWithin ranks (held ++ g ∷ [])
within_more ranks [] g all here zero x e k lt = let same : g ≡ x = cc in subst (λ (y : Grid). slice_index y.ranks k < ranks) same (here k (subst (λ (y : Grid). k < length y.ranks) (sym same) lt))
within_more ranks [] g all here (suc n) x e k lt = absurd cc
within_more ranks (h ∷ held) g all here zero x e k lt = all zero x e k lt
within_more ranks (h ∷ held) g all here (suc n) x e k lt = within_more ranks held g (λ m y. all (suc m) y) here n x e k lt

pub grid_more : (held : List Grid) (v : ShapesView) (spreads : List (Option Spread)) (g : Grid) → IsSound held v spreads → ((k : ℕ) → k < length g.ranks → slice_index g.ranks k < v.ranks) → IsSound (held ++ g ∷ []) v spreads
grid_more held v spreads g h here = record {
  some = h.some;
  most = h.most;
  one_each = h.one_each;
  within = within_more v.ranks held g h.within here;
  spread_out = λ array spread at.
      let o = h.spread_out array spread at in
      let same : context_at (held ++ g ∷ []) spread.desc.ctxt ≡ context_at held spread.desc.ctxt = context_kept held g spread.desc.ctxt o.known in
      record { known = ap (λ (x : Option Grid). is_some x) same ∙ o.known; good = λ x e. o.good x (sym same ∙ e); sizes = λ x e. o.sizes x (sym same ∙ e) };
  alike = h.alike;
}

-- what stands for a state with one grid more
grid_state : (a b : List Grid) (v w : ShapesView) (xs ys : List (Option Spread)) (state : GridState) (m n : ℕ) (p : PlanView RankOp) → a ≡ b → v ≡ w → xs ≡ ys → m ≡ n
    → (let s : ProgramState = record { grids = a; shapes = v; spreads = xs; state = state; operations = length p.steps; messages = message_count rank_steps p.steps; words = m + word_count rank_steps p.steps } in s)
    ≡ record { grids = b; shapes = w; spreads = ys; state = state; operations = length p.steps; messages = message_count rank_steps p.steps; words = n + word_count rank_steps p.steps }
grid_state a b v w xs ys state m n p e f g h = cc

pub grid_at : (before after : Declared) (p : PlanView RankOp) (state : GridState) (g : Grid) → HasGridMore before after g → IsOf before.shapes p state → IsExact before.shapes state → IsFresh after p (with_grid g (state_of before p state))
grid_at before after p state g h is exact = record {
  at = record {
    state_is = grid_state _ _ _ _ _ _ state _ _ p (sym h.contexts) (sym h.shapes) (sym h.spreads) (sym h.words);
    of_plan = subst (λ (v : ShapesView). IsOf v p state) (sym h.shapes) is;
  };
  exact = subst (λ (v : ShapesView). IsExact v state) (sym h.shapes) exact;
}

-- a grid line whose grid is made
pub grid_made : (before : Declared) (p : PlanView RankOp) (state : GridState) (g : Grid) (r : Result Grown Halt) → IsOf before.shapes p state → IsExact before.shapes state → IfOk r (λ x. HasGridMore before x.declared g) → IfOk r (λ x. x.sizes ≡ None) → IfErr r (λ h. h ≡ NoMemory)
    → IsGrown r p state (Ok (with_grid g (state_of before p state)))
grid_made before p state g (Ok x) is exact ok none err = (grid_at before x.declared p state g ok is exact, sym (ap (λ (o : Option (Vec (ℕ × ℕ) Global)). grown_by (sizes_in o) state) none))
grid_made before p state g (Err (Fault f)) is exact ok none err = absurd cc
grid_made before p state g (Err NoMemory) is exact ok none err = tt

-- a grid line that is refused
grid_fault : (p : PlanView RankOp) (state : GridState) (e : GridErr) → IsGrown (Err (grid_halt_of e)) p state (Err (fault.Grid e))
grid_fault p state (grid_err.BadShape a b) = refl
grid_fault p state (grid_err.TooMany a b) = refl
grid_fault p state grid_err.BadLead = refl
grid_fault p state (grid_err.NoProcess n) = refl
grid_fault p state (grid_err.Twice n) = refl
grid_fault p state grid_err.NoMemory = tt

-- both, by the grid's refusal
pub grid_ok : (p : PlanView RankOp) (s : ProgramState) (r : Result Grown Halt) (refusal : Option GridErr) (g ctx : Grid) → IfSome refusal (λ e. (let c : Result Grid GridErr = Ok ctx in c) ≡ Err e) → IfNone refusal (ctx ≡ g) → IsGrown r p s.state (Ok (with_grid ctx s))
    → IsGrown r p s.state (unless_fault (option_map fault.Grid refusal) (Ok (with_grid g s)))
grid_ok p s r None g ctx refused made h = subst (λ (x : Grid). IsGrown r p s.state (Ok (with_grid x s))) made h
grid_ok p s r (Some e) g ctx refused made h = absurd cc

pub grid_refused : (p : PlanView RankOp) (s : ProgramState) (refusal : Option GridErr) (g : Grid) (e : GridErr) → IfSome refusal (λ x. (let c : Result Grid GridErr = Err e in c) ≡ Err x) → IfNone refusal (e ≡ grid_err.NoMemory) → IsGrown (Err (grid_halt_of e)) p s.state (unless_fault (option_map fault.Grid refusal) (Ok (with_grid g s)))
grid_refused p s None g e refused made = subst (λ (x : GridErr). IsGrown (Err (grid_halt_of x)) p s.state (Ok (with_grid g s))) (sym made) tt
grid_refused p s (Some x) g e refused made = subst (λ (y : GridErr). IsGrown (Err (grid_halt_of y)) p s.state (Err (fault.Grid x))) (let same : x ≡ e = cc in same) (grid_fault p s.state x)

-- ---- one array more

last_or_before : (a count : ℕ) → a < count + 1 → (a < count) ⊎ (a ≡ count)
last_or_before a count lt = grind arith

get_within : {X : Type 0} (xs : List X) (k : ℕ) (x : X) → slice_get xs k ≡ Some x → k < length xs
get_within [] k x e = absurd cc
get_within (y ∷ xs) zero x e = omega arith
get_within (y ∷ xs) (suc k) x e = let h = get_within xs k x e in omega arith

shape_kept : (v w : ShapesView) (sizes : List (ℕ × ℕ)) (array : ℕ) (spread : Spread) (g : Grid) → HasMore v w sizes → HasShape (spread_array array spread g) v → HasShape (spread_array array spread g) w
shape_kept v w sizes array spread g more h = record {
  array = let a = h.array in let n = more.count in omega arith;
  ranks = λ p q lp lq. subst (λ n. rank_of g p q < n) (sym more.ranks) (h.ranks p q lp lq);
  sizes = λ p q lp lq. more.others (rank_of g p q) array (h.ranks p q lp lq) h.array ∙ h.sizes p q lp lq;
}

shape_new : (held : List Grid) (v w : ShapesView) (sizes : List (ℕ × ℕ)) (spread : Spread) (g : Grid) → HasMore v w sizes → FitsSizes held v.ranks sizes spread → context_at held spread.desc.ctxt ≡ Some g → HasShape (spread_array v.count spread g) w
shape_new held v w sizes spread g more fits e = record {
  array = let n = more.count in omega arith;
  ranks = λ p q lp lq. subst (λ n. rank_of g p q < n) (sym more.ranks) (fits.within g e p q lp lq);
  sizes = λ p q lp lq. more.here (rank_of g p q) (fits.within g e p q lp lq) ∙ fits.sizes_are g e p q lp lq;
}

pub array_more : (held : List Grid) (v w : ShapesView) (spreads : List (Option Spread)) (spread : Option Spread) (sizes : List (ℕ × ℕ)) → IsSound held v spreads → HasMore v w sizes → IfSome spread (λ s. FitsSizes held v.ranks sizes s) → IfNone spread (AreAlike v.ranks sizes)
    → IsSound held w (spreads ++ spread ∷ [])
array_more held v w spreads spread sizes h more fits same = record {
  some = subst (λ n. 0 < n) (sym more.ranks) h.some;
  most = subst (λ n. n ≤ 64) (sym more.ranks) h.most;
  one_each = length-append spreads (spread ∷ []) ∙ ap (λ n. n + 1) h.one_each ∙ sym more.count;
  within = subst (λ n. AreWithin n held) (sym more.ranks) h.within;
  spread_out = λ array s at.
      let lt : array < length (spreads ++ spread ∷ []) = get_within (spreads ++ spread ∷ []) array (Some s) at in
      let long : length (spreads ++ spread ∷ []) ≡ length spreads + 1 = length-append spreads (spread ∷ []) in
      let some : array < length spreads + 1 = omega arith in
      step array s at (last_or_before array (length spreads) some);
  alike = λ array at r lt.
      let within : array < length (spreads ++ spread ∷ []) = get_within (spreads ++ spread ∷ []) array None at in
      let long : length (spreads ++ spread ∷ []) ≡ length spreads + 1 = length-append spreads (spread ∷ []) in
      let some : array < length spreads + 1 = omega arith in
      all_alike array at r (subst (λ n. r < n) more.ranks lt) (last_or_before array (length spreads) some);
}
  where
    all_alike : (array : ℕ) → slice_get (spreads ++ spread ∷ []) array ≡ Some None → (r : ℕ) → r < v.ranks → (array < length spreads) ⊎ (array ≡ length spreads) → shape_of w r array ≡ shape_of w 0 array
    all_alike array at r lt (inl before) =
        let low : array < v.count = subst (λ n. array < n) h.one_each before in
        more.others r array lt low ∙ h.alike array (sym (get_front spreads spread array before) ∙ at) r lt ∙ sym (more.others 0 array h.some low)
    all_alike array at r lt (inr last) =
        let whole : Some spread ≡ Some None = sym (get_last spreads spread array last) ∙ at in
        let none : spread ≡ None = cc in
        let alike : AreAlike v.ranks sizes = subst (λ (o : Option Spread). IfNone o (AreAlike v.ranks sizes)) none same in
        let here : array ≡ v.count = last ∙ h.one_each in
        ap (shape_of w r) here ∙ more.here r lt ∙ alike r lt ∙ sym (more.here 0 h.some) ∙ sym (ap (shape_of w 0) here)

    step : (array : ℕ) (s : Spread) → slice_get (spreads ++ spread ∷ []) array ≡ Some (Some s) → (array < length spreads) ⊎ (array ≡ length spreads) → IsSpreadOut held w array s
    step array s at (inl before) =
        let o = h.spread_out array s (sym (get_front spreads spread array before) ∙ at) in
        record { known = o.known; good = o.good; sizes = λ g e. shape_kept v w sizes array s g more (o.sizes g e) }
    step array s at (inr last) =
        let same : Some spread ≡ Some (Some s) = sym (get_last spreads spread array last) ∙ at in
        let is : spread ≡ Some s = cc in
        let f : FitsSizes held v.ranks sizes s = subst (λ (o : Option Spread). IfSome o (λ s. FitsSizes held v.ranks sizes s)) is fits in
        let here : v.count ≡ array = sym h.one_each ∙ sym last in
        record { known = f.known; good = f.good; sizes = λ g e. subst (λ n. HasShape (spread_array n s g) w) here (shape_new held v w sizes s g more f e) }

words_more : (a b words sizes : ℕ) → words ≡ a + sizes → a + b + sizes ≡ words + b
words_more a b words sizes e = omega arith

array_state : (a b : List Grid) (v w : ShapesView) (xs ys : List (Option Spread)) (state : GridState) (m n : ℕ) (p : PlanView RankOp) → a ≡ b → v ≡ w → xs ≡ ys → m ≡ n
    → (let s : ProgramState = record { grids = a; shapes = v; spreads = xs; state = state; operations = length p.steps; messages = message_count rank_steps p.steps; words = m } in s)
    ≡ record { grids = b; shapes = w; spreads = ys; state = state; operations = length p.steps; messages = message_count rank_steps p.steps; words = n }
array_state a b v w xs ys state m n p e f g h = cc

pub array_at : (before after : Declared) (p : PlanView RankOp) (state : GridState) (spread : Option Spread) (sizes : List (ℕ × ℕ)) → HasArrayMore before after spread sizes → length sizes ≡ before.shapes.ranks → IsOf before.shapes p state → IsExact before.shapes state
    → IsFresh after p (with_array spread sizes (state_of before p state))
unfolding with_array
array_at before after p state spread sizes h whole is exact = record {
  at = record {
    state_is = array_state _ _ _ _ _ _ _ _ _ p (sym h.contexts) (sym h.shapes) (sym h.spreads) (words_more before.words (word_count rank_steps p.steps) after.words (words_in sizes) h.words);
    of_plan = record { shaped = more_shapes before.shapes after.shapes sizes state.arrays state.waits h.more whole is.shaped exact; lens_are = is.lens_are };
  };
  exact = more_exact before.shapes after.shapes sizes state.arrays state.waits h.more whole is.shaped exact;
}

grown_so : (before : Declared) (p : PlanView RankOp) (state : GridState) (spread : Option Spread) (sizes : List (ℕ × ℕ)) (made : Vec (ℕ × ℕ) Global) (o : Option (Vec (ℕ × ℕ) Global)) → o ≡ Some made → made.items ≡ sizes
    → (with_array spread sizes (state_of before p state)).state ≡ grown_by (sizes_in o) state
unfolding with_array
grown_so before p state spread sizes made o e same = sym (ap (λ (x : Option (Vec (ℕ × ℕ) Global)). grown_by (sizes_in x) state) e ∙ ap (λ (xs : List (ℕ × ℕ)). grown_by (Some xs) state) same)

-- a line that declares an array, whose own cause is none and whose words are not too many
pub array_done : (before : Declared) (p : PlanView RankOp) (state : GridState) (own : Option ExecFault) (spread : Option Spread) (sizes : List (ℕ × ℕ)) (made : Vec (ℕ × ℕ) Global) (r : Result Grown Halt) → IsOf before.shapes p state → IsExact before.shapes state → length sizes ≡ before.shapes.ranks
    → own ≡ None → large_fault (before.words + word_count rank_steps p.steps + words_in sizes) ≡ None → made.items ≡ sizes → IfOk r (λ x. HasArrayMore before x.declared spread made.items) → IfOk r (λ x. x.sizes ≡ Some made) → IfErr r (λ h. h ≡ NoMemory)
    → IsGrown r p state (array_unless own spread sizes (state_of before p state))
array_done before p state own spread sizes made r is exact whole none few same ok told err =
    subst (λ (o : Option ExecFault). IsGrown r p state (unless_fault (first_fault (o ∷ large_fault (before.words + word_count rank_steps p.steps + words_in sizes) ∷ [])) (Ok (with_array spread sizes (state_of before p state))))) (sym none)
    (subst (λ (o : Option ExecFault). IsGrown r p state (unless_fault (first_fault (None ∷ o ∷ [])) (Ok (with_array spread sizes (state_of before p state))))) (sym few) (step r ok told err))
  where
    step : (q : Result Grown Halt) → IfOk q (λ x. HasArrayMore before x.declared spread made.items) → IfOk q (λ x. x.sizes ≡ Some made) → IfErr q (λ h. h ≡ NoMemory) → IsGrown q p state (Ok (with_array spread sizes (state_of before p state)))
    step (Ok x) ok told err = (array_at before x.declared p state spread sizes (subst (λ (xs : List (ℕ × ℕ)). HasArrayMore before x.declared spread xs) same ok) whole is exact, grown_so before p state spread sizes made x.sizes told same)
    step (Err (Fault f)) ok told err = absurd cc
    step (Err NoMemory) ok told err = tt
