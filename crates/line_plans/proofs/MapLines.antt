-- A map by columns of a list by rows names the list's grid.
use Rattle.std.proofs.Common.{◌≡◌, ℕ, zero, suc, ◌+◌, ◌-◌, ◌*◌, ◌/◌, ◌%◌, ◌<◌, nat_lt, Bool, true, false, List, [], ◌∷◌, ◌++◌, length, map, Option, Some, None, Result, Ok, Err, refl, sym, ap, subst, ◌∙◌, arith}
use Rattle.std.specs.Prelude.{◌||◌, slice_index, if◌then◌else◌, IfSome, IfNone}
use Rattle.std.specs.List.{range_with_len}
use Rattle.std.specs.Option.{option_or}
use Rattle.std.proofs.lemmas.Bool.Decides.{nat_tests}
use Rattle.std.proofs.lemmas.Nat.{div-mul-add, mod-mul-add, mul-add-lt, div-add-mod', div_below}
use Rattle.std.proofs.Math.Nat.{mod-lt}
use Rattle.std.proofs.lemmas.List.{ext_get_or}
use Rattle.std.proofs.lemmas.List.FromFn.{length-map-range_with_len, get_or-map-range_with_len}
use Rattle.proc_grid.proofs.GridLemmas.{map-range_pushed}
use Rattle.proc_grid.specs.FirstOf.{first_of}
use Rattle.proc_grid.specs.Grid.{Grid}
use Rattle.proc_grid.specs.Refusals.{is_bad_extent, shape_refusal, lead_refusal, map_refusal, place_refusal, mapped_grid}
use Rattle.proc_grid.specs.declared.grid_err.GridErr.{GridErr}
use Rattle.proc_grid.specs.declared.grid_err.GridErr.TheVariants as grid_err
use Rattle.line_text.specs.FaultTables.{unless_fault}
use Rattle.msg_core.specs.Plans.{PlanView}
use Rattle.pack_words.specs.declared.rank_op.RankOp.{RankOp}
use Rattle.program_meaning.specs.ProgramState.{ProgramState}
use Rattle.program_meaning.specs.Declarations.{with_grid, map_fault}
use Rattle.line_plans.specs.declared.grown.Grown.{Grown}
use Rattle.line_plans.specs.declared.halt.Halt.{Halt}
use Rattle.line_plans.specs.Halts.{grid_halt_of}
use Rattle.line_plans.specs.Standing.{IsGrown}
use Rattle.line_plans.specs.Maps.{column_entry}
use Rattle.line_plans.proofs.SoundLaws.{grid_ok, grid_refused}

below_product : (a b m n : ℕ) → a < m → b < n → b * m + a < m * n
below_product a b m n ha hb = mul-add-lt b m a n hb ha

-- a place by columns is one of the list
pub column_inside : (listed : List ℕ) (nprow npcol k : ℕ) → length listed ≡ nprow * npcol → k < length listed → k % nprow * npcol + k / nprow < length listed
column_inside listed nprow npcol k whole lt =
    let some : 0 < nprow = positive nprow npcol (subst (λ n. k < n) whole lt) in
    let row : k % nprow < nprow = mod-lt k some in
    let column : k / nprow < npcol = div_below k nprow npcol some (subst (λ n. k < n) (whole ∙ turned nprow npcol) lt) in
    subst (λ n. k % nprow * npcol + k / nprow < n) (turned npcol nprow ∙ sym whole) (mul-add-lt (k % nprow) npcol (k / nprow) nprow row column)
  where
    turned : (x y : ℕ) → x * y ≡ y * x
    turned x y = grind arith

    positive : (a b : ℕ) → k < a * b → 0 < a
    positive zero b h = absurd (none b h)
      where
        none : (b : ℕ) → k < 0 * b → ⊥
        none b h = grind arith
    positive (suc a) b h = omega arith

pub some_rows : (listed : List ℕ) (nprow npcol k : ℕ) → length listed ≡ nprow * npcol → k < length listed → 0 < nprow
some_rows listed zero npcol k whole lt = absurd (none npcol (subst (λ n. k < n) whole lt))
  where
    none : (b : ℕ) → k < 0 * b → ⊥
    none b h = grind arith
some_rows listed (suc nprow) npcol k whole lt = omega arith

pub one_more : (f : ℕ → ℕ) (items grown : List ℕ) (k n : ℕ) → grown ≡ items ++ f k ∷ [] → items ≡ map f (range_with_len 0 k) → n ≡ k + 1 → grown ≡ map f (range_with_len 0 n)
one_more f items grown k n e g s = map-range_pushed f items grown k n e g s

-- one entry
entry_is : (listed : List ℕ) (nprow npcol k : ℕ) → k < nprow * npcol → 0 < npcol → slice_index (map (column_entry listed nprow npcol) (range_with_len 0 (nprow * npcol))) (k % npcol * nprow + k / npcol) ≡ slice_index listed k
entry_is listed nprow npcol k lt some =
    let row : k / npcol < nprow = div_below k npcol nprow some lt in
    let column : k % npcol < npcol = mod-lt k some in
    let c : ℕ = k % npcol * nprow + k / npcol in
    let inside : c < nprow * npcol = below_product (k / npcol) (k % npcol) nprow npcol row column in
    get_or-map-range_with_len (column_entry listed nprow npcol) 0 (nprow * npcol) c c 0 inside (omega arith)
    ∙ ap (λ n. slice_index listed (n * npcol + c / nprow)) (mod-mul-add (k % npcol) nprow (k / npcol) row)
    ∙ ap (λ n. slice_index listed (k / npcol * npcol + n)) (div-mul-add (k % npcol) nprow (k / npcol) row)
    ∙ ap (slice_index listed) (div-add-mod' k npcol)

-- the grid of the map
pub mapped_is : (listed : List ℕ) (nprow npcol : ℕ) → length listed ≡ nprow * npcol → 0 < npcol → mapped_grid (map (column_entry listed nprow npcol) (range_with_len 0 (nprow * npcol))) nprow nprow npcol ≡ record { nprow = nprow; npcol = npcol; ranks = listed }
mapped_is listed nprow npcol whole some = ap (λ (ranks : List ℕ). let g : Grid = record { nprow = nprow; npcol = npcol; ranks = ranks } in g) (
    ext_get_or 0 _ listed (length-map-range_with_len f 0 (nprow * npcol) ∙ sym whole)
    (λ k lt.
    let size = length-map-range_with_len f 0 (nprow * npcol) in
    let low : k < nprow * npcol = omega arith in
    get_or-map-range_with_len f 0 (nprow * npcol) k k 0 low (omega arith) ∙ entry_is listed nprow npcol k low some))
  where
    f : ℕ → ℕ
    f k = slice_index (map (column_entry listed nprow npcol) (range_with_len 0 (nprow * npcol))) (k % npcol * nprow + k / npcol)

-- and its refusal
pub refusal_is : (world : ℕ) (listed : List ℕ) (nprow npcol : ℕ) → length listed ≡ nprow * npcol
    → map_refusal world (map (column_entry listed nprow npcol) (range_with_len 0 (nprow * npcol))) nprow nprow npcol ≡ option_or (shape_refusal world nprow npcol) (first_of (place_refusal world listed) (nprow * npcol))
refusal_is world listed nprow npcol whole = step (is_bad_extent nprow || is_bad_extent npcol) refl
  where
    usermap : List ℕ
    usermap = map (column_entry listed nprow npcol) (range_with_len 0 (nprow * npcol))

    some : (a b : ℕ) → (is_bad_extent a || is_bad_extent b) ≡ false → 0 < b
    some a b e = grind (arith, nat_tests)

    wide : (a b : ℕ) → 0 < b → a * (b - 1) + a ≡ a * b
    wide a zero h = absurd (omega arith)
    wide a (suc b) h = grind arith

    lead : (a n m : ℕ) → n ≡ m → (if nat_lt a a || nat_lt n m then Some grid_err.BadLead else None) ≡ None
    lead a n m e = grind (arith, nat_tests)

    rest : 0 < npcol → option_or (lead_refusal usermap nprow nprow npcol) (first_of (place_refusal world (mapped_grid usermap nprow nprow npcol).ranks) (nprow * npcol)) ≡ first_of (place_refusal world listed) (nprow * npcol)
    rest h =
        ap (λ (o : Option GridErr). option_or o (first_of (place_refusal world (mapped_grid usermap nprow nprow npcol).ranks) (nprow * npcol))) (lead nprow (length usermap) (nprow * (npcol - 1) + nprow) (length-map-range_with_len (column_entry listed nprow npcol) 0 (nprow * npcol) ∙ sym (wide nprow npcol h)))
        ∙ ap (λ (g : Grid). first_of (place_refusal world g.ranks) (nprow * npcol)) (mapped_is listed nprow npcol whole h)

    step : (b : Bool) → (is_bad_extent nprow || is_bad_extent npcol) ≡ b → map_refusal world usermap nprow nprow npcol ≡ option_or (shape_refusal world nprow npcol) (first_of (place_refusal world listed) (nprow * npcol))
    step true e = bad (shape_refusal world nprow npcol) (shape e)
      where
        shape : (is_bad_extent nprow || is_bad_extent npcol) ≡ true → shape_refusal world nprow npcol ≡ Some (grid_err.BadShape nprow npcol)
        shape e = ap (λ b. if b then Some (grid_err.BadShape nprow npcol) else (if nat_lt world (nprow * npcol) then Some (grid_err.TooMany (nprow * npcol) world) else None)) e

        bad : (o : Option GridErr) → o ≡ Some (grid_err.BadShape nprow npcol) → option_or o (option_or (lead_refusal usermap nprow nprow npcol) (first_of (place_refusal world (mapped_grid usermap nprow nprow npcol).ranks) (nprow * npcol))) ≡ option_or o (first_of (place_refusal world listed) (nprow * npcol))
        bad None e = absurd cc
        bad (Some x) e = refl
    step false e = ap (λ (o : Option GridErr). option_or (shape_refusal world nprow npcol) o) (rest (some nprow npcol e))

-- ---- the line

some_columns : (world nprow npcol : ℕ) (o : Option GridErr) → option_or (shape_refusal world nprow npcol) o ≡ None → 0 < npcol
some_columns world nprow npcol o e = step (is_bad_extent nprow || is_bad_extent npcol) refl
  where
    none_first : (x y : Option GridErr) → option_or x y ≡ None → x ≡ None
    none_first None y e = refl
    none_first (Some z) y e = absurd cc

    positive : (a b : ℕ) → (is_bad_extent a || is_bad_extent b) ≡ false → 0 < b
    positive a b e = grind (arith, nat_tests)

    step : (b : Bool) → (is_bad_extent nprow || is_bad_extent npcol) ≡ b → 0 < npcol
    step true f =
        let shape : shape_refusal world nprow npcol ≡ Some (grid_err.BadShape nprow npcol) = ap (λ b. if b then Some (grid_err.BadShape nprow npcol) else (if nat_lt world (nprow * npcol) then Some (grid_err.TooMany (nprow * npcol) world) else None)) f in
        absurd (let none = none_first (shape_refusal world nprow npcol) o e in cc)
    step false f = positive nprow npcol f

module _ (world : ℕ) (listed : List ℕ) (nprow npcol : ℕ) (usermap : List ℕ) (whole : length listed ≡ nprow * npcol) (is : usermap ≡ map (column_entry listed nprow npcol) (range_with_len 0 (nprow * npcol))) where
  same : map_refusal world usermap nprow nprow npcol ≡ option_or (shape_refusal world nprow npcol) (first_of (place_refusal world listed) (nprow * npcol))
  same = ap (λ (m : List ℕ). map_refusal world m nprow nprow npcol) is ∙ refusal_is world listed nprow npcol whole

  pub map_ok : (p : PlanView RankOp) (s : ProgramState) (r : Result Grown Halt) (ctx : Grid) → IfSome (map_refusal world usermap nprow nprow npcol) (λ e. (let c : Result Grid GridErr = Ok ctx in c) ≡ Err e)
      → IfNone (map_refusal world usermap nprow nprow npcol) (ctx ≡ mapped_grid usermap nprow nprow npcol) → IsGrown r p s.state (Ok (with_grid ctx s))
      → IsGrown r p s.state (unless_fault (map_fault world nprow npcol listed) (Ok (with_grid (record { nprow = nprow; npcol = npcol; ranks = listed }) s)))
  map_ok p s r ctx refused made h =
      grid_ok p s r (option_or (shape_refusal world nprow npcol) (first_of (place_refusal world listed) (nprow * npcol))) (record { nprow = nprow; npcol = npcol; ranks = listed }) ctx
      (subst (λ (o : Option GridErr). IfSome o (λ e. (let c : Result Grid GridErr = Ok ctx in c) ≡ Err e)) same refused)
      (made_so (option_or (shape_refusal world nprow npcol) (first_of (place_refusal world listed) (nprow * npcol))) refl (subst (λ (o : Option GridErr). IfNone o (ctx ≡ mapped_grid usermap nprow nprow npcol)) same made)) h
    where
      made_so : (o : Option GridErr) → option_or (shape_refusal world nprow npcol) (first_of (place_refusal world listed) (nprow * npcol)) ≡ o → IfNone o (ctx ≡ mapped_grid usermap nprow nprow npcol) → IfNone o (ctx ≡ record { nprow = nprow; npcol = npcol; ranks = listed })
      made_so None e k = k ∙ ap (λ (m : List ℕ). mapped_grid m nprow nprow npcol) is ∙ mapped_is listed nprow npcol whole (some_columns world nprow npcol (first_of (place_refusal world listed) (nprow * npcol)) e)
      made_so (Some x) e k = tt

  pub map_refused : (p : PlanView RankOp) (s : ProgramState) (e : GridErr) → IfSome (map_refusal world usermap nprow nprow npcol) (λ x. (let c : Result Grid GridErr = Err e in c) ≡ Err x) → IfNone (map_refusal world usermap nprow nprow npcol) (e ≡ grid_err.NoMemory)
      → IsGrown (Err (grid_halt_of e)) p s.state (unless_fault (map_fault world nprow npcol listed) (Ok (with_grid (record { nprow = nprow; npcol = npcol; ranks = listed }) s)))
  map_refused p s e refused made =
      grid_refused p s (option_or (shape_refusal world nprow npcol) (first_of (place_refusal world listed) (nprow * npcol))) (record { nprow = nprow; npcol = npcol; ranks = listed }) e
      (subst (λ (o : Option GridErr). IfSome o (λ x. (let c : Result Grid GridErr = Err e in c) ≡ Err x)) same refused)
      (subst (λ (o : Option GridErr). IfNone o (e ≡ grid_err.NoMemory)) same made)
