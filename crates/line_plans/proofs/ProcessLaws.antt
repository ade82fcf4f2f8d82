-- What DESCINIT finds on the processes of an ARRAY line.
use Rattle.std.proofs.Common.{◌≡◌, ℕ, suc, ◌+◌, ◌-◌, ◌*◌, ◌/◌, ◌%◌, ◌^◌, ◌<◌, ◌≤◌, nat_lt, Bool, true, false, List, [], ◌∷◌, map, length, Option, Some, None, ℤ, pos, refl, sym, ap, subst, drop, ◌++◌, ◌∙◌, arith}
use Rattle.std.specs.Prelude.{◌||◌, ◌==◌, slice_index, slice_index_or, if◌then◌else◌, position}
use Rattle.std.proofs.lemmas.Bool.Decides.{nat_tests}
use Rattle.std.proofs.lemmas.Nat.{div-add-mod', div_below, div-mul-add, mul-add-lt}
use Rattle.std.proofs.lemmas.List.Quantifiers.{position-Some}
use Rattle.std.specs.Option.{option_map}
use Rattle.std.proofs.Math.Nat.{mod-lt}
use Rattle.index_tools.specs.Spread.{spread}
use Rattle.index_tools.proofs.HomeLemmas.{below_le}
use Rattle.std.specs.List.{range_with_len}
use Rattle.std.proofs.lemmas.List.FromFn.{map-range_with_len_more, length-map-range_with_len, get_or-map-range_with_len}
use Rattle.proc_grid.specs.FirstOf.{first_of}
use Rattle.proc_grid.proofs.FirstLemmas.{first_of-more, first_of-each}
use Rattle.proc_grid.specs.Grid.{Grid, IsGrid, place_of, place_number}
use Rattle.proc_grid.specs.Held.{context_at}
use Rattle.proc_grid.proofs.GridLemmas.{place_of-rank, place_number-below}
use Rattle.descriptor.specs.Bounds.{part, is_outside, least_lld, rows_of, columns_of, row_of, first_or_zero, lacks_rank}
use Rattle.descriptor.specs.InfoOf.{Entry, info_of, info_number}
use Rattle.descriptor.specs.declared.info.Info.{Info}
use Rattle.descriptor.proofs.PassLemmas.{info_of-each, not_outside}
use Rattle.program_meaning.specs.Declarations.{ArrayWords, lead_on, leads_on, process_info}
use Rattle.line_plans.specs.ArrayLines.{entries_on, IsNumber, IsGoodLine, HasLeads}

-- the place of the k-th rank, row by row
pub place_is : (g : Grid) (k : ℕ) → IsGrid g → k < length g.ranks → (k / g.npcol < g.nprow) × (place_of g (slice_index g.ranks k) ≡ Some (k / g.npcol, k % g.npcol))
place_is g k w lt =
    let filled = w.filled in
    let some = w.some_columns in
    let low : k < g.nprow * g.npcol = omega arith in
    let row : k / g.npcol < g.nprow = div_below k g.npcol g.nprow some low in
    let column : k % g.npcol < g.npcol = mod-lt k some in
    (row, subst (λ n. place_of g (slice_index g.ranks n) ≡ Some (k / g.npcol, k % g.npcol)) (div-add-mod' k g.npcol) (place_of-rank g (k / g.npcol) (k % g.npcol) w row column))

pub number_of : (v : ℤ) (low high : ℕ) → is_outside v low high ≡ false → IsNumber v low high
number_of v low high e = let h = not_outside v low high e in record { number = h.0; least = h.1; most = h.2 }

below_from : (n m : ℕ) → 0 < m → n ≤ m - 1 → n < m
below_from n m a b = omega arith

most_sources : (n m : ℕ) → m ≤ 64 → n ≤ m - 1 → n ≤ 63
most_sources n m a b = omega arith

-- what a process that is passed tells of the line
pub good_line : (held : List Grid) (w : ArrayWords) (g : Grid) (lld : ℤ) (rank : ℕ) → IsGrid g → context_at held (pos w.grid) ≡ Some g → info_of (entries_on held w lld rank) ≡ None → IsGoodLine w g
good_line held w g lld rank is e none =
    let grid : Option Grid = context_at held (pos w.grid) in
    let es : List Entry = entries_on held w lld rank in
    let a = info_of-each (is_outside w.m 0 (2 ^ 24)) 2 (drop 1 es) none in
    let b = info_of-each (is_outside w.n 0 (2 ^ 24)) 3 (drop 2 es) a.1 in
    let c = info_of-each (is_outside w.mb 1 (2 ^ 24)) 4 (drop 3 es) b.1 in
    let d = info_of-each (is_outside w.nb 1 (2 ^ 24)) 5 (drop 4 es) c.1 in
    let f = info_of-each (lacks_rank grid rank) 8 (drop 5 es) d.1 in
    let h = info_of-each (is_outside w.rsrc 0 (rows_of grid - 1)) 6 (drop 6 es) f.1 in
    let k = info_of-each (is_outside w.csrc 0 (columns_of grid - 1)) 7 (drop 7 es) h.1 in
    let rows : is_outside w.rsrc 0 (g.nprow - 1) ≡ false = subst (λ (o : Option Grid). is_outside w.rsrc 0 (rows_of o - 1) ≡ false) e h.0 in
    let columns : is_outside w.csrc 0 (g.npcol - 1) ≡ false = subst (λ (o : Option Grid). is_outside w.csrc 0 (columns_of o - 1) ≡ false) e k.0 in
    let r = number_of w.rsrc 0 (g.nprow - 1) rows in
    let s = number_of w.csrc 0 (g.npcol - 1) columns in
    record {
      rows = number_of w.m 0 (2 ^ 24) a.0;
      columns = number_of w.n 0 (2 ^ 24) b.0;
      row_block = number_of w.mb 1 (2 ^ 24) c.0;
      column_block = number_of w.nb 1 (2 ^ 24) d.0;
      row_source = record { number = r.number; least = r.least; most = most_sources (part w.rsrc) g.nprow is.few_rows r.most };
      row_below = below_from (part w.rsrc) g.nprow is.some_rows r.most;
      column_source = record { number = s.number; least = s.least; most = most_sources (part w.csrc) g.npcol is.few_columns s.most };
      column_below = below_from (part w.csrc) g.npcol is.some_columns s.most;
    }

-- the largest leading dimension passes just where the least does
least_fits : (w : ArrayWords) (nprow p : ℕ) → part w.m ≤ 2 ^ 24 → least_lld (part w.m) (part w.mb) (part w.rsrc) nprow p ≤ 2 ^ 24
least_fits w nprow p few = let h = below_le (spread (part w.mb) (part w.rsrc) nprow) p (part w.m) in omega arith

both_pass : (n : ℕ) → n ≤ 2 ^ 24 → is_outside (pos (2 ^ 24)) n (2 ^ 24) ≡ is_outside (pos n) n (2 ^ 24)
unfolding is_outside
both_pass n few = first n few ∙ sym (second n few)
  where
    first : (n : ℕ) → n ≤ 2 ^ 24 → (nat_lt (2 ^ 24) n || nat_lt (2 ^ 24) (2 ^ 24)) ≡ false
    first n h = grind (arith, nat_tests)

    second : (n : ℕ) → n ≤ 2 ^ 24 → (nat_lt n n || nat_lt (2 ^ 24) n) ≡ false
    second n h = grind (arith, nat_tests)

step_on : (b : Bool) (i : Info) (x y : Option Info) → (b ≡ false → x ≡ y) → (if b then Some i else x) ≡ (if b then Some i else y)
step_on true i x y h = refl
step_on false i x y h = h refl

probe : (held : List Grid) (w : ArrayWords) (rank : ℕ) (g : Grid) (p q : ℕ) → context_at held (pos w.grid) ≡ Some g → place_of g rank ≡ Some (p, q)
    → info_of (entries_on held w (pos (2 ^ 24)) rank) ≡ info_of (entries_on held w (pos (least_lld (part w.m) (part w.mb) (part w.rsrc) g.nprow p)) rank)
probe held w rank g p q e at =
    step_on (is_outside w.m 0 (2 ^ 24)) _ _ _ (λ m.
    step_on (is_outside w.n 0 (2 ^ 24)) _ _ _ (λ n.
    step_on (is_outside w.mb 1 (2 ^ 24)) _ _ _ (λ mb.
    step_on (is_outside w.nb 1 (2 ^ 24)) _ _ _ (λ nb.
    step_on (lacks_rank (context_at held (pos w.grid)) rank) _ _ _ (λ l.
    step_on (is_outside w.rsrc 0 (rows_of (context_at held (pos w.grid)) - 1)) _ _ _ (λ r.
    step_on (is_outside w.csrc 0 (columns_of (context_at held (pos w.grid)) - 1)) _ _ _ (λ c.
    ap (λ b. if b then Some (info_number 9) else None) (last (not_outside w.m 0 (2 ^ 24) m).2))))))))
  where
    row : row_of (context_at held (pos w.grid)) rank ≡ p
    row = ap (λ (o : Option Grid). row_of o rank) e ∙ ap first_or_zero at

    rows : rows_of (context_at held (pos w.grid)) ≡ g.nprow
    rows = ap rows_of e

    last : part w.m ≤ 2 ^ 24 → is_outside (pos (2 ^ 24)) (least_lld (part w.m) (part w.mb) (part w.rsrc) (rows_of (context_at held (pos w.grid))) (row_of (context_at held (pos w.grid)) rank)) (2 ^ 24)
        ≡ is_outside (pos (least_lld (part w.m) (part w.mb) (part w.rsrc) g.nprow p)) (least_lld (part w.m) (part w.mb) (part w.rsrc) (rows_of (context_at held (pos w.grid))) (row_of (context_at held (pos w.grid)) rank)) (2 ^ 24)
    last few =
        let same : least_lld (part w.m) (part w.mb) (part w.rsrc) (rows_of (context_at held (pos w.grid))) (row_of (context_at held (pos w.grid)) rank) ≡ least_lld (part w.m) (part w.mb) (part w.rsrc) g.nprow p = ap (λ n. least_lld (part w.m) (part w.mb) (part w.rsrc) n (row_of (context_at held (pos w.grid)) rank)) rows ∙ ap (λ n. least_lld (part w.m) (part w.mb) (part w.rsrc) g.nprow n) row in
        ap (λ n. is_outside (pos (2 ^ 24)) n (2 ^ 24)) same
        ∙ both_pass (least_lld (part w.m) (part w.mb) (part w.rsrc) g.nprow p) (least_fits w g.nprow p few)
        ∙ ap (λ n. is_outside (pos (least_lld (part w.m) (part w.mb) (part w.rsrc) g.nprow p)) n (2 ^ 24)) (sym same)

pub probed : (held : List Grid) (w : ArrayWords) (g : Grid) (k : ℕ) → IsGrid g → context_at held (pos w.grid) ≡ Some g → k < length g.ranks
    → info_of (entries_on held w (pos (2 ^ 24)) (slice_index g.ranks k)) ≡ info_of (entries_on held w (lead_on w g.nprow (k / g.npcol) None) (slice_index g.ranks k))
probed held w g k is e lt = let at = place_is g k is lt in probe held w (slice_index g.ranks k) g (k / g.npcol) (k % g.npcol) e at.1

-- what the largest leading dimension finds is what the least does
found_by : (held : List Grid) (w : ArrayWords) (g : Grid) (k : ℕ) (ranks : List ℕ) (o : Option ℤ) → IsGrid g → context_at held (pos w.grid) ≡ Some g → k < length g.ranks → o ≡ None → ranks ≡ g.ranks
    → info_of (entries_on held w (pos (2 ^ 24)) (slice_index ranks k)) ≡ info_of (entries_on held w (lead_on w g.nprow (k / g.npcol) o) (slice_index g.ranks k))
found_by held w g k ranks o is e lt none same =
    ap (λ xs. info_of (entries_on held w (pos (2 ^ 24)) (slice_index xs k))) same ∙ probed held w g k is e lt
    ∙ ap (λ (x : Option ℤ). info_of (entries_on held w (lead_on w g.nprow (k / g.npcol) x) (slice_index g.ranks k))) (sym none)

pub passed_by : (held : List Grid) (w : ArrayWords) (g : Grid) (k : ℕ) (ranks : List ℕ) (o : Option ℤ) → IsGrid g → context_at held (pos w.grid) ≡ Some g → k < length g.ranks → o ≡ None → ranks ≡ g.ranks
    → info_of (entries_on held w (pos (2 ^ 24)) (slice_index ranks k)) ≡ None
    → info_of (entries_on held w (lead_on w g.nprow (k / g.npcol) o) (slice_index g.ranks k)) ≡ None
passed_by held w g k ranks o is e lt none same h = sym (found_by held w g k ranks o is e lt none same) ∙ h

pub refused_by : (held : List Grid) (w : ArrayWords) (g : Grid) (k : ℕ) (ranks : List ℕ) (o : Option ℤ) (i : Info) → IsGrid g → context_at held (pos w.grid) ≡ Some g → k < length g.ranks → o ≡ None → ranks ≡ g.ranks
    → info_of (entries_on held w (pos (2 ^ 24)) (slice_index ranks k)) ≡ Some i
    → info_of (entries_on held w (lead_on w g.nprow (k / g.npcol) o) (slice_index g.ranks k)) ≡ Some i
refused_by held w g k ranks o i is e lt none same h = sym (found_by held w g k ranks o is e lt none same) ∙ h

-- lists and refusals, one by one
pub grown_by : {X : Type 0} (f : ℕ → X) (items grown : List X) (x : X) (k n : ℕ) → grown ≡ items ++ x ∷ [] → x ≡ f k → items ≡ map f (range_with_len 0 k) → n ≡ k + 1 → grown ≡ map f (range_with_len 0 n)
grown_by f items grown x k n g e i m = g ∙ ap (λ xs. xs ++ x ∷ []) i ∙ ap (λ y. map f (range_with_len 0 k) ++ y ∷ []) e ∙ sym (map-range_with_len_more f 0 k k (omega arith)) ∙ ap (λ j. map f (range_with_len 0 j)) (sym m)

pub first_none : (f : ℕ → Option Info) → first_of f 0 ≡ None
unfolding first_of
first_none f = refl

pub first_next : (f : ℕ → Option Info) (k n : ℕ) → first_of f k ≡ None → f k ≡ None → n ≡ k + 1 → first_of f n ≡ None
first_next f k n h e m = subst (λ j. first_of f j ≡ None) (let s : suc k ≡ n = omega arith in s) (first_of-more f k h e)

-- ---- leading dimensions that pass

-- that of one process
good_lead : (held : List Grid) (w : ArrayWords) (g : Grid) (lld : ℤ) (rank p q : ℕ) → context_at held (pos w.grid) ≡ Some g → place_of g rank ≡ Some (p, q) → info_of (entries_on held w lld rank) ≡ None
    → IsNumber lld (least_lld (part w.m) (part w.mb) (part w.rsrc) g.nprow p) (2 ^ 24)
good_lead held w g lld rank p q e at none =
    let grid : Option Grid = context_at held (pos w.grid) in
    let es : List Entry = entries_on held w lld rank in
    let a = info_of-each (is_outside w.m 0 (2 ^ 24)) 2 (drop 1 es) none in
    let b = info_of-each (is_outside w.n 0 (2 ^ 24)) 3 (drop 2 es) a.1 in
    let c = info_of-each (is_outside w.mb 1 (2 ^ 24)) 4 (drop 3 es) b.1 in
    let d = info_of-each (is_outside w.nb 1 (2 ^ 24)) 5 (drop 4 es) c.1 in
    let f = info_of-each (lacks_rank grid rank) 8 (drop 5 es) d.1 in
    let h = info_of-each (is_outside w.rsrc 0 (rows_of grid - 1)) 6 (drop 6 es) f.1 in
    let k = info_of-each (is_outside w.csrc 0 (columns_of grid - 1)) 7 (drop 7 es) h.1 in
    let l = info_of-each (is_outside lld (least_lld (part w.m) (part w.mb) (part w.rsrc) (rows_of grid) (row_of grid rank)) (2 ^ 24)) 9 (drop 8 es) k.1 in
    let row : row_of grid rank ≡ p = ap (λ (o : Option Grid). row_of o rank) e ∙ ap first_or_zero at in
    number_of lld (least_lld (part w.m) (part w.mb) (part w.rsrc) g.nprow p) (2 ^ 24)
    (subst (λ (r : ℕ). is_outside lld (least_lld (part w.m) (part w.mb) (part w.rsrc) g.nprow r) (2 ^ 24) ≡ false) row
    (subst (λ (n : ℕ). is_outside lld (least_lld (part w.m) (part w.mb) (part w.rsrc) n (row_of grid rank)) (2 ^ 24) ≡ false) (ap rows_of e) l.0))

pub row_number : (p q n : ℕ) → q < n → place_number n p q / n ≡ p
row_number p q n lt = div-mul-add p n q lt

pub leads_by : (held : List Grid) (w : ArrayWords) (g : Grid) → IsGrid g → context_at held (pos w.grid) ≡ Some g → first_of (process_info held w g) (length g.ranks) ≡ None → HasLeads w g
leads_by held w g is e none = record {
  each = λ p q hp hq.
      let k : ℕ = place_number g.npcol p q in
      let low : k < length g.ranks = place_number-below g p q is hp hq in
      let here : info_of (entries_on held w (lead_on w g.nprow (k / g.npcol) w.lld) (slice_index g.ranks k)) ≡ None = first_of-each (process_info held w g) (length g.ranks) k none low in
      good_lead held w g (lead_on w g.nprow p w.lld) (slice_index g.ranks k) p q e (place_of-rank g p q is hp hq)
      (subst (λ (r : ℕ). info_of (entries_on held w (lead_on w g.nprow r w.lld) (slice_index g.ranks k)) ≡ None) (row_number p q g.npcol hq) here);
}

-- the k-th of all leading dimensions
pub lead_is : (w : ArrayWords) (g : Grid) (p q : ℕ) → p < g.nprow → q < g.npcol → p * g.npcol + q < g.nprow * g.npcol → slice_index_or (leads_on w g) (p * g.npcol + q) (pos 0) ≡ lead_on w g.nprow p w.lld
lead_is w g p q hp hq low =
    get_or-map-range_with_len (λ k. lead_on w g.nprow (k / g.npcol) w.lld) 0 (g.nprow * g.npcol) (p * g.npcol + q) (p * g.npcol + q) (pos 0) low (omega arith)
    ∙ ap (λ r. lead_on w g.nprow r w.lld) (row_number p q g.npcol hq)

pub leads_long : (w : ArrayWords) (g : Grid) → length (leads_on w g) ≡ g.nprow * g.npcol
leads_long w g = length-map-range_with_len (λ k. lead_on w g.nprow (k / g.npcol) w.lld) 0 (g.nprow * g.npcol)

or_none : Option (ℕ × ℕ) → ℕ × ℕ
or_none None = (0, 0)
or_none (Some x) = x

-- the place of a rank is one of the grid
pub place_inside : (g : Grid) (p q rank : ℕ) → IsGrid g → place_of g rank ≡ Some (p, q) → (p < g.nprow) × (q < g.npcol)
unfolding or_none
place_inside g p q rank w e = by_position (position (λ r. r == rank) g.ranks) refl
  where
    at : (k : ℕ) → position (λ r. r == rank) g.ranks ≡ Some k → (k / g.npcol ≡ p) × (k % g.npcol ≡ q) → (p < g.nprow) × (q < g.npcol)
    at k f h =
        let found = position-Some (λ r. r == rank) g.ranks k 0 f in
        let some : 0 < g.npcol = w.some_columns in
        (subst (λ n. n < g.nprow) h.0 (div_below k g.npcol g.nprow some (let fill = w.filled in let low = found.0 in omega arith)), subst (λ n. n < g.npcol) h.1 (mod-lt k some))

    parts : (a b x y : ℕ) → ◌≡◌ {A = Option (ℕ × ℕ)} (Some (a, b)) (Some (x, y)) → (a ≡ x) × (b ≡ y)
    parts a b x y h = (ap (λ (o : Option (ℕ × ℕ)). (or_none o).0) h, ap (λ (o : Option (ℕ × ℕ)). (or_none o).1) h)

    none : ◌≡◌ {A = Option (ℕ × ℕ)} None (Some (p, q)) → ⊥
    none h = cc

    by_position : (o : Option ℕ) → position (λ r. r == rank) g.ranks ≡ o → (p < g.nprow) × (q < g.npcol)
    by_position None f = absurd (none (ap (option_map (λ k. (k / g.npcol, k % g.npcol))) (sym f) ∙ e))
    by_position (Some k) f = at k f (parts (k / g.npcol) (k % g.npcol) p q (ap (option_map (λ k. (k / g.npcol, k % g.npcol))) (sym f) ∙ e))

-- its number is one of the leading dimensions
pub number_inside : (w : ArrayWords) (g : Grid) (leads : List ℤ) (p q n : ℕ) → leads ≡ leads_on w g → n ≡ g.npcol → p < g.nprow → q < g.npcol → p * n + q < length leads
number_inside w g leads p q n e f hp hq =
    let long : length leads ≡ g.nprow * g.npcol = ap length e ∙ leads_long w g in
    let low : p * g.npcol + q < g.npcol * g.nprow = mul-add-lt p g.npcol q g.nprow hp hq in
    subst (λ (m : ℕ). p * m + q < length leads) (sym f) (let c : g.nprow * g.npcol ≡ g.npcol * g.nprow = grind arith in omega arith)

pub lead_good : (w : ArrayWords) (g : Grid) (leads : List ℤ) (p q n : ℕ) → HasLeads w g → leads ≡ leads_on w g → n ≡ g.npcol → p < g.nprow → q < g.npcol → IsNumber (slice_index_or leads (p * n + q) (pos 0)) 1 (2 ^ 24)
lead_good w g leads p q n h e f hp hq =
    let low : p * g.npcol + q < g.nprow * g.npcol = let low = mul-add-lt p g.npcol q g.nprow hp hq in let c : g.nprow * g.npcol ≡ g.npcol * g.nprow = grind arith in omega arith in
    let here : slice_index_or leads (p * n + q) (pos 0) ≡ lead_on w g.nprow p w.lld = ap (λ (xs : List ℤ). slice_index_or xs (p * n + q) (pos 0)) e ∙ ap (λ (m : ℕ). slice_index_or (leads_on w g) (p * m + q) (pos 0)) f ∙ lead_is w g p q hp hq low in
    let each = h.each p q hp hq in
    subst (λ (l : ℤ). IsNumber l 1 (2 ^ 24)) (sym here) (record { number = each.number; least = let l = each.least in omega arith; most = each.most })
