-- The tests of a line pass exactly the heads that a piece may have.
use Rattle.std.proofs.Common.{◌≡◌, ℕ, ◌+◌, ◌-◌, ◌*◌, ◌^◌, ◌<◌, ◌≤◌, ◌||◌, Bool, false, pos, [], ◌∷◌, Option, Some, None, is_none, refl, sym, ap, ◌∙◌, arith}
use Rattle.std.proofs.lemmas.Bool.{le-ltb}
use Rattle.std.proofs.lemmas.Nat.{div-mul-add, mod-mul-add}
use Rattle.proc_grid.specs.Grid.{place_of}
use Rattle.proc_grid.specs.Refusals.{FitsShape, dealt_grid, dealt_rank}
use Rattle.proc_grid.specs.declared.world.Order.TheVariants.{R}
use Rattle.proc_grid.proofs.GridLemmas.{dealt_place-is, dealt_rank-below}
use Rattle.descriptor.specs.Bounds.{is_outside, part, first_or_zero, least_lld}
use Rattle.descriptor.specs.InfoOf.{entry, info_of}
use Rattle.descriptor.proofs.PassLemmas.{not_outside}
use Rattle.piece_grammar.specs.Head.{Head, IsHead}
use Rattle.piece_grammar.specs.Desc.{Desc, desc_of_head, head_of, is_off_grid, desc_info, AreHeadsTested}
use Rattle.piece_grammar.proofs.Heads.{IsOnGrid, on_grid, EightGood, eight_good}

-- where the process (p, q) of a grid that is dealt out by rows stands
pub place_dealt : (nprow npcol p q : ℕ) → 1 ≤ nprow → nprow ≤ 64 → 1 ≤ npcol → npcol ≤ 64 → nprow * npcol ≤ 64 → p < nprow → q < npcol → place_of (dealt_grid R nprow npcol) (dealt_rank R nprow npcol p q) ≡ Some (p, q)
place_dealt nprow npcol p q a b c d few row column =
    let shape : FitsShape 64 nprow npcol = record { some_rows = a; few_rows = b; some_columns = c; few_columns = d; places = few; few_ranks = omega arith } in
    dealt_place-is R 64 nprow npcol (dealt_grid R nprow npcol) shape refl (p * npcol + q) (dealt_rank-below R nprow npcol p q row column)
    ∙ parts (div-mul-add p npcol q column) (mod-mul-add p npcol q column)
  where
    parts : {i j : ℕ} → i ≡ p → j ≡ q → ◌≡◌ {A = Option (ℕ × ℕ)} (Some (i, j)) (Some (p, q))
    parts e f = cc

-- within bounds
within : (n low high : ℕ) → low ≤ n → n ≤ high → is_outside (pos n) low high ≡ false
unfolding is_outside
within n low high a b = rw (le-ltb n low a, le-ltb high n b) refl

five_good : (a b c d e : Bool) → a ≡ false → b ≡ false → c ≡ false → d ≡ false → e ≡ false → (a || b || c || d || e) ≡ false
five_good a b c d e p q r s t = rw (p, q, r, s, t) refl

grid_passes : (h : Head) → IsHead h → is_off_grid (desc_of_head h) ≡ false
grid_passes h is =
    let r : h.prow < h.nprow = is.row in
    let c : h.pcol < h.npcol = is.column in
    five_good _ _ _ _ _ (within h.nprow 1 64 is.some_rows is.few_rows) (within h.npcol 1 64 is.some_columns is.few_columns) (le-ltb 64 (h.nprow * h.npcol) is.few) (within h.prow 0 (h.nprow - 1) (omega arith) (omega arith))
    (within h.pcol 0 (h.npcol - 1) (omega arith) (omega arith))

all_pass : (a b c d e f g h : Bool) → EightGood a b c d e f g h → info_of (entry a 2 ∷ (entry b 3 ∷ (entry c 4 ∷ (entry d 5 ∷ (entry e 8 ∷ (entry f 6 ∷ (entry g 7 ∷ (entry h 9 ∷ [])))))))) ≡ None
all_pass a b c d e f g h k = rw (k.rows, k.columns, k.row_block, k.column_block, k.context, k.row_source, k.column_source, k.lead) refl

entries_pass : (h : Head) → IsHead h → desc_info (desc_of_head h) ≡ None
entries_pass h is =
    let there : place_of (dealt_grid R h.nprow h.npcol) (dealt_rank R h.nprow h.npcol h.prow h.pcol) ≡ Some (h.prow, h.pcol) = place_dealt h.nprow h.npcol h.prow h.pcol is.some_rows is.few_rows is.some_columns is.few_columns is.few is.row is.column in
    let rs : h.rsrc < h.nprow = is.row_source in
    let cs : h.csrc < h.npcol = is.column_source in
    all_pass _ _ _ _ _ _ _ _
    (record {
      rows = within h.m 0 (2 ^ 24) (omega arith) is.rows_fit;
      columns = within h.n 0 (2 ^ 24) (omega arith) is.columns_fit;
      row_block = within h.mb 1 (2 ^ 24) is.some_row_block is.row_block_fits;
      column_block = within h.nb 1 (2 ^ 24) is.some_column_block is.column_block_fits;
      context = ap is_none there;
      row_source = within h.rsrc 0 (h.nprow - 1) (omega arith) (omega arith);
      column_source = within h.csrc 0 (h.npcol - 1) (omega arith) (omega arith);
      lead = ap (λ (o : Option (ℕ × ℕ)). is_outside (pos h.lld) (least_lld h.m h.mb h.rsrc h.nprow (first_or_zero o)) (2 ^ 24)) there ∙ within h.lld (least_lld h.m h.mb h.rsrc h.nprow h.prow) (2 ^ 24) is.lead is.lead_fits;
    })

head_passed : (d : Desc) → is_off_grid d ≡ false → desc_info d ≡ None → IsHead (head_of d) × (d ≡ desc_of_head (head_of d))
head_passed d off none =
    let on : IsOnGrid d = on_grid d off in
    let good = eight_good _ _ _ _ _ _ _ _ none in
    let there : place_of (dealt_grid R (part d.nprow) (part d.npcol)) (dealt_rank R (part d.nprow) (part d.npcol) (part d.prow) (part d.pcol)) ≡ Some (part d.prow, part d.pcol) = place_dealt (part d.nprow) (part d.npcol) (part d.prow) (part d.pcol) on.some_rows on.few_rows on.some_columns on.few_columns on.few on.row on.column in
    let m = not_outside d.m 0 (2 ^ 24) good.rows in
    let n = not_outside d.n 0 (2 ^ 24) good.columns in
    let mb = not_outside d.mb 1 (2 ^ 24) good.row_block in
    let nb = not_outside d.nb 1 (2 ^ 24) good.column_block in
    let rsrc = not_outside d.rsrc 0 (part d.nprow - 1) good.row_source in
    let csrc = not_outside d.csrc 0 (part d.npcol - 1) good.column_source in
    let lld = not_outside d.lld (least_lld (part d.m) (part d.mb) (part d.rsrc) (part d.nprow) (part d.prow)) (2 ^ 24)
    (sym (ap (λ (o : Option (ℕ × ℕ)). is_outside d.lld (least_lld (part d.m) (part d.mb) (part d.rsrc) (part d.nprow) (first_or_zero o)) (2 ^ 24)) there) ∙ good.lead) in
    let some_rows : 1 ≤ part d.nprow = on.some_rows in
    let some_columns : 1 ≤ part d.npcol = on.some_columns in
    let rs : part d.rsrc ≤ part d.nprow - 1 = rsrc.2 in
    let cs : part d.csrc ≤ part d.npcol - 1 = csrc.2 in (
      record {
        some_rows = on.some_rows;
        few_rows = on.few_rows;
        some_columns = on.some_columns;
        few_columns = on.few_columns;
        few = on.few;
        row = on.row;
        column = on.column;
        rows_fit = m.2;
        columns_fit = n.2;
        some_row_block = mb.1;
        row_block_fits = mb.2;
        some_column_block = nb.1;
        column_block_fits = nb.2;
        row_source = omega arith;
        column_source = omega arith;
        lead = lld.1;
        lead_fits = lld.2;
      },
      rw (← on.nprow_is, ← on.npcol_is, ← on.prow_is, ← on.pcol_is, ← m.0, ← n.0, ← mb.0, ← nb.0, ← rsrc.0, ← csrc.0, ← lld.0) refl,
    )

pub tested : AreHeadsTested
tested = record {
  passes = λ h is. (grid_passes h is, entries_pass h is);
  passed = head_passed;
}
