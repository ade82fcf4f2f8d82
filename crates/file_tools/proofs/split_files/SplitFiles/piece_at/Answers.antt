use Rattle.std.proofs.Common.{◌≡◌, ◌<◌, ◌/◌, ◌%◌, List, ℕ, [], length, get_or, ap, ◌∙◌, arith}
use Rattle.std.proofs.Math.Nat.{mod-lt}
use Rattle.index_tools.specs.Spread.{spread}
use Rattle.mm_text.specs.Loading.{matrix_of}
use Rattle.spread_cells.specs.Spreading.{owned, array_of}
use Rattle.spread_cells.specs.Owned.{lists_of}
use Rattle.spread_cells.proofs.OwnedLists.{lists_length, list_is, list_fits}
use Rattle.file_tools.proofs.ListLemmas.{row_below}
use Rattle.file_tools.proofs.split_files.SplitFiles.piece_at.Goals as goal

pub list_at-rows-requires : goal.list_at-rows-requires
list_at-rows-requires c =
    let row = row_below c.args.k c.args.self.now.pieces.target.nprow c.args.self.now.pieces.target.npcol c.args.self.now.pieces.target.columns c.requires in
    let count = lists_length (spread c.args.self.now.pieces.target.mb 0 c.args.self.now.pieces.target.nprow) c.args.self.now.whole.now.rows c.args.self.now.pieces.target.nprow c.args.self.now.rows.items c.args.self.now.rows_are in
    omega (arith, row, count, ap length c.deref.ensures.value)

pub list_at-columns-requires : goal.list_at-columns-requires
list_at-columns-requires c =
    let column : c.args.k % c.args.self.now.pieces.target.npcol < c.args.self.now.pieces.target.npcol = mod-lt c.args.k c.args.self.now.pieces.target.columns in
    let count = lists_length (spread c.args.self.now.pieces.target.nb 0 c.args.self.now.pieces.target.npcol) c.args.self.now.whole.now.columns c.args.self.now.pieces.target.npcol c.args.self.now.columns.items c.args.self.now.columns_are in
    omega (arith, column, count, ap length c.deref-2.ensures.value)

pub invariant_of-result : goal.invariant_of-result
invariant_of-result c =
    let row = row_below c.args.k c.args.self.now.pieces.target.nprow c.args.self.now.pieces.target.npcol c.args.self.now.pieces.target.columns c.requires in
    let column : c.args.k % c.args.self.now.pieces.target.npcol < c.args.self.now.pieces.target.npcol = mod-lt c.args.k c.args.self.now.pieces.target.columns in
    let rows = list_fits (spread c.args.self.now.pieces.target.mb 0 c.args.self.now.pieces.target.nprow) c.args.self.now.whole.now.rows c.args.self.now.pieces.target.nprow (c.args.k / c.args.self.now.pieces.target.npcol) (lists_of c.args.self.now.rows.items) c.args.self.now.rows_are row c.args.self.now.whole.now.rows_fit in
    let columns = list_fits (spread c.args.self.now.pieces.target.nb 0 c.args.self.now.pieces.target.npcol) c.args.self.now.whole.now.columns c.args.self.now.pieces.target.npcol (c.args.k % c.args.self.now.pieces.target.npcol) (lists_of c.args.self.now.columns.items) c.args.self.now.columns_are column c.args.self.now.whole.now.columns_fit in
    let r : c.list_at-rows.result.now ≡ get_or (lists_of c.args.self.now.rows.items) (c.args.k / c.args.self.now.pieces.target.npcol) [] = c.list_at-rows.ensures ∙ ap (λ vs. get_or (lists_of vs) (c.args.k / c.args.self.now.pieces.target.npcol) []) c.deref.ensures.value in
    let k : c.list_at-columns.result.now ≡ get_or (lists_of c.args.self.now.columns.items) (c.args.k % c.args.self.now.pieces.target.npcol) [] = c.list_at-columns.ensures ∙ ap (λ vs. get_or (lists_of vs) (c.args.k % c.args.self.now.pieces.target.npcol) []) c.deref-2.ensures.value in
    record { rows_fit = omega (arith, rows, ap length r); columns_fit = omega (arith, columns, ap length k) }

pub returns : goal.returns
returns c =
    let row = row_below c.args.k c.args.self.now.pieces.target.nprow c.args.self.now.pieces.target.npcol c.args.self.now.pieces.target.columns c.requires in
    let column : c.args.k % c.args.self.now.pieces.target.npcol < c.args.self.now.pieces.target.npcol = mod-lt c.args.k c.args.self.now.pieces.target.columns in
    let rs : List ℕ = owned (spread c.args.self.now.pieces.target.mb 0 c.args.self.now.pieces.target.nprow) (c.args.k / c.args.self.now.pieces.target.npcol) c.args.self.now.whole.now.rows in
    let r : c.list_at-rows.result.now ≡ rs
    = c.list_at-rows.ensures ∙ ap (λ vs. get_or (lists_of vs) (c.args.k / c.args.self.now.pieces.target.npcol) []) c.deref.ensures.value
    ∙ list_is (spread c.args.self.now.pieces.target.mb 0 c.args.self.now.pieces.target.nprow) c.args.self.now.whole.now.rows c.args.self.now.pieces.target.nprow (c.args.k / c.args.self.now.pieces.target.npcol) (lists_of c.args.self.now.rows.items) c.args.self.now.rows_are row in
    let k : c.list_at-columns.result.now ≡ owned (spread c.args.self.now.pieces.target.nb 0 c.args.self.now.pieces.target.npcol) (c.args.k % c.args.self.now.pieces.target.npcol) c.args.self.now.whole.now.columns
    = c.list_at-columns.ensures ∙ ap (λ vs. get_or (lists_of vs) (c.args.k % c.args.self.now.pieces.target.npcol) []) c.deref-2.ensures.value
    ∙ list_is (spread c.args.self.now.pieces.target.nb 0 c.args.self.now.pieces.target.npcol) c.args.self.now.whole.now.columns c.args.self.now.pieces.target.npcol (c.args.k % c.args.self.now.pieces.target.npcol) (lists_of c.args.self.now.columns.items) c.args.self.now.columns_are column in
    ap (λ (xs : List ℕ). array_of (matrix_of c.args.self.now.whole.now) xs c.list_at-columns.result.now) r ∙ ap (array_of (matrix_of c.args.self.now.whole.now) rs) k
