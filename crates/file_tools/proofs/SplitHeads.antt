-- The heads of the pieces of a split.
use Rattle.std.proofs.Common.{ℕ, ◌*◌, ◌^◌, ◌<◌, ◌≤◌, arith}
use Rattle.std.proofs.Math.Nat.{mod-lt, le-mul_of_pos_right}
use Rattle.index_tools.specs.Home.{row_spread}
use Rattle.index_tools.proofs.HomeLemmas.{below_le}
use Rattle.piece_grammar.specs.Head.{IsHead}
use Rattle.tool_words.specs.Within.{IsTarget}
use Rattle.file_tools.specs.Target.{Target}
use Rattle.file_tools.specs.SplitWalk.{layout_of, row_of, head_of}
use Rattle.file_tools.proofs.ListLemmas.{row_below}
use Rattle.file_tools.proofs.SavedPieces.{few_columns}

pub head_is : (t : Target) (rows columns k : ℕ) → IsTarget t.nprow t.npcol t.mb t.nb → k < t.nprow * t.npcol → rows ≤ 2 ^ 24 → columns ≤ 2 ^ 24 → IsHead (head_of t rows columns k)
head_is t rows columns k is lt rows_fit columns_fit =
    let l = layout_of t rows columns in
    let tall : t.nprow ≤ t.nprow * t.npcol = le-mul_of_pos_right t.nprow is.columns in
    let below = below_le (row_spread l) (row_of t k) rows in
    record {
      some_rows = is.rows;
      few_rows = omega (arith, tall, is.grid);
      some_columns = is.columns;
      few_columns = few_columns t is;
      few = is.grid;
      row = row_below k t.nprow t.npcol is.columns lt;
      column = mod-lt k is.columns;
      rows_fit = rows_fit;
      columns_fit = columns_fit;
      some_row_block = is.row_block;
      row_block_fits = is.row_block_fits;
      some_column_block = is.column_block;
      column_block_fits = is.column_block_fits;
      row_source = is.rows;
      column_source = is.columns;
      lead = omega arith;
      lead_fits = omega (arith, below, rows_fit);
    }
