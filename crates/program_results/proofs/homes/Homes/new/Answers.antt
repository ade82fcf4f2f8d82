-- The table is as long as was asked.
use Rattle.std.proofs.Common.{sym, ap, ◌∙◌}
use Rattle.index_tools.specs.Spread.{Spread, spread}
use Rattle.spread_cells.specs.IndexHomes.{index_homes}
use Rattle.spread_cells.proofs.HomeTables.{homes_length}
use Rattle.program_results.proofs.homes.Homes.new.Goals as goal

pub invariant_of-result : goal.invariant_of-result
invariant_of-result c =
    let s : Spread = spread c.args.block c.args.source c.args.processes in
    record {
      table = c.in_ok-table.ensures ∙ ap (index_homes s) (sym (homes_length s c.args.n c.in_ok-table.table.items c.in_ok-table.ensures));
      block = c.requires.block;
      block_fits = c.requires.block_fits;
      few = c.requires.processes;
      source = c.requires.source;
    }
