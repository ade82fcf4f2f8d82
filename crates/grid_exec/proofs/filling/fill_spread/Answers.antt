use Rattle.grid_exec.proofs.WordSteps.{on_ok, few_ranks, arrays_there, filled_spread}
use Rattle.array_contents.specs.Columns.{filling_of}
use Rattle.grid_exec.proofs.filling.fill_spread.Goals as goal

pub fill_array-requires-clause-good : goal.fill_array-requires-clause-good
fill_array-requires-clause-good c = (c.args.declared.now.sound.spread_out c.args.array c.args.spread.now c.requires.spread).good c.grid_of-ctx.result.now c.grid_of-ctx.ensures.is

pub fill_array-requires-clause-arrays : goal.fill_array-requires-clause-arrays
fill_array-requires-clause-arrays c = arrays_there c.args.declared.now c.args.contents.now c.args.array c.args.spread.now c.grid_of-ctx.result.now c.ranks-ranks.ensures.shapes c.requires.holds c.requires.spread c.grid_of-ctx.ensures.is

pub returns : goal.returns
returns c = on_ok c.fill_array.result _ _ c.fill_array.ensures.filled (λ w. filled_spread c.args.declared.now (filling_of c.args.filling.now) c.args.array c.args.spread.now c.grid_of-ctx.result.now c.args.contents.now c.fill_array.new.self c.requires.holds c.requires.spread c.grid_of-ctx.ensures.is w)
