use Rattle.grid_exec.proofs.WordSteps.{arrays_there, load_written, holds_loaded}
use Rattle.grid_exec.proofs.loading.put_matrix.Goals as goal

pub check_size-requires : goal.check_size-requires
check_size-requires c = (c.grid_of-ctx.result.now, (c.args.held.declared.sound.spread_out c.args.array c.spread-spread.result.now c.spread-spread.ensures).good c.grid_of-ctx.result.now c.grid_of-ctx.ensures.is)

pub load_matrix-requires-clause-good : goal.load_matrix-requires-clause-good
load_matrix-requires-clause-good c = (c.args.held.declared.sound.spread_out c.args.array c.spread-spread.result.now c.spread-spread.ensures).good c.grid_of-ctx.result.now c.grid_of-ctx.ensures.is

pub load_matrix-requires-clause-arrays : goal.load_matrix-requires-clause-arrays
load_matrix-requires-clause-arrays c = arrays_there c.args.held.declared c.args.held.contents c.args.array c.spread-spread.result.now c.grid_of-ctx.result.now c.ranks-ranks.ensures.shapes c.args.held.holds c.spread-spread.ensures c.grid_of-ctx.ensures.is

pub held_with-requires : goal.held_with-requires
held_with-requires c = holds_loaded c.args.held.declared c.args.array _ c.args.held.contents c.load_matrix.new.self c.args.held.holds c.in-Ok.ensures.loaded

pub returns-in-Ok-clause-done : goal.returns-in-Ok-clause-done
returns-in-Ok-clause-done c = λ p. load_written c.args.held.declared p c.args.whole.now c.args.array c.spread-spread.result.now c.grid_of-ctx.result.now c.held_with.result c.args.held.contents c.load_matrix.new.self c.spread-spread.ensures c.grid_of-ctx.ensures.is c.in_default.ensures.fault c.held_with.ensures.declared c.held_with.ensures.contents c.in-Ok.ensures.loaded
