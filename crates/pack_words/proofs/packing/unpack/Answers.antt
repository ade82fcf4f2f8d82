-- The assignment, place by place.
use Rattle.std.proofs.Common.{sym, subst}
use Rattle.pack_words.specs.LocalCells.{LocalCells}
use Rattle.pack_words.specs.Packing.{IsAssigned}
use Rattle.pack_words.proofs.Assigning.{is_assigned}
use Rattle.pack_words.proofs.packing.unpack.Goals as goal

pub returns-clause-assigned : goal.returns-clause-assigned
returns-clause-assigned c = λ once.
    subst (λ (a : LocalCells). IsAssigned c.args.cut.now c.args.regions.now c.args.words.now c.args.array.now a) (sym c.unpack_regions.ensures.after)
    (is_assigned c.args.cut.now c.args.regions.now c.args.words.now c.args.array.now c.unpack_regions.ensures.limits c.requires.array once c.requires.len)
