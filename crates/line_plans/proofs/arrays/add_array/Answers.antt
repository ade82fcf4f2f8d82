use Rattle.std.proofs.Common.{List, Option, sym, ap, subst}
use Rattle.descriptor.specs.declared.spread.Spread.{Spread}
use Rattle.pack_words.specs.GridShapes.{ShapesView}
use Rattle.program_meaning.specs.Sound.{IsSound}
use Rattle.line_plans.proofs.SoundLaws.{array_more}
use Rattle.line_plans.proofs.arrays.add_array.Goals as goal

pub invariant_of-result-clause-sound : goal.invariant_of-result-clause-sound
invariant_of-result-clause-sound c =
    subst (λ (xs : List (Option Spread)). IsSound c.args.declared.contexts c.add.new.self xs) (sym c.in-Ok-push.ensures.items)
    (array_more c.args.declared.contexts c.args.declared.shapes c.add.new.self c.args.declared.spreads.items c.args.spread c.args.sizes.now c.args.declared.sound
    (record {
      ranks = ap (λ (v : ShapesView). v.ranks) c.in-Ok.ensures.added;
      count = ap (λ (v : ShapesView). v.count) c.in-Ok.ensures.added;
      here = c.in-Ok.ensures.here;
      others = c.in-Ok.ensures.others;
    })
    c.requires.fits c.requires.alike)
