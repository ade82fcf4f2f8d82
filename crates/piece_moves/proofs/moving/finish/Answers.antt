use Rattle.std.proofs.Common.{ap, ◌∙◌}
use Rattle.std.specs.Prelude.{map}
use Rattle.pack_words.specs.GridState.{arrays_held}
use Rattle.piece_moves.proofs.MovedLaws.{moved_two, moved_count}
use Rattle.piece_moves.proofs.moving.finish.Goals as goal

pub returns-clause-moved : goal.returns-clause-moved
returns-clause-moved c = λ ps d plan before is same.
    let held = ap (map arrays_held) same ∙ is.arrays in
    record {
      arrays = held;
      two = moved_two ps d c.args.nodes.items held;
      ranks = moved_count ps d c.args.nodes.items held;
      numbers_are = is.numbers_are;
    }
