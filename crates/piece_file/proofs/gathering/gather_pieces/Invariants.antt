use Rattle.std.proofs.Common.{◌≡◌, ◌≤◌, ◌-◌, ◌^◌, [], IsTrue, map, length}
use Rattle.text_io.specs.Reading.{SameButLeft}
use Rattle.piece_grammar.specs.Pieces.{AreHeld, words_of}
use Rattle.piece_file.specs.PieceView.{piece_view}
use Rattle.piece_file.specs.Gathering.{held_in, HaveTurns, AreWithin}
use Rattle.piece_file.proofs.GatherSteps.{IsEndedBehind}
use Rattle.piece_file.proofs.gathering.gather_pieces.Given as goal

abbrev pub invariant-loop-turn : goal.invariant-loop-turn
invariant-loop-turn g l =
    let state = g.S.Store.state in
    let read = map piece_view l.pieces.items in
    record {
      turns : HaveTurns [] read;
      within : AreWithin read;
      words : l.words ≡ words_of read;
      few : l.words ≤ 2 ^ 26;
      same : SameButLeft (state l.fn.store) (state l.store);
      held : IsTrue (state l.fn.store).told → AreHeld (held_in (state l.fn.store).files) l.fn.prefix read;
      ended : IsTrue (state l.fn.store).told → IsEndedBehind read (state l.store).left;
    }

abbrev pub decreases-loop-turn : goal.decreases-loop-turn
decreases-loop-turn g l = 64 - length l.pieces.items
