-- The values are those of the array's file.
use Rattle.std.proofs.Common.{Ok, ap, sym, ◌∙◌}
use Rattle.mm_reader.specs.Views.{header_view}
use Rattle.mm_reader.specs.ReaderView.{lines_left}
use Rattle.pack_words.specs.LocalCells.{LocalCells}
use Rattle.piece_file.specs.HeadView.{head_view}
use Rattle.piece_file.specs.PieceView.{array_piece}
use Rattle.piece_file.proofs.ArrayLaws.{values_given, halts_in, leaves_in}
use Rattle.piece_file.proofs.reading.read_array.Goals as goal

pub returns-in-Ok-clause-gives : goal.returns-in-Ok-clause-gives
returns-in-Ok-clause-gives g c = (
  λ told turn. (
    values_given turn (head_view c.args.head.now) (header_view c.args.size.now) (lines_left c.args.reader.now (g.S.Store.state c.args.store.now)) c.args.reader.now.number c.in-Ok.words.items c.requires.general (c.in-Ok.ensures.gives.0 told)
        ∙ ap (λ (a : LocalCells). Ok (array_piece (head_view c.args.head.now) a)) (sym c.from_words.ensures.made),
    c.in-Ok.ensures.ended told,
  ),
  c.in-Ok.ensures.gives.1,
)

pub returns-in-Err-clause-gives : goal.returns-in-Err-clause-gives
returns-in-Err-clause-gives g c =
    let old = g.S.Store.state c.args.store.now in
    rw c.halt_of.ensures (λ told turn. halts_in c.in-Err.halt turn (head_view c.args.head.now) (header_view c.args.size.now) c.args.reader.now.number (lines_left c.args.reader.now old) (c.in-Err.ensures.gives.0 told), leaves_in c.in-Err.halt old (g.S.Store.state c.read_values.new.store) c.in-Err.ensures.gives.1)
