-- The place is that of the file's array.
use Rattle.std.proofs.Common.{map}
use Rattle.pack_words.specs.GridState.{arrays_held}
use Rattle.program_results.specs.EndsView.{FinishedView}
use Rattle.program_results.proofs.WritingLaws.{whole_saved, piece_saved}
use Rattle.program_results.proofs.writing.save_file.Goals as goal

pub save_whole-requires : goal.save_whole-requires
save_whole-requires g c = c.requires.fits.spread c.in-Whole.array c.place.result.now c.place.ensures

pub save_piece-requires-clause-parts : goal.save_piece-requires-clause-parts
save_piece-requires-clause-parts g c = c.requires.fits.spread c.in-Piece.array c.place-in-Piece.result.now c.place-in-Piece.ensures

pub returns-in-Whole-clause-saves : goal.returns-in-Whole-clause-saves
returns-in-Whole-clause-saves g c = λ told.
    let f : FinishedView = record { ends = c.args.ends.now; arrays = map arrays_held c.args.nodes.now } in
    whole_saved c.save_whole.result (g.S.Store.state c.args.store.now).files (g.S.Store.state c.save_whole.new.store).files f c.args.number c.file-file.result.now c.in-Whole.array c.place.result.now c.as_str-name.result.now c.file-file.ensures.file c.in-Whole.is c.place.ensures c.as_str-name.ensures (c.save_whole.ensures.saves told)

pub returns-in-Piece-clause-saves : goal.returns-in-Piece-clause-saves
returns-in-Piece-clause-saves g c = λ told.
    let f : FinishedView = record { ends = c.args.ends.now; arrays = map arrays_held c.args.nodes.now } in
    piece_saved c.save_piece.result (g.S.Store.state c.args.store.now).files (g.S.Store.state c.save_piece.new.store).files f c.args.number c.file-file.result.now c.in-Piece.array c.in-Piece.process c.place-in-Piece.result.now c.as_str-name.result.now c.file-file.ensures.file c.in-Piece.is c.place-in-Piece.ensures c.as_str-name.ensures (c.save_piece.ensures.saves told)
