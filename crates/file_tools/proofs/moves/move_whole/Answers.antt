use Rattle.std.proofs.Common.{ap, ◌∙◌, arith}
use Rattle.std.specs.Prelude.{map}
use Rattle.piece_file.specs.PieceView.{piece_view}
use Rattle.piece_moves.specs.DistributionView.{distribution_view}
use Rattle.piece_moves.specs.PieceMove.{first_of}
use Rattle.file_tools.proofs.MoveLaws.{count_is, stops_so, goes_on}
use Rattle.file_tools.proofs.moves.move_whole.Goals as goal

pub returns-then-words-gt-LIMIT : goal.returns-then-words-gt-LIMIT
returns-then-words-gt-LIMIT g c =
    stops_so c.args.target.now c.args.pieces.items c.deref.result.now (distribution_view c.distribution-to.result) c.words_of_move-words.result (g.S.Store.state c.args.store.now) c.deref.ensures.value c.distribution-to.ensures c.words_of_move-words.ensures c.if-words-gt-LIMIT.true (g.O.Sink.state c.args.out.now)

pub move_pieces-requires-clause-few : goal.move_pieces-requires-clause-few
move_pieces-requires-clause-few g c = omega (arith, c.if-words-gt-LIMIT.false, count_is c.args.pieces.items c.deref.result.now (distribution_view c.distribution-to.result) c.words_of_move-words.result c.deref.ensures.value c.words_of_move-words.ensures)

pub returns : goal.returns
returns g c =
    let d = distribution_view c.distribution-to.result in
    let count = count_is c.args.pieces.items c.deref.result.now d c.words_of_move-words.result c.deref.ensures.value c.words_of_move-words.ensures in
    goes_on c.save_moved.result c.in_ok-names.names.target c.args.target.now _ d c.in_ok-moved.moved.numbers c.in_ok-moved.moved.nodes.items c.words_of_move-words.result (g.S.Store.state c.args.store.now) (g.S.Store.state c.save_moved.new.store) (g.O.Sink.state c.args.out.now) (g.O.Sink.state c.save_moved.new.out)
    c.in_ok-names.ensures c.distribution-to.ensures count (omega (arith, c.if-words-gt-LIMIT.false)) c.in_ok-moved.ensures (c.save_moved.ensures _ (c.first_head-first.ensures.view ∙ ap (λ hs. first_of (map piece_view hs)) c.deref-2.ensures.value))
