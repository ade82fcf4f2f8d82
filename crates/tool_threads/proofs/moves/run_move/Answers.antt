use Rattle.std.specs.Prelude.{Some, map}
use Rattle.piece_file.specs.PieceView.{piece_view}
use Rattle.file_tools.specs.TargetView.{target_view}
use Rattle.file_tools.specs.SplitWalk.{piece_names}
use Rattle.file_tools.specs.MoveWalk.{moved_walk}
use Rattle.file_tools.proofs.FollowLaws.{after_pieces}
use Rattle.tool_threads.proofs.moves.run_move.Goals as goal

pub returns : goal.returns
returns g c =
    let t = target_view c.args.target.now in
    after_pieces c.move_whole.result c.args.prefix.now (moved_walk t) (map piece_view c.in_ok-pieces.pieces.items) (Some (piece_names t)) (g.S.Store.state c.args.store.now) (g.S.Store.state c.read_pieces.new.store) (g.S.Store.state c.move_whole.new.store) (g.O.Sink.state c.args.out.now) (g.O.Sink.state c.move_whole.new.out)
    c.in_ok-pieces.ensures.comes c.in_ok-pieces.ensures.ok c.move_whole.ensures
