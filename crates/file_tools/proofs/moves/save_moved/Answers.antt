use Rattle.piece_file.specs.HeadView.{head_view}
use Rattle.file_tools.specs.TargetView.{target_view}
use Rattle.file_tools.proofs.MoveLaws.{ends_so}
use Rattle.file_tools.proofs.moves.save_moved.Goals as goal

pub returns : goal.returns
returns g c = λ ps first are.
    let f = c.args.files in
    ends_so c.save_and_tell.result (target_view f.pieces.target) ps (head_view f.first) f.moved.numbers f.moved.nodes.items (g.S.Store.state c.args.store.now) (g.S.Store.state c.save_and_tell.new.store) (g.O.Sink.state c.args.out.now) (g.O.Sink.state c.save_and_tell.new.out)
    first are c.save_and_tell.ensures
