use Rattle.std.specs.Prelude.{map, [], ◌∷◌, Some}
use Rattle.piece_file.specs.PieceView.{piece_view}
use Rattle.file_tools.specs.JoinWalk.{whole_walk}
use Rattle.file_tools.proofs.FollowLaws.{after_pieces}
use Rattle.file_tools.proofs.join.run_join.Goals as goal

pub returns : goal.returns
returns g c = λ pour.
    after_pieces c.join_whole.result c.args.prefix.now (whole_walk c.args.output) (map piece_view c.in_ok-pieces.pieces.items) (Some (c.args.output ∷ [])) (g.S.Store.state c.args.store.now) (g.S.Store.state c.read_pieces.new.store) (g.S.Store.state c.join_whole.new.store) pour pour
    c.in_ok-pieces.ensures.comes c.in_ok-pieces.ensures.ok (c.join_whole.ensures pour)
