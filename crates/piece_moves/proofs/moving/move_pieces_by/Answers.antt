use Rattle.std.specs.Prelude.{map}
use Rattle.piece_file.specs.PieceView.{piece_view}
use Rattle.piece_moves.specs.DistributionView.{distribution_view}
use Rattle.piece_moves.proofs.moving.move_pieces_by.Goals as goal

pub returns : goal.returns
returns g c = c.finish.ensures.moved (map piece_view c.args.pieces.items) (distribution_view c.args.to.now) c.in_ok-numbers.field-0.plan c.in_ok-numbers.field-0.nodes.items c.in_ok-numbers.ensures c.in_ok-nodes.ensures
