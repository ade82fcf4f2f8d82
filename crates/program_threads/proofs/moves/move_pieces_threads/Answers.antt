use Rattle.std.proofs.Common.{sym, subst}
use Rattle.std.specs.Prelude.{map}
use Rattle.descriptor.specs.declared.moves.Moved.{Moved}
use Rattle.piece_file.specs.PieceView.{piece_view}
use Rattle.piece_moves.specs.DistributionView.{distribution_view}
use Rattle.piece_moves.specs.MoveRuns.{IsPlanned}
use Rattle.program_threads.proofs.moves.move_pieces_threads.Goals as goal

pub returns-clause-moved : goal.returns-clause-moved
returns-clause-moved g c = c.finish.ensures.moved (map piece_view c.args.pieces.items) (distribution_view c.args.to.now) c.in_ok-numbers.field-0.plan c.in_ok-numbers.field-0.nodes.items c.in_ok-numbers.ensures c.in_ok-nodes.ensures.nodes

pub returns-clause-desks : goal.returns-clause-desks
returns-clause-desks g c =
    let plan = c.in_ok-numbers.field-0.plan in
    let nodes = c.in_ok-numbers.field-0.nodes.items in
    (plan, (nodes, (subst (λ (n : Moved). IsPlanned (map piece_view c.args.pieces.items) (distribution_view c.args.to.now) plan nodes n) (sym c.finish.ensures.numbers) c.in_ok-numbers.ensures, c.in_ok-nodes.ensures.desks)))
