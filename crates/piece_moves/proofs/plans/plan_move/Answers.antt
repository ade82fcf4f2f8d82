use Rattle.std.proofs.Common.{◌≡◌, List, length, sym, ◌∙◌, arith}
use Rattle.pack_words.specs.RankOps.{RankState}
use Rattle.piece_moves.specs.PieceMove as by
use Rattle.piece_moves.proofs.PlannedLaws.{has_room, numbered, nodes_are, ranks_bound, few_words}
use Rattle.piece_moves.proofs.RunLaws.{runs}
use Rattle.piece_moves.proofs.plans.plan_move.Goals as goal

pub new-requires : goal.new-requires
new-requires c =
    let bound = ranks_bound c.requires.0 c.requires.1.0 c.args.args.now c.args.contexts.now c.args.shapes.now c.args.nodes.items c.requires.1.1 in
    (omega (arith, bound.0, c.ranks.ensures.ranks), omega (arith, bound.1, c.ranks.ensures.ranks))

pub append_move-requires-clause-prepared : goal.append_move-requires-clause-prepared
append_move-requires-clause-prepared c = (c.requires.0, (c.requires.1.0, (c.args.nodes.items, c.requires.1.1)))

pub returns : goal.returns
returns c = λ ps d is.
    let args = c.args.args.now in
    let contexts = c.args.contexts.now in
    let v = c.args.shapes.now in
    let nodes : List RankState = c.args.nodes.items in
    let before = c.in_ok-plan.plan in
    let after = c.append_move.new.plan in
    let room = has_room ps d args contexts v nodes is before after c.in_ok-numbers.numbers c.in_ok-numbers.ensures.done c.in_ok-plan.ensures.1 in
    let run = runs ps d args contexts v nodes is before after c.in_ok-plan.ensures.1 c.in_ok-numbers.ensures.appends room in
    let count : length nodes ≡ by.ranks_for (by.first_of ps) d = nodes_are ps d args contexts v nodes is ∙ is.ranks_are in
    let ranks : before.ranks ≡ by.ranks_for (by.first_of ps) d = c.in_ok-plan.ensures.0 ∙ c.ranks.ensures.ranks ∙ is.ranks_are in
    record {
      can_run = record {
        ranks = count ∙ sym ranks ∙ sym c.append_move.ensures.ranks;
        can = run.0;
        words = few_words ps d args contexts v nodes is before after c.in_ok-numbers.numbers c.in_ok-numbers.ensures.done c.in_ok-plan.ensures.1;
      };
      arrays = run.1;
      numbers_are = numbered ps d args contexts v nodes is before after c.in_ok-numbers.numbers c.in_ok-numbers.ensures.done ranks;
    }
