use Rattle.std.proofs.Common.{◌∙◌, rules, FitsSigned, to_z, of_z, to_z-of_z}
use Rattle.std.specs.Prelude.{map}
use Rattle.std.specs.Int.{w64}
use Rattle.piece_file.specs.PieceView.{piece_view}
use Rattle.piece_moves.specs.DistributionView.{distribution_view}
use Rattle.drawn_jobs.proofs.JobLaws.{first_turns, first_small, first_moved, second_turns, second_small, few_ranks, sum_is, there_is, back_is, there_low, back_low, is_loaded}
use Rattle.drawn_jobs.proofs.job.load_job.Goals as goal

pub move_on-requires-clause-turns : goal.move_on-requires-clause-turns
move_on-requires-clause-turns c = first_turns c.args.seed c.args.size (map piece_view c.in_ok-dealt.dealt.items) c.in_ok-dealt.ensures c.requires.few

pub move_on-requires-clause-few : goal.move_on-requires-clause-few
move_on-requires-clause-few c = first_small c.args.seed c.args.size (map piece_view c.in_ok-dealt.dealt.items) (distribution_view c.second_grid-second.result) c.in_ok-dealt.ensures c.second_grid-second.ensures c.requires.few

pub sum_on-requires-clause-turns : goal.sum_on-requires-clause-turns
sum_on-requires-clause-turns c =
    let there = first_moved c.args.seed c.args.size (map piece_view c.in_ok-dealt.dealt.items) (map piece_view c.in_ok-there.there.pieces.items) (distribution_view c.second_grid-second.result) c.in_ok-dealt.ensures c.second_grid-second.ensures c.in_ok-there.ensures.pieces in
    second_turns c.args.seed c.args.size (map piece_view c.in_ok-there.there.pieces.items) there c.requires.few

pub sum_on-requires-clause-few : goal.sum_on-requires-clause-few
sum_on-requires-clause-few c =
    let there = first_moved c.args.seed c.args.size (map piece_view c.in_ok-dealt.dealt.items) (map piece_view c.in_ok-there.there.pieces.items) (distribution_view c.second_grid-second.result) c.in_ok-dealt.ensures c.second_grid-second.ensures c.in_ok-there.ensures.pieces in
    second_small c.args.seed c.args.size (map piece_view c.in_ok-there.there.pieces.items) (distribution_view c.first_grid-first.result) there c.first_grid-first.ensures c.requires.few

pub sum_on-requires-clause-ranks : goal.sum_on-requires-clause-ranks
sum_on-requires-clause-ranks c = few_ranks (distribution_view c.first_grid-first.result) c.first_grid-first.ensures

pub both-requires-clause-there : goal.both-requires-clause-there
both-requires-clause-there c =
    there_low c.args.size c.in_ok-there.there.numbers (there_is c.args.seed c.args.size (map piece_view c.in_ok-dealt.dealt.items) (distribution_view c.second_grid-second.result) c.in_ok-there.there.numbers c.in_ok-dealt.ensures c.second_grid-second.ensures c.in_ok-there.ensures.numbers) c.requires.few

pub both-requires-clause-back : goal.both-requires-clause-back
both-requires-clause-back c =
    let there = first_moved c.args.seed c.args.size (map piece_view c.in_ok-dealt.dealt.items) (map piece_view c.in_ok-there.there.pieces.items) (distribution_view c.second_grid-second.result) c.in_ok-dealt.ensures c.second_grid-second.ensures c.in_ok-there.ensures.pieces in
    back_low c.args.size c.in_ok-back.back.numbers (back_is c.args.seed c.args.size (map piece_view c.in_ok-there.there.pieces.items) (distribution_view c.first_grid-first.result) c.in_ok-back.back.numbers there c.first_grid-first.ensures c.in_ok-back.ensures.numbers) c.requires.few

pub returns : goal.returns
returns c =
    let there = first_moved c.args.seed c.args.size (map piece_view c.in_ok-dealt.dealt.items) (map piece_view c.in_ok-there.there.pieces.items) (distribution_view c.second_grid-second.result) c.in_ok-dealt.ensures c.second_grid-second.ensures c.in_ok-there.ensures.pieces in
    let fits : FitsSigned w64 c.in_ok-back.back.sum = search rules in
    is_loaded c.args.seed c.args.size c.in_ok-there.there.numbers c.in_ok-back.back.numbers (to_z w64 (of_z w64 c.in_ok-back.back.sum)) c.both.result
    (there_is c.args.seed c.args.size (map piece_view c.in_ok-dealt.dealt.items) (distribution_view c.second_grid-second.result) c.in_ok-there.there.numbers c.in_ok-dealt.ensures c.second_grid-second.ensures c.in_ok-there.ensures.numbers)
    (back_is c.args.seed c.args.size (map piece_view c.in_ok-there.there.pieces.items) (distribution_view c.first_grid-first.result) c.in_ok-back.back.numbers there c.first_grid-first.ensures c.in_ok-back.ensures.numbers)
    (to_z-of_z fits ∙ sum_is c.args.seed c.args.size (map piece_view c.in_ok-there.there.pieces.items) c.in_ok-back.back.sum there c.in_ok-back.ensures.sum) c.both.ensures
