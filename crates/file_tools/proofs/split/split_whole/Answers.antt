use Rattle.std.proofs.Common.{◌^◌, ◌≤◌, [], Some, refl, arith}
use Rattle.mm_text.specs.Loading.{matrix_of}
use Rattle.command_walks.specs.Walk.{Ends}
use Rattle.command_walks.proofs.LimitLaws.{large_stops}
use Rattle.file_tools.specs.SplitWalk.{job_words, piece_names, saves_of}
use Rattle.file_tools.specs.TargetView.{target_view}
use Rattle.file_tools.proofs.FollowLaws.{ends_by, small_follows}
use Rattle.file_tools.proofs.SplitLaws.{saves_as, names_as}
use Rattle.file_tools.proofs.split.split_whole.Goals as goal

pub returns-then-words-gt-LIMIT : goal.returns-then-words-gt-LIMIT
returns-then-words-gt-LIMIT g c = large_stops c.count_words-words.result _ _ (Some (piece_names (target_view c.args.target.now))) (g.S.Store.state c.args.store.now) c.count_words-words.ensures c.if-words-gt-LIMIT.true

pub returns : goal.returns
returns g c =
    let t = target_view c.args.target.now in
    let m = matrix_of c.args.whole.now in
    let s = c.in_ok-files.files in
    let old = g.S.Store.state c.args.store.now in
    let new = g.S.Store.state c.save_to_end.new.store in
    let small : c.count_words-words.result ≤ 2 ^ 26 = omega (arith, c.if-words-gt-LIMIT.false) in
    small_follows c.save_to_end.result c.count_words-words.result (job_words t m.rows m.columns) (Ends (saves_of t m) []) (Some (piece_names t)) old new c.count_words-words.ensures small
    (λ pour. ends_by c.save_to_end.result (saves_of (target_view s.pieces.target) (matrix_of s.whole.now)) (saves_of t m) [] [] (piece_names t) old new pour pour
    (saves_as s.pieces.target c.args.target.now s.whole.now c.args.whole.now c.in_ok-files.ensures.target c.in_ok-files.ensures.whole)
    (names_as s.pieces.target c.args.target.now (matrix_of s.whole.now) c.in_ok-files.ensures.target) refl (c.save_to_end.ensures pour))
