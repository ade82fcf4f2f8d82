use Rattle.std.specs.Prelude.{Some}
use Rattle.mm_text.specs.Loading.{matrix_of}
use Rattle.file_tools.specs.TargetView.{target_view}
use Rattle.file_tools.specs.SplitWalk.{job_walk, piece_names}
use Rattle.file_tools.proofs.FollowLaws.{after_matrix}
use Rattle.file_tools.proofs.split.run_split.Goals as goal

pub returns : goal.returns
returns g c = λ pour.
    after_matrix c.split_whole.result c.args.input (job_walk (target_view c.args.target.now)) (matrix_of c.in_ok-whole.whole) (Some (piece_names (target_view c.args.target.now))) (g.S.Store.state c.args.store.now) (g.S.Store.state c.read_input.new.store) (g.S.Store.state c.split_whole.new.store) pour pour
    c.in_ok-whole.ensures.comes c.in_ok-whole.ensures.ok (c.split_whole.ensures pour)
