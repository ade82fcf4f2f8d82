use Rattle.std.proofs.Common.{refl}
use Rattle.grid_exec.proofs.LaterLines.{words_stand}
use Rattle.grid_exec.proofs.FrontLines.{is_words}
use Rattle.grid_exec.proofs.CheckSteps.{checking_words}
use Rattle.grid_exec.proofs.check.check_line.Goals as goal

pub returns-in_default : goal.returns-in_default
returns-in_default c =
    let words = is_words c.args.line.now c.kind_of.result c.kind_of.ensures c.in_default.not-Declaration c.requires.front in
    record {
      known = λ k h. words_stand c.args.declared k c.args.line.now words h;
      ranks = refl;
      done = λ state is exact. checking_words c.args.declared c.args.plan.now state c.args.line.now words is exact;
    }
