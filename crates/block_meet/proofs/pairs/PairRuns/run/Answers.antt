use Rattle.std.proofs.Common.{◌≡◌, subst}
use Rattle.block_meet.specs.Runs.{IsAxis}
use Rattle.block_meet.specs.Stretch.{run_from}
use Rattle.block_meet.specs.Pairs.{Dealt}
use Rattle.block_meet.proofs.PairLemmas.{nth_run_of}
use Rattle.block_meet.proofs.pairs.PairRuns.run.Goals as goal

pub returns : goal.returns
returns c =
    let wa = subst (λ (t : Dealt). IsAxis t.n t.a) c.self.view_is c.self.invariant.first in
    let wb = subst (λ (t : Dealt). IsAxis t.n t.b) c.self.view_is c.self.invariant.second in
    record {
      list = λ rs h. nth_run_of c.args.self.now.n c.args.self.now.a c.args.self.now.b c.args.p c.args.q c.args.k c.first_of.result c.run_at.result rs wa.block wb.block h c.requires.below (c.first_of.ensures.first rs h)
          (subst (λ (t : Dealt). c.run_at.result ≡ run_from t.n t.a t.b c.first_of.result) c.self.view_is c.run_at.ensures.run);
    }
