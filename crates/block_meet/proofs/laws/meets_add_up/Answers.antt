use Rattle.block_meet.proofs.SumLemmas.{sum_over_pairs}
use Rattle.block_meet.proofs.laws.meets_add_up.Goals as goal

pub returns : goal.returns
returns c = λ cut ra rb ca cb rs cs wra wrb wca wcb h k. sum_over_pairs cut ra rb ca cb rs cs wra wrb wca wcb h k
