use Rattle.fold_ops.proofs.FoldOfLaws.{sum_iff}
use Rattle.fold_ops.proofs.meanings.sum_is_fold.Goals as goal

pub returns : goal.returns
returns c = sum_iff
