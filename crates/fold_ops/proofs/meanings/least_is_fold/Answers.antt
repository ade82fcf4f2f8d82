use Rattle.fold_ops.proofs.FoldOfLaws.{least_iff}
use Rattle.fold_ops.proofs.meanings.least_is_fold.Goals as goal

pub returns : goal.returns
returns c = least_iff
