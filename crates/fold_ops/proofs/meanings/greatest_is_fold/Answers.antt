use Rattle.fold_ops.proofs.FoldOfLaws.{greatest_iff}
use Rattle.fold_ops.proofs.meanings.greatest_is_fold.Goals as goal

pub returns : goal.returns
returns c = greatest_iff
