use Rattle.std.proofs.Common.{refl}
use Rattle.std.specs.Int.{int_wrap}
use Rattle.fold_ops.specs.FoldOf.{sum_of, greatest_of, least_of}
use Rattle.fold_ops.proofs.meanings.fold_rows.Goals as goal

pub returns : goal.returns
unfolding greatest_of least_of sum_of int_wrap
returns c = record { greatest = refl; greatest_tie = refl; least_tie = refl; far = refl; near = refl; wraps = refl }
