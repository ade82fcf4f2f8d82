use Rattle.std.proofs.Common.{◌∙◌, length}
use Rattle.fold_ops.specs.Join.{max_joined}
use Rattle.fold_ops.specs.FoldOf.{word_with_place}
use Rattle.route_laws.proofs.FoldLaws.{greatest_combined, for_all_gives}
use Rattle.route_laws.proofs.folds.greatest_combined.Goals as goal

pub returns-clause-root : goal.returns-clause-root
returns-clause-root c = greatest_combined

pub returns-clause-all : goal.returns-clause-all
returns-clause-all c = λ words source edges fit s_in route p lt.
    for_all_gives (length words) source edges route max_joined (word_with_place words) p lt ∙ greatest_combined words source edges fit s_in route
