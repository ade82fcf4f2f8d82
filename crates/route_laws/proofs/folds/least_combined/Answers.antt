use Rattle.std.proofs.Common.{◌∙◌, length}
use Rattle.fold_ops.specs.Join.{min_joined}
use Rattle.fold_ops.specs.FoldOf.{word_with_place}
use Rattle.route_laws.proofs.FoldLaws.{least_combined, for_all_gives}
use Rattle.route_laws.proofs.folds.least_combined.Goals as goal

pub returns-clause-root : goal.returns-clause-root
returns-clause-root c = least_combined

pub returns-clause-all : goal.returns-clause-all
returns-clause-all c = λ words source edges fit s_in route p lt.
    for_all_gives (length words) source edges route min_joined (word_with_place words) p lt ∙ least_combined words source edges fit s_in route
