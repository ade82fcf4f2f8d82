use Rattle.std.proofs.Common.{rules, w32}
use Rattle.std.specs.Prelude.{FitsSigned}
use Rattle.std.proofs.lemmas.Int.{wrapping_add_is}
use Rattle.fold_ops.specs.SumLaws.{made}
use Rattle.fold_ops.proofs.sum_mod.SumModCombine.join.Goals as goal

pub returns : goal.returns
returns c =
    let a_fits : FitsSigned w32 c.args.a.value = search rules in
    let b_fits : FitsSigned w32 c.args.b.value = search rules in
    made _ _ _ _ (wrapping_add_is w32 c.args.a.value c.args.b.value a_fits b_fits) (search rules)
