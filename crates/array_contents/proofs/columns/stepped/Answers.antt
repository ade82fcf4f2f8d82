-- The term that is added was wrapped on the way.
use Rattle.std.proofs.Common.{◌≡◌, ℤ, rules, ap, ◌∙◌, pos, ◌+ℤ◌, ◌*ℤ◌, FitsSigned, to_z, of_z, to_z-of_z}
use Rattle.std.specs.Int.{int_wrap, w32}
use Rattle.std.proofs.lemmas.Int.{wrapping_add_is, int_wrap-add_right}
use Rattle.array_contents.proofs.columns.stepped.Goals as goal

pub returns : goal.returns
returns c =
    let fits : FitsSigned w32 c.args.step = search rules in
    wrapping_add_is w32 c.args.first c.product-term.result (search rules) (search rules)
    ∙ ap (λ x. int_wrap w32 (c.args.first +ℤ x)) (c.product-term.ensures ∙ ap (λ s. int_wrap w32 (s *ℤ pos c.args.index)) (to_z-of_z fits))
    ∙ int_wrap-add_right w32 c.args.first (c.args.step *ℤ pos c.args.index)
