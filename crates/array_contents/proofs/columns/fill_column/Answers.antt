-- The elements, and then the padding.
use Rattle.std.proofs.Common.{◌≡◌, ℕ, ℤ, List, length, Some, None, ap, sym, ◌∙◌, subst, rules, FitsSigned, to_z, of_z, to_z-of_z}
use Rattle.std.specs.Prelude.{Option}
use Rattle.std.specs.Int.{w32}
use Rattle.scope_ops.specs.Lines.{numbered_from}
use Rattle.array_contents.specs.Columns.{filled_word, padding_word}
use Rattle.array_contents.specs.Passes.{from_here}
use Rattle.array_contents.proofs.ColumnLaws.{filled_some, filled_none}
use Rattle.array_contents.proofs.columns.fill_column.Goals as goal

pub returns-in-Some : goal.returns-in-Some
returns-in-Some c =
    let f = c.args.filling.now in
    let rows = c.args.rows.now in
    let fits : FitsSigned w32 f.d = search rules in
    let rest : c.fill_rest.new.words ≡ from_here (length rows) (padding_word f.d) c.fill_elements.new.words =
    c.fill_rest.ensures ∙ ap (λ (d : ℤ). from_here (length rows) (padding_word d) c.fill_elements.new.words) (to_z-of_z fits) in
    λ before long.
    filled_some f rows c.in-Some.j c.args.words.now c.fill_elements.new.words c.fill_rest.new.words before c.fill_elements.ensures.done rest long
    ∙ ap (λ (o : Option ℕ). numbered_from 0 (filled_word f rows o) before) (sym c.in-Some.is)

pub returns-in-None : goal.returns-in-None
returns-in-None c =
    let f = c.args.filling.now in
    let rows = c.args.rows.now in
    let fits : FitsSigned w32 f.d = search rules in
    let rest : c.fill_rest-in-None.new.words ≡ from_here 0 (padding_word f.d) c.args.words.now =
    c.fill_rest-in-None.ensures ∙ ap (λ (d : ℤ). from_here 0 (padding_word d) c.args.words.now) (to_z-of_z fits) in
    λ before long.
    filled_none f rows c.args.words.now c.fill_rest-in-None.new.words before rest long
    ∙ ap (λ (o : Option ℕ). numbered_from 0 (filled_word f rows o) before) (sym c.in-None.is)
