-- Where there is no column of the matrix all words stay.
use Rattle.std.proofs.Common.{◌≡◌, ℕ, ℤ, ap, sym, ◌∙◌}
use Rattle.std.specs.Prelude.{Option, None}
use Rattle.scope_ops.specs.Lines.{numbered_from}
use Rattle.array_contents.specs.declared.local_words.Source.{Source}
use Rattle.array_contents.specs.declared.local_words.Source.TheVariants.{Load}
use Rattle.array_contents.specs.LocalWords.{spread_word}
use Rattle.array_contents.proofs.ColumnLaws.{loaded_none}
use Rattle.array_contents.proofs.local_words.spread_column.Goals as goal

pub returns-in_default : goal.returns-in_default
returns-in_default c =
    let whole = c.in-Load.whole.now in
    let rows = c.args.rows.now in
    let before = c.args.before.now in
    c.copy_from_slice.ensures.after
    ∙ sym (loaded_none whole.words.items whole.rows rows before)
    ∙ ap (λ (o : Option ℕ). numbered_from 0 (spread_word (Load c.in-Load.whole) rows o) before) (sym c.in_default.is)
    ∙ ap (λ (s : Source). numbered_from 0 (spread_word s rows c.args.column) before) (sym c.in-Load.is)
