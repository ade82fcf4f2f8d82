-- The selected rows are one part of either column.
use Rattle.std.proofs.Common.{◌+◌, ◌<◌, sym, ap, ◌∙◌, arith}
use Rattle.pack_words.specs.LocalCells.{with_part}
use Rattle.pack_words.specs.Packing.{column_spots, words_at, AreSelectedRows}
use Rattle.pack_words.proofs.Columns.{column_words, column_written, column_length}
use Rattle.pack_words.proofs.CopyLaws.{alike_rows}
use Rattle.std.proofs.lemmas.List.{length-map}
use Rattle.pack_words.proofs.copying.copy_column.Goals as goal

pub returns-clause-array : goal.returns-clause-array
returns-clause-array c =
    let cut = c.args.cut.now in
    let source = c.args.source.now in
    let target = c.args.target.now in
    let from = c.args.from.now in
    let to = c.args.to.now in
    let v = c.args.v in
    let first = c.selected_part-first.result.0 in
    let last = c.selected_part-first.result.1 in
    let rows = c.selected_part-first.ensures in
    let read = column_words from cut source v first last rows c.requires.from_limits c.requires.in_from c.requires.column in
    let other : AreSelectedRows cut target v first last = alike_rows cut source target v first last c.requires.alike rows in
    let cols = c.requires.alike.cols in
    let column = c.requires.column in
    let there : v < target.cols = omega arith in
    let len = length-map (column_spots cut source v) _ ∙ column_length cut source v first last rows in
    c.set_part.ensures.after
    ∙ ap (λ ws. with_part to (target.li + first) (target.lj + v) ws) (c.part-part.ensures.words ∙ sym read)
    ∙ sym (column_written to cut target v first last (words_at from (column_spots cut source v)) other c.requires.to_limits c.requires.in_to there len)
