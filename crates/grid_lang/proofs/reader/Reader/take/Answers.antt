use Rattle.std.proofs.Common.{rules, ◌≡◌, true, arith}
use Rattle.std.specs.List.{list_all}
use Rattle.line_text.specs.TextBytes.{is_text_byte}
use Rattle.grid_lang.proofs.TextSteps.{words_are_ascii, ascii_more}
use Rattle.grid_lang.proofs.reader.Reader.take.Goals as goal

pub keyword_line-requires : goal.keyword_line-requires
keyword_line-requires c =
    let all : list_all is_text_byte c.args.text.now ≡ true = first_of (search rules, grind arith, cc) in
    ascii_more _ _ _ (words_are_ascii _ all) c.in-Some.ensures
