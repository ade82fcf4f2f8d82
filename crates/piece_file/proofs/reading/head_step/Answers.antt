use Rattle.std.proofs.Common.{◌≡◌, true, rules}
use Rattle.std.specs.List.{list_all}
use Rattle.mm_grammar.specs.FileLines.{is_text_byte}
use Rattle.piece_file.specs.Asking.{desc_view, turn_view}
use Rattle.piece_file.proofs.StepLaws.{head_makes}
use Rattle.piece_file.proofs.reading.head_step.Goals as goal

pub returns-in-Some-clause-steps : goal.returns-in-Some-clause-steps
returns-in-Some-clause-steps c =
    let text : list_all is_text_byte c.args.line.now ≡ true = search rules in
    head_makes (turn_view c.args.turn.now) c.args.line.now (desc_view c.in-Some.desc) c.check_desc.result c.requires text c.in-Some.ensures c.check_desc.ensures
