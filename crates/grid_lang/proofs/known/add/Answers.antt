use Rattle.std.proofs.Common.{◌≡◌, ◌∙◌, string_bytes}
use Rattle.std.proofs.lemmas.Result.{IfOk-at_ok}
use Rattle.grid_lang.proofs.NameSteps.{added_as}
use Rattle.grid_lang.proofs.known.add.Goals as goal

pub returns : goal.returns
returns c =
    let key = IfOk-at_ok (λ s. string_bytes s ≡ c.text_of.result.now) c.in_ok-name.was c.from_str.ensures.ok in
    added_as c.in_ok-name.name c.args.word.now c.args.what c.args.names.now c.insert.new.self (key ∙ c.text_of.ensures) c.in_ok-insert.ensures.updates
