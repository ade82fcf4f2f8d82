use Rattle.std.proofs.Common.{IsTrue, arith}
use Rattle.std.proofs.lemmas.Grind.{common_steps}
use Rattle.store_io.specs.Outside.{Outside, WritesOn}
use Rattle.text_io.proofs.Putting.{saves_closed, saves_unclosed}
use Rattle.text_io.proofs.saving.save.Goals as goal

pub returns-in-Ok-clause-saves : goal.returns-in-Ok-clause-saves
returns-in-Ok-clause-saves g c = λ told.
    let mid : Outside = g.S.Store.state c.open_write.new.self in
    let last : Outside = g.S.Store.state c.pour.new.store in
    let still : IsTrue mid.told = grind (arith, common_steps) in
    let poured : WritesOn mid last (g.T.Text.bytes c.args.text.now) = c.in_ok-pour.ensures.pours still in
    let later : IsTrue last.told = grind (arith, common_steps) in
    saves_closed (g.S.Store.state c.args.store.now).files mid last (g.S.Store.state c.close.new.self) c.args.name.now _ (c.in_ok-open_write.ensures.emptied told) (c.in_ok-open_write.ensures.named told) poured (c.in-Ok.ensures.files later)

pub returns-in-Err-clause-saves : goal.returns-in-Err-clause-saves
returns-in-Err-clause-saves g c = λ told.
    let mid : Outside = g.S.Store.state c.open_write.new.self in
    let last : Outside = g.S.Store.state c.pour.new.store in
    let still : IsTrue mid.told = grind (arith, common_steps) in
    let poured : WritesOn mid last (g.T.Text.bytes c.args.text.now) = c.in_ok-pour.ensures.pours still in
    let later : IsTrue last.told = grind (arith, common_steps) in
    saves_unclosed (g.S.Store.state c.args.store.now).files mid last (g.S.Store.state c.close.new.self) c.args.name.now _ (c.in_ok-open_write.ensures.emptied told) (c.in_ok-open_write.ensures.named told) poured (c.in-Err.ensures.files later)
