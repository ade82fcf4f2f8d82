use Rattle.std.proofs.Common.{ℕ, List, subst}
use Rattle.std.specs.List.{flat_map}
use Rattle.text_io.specs.Writing.{Puts}
use Rattle.piece_grammar.specs.PlainPiece.{spaced, desc_numbers}
use Rattle.piece_file.proofs.writing.put_desc_numbers.Goals as goal

pub returns : goal.returns
unfolding desc_numbers
returns g c =
    let state = g.S.Store.state in
    let P : List ℕ → Type 0 = λ ns. Puts c.put_numbers.result (state c.args.store.now) (state c.put_numbers.new.store) c.args.pen.now c.put_numbers.new.pen (flat_map spaced ns) in
    subst P c.numbers.ensures c.put_numbers.ensures
