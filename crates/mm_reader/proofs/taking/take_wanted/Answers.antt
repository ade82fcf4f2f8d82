use Rattle.std.proofs.Common.{ℕ, Err, sym, ap, ◌∙◌}
use Rattle.mm_grammar.specs.Width.{width32}
use Rattle.mm_reader.specs.Views.{fault_of}
use Rattle.mm_reader.specs.ReaderView.{lines_left}
use Rattle.mm_reader.proofs.WayLaws.{bad_end}
use Rattle.mm_reader.proofs.taking.take_wanted.Goals as goal

pub returns : goal.returns
returns g c =
    let ended = rw c.if-branch.false at c.in_ok-take_line.ensures in
    (λ told place e. bad_end width32 c.args.reader.now.number place (lines_left c.args.reader.now (g.S.Store.state c.args.store.now)) (fault_of c.args.missing) (ended.none told) e ∙ ap (λ (n : ℕ). Err (record { line = n; fault = fault_of c.args.missing })) (sym c.number-line.ensures), ended.same)
