use Rattle.std.proofs.Common.{◌≡◌, ◌+◌, take, ap, ◌∙◌, arith}
use Rattle.text_io.specs.LineReading.{ReaderView}
use Rattle.text_io.proofs.RunSteps.{kept_fault, kept_line}
use Rattle.text_io.proofs.reader.Reader.finish.Goals as goal

pub returns-then-length-gt-LONGEST-clause-ends : goal.returns-then-length-gt-LONGEST-clause-ends
returns-then-length-gt-LONGEST-clause-ends c = λ text is long.
    let kept : take c.self.inside.length c.self.inside.text ≡ take 1025 text = ap (λ (v : ReaderView). v.text) c.self.view_is ∙ is in
    let before : c.self.inside.before ≡ c.args.self.now.before = ap (λ (v : ReaderView). v.before) c.self.view_is in
    kept_fault c.self.inside.text text c.self.inside.length c.length_without_return-length.result (c.args.self.now.before + c.args.bytes) kept (omega arith) c.length_without_return-length.ensures.within c.length_without_return-length.ensures.kept (omega arith) (omega arith)

pub returns-clause-ends : goal.returns-clause-ends
returns-clause-ends c = λ text is long.
    let kept : take c.self.inside.length c.self.inside.text ≡ take 1025 text = ap (λ (v : ReaderView). v.text) c.self.view_is ∙ is in
    let before : c.self.inside.before ≡ c.args.self.now.before = ap (λ (v : ReaderView). v.before) c.self.view_is in (
      kept_line c.self.inside.text text c.self.inside.length c.length_without_return-length.result kept (omega arith) c.length_without_return-length.ensures.within c.length_without_return-length.ensures.kept,
      omega arith,
    )
