use Rattle.std.proofs.Common.{◌≡◌}
use Rattle.drawn_jobs.specs.Drawing.{state_after, drawn_words}
use Rattle.drawn_jobs.proofs.drawing.draw.Given as goal

abbrev pub invariant-loop-k : goal.invariant-loop-k
invariant-loop-k l = record {
  words : l.words.items ≡ drawn_words l.seed l._k;
  state : l.state ≡ state_after l.seed l._k;
}
