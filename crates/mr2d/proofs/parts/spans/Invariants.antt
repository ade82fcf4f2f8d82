-- The runs so far.
use Rattle.std.specs.Prelude.{◌≡◌, map, take}
use Rattle.mr2d.specs.Ends.{span_on}
use Rattle.mr2d.proofs.parts.spans.Given as goal

abbrev pub invariant-loop-run : goal.invariant-loop-run
invariant-loop-run l = l.spans.items ≡ map (span_on l.end) (take l.run-index l.runs)
