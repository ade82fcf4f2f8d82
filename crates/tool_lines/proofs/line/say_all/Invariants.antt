use Rattle.std.proofs.Common.{◌≡◌, IsTrue, map, take, ◌++◌}
use Rattle.tool_lines.specs.Saying.{part_text}
use Rattle.tool_lines.specs.Texts.{joined}
use Rattle.tool_lines.proofs.line.say_all.Given as goal

-- the parts before this one are said
abbrev pub invariant-loop-part : goal.invariant-loop-part
invariant-loop-part g l =
    let state = g.E.Sink.state in
    record {
      told : (state l.err).told ≡ (state l.fn.err).told;
      faults : (state l.err).faults ≡ (state l.fn.err).faults;
      said : IsTrue (state l.fn.err).told → (state l.err).bytes ≡ (state l.fn.err).bytes ++ joined (map part_text (take l.part-index l.parts));
    }
