-- Where runs and rectangles lie in the array of an end of a move.
use Rattle.std.specs.Prelude.{List}
use Rattle.pack_words.specs.declared.region.Region.{Region}
use Rattle.pack_words.specs.declared.span.Span.{Span}
use Rattle.block_meet.specs.declared.axis.Run.{Run}
use Rattle.block_meet.specs.declared.side.Meet.{Meet}
use Rattle.mr2d.specs.declared.parts.End.{End}
use Rattle.mr2d.specs.declared.parts.End.TheVariants.{Source, Target}
use Rattle.mr2d.specs.Pairs.{parts_of_a, parts_of_b}

-- a run as it lies there
abbrev pub span_on : End → Run → Span
span_on Source r = record { first = r.start; place = r.la; len = r.len }
span_on Target r = record { first = r.start; place = r.lb; len = r.len }

-- rectangles as they lie there
abbrev pub parts_on : End → List Meet → List Region
parts_on Source ms = parts_of_a ms
parts_on Target ms = parts_of_b ms
