use Rattle.std.proofs.Common.{◌≡◌, length}
use Rattle.std.specs.Prelude.{FitsSigned}
use Rattle.std.specs.Int.{w32}
use Rattle.std.specs.List.{AllByRecursion}
use Rattle.mm_grammar.specs.Place.{AtValues}
use Rattle.mm_reader.specs.Views.{header_view, behind_size, MayStand}
use Rattle.mm_reader.proofs.WayLaws.{Passes}
use Rattle.mm_reader.proofs.values.read_values.Given as goal

abbrev pub invariant-loop-have : goal.invariant-loop-have
invariant-loop-have g l =
    let state = g.S.Store.state in
    record {
      each : AllByRecursion (FitsSigned w32) l.words.items;
      stand : AllByRecursion (MayStand l.header.symmetry) l.words.items;
      count : length l.words.items ≡ l.have;
      way : Passes (behind_size l.header) (AtValues (header_view l.header) l.words.items) l.fn.reader l.reader (state l.fn.store) (state l.store);
    }
