use Rattle.std.proofs.Common.{Ok}
use Rattle.mm_grammar.specs.Place.{AtSize}
use Rattle.mm_reader.specs.Halting.{At}
use Rattle.mm_reader.specs.Views.{kind_of, behind_size}
use Rattle.mm_reader.proofs.WayLaws.{gives_then}
use Rattle.mm_reader.proofs.size.read_size.Goals as goal

pub returns-in-Some : goal.returns-in-Some
returns-in-Some g c =
    let state = g.S.Store.state in
    let place = AtSize (kind_of c.args.symmetry) in
    gives_then (λ header. At (behind_size header)) (Ok c.in-Some.header) place place c.args.reader.now c.loop-header.reader c.read_between.new.reader (state c.args.store.now) (state c.loop-header.store) (state c.read_between.new.store) c.loop-header.invariant (rw c.in-Some.is at c.in_ok-header.ensures.goes)

pub loop-header-preserved : goal.loop-header-preserved
loop-header-preserved g c =
    let state = g.S.Store.state in
    let place = AtSize (kind_of c.args.symmetry) in
    gives_then (λ (u : Unit {0}). At place) (Ok tt) place place c.args.reader.now c.loop-header.reader c.read_between.new.reader (state c.args.store.now) (state c.loop-header.store) (state c.read_between.new.store) c.loop-header.invariant (rw c.in_default.is at c.in_ok-header.ensures.goes)
