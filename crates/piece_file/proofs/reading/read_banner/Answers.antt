use Rattle.piece_grammar.specs.Place.{Place, AtBanner, AtDesc}
use Rattle.piece_grammar.specs.Turn.{Turn, alone}
use Rattle.piece_file.specs.Halting.{Passes, halted}
use Rattle.piece_file.proofs.PartLaws.{part}
use Rattle.piece_file.proofs.reading.read_banner.Goals as goal

abbrev behind : Unit {0} → Place
behind x = AtDesc

pub returns : goal.returns
returns g c =
    let old = g.S.Store.state c.args.store.now in
    let new = g.S.Store.state c.take_line.new.store in
    let passes : (turn : Turn) → Passes behind (halted c.number-line.result c.general_banner.result) turn AtBanner c.args.reader.now c.take_line.new.reader old new = λ turn.
    part behind c.general_banner.result turn AtBanner c.args.reader.now c.take_line.new.reader old new c.text.result.now c.number-line.result c.in_ok-take_line.ensures c.text.ensures (c.general_banner.ensures turn) c.number-line.ensures in
    rw c.at_line.ensures (λ told turn. (passes turn).0 told, (passes (alone 0 0)).1)
