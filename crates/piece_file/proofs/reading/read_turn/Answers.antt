-- The file is held, and has this fault.
use Rattle.std.proofs.Common.{◌≡◌, IsTrue, arith}
use Rattle.std.proofs.lemmas.Grind.{common_steps}
use Rattle.piece_grammar.specs.Pieces.{name_of}
use Rattle.piece_file.specs.Asking.{turn_view}
use Rattle.piece_file.specs.Halting.{refusal_view}
use Rattle.piece_file.specs.Gathering.{held_in}
use Rattle.piece_file.proofs.TurnLaws.{held_fault}
use Rattle.piece_file.proofs.reading.read_turn.Goals as goal

pub returns-in-Err-Bad : goal.returns-in-Err-Bad
returns-in-Err-Bad g c =
    let named : c.as_str.result.now ≡ name_of c.args.prefix.now (turn_view c.args.turn.now) = grind (arith, common_steps) in
    record {
      loads = λ told.
          let still : IsTrue (g.S.Store.state c.open_read.new.self).told = grind (arith, common_steps) in
          held_fault (held_in (g.S.Store.state c.args.store.now).files) c.args.prefix.now c.as_str.result.now (turn_view c.args.turn.now) (g.S.Store.state c.open_read.new.self).left (refusal_view c.in-Err-Bad.refusal) named
          (c.in-Ok-open_read.ensures.found told) (rw c.in-Err-Bad.field-0-is at (c.in-Err-Bad.ensures.gives.0 still));
      named = grind (arith, common_steps);
      is_head = tt;
      has_turn = tt;
      ended = λ told. tt;
      cause = grind (arith, common_steps);
      same = grind (arith, common_steps);
    }
