-- A word that is no integer of 32 bits.
use Rattle.std.proofs.Common.{take}
use Rattle.line_text.specs.Words.{words}
use Rattle.piece_file.proofs.DescLineSteps.{no_number}
use Rattle.piece_file.proofs.desc_line.eleven_integers.Goals as goal

pub returns-in_err-read_i32 : goal.returns-in_err-read_i32
returns-in_err-read_i32 c =
    rw c.from_residual-in_err-read_i32.ensures (no_number (words c.args.line.now) (words c.loop-k.rest.now) (words c.in_ok-word.behind.now) c.in_ok-word.word.now (take c.loop-k.k c.loop-k.numbers) c.loop-k.invariant.0 c.in_ok-word.ensures c.in_err-read_i32.ensures)
