use Rattle.std.proofs.Common.{ap}
use Rattle.piece_grammar.specs.Head.{Head}
use Rattle.piece_moves.proofs.arguments.lead_at.Goals as goal

pub returns : goal.returns
returns c = ap (λ (h : Head). h.lld) c.head.ensures
