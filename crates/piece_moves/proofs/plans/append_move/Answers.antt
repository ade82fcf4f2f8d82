use Rattle.std.proofs.Common.{◌≡◌, Option, Some, None, Err, ap, ◌∙◌}
use Rattle.piece_moves.proofs.CallLaws.{can_call}
use Rattle.piece_moves.proofs.PassLaws.{passes}
use Rattle.piece_moves.proofs.ShortLaws.{short}
use Rattle.piece_moves.proofs.plans.append_move.Goals as goal

pub pigemr2d-requires : goal.pigemr2d-requires
pigemr2d-requires c =
    let ps = c.requires.prepared.0 in
    let d = c.requires.prepared.1.0 in
    let nodes = c.requires.prepared.1.1.0 in
    let is = c.requires.prepared.1.1.1 in
    record { can = λ passes a b at_a at_b. can_call ps d c.args.args.now c.args.contexts.now c.args.shapes.now nodes c.args.plan.now is c.requires.ranks c.requires.none a b at_a at_b }

none_or_some : {A : Type 0} (o : Option A) (x : A) → o ≡ None → o ≡ Some x → ⊥
none_or_some o x none some = cc

pub unreachable-requires : goal.unreachable-requires
unreachable-requires c =
    let ps = c.requires.prepared.0 in
    let d = c.requires.prepared.1.0 in
    let nodes = c.requires.prepared.1.1.0 in
    let is = c.requires.prepared.1.1.1 in
    let bad = (c.pigemr2d.ensures.bad c.in-Err-Info.field-0-0).0 (c.in-Err-Info.is ∙ ap Err c.in-Err-Info.field-0-is) in
    none_or_some _ c.in-Err-Info.field-0-0 (passes ps d c.args.args.now c.args.contexts.now c.args.shapes.now nodes is) bad

pub unreachable-requires-in-Err-TooManyOps : goal.unreachable-requires-in-Err-TooManyOps
unreachable-requires-in-Err-TooManyOps c =
    let ps = c.requires.prepared.0 in
    let d = c.requires.prepared.1.0 in
    let nodes = c.requires.prepared.1.1.0 in
    let is = c.requires.prepared.1.1.1 in
    short ps d c.args.args.now c.args.contexts.now c.args.shapes.now nodes is c.args.plan.now c.requires.ranks c.requires.none (c.pigemr2d.ensures.full (c.in-Err-TooManyOps.is ∙ ap Err c.in-Err-TooManyOps.field-0-is))
