use Rattle.std.proofs.Common.{subst, sym, List, ◌∙◌, ◌≡◌, ap, length, replicate, arith}
use Rattle.std.proofs.lemmas.Grind.{common_steps}
use Rattle.mail_room.proofs.Opens.{new_desks, as_many}
use Rattle.mail_room.specs.Desks.{DeskView, capacities, AreNewDesks}
use Rattle.mail_room.specs.Making.{IsSquare, vacant, with_pairs}
use Rattle.mail_room.proofs.Boards.{square_pair, next_pairs}
use Rattle.mail_room.proofs.room.Room.new.Goals as goal

pub loop-from-preserved : goal.loop-from-preserved
loop-from-preserved g c = record {
  square = subst (λ (l : List DeskView). IsSquare c.args.ranks l) (sym c.in_ok-add_pair.ensures) (square_pair g.V.Letters.letters _ _ _ c.loop-from.invariant.square);
  pairs = next_pairs g.V.Letters.letters _ _ _ _ _ c.in_ok-add_pair.ensures c.loop-from-test.true ∙ c.loop-from.invariant.pairs;
  caps = c.loop-from.invariant.caps;
}

pub returns-clause-ranks : goal.returns-clause-ranks
returns-clause-ranks g c =
    let p : c.loop-from.desks.items ≡ with_pairs g.V.Letters.letters (replicate c.args.ranks (vacant c.args.ranks)) c.args.caps.now = grind (arith, common_steps) in
    ap (λ (l : List DeskView). length l) p ∙ as_many g.V.Letters.letters c.args.ranks c.args.caps.now

pub returns-clause-desks : goal.returns-clause-desks
returns-clause-desks g c =
    let p : c.loop-from.desks.items ≡ with_pairs g.V.Letters.letters (replicate c.args.ranks (vacant c.args.ranks)) c.args.caps.now = grind (arith, common_steps) in
    subst (λ (l : List DeskView). AreNewDesks g.V.Letters.letters (capacities c.args.caps.now) l) (sym p) (new_desks g.V.Letters.letters c.args.ranks c.args.caps.now c.requires)
