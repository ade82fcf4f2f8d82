-- The room for one operation more.
use Rattle.std.proofs.Common.{ℕ, ◌<◌, ◌∙◌, length, subst, sym, ap}
use Rattle.std.proofs.lemmas.List.{length-set}
use Rattle.pack_words.specs.declared.rank_op.RankOp.{RankOp}
use Rattle.grid_exec.proofs.RoomLaws.{rank_among, made_among, room_raised}
use Rattle.grid_exec.proofs.rooms.raise_at.Goals as goal

pub elements-requires : goal.elements-requires
elements-requires c = made_among c.args.plan.now.ranks c.args.plan.now.steps c.args.k (c.in-Some.rank, c.in-Some.op.now) c.facts.ensures.among c.in-Some.ensures

pub raise-requires : goal.raise-requires
raise-requires c = subst (λ n. c.in-Some.rank < n) (sym c.requires.ranks) (rank_among c.args.plan.now.ranks c.args.plan.now.steps c.args.k (c.in-Some.rank, c.in-Some.op.now) c.facts.ensures.among c.in-Some.ensures)

pub returns-clause-len : goal.returns-clause-len
returns-clause-len c = ap length c.raise.ensures ∙ length-set c.args.rooms.now.items c.in-Some.rank _ ∙ c.requires.ranks

pub returns-clause-rooms : goal.returns-clause-rooms
returns-clause-rooms c h =
    let x : ℕ × RankOp = (c.in-Some.rank, c.in-Some.op.now) in
    let inside : c.in-Some.rank < length c.args.rooms.now.items = subst (λ n. c.in-Some.rank < n) (sym c.requires.ranks) (rank_among c.args.plan.now.ranks c.args.plan.now.steps c.args.k x c.facts.ensures.among c.in-Some.ensures) in
    room_raised c.args.plan.now.steps c.args.rooms.now.items c.raise.new.rooms.items c.args.k c.elements.result x c.in-Some.ensures c.elements.ensures inside c.raise.ensures h
