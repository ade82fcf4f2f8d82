use Rattle.std.proofs.Common.{◌+◌, arith}
use Rattle.block_meet.specs.Pairs.{lists_of}
use Rattle.block_meet.proofs.DealLemmas.{put_none, put_at, put_done}
use Rattle.block_meet.proofs.pairs.starts_by_pair.Goals as goal

pub loop-start-init : goal.loop-start-init
loop-start-init c = put_none c.args.a c.args.b c.args.reach c.min-start.result (lists_of c.in_ok-starts.starts) c.requires.first.block c.requires.second.block (omega arith) c.in_ok-starts.ensures.count c.in_ok-starts.ensures.empty

pub loop-start-preserved : goal.loop-start-preserved
loop-start-preserved c =
    put_at c.args.n c.args.a c.args.b c.args.reach c.loop-start.start (c.loop-start.start + c.min-start-in-loop-start.result) c.owner.result c.owner-in-loop-start.result (lists_of c.loop-start.starts) (lists_of c.put.new.lists) c.requires.first c.requires.second
    c.loop-start-test.true (omega arith) c.owner.ensures c.owner-in-loop-start.ensures c.in_ok-put.ensures c.loop-start.invariant

pub returns : goal.returns
returns c = put_done c.args.a c.args.b c.args.reach c.loop-start.start _ c.loop-start-test.false c.loop-start.invariant
