-- The message that is sent is taken at once.
use Rattle.std.proofs.Common.{◌≡◌, ◌+◌, ℕ, List, [], ◌∷◌, ◌++◌, length, ap, ◌∙◌, arith, append_assoc, length-append, Some}
use Rattle.std.specs.Prelude.{slice_get}
use Rattle.msg_core.specs.Plans.{waiting_lens, lens_of, no_lens}
use Rattle.msg_core.proofs.GrowingPlans.{push_ok, on_ok, recv_passes, sent_first}
use Rattle.pack_words.specs.declared.rank_op.RankOp.{RankOp}
use Rattle.pack_words.specs.RankOps.{rank_kind}
use Rattle.pack_words.specs.GridState.{rank_steps}
use Rattle.scope_ops.specs.CombineOps.{sent_by, relay_words}
use Rattle.scope_ops.proofs.Relays.{sent_kind, received_kind, sent_made, received_made}
use Rattle.scope_ops.proofs.passing.push_relay.Goals as goal

pub push_send-requires-clause-made : goal.push_send-requires-clause-made
push_send-requires-clause-made c = sent_made c.args.relay c.args.to c.send.result c.send.ensures c.requires.relay

pub push_send-requires-clause-kind : goal.push_send-requires-clause-kind
push_send-requires-clause-kind c = (c.args.to, relay_words c.args.relay, ap rank_kind c.send.ensures ∙ sent_kind c.args.relay c.args.to, c.requires.to)

pub push_recv-requires-clause-made : goal.push_recv-requires-clause-made
push_recv-requires-clause-made c = received_made c.args.relay c.args.from c.receive.result c.receive.ensures c.requires.relay

pub push_recv-requires-clause-kind : goal.push_recv-requires-clause-kind
push_recv-requires-clause-kind c = (c.args.from, relay_words c.args.relay, ap rank_kind c.receive.ensures ∙ received_kind c.args.relay c.args.from, let same : c.push_send.new.self.ranks ≡ c.args.plan.now.ranks = c.push_send.ensures.ranks in let lt = c.requires.from in omega arith)

pub returns-clause-done : goal.returns-clause-done
returns-clause-done c =
    let before : c.push_send.new.self.steps ≡ c.args.plan.now.steps ++ (c.args.from, c.send.result) ∷ [] = c.in_ok-push_send.ensures.ok in
    let size : length c.push_send.new.self.steps ≡ length (c.args.plan.now.steps ++ (c.args.from, c.send.result) ∷ []) = ap (λ (xs : List (ℕ × RankOp)). length xs) before in
    let more : length (c.args.plan.now.steps ++ (c.args.from, c.send.result) ∷ []) ≡ length c.args.plan.now.steps + 1 = length-append c.args.plan.now.steps ((c.args.from, c.send.result) ∷ []) in
    let few = c.requires.few in
    let some = c.requires.room in
    let room = c.push_send.ensures.room in
    let first : slice_get (waiting_lens rank_steps c.push_send.new.self c.args.from c.args.to) 0 ≡ Some (relay_words c.args.relay)
    = ap (λ (xs : List (ℕ × RankOp)). slice_get (lens_of rank_steps xs no_lens c.args.from c.args.to) 0) before ∙ sent_first rank_steps c.args.plan.now.steps c.args.from c.args.to (relay_words c.args.relay) c.send.result (ap rank_kind c.send.ensures ∙ sent_kind c.args.relay c.args.to) c.requires.free in
    push_ok rank_steps c.push_send.new.self c.args.to c.receive.result c.push_recv.result
    (recv_passes rank_steps c.push_send.new.self c.args.to c.args.from (relay_words c.args.relay) c.receive.result (ap rank_kind c.receive.ensures ∙ received_kind c.args.relay c.args.from) first (omega arith))
    c.push_recv.ensures.fault
    (c.push_recv.ensures.reserved (omega arith))

pub returns-clause-steps : goal.returns-clause-steps
returns-clause-steps c =
    let before : c.push_send.new.self.steps ≡ c.args.plan.now.steps ++ (c.args.from, c.send.result) ∷ [] = c.in_ok-push_send.ensures.ok in
    on_ok c.push_recv.result (c.push_recv.new.self.steps ≡ c.push_send.new.self.steps ++ (c.args.to, c.receive.result) ∷ []) (returns-clause-done c) c.push_recv.ensures.ok
    ∙ ap (λ (xs : List (ℕ × RankOp)). xs ++ (c.args.to, c.receive.result) ∷ []) before
    ∙ append_assoc c.args.plan.now.steps ((c.args.from, c.send.result) ∷ []) ((c.args.to, c.receive.result) ∷ [])
    ∙ ap (λ (o : RankOp). c.args.plan.now.steps ++ (c.args.from, o) ∷ (c.args.to, c.receive.result) ∷ []) c.send.ensures
    ∙ ap (λ (o : RankOp). c.args.plan.now.steps ++ (c.args.from, sent_by c.args.relay c.args.to) ∷ (c.args.to, o) ∷ []) c.receive.ensures
