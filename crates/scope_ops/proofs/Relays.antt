-- The messages of relays have the lengths that are waited for.
use Rattle.std.proofs.Common.{◌≡◌, ℕ, refl, sym, subst}
use Rattle.msg_core.specs.Kinds.{Send, Recv}
use Rattle.pack_words.specs.declared.fold_kind.FoldKind.TheVariants.{Sum, AbsMax, AbsMin}
use Rattle.pack_words.specs.RankOps.{rank_kind, IsWellMade}
use Rattle.pack_words.specs.declared.rank_op.RankOp.{RankOp}
use Rattle.pack_words.specs.GridState.{rank_steps}
use Rattle.route_plans.specs.PlanPassing.{SameLengths, SendAlong}
use Rattle.scope_ops.specs.declared.relay.Relay.{Relay}
use Rattle.scope_ops.specs.declared.relay.Relay.TheVariants as relay
use Rattle.scope_ops.specs.CombineOps.{sent_by, received_by, relay_send, relay_receive, relay_words, IsGoodRelay}

pub sent_kind : (r : Relay) (to : ℕ) → rank_kind (sent_by r to) ≡ Send to (relay_words r)
sent_kind (relay.Join len Sum) to = refl
sent_kind (relay.Join len AbsMax) to = refl
sent_kind (relay.Join len AbsMin) to = refl
sent_kind (relay.Spread len Sum) to = refl
sent_kind (relay.Spread len AbsMax) to = refl
sent_kind (relay.Spread len AbsMin) to = refl
sent_kind relay.Pulse to = refl

pub received_kind : (r : Relay) (from : ℕ) → rank_kind (received_by r from) ≡ Recv from (relay_words r)
received_kind (relay.Join len Sum) from = refl
received_kind (relay.Join len AbsMax) from = refl
received_kind (relay.Join len AbsMin) from = refl
received_kind (relay.Spread len Sum) from = refl
received_kind (relay.Spread len AbsMax) from = refl
received_kind (relay.Spread len AbsMin) from = refl
received_kind relay.Pulse from = refl

pub relay_lengths : (r : Relay) (rank : ℕ → ℕ) → SameLengths rank_steps rank (relay_send r rank) (relay_receive r rank)
relay_lengths r rank = record { len = λ e. relay_words r; sends = λ e. sent_kind r (rank e.1); receives = λ e. received_kind r (rank e.0) }

pub relay_along : (r : Relay) (rank : ℕ → ℕ) → SendAlong rank_steps rank (relay_send r rank) (relay_receive r rank)
relay_along r rank = record { sends = λ e. (relay_words r, sent_kind r (rank e.1)); receives = λ e. (relay_words r, received_kind r (rank e.0)) }

sent_good : (r : Relay) (to : ℕ) → IsGoodRelay r → IsWellMade (sent_by r to)
sent_good (relay.Join len fold) to good = good
sent_good (relay.Spread len fold) to good = good
sent_good relay.Pulse to good = tt

received_good : (r : Relay) (from : ℕ) → IsGoodRelay r → IsWellMade (received_by r from)
received_good (relay.Join len fold) from good = good
received_good (relay.Spread len fold) from good = good
received_good relay.Pulse from good = tt

pub sent_made : (r : Relay) (to : ℕ) (o : RankOp) → o ≡ sent_by r to → IsGoodRelay r → IsWellMade o
sent_made r to o is good = subst (λ (p : RankOp). IsWellMade p) (sym is) (sent_good r to good)

pub received_made : (r : Relay) (from : ℕ) (o : RankOp) → o ≡ received_by r from → IsGoodRelay r → IsWellMade o
received_made r from o is good = subst (λ (p : RankOp). IsWellMade p) (sym is) (received_good r from good)
