-- The words of a plan are far from the largest number.
use Rattle.std.proofs.Common.{◌≡◌, ℕ, suc, ◌+◌, ◌*◌, ◌^◌, ◌≤◌, Bool, true, false, List, [], ◌∷◌, length, sym, ap, subst, ◌∙◌, arith}
use Rattle.std.proofs.lemmas.List.Sums.{sum_by-cons}
use Rattle.msg_core.specs.Plans.{PlanView, IsValidPlan, AllAmongRanks, sent_words, word_count}
use Rattle.pack_words.specs.declared.rank_op.RankOp.{RankOp}
use Rattle.pack_words.specs.declared.rank_op.RankOp.TheVariants.{Put, Get, Copy, LoadAcc, PutAcc, JoinAcc, GetAcc, StoreAcc, Pulse}
use Rattle.pack_words.specs.Accumulators.{message_words}
use Rattle.pack_words.specs.RankOps.{IsWellMade, rank_kind, pulse_kind}
use Rattle.pack_words.specs.GridState.{rank_steps}

acc_words : (pairs : Bool) (n : ℕ) → n ≤ 2 ^ 26 → message_words pairs n ≤ 2 ^ 27
acc_words true n h = omega arith
acc_words false n h = omega arith

pulse_words : (sends : Bool) (peer : ℕ) → sent_words (pulse_kind sends peer) ≤ 2 ^ 27
pulse_words true peer = omega arith
pulse_words false peer = omega arith

-- those of one message
one_message : (o : RankOp) → IsWellMade o → sent_words (rank_kind o) ≤ 2 ^ 27
one_message (Put to a rs cut) h = let m = h.most in omega arith
one_message (Get from a rs cut) h = omega arith
one_message (Copy a rs b ts cut) h = omega arith
one_message (LoadAcc a r k) h = omega arith
one_message (PutAcc to n pairs) h = acc_words pairs n h
one_message (JoinAcc from n fold) h = omega arith
one_message (GetAcc from n pairs) h = omega arith
one_message (StoreAcc a r coords) h = omega arith
one_message (Pulse peer sends) h = pulse_words sends peer

all_messages : (ranks : ℕ) (steps : List (ℕ × RankOp)) → AllAmongRanks rank_steps ranks steps → word_count rank_steps steps ≤ length steps * 2 ^ 27
all_messages ranks [] h = omega arith
all_messages ranks (x ∷ xs) h =
    let here = one_message x.1 h.0 in
    let more = all_messages ranks xs h.3 in
    let sum : word_count rank_steps (x ∷ xs) ≡ sent_words (rank_kind x.1) + word_count rank_steps xs = sum_by-cons (λ (y : ℕ × RankOp). sent_words (rank_kind y.1)) x xs in
    step (sent_words (rank_kind x.1)) (word_count rank_steps xs) (word_count rank_steps (x ∷ xs)) (length xs) sum here more
  where
    step : (a b c n : ℕ) → c ≡ a + b → a ≤ 2 ^ 27 → b ≤ n * 2 ^ 27 → c ≤ suc n * 2 ^ 27
    step a b c n e h k = omega arith

pub few_words : (p : PlanView RankOp) → IsValidPlan rank_steps p → word_count rank_steps p.steps ≤ 2 ^ 47
few_words p h = let few = h.few in let all = all_messages p.ranks p.steps h.among in omega arith
