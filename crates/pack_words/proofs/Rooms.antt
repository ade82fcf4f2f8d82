-- Room in the accumulators.
use Rattle.std.specs.Prelude.{◌≡◌, ℕ, ◌≤◌, max, Bool, cond, Option, Some, None, IfSome, IsSomeAnd, List, [], ◌∷◌, ◌++◌, length, map, slice_get, slice_set}
use Rattle.std.proofs.Common.{zero, suc, sym, ap, ◌∙◌, refl, subst, inl, inr, arith}
use Rattle.std.proofs.Math.Seq.{map-set_same}
use Rattle.std.proofs.lemmas.Bool.Decides.{eqb_tells}
use Rattle.std.proofs.lemmas.Option.{get_or_from_slice_get}
use Rattle.msg_core.specs.Kinds.{Kind}
use Rattle.msg_core.specs.Kinds.{Send, Recv, Local}
use Rattle.msg_core.specs.InOrder.{World, waiting, or_none, world_by, world_with, after_step, in_order, CanGo}
use Rattle.pack_words.specs.declared.rank_op.RankOp.{RankOp}
use Rattle.pack_words.specs.RankOps.{RankState, CanDo, rank_kind, rank_absorbed, rank_acted, elements_used}
use Rattle.pack_words.specs.RankLaws.{held_absorbed, held_acted}
use Rattle.pack_words.specs.GridState.{scratch_needed, HasRoom, rank_steps, rank_nodes}

if_more : (m : Option RankState) (a b : ℕ) → b ≤ a → IfSome m (λ n. a ≤ length n.held) → IfSome m (λ n. b ≤ length n.held)
if_more None a b le h = tt
if_more (Some n) a b le h = omega arith

if_some : (m : Option RankState) (n : RankState) (a : ℕ) → m ≡ Some n → IfSome m (λ n. a ≤ length n.held) → a ≤ length n.held
if_some m n a e h = let P : Option RankState → Type 0 = λ q. IfSome q (λ n. a ≤ length n.held) in subst P e h

pub room_first : (x : ℕ × RankOp) (xs : List (ℕ × RankOp)) (ns : List RankState) (n : RankState) → HasRoom (x ∷ xs) ns → slice_get ns x.0 ≡ Some n → elements_used x.1 ≤ length n.held
room_first x xs ns n h e =
    let all = if_some (slice_get ns x.0) n (scratch_needed x.0 (x ∷ xs)) e (h.each x.0) in
    elim (eqb_tells x.0 x.0) [
      | inl k ↦ let all' : max (elements_used x.1) (scratch_needed x.0 xs) ≤ length n.held = subst (λ (b : Bool). max (cond b (elements_used x.1) 0) (scratch_needed x.0 xs) ≤ length n.held) k.0 all in omega arith
      | inr k ↦ absurd (k.1 refl)
    ]

pub room_rest : (x : ℕ × RankOp) (xs : List (ℕ × RankOp)) (ns : List RankState) → HasRoom (x ∷ xs) ns → HasRoom xs ns
room_rest x xs ns h = record { each = λ r. if_more (slice_get ns r) (scratch_needed r (x ∷ xs)) (scratch_needed r xs) (omega arith) (h.each r) }

needed_join : (r : ℕ) (xs ys : List (ℕ × RankOp)) → scratch_needed r (xs ++ ys) ≡ max (scratch_needed r xs) (scratch_needed r ys)
needed_join r [] ys = omega arith
needed_join r (x ∷ xs) ys = let h = needed_join r xs ys in omega (arith, h)

-- room for a longer list is room for both parts
pub room_front : (xs ys : List (ℕ × RankOp)) (ns : List RankState) → HasRoom (xs ++ ys) ns → HasRoom xs ns
room_front xs ys ns h = record { each = λ r. if_more (slice_get ns r) (scratch_needed r (xs ++ ys)) (scratch_needed r xs) (let j = needed_join r xs ys in omega (arith, j)) (h.each r) }

pub room_back : (xs ys : List (ℕ × RankOp)) (ns : List RankState) → HasRoom (xs ++ ys) ns → HasRoom ys ns
room_back xs ys ns h = record { each = λ r. if_more (slice_get ns r) (scratch_needed r (xs ++ ys)) (scratch_needed r ys) (let j = needed_join r xs ys in omega (arith, j)) (h.each r) }

abbrev pub held_length : RankState → ℕ
held_length n = length n.held

no_state : RankState
no_state = record { arrays = []; held = [] }

set_held : (ns : List RankState) (r : ℕ) (n m : RankState) → slice_get ns r ≡ Some n → held_length m ≡ held_length n → map held_length (slice_set ns r m) ≡ map held_length ns
set_held ns r n m here same = map-set_same held_length ns r m no_state (same ∙ ap held_length (sym (get_or_from_slice_get ns r n no_state here)))

held_by : (K : Kind) (o : RankOp) (r : ℕ) (n : RankState) (w : World RankState) → slice_get w.nodes r ≡ Some n → elements_used o ≤ length n.held → map held_length (world_by rank_steps rank_nodes K r o n w).nodes ≡ map held_length w.nodes
held_by (Send to len) o r n w here le = refl
held_by (Recv from len) o r n w here le = set_held w.nodes r n (rank_absorbed n o (or_none (waiting w from r))) here (held_absorbed n o (or_none (waiting w from r)) le)
held_by Local o r n w here le = set_held w.nodes r n (rank_acted n o) here (held_acted n o le)

-- an operation that its rank can do
pub held_step : (m : Option RankState) (x : ℕ × RankOp) (w : World RankState) → slice_get w.nodes x.0 ≡ m → IsSomeAnd m (λ n. CanDo n x.1) → map held_length (world_with rank_steps rank_nodes m x.0 x.1 w).nodes ≡ map held_length w.nodes
held_step (Some n) x w here can = held_by (rank_kind x.1) x.1 x.0 n w here can.1
held_step None x w here can = absurd can

pub held_kept : (xs : List (ℕ × RankOp)) (w : World RankState) → CanGo rank_steps rank_nodes xs w → map held_length (in_order rank_steps rank_nodes xs w).nodes ≡ map held_length w.nodes
held_kept [] w can = refl
held_kept (x ∷ xs) w can = held_kept xs (after_step rank_steps rank_nodes w x) can.2 ∙ held_step (slice_get w.nodes x.0) x w refl can.0

at_along : (ns ms : List RankState) (r a : ℕ) → map held_length ns ≡ map held_length ms → IfSome (slice_get ns r) (λ n. a ≤ length n.held) → IfSome (slice_get ms r) (λ n. a ≤ length n.held)
at_along [] [] r a e h = tt
at_along [] (m ∷ ms) r a e h = cc
at_along (n ∷ ns) [] r a e h = tt
at_along (n ∷ ns) (m ∷ ms) zero a e h = let same : held_length n ≡ held_length m = cc in omega arith
at_along (n ∷ ns) (m ∷ ms) (suc r) a e h = let rest : map held_length ns ≡ map held_length ms = cc in at_along ns ms r a rest h

pub room_along : (xs : List (ℕ × RankOp)) (ns ms : List RankState) → map held_length ns ≡ map held_length ms → HasRoom xs ns → HasRoom xs ms
room_along xs ns ms e h = record { each = λ r. at_along ns ms r (scratch_needed r xs) e (h.each r) }

-- operations keep room
pub room_after : (xs ys : List (ℕ × RankOp)) (w : World RankState) → CanGo rank_steps rank_nodes xs w → HasRoom ys w.nodes → HasRoom ys (in_order rank_steps rank_nodes xs w).nodes
room_after xs ys w can h = room_along ys w.nodes (in_order rank_steps rank_nodes xs w).nodes (sym (held_kept xs w can)) h
