-- A plan can have the operations of a move, and then it has the move.
use Rattle.std.specs.Prelude.{◌≡◌, ℕ, ◌<◌, ◌==◌, if◌then◌else◌, Bool, true, false, ℤ, pos, List, [], ◌∷◌, length, map, replicate}
use Rattle.std.specs.List.{AllByRecursion}
use Rattle.std.proofs.Common.{sym, ap, ◌∙◌, refl, arith}
use Rattle.std.proofs.lemmas.List.{length-map, length-replicate}
use Rattle.msg_core.specs.InOrder.{World, CanGo}
use Rattle.msg_core.specs.Plans.{Lens, IsInOrder, IsAmongRanks, AllAmongRanks}
use Rattle.msg_core.proofs.GrowingPlans.{Matches, Lawful, in_order_from}
use Rattle.pack_words.specs.declared.cut.Cut.{Cut}
use Rattle.pack_words.specs.declared.rank_op.RankOp.{RankOp}
use Rattle.pack_words.specs.declared.rank_op.RankOp.TheVariants.{Put, Get, Copy}
use Rattle.pack_words.specs.LocalCells.{LocalCells}
use Rattle.pack_words.specs.RankOps.{RankState, rank_kind}
use Rattle.pack_words.specs.RankLaws.{message_length, can_after_absorb, can_after_act}
use Rattle.pack_words.specs.GridState.{GridState, Shows, rank_steps, rank_nodes}
use Rattle.pack_words.proofs.Assigning.{all_of_join, all_of_flat_map}
use Rattle.block_meet.specs.declared.side.Meet.{Meet}
use Rattle.mr2d.specs.Homes.{Arrays, rank_of, HaveArrays}
use Rattle.mr2d.specs.Moves.{Move, IsMove}
use Rattle.mr2d.specs.Pairs.{parts_of_a, parts_of_b}
use Rattle.mr2d.specs.Plans.{Rectangles, gives, takes, pairs, all_gives, all_takes, operations, AreAllMeets, CanMove}
use Rattle.mr2d.proofs.Among.{all_from}
use Rattle.mr2d.proofs.PlanLaws.{operations_reach, of_pairs}
use Rattle.mr2d.proofs.MadeLaws.{all_made, AllMade}

lawful : Lawful rank_steps rank_nodes
lawful = record { message_length = message_length; after_absorb = can_after_absorb; after_act = can_after_act }

-- messages of these lengths
pub blank : ℕ → List ℤ
blank n = replicate n (pos 0)

state_of : Arrays → Lens → GridState
state_of arrays q = record { arrays = arrays; waits = λ f t. map blank (q f t) }

node_of : List LocalCells → RankState
node_of cs = record { arrays = cs; held = [] }

world_of : Arrays → Lens → World RankState
world_of arrays q = record { nodes = map node_of arrays; sent = λ f t. map blank (q f t); taken = λ f t. 0 }

nodes_are : (arrays : Arrays) → map (λ n. n.arrays) (map node_of arrays) ≡ arrays
unfolding node_of
nodes_are [] = refl
nodes_are (cs ∷ more) = ap (λ xs. cs ∷ xs) (nodes_are more)

pub blank_lengths : (ls : List ℕ) → ls ≡ map length (map blank ls)
unfolding blank
blank_lengths [] = refl
blank_lengths (l ∷ ls) = ap (λ n. n ∷ ls) (sym (length-replicate l (pos 0))) ∙ ap (λ xs. length (replicate l (pos 0)) ∷ xs) (blank_lengths ls)

shows_it : (arrays : Arrays) (q : Lens) → Shows (world_of arrays q) (state_of arrays q)
unfolding world_of state_of
shows_it arrays q = record { arrays_are = nodes_are arrays; waits_are = λ f t. refl; taken_were_sent = λ f t. omega arith }

matches_it : (arrays : Arrays) (q : Lens) → Matches q (world_of arrays q)
unfolding world_of
matches_it arrays q i j = (omega arith, blank_lengths (q i j))

-- each operation names ranks that are there
gives_named : (a b : ℕ) (cut : Cut) (ranks from to : ℕ) (ms : List Meet) → to < ranks → AllByRecursion (λ x. IsAmongRanks (rank_kind x.1) ranks) (gives a b cut from to ms)
gives_named a b cut ranks from to [] lt = tt
gives_named a b cut ranks from to (t ∷ ts) lt = (step (from == to), tt)
  where
    step : (c : Bool) → IsAmongRanks (rank_kind (if c then Copy a (parts_of_a (t ∷ ts)) b (parts_of_b (t ∷ ts)) cut else Put to a (parts_of_a (t ∷ ts)) cut)) ranks
    step true = tt
    step false = lt

takes_named : (b : ℕ) (cut : Cut) (ranks from to : ℕ) (ms : List Meet) → from < ranks → AllByRecursion (λ x. IsAmongRanks (rank_kind x.1) ranks) (takes b cut from to ms)
takes_named b cut ranks from to [] lt = tt
takes_named b cut ranks from to (t ∷ ts) lt = step (from == to)
  where
    step : (c : Bool) → AllByRecursion {X = ℕ × RankOp} (λ x. IsAmongRanks (rank_kind x.1) ranks) (if c then [] else (to, Get from b (parts_of_b (t ∷ ts)) cut) ∷ [])
    step true = tt
    step false = (lt, tt)

all_named : (mv : Move) (ranks : ℕ) (meets : Rectangles) → AllByRecursion (λ x. IsAmongRanks (rank_kind x.1) ranks) (operations mv meets ranks)
all_named mv ranks meets =
    let P : ℕ × RankOp → Type 0 = λ x. IsAmongRanks (rank_kind x.1) ranks in
    let f : ℕ × ℕ → List (ℕ × RankOp) = λ p. gives mv.a.array mv.b.array mv.cut p.0 p.1 (meets p.0 p.1) in
    let g : ℕ × ℕ → List (ℕ × RankOp) = λ p. takes mv.b.array mv.cut p.0 p.1 (meets p.0 p.1) in
    all_of_join P (all_gives mv.a.array mv.b.array mv.cut meets (pairs ranks)) (all_takes mv.b.array mv.cut meets (pairs ranks))
    (all_of_flat_map P f (pairs ranks) (all_from (λ p. AllByRecursion P (f p)) (pairs ranks) (λ p h. gives_named mv.a.array mv.b.array mv.cut ranks p.0 p.1 (meets p.0 p.1) (of_pairs ranks p h).1)))
    (all_of_flat_map P g (pairs ranks) (all_from (λ p. AllByRecursion P (g p)) (pairs ranks) (λ p h. takes_named mv.b.array mv.cut ranks p.0 p.1 (meets p.0 p.1) (of_pairs ranks p h).0)))

all_among : (ranks : ℕ) (xs : List (ℕ × RankOp)) → AllMade ranks xs → AllByRecursion (λ x. IsAmongRanks (rank_kind x.1) ranks) xs → AllAmongRanks rank_steps ranks xs
all_among ranks [] made named = tt
all_among ranks (x ∷ xs) made named = (made.0, made.1, named.0, all_among ranks xs made.2 named.1)

-- The operations are in order after messages of such lengths, and of the plan's ranks.
pub can_append : (mv : Move) (ranks : ℕ) (meets : Rectangles) (arrays : Arrays) (q : Lens) → IsMove mv → AreAllMeets mv ranks meets → length arrays ≡ ranks → HaveArrays mv.a arrays → HaveArrays mv.b arrays
    → ((p r s t : ℕ) → p < mv.a.grid.nprow → r < mv.a.grid.npcol → s < mv.b.grid.nprow → t < mv.b.grid.npcol → q (rank_of mv.a.grid p r) (rank_of mv.b.grid s t) ≡ [])
    → IsInOrder rank_steps (operations mv meets ranks) q × AllAmongRanks rank_steps ranks (operations mv meets ranks)
unfolding state_of world_of
can_append mv ranks meets arrays q w all n in_a in_b quiet =
    let can : CanMove mv ranks (state_of arrays q) = record { ranks_are = n; source = in_a; target = in_b; quiet = λ p r s t hp hr hs ht. ap (map blank) (quiet p r s t hp hr hs ht) } in
    let go : CanGo rank_steps rank_nodes (operations mv meets ranks) (world_of arrays q) = (operations_reach mv ranks meets w all (world_of arrays q) (state_of arrays q) (shows_it arrays q) can).0 in
    let made : AllMade ranks (operations mv meets ranks) = all_made (operations mv meets ranks) (world_of arrays q) ranks (length-map arrays node_of ∙ n) go in
    (in_order_from rank_steps rank_nodes lawful (operations mv meets ranks) (world_of arrays q) q (matches_it arrays q) go, all_among ranks (operations mv meets ranks) made (all_named mv ranks meets))
