-- Ranks of which nothing is declared.
use Rattle.std.proofs.Common.{◌≡◌, ℕ, zero, suc, ◌+◌, ◌<◌, List, [], length, refl, sym, ap, subst, replicate, arith, Option}
use Rattle.std.specs.Prelude.{slice_index_or}
use Rattle.std.proofs.lemmas.List.{length-replicate}
use Rattle.proc_grid.specs.Grid.{Grid}
use Rattle.descriptor.specs.declared.spread.Spread.{Spread}
use Rattle.msg_core.specs.Plans.{PlanView, lens_of, no_lens, message_count, word_count}
use Rattle.pack_words.specs.declared.rank_op.RankOp.{RankOp}
use Rattle.pack_words.specs.LocalCells.{LocalCells}
use Rattle.pack_words.specs.GridState.{GridState, rank_steps}
use Rattle.pack_words.specs.GridShapes.{ShapesView, HasShapes}
use Rattle.pack_words.specs.GridPlans.{IsOf}
use Rattle.program_meaning.specs.ProgramState.{ProgramState, begun}
use Rattle.line_plans.specs.declared.declared.Declared.{Declared}
use Rattle.line_plans.specs.Exact.{IsExact}
use Rattle.line_plans.specs.Standing.{state_of, IsBegun}
use Rattle.grid_exec.specs.Holding.{resting, HoldsArrays}

nothing_held : (n r : ℕ) → slice_index_or (let css : List (List LocalCells) = replicate n [] in css) r [] ≡ []
nothing_held zero r = refl
nothing_held (suc n) zero = refl
nothing_held (suc n) (suc r) = nothing_held n r

shaped_so : (n : ℕ) → HasShapes (record { ranks = n; count = 0; sizes = [] }) (begun n).state
shaped_so n = record { ranks_are = length-replicate n []; each = λ r a lr la. absurd (omega arith) }

exact_so : (n : ℕ) → IsExact (record { ranks = n; count = 0; sizes = [] }) (begun n).state
exact_so n = record { each = λ r lt. ap length (nothing_held n r) }

pub none_held : (d : Declared) (arrays : List (List LocalCells)) (n : ℕ) → IsBegun d n → arrays ≡ replicate n [] → HoldsArrays d.shapes arrays
none_held d arrays n h e =
    subst (λ (css : List (List LocalCells)). HoldsArrays d.shapes css) (sym e)
    (subst (λ (v : ShapesView). HoldsArrays v (begun n).state.arrays) (sym h.shapes) (record { shaped = shaped_so n; exact = exact_so n }))

no_lens_wait : (p : PlanView RankOp) → p.steps ≡ [] → (from to : ℕ) → lens_of rank_steps p.steps no_lens from to ≡ []
no_lens_wait p e from to = ap (λ (xs : List (ℕ × RankOp)). lens_of rank_steps xs no_lens from to) e

-- an empty plan stands for arrays that rest
pub rests : (v : ShapesView) (p : PlanView RankOp) (arrays : List (List LocalCells)) → p.steps ≡ [] → HasShapes v (resting arrays) → IsOf v p (resting arrays)
rests v p arrays e h = record { shaped = h; lens_are = no_lens_wait p e }

pub begun_of : (d : Declared) (p : PlanView RankOp) (n : ℕ) → IsBegun d n → p.steps ≡ [] → IsOf d.shapes p (begun n).state
begun_of d p n h none = subst (λ (v : ShapesView). IsOf v p (begun n).state) (sym h.shapes) (record { shaped = shaped_so n; lens_are = no_lens_wait p none })

pub begun_exact : (d : Declared) (n : ℕ) → IsBegun d n → IsExact d.shapes (begun n).state
begun_exact d n h = subst (λ (v : ShapesView). IsExact v (begun n).state) (sym h.shapes) (exact_so n)

same_state : (a b : List Grid) (v w : ShapesView) (xs ys : List (Option Spread)) (state : GridState) (m : ℕ) (ss ts : List (ℕ × RankOp)) → a ≡ b → v ≡ w → xs ≡ ys → m ≡ 0 → ss ≡ ts
    → (let s : ProgramState = record { grids = a; shapes = v; spreads = xs; state = state; operations = length ss; messages = message_count rank_steps ss; words = m + word_count rank_steps ss } in s)
    ≡ record { grids = b; shapes = w; spreads = ys; state = state; operations = length ts; messages = message_count rank_steps ts; words = 0 + word_count rank_steps ts }
same_state a b v w xs ys state m ss ts e f g h k = cc

pub begun_is : (d : Declared) (p : PlanView RankOp) (n : ℕ) → IsBegun d n → p.steps ≡ [] → state_of d p (begun n).state ≡ begun n
begun_is d p n h none = same_state d.contexts [] d.shapes (record { ranks = n; count = 0; sizes = [] }) d.spreads.items [] (begun n).state d.words p.steps [] h.contexts h.shapes h.spreads h.words none
