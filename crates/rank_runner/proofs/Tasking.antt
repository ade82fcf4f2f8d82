-- The tasks of the ranks, a step after the other, from the last one on.
use Rattle.std.proofs.Common.{◌≡◌, ℕ, zero, suc, ◌+◌, ◌<◌, Some, inl, inr, List, [], ◌∷◌, ◌++◌, All, length, reverse, drop, get_or, set, slice_get, sym, refl, ap, ◌∙◌, subst, arith, add-one}
use Rattle.std.proofs.lemmas.Bool.Decides.{eqb_tells}
use Rattle.std.proofs.lemmas.List.{reverse-append, length-set, drop_all}
use Rattle.machine.proofs.Lists.{get_set_same, get_set_other, within_get, drop_at}
use Rattle.machine.proofs.Orders.{own_here, own_else}
use Rattle.msg_core.specs.declared.node.Step.{Ghosts as StepOf}
use Rattle.msg_core.specs.InOrder.{own}
use Rattle.rank_runner.specs.declared.post.Task.{Task}
use Rattle.rank_runner.specs.Seats.{TaskList}
use Rattle.rank_runner.specs.Tasks.{with_op, ops_of, HasBuffer, AllTasks}
use Rattle.rank_runner.specs.Outfits.{IsTaskList, AreTasks}

get_is : {X : Type 0} (xs : List X) (k : ℕ) (x d : X) → slice_get xs k ≡ Some x → get_or xs k d ≡ x
get_is [] k x d e = cc
get_is (y ∷ xs) zero x d e = cc
get_is (y ∷ xs) (suc k) x d e = get_is xs k x d e

here_get : {X : Type 0} (xs : List X) (k : ℕ) (d : X) → k < length xs → slice_get xs k ≡ Some (get_or xs k d)
here_get [] k d h = absurd (omega arith)
here_get (y ∷ xs) zero d h = refl
here_get (y ∷ xs) (suc k) d h = here_get xs k d (omega arith)

some_same : {X : Type 0} (a b : X) → Some a ≡ Some b → a ≡ b
some_same a b e = cc

module _ {Op : Type 0} (t : StepOf Op) (steps : List (ℕ × Op)) where
  -- no step yet
  pub tasks_start : (ranks place : ℕ) (all : List TaskList) → length all ≡ ranks → place ≡ length steps → All (λ ts. ts.items ≡ []) all → AreTasks t steps place ranks all
  tasks_start ranks place all long at empty = record {
    count = long;
    each = λ r ts e.
        let none : ts.items ≡ [] = subst (λ (v : TaskList). v.items ≡ []) (get_is all r ts ts e) (empty r ts (within_get all r ts e)) in
        record {
          ops = ap (λ l. ops_of steps (reverse l)) none ∙ ap (λ l. own r l) (sym (drop_all place steps (omega (arith, at))));
          tasks = subst (λ (l : List Task). AllTasks t steps (reverse l)) (sym none) tt;
        };
  }

  -- the step at a place, before the later ones
  pub tasks_step : (ranks place rank : ℕ) (op : Op) (all : List TaskList) (ts new : TaskList) (x : Task) → AreTasks t steps (place + 1) ranks all → slice_get steps place ≡ Some (rank, op) → rank < ranks → ts ≡ get_or all rank ts
      → new.items ≡ ts.items ++ x ∷ [] → x.place ≡ place → HasBuffer (t.kind_of op) x.buffer.items → AreTasks t steps place ranks (set all rank new)
  tasks_step ranks place rank op all ts new x at here below is more named buffer =
      let later : drop place steps ≡ (rank, op) ∷ drop (suc place) steps = drop_at steps place (rank, op) here in
      let next : AreTasks t steps (suc place) ranks all = subst (λ (k : ℕ). AreTasks t steps k ranks all) (add-one place) at in
      let within : rank < length all = (let c = at.count in omega (arith, c, below)) in
      let mine : slice_get all rank ≡ Some ts = here_get all rank ts within ∙ ap (λ v. Some v) (sym is) in
      record {
        count = length-set all rank new ∙ at.count;
        each = λ r us e. elim (eqb_tells r rank) [
          | inl h ↦
              let same : new ≡ us = some_same new us (sym (get_set_same all rank ts new mine) ∙ (ap (λ k. slice_get (set all rank new) k) (sym h.1) ∙ e)) in
              let old = next.each rank ts mine in
              let flip : reverse new.items ≡ x ∷ reverse ts.items = ap reverse more ∙ reverse-append ts.items (x ∷ []) in
              let place_here : slice_get steps x.place ≡ Some (rank, op) = ap (λ k. slice_get steps k) named ∙ here in
              let ops : ops_of steps (reverse new.items) ≡ own rank (drop place steps) =
              ap (λ l. ops_of steps l) flip
              ∙ (ap (λ m. with_op m (ops_of steps (reverse ts.items))) place_here
              ∙ (ap (λ os. op ∷ os) old.ops ∙ (sym (own_here rank (rank, op) (drop (suc place) steps) refl) ∙ ap (λ l. own rank l) (sym later)))) in
              let all_tasks : AllTasks t steps (x ∷ reverse ts.items) = (record { op = (rank, op); here = place_here; buffer = buffer }, old.tasks) in
              let done : IsTaskList t steps place rank new = record { ops = ops; tasks = subst (λ (l : List Task). AllTasks t steps l) (sym flip) all_tasks } in
              subst (λ (k : ℕ). IsTaskList t steps place k us) (sym h.1) (subst (λ (v : TaskList). IsTaskList t steps place rank v) same done)
          | inr h ↦
              let old = next.each r us (sym (get_set_other all rank r new h.1) ∙ e) in
              record { ops = old.ops ∙ (sym (own_else r (rank, op) (drop (suc place) steps) (λ q. h.1 (sym q))) ∙ ap (λ l. own r l) (sym later)); tasks = old.tasks }
        ];
      }

  pub tasks_at : (ranks place place' : ℕ) (all : List TaskList) → place' ≡ place → AreTasks t steps place ranks all → AreTasks t steps place' ranks all
  tasks_at ranks place place' all e at = subst (λ (k : ℕ). AreTasks t steps k ranks all) (sym e) at
