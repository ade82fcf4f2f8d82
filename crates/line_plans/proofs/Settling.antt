-- A line that is planned stands for what its meaning leaves.
use Rattle.std.proofs.Common.{◌≡◌, ℕ, ◌+◌, [], ◌∷◌, Option, Some, None, Result, Ok, Err, refl, sym, ap, subst, ◌∙◌, arith, pos, inl, inr}
use Rattle.std.specs.List.{find}
use Rattle.std.specs.Option.{option_map}
use Rattle.line_text.specs.FaultTables.{first_fault, unless_fault}
use Rattle.proc_grid.specs.Grid.{Grid}
use Rattle.proc_grid.specs.Held.{context_at}
use Rattle.msg_core.specs.Plans.{PlanView, word_count}
use Rattle.pack_words.specs.declared.rank_op.RankOp.{RankOp}
use Rattle.pack_words.specs.GridState.{GridState, rank_steps}
use Rattle.pack_words.specs.GridPlans.{IsOf, Appends, Grows}
use Rattle.pack_words.proofs.Kept.{appends_keeps}
use Rattle.scope_ops.specs.Calls.{IsMade}
use Rattle.scope_ops.specs.Refusals.{IsAnswer}
use Rattle.scope_ops.specs.declared.scope_err.ScopeErr.{ScopeErr}
use Rattle.program_meaning.specs.declared.fault.ExecFault.{ExecFault}
use Rattle.program_meaning.specs.declared.fault.ExecFault.TheVariants as fault
use Rattle.program_meaning.specs.ProgramState.{ProgramState, or_no_grid, grid_at, large_fault}
use Rattle.program_meaning.specs.Exchanges.{Exchange, waits, waiting, exchange_fault, exchange_done, exchanged}
use Rattle.line_plans.specs.declared.declared.Declared.{Declared}
use Rattle.line_plans.specs.declared.halt.Halt.{Halt}
use Rattle.line_plans.specs.declared.halt.Halt.TheVariants.{Fault, NoMemory}
use Rattle.line_plans.specs.Standing.{state_of, IsAt, IsExchanged, IsCounted}

-- the grid of a number
pub grid_is : (d : Declared) (p : PlanView RankOp) (state : GridState) (n : ℕ) (g : Grid) → context_at d.contexts (pos n) ≡ Some g → grid_at (state_of d p state) (pos n) ≡ g
grid_is d p state n g e = ap or_no_grid e

-- a state with these numbers
same_state : (d : Declared) (state : GridState) (a b c x y z : ℕ) → a ≡ x → b ≡ y → c ≡ z
    → (let s : ProgramState = record { grids = d.contexts; shapes = d.shapes; spreads = d.spreads.items; state = state; operations = a; messages = b; words = c } in s) ≡ record { grids = d.contexts; shapes = d.shapes; spreads = d.spreads.items; state = state; operations = x; messages = y; words = z }
same_state d state a b c x y z e f g = cc

words_grow : (arrays before after more : ℕ) → after ≡ before + more → arrays + before + more ≡ arrays + after
words_grow arrays before after more e = omega arith

-- what an exchange leaves, from a plan that appended it
pub done_at : (d : Declared) (p q : PlanView RankOp) (state : GridState) (x : Exchange) → IsOf d.shapes p state → Appends d.shapes p q x.does → Grows p q x.operations x.messages x.words → IsAt d q (exchange_done (state_of d p state) x)
done_at d p q state x is more grows = record {
  state_is = same_state d (x.does state) _ _ _ _ _ _ (sym grows.ops_are) (sym grows.messages_are) (words_grow d.words (word_count rank_steps p.steps) (word_count rank_steps q.steps) x.words grows.words_are);
  of_plan = appends_keeps d.shapes p q x.does state more is;
}

-- why it is refused, where no message waits and the call's cause is known
pub fault_is : (s : ProgramState) (x : Exchange) (cause : Option ExecFault) → find (waits s.state) x.pairs ≡ None → x.refused ≡ cause → exchange_fault s x ≡ first_fault (None ∷ cause ∷ large_fault (s.words + x.words) ∷ [])
fault_is s x cause e f =
    ap (λ (o : Option (ℕ × ℕ)). first_fault (waiting o ∷ x.refused ∷ large_fault (s.words + x.words) ∷ [])) e
    ∙ ap (λ (o : Option ExecFault). first_fault (None ∷ o ∷ large_fault (s.words + x.words) ∷ [])) f

-- the words are the last cause
pub by_words : (d : Declared) (p q : PlanView RankOp) (state : GridState) (x : Exchange) (counted : Result (Unit {0}) Halt) → find (waits state) x.pairs ≡ None → x.refused ≡ None
    → IsOf d.shapes p state → Appends d.shapes p q x.does → Grows p q x.operations x.messages x.words → IsCounted counted (d.words + word_count rank_steps q.steps)
    → IsExchanged counted d p q state (exchanged (state_of d p state) x)
by_words d p q state x counted quiet none is more grows h =
    subst (λ (o : Option ExecFault). IsExchanged counted d p q state (unless_fault o (Ok (exchange_done (state_of d p state) x)))) (sym (fault_is (state_of d p state) x None quiet none))
    (step counted (large_fault (d.words + word_count rank_steps p.steps + x.words)) (subst (λ n. IsCounted counted n) (sym (words_grow d.words (word_count rank_steps p.steps) (word_count rank_steps q.steps) x.words grows.words_are)) h) refl)
  where
    step : (r : Result (Unit {0}) Halt) (o : Option ExecFault) → IsCounted r (d.words + word_count rank_steps p.steps + x.words) → large_fault (d.words + word_count rank_steps p.steps + x.words) ≡ o
        → IsExchanged r d p q state (unless_fault (first_fault (None ∷ None ∷ o ∷ [])) (Ok (exchange_done (state_of d p state) x)))
    step (Ok done) None k e = (done_at d p q state x is more grows, record { does = x.does; appends = more; gives = refl })
    step (Ok done) (Some f) k e = absurd cc
    step (Err (Fault f)) None k e = absurd cc
    step (Err (Fault f)) (Some g) k e = cc
    step (Err NoMemory) None k e = tt
    step (Err NoMemory) (Some g) k e = tt

-- a call's cause is none where it is answered Ok
none_of : (cause : Option ScopeErr) → IsAnswer (Ok tt) cause → cause ≡ None
none_of None h = refl
none_of (Some e) (inl h) = absurd cc
none_of (Some e) (inr h) = absurd cc

pub settles : (d : Declared) (p q : PlanView RankOp) (state : GridState) (x : Exchange) (cause : Option ScopeErr) (counted : Result (Unit {0}) Halt) → IsOf d.shapes p state → find (waits state) x.pairs ≡ None
    → x.refused ≡ option_map fault.Scope cause → IsAnswer (Ok tt) cause → IsMade d.shapes p q x.does x.operations x.messages x.words → IsCounted counted (d.words + word_count rank_steps q.steps)
    → IsExchanged counted d p q state (exchanged (state_of d p state) x)
settles d p q state x cause counted is quiet refused answer made h =
    by_words d p q state x counted quiet (refused ∙ ap (λ (o : Option ScopeErr). option_map fault.Scope o) (none_of cause answer)) is made.appends made.grows h
