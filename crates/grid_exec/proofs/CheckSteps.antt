-- From a program's first line to its numbers.
use Rattle.std.proofs.lemmas.List.{length-drop}
use Rattle.std.proofs.Common.{◌≡◌, ℕ, ◌-◌, ◌≤◌, length, take, List, [], ◌∷◌, ◌++◌, drop, Option, Some, None, Result, Ok, Err, refl, sym, ap, subst, ◌∙◌}
use Rattle.line_text.specs.Formats.{Refusal, refused_at, and_then}
use Rattle.msg_core.specs.Plans.{PlanView}
use Rattle.pack_words.specs.declared.rank_op.RankOp.{RankOp}
use Rattle.pack_words.specs.GridState.{GridState}
use Rattle.pack_words.specs.GridPlans.{IsOf}
use Rattle.grid_lang.specs.declared.line.Line.{Line}
use Rattle.grid_lang.specs.declared.line.Line.TheVariants as line
use Rattle.grid_lang.specs.declared.line.Numbered.{Numbered}
use Rattle.program_meaning.specs.declared.fault.ExecFault.{ExecFault}
use Rattle.program_meaning.specs.ProgramState.{ProgramState, begun}
use Rattle.program_meaning.specs.Programs.{line_done, lines_done, no_loads}
use Rattle.line_plans.specs.declared.kind.Kind.{Kind}
use Rattle.line_plans.specs.declared.kind.Kind.TheVariants as kind
use Rattle.line_plans.specs.declared.declared.Declared.{Declared}
use Rattle.line_plans.specs.declared.grown.Grown.{Grown}
use Rattle.line_plans.specs.declared.halt.Halt.{Halt}
use Rattle.line_plans.specs.declared.halt.Halt.TheVariants.{Fault, NoMemory}
use Rattle.line_plans.specs.Exact.{IsExact}
use Rattle.line_plans.specs.Kinds.{kind_of_line}
use Rattle.line_plans.specs.Standing.{state_of, IsAt, IsFresh, IsGrown}
use Rattle.line_plans.proofs.FillLaws.{filled_fresh, same_fresh}
use Rattle.grid_exec.specs.declared.err.ExecErr.{ExecErr}
use Rattle.grid_exec.specs.declared.err.ExecErr.TheVariants as err
use Rattle.grid_exec.specs.declared.summary.Summary.{Summary}
use Rattle.grid_exec.specs.Planning.{stop_of, IsPlanned}
use Rattle.grid_exec.specs.Checking.{IsChecked, IsChecking, IsOnTheWay, IsFrontDone}

pub checking_grown : (p : PlanView RankOp) (state : GridState) (x : Grown) (r : Result ProgramState ExecFault) → IsGrown (Ok x) p state r → IsChecking (Ok x.declared) p r
checking_grown p state x (Ok s) h = h.0
checking_grown p state x (Err f) h = absurd h

pub checking_refused : (p : PlanView RankOp) (state : GridState) (halt : Halt) (r : Result ProgramState ExecFault) → IsGrown (Err halt) p state r → IsChecking (Err halt) p r
checking_refused p state (Fault f) (Ok s) h = absurd h
checking_refused p state (Fault f) (Err e) h = h
checking_refused p state NoMemory (Ok s) h = tt
checking_refused p state NoMemory (Err e) h = tt

-- words of arrays leave what is declared
pub checking_words : (d : Declared) (p : PlanView RankOp) (state : GridState) (l : Line) → kind_of_line l ≡ kind.Words → IsOf d.shapes p state → IsExact d.shapes state → IsChecking (Ok d) p (line_done no_loads (state_of d p state) l)
unfolding line_done
checking_words d before state (line.Ranks n) k is exact = absurd cc
checking_words d before state (line.Grid order nprow npcol) k is exact = absurd cc
checking_words d before state (line.Map nprow npcol ranks) k is exact = absurd cc
checking_words d before state (line.Array name g m n mb nb rsrc csrc lld) k is exact = absurd cc
checking_words d before state (line.Matrix name lld cols) k is exact = absurd cc
checking_words d before state (line.Load x file) k is exact = same_fresh d before state is exact
checking_words d before state (line.Fill y a b c e) k is exact = filled_fresh d before state _ y _ is exact
checking_words d before state (line.Send g p q area rdest cdest tri) k is exact = absurd cc
checking_words d before state (line.Recv g p q area rsrc csrc tri) k is exact = absurd cc
checking_words d before state (line.Bcast g scope top rsrc csrc area tri) k is exact = absurd cc
checking_words d before state (line.Sum g scope top dest area) k is exact = absurd cc
checking_words d before state (line.Amx g scope top dest area rc) k is exact = absurd cc
checking_words d before state (line.Amn g scope top dest area rc) k is exact = absurd cc
checking_words d before state (line.Barrier g scope) k is exact = absurd cc
checking_words d before state (line.Gemr2d mr) k is exact = absurd cc
checking_words d before state (line.Trmr2d uplo diag mr) k is exact = absurd cc
checking_words d before state (line.Save x file) k is exact = absurd cc
checking_words d before state (line.SavePieces x prefix) k is exact = absurd cc
checking_words d before state (line.PrintArray x) k is exact = absurd cc
checking_words d before state (line.PrintMatrix v rank) k is exact = absurd cc

done_by : (l : Numbered) (rest : List Numbered) (s : ProgramState) (r : Result ProgramState ExecFault) → line_done no_loads s l.line ≡ r → lines_done no_loads s (l ∷ rest) ≡ and_then (refused_at l.number r) (λ next. lines_done no_loads next rest)
done_by l rest s r e = ap (λ (x : Result ProgramState ExecFault). and_then (refused_at l.number x) (λ next. lines_done no_loads next rest)) e

pub check_on : (d e : Declared) (p : PlanView RankOp) (from : ProgramState) (all rest : List Numbered) (l : Numbered) → (w : IsOnTheWay d p from all (l ∷ rest)) → IsChecking (Ok e) p (line_done no_loads (state_of d p w.state) l.line) → IsOnTheWay e p from all rest
check_on d e p from all rest l w h = step (line_done no_loads (state_of d p w.state) l.line) refl h
  where
    step : (r : Result ProgramState ExecFault) → line_done no_loads (state_of d p w.state) l.line ≡ r → IsChecking (Ok e) p r → IsOnTheWay e p from all rest
    step (Ok s) is k = record {
      state = s.state;
      of_plan = k.at.of_plan;
      exact = k.exact;
      same = w.same ∙ done_by l rest (state_of d p w.state) (Ok s) is ∙ ap (λ (x : ProgramState). lines_done no_loads x rest) k.at.state_is;
    }
    step (Err f) is k = absurd k

pub check_stopped : (d : Declared) (p : PlanView RankOp) (from : ProgramState) (all rest : List Numbered) (l : Numbered) (halt : Halt) (e : ExecErr) → (w : IsOnTheWay d p from all (l ∷ rest)) → IsChecking (Err halt) p (line_done no_loads (state_of d p w.state) l.line) → e ≡ stop_of l.number halt → IsFrontDone (Err e) p from all
check_stopped d p from all rest l halt e w h is = subst (λ (x : ExecErr). IsFrontDone (Err x) p from all) (sym is) (by_halt halt h)
  where
    step : (f : ExecFault) (r : Result ProgramState ExecFault) → line_done no_loads (state_of d p w.state) l.line ≡ r → IsChecking (Err (Fault f)) p r → lines_done no_loads from all ≡ Err (record { line = l.number; fault = f })
    step f (Ok s) at k = absurd k
    step f (Err g) at k = w.same ∙ done_by l rest (state_of d p w.state) (Err g) at ∙ ap (λ (x : ExecFault). let q : Result ProgramState (Refusal ExecFault) = Err (record { line = l.number; fault = x }) in q) (sym k)

    by_halt : (x : Halt) → IsChecking (Err x) p (line_done no_loads (state_of d p w.state) l.line) → IsFrontDone (Err (stop_of l.number x)) p from all
    by_halt (Fault f) k = step f (line_done no_loads (state_of d p w.state) l.line) refl k
    by_halt NoMemory k = tt

-- the numbers, or the refusal
pub front_refused : (p : PlanView RankOp) (from : ProgramState) (all : List Numbered) (e : ExecErr) → IsFrontDone (Err e) p from all → IsChecked (Err e) (lines_done no_loads from all)
front_refused p from all (err.Bad n f) h = subst (λ (r : Result ProgramState (Refusal ExecFault)). IsChecked (Err (err.Bad n f)) r) (sym h) (refl, refl)
front_refused p from all (err.Load name e) h = absurd h
front_refused p from all err.NoMemory h = wanting (lines_done no_loads from all)
  where
    wanting : (r : Result ProgramState (Refusal ExecFault)) → IsChecked (Err err.NoMemory) r
    wanting (Ok s) = tt
    wanting (Err r) = tt

pub checked_ok : (d : Declared) (p q : PlanView RankOp) (state : GridState) (sum : Summary) (o : Result ProgramState (Refusal ExecFault)) → IsPlanned (Ok tt) d p q state o → ((s : ProgramState) → IsAt d q s → IsChecked (Ok sum) (Ok s)) → IsChecked (Ok sum) o
checked_ok d p q state sum (Ok s) h f = f s h.0
checked_ok d p q state sum (Err r) h f = absurd h

pub checked_err : (d : Declared) (p q : PlanView RankOp) (state : GridState) (e : ExecErr) (o : Result ProgramState (Refusal ExecFault)) → IsPlanned (Err e) d p q state o → IsChecked (Err e) o
checked_err d p q state (err.Bad line fault) (Ok s) h = absurd h
checked_err d p q state (err.Bad line fault) (Err r) h = h
checked_err d p q state (err.Load name e) (Ok s) h = absurd h
checked_err d p q state (err.Load name e) (Err r) h = absurd h
checked_err d p q state err.NoMemory (Ok s) h = tt
checked_err d p q state err.NoMemory (Err r) h = tt

-- the lines after the first so many, as a slice has them
take_all : {X : Type 0} (xs : List X) → take (length xs) xs ≡ xs
take_all [] = refl
take_all {X} (x ∷ xs) = ap (λ (ys : List X). x ∷ ys) (take_all xs)

pub rest_is : {X : Type 0} (xs : List X) (n : ℕ) → take (length xs - n) (drop n xs) ≡ drop n xs
rest_is xs n = ap (λ k. take k (drop n xs)) (sym (length-drop n xs)) ∙ take_all (drop n xs)

pub checked_front : (p : PlanView RankOp) (n : ℕ) (from : ProgramState) (lines : List Numbered) (e : ExecErr) → from ≡ begun n → IsFrontDone (Err e) p from lines → IsChecked (Err e) (lines_done no_loads (begun n) lines)
checked_front p n from lines e same h = subst (λ (s : ProgramState). IsChecked (Err e) (lines_done no_loads s lines)) same (front_refused p from lines e h)

module _ (d : Declared) (p q : PlanView RankOp) (n : ℕ) (lines : List Numbered) (count : ℕ) (from : ProgramState) (w : IsOnTheWay d p from lines (drop count lines)) (inside : count ≤ length lines) (same : from ≡ begun n) where
  whole : lines_done no_loads (begun n) lines ≡ lines_done no_loads (state_of d p w.state) (drop count lines)
  whole = ap (λ (s : ProgramState). lines_done no_loads s lines) (sym same) ∙ w.same

  pub checked_end_ok : (done : Unit {0}) (sum : Summary) → IsPlanned (Ok done) d p q w.state (lines_done no_loads (state_of d p w.state) (take (length lines - count) (drop count lines))) → ((s : ProgramState) → IsAt d q s → IsChecked (Ok sum) (Ok s)) → IsChecked (Ok sum) (lines_done no_loads (begun n) lines)
  checked_end_ok done sum h f =
      subst (λ (o : Result ProgramState (Refusal ExecFault)). IsChecked (Ok sum) o) (sym whole)
      (checked_ok d p q w.state sum (lines_done no_loads (state_of d p w.state) (drop count lines)) (subst (λ (ls : List Numbered). IsPlanned (Ok done) d p q w.state (lines_done no_loads (state_of d p w.state) ls)) (rest_is lines count) h) f)

  pub checked_end_err : (e : ExecErr) → IsPlanned (Err e) d p q w.state (lines_done no_loads (state_of d p w.state) (take (length lines - count) (drop count lines))) → IsChecked (Err e) (lines_done no_loads (begun n) lines)
  checked_end_err e h =
      subst (λ (o : Result ProgramState (Refusal ExecFault)). IsChecked (Err e) o) (sym whole)
      (checked_err d p q w.state e (lines_done no_loads (state_of d p w.state) (drop count lines)) (subst (λ (ls : List Numbered). IsPlanned (Err e) d p q w.state (lines_done no_loads (state_of d p w.state) ls)) (rest_is lines count) h))
