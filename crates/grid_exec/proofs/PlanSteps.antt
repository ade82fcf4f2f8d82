-- One exchange after the other.
use Rattle.std.proofs.Common.{◌≡◌, ℕ, suc, ◌+◌, ◌<◌, length, drop, List, [], ◌∷◌, Result, Ok, Err, refl, sym, ap, subst, ◌∙◌, arith}
use Rattle.std.specs.Prelude.{slice_index_or}
use Rattle.std.proofs.Math.Seq.{drop-cons}
use Rattle.line_text.specs.Formats.{Refusal, refused_at, and_then}
use Rattle.msg_core.specs.Plans.{PlanView}
use Rattle.pack_words.specs.declared.rank_op.RankOp.{RankOp}
use Rattle.pack_words.specs.GridState.{GridState}
use Rattle.pack_words.specs.GridShapes.{ShapesView}
use Rattle.pack_words.specs.GridPlans.{IsOf}
use Rattle.pack_words.proofs.Kept.{appends_both}
use Rattle.grid_lang.specs.declared.line.Numbered.{Numbered}
use Rattle.program_meaning.specs.declared.fault.ExecFault.{ExecFault}
use Rattle.program_meaning.specs.ProgramState.{ProgramState}
use Rattle.program_meaning.specs.Programs.{line_done, lines_done, no_loads}
use Rattle.line_plans.specs.declared.declared.Declared.{Declared}
use Rattle.line_plans.specs.declared.halt.Halt.{Halt}
use Rattle.line_plans.specs.declared.halt.Halt.TheVariants.{Fault, NoMemory}
use Rattle.line_plans.specs.Standing.{state_of, IsAt, IsExchanged, Carries}
use Rattle.grid_exec.specs.declared.err.ExecErr.{ExecErr}
use Rattle.grid_exec.specs.declared.err.ExecErr.TheVariants as err
use Rattle.grid_exec.specs.Planning.{stop_of, IsPlanned, IsUnderWay}
use Rattle.grid_exec.proofs.LaterLines.{no_operations}

-- the next line of some
pub next_line : (lines : List Numbered) (k : ℕ) (l : Numbered) → l ≡ slice_index_or lines k l → k < length lines → drop k lines ≡ l ∷ drop (k + 1) lines
next_line lines k l is lt =
    let e : suc k ≡ k + 1 = omega arith in
    subst (λ n. drop k lines ≡ l ∷ drop n lines) e (drop-cons lines k l lt ∙ ap (λ (x : Numbered). x ∷ drop (suc k) lines) (sym is))

both : (v : ShapesView) (p q r : PlanView RankOp) (a b c : GridState) → Carries v p q a b → Carries v q r b c → Carries v p r a c
both v p q r a b c h k = record {
  does = λ s. k.does (h.does s);
  appends = appends_both v p q r h.does k.does h.appends k.appends;
  gives = k.gives ∙ ap k.does h.gives;
}

done_by : (l : Numbered) (rest : List Numbered) (s : ProgramState) (r : Result ProgramState ExecFault) → line_done no_loads s l.line ≡ r → lines_done no_loads s (l ∷ rest) ≡ and_then (refused_at l.number r) (λ next. lines_done no_loads next rest)
done_by l rest s r e = ap (λ (x : Result ProgramState ExecFault). and_then (refused_at l.number x) (λ next. lines_done no_loads next rest)) e

pub begins : (d : Declared) (p : PlanView RankOp) (state : GridState) (all : List Numbered) → IsOf d.shapes p state → IsUnderWay d p p state all all
begins d p state all is = record { state = state; of_plan = is; carries = no_operations d.shapes p state; same = refl }

pub on_the_way : (d : Declared) (p q r : PlanView RankOp) (from : GridState) (all rest : List Numbered) (l : Numbered) (done : Unit {0}) → (w : IsUnderWay d p q from all (l ∷ rest))
    → IsExchanged (Ok done) d q r w.state (line_done no_loads (state_of d q w.state) l.line) → IsUnderWay d p r from all rest
on_the_way d p q r from all rest l done w h = step (line_done no_loads (state_of d q w.state) l.line) refl h
  where
    step : (x : Result ProgramState ExecFault) → line_done no_loads (state_of d q w.state) l.line ≡ x → IsExchanged (Ok done) d q r w.state x → IsUnderWay d p r from all rest
    step (Ok s) is k = record {
      state = s.state;
      of_plan = k.0.of_plan;
      carries = both d.shapes p q r from w.state s.state w.carries k.1;
      same = w.same ∙ done_by l rest (state_of d q w.state) (Ok s) is ∙ ap (λ (x : ProgramState). lines_done no_loads x rest) k.0.state_is;
    }
    step (Err f) is k = absurd k

pub stopped_there : (d : Declared) (p q r : PlanView RankOp) (from : GridState) (all rest : List Numbered) (l : Numbered) (halt : Halt) (e : ExecErr) → (w : IsUnderWay d p q from all (l ∷ rest))
    → IsExchanged (Err halt) d q r w.state (line_done no_loads (state_of d q w.state) l.line) → e ≡ stop_of l.number halt → IsPlanned (Err e) d p r from (lines_done no_loads (state_of d p from) all)
stopped_there d p q r from all rest l halt e w h is =
    subst (λ (x : ExecErr). IsPlanned (Err x) d p r from (lines_done no_loads (state_of d p from) all)) (sym is) (by_halt halt h)
  where
    step : (f : ExecFault) (x : Result ProgramState ExecFault) → line_done no_loads (state_of d q w.state) l.line ≡ x → IsExchanged (Err (Fault f)) d q r w.state x → IsPlanned (Err (err.Bad l.number f)) d p r from (lines_done no_loads (state_of d p from) all)
    step f (Ok s) at k = absurd k
    step f (Err g) at k = subst (λ (y : Result ProgramState (Refusal ExecFault)). IsPlanned (Err (err.Bad l.number f)) d p r from y) (sym (w.same ∙ done_by l rest (state_of d q w.state) (Err g) at)) (refl, k)

    by_halt : (x : Halt) → IsExchanged (Err x) d q r w.state (line_done no_loads (state_of d q w.state) l.line) → IsPlanned (Err (stop_of l.number x)) d p r from (lines_done no_loads (state_of d p from) all)
    by_halt (Fault f) k = step f (line_done no_loads (state_of d q w.state) l.line) refl k
    by_halt NoMemory k = tt

pub all_there : (d : Declared) (p q : PlanView RankOp) (from : GridState) (all : List Numbered) (done : Unit {0}) → IsUnderWay d p q from all [] → IsPlanned (Ok done) d p q from (lines_done no_loads (state_of d p from) all)
all_there d p q from all done w = subst (λ (r : Result ProgramState (Refusal ExecFault)). IsPlanned (Ok done) d p q from r) (sym w.same) (record { state_is = refl; of_plan = w.of_plan }, w.carries)
