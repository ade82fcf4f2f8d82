-- From the planned lines to the job.
use Rattle.std.proofs.Common.{◌≡◌, ℕ, suc, ◌+◌, ◌-◌, ◌*◌, ◌^◌, ◌<◌, ◌≤◌, Bool, true, false, List, [], ◌∷◌, ◌++◌, length, map, take, drop, Option, Some, None, Result, Ok, Err, refl, sym, ap, subst, ◌∙◌, inl, inr, arith, append_assoc}
use Rattle.std.specs.Prelude.{◌⊎◌, IsTrue, slice_get, slice_index_or, is_some}
use Rattle.std.specs.List.{AllByRecursion}
use Rattle.std.proofs.lemmas.List.{length-map, take-append-drop}
use Rattle.std.proofs.lemmas.Option.{slice_get_within}
use Rattle.line_text.specs.Formats.{Refusal, refused_at, and_then}
use Rattle.store_io.specs.Outside.{Outside, SameCounts}
use Rattle.descriptor.specs.declared.spread.Spread.{Spread}
use Rattle.proc_grid.specs.Grid.{Grid}
use Rattle.msg_core.specs.Plans.{PlanView, AllCan, word_count}
use Rattle.msg_core.specs.Runs.{EveryRunIsInOrder}
use Rattle.pack_words.specs.declared.rank_op.RankOp.{RankOp}
use Rattle.pack_words.specs.RankOps.{RankState}
use Rattle.pack_words.specs.LocalCells.{LocalCells}
use Rattle.pack_words.specs.GridState.{GridState, HasRoom, rank_steps, rank_nodes, arrays_held}
use Rattle.pack_words.specs.GridShapes.{ShapesView, HasShapes}
use Rattle.pack_words.specs.GridPlans.{IsOf, PlanMeans, first_grid}
use Rattle.pack_words.proofs.Kept.{plan_begins, plan_goes_on, plan_runs}
use Rattle.plan_runs.specs.PlanRuns.{CanRun, nodes_after}
use Rattle.grid_lang.specs.declared.line.Line.{Line}
use Rattle.grid_lang.specs.declared.line.Line.TheVariants as line
use Rattle.grid_lang.specs.declared.line.Numbered.{Numbered}
use Rattle.grid_lang.specs.Facts.{Known, Keeps, known_after, IsSound}
use Rattle.program_meaning.specs.declared.fault.ExecFault.{ExecFault}
use Rattle.program_meaning.specs.ProgramState.{ProgramState, begun}
use Rattle.program_meaning.specs.Programs.{line_done, lines_done, no_loads}
use Rattle.program_meaning.specs.WithFiles.{LineGives, Reaches, IsRefusedAt, IsReadAt}
use Rattle.program_meaning.proofs.FileSteps.{in_turn, few_reached}
use Rattle.program_results.specs.Standing.{AskFor, AsksFor as Asks, Fits}
use Rattle.program_results.specs.EndsView.{EndsView, ends_of}
use Rattle.program_results.proofs.Fitting.{fits}
use Rattle.line_plans.specs.declared.kind.Kind.{Kind}
use Rattle.line_plans.specs.declared.kind.Kind.TheVariants as kind
use Rattle.line_plans.specs.declared.declared.Declared.{Declared}
use Rattle.line_plans.specs.Kinds.{kind_of_line}
use Rattle.line_plans.specs.Known.{Stands}
use Rattle.line_plans.specs.Standing.{state_of, IsAt, IsBegun, Carries}
use Rattle.line_plans.proofs.KnownLaws.{known_spread}
use Rattle.grid_exec.specs.declared.err.ExecErr.{ExecErr}
use Rattle.grid_exec.specs.declared.err.ExecErr.TheVariants as err
use Rattle.grid_exec.specs.declared.held.Held.{Held}
use Rattle.grid_exec.specs.declared.planning.Planned.{Planned}
use Rattle.grid_exec.specs.Sections.{IsFront, AreFront, IsLater, AreLater, AreKnown}
use Rattle.grid_exec.specs.Holding.{resting}
use Rattle.grid_exec.specs.Planning.{IsPlanned}
use Rattle.grid_exec.specs.Reading.{standing, IsUnread, RefusesFrom, UnreadFrom, IsFilled, HasPlanCause}
use Rattle.grid_exec.specs.JobView.{JobView, IsReady, arrays_after}
use Rattle.grid_exec.specs.Jobs.{EveryEndIsTheProgram, IsJobOf}
use Rattle.grid_exec.specs.Ending.{EndsAt, IsPlanEnd, AsksFor}
use Rattle.grid_exec.specs.Answers.{IsProgramAnswer}
use Rattle.grid_exec.proofs.LaterLines.{not_front, first_known, rest_known}
use Rattle.grid_exec.proofs.FrontLines.{plain_gives}
use Rattle.grid_exec.proofs.Beginnings.{begun_is}
use Rattle.grid_exec.proofs.CheckSteps.{rest_is}

-- ---- lines that need no file

later_not_words : (l : Line) → IsLater l → kind_of_line l ≡ kind.Words → ⊥
later_not_words l (inl e) w = absurd (let k : (let y : Kind = kind.Exchange in y) ≡ kind.Words = sym e ∙ w in cc)
later_not_words l (inr e) w = absurd (let k : (let y : Kind = kind.Outcome in y) ≡ kind.Words = sym e ∙ w in cc)

reached_step : (store : Outside) (s t : ProgramState) (l : Numbered) (more : List Numbered) → IsLater l.line → ((next : ProgramState) → lines_done no_loads next more ≡ Ok t → Reaches store next more t)
    → (r : Result ProgramState ExecFault) → line_done no_loads s l.line ≡ r → and_then (refused_at l.number r) (λ next. lines_done no_loads next more) ≡ Ok t → Reaches store s (l ∷ more) t
reached_step store s t l more later on (Ok next) is k = (next, plain_gives store s l.line (Ok next) (later_not_words l.line later) is, on next k)
reached_step store s t l more later on (Err f) is k = absurd cc

plain_reached : (store : Outside) (s t : ProgramState) (lines : List Numbered) → AreLater lines → lines_done no_loads s lines ≡ Ok t → Reaches store s lines t
plain_reached store s t [] later e = let k : (let r : Result ProgramState (Refusal ExecFault) = Ok s in r) ≡ Ok t = e in cc
plain_reached store s t (l ∷ more) later e = reached_step store s t l more later.0 (λ next k. plain_reached store next t more later.1 k) (line_done no_loads s l.line) refl e

refused_step : (store : Outside) (s : ProgramState) (r : Refusal ExecFault) (l : Numbered) (more : List Numbered) → IsLater l.line → ((next : ProgramState) → lines_done no_loads next more ≡ Err r → RefusesFrom store next more r.line r.fault)
    → (x : Result ProgramState ExecFault) → line_done no_loads s l.line ≡ x → and_then (refused_at l.number x) (λ next. lines_done no_loads next more) ≡ Err r → RefusesFrom store s (l ∷ more) r.line r.fault
refused_step store s r l more later on (Ok next) is k =
    let rest = on next k in
    record {
      before = l ∷ rest.before;
      line = rest.line;
      after = rest.after;
      whole = ap (λ (ls : List Numbered). l ∷ ls) rest.whole;
      state = rest.state;
      reached = (next, plain_gives store s l.line (Ok next) (later_not_words l.line later) is, rest.reached);
      number_is = rest.number_is;
      refused = rest.refused;
    }
refused_step store s r l more later on (Err f) is k =
    let same : (let x : Refusal ExecFault = record { line = l.number; fault = f } in x) ≡ r = cc in
    record {
      before = [];
      line = l;
      after = more;
      whole = refl;
      state = s;
      reached = refl;
      number_is = sym (ap (λ (x : Refusal ExecFault). x.line) same);
      refused = plain_gives store s l.line (Err r.fault) (later_not_words l.line later) (is ∙ ap (λ (x : Refusal ExecFault). let q : Result ProgramState ExecFault = Err x.fault in q) same);
    }

plain_refused : (store : Outside) (s : ProgramState) (r : Refusal ExecFault) (lines : List Numbered) → AreLater lines → lines_done no_loads s lines ≡ Err r → RefusesFrom store s lines r.line r.fault
plain_refused store s r [] later e = absurd cc
plain_refused store s r (l ∷ more) later e = refused_step store s r l more later.0 (λ next k. plain_refused store next r more later.1 k) (line_done no_loads s l.line) refl e

after_front : (store : Outside) (from s : ProgramState) (xs ys : List Numbered) (n : ℕ) (f : ExecFault) → Reaches store from xs s → RefusesFrom store s ys n f → RefusesFrom store from (xs ++ ys) n f
after_front store from s xs ys n f h r = record {
  before = xs ++ r.before;
  line = r.line;
  after = r.after;
  whole = ap (λ (ls : List Numbered). xs ++ ls) r.whole ∙ sym (append_assoc xs r.before (r.line ∷ r.after));
  state = r.state;
  reached = in_turn store from s r.state xs r.before h r.reached;
  number_is = r.number_is;
  refused = r.refused;
}

-- ---- the lines after RANKS

from_begun : (h : Held) (p : PlanView RankOp) (n : ℕ) → IsBegun h.declared n → h.contents ≡ (begun n).state.arrays → p.steps ≡ [] → standing h p ≡ begun n
from_begun h p n is none empty = ap (λ (arrays : List (List LocalCells)). state_of h.declared p (resting arrays)) none ∙ begun_is h.declared p n is empty

module _ (store : Outside) (h₀ h : Held) (n count : ℕ) (p q : PlanView RankOp) (lines : List Numbered) (is : IsBegun h₀.declared n) (none : h₀.contents ≡ (begun n).state.arrays) (empty : p.steps ≡ []) (front : IsFilled (Ok (h, count)) store p (standing h₀ p) lines) (later : AreLater (drop count lines)) where
  reached_front : Reaches store (begun n) (take count lines) (standing h p)
  reached_front = subst (λ (s : ProgramState). Reaches store s (take count lines) (standing h p)) (from_begun h₀ p n is none empty) front

  whole : lines ≡ take count lines ++ drop count lines
  whole = sym (take-append-drop count lines)

  pub planned_end : (x : Planned) → x.held ≡ h → x.plan ≡ q → q.ranks ≡ h.declared.shapes.ranks → (o : Result ProgramState (Refusal ExecFault)) → lines_done no_loads (standing h p) (drop count lines) ≡ o → IsPlanned (Ok tt) h.declared p q (resting h.contents) o → IsPlanEnd (Ok x) store (begun n) lines
  planned_end x held plan ranks (Ok s) e k =
      let all : Reaches store (begun n) lines s = subst (λ (ls : List Numbered). Reaches store (begun n) ls s) (sym whole) (in_turn store (begun n) (standing h p) s (take count lines) (drop count lines) reached_front (plain_reached store (standing h p) s (drop count lines) later e)) in (
        s,
        all,
        subst (λ (y : Held). EndsAt y x.plan s) (sym held) (subst (λ (y : PlanView RankOp). EndsAt h y s) (sym plan) (record {
          at = k.0;
          ranks = ranks;
          does = k.1.does;
          means = plan_goes_on h.declared.shapes p q (λ g. g) k.1.does (plan_begins h.declared.shapes p empty) k.1.appends;
          gives = k.1.gives;
          few = few_reached store (begun n) s lines (let z : 0 ≤ 2 ^ 26 = omega arith in z) all;
        })),
      )
  planned_end x held plan ranks (Err r) e k = absurd k

  pub planned_stop : (e : ExecErr) (o : Result ProgramState (Refusal ExecFault)) → lines_done no_loads (standing h p) (drop count lines) ≡ o → IsPlanned (Err e) h.declared p q (resting h.contents) o → IsPlanEnd (Err e) store (begun n) lines
  planned_stop (err.Bad m f) (Ok s) e k = absurd k
  planned_stop (err.Bad m f) (Err r) e k =
      let there = after_front store (begun n) (standing h p) (take count lines) (drop count lines) r.line r.fault reached_front (plain_refused store (standing h p) r (drop count lines) later e) in
      subst (λ (ls : List Numbered). RefusesFrom store (begun n) ls m f) (sym whole) (subst (λ (y : ℕ). RefusesFrom store (begun n) (take count lines ++ drop count lines) y f) (sym k.0) (subst (λ (y : ExecFault). RefusesFrom store (begun n) (take count lines ++ drop count lines) r.line y) (sym k.1) there))
  planned_stop (err.Load name c) (Ok s) e k = absurd k
  planned_stop (err.Load name c) (Err r) e k = absurd k
  planned_stop err.NoMemory (Ok s) e k = tt
  planned_stop err.NoMemory (Err r) e k = tt

pub front_stop : (store : Outside) (h₀ : Held) (n : ℕ) (p : PlanView RankOp) (lines : List Numbered) (e : ExecErr) → IsBegun h₀.declared n → h₀.contents ≡ (begun n).state.arrays → p.steps ≡ [] → IsFilled (Err e) store p (standing h₀ p) lines → IsPlanEnd (Err e) store (begun n) lines
front_stop store h₀ n p lines (err.Bad m f) is none empty h = subst (λ (s : ProgramState). RefusesFrom store s lines m f) (from_begun h₀ p n is none empty) h
front_stop store h₀ n p lines (err.Load name c) is none empty h = subst (λ (s : ProgramState). UnreadFrom store s lines name c) (from_begun h₀ p n is none empty) h
front_stop store h₀ n p lines err.NoMemory is none empty h = tt

-- ---- what the results ask for

matrix_there : (d : Declared) (k : Known) (v : ℕ) → Stands d k → slice_get k.arrays v ≡ Some false → v < length d.spreads.items
matrix_there d k v h e = subst (λ n. v < n) (ap length h.arrays ∙ length-map d.spreads.items is_some) (slice_get_within k.arrays v false e)

asks_front : (ranks : ℕ) (spreads : List (Option Spread)) (l : Line) → IsFront l → Asks ranks spreads l
asks_front count spreads (line.Ranks n) h = tt
asks_front count spreads (line.Grid order nprow npcol) h = tt
asks_front count spreads (line.Map nprow npcol ranks) h = tt
asks_front count spreads (line.Array name g m n mb nb rsrc csrc lld) h = tt
asks_front count spreads (line.Matrix name lld cols) h = tt
asks_front count spreads (line.Load x file) h = tt
asks_front count spreads (line.Fill y a b c e) h = tt
asks_front count spreads (line.Send g p q area rdest cdest tri) h = tt
asks_front count spreads (line.Recv g p q area rsrc csrc tri) h = tt
asks_front count spreads (line.Bcast g scope top rsrc csrc area tri) h = tt
asks_front count spreads (line.Sum g scope top dest area) h = tt
asks_front count spreads (line.Amx g scope top dest area rc) h = tt
asks_front count spreads (line.Amn g scope top dest area rc) h = tt
asks_front count spreads (line.Barrier g scope) h = tt
asks_front count spreads (line.Gemr2d mr) h = tt
asks_front count spreads (line.Trmr2d uplo diag mr) h = tt
asks_front count spreads (line.Save x file) h = absurd (not_front _ (λ e. absurd cc) (λ e. absurd cc) h)
asks_front count spreads (line.SavePieces x prefix) h = absurd (not_front _ (λ e. absurd cc) (λ e. absurd cc) h)
asks_front count spreads (line.PrintArray x) h = absurd (not_front _ (λ e. absurd cc) (λ e. absurd cc) h)
asks_front count spreads (line.PrintMatrix v rank) h = absurd (not_front _ (λ e. absurd cc) (λ e. absurd cc) h)

asks_later : (d : Declared) (held : Known) (l : Line) → Stands d held → Keeps held l → Asks d.shapes.ranks d.spreads.items l
unfolding Keeps
asks_later d held (line.Ranks n) h keeps = tt
asks_later d held (line.Grid order nprow npcol) h keeps = tt
asks_later d held (line.Map nprow npcol ranks) h keeps = tt
asks_later d held (line.Array name g m n mb nb rsrc csrc lld) h keeps = tt
asks_later d held (line.Matrix name lld cols) h keeps = tt
asks_later d held (line.Load x file) h keeps = tt
asks_later d held (line.Fill y a b c e) h keeps = tt
asks_later d held (line.Send g p q area rdest cdest tri) h keeps = tt
asks_later d held (line.Recv g p q area rsrc csrc tri) h keeps = tt
asks_later d held (line.Bcast g scope top rsrc csrc area tri) h keeps = tt
asks_later d held (line.Sum g scope top dest area) h keeps = tt
asks_later d held (line.Amx g scope top dest area rc) h keeps = tt
asks_later d held (line.Amn g scope top dest area rc) h keeps = tt
asks_later d held (line.Barrier g scope) h keeps = tt
asks_later d held (line.Gemr2d mr) h keeps = tt
asks_later d held (line.Trmr2d uplo diag mr) h keeps = tt
asks_later d held (line.Save x file) h keeps = known_spread d held x h keeps
asks_later d held (line.SavePieces x prefix) h keeps = known_spread d held x h keeps
asks_later d held (line.PrintArray x) h keeps = known_spread d held x h keeps
asks_later d held (line.PrintMatrix v rank) h keeps = (matrix_there d held v h keeps.0, subst (λ n. rank < n) h.ranks keeps.1)

all_asks_front : (ranks : ℕ) (spreads : List (Option Spread)) (lines more : List Numbered) → AreFront lines → AllByRecursion (λ l. Asks ranks spreads l.line) more → AllByRecursion (λ l. Asks ranks spreads l.line) (lines ++ more)
all_asks_front ranks spreads [] more h k = k
all_asks_front ranks spreads (l ∷ lines) more h k = (asks_front ranks spreads l.line h.0, all_asks_front ranks spreads lines more h.1 k)

all_asks_later : (d : Declared) (lines : List Numbered) → AreKnown d lines → AreLater lines → AllByRecursion (λ l. Asks d.shapes.ranks d.spreads.items l.line) lines
all_asks_later d [] h later = tt
all_asks_later d (l ∷ lines) h later = (asks_later d h.0 l.line h.1 h.2.1, all_asks_later d lines (rest_known d l lines h later.0) later.1)

pub asks_all : (d : Declared) (lines : List Numbered) (count : ℕ) → AreFront (take count lines) → AreKnown d (drop count lines) → AreLater (drop count lines) → AllByRecursion (λ l. Asks d.shapes.ranks d.spreads.items l.line) lines
asks_all d lines count front known later =
    subst (λ (ls : List Numbered). AllByRecursion (λ l. Asks d.shapes.ranks d.spreads.items l.line) ls) (take-append-drop count lines)
    (all_asks_front d.shapes.ranks d.spreads.items (take count lines) (drop count lines) front (all_asks_later d (drop count lines) known later))

pub asks_program : (x : Planned) (first : Numbered) (rest : List Numbered) (n : ℕ) → first.line ≡ line.Ranks n → IsSound (first ∷ rest) → AsksFor x rest → AskFor x.held.declared.shapes.ranks x.held.declared.spreads.items (first ∷ rest)
asks_program x first rest n e sound asks = record {
  each = (subst (λ (l : Line). Asks x.held.declared.shapes.ranks x.held.declared.spreads.items l) (sym e) tt, asks);
  few = sound.few;
}

-- ---- the job

module _ (h : Held) (p : PlanView RankOp) (nodes : List RankState) (s : ProgramState) (end : EndsAt h p s) (same : map arrays_held nodes ≡ h.contents) (long : length nodes ≡ p.ranks) (room : HasRoom p.steps nodes) where
  first_is : first_grid nodes ≡ resting h.contents
  first_is = ap resting same

  runs : AllCan rank_nodes nodes p.steps × (map arrays_held (nodes_after p.steps nodes) ≡ (end.does (first_grid nodes)).arrays)
  runs = plan_runs h.declared.shapes p end.does nodes end.means (subst (λ (g : GridState). HasShapes h.declared.shapes g) (sym first_is) h.holds.shaped) room

  pub ends_in : map arrays_held (nodes_after p.steps nodes) ≡ s.state.arrays
  ends_in = runs.1 ∙ ap (λ (g : GridState). (end.does g).arrays) first_is ∙ ap (λ (g : GridState). g.arrays) (sym end.gives)

  pub can_all : AllCan rank_nodes nodes p.steps
  can_all = runs.0

  pub can_run : CanRun p nodes
  can_run =
      let words : s.words ≡ h.declared.words + word_count rank_steps p.steps = ap (λ (x : ProgramState). x.words) end.at.state_is in
      let few = end.few in
      record { ranks = long; can = runs.0; words = few_of s.words h.declared.words (word_count rank_steps p.steps) words few }
    where
      few_of : (a b c : ℕ) → a ≡ b + c → a ≤ 2 ^ 26 → c ≤ 2 ^ 26
      few_of a b c e le = omega arith

  pub fits_in : (lines : List Numbered) (ends : EndsView) → ends ≡ ends_of h.declared.contexts h.declared.spreads.items lines → AskFor h.declared.shapes.ranks h.declared.spreads.items lines → Fits ends (map arrays_held (nodes_after p.steps nodes))
  fits_in lines ends e asks =
      subst (λ (x : EndsView). Fits x (map arrays_held (nodes_after p.steps nodes))) (sym e)
      (subst (λ (x : List (List LocalCells)). Fits (ends_of h.declared.contexts h.declared.spreads.items lines) x) (sym ends_in)
      (fits h.declared.contexts h.declared.shapes h.declared.spreads.items lines s.state h.declared.sound asks end.at.of_plan.shaped))

  pub job_of : (job : JobView) (lines : List Numbered) → job.plan ≡ p → job.nodes ≡ nodes → job.ends ≡ ends_of h.declared.contexts h.declared.spreads.items lines → EveryRunIsInOrder rank_steps rank_nodes p.steps nodes → IsJobOf job s lines
  job_of job lines plan_is nodes_are ends runs_so =
      let every : EveryRunIsInOrder rank_steps rank_nodes job.plan.steps job.nodes = subst (λ (x : PlanView RankOp). EveryRunIsInOrder rank_steps rank_nodes x.steps job.nodes) (sym plan_is) (subst (λ (x : List RankState). EveryRunIsInOrder rank_steps rank_nodes p.steps x) (sym nodes_are) runs_so) in
      let operations : length job.plan.steps ≡ s.operations = ap (λ (x : PlanView RankOp). length x.steps) plan_is ∙ sym (ap (λ (x : ProgramState). x.operations) end.at.state_is) in
      let arrays : arrays_after job ≡ s.state.arrays = ap (λ (x : PlanView RankOp). map arrays_held (nodes_after x.steps job.nodes)) plan_is ∙ ap (λ (x : List RankState). map arrays_held (nodes_after p.steps x)) nodes_are ∙ ends_in in
      record {
        operations = operations;
        every_end = λ rules enough trace run over.
            let r = every.every rules enough trace run in
            let full = r.full over in
            (full ∙ operations, ap (map arrays_held) (r.ends full) ∙ arrays);
        arrays = arrays;
        ends = ends ∙ ap (λ (x : ProgramState). ends_of x.grids x.spreads lines) (sym end.at.state_is);
      }

-- ---- the program's answer

pub answer_ok : (store : Outside) (first : Numbered) (rest : List Numbered) (n : ℕ) (job : JobView) (s : ProgramState) → first.line ≡ line.Ranks n → Reaches store (begun n) rest s → IsJobOf job s (first ∷ rest) → (let r : Result JobView ExecErr = Ok job in IsProgramAnswer r store (first ∷ rest))
unfolding line_done
answer_ok store first rest n job s e h j = (s, (begun n, subst (λ (l : Line). LineGives store (begun 0) l (Ok (begun n))) (sym e) refl, h), j)

pub answer_err : (store : Outside) (first : Numbered) (rest : List Numbered) (n : ℕ) (e : ExecErr) → first.line ≡ line.Ranks n → (let r : Result Planned ExecErr = Err e in IsPlanEnd r store (begun n) rest) → (let r : Result JobView ExecErr = Err e in IsProgramAnswer r store (first ∷ rest))
unfolding line_done
answer_err store first rest n (err.Bad m f) is h = record {
  before = first ∷ h.before;
  line = h.line;
  after = h.after;
  whole = ap (λ (ls : List Numbered). first ∷ ls) h.whole;
  state = h.state;
  reached = (begun n, subst (λ (l : Line). LineGives store (begun 0) l (Ok (begun n))) (sym is) refl, h.reached);
  number_is = h.number_is;
  refused = h.refused;
}
answer_err store first rest n (err.Load name c) is h = (
  record {
    before = first ∷ h.before;
    line = h.line;
    after = h.after;
    whole = ap (λ (ls : List Numbered). first ∷ ls) h.whole;
    array = h.unread.array;
    is = h.unread.is;
    state = h.state;
    reached = (begun n, subst (λ (l : Line). LineGives store (begun 0) l (Ok (begun n))) (sym is) refl, h.reached);
  },
  h.unread.why,
  h.unread.of_file,
)
answer_err store first rest n err.NoMemory is h = tt

-- planning exchanges moves no count
pub planned_cause : (X : Type 0) (a b : Outside) (d : Declared) (p q : PlanView RankOp) (state : GridState) (o : Result ProgramState (Refusal ExecFault)) (e : ExecErr) → IsPlanned (Err e) d p q state o → SameCounts a b → HasPlanCause (let r : Result X ExecErr = Err e in r) a b
planned_cause X a b d p q state o (err.Bad n f) h c = c
planned_cause X a b d p q state o (err.Load name e) h c = absurd h
planned_cause X a b d p q state o err.NoMemory h c = c

-- a list by its first element and the slice of the others
pub split_first : (xs : List Numbered) (x : Numbered) → 0 < length xs → x ≡ slice_index_or xs 0 x → x ∷ take (length xs - 1) (drop 1 xs) ≡ xs
split_first xs x lt is = ap (λ (ys : List Numbered). x ∷ ys) (rest_is xs 1) ∙ by_parts xs x lt is
  where
    by_parts : (xs : List Numbered) (x : Numbered) → 0 < length xs → x ≡ slice_index_or xs 0 x → x ∷ drop 1 xs ≡ xs
    by_parts [] x lt is = absurd (omega arith)
    by_parts (y ∷ ys) x lt is = ap (λ (z : Numbered). z ∷ ys) is
