-- Exchanges and results after the declarations.
use Rattle.std.proofs.Common.{◌≡◌, ℕ, Bool, true, false, List, [], ◌∷◌, Result, Ok, Err, refl, sym, ap, subst, ◌∙◌, inl, inr, append-nil, ◌++◌}
use Rattle.std.specs.Prelude.{◌⊎◌, length, map, is_some, Option}
use Rattle.descriptor.specs.declared.spread.Spread.{Spread}
use Rattle.std.specs.List.{AllByRecursion}
use Rattle.msg_core.specs.Plans.{PlanView}
use Rattle.pack_words.specs.declared.rank_op.RankOp.{RankOp}
use Rattle.pack_words.specs.GridState.{GridState}
use Rattle.pack_words.specs.GridShapes.{ShapesView}
use Rattle.pack_words.specs.GridPlans.{IsOf, Appends}
use Rattle.proc_grid.specs.declared.scope.Scope.TheVariants.{All}
use Rattle.grid_lang.specs.declared.line.Line.{Line}
use Rattle.grid_lang.specs.declared.line.Line.TheVariants as line
use Rattle.grid_lang.specs.declared.line.Numbered.{Numbered}
use Rattle.grid_lang.specs.Parts.{may_stand, reached_by}
use Rattle.grid_lang.specs.ProgramParts.{part_of_line}
use Rattle.grid_lang.specs.Facts.{Known, nothing_known, declared_after, known_after, AreSound}
use Rattle.program_meaning.specs.declared.fault.ExecFault.{ExecFault}
use Rattle.program_meaning.specs.ProgramState.{ProgramState}
use Rattle.program_meaning.specs.Programs.{line_done, no_loads}
use Rattle.line_plans.specs.declared.kind.Kind.{Kind}
use Rattle.line_plans.specs.declared.kind.Kind.TheVariants as kind
use Rattle.line_plans.specs.declared.declared.Declared.{Declared}
use Rattle.line_plans.specs.Kinds.{kind_of_line}
use Rattle.line_plans.specs.Known.{Stands, IsKnown}
use Rattle.line_plans.specs.Standing.{state_of, IsExchanged, Carries, IsBegun}
use Rattle.grid_exec.specs.Sections.{IsFront, IsLater, AreLater, AreKnown, MayDeclare, IsAfterRanks}

-- ---- by the kinds of lines

not_later : (x : Kind) → (x ≡ kind.Exchange → ⊥) → (x ≡ kind.Outcome → ⊥) → (x ≡ kind.Exchange) ⊎ (x ≡ kind.Outcome) → ⊥
not_later x a b (inl e) = a e
not_later x a b (inr e) = b e

pub not_front : (x : Kind) → (x ≡ kind.Declaration → ⊥) → (x ≡ kind.Words → ⊥) → (x ≡ kind.Declaration) ⊎ (x ≡ kind.Words) → ⊥
not_front x a b (inl e) = a e
not_front x a b (inr e) = b e

-- a result changes nothing
same_after : (s : ProgramState) (l : Line) → kind_of_line l ≡ kind.Outcome → line_done no_loads s l ≡ Ok s
unfolding line_done
same_after s (line.Ranks n) e = absurd cc
same_after s (line.Grid order nprow npcol) e = absurd cc
same_after s (line.Map nprow npcol ranks) e = absurd cc
same_after s (line.Array name g m n mb nb rsrc csrc lld) e = absurd cc
same_after s (line.Matrix name lld cols) e = absurd cc
same_after s (line.Load x file) e = absurd cc
same_after s (line.Fill y a b c d) e = absurd cc
same_after s (line.Send g p q area rdest cdest tri) e = absurd cc
same_after s (line.Recv g p q area rsrc csrc tri) e = absurd cc
same_after s (line.Bcast g scope top rsrc csrc area tri) e = absurd cc
same_after s (line.Sum g scope top dest area) e = absurd cc
same_after s (line.Amx g scope top dest area rc) e = absurd cc
same_after s (line.Amn g scope top dest area rc) e = absurd cc
same_after s (line.Barrier g scope) e = absurd cc
same_after s (line.Gemr2d mr) e = absurd cc
same_after s (line.Trmr2d uplo diag mr) e = absurd cc
same_after s (line.Save x file) e = refl
same_after s (line.SavePieces x prefix) e = refl
same_after s (line.PrintArray x) e = refl
same_after s (line.PrintMatrix v rank) e = refl

-- a line that is later declares nothing
nothing_declared : (k : Known) (l : Line) → IsLater l → declared_after k l ≡ k
unfolding declared_after
nothing_declared k (line.Ranks n) h = absurd (not_later _ (λ e. absurd cc) (λ e. absurd cc) h)
nothing_declared k (line.Grid order nprow npcol) h = absurd (not_later _ (λ e. absurd cc) (λ e. absurd cc) h)
nothing_declared k (line.Map nprow npcol ranks) h = absurd (not_later _ (λ e. absurd cc) (λ e. absurd cc) h)
nothing_declared k (line.Array name g m n mb nb rsrc csrc lld) h = absurd (not_later _ (λ e. absurd cc) (λ e. absurd cc) h)
nothing_declared k (line.Matrix name lld cols) h = absurd (not_later _ (λ e. absurd cc) (λ e. absurd cc) h)
nothing_declared k (line.Load x file) h = absurd (not_later _ (λ e. absurd cc) (λ e. absurd cc) h)
nothing_declared k (line.Fill y a b c d) h = absurd (not_later _ (λ e. absurd cc) (λ e. absurd cc) h)
nothing_declared k (line.Send g p q area rdest cdest tri) h = refl
nothing_declared k (line.Recv g p q area rsrc csrc tri) h = refl
nothing_declared k (line.Bcast g scope top rsrc csrc area tri) h = refl
nothing_declared k (line.Sum g scope top dest area) h = refl
nothing_declared k (line.Amx g scope top dest area rc) h = refl
nothing_declared k (line.Amn g scope top dest area rc) h = refl
nothing_declared k (line.Barrier g scope) h = refl
nothing_declared k (line.Gemr2d mr) h = refl
nothing_declared k (line.Trmr2d uplo diag mr) h = refl
nothing_declared k (line.Save x file) h = refl
nothing_declared k (line.SavePieces x prefix) h = refl
nothing_declared k (line.PrintArray x) h = refl
nothing_declared k (line.PrintMatrix v rank) h = refl

-- ---- a result as a line of the plan

pub no_operations : (v : ShapesView) (p : PlanView RankOp) (state : GridState) → Carries v p p state state
no_operations v p state = record {
  does = λ s. s;
  appends = record {
    added = [];
    ranks_are = refl;
    steps_are = sym (append-nil p.steps);
    means = record { means = λ w s shows allowed room. (tt, shows) };
  };
  gives = refl;
}

pub outcome_done : (d : Declared) (p : PlanView RankOp) (l : Line) (k : Kind) → k ≡ kind_of_line l → (k ≡ kind.Exchange → ⊥) → IsLater l → (state : GridState) → IsOf d.shapes p state → IsExchanged (Ok tt) d p p state (line_done no_loads (state_of d p state) l)
outcome_done d p l k is other (inl e) state of = absurd (other (is ∙ e))
outcome_done d p l k is other (inr e) state of =
    subst (λ (r : Result ProgramState ExecFault). IsExchanged (Ok tt) d p p state r) (sym (same_after (state_of d p state) l e)) (record { state_is = refl; of_plan = of }, no_operations d.shapes p state)

-- ---- what is known of later lines

stands_on : (d : Declared) (k : Known) (l : Line) → Stands d k → IsLater l → Stands d (known_after k l)
stands_on d k l h later =
    let same = nothing_declared k l later in
    record {
      ranks = ap (λ (x : Known). x.ranks) same ∙ h.ranks;
      grids = ap (λ (x : Known). x.grids) same ∙ h.grids;
      arrays = ap (λ (x : Known). x.arrays) same ∙ h.arrays;
    }

pub first_known : (d : Declared) (l : Numbered) (more : List Numbered) → AreKnown d (l ∷ more) → IsKnown d l.line
first_known d l more h = (h.0, h.1, h.2.1)

pub rest_known : (d : Declared) (l : Numbered) (more : List Numbered) → AreKnown d (l ∷ more) → IsLater l.line → AreKnown d more
rest_known d l more h later = (known_after h.0 l.line, stands_on d h.0 l.line h.1 later, h.2.2)

-- ---- the lines after the declarations

-- a line of each part
declaring : Line
declaring = line.Load 0 []

exchanging : Line
exchanging = line.Barrier 0 All

resulting : Line
resulting = line.PrintArray 0

-- after an exchange, and after a result, a line is later
after_exchange : (l : Line) → may_stand (part_of_line exchanging) (part_of_line l) ≡ true → IsLater l
unfolding exchanging
after_exchange (line.Ranks n) may = absurd cc
after_exchange (line.Grid order nprow npcol) may = absurd cc
after_exchange (line.Map nprow npcol ranks) may = absurd cc
after_exchange (line.Array name g m n mb nb rsrc csrc lld) may = absurd cc
after_exchange (line.Matrix name lld cols) may = absurd cc
after_exchange (line.Load x file) may = absurd cc
after_exchange (line.Fill y a b c d) may = absurd cc
after_exchange (line.Send g p q area rdest cdest tri) may = inl refl
after_exchange (line.Recv g p q area rsrc csrc tri) may = inl refl
after_exchange (line.Bcast g scope top rsrc csrc area tri) may = inl refl
after_exchange (line.Sum g scope top dest area) may = inl refl
after_exchange (line.Amx g scope top dest area rc) may = inl refl
after_exchange (line.Amn g scope top dest area rc) may = inl refl
after_exchange (line.Barrier g scope) may = inl refl
after_exchange (line.Gemr2d mr) may = inl refl
after_exchange (line.Trmr2d uplo diag mr) may = inl refl
after_exchange (line.Save x file) may = inr refl
after_exchange (line.SavePieces x prefix) may = inr refl
after_exchange (line.PrintArray x) may = inr refl
after_exchange (line.PrintMatrix v rank) may = inr refl

after_result : (l : Line) → may_stand (part_of_line resulting) (part_of_line l) ≡ true → IsLater l
unfolding resulting
after_result (line.Ranks n) may = absurd cc
after_result (line.Grid order nprow npcol) may = absurd cc
after_result (line.Map nprow npcol ranks) may = absurd cc
after_result (line.Array name g m n mb nb rsrc csrc lld) may = absurd cc
after_result (line.Matrix name lld cols) may = absurd cc
after_result (line.Load x file) may = absurd cc
after_result (line.Fill y a b c d) may = absurd cc
after_result (line.Send g p q area rdest cdest tri) may = absurd cc
after_result (line.Recv g p q area rsrc csrc tri) may = absurd cc
after_result (line.Bcast g scope top rsrc csrc area tri) may = absurd cc
after_result (line.Sum g scope top dest area) may = absurd cc
after_result (line.Amx g scope top dest area rc) may = absurd cc
after_result (line.Amn g scope top dest area rc) may = absurd cc
after_result (line.Barrier g scope) may = absurd cc
after_result (line.Gemr2d mr) may = absurd cc
after_result (line.Trmr2d uplo diag mr) may = absurd cc
after_result (line.Save x file) may = inr refl
after_result (line.SavePieces x prefix) may = inr refl
after_result (line.PrintArray x) may = inr refl
after_result (line.PrintMatrix v rank) may = inr refl

later_reached : (l : Line) → IsLater l → (reached_by (part_of_line l) ≡ part_of_line exchanging) ⊎ (reached_by (part_of_line l) ≡ part_of_line resulting)
unfolding exchanging resulting
later_reached (line.Ranks n) h = absurd (not_later _ (λ e. absurd cc) (λ e. absurd cc) h)
later_reached (line.Grid order nprow npcol) h = absurd (not_later _ (λ e. absurd cc) (λ e. absurd cc) h)
later_reached (line.Map nprow npcol ranks) h = absurd (not_later _ (λ e. absurd cc) (λ e. absurd cc) h)
later_reached (line.Array name g m n mb nb rsrc csrc lld) h = absurd (not_later _ (λ e. absurd cc) (λ e. absurd cc) h)
later_reached (line.Matrix name lld cols) h = absurd (not_later _ (λ e. absurd cc) (λ e. absurd cc) h)
later_reached (line.Load x file) h = absurd (not_later _ (λ e. absurd cc) (λ e. absurd cc) h)
later_reached (line.Fill y a b c d) h = absurd (not_later _ (λ e. absurd cc) (λ e. absurd cc) h)
later_reached (line.Send g p q area rdest cdest tri) h = inl refl
later_reached (line.Recv g p q area rsrc csrc tri) h = inl refl
later_reached (line.Bcast g scope top rsrc csrc area tri) h = inl refl
later_reached (line.Sum g scope top dest area) h = inl refl
later_reached (line.Amx g scope top dest area rc) h = inl refl
later_reached (line.Amn g scope top dest area rc) h = inl refl
later_reached (line.Barrier g scope) h = inl refl
later_reached (line.Gemr2d mr) h = inl refl
later_reached (line.Trmr2d uplo diag mr) h = inl refl
later_reached (line.Save x file) h = inr refl
later_reached (line.SavePieces x prefix) h = inr refl
later_reached (line.PrintArray x) h = inr refl
later_reached (line.PrintMatrix v rank) h = inr refl

all_later : (k : Known) (lines : List Numbered) → AreSound k lines → (k.reached ≡ part_of_line exchanging) ⊎ (k.reached ≡ part_of_line resulting) → AreLater lines
all_later k [] h r = tt
all_later k (l ∷ more) h r =
    let later = step r in
    (later, all_later (known_after k l.line) more h.2 (later_reached l.line later))
  where
    step : (k.reached ≡ part_of_line exchanging) ⊎ (k.reached ≡ part_of_line resulting) → IsLater l.line
    step (inl e) = after_exchange l.line (ap (λ p. may_stand p (part_of_line l.line)) (sym e) ∙ h.0)
    step (inr e) = after_result l.line (ap (λ p. may_stand p (part_of_line l.line)) (sym e) ∙ h.0)

-- from the first later line on, all are
pub later_from : (d : Declared) (l : Numbered) (more : List Numbered) → AreKnown d (l ∷ more) → IsLater l.line → AreLater (l ∷ more)
later_from d l more h later = (later, all_later (known_after h.0 l.line) more h.2.2 (later_reached l.line later))

-- where declarations may still come, a line is at the front or later
after_declaration : (l : Line) → may_stand (part_of_line declaring) (part_of_line l) ≡ true → IsFront l ⊎ IsLater l
unfolding declaring
after_declaration (line.Ranks n) may = absurd cc
after_declaration (line.Grid order nprow npcol) may = inl (inl refl)
after_declaration (line.Map nprow npcol ranks) may = inl (inl refl)
after_declaration (line.Array name g m n mb nb rsrc csrc lld) may = inl (inl refl)
after_declaration (line.Matrix name lld cols) may = inl (inl refl)
after_declaration (line.Load x file) may = inl (inr refl)
after_declaration (line.Fill y a b c d) may = inl (inr refl)
after_declaration (line.Send g p q area rdest cdest tri) may = inr (inl refl)
after_declaration (line.Recv g p q area rsrc csrc tri) may = inr (inl refl)
after_declaration (line.Bcast g scope top rsrc csrc area tri) may = inr (inl refl)
after_declaration (line.Sum g scope top dest area) may = inr (inl refl)
after_declaration (line.Amx g scope top dest area rc) may = inr (inl refl)
after_declaration (line.Amn g scope top dest area rc) may = inr (inl refl)
after_declaration (line.Barrier g scope) may = inr (inl refl)
after_declaration (line.Gemr2d mr) may = inr (inl refl)
after_declaration (line.Trmr2d uplo diag mr) may = inr (inl refl)
after_declaration (line.Save x file) may = inr (inr refl)
after_declaration (line.SavePieces x prefix) may = inr (inr refl)
after_declaration (line.PrintArray x) may = inr (inr refl)
after_declaration (line.PrintMatrix v rank) may = inr (inr refl)

pub front_or_later : (d : Declared) (l : Numbered) (more : List Numbered) → MayDeclare d (l ∷ more) → IsFront l.line ⊎ IsLater l.line
unfolding declaring
front_or_later d l more h = after_declaration l.line (ap (λ p. may_stand p (part_of_line l.line)) (sym h.2) ∙ h.3.0)

front_reached : (l : Line) → IsFront l → reached_by (part_of_line l) ≡ part_of_line declaring
unfolding declaring
front_reached (line.Ranks n) h = absurd (not_front _ (λ e. absurd cc) (λ e. absurd cc) h)
front_reached (line.Grid order nprow npcol) h = refl
front_reached (line.Map nprow npcol ranks) h = refl
front_reached (line.Array name g m n mb nb rsrc csrc lld) h = refl
front_reached (line.Matrix name lld cols) h = refl
front_reached (line.Load x file) h = refl
front_reached (line.Fill y a b c d) h = refl
front_reached (line.Send g p q area rdest cdest tri) h = absurd (not_front _ (λ e. absurd cc) (λ e. absurd cc) h)
front_reached (line.Recv g p q area rsrc csrc tri) h = absurd (not_front _ (λ e. absurd cc) (λ e. absurd cc) h)
front_reached (line.Bcast g scope top rsrc csrc area tri) h = absurd (not_front _ (λ e. absurd cc) (λ e. absurd cc) h)
front_reached (line.Sum g scope top dest area) h = absurd (not_front _ (λ e. absurd cc) (λ e. absurd cc) h)
front_reached (line.Amx g scope top dest area rc) h = absurd (not_front _ (λ e. absurd cc) (λ e. absurd cc) h)
front_reached (line.Amn g scope top dest area rc) h = absurd (not_front _ (λ e. absurd cc) (λ e. absurd cc) h)
front_reached (line.Barrier g scope) h = absurd (not_front _ (λ e. absurd cc) (λ e. absurd cc) h)
front_reached (line.Gemr2d mr) h = absurd (not_front _ (λ e. absurd cc) (λ e. absurd cc) h)
front_reached (line.Trmr2d uplo diag mr) h = absurd (not_front _ (λ e. absurd cc) (λ e. absurd cc) h)
front_reached (line.Save x file) h = absurd (not_front _ (λ e. absurd cc) (λ e. absurd cc) h)
front_reached (line.SavePieces x prefix) h = absurd (not_front _ (λ e. absurd cc) (λ e. absurd cc) h)
front_reached (line.PrintArray x) h = absurd (not_front _ (λ e. absurd cc) (λ e. absurd cc) h)
front_reached (line.PrintMatrix v rank) h = absurd (not_front _ (λ e. absurd cc) (λ e. absurd cc) h)

-- after a line at the front declarations may still come
pub front_goes_on : (d e : Declared) (l : Numbered) (more : List Numbered) → (h : MayDeclare d (l ∷ more)) → IsFront l.line → Stands e (known_after h.0 l.line) → MayDeclare e more
unfolding declaring
front_goes_on d e l more h front stands = (known_after h.0 l.line, stands, front_reached l.line front, h.3.2)

pub still_known : (d : Declared) (lines : List Numbered) → MayDeclare d lines → AreKnown d lines
still_known d lines h = (h.0, h.1, h.3)

-- lines that declare nothing
pub words_stand : (before : Declared) (held : Known) (l : Line) → kind_of_line l ≡ kind.Words → Stands before held → Stands before (known_after held l)
unfolding declared_after
words_stand before held (line.Ranks n) e h = absurd cc
words_stand before held (line.Grid order nprow npcol) e h = absurd cc
words_stand before held (line.Map nprow npcol ranks) e h = absurd cc
words_stand before held (line.Array name g m n mb nb rsrc csrc lld) e h = absurd cc
words_stand before held (line.Matrix name lld cols) e h = absurd cc
words_stand before held (line.Load x file) e h = record { ranks = h.ranks; grids = h.grids; arrays = h.arrays }
words_stand before held (line.Fill y a b c d) e h = record { ranks = h.ranks; grids = h.grids; arrays = h.arrays }
words_stand before held (line.Send g p q area rdest cdest tri) e h = absurd cc
words_stand before held (line.Recv g p q area rsrc csrc tri) e h = absurd cc
words_stand before held (line.Bcast g scope top rsrc csrc area tri) e h = absurd cc
words_stand before held (line.Sum g scope top dest area) e h = absurd cc
words_stand before held (line.Amx g scope top dest area rc) e h = absurd cc
words_stand before held (line.Amn g scope top dest area rc) e h = absurd cc
words_stand before held (line.Barrier g scope) e h = absurd cc
words_stand before held (line.Gemr2d mr) e h = absurd cc
words_stand before held (line.Trmr2d uplo diag mr) e h = absurd cc
words_stand before held (line.Save x file) e h = absurd cc
words_stand before held (line.SavePieces x prefix) e h = absurd cc
words_stand before held (line.PrintArray x) e h = absurd cc
words_stand before held (line.PrintMatrix v rank) e h = absurd cc

-- after RANKS nothing is declared yet
pub may_begin : (d : Declared) (n : ℕ) (lines : List Numbered) → IsBegun d n → IsAfterRanks n lines → MayDeclare d lines
unfolding declared_after
may_begin d n lines h sound = (
  known_after nothing_known (line.Ranks n),
  record {
    ranks = sym (ap (λ (v : ShapesView). v.ranks) h.shapes);
    grids = sym (ap length h.contexts);
    arrays = sym (ap (λ (xs : List (Option Spread)). map is_some xs) h.spreads);
  },
  refl,
  sound,
)
