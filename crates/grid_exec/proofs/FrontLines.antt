-- Lines at the front, one after the other.
use Rattle.std.proofs.Common.{◌≡◌, ℕ, zero, suc, ◌+◌, ◌<◌, ◌≤◌, true, false, List, [], ◌∷◌, ◌++◌, length, take, drop, Option, Some, None, Result, Ok, Err, refl, sym, ap, subst, ◌∙◌, inl, inr, arith}
use Rattle.std.specs.Prelude.{◌⊎◌, ℤ, IsTrue, slice_get, slice_index_or}
use Rattle.std.specs.List.{AllByRecursion}
use Rattle.store_io.specs.Outside.{Outside, SameCounts, Rose}
use Rattle.text_io.specs.Reading.{OnlyReads}
use Rattle.mm_text.specs.Loading.{Refuses, Because, matrix_of}
use Rattle.mm_text.specs.declared.matrix.LoadErr.{LoadErr}
use Rattle.mm_text.specs.declared.matrix.LoadErr.TheVariants as load
use Rattle.descriptor.specs.declared.spread.Spread.{Spread}
use Rattle.msg_core.specs.Plans.{PlanView}
use Rattle.pack_words.specs.declared.rank_op.RankOp.{RankOp}
use Rattle.grid_lang.specs.declared.line.Line.{Line}
use Rattle.grid_lang.specs.declared.line.Line.TheVariants as line
use Rattle.grid_lang.specs.declared.line.Numbered.{Numbered}
use Rattle.grid_lang.specs.Facts.{Known, Keeps, known_after}
use Rattle.array_contents.specs.declared.filling.Filling.{Filling}
use Rattle.array_contents.specs.Columns.{filling_of}
use Rattle.program_meaning.specs.declared.fault.ExecFault.{ExecFault}
use Rattle.program_meaning.specs.ProgramState.{ProgramState}
use Rattle.program_meaning.specs.Declarations.{filled}
use Rattle.program_meaning.specs.Programs.{line_done, no_loads}
use Rattle.program_meaning.specs.WithFiles.{LineGives, Reaches}
use Rattle.program_meaning.proofs.FileSteps.{in_turn}
use Rattle.line_plans.specs.declared.kind.Kind.{Kind}
use Rattle.line_plans.specs.declared.kind.Kind.TheVariants as kind
use Rattle.line_plans.specs.declared.declared.Declared.{Declared}
use Rattle.line_plans.specs.declared.halt.Halt.{Halt}
use Rattle.line_plans.specs.declared.halt.Halt.TheVariants.{Fault, NoMemory}
use Rattle.line_plans.specs.Kinds.{kind_of_line}
use Rattle.line_plans.specs.Known.{Stands, IsKnown}
use Rattle.line_plans.proofs.KnownLaws as known
use Rattle.grid_exec.specs.declared.err.ExecErr.{ExecErr}
use Rattle.grid_exec.specs.declared.err.ExecErr.TheVariants as err
use Rattle.grid_exec.specs.declared.held.Held.{Held}
use Rattle.grid_exec.specs.Sections.{IsFront, AreFront, IsLater, AreLater, MayDeclare}
use Rattle.grid_exec.proofs.LaterLines.{front_or_later, later_from, still_known, front_goes_on}
use Rattle.grid_exec.specs.Planning.{stop_of}
use Rattle.grid_exec.specs.Reading.{standing, IsHeld, IsUnread, IsLineFilled, RefusesFrom, UnreadFrom, IsFilled, HasPlanCause}
use Rattle.std.proofs.lemmas.List.{take-append-drop}
use Rattle.grid_exec.proofs.PlanSteps.{next_line}

-- ---- what a LOAD and a FILL line name

pub known_load : (d : Declared) (l : Line) (x : ℕ) (file : List ℕ) → l ≡ line.Load x file → IsKnown d l → (s : Spread) × (slice_get d.spreads.items x ≡ Some (Some s))
unfolding Keeps
known_load d l x file e h =
    let k : IsKnown d (line.Load x file) = subst (IsKnown d) e h in
    known.known_spread d k.0 x k.1 k.2

pub known_fill : (d : Declared) (l : Line) (y : ℕ) (a b c e : ℤ) → l ≡ line.Fill y a b c e → IsKnown d l → y < d.shapes.count
unfolding Keeps
known_fill d l y a b c e same h =
    let k : IsKnown d (line.Fill y a b c e) = subst (IsKnown d) same h in
    known.known_array d k.0 y k.1 k.2

-- ---- a line that needs no file

pub plain_gives : (store : Outside) (s : ProgramState) (l : Line) (r : Result ProgramState ExecFault) → (kind_of_line l ≡ kind.Words → ⊥) → line_done no_loads s l ≡ r → LineGives store s l r
plain_gives store s (line.Ranks n) r h e = e
plain_gives store s (line.Grid order nprow npcol) r h e = e
plain_gives store s (line.Map nprow npcol ranks) r h e = e
plain_gives store s (line.Array name g m n mb nb rsrc csrc lld) r h e = e
plain_gives store s (line.Matrix name lld cols) r h e = e
plain_gives store s (line.Load x file) r h e = absurd (h refl)
plain_gives store s (line.Fill y a b c d) r h e = absurd (h refl)
plain_gives store s (line.Send g p q area rdest cdest tri) r h e = e
plain_gives store s (line.Recv g p q area rsrc csrc tri) r h e = e
plain_gives store s (line.Bcast g scope top rsrc csrc area tri) r h e = e
plain_gives store s (line.Sum g scope top dest area) r h e = e
plain_gives store s (line.Amx g scope top dest area rc) r h e = e
plain_gives store s (line.Amn g scope top dest area rc) r h e = e
plain_gives store s (line.Barrier g scope) r h e = e
plain_gives store s (line.Gemr2d mr) r h e = e
plain_gives store s (line.Trmr2d uplo diag mr) r h e = e
plain_gives store s (line.Save x file) r h e = e
plain_gives store s (line.SavePieces x prefix) r h e = e
plain_gives store s (line.PrintArray x) r h e = e
plain_gives store s (line.PrintMatrix v rank) r h e = e

not_words : (x : Kind) → x ≡ kind.Declaration → x ≡ kind.Words → ⊥
not_words x e f = absurd (let k : (let y : Kind = kind.Declaration in y) ≡ kind.Words = sym e ∙ f in cc)

pub declared_filled : (store : Outside) (l : Numbered) (p : PlanView RankOp) (s : ProgramState) (h : Held) → kind_of_line l.line ≡ kind.Declaration → IsHeld (Ok h) p (line_done no_loads s l.line) → IsLineFilled (Ok h) store l p s
declared_filled store l p s h k held = plain_gives store s l.line (Ok (standing h p)) (not_words (kind_of_line l.line) k) (step (line_done no_loads s l.line) refl held)
  where
    step : (r : Result ProgramState ExecFault) → line_done no_loads s l.line ≡ r → IsHeld (Ok h) p r → line_done no_loads s l.line ≡ Ok (standing h p)
    step (Ok t) e x = e ∙ ap (λ (y : ProgramState). let q : Result ProgramState ExecFault = Ok y in q) x
    step (Err f) e x = absurd x

pub declared_stopped : (store : Outside) (l : Numbered) (p : PlanView RankOp) (s : ProgramState) (halt : Halt) (e : ExecErr) → kind_of_line l.line ≡ kind.Declaration → IsHeld (Err halt) p (line_done no_loads s l.line) → e ≡ stop_of l.number halt → IsLineFilled (Err e) store l p s
declared_stopped store l p s halt e k held is = subst (λ (x : ExecErr). IsLineFilled (Err x) store l p s) (sym is) (by_halt halt held)
  where
    step : (f : ExecFault) (r : Result ProgramState ExecFault) → line_done no_loads s l.line ≡ r → IsHeld (Err (Fault f)) p r → line_done no_loads s l.line ≡ Err f
    step f (Ok t) at x = absurd x
    step f (Err g) at x = at ∙ ap (λ (y : ExecFault). let q : Result ProgramState ExecFault = Err y in q) (sym x)

    by_halt : (x : Halt) → IsHeld (Err x) p (line_done no_loads s l.line) → IsLineFilled (Err (stop_of l.number x)) store l p s
    by_halt (Fault f) h = (refl, plain_gives store s l.line (Err f) (not_words (kind_of_line l.line) k) (step f (line_done no_loads s l.line) refl h))
    by_halt NoMemory h = tt

-- the same of a line that is known
pub load_line_filled : (r : Result Held ExecErr) (store : Outside) (l : Numbered) (x : ℕ) (file : List ℕ) (p : PlanView RankOp) (s : ProgramState) → l.line ≡ line.Load x file
    → IsLineFilled r store (record { number = l.number; line = line.Load x file }) p s → IsLineFilled r store l p s
load_line_filled r store l x file p s e h = subst (λ (y : Line). IsLineFilled r store (record { number = l.number; line = y }) p s) (sym e) h

pub fill_line_filled : (store : Outside) (l : Numbered) (y : ℕ) (a b c d : ℤ) (f : Filling) (p : PlanView RankOp) (before after : Held) → l.line ≡ line.Fill y a b c d → f ≡ record { a = a; b = b; c = c; d = d } → standing after p ≡ filled (filling_of f) y (slice_get before.declared.spreads.items y) (standing before p)
    → IsLineFilled (Ok after) store l p (standing before p)
unfolding line_done
fill_line_filled store l y a b c d f p before after e is same =
    let so : standing after p ≡ filled (record { a = a; b = b; c = c; d = d }) y (slice_get before.declared.spreads.items y) (standing before p) = same ∙ ap (λ (x : Filling). filled (filling_of x) y (slice_get before.declared.spreads.items y) (standing before p)) is in
    subst (λ (z : Line). LineGives store (standing before p) z (Ok (standing after p))) (sym e) (ap (λ (t : ProgramState). let q : Result ProgramState ExecFault = Ok t in q) (sym so))

-- a line at the front that is no declaration sets words
pub is_words : (l : Line) (k : Kind) → k ≡ kind_of_line l → (k ≡ kind.Declaration → ⊥) → IsFront l → kind_of_line l ≡ kind.Words
is_words l k is other (inl e) = absurd (other (is ∙ e))
is_words l k is other (inr e) = e

pub reads_nothing : (o : Outside) → OnlyReads o o
reads_nothing o = record { told = refl; files = refl; writing = refl; output = refl; opens = refl }

-- ---- the way

pub reads_both : (a b c : Outside) → OnlyReads a b → OnlyReads b c → OnlyReads a c
reads_both a b c h k = record { told = k.told ∙ h.told; files = k.files ∙ h.files; writing = k.writing ∙ h.writing; output = k.output ∙ h.output; opens = k.opens ∙ h.opens }

pub same_counts : (o : Outside) → SameCounts o o
same_counts o = record { faults = refl; misses = refl }

pub counts_both : (a b c : Outside) → SameCounts a b → SameCounts b c → SameCounts a c
counts_both a b c h k = record { faults = k.faults ∙ h.faults; misses = k.misses ∙ h.misses }

because_before : (e : LoadErr) (a b c : Outside) → SameCounts a b → Because e b c → Because e a c
because_before load.Missing a b c h k = record { misses = subst (λ n. Rose n c.misses) h.misses k.misses; faults = k.faults ∙ h.faults }
because_before load.Failed a b c h k = record { faults = subst (λ n. Rose n c.faults) h.faults k.faults; misses = k.misses ∙ h.misses }
because_before (load.Mm e) a b c h k = counts_both a b c h k
because_before load.NoMemory a b c h k = counts_both a b c h k

pub cause_after : (e : ExecErr) (a b c : Outside) → SameCounts a b → HasPlanCause (let r : Result Held ExecErr = Err e in r) b c → HasPlanCause (let r : Result (Held × ℕ) ExecErr = Err e in r) a c
cause_after (err.Bad n f) a b c h k = counts_both a b c h k
cause_after (err.Load name e) a b c h k = because_before e a b c h k
cause_after err.NoMemory a b c h k = counts_both a b c h k

-- one line more is done
take_suc : (lines : List Numbered) (k : ℕ) (l : Numbered) → l ≡ slice_index_or lines k l → k < length lines → take (suc k) lines ≡ take k lines ++ l ∷ []
take_suc [] k l is lt = absurd (omega arith)
take_suc (x ∷ xs) zero l is lt = ap (λ (y : Numbered). y ∷ []) (sym is)
take_suc (x ∷ xs) (suc k) l is lt = ap (λ (ys : List Numbered). x ∷ ys) (take_suc xs k l is (omega arith))

take_next : (lines : List Numbered) (k : ℕ) (l : Numbered) → l ≡ slice_index_or lines k l → k < length lines → take (k + 1) lines ≡ take k lines ++ l ∷ []
take_next lines k l is lt = let e : suc k ≡ k + 1 = omega arith in subst (λ n. take n lines ≡ take k lines ++ l ∷ []) e (take_suc lines k l is lt)

pub reached_next : (store : Outside) (from s t : ProgramState) (lines : List Numbered) (k : ℕ) (l : Numbered) → l ≡ slice_index_or lines k l → k < length lines → Reaches store from (take k lines) s → LineGives store s l.line (Ok t) → Reaches store from (take (k + 1) lines) t
reached_next store from s t lines k l is lt h g =
    subst (λ (ls : List Numbered). Reaches store from ls t) (sym (take_next lines k l is lt)) (in_turn store from s t (take k lines) (l ∷ []) h (t, g, refl))

all_appended : (xs : List Numbered) (l : Numbered) → AreFront xs → IsFront l.line → AreFront (xs ++ l ∷ [])
all_appended [] l h f = (f, tt)
all_appended (x ∷ xs) l h f = (h.0, all_appended xs l h.1 f)

pub front_next : (lines : List Numbered) (k : ℕ) (l : Numbered) → l ≡ slice_index_or lines k l → k < length lines → AreFront (take k lines) → IsFront l.line → AreFront (take (k + 1) lines)
front_next lines k l is lt h f = subst AreFront (sym (take_next lines k l is lt)) (all_appended (take k lines) l h f)

parts : (lines : List Numbered) (k : ℕ) → lines ≡ take k lines ++ drop k lines
parts lines k = sym (take-append-drop k lines)

split_at : (lines : List Numbered) (k : ℕ) (l : Numbered) → l ≡ slice_index_or lines k l → k < length lines → lines ≡ take k lines ++ l ∷ drop (k + 1) lines
split_at lines k l is lt = parts lines k ∙ ap (λ (ys : List Numbered). take k lines ++ ys) (next_line lines k l is lt)

pub filled_stopped : (store : Outside) (from s : ProgramState) (p : PlanView RankOp) (lines : List Numbered) (k : ℕ) (l : Numbered) (e : ExecErr) → l ≡ slice_index_or lines k l → k < length lines → Reaches store from (take k lines) s → IsLineFilled (Err e) store l p s → IsFilled (Err e) store p from lines
filled_stopped store from s p lines k l (err.Bad n f) is lt h g = record { before = take k lines; line = l; after = drop (k + 1) lines; whole = split_at lines k l is lt; state = s; reached = h; number_is = g.0; refused = g.1 }
filled_stopped store from s p lines k l (err.Load name e) is lt h g = record { before = take k lines; line = l; after = drop (k + 1) lines; whole = split_at lines k l is lt; state = s; reached = h; unread = g }
filled_stopped store from s p lines k l err.NoMemory is lt h g = tt

pub known_now : (d : Declared) (lines : List Numbered) (k : ℕ) (l : Numbered) → l ≡ slice_index_or lines k l → k < length lines → MayDeclare d (drop k lines) → MayDeclare d (l ∷ drop (k + 1) lines)
known_now d lines k l is lt h = subst (λ (ls : List Numbered). MayDeclare d ls) (next_line lines k l is lt) h

pub is_front : (d : Declared) (lines : List Numbered) (k : ℕ) (l : Numbered) → l ≡ slice_index_or lines k l → k < length lines → MayDeclare d (drop k lines) → (IsLater l.line → ⊥) → IsFront l.line
is_front d lines k l is lt h never = pick (front_or_later d l (drop (k + 1) lines) (known_now d lines k l is lt h))
  where
    pick : IsFront l.line ⊎ IsLater l.line → IsFront l.line
    pick (inl f) = f
    pick (inr y) = absurd (never y)

pub later_now : (d : Declared) (lines : List Numbered) (k : ℕ) (l : Numbered) → l ≡ slice_index_or lines k l → k < length lines → MayDeclare d (drop k lines) → IsLater l.line → AreLater (drop k lines)
later_now d lines k l is lt h later = subst AreLater (sym (next_line lines k l is lt)) (later_from d l (drop (k + 1) lines) (still_known d (l ∷ drop (k + 1) lines) (known_now d lines k l is lt h)) later)

pub declares_on : (d e : Declared) (lines : List Numbered) (k : ℕ) (l : Numbered) → l ≡ slice_index_or lines k l → k < length lines → MayDeclare d (drop k lines) → IsFront l.line → ((known : Known) → Stands d known → Stands e (known_after known l.line)) → MayDeclare e (drop (k + 1) lines)
declares_on d e lines k l is lt h front stands =
    let w = known_now d lines k l is lt h in
    front_goes_on d e l (drop (k + 1) lines) w front (stands w.0 w.1)
