-- The laws of lines done one after the other.
use Rattle.std.proofs.Common.{◌≡◌, ℕ, ◌+◌, ◌^◌, ◌≤◌, nat_lt, ◌==◌, ◌||◌, length, replicate, Bool, true, false, List, [], ◌∷◌, ◌++◌, Option, Some, None, Result, Ok, Err, refl, sym, ap, subst, ◌∙◌, arith, pos, slice_get}
use Rattle.line_text.specs.Formats.{Refusal, refused_at, and_then}
use Rattle.line_text.specs.FaultTables.{when, first_fault, unless_fault}
use Rattle.grid_lang.specs.declared.line.Line.{Line}
use Rattle.grid_lang.specs.declared.line.Line.TheVariants.{Ranks, Grid, Map, Array, Matrix, Load, Fill, Send, Recv, Bcast, Sum, Amx, Amn, Barrier, Gemr2d, Trmr2d, Save, SavePieces, PrintArray, PrintMatrix}
use Rattle.grid_lang.specs.declared.line.Numbered.{Numbered}
use Rattle.descriptor.specs.declared.spread.Spread.{Spread}
use Rattle.mm_grammar.specs.Matrix.{Matrix as Cells}
use Rattle.std.specs.Option.{option_map}
use Rattle.proc_grid.specs.FirstOf.{first_of}
use Rattle.proc_grid.specs.Grid.{Grid as ProcessGrid}
use Rattle.proc_grid.specs.declared.grid_err.GridErr.TheVariants.{BadLead}
use Rattle.pack_words.specs.declared.fold_kind.FoldKind.TheVariants as fold
use Rattle.program_meaning.specs.declared.fault.ExecFault.{ExecFault}
use Rattle.program_meaning.specs.declared.fault.ExecFault.TheVariants as fault
use Rattle.program_meaning.specs.ProgramState.{ProgramState, begun, grid_at}
use Rattle.program_meaning.specs.Filling.{Filling}
use Rattle.program_meaning.specs.Declarations.{Loads, words_in, with_array, array_unless, ArrayWords, spread_of, process_info, sizes_over, array_line, filled, load_line}
use Rattle.program_meaning.specs.Exchanges.{Exchange, exchange_done, exchanged, shape_in, part_in, send_exchange, receive_exchange, broadcast_exchange, combine_exchange, barrier_exchange, general_move, trapezoid_move}
use Rattle.program_meaning.specs.Programs.{line_done, lines_done}
use Rattle.program_meaning.specs.Laws.{AreDoneInTurn, IsFirstRefused, AreRefusedFirst, AreRefusedThere, AreFewWords}

pub in_turn : AreDoneInTurn
in_turn loads s [] ys = refl
in_turn loads s (x ∷ xs) ys =
    let step : (r : Result ProgramState (Refusal ExecFault)) → and_then r (λ next. lines_done loads next (xs ++ ys)) ≡ and_then (and_then r (λ next. lines_done loads next xs)) (λ t. lines_done loads t ys)
    = λ r. elim r as (λ q. and_then q (λ next. lines_done loads next (xs ++ ys)) ≡ and_then (and_then q (λ next. lines_done loads next xs)) (λ t. lines_done loads t ys))
    [ Ok a ↦ in_turn loads a xs ys | Err e ↦ refl ] in
    step (refused_at x.number (line_done loads s x.line))

first_of_line : (loads : Loads) (s : ProgramState) (x : Numbered) (xs : List Numbered) (refusal : Refusal ExecFault)
    → ((t : ProgramState) → lines_done loads t xs ≡ Err refusal → IsFirstRefused loads t xs refusal)
    → (r : Result ProgramState ExecFault) → line_done loads s x.line ≡ r → and_then (refused_at x.number r) (λ next. lines_done loads next xs) ≡ Err refusal → IsFirstRefused loads s (x ∷ xs) refusal
first_of_line loads s x xs refusal more (Ok t) is e =
    let rest = more t e in
    record {
      before = x ∷ rest.before;
      line = rest.line;
      after = rest.after;
      whole = ap (λ (ys : List Numbered). x ∷ ys) rest.whole;
      state = rest.state;
      reached = ap (λ (r : Result ProgramState ExecFault). and_then (refused_at x.number r) (λ next. lines_done loads next rest.before)) is ∙ rest.reached;
      number = rest.number;
      refused = rest.refused;
    }
first_of_line loads s x xs refusal more (Err fault) is e =
    let same : (let r : Refusal ExecFault = record { line = x.number; fault = fault } in r ≡ refusal) = cc in
    record {
      before = [];
      line = x;
      after = xs;
      whole = refl;
      state = s;
      reached = refl;
      number = sym (ap (λ (r : Refusal ExecFault). r.line) same);
      refused = is ∙ ap (λ (r : Refusal ExecFault). let q : Result ProgramState ExecFault = Err r.fault in q) same;
    }

pub refused_first : AreRefusedFirst
refused_first loads s [] refusal e = absurd cc
refused_first loads s (x ∷ xs) refusal e = first_of_line loads s x xs refusal (λ t. refused_first loads t xs refusal) (line_done loads s x.line) refl e

pub refused_there : AreRefusedThere
refused_there loads s program refusal h =
    let at : lines_done loads s program ≡ and_then (lines_done loads s h.before) (λ t. lines_done loads t (h.line ∷ h.after)) = ap (lines_done loads s) h.whole ∙ in_turn loads s h.before (h.line ∷ h.after) in
    let here : lines_done loads h.state (h.line ∷ h.after) ≡ Err (record { line = h.line.number; fault = refusal.fault }) = ap (λ (r : Result ProgramState ExecFault). and_then (refused_at h.line.number r) (λ next. lines_done loads next h.after)) h.refused in
    at
    ∙ ap (λ (r : Result ProgramState (Refusal ExecFault)). and_then r (λ t. lines_done loads t (h.line ∷ h.after))) h.reached
    ∙ here
    ∙ ap (λ (n : ℕ). let q : Result ProgramState (Refusal ExecFault) = Err (record { line = n; fault = refusal.fault }) in q) (sym h.number)

-- ---- words

few : (n : ℕ) (b : Bool) → nat_lt (2 ^ 26) n ≡ b → (first : Option ExecFault) (t : ProgramState) (made : ProgramState) (fault : ExecFault)
    → made.words ≡ n → unless_fault (first_fault (first ∷ when b fault ∷ [])) (let q : Result ProgramState ExecFault = Ok made in q) ≡ Ok t → t.words ≤ 2 ^ 26
few n true is None t made fault words e = absurd cc
few n false is None t made fault words e =
    let same : made ≡ t = cc in
    let size : t.words ≡ n = sym (ap (λ (s : ProgramState). s.words) same) ∙ words in
    grind arith
few n b is (Some first) t made fault words e = absurd cc

few_after : (n : ℕ) (b : Bool) → nat_lt (2 ^ 26) n ≡ b → (first second : Option ExecFault) (t : ProgramState) (made : ProgramState) (fault : ExecFault)
    → made.words ≡ n → unless_fault (first_fault (first ∷ second ∷ when b fault ∷ [])) (let q : Result ProgramState ExecFault = Ok made in q) ≡ Ok t → t.words ≤ 2 ^ 26
few_after n b is None second t made fault words e = few n b is second t made fault words e
few_after n b is (Some first) second t made fault words e = absurd cc

-- a line that adds no words
same_words : (s made t : ProgramState) → made.words ≡ s.words → s.words ≤ 2 ^ 26 → (first : Option ExecFault) → unless_fault first (let q : Result ProgramState ExecFault = Ok made in q) ≡ Ok t → t.words ≤ 2 ^ 26
same_words s made t words h (Some first) e = absurd cc
same_words s made t words h None e =
    let same : made ≡ t = cc in
    let size : t.words ≡ s.words = sym (ap (λ (x : ProgramState). x.words) same) ∙ words in
    subst (λ (n : ℕ). n ≤ 2 ^ 26) (sym size) h

few_exchanged : (s t : ProgramState) (x : Exchange) → exchanged s x ≡ Ok t → t.words ≤ 2 ^ 26
few_exchanged s t x e = few_after (s.words + x.words) (nat_lt (2 ^ 26) (s.words + x.words)) refl _ x.refused t (exchange_done s x) _ refl e

few_array : (own : Option ExecFault) (spread : Option Spread) (sizes : List (ℕ × ℕ)) (s t : ProgramState) → array_unless own spread sizes s ≡ Ok t → t.words ≤ 2 ^ 26
unfolding with_array
few_array own spread sizes s t e = few (s.words + words_in sizes) (nat_lt (2 ^ 26) (s.words + words_in sizes)) refl own t (with_array spread sizes s) _ refl e

filled_words : (f : Filling) (array : ℕ) (spread : Option (Option Spread)) (s : ProgramState) → (filled f array spread s).words ≡ s.words
filled_words f array None s = refl
filled_words f array (Some None) s = refl
filled_words f array (Some (Some spread)) s = refl

pub few_loaded : (m : Option Cells) (array : ℕ) (s t : ProgramState) → s.words ≤ 2 ^ 26 → load_line m array s ≡ Ok t → t.words ≤ 2 ^ 26
few_loaded None array s t h e = same_words s s t refl h None e
few_loaded (Some m) array s t h e = same_words s _ t refl h _ e

few_declared : (s t : ProgramState) (w : ArrayWords) → array_line w s ≡ Ok t → t.words ≤ 2 ^ 26
few_declared s t w e =
    let g : ProcessGrid = grid_at s (pos w.grid) in
    few_array (option_map fault.Info (first_of (process_info s.grids w g) (length g.ranks))) (Some (spread_of w g)) (sizes_over (spread_of w g) g s.shapes.ranks) s t e

pub few_line : (loads : Loads) (s t : ProgramState) (l : Line) → s.words ≤ 2 ^ 26 → line_done loads s l ≡ Ok t → t.words ≤ 2 ^ 26
unfolding line_done
few_line loads s t (Ranks n) h e = same_words (begun n) (begun n) t refl (let z : 0 ≤ 2 ^ 26 = omega arith in z) None e
few_line loads s t (Grid order nprow npcol) h e = same_words s _ t refl h _ e
few_line loads s t (Map nprow npcol ranks) h e = same_words s _ t refl h _ e
few_line loads s t (Array name grid m n mb nb rsrc csrc lld) h e = few_declared s t (record { grid = grid; m = m; n = n; mb = mb; nb = nb; rsrc = rsrc; csrc = csrc; lld = lld }) e
few_line loads s t (Matrix name lld cols) h e = few_array (when (lld == 0 || nat_lt (2 ^ 24) lld) (fault.Grid BadLead)) None (replicate s.shapes.ranks (lld, cols)) s t e
few_line loads s t (Load array file) h e = few_loaded (loads file) array s t h e
few_line loads s t (Fill array a b c d) h e = same_words s _ t (filled_words _ array (slice_get s.spreads array) s) h None e
few_line loads s t (Send grid p q area rdest cdest tri) h e = few_exchanged s t (send_exchange s (grid_at s (pos grid)) (p, q) (shape_in tri) (part_in area) (rdest, cdest)) e
few_line loads s t (Recv grid p q area rsrc csrc tri) h e = few_exchanged s t (receive_exchange s (grid_at s (pos grid)) (p, q) (shape_in tri) (part_in area) (rsrc, csrc)) e
few_line loads s t (Bcast grid scope top rsrc csrc area tri) h e = few_exchanged s t (broadcast_exchange s (grid_at s (pos grid)) scope (shape_in tri) (part_in area) (rsrc, csrc)) e
few_line loads s t (Sum grid scope top dest area) h e = few_exchanged s t (combine_exchange s (grid_at s (pos grid)) scope fold.Sum dest (part_in area) None) e
few_line loads s t (Amx grid scope top dest area rc) h e = few_exchanged s t (combine_exchange s (grid_at s (pos grid)) scope fold.AbsMax dest (part_in area) rc) e
few_line loads s t (Amn grid scope top dest area rc) h e = few_exchanged s t (combine_exchange s (grid_at s (pos grid)) scope fold.AbsMin dest (part_in area) rc) e
few_line loads s t (Barrier grid scope) h e = few_exchanged s t (barrier_exchange s (grid_at s (pos grid)) scope) e
few_line loads s t (Gemr2d mr) h e = few_exchanged s t (general_move s mr) e
few_line loads s t (Trmr2d uplo diag mr) h e = few_exchanged s t (trapezoid_move s uplo diag mr) e
few_line loads s t (Save array file) h e = same_words s s t refl h None e
few_line loads s t (SavePieces array prefix) h e = same_words s s t refl h None e
few_line loads s t (PrintArray array) h e = same_words s s t refl h None e
few_line loads s t (PrintMatrix array rank) h e = same_words s s t refl h None e

pub few_words : AreFewWords
few_words loads s t [] h e = same_words s s t refl h None (let q : (let r : Result ProgramState ExecFault = Ok s in r) ≡ Ok t = ap (λ (x : ProgramState). let r : Result ProgramState ExecFault = Ok x in r) (let same : s ≡ t = cc in same) in q)
few_words loads s t (x ∷ xs) h e =
    let step : (r : Result ProgramState ExecFault) → line_done loads s x.line ≡ r → and_then (refused_at x.number r) (λ next. lines_done loads next xs) ≡ Ok t → t.words ≤ 2 ^ 26
    = λ r. elim r as (λ q. line_done loads s x.line ≡ q → and_then (refused_at x.number q) (λ next. lines_done loads next xs) ≡ Ok t → t.words ≤ 2 ^ 26)
    [ Ok a ↦ (λ is k. few_words loads a t xs (few_line loads s a x.line h is) k) | Err fault ↦ (λ is k. absurd cc) ] in
    step (line_done loads s x.line) refl e
