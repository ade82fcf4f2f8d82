-- Lines that are done have no more operations than a plan can.
use Rattle.std.proofs.Common.{◌≡◌, ℕ, ◌+◌, ◌-◌, ◌*◌, ◌^◌, ◌≤◌, nat_lt, Bool, true, false, cond, List, [], ◌∷◌, length, Option, Some, None, Result, Ok, Err, refl, sym, ap, subst, ◌∙◌, arith, pos, slice_get}
use Rattle.std.specs.Prelude.{◌&&◌, not, nat_eq, is_none}
use Rattle.std.specs.Option.{option_map, option_or}
use Rattle.std.proofs.lemmas.Bool.Decides.{nat_tests}
use Rattle.line_text.specs.Formats.{refused_at, and_then}
use Rattle.line_text.specs.FaultTables.{when, first_fault, unless_fault}
use Rattle.proc_grid.specs.Grid.{Grid as ProcessGrid, is_in, rank_of, or_zero}
use Rattle.proc_grid.specs.Scopes.{members, position_in}
use Rattle.proc_grid.specs.declared.scope.Scope.{Scope}
use Rattle.pack_words.specs.declared.shape.Shape.{Shape}
use Rattle.pack_words.specs.declared.fold_kind.FoldKind.{FoldKind}
use Rattle.pack_words.specs.declared.fold_kind.FoldKind.TheVariants as fold
use Rattle.descriptor.specs.InfoOf.{Entry}
use Rattle.descriptor.specs.declared.spread.Spread.{Spread}
use Rattle.descriptor.specs.declared.moves.MrArgs.{MrArgs}
use Rattle.mm_grammar.specs.Matrix.{Matrix as Cells}
use Rattle.scope_ops.specs.declared.part.Part.{Part}
use Rattle.scope_ops.specs.declared.scope_err.ScopeErr.{ScopeErr}
use Rattle.scope_ops.specs.declared.scope_err.ScopeErr.TheVariants as scope_err
use Rattle.scope_ops.specs.Refusals.{many_fault, message_fault, send_fault, receive_fault, part_count}
use Rattle.scope_ops.specs.Parts.{fits}
use Rattle.pack_words.specs.GridShapes.{shape_of}
use Rattle.scope_ops.specs.Scopes.{broadcast_fault, all_below, member_fits}
use Rattle.scope_ops.specs.CombineRefusals.{combine_fault, barrier_fault, combine_count, arrays_fault, root_place}
use Rattle.grid_lang.specs.declared.line.Line.{Line}
use Rattle.grid_lang.specs.declared.line.Line.TheVariants.{Ranks, Grid, Map, Array, Matrix, Load, Fill, Send, Recv, Bcast, Sum, Amx, Amn, Barrier, Gemr2d, Trmr2d, Save, SavePieces, PrintArray, PrintMatrix}
use Rattle.program_meaning.specs.declared.fault.ExecFault.{ExecFault}
use Rattle.program_meaning.specs.declared.fault.ExecFault.TheVariants as fault
use Rattle.program_meaning.specs.ProgramState.{ProgramState, begun, grid_at}
use Rattle.program_meaning.specs.Filling.{Filling}
use Rattle.program_meaning.specs.Declarations.{Loads, with_array, array_unless, filled, load_line}
use Rattle.program_meaning.specs.Exchanges.{Exchange, exchange_done, exchanged, shape_in, part_in, place_of_part, waiting_lengths, send_exchange, receive_exchange, broadcast_exchange, combine_exchange, barrier_exchange, move_exchange, general_move, trapezoid_move}
use Rattle.program_meaning.specs.Programs.{line_done, lines_done}
use Rattle.program_meaning.specs.Laws.{AreFewOperations}

-- a cause that comes last is none where there is none
last_if : {A : Type 0} (b : Bool) (x : A) (o : Option A) → cond b (Some x) o ≡ None → o ≡ None
last_if true x o e = absurd cc
last_if false x o e = e

last_or : {A : Type 0} (first o : Option A) → option_or first o ≡ None → o ≡ None
last_or None o e = e
last_or (Some x) o e = absurd cc

last_message : (first : Option ℕ) (from to want : ℕ) (o : Option ScopeErr) → message_fault first from to want o ≡ None → o ≡ None
last_message None from to want o e = absurd cc
last_message (Some have) from to want o e = step (nat_eq have want) e
  where
    step : (b : Bool) → cond b o (Some (scope_err.WrongLength have want)) ≡ None → o ≡ None
    step true e = e
    step false e = absurd cc

unscoped : (o : Option ScopeErr) → option_map fault.Scope o ≡ None → o ≡ None
unscoped None e = refl
unscoped (Some x) e = absurd cc

not_more : (have more : ℕ) → many_fault have more ≡ None → have + more ≤ 2 ^ 20
not_more have more e = step (nat_lt 1048576 (have + more)) refl e
  where
    step : (b : Bool) → nat_lt 1048576 (have + more) ≡ b → (let o : Option ScopeErr = cond b (Some scope_err.TooManyOps) None in o) ≡ None → have + more ≤ 2 ^ 20
    step true h e = absurd cc
    step false h e = grind (arith, nat_tests)

-- the call's cause is none where the line is done
none_refused : (s t : ProgramState) (x : Exchange) → exchanged s x ≡ Ok t → (x.refused ≡ None) × (t.operations ≡ s.operations + x.operations)
none_refused s t x e = step _ x.refused _ e
  where
    step : (first second third : Option ExecFault) → unless_fault (first_fault (first ∷ second ∷ third ∷ [])) (let q : Result ProgramState ExecFault = Ok (exchange_done s x) in q) ≡ Ok t → (second ≡ None) × (t.operations ≡ s.operations + x.operations)
    step (Some a) second third e = absurd cc
    step None (Some b) third e = absurd cc
    step None None (Some c) e = absurd cc
    step None None None e = (refl, let same : exchange_done s x ≡ t = cc in sym (ap (λ (y : ProgramState). y.operations) same))

few_exchanged : (s t : ProgramState) (x : Exchange) → (x.refused ≡ None → s.operations + x.operations ≤ 2 ^ 20) → exchanged s x ≡ Ok t → t.operations ≤ 2 ^ 20
few_exchanged s t x few e =
    let r = none_refused s t x e in
    subst (λ n. n ≤ 2 ^ 20) (sym r.1) (few r.0)

few_send : (s : ProgramState) (g : ProcessGrid) (me : ℕ × ℕ) (shape : Shape) (part : Part) (dest : ℕ × ℕ) → (send_exchange s g me shape part dest).refused ≡ None → s.operations + (send_exchange s g me shape part dest).operations ≤ 2 ^ 20
unfolding send_exchange
few_send s g me shape part dest e = not_more s.operations 1 (last_if (not (fits (shape_of s.shapes (rank_of g me) part.array) part)) scope_err.OutOfArray _ (last_if (not (is_in g me && is_in g dest)) scope_err.NotInGrid _ (unscoped (send_fault s.operations s.shapes g me part dest) e)))

few_receive : (s : ProgramState) (g : ProcessGrid) (me : ℕ × ℕ) (shape : Shape) (part : Part) (src : ℕ × ℕ) → (receive_exchange s g me shape part src).refused ≡ None → s.operations + (receive_exchange s g me shape part src).operations ≤ 2 ^ 20
unfolding receive_exchange
few_receive s g me shape part src e = not_more s.operations 1 (last_message (slice_get (waiting_lengths s.state (rank_of g src) (rank_of g me)) 0) (rank_of g src) (rank_of g me) (part_count shape part) _ (last_if (not (fits (shape_of s.shapes (rank_of g me) part.array) part)) scope_err.OutOfArray _ (last_if (not (is_in g me && is_in g src)) scope_err.NotInGrid _ (unscoped (receive_fault s.operations (waiting_lengths s.state) s.shapes g me shape part src) e))))

few_broadcast : (s : ProgramState) (g : ProcessGrid) (scope : Scope) (shape : Shape) (part : Part) (src : ℕ × ℕ) → (broadcast_exchange s g scope shape part src).refused ≡ None → s.operations + (broadcast_exchange s g scope shape part src).operations ≤ 2 ^ 20
unfolding broadcast_exchange
few_broadcast s g scope shape part src e = not_more s.operations (2 * (length (members g scope) - 1)) (last_if (not (all_below (member_fits s.shapes (members g scope) (or_zero (position_in g scope src)) part (place_of_part part)) (length (members g scope)))) scope_err.OutOfArray _ (last_if (is_none (position_in g scope src)) scope_err.NotInGrid _ (unscoped (broadcast_fault s.operations s.shapes g scope part src (place_of_part part)) e)))

few_combine : (s : ProgramState) (g : ProcessGrid) (scope : Scope) (kind : FoldKind) (dest : Option (ℕ × ℕ)) (part : Part) (rc : Option (ℕ × ℕ)) → (combine_exchange s g scope kind dest part rc).refused ≡ None → s.operations + (combine_exchange s g scope kind dest part rc).operations ≤ 2 ^ 20
unfolding combine_exchange
few_combine s g scope kind dest part rc e = not_more s.operations (combine_count (length (members g scope)) dest) (last_or (arrays_fault s.shapes (members g scope) part rc) _ (last_if (is_none (position_in g scope (root_place scope dest))) scope_err.NotInGrid _ (unscoped (combine_fault s.operations s.shapes g scope dest part rc) e)))

few_barrier : (s : ProgramState) (g : ProcessGrid) (scope : Scope) → (barrier_exchange s g scope).refused ≡ None → s.operations + (barrier_exchange s g scope).operations ≤ 2 ^ 20
unfolding barrier_exchange
few_barrier s g scope e = not_more s.operations (4 * (length (members g scope) - 1)) (last_if (is_none (position_in g scope (root_place scope None))) scope_err.NotInGrid _ (unscoped (barrier_fault s.operations g scope) e))

few_move : (s : ProgramState) (shape : Shape) (args : MrArgs) (entries : List Entry) → (move_exchange s shape args entries).refused ≡ None → s.operations + (move_exchange s shape args entries).operations ≤ 2 ^ 20
unfolding move_exchange
few_move s shape args entries e = step _ _ (nat_lt (2 ^ 20) (s.operations + (move_exchange s shape args entries).operations)) refl e
  where
    step : (first second : Option ExecFault) (b : Bool) → nat_lt (2 ^ 20) (s.operations + (move_exchange s shape args entries).operations) ≡ b → first_fault (first ∷ second ∷ when b fault.TooManyOps ∷ []) ≡ None → s.operations + (move_exchange s shape args entries).operations ≤ 2 ^ 20
    step (Some x) second b h e = absurd cc
    step None (Some y) b h e = absurd cc
    step None None true h e = absurd cc
    step None None false h e = grind (arith, nat_tests)

-- a line that adds none
same_operations : (s made t : ProgramState) → made.operations ≡ s.operations → s.operations ≤ 2 ^ 20 → (first : Option ExecFault) → unless_fault first (let q : Result ProgramState ExecFault = Ok made in q) ≡ Ok t → t.operations ≤ 2 ^ 20
same_operations s made t ops h (Some first) e = absurd cc
same_operations s made t ops h None e =
    let same : made ≡ t = cc in
    let size : t.operations ≡ s.operations = sym (ap (λ (x : ProgramState). x.operations) same) ∙ ops in
    subst (λ (n : ℕ). n ≤ 2 ^ 20) (sym size) h

filled_operations : (f : Filling) (array : ℕ) (spread : Option (Option Spread)) (s : ProgramState) → (filled f array spread s).operations ≡ s.operations
filled_operations f array None s = refl
filled_operations f array (Some None) s = refl
filled_operations f array (Some (Some spread)) s = refl

array_operations : (own : Option ExecFault) (spread : Option Spread) (sizes : List (ℕ × ℕ)) (s t : ProgramState) → s.operations ≤ 2 ^ 20 → array_unless own spread sizes s ≡ Ok t → t.operations ≤ 2 ^ 20
unfolding with_array
array_operations own spread sizes s t h e = same_operations s (with_array spread sizes s) t refl h _ e

few_loaded : (m : Option Cells) (array : ℕ) (s t : ProgramState) → s.operations ≤ 2 ^ 20 → load_line m array s ≡ Ok t → t.operations ≤ 2 ^ 20
few_loaded None array s t h e = same_operations s s t refl h None e
few_loaded (Some m) array s t h e = same_operations s _ t refl h _ e

few_line : (loads : Loads) (s t : ProgramState) (l : Line) → s.operations ≤ 2 ^ 20 → line_done loads s l ≡ Ok t → t.operations ≤ 2 ^ 20
unfolding line_done with_array
few_line loads s t (Ranks n) h e = same_operations (begun n) (begun n) t refl (let z : 0 ≤ 2 ^ 20 = omega arith in z) None e
few_line loads s t (Grid order nprow npcol) h e = same_operations s _ t refl h _ e
few_line loads s t (Map nprow npcol ranks) h e = same_operations s _ t refl h _ e
few_line loads s t (Array name grid m n mb nb rsrc csrc lld) h e = same_operations s _ t refl h _ e
few_line loads s t (Matrix name lld cols) h e = same_operations s _ t refl h _ e
few_line loads s t (Load array file) h e = few_loaded (loads file) array s t h e
few_line loads s t (Fill array a b c d) h e = same_operations s _ t (filled_operations _ array (slice_get s.spreads array) s) h None e
few_line loads s t (Send grid p q area rdest cdest tri) h e = few_exchanged s t (send_exchange s (grid_at s (pos grid)) (p, q) (shape_in tri) (part_in area) (rdest, cdest)) (few_send s (grid_at s (pos grid)) (p, q) (shape_in tri) (part_in area) (rdest, cdest)) e
few_line loads s t (Recv grid p q area rsrc csrc tri) h e = few_exchanged s t (receive_exchange s (grid_at s (pos grid)) (p, q) (shape_in tri) (part_in area) (rsrc, csrc)) (few_receive s (grid_at s (pos grid)) (p, q) (shape_in tri) (part_in area) (rsrc, csrc)) e
few_line loads s t (Bcast grid scope top rsrc csrc area tri) h e = few_exchanged s t (broadcast_exchange s (grid_at s (pos grid)) scope (shape_in tri) (part_in area) (rsrc, csrc)) (few_broadcast s (grid_at s (pos grid)) scope (shape_in tri) (part_in area) (rsrc, csrc)) e
few_line loads s t (Sum grid scope top dest area) h e = few_exchanged s t (combine_exchange s (grid_at s (pos grid)) scope fold.Sum dest (part_in area) None) (few_combine s (grid_at s (pos grid)) scope fold.Sum dest (part_in area) None) e
few_line loads s t (Amx grid scope top dest area rc) h e = few_exchanged s t (combine_exchange s (grid_at s (pos grid)) scope fold.AbsMax dest (part_in area) rc) (few_combine s (grid_at s (pos grid)) scope fold.AbsMax dest (part_in area) rc) e
few_line loads s t (Amn grid scope top dest area rc) h e = few_exchanged s t (combine_exchange s (grid_at s (pos grid)) scope fold.AbsMin dest (part_in area) rc) (few_combine s (grid_at s (pos grid)) scope fold.AbsMin dest (part_in area) rc) e
few_line loads s t (Barrier grid scope) h e = few_exchanged s t (barrier_exchange s (grid_at s (pos grid)) scope) (few_barrier s (grid_at s (pos grid)) scope) e
few_line loads s t (Gemr2d mr) h e = few_exchanged s t (general_move s mr) (few_move s _ _ _) e
few_line loads s t (Trmr2d uplo diag mr) h e = few_exchanged s t (trapezoid_move s uplo diag mr) (few_move s _ _ _) e
few_line loads s t (Save array file) h e = same_operations s s t refl h None e
few_line loads s t (SavePieces array prefix) h e = same_operations s s t refl h None e
few_line loads s t (PrintArray array) h e = same_operations s s t refl h None e
few_line loads s t (PrintMatrix array rank) h e = same_operations s s t refl h None e

pub few_operations : AreFewOperations
few_operations loads s t [] h e = let same : s ≡ t = cc in subst (λ (x : ProgramState). x.operations ≤ 2 ^ 20) same h
few_operations loads s t (x ∷ xs) h e =
    let step : (r : Result ProgramState ExecFault) → line_done loads s x.line ≡ r → and_then (refused_at x.number r) (λ next. lines_done loads next xs) ≡ Ok t → t.operations ≤ 2 ^ 20
    = λ r. elim r as (λ q. line_done loads s x.line ≡ q → and_then (refused_at x.number q) (λ next. lines_done loads next xs) ≡ Ok t → t.operations ≤ 2 ^ 20)
    [ Ok a ↦ (λ is k. few_operations loads a t xs (few_line loads s a x.line h is) k) | Err fault ↦ (λ is k. absurd cc) ] in
    step (line_done loads s x.line) refl e
