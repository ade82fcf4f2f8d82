-- The laws of lines with their files.
use Rattle.std.proofs.Common.{◌≡◌, ℕ, ◌^◌, ◌≤◌, List, [], ◌∷◌, ◌++◌, Option, Some, None, Result, Ok, Err, refl, sym, ap, subst, ◌∙◌, inl, inr}
use Rattle.std.specs.Prelude.{◌⊎◌, IsTrue}
use Rattle.std.specs.FinMap.{get}
use Rattle.store_io.specs.Outside.{Outside}
use Rattle.mm_grammar.specs.Width.{width32}
use Rattle.mm_grammar.specs.Matrix.{Matrix as Cells}
use Rattle.mm_grammar.specs.MatrixText.{IsMatrixText}
use Rattle.mm_grammar.proofs.Laws.{decided}
use Rattle.grid_lang.specs.declared.line.Line.{Line}
use Rattle.grid_lang.specs.declared.line.Line.TheVariants.{Ranks, Grid, Map, Array, Matrix, Load, Fill, Send, Recv, Bcast, Sum, Amx, Amn, Barrier, Gemr2d, Trmr2d, Save, SavePieces, PrintArray, PrintMatrix}
use Rattle.grid_lang.specs.declared.line.Numbered.{Numbered}
use Rattle.program_meaning.specs.declared.fault.ExecFault.{ExecFault}
use Rattle.program_meaning.specs.ProgramState.{ProgramState}
use Rattle.program_meaning.specs.Declarations.{load_line}
use Rattle.program_meaning.specs.Programs.{line_done, no_loads}
use Rattle.program_meaning.specs.WithFiles.{HoldsMatrix, LineGives, Reaches}
use Rattle.program_meaning.specs.FileLaws.{LinesAreDecided, StatesAreDecided, AreReachedInTurn, AreFewReached}
use Rattle.program_meaning.proofs.LineLaws.{few_line, few_loaded}

-- a LOAD line, whose file holds a matrix
pub record IsLoaded (store : Outside) (s : ProgramState) (l : Line) (r : Result ProgramState ExecFault) : Type 0 where
  pub array : ℕ
  pub file : List ℕ
  pub is : l ≡ Load array file
  pub matrix : Cells
  pub holds : HoldsMatrix store file matrix
  pub gives : load_line (Some matrix) array s ≡ r

-- every line is a LOAD line, or needs no file
pub by_kind : (store : Outside) (s : ProgramState) (l : Line) (r : Result ProgramState ExecFault) → LineGives store s l r → IsLoaded store s l r ⊎ (line_done no_loads s l ≡ r)
by_kind store s (Ranks n) r h = inr h
by_kind store s (Grid order nprow npcol) r h = inr h
by_kind store s (Map nprow npcol ranks) r h = inr h
by_kind store s (Array name grid m n mb nb rsrc csrc lld) r h = inr h
by_kind store s (Matrix name lld cols) r h = inr h
by_kind store s (Load array file) r h = inl (record { array = array; file = file; is = refl; matrix = h.0; holds = h.1; gives = h.2 })
by_kind store s (Fill array a b c d) r h = inr h
by_kind store s (Send grid p q area rdest cdest tri) r h = inr h
by_kind store s (Recv grid p q area rsrc csrc tri) r h = inr h
by_kind store s (Bcast grid scope top rsrc csrc area tri) r h = inr h
by_kind store s (Sum grid scope top dest area) r h = inr h
by_kind store s (Amx grid scope top dest area rc) r h = inr h
by_kind store s (Amn grid scope top dest area rc) r h = inr h
by_kind store s (Barrier grid scope) r h = inr h
by_kind store s (Gemr2d mr) r h = inr h
by_kind store s (Trmr2d uplo diag mr) r h = inr h
by_kind store s (Save array file) r h = inr h
by_kind store s (SavePieces array prefix) r h = inr h
by_kind store s (PrintArray array) r h = inr h
by_kind store s (PrintMatrix array rank) r h = inr h

same_matrix : (store : Outside) → IsTrue store.told → (file : List ℕ) (m n : Cells) → HoldsMatrix store file m → HoldsMatrix store file n → m ≡ n
same_matrix store told file m n h k =
    let a = h told in
    let b = k told in
    let same : a.0 ≡ b.0 = let e : Some a.0 ≡ Some b.0 = sym a.1 ∙ b.1 in cc in
    (decided width32).one_value b.0 m n (subst (λ (bytes : List ℕ). IsMatrixText width32 bytes m) same a.2) b.2

decided_load : (store : Outside) → IsTrue store.told → (s : ProgramState) (array : ℕ) (file : List ℕ) (r q : Result ProgramState ExecFault) → LineGives store s (Load array file) r → LineGives store s (Load array file) q → r ≡ q
decided_load store told s array file r q h k =
    sym h.2 ∙ ap (λ (m : Cells). load_line (Some m) array s) (same_matrix store told file h.0 k.0 h.1 k.1) ∙ k.2

pub decided_line : LinesAreDecided
decided_line store told s (Load array file) r q h k = decided_load store told s array file r q h k
decided_line store told s (Ranks n) r q h k = sym h ∙ k
decided_line store told s (Grid order nprow npcol) r q h k = sym h ∙ k
decided_line store told s (Map nprow npcol ranks) r q h k = sym h ∙ k
decided_line store told s (Array name grid m n mb nb rsrc csrc lld) r q h k = sym h ∙ k
decided_line store told s (Matrix name lld cols) r q h k = sym h ∙ k
decided_line store told s (Fill array a b c d) r q h k = sym h ∙ k
decided_line store told s (Send grid p q' area rdest cdest tri) r q h k = sym h ∙ k
decided_line store told s (Recv grid p q' area rsrc csrc tri) r q h k = sym h ∙ k
decided_line store told s (Bcast grid scope top rsrc csrc area tri) r q h k = sym h ∙ k
decided_line store told s (Sum grid scope top dest area) r q h k = sym h ∙ k
decided_line store told s (Amx grid scope top dest area rc) r q h k = sym h ∙ k
decided_line store told s (Amn grid scope top dest area rc) r q h k = sym h ∙ k
decided_line store told s (Barrier grid scope) r q h k = sym h ∙ k
decided_line store told s (Gemr2d mr) r q h k = sym h ∙ k
decided_line store told s (Trmr2d uplo diag mr) r q h k = sym h ∙ k
decided_line store told s (Save array file) r q h k = sym h ∙ k
decided_line store told s (SavePieces array prefix) r q h k = sym h ∙ k
decided_line store told s (PrintArray array) r q h k = sym h ∙ k
decided_line store told s (PrintMatrix array rank) r q h k = sym h ∙ k

pub decided_states : StatesAreDecided
decided_states store told s [] t u h k = sym h ∙ k
decided_states store told s (l ∷ more) t u h k =
    let same : h.0 ≡ k.0 = let e : (let r : Result ProgramState ExecFault = Ok h.0 in r) ≡ Ok k.0 = decided_line store told s l.line (Ok h.0) (Ok k.0) h.1 k.1 in cc in
    decided_states store told k.0 more t u (subst (λ (x : ProgramState). Reaches store x more t) same h.2) k.2

pub in_turn : AreReachedInTurn
in_turn store s t u [] ys h k = subst (λ (x : ProgramState). Reaches store x ys u) (sym h) k
in_turn store s t u (x ∷ xs) ys h k = (h.0, h.1, in_turn store h.0 t u xs ys h.2 k)

pub few_with : (store : Outside) (s t : ProgramState) (l : Line) → s.words ≤ 2 ^ 26 → LineGives store s l (Ok t) → t.words ≤ 2 ^ 26
few_with store s t l few h = step (by_kind store s l (Ok t) h)
  where
    step : IsLoaded store s l (Ok t) ⊎ (line_done no_loads s l ≡ Ok t) → t.words ≤ 2 ^ 26
    step (inl x) = few_loaded (Some x.matrix) x.array s t few x.gives
    step (inr e) = few_line no_loads s t l few e

pub few_reached : AreFewReached
few_reached store s t [] few h = subst (λ (x : ProgramState). x.words ≤ 2 ^ 26) h few
few_reached store s t (l ∷ more) few h = few_reached store h.0 t more (few_with store s h.0 l.line few h.1) h.2
