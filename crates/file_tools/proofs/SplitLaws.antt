-- What a split saves.
use Rattle.std.proofs.Common.{◌≡◌, ℕ, ◌*◌, List, refl, ap, subst, ◌∙◌}
use Rattle.std.specs.Prelude.{Result}
use Rattle.std.specs.List.{range_with_len}
use Rattle.store_io.specs.Outside.{Files}
use Rattle.store_io.specs.declared.store.StoreErr.{StoreErr}
use Rattle.text_io.specs.Saving.{Saves}
use Rattle.mm_grammar.specs.Matrix.{Matrix}
use Rattle.mm_text.specs.Loading.{matrix_of}
use Rattle.mm_text.specs.declared.cells.Whole.{Whole}
use Rattle.piece_grammar.specs.Head.{Head}
use Rattle.piece_grammar.specs.PlainPiece.{piece_text}
use Rattle.save_list.specs.Save.{names_of}
use Rattle.save_list.proofs.SavedLaws.{names_by}
use Rattle.file_tools.specs.Target as target
use Rattle.file_tools.specs.TargetView.{target_view}
use Rattle.file_tools.specs.declared.target.Target.{Target}
use Rattle.file_tools.specs.SplitWalk.{name_of, piece_names, save_of, saves_of}

pub names_are : (t : target.Target) (m : Matrix) → names_of (saves_of t m) ≡ piece_names t
names_are t m = names_by (save_of t m) (name_of t) (range_with_len 0 (t.nprow * t.npcol)) (λ k. refl)

-- the saves of the same target and matrix
pub saves_as : (s t : Target) (v w : Whole) → s ≡ t → v ≡ w → saves_of (target_view s) (matrix_of v) ≡ saves_of (target_view t) (matrix_of w)
saves_as s t v w e f = ap (λ (x : Target). saves_of (target_view x) (matrix_of v)) e ∙ ap (λ (x : Whole). saves_of (target_view t) (matrix_of x)) f

pub names_as : (s t : Target) (m : Matrix) → s ≡ t → names_of (saves_of (target_view s) m) ≡ piece_names (target_view t)
names_as s t m e = names_are (target_view s) m ∙ ap (λ (x : Target). piece_names (target_view x)) e

-- the same file under other words for its name and text
pub saves_along : {X : Type 0} (result : Result X StoreErr) (before after : Files) (n k : List ℕ) (g h : Head) (l m : Matrix) → n ≡ k → g ≡ h → l ≡ m → Saves result before after n (piece_text g l) → Saves result before after k (piece_text h m)
saves_along result before after n k g h l m names heads cells saves =
    let P : List ℕ → Type 0 = λ name. Saves result before after name (piece_text h m) in
    let Q : Head → Type 0 = λ head. Saves result before after n (piece_text head m) in
    let R : Matrix → Type 0 = λ c. Saves result before after n (piece_text g c) in
    subst P names (subst Q heads (subst R cells saves))
