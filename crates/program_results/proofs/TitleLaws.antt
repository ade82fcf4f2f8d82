-- First lines of what is printed, and what comes after them.
use Rattle.std.proofs.Common.{◌≡◌, ℕ, List, [], ◌∷◌, ◌++◌, sym, ap, subst, append_assoc, append-nil}
use Rattle.std.specs.Prelude.{codes}
use Rattle.std.specs.Fmt.{decimal}
use Rattle.store_io.specs.Outside.{Poured}
use Rattle.mm_grammar.specs.Matrix.{Matrix}
use Rattle.tool_lines.specs.Saying.{SaysFront}
use Rattle.program_results.specs.Pouring.{PoursOn}
use Rattle.program_results.specs.Printing.{after_space, rows_text, array_title, matrix_title, array_text, matrix_text}
use Rattle.program_results.proofs.PouringLaws.{pours_then, front_then, front_more}

-- a text in two parts
in_two : (old mid new : Poured) (p q r s t whole : List ℕ) → s ++ t ≡ whole → PoursOn old mid p q s → PoursOn mid new q r t → PoursOn old new p r whole
in_two old mid new p q r s t whole is first then = let P : List ℕ → Type 0 = λ x. PoursOn old new p r x in subst P is (pours_then old mid new p q r s t first then)

second : (old mid new : Poured) (p q s t whole : List ℕ) → s ++ t ≡ whole → PoursOn old mid p q s → SaysFront mid new (q ++ t) → SaysFront old new (p ++ whole)
second old mid new p q s t whole is first then = let P : List ℕ → Type 0 = λ x. SaysFront old new (p ++ x) in subst P is (front_then old mid new p q s t first then)

first_part : (old new : Poured) (p s t whole : List ℕ) → s ++ t ≡ whole → SaysFront old new (p ++ s) → SaysFront old new (p ++ whole)
first_part old new p s t whole is first = let P : List ℕ → Type 0 = λ x. SaysFront old new (p ++ x) in subst P is (front_more old new p s t first)

-- ---- first lines

abbrev size_text : ℕ → ℕ → List ℕ
size_text rows columns = after_space (decimal rows) ++ after_space (decimal columns)

abbrev rank_text : ℕ → ℕ → ℕ → List ℕ
rank_text rank rows columns = after_space (codes "rank") ++ (after_space (decimal rank) ++ (after_space (decimal rows) ++ after_space (decimal columns)))

array_parts : (name : List ℕ) (rows columns : ℕ) → name ++ size_text rows columns ≡ array_title name rows columns
unfolding array_title
array_parts name rows columns = ap (λ (t : List ℕ). name ++ (after_space (decimal rows) ++ t)) (sym (append-nil (after_space (decimal columns))))

matrix_parts : (name : List ℕ) (rank rows columns : ℕ) → name ++ rank_text rank rows columns ≡ matrix_title name rank rows columns
unfolding matrix_title
matrix_parts name rank rows columns = ap (λ (t : List ℕ). name ++ (after_space (codes "rank") ++ (after_space (decimal rank) ++ (after_space (decimal rows) ++ t)))) (sym (append-nil (after_space (decimal columns))))

pub array_pours : (old mid new : Poured) (p q r name : List ℕ) (rows columns : ℕ) → PoursOn old mid p q name → PoursOn mid new q r (after_space (decimal rows) ++ after_space (decimal columns)) → PoursOn old new p r (array_title name rows columns)
array_pours old mid new p q r name rows columns first then = in_two old mid new p q r name (size_text rows columns) _ (array_parts name rows columns) first then

pub array_front : (old mid new : Poured) (p q name : List ℕ) (rows columns : ℕ) → PoursOn old mid p q name → SaysFront mid new (q ++ (after_space (decimal rows) ++ after_space (decimal columns))) → SaysFront old new (p ++ array_title name rows columns)
array_front old mid new p q name rows columns first then = second old mid new p q name (size_text rows columns) _ (array_parts name rows columns) first then

pub array_name : (old new : Poured) (p name : List ℕ) (rows columns : ℕ) → SaysFront old new (p ++ name) → SaysFront old new (p ++ array_title name rows columns)
array_name old new p name rows columns first = first_part old new p name (size_text rows columns) _ (array_parts name rows columns) first

pub matrix_pours : (old mid new : Poured) (p q r name : List ℕ) (rank rows columns : ℕ) → PoursOn old mid p q name → PoursOn mid new q r (after_space (codes "rank") ++ (after_space (decimal rank) ++ (after_space (decimal rows) ++ after_space (decimal columns)))) → PoursOn old new p r (matrix_title name rank rows columns)
matrix_pours old mid new p q r name rank rows columns first then = in_two old mid new p q r name (rank_text rank rows columns) _ (matrix_parts name rank rows columns) first then

pub matrix_front : (old mid new : Poured) (p q name : List ℕ) (rank rows columns : ℕ) → PoursOn old mid p q name → SaysFront mid new (q ++ (after_space (codes "rank") ++ (after_space (decimal rank) ++ (after_space (decimal rows) ++ after_space (decimal columns))))) → SaysFront old new (p ++ matrix_title name rank rows columns)
matrix_front old mid new p q name rank rows columns first then = second old mid new p q name (rank_text rank rows columns) _ (matrix_parts name rank rows columns) first then

pub matrix_name : (old new : Poured) (p name : List ℕ) (rank rows columns : ℕ) → SaysFront old new (p ++ name) → SaysFront old new (p ++ matrix_title name rank rows columns)
matrix_name old new p name rank rows columns first = first_part old new p name (rank_text rank rows columns) _ (matrix_parts name rank rows columns) first

-- ---- a first line and the rows

array_whole : (name : List ℕ) (m : Matrix) → array_title name m.rows m.columns ++ (10 ∷ [] ++ rows_text m) ≡ array_text name m
unfolding array_text
array_whole name m = sym (append_assoc (array_title name m.rows m.columns) (10 ∷ []) (rows_text m))

matrix_whole : (name : List ℕ) (rank : ℕ) (m : Matrix) → matrix_title name rank m.rows m.columns ++ (10 ∷ [] ++ rows_text m) ≡ matrix_text name rank m
unfolding matrix_text
matrix_whole name rank m = sym (append_assoc (matrix_title name rank m.rows m.columns) (10 ∷ []) (rows_text m))

pub array_body : (old mid new : Poured) (p q r name : List ℕ) (m : Matrix) → PoursOn old mid p q (array_title name m.rows m.columns) → PoursOn mid new q r (10 ∷ [] ++ rows_text m) → PoursOn old new p r (array_text name m)
array_body old mid new p q r name m first then = in_two old mid new p q r _ _ _ (array_whole name m) first then

pub array_body_front : (old mid new : Poured) (p q name : List ℕ) (m : Matrix) → PoursOn old mid p q (array_title name m.rows m.columns) → SaysFront mid new (q ++ (10 ∷ [] ++ rows_text m)) → SaysFront old new (p ++ array_text name m)
array_body_front old mid new p q name m first then = second old mid new p q _ _ _ (array_whole name m) first then

pub array_title_front : (old new : Poured) (p name : List ℕ) (m : Matrix) → SaysFront old new (p ++ array_title name m.rows m.columns) → SaysFront old new (p ++ array_text name m)
array_title_front old new p name m first = first_part old new p _ _ _ (array_whole name m) first

pub matrix_body : (old mid new : Poured) (p q r name : List ℕ) (rank : ℕ) (m : Matrix) → PoursOn old mid p q (matrix_title name rank m.rows m.columns) → PoursOn mid new q r (10 ∷ [] ++ rows_text m) → PoursOn old new p r (matrix_text name rank m)
matrix_body old mid new p q r name rank m first then = in_two old mid new p q r _ _ _ (matrix_whole name rank m) first then

pub matrix_body_front : (old mid new : Poured) (p q name : List ℕ) (rank : ℕ) (m : Matrix) → PoursOn old mid p q (matrix_title name rank m.rows m.columns) → SaysFront mid new (q ++ (10 ∷ [] ++ rows_text m)) → SaysFront old new (p ++ matrix_text name rank m)
matrix_body_front old mid new p q name rank m first then = second old mid new p q _ _ _ (matrix_whole name rank m) first then

pub matrix_title_front : (old new : Poured) (p name : List ℕ) (rank : ℕ) (m : Matrix) → SaysFront old new (p ++ matrix_title name rank m.rows m.columns) → SaysFront old new (p ++ matrix_text name rank m)
matrix_title_front old new p name rank m first = first_part old new p _ _ _ (matrix_whole name rank m) first
