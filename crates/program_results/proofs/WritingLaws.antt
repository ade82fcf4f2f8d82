-- What is written of a program's results, one after the other.
use Rattle.std.proofs.Common.{◌≡◌, ℕ, zero, suc, ◌+◌, ◌<◌, ◌≤◌, List, [], ◌∷◌, ◌++◌, Option, Some, length, take, drop, get_or, slice_get, refl, sym, ap, subst, ◌∙◌, arith}
use Rattle.std.specs.Prelude.{map, Result}
use Rattle.std.specs.List.{flat_map}
use Rattle.std.proofs.lemmas.List.{take_all}
use Rattle.store_io.specs.Outside.{Poured, Files}
use Rattle.store_io.specs.declared.store.StoreErr.{StoreErr}
use Rattle.store_io.specs.declared.sink.SinkErr.{SinkErr}
use Rattle.text_io.specs.Saving.{Saves}
use Rattle.mm_grammar.specs.PlainText.{plain_text}
use Rattle.tool_lines.specs.Saying.{SaysFront}
use Rattle.save_list.specs.Save.{Save, save}
use Rattle.mr2d.specs.Homes.{Arrays}
use Rattle.program_results.specs.Pouring.{PoursOn, Pours}
use Rattle.program_results.specs.Printing.{array_text}
use Rattle.program_results.specs.Results.{name_at}
use Rattle.program_results.specs.Placed.{Placed, whole_matrix, cells_on, text_of_piece}
use Rattle.program_results.specs.EndsView.{FinishedView, source_text, file_save, finished_saves, name_of_file, save_of, print_text, finished_output}
use Rattle.program_results.specs.declared.file.File.{File}
use Rattle.program_results.specs.declared.file.Source.TheVariants.{Whole, Piece}
use Rattle.program_results.specs.declared.file.Print.{Print}
use Rattle.program_results.specs.declared.file.Print.TheVariants as print
use Rattle.program_results.proofs.ListLaws.{flat_next, flat_cut}
use Rattle.program_results.proofs.FileLaws.{place_is}
use Rattle.program_results.proofs.PouringLaws.{pours_none, pours_then, front_then, front_more}

-- ---- saves

-- that of a file
mapped_at : (f : File → Save) (files : List File) (k : ℕ) (file : File) (d : Save) → slice_get files k ≡ Some file → get_or (map f files) k d ≡ f file
mapped_at f [] k file d is = cc
mapped_at f (x ∷ files) zero file d is = let same : x ≡ file = cc in ap f same
mapped_at f (x ∷ files) (suc k) file d is = mapped_at f files k file d is

pub save_is : (f : FinishedView) (k : ℕ) (file : File) → slice_get f.ends.files k ≡ Some file → save_of f k ≡ file_save f.ends.places f.arrays file
unfolding finished_saves
save_is f k file is = mapped_at (file_save f.ends.places f.arrays) f.ends.files k file (save [] []) is

named_at : (f : File → Save) → ((file : File) → (f file).name ≡ file.name) → (files : List File) (k : ℕ) → (get_or (map f files) k (save [] [])).name ≡ name_of_file files k
named_at f same [] k = refl
named_at f same (x ∷ files) zero = same x
named_at f same (x ∷ files) (suc k) = named_at f same files k

-- its name is the file's
pub save_named : (f : FinishedView) (k : ℕ) → (save_of f k).name ≡ name_of_file f.ends.files k
unfolding finished_saves
save_named f k = named_at (file_save f.ends.places f.arrays) (λ file. refl) f.ends.files k

count_mapped : (f : File → Save) (files : List File) → length (map f files) ≡ length files
count_mapped f [] = refl
count_mapped f (x ∷ files) = ap suc (count_mapped f files)

-- there is one for each file
pub saves_counted : (f : FinishedView) → length (finished_saves f) ≡ length f.ends.files
unfolding finished_saves
saves_counted f = count_mapped (file_save f.ends.places f.arrays) f.ends.files

saves_at : {X : Type 0} (r : Result X StoreErr) (old new : Files) (f : FinishedView) (k : ℕ) (file : File) (name text : List ℕ) → slice_get f.ends.files k ≡ Some file → name ≡ file.name → text ≡ source_text f.ends.places f.arrays file.source → Saves r old new name text → Saves r old new (save_of f k).name (save_of f k).text
saves_at r old new f k file name text there named is h =
    let e : save_of f k ≡ save name text = save_is f k file there ∙ ap (λ (n : List ℕ). save n (source_text f.ends.places f.arrays file.source)) (sym named) ∙ ap (save name) (sym is) in
    subst (λ (s : Save). Saves r old new s.name s.text) (sym e) h

-- the whole matrix of an ARRAY was saved
pub whole_saved : {X : Type 0} (r : Result X StoreErr) (old new : Files) (f : FinishedView) (k : ℕ) (file : File) (array : ℕ) (x : Placed) (name : List ℕ) → slice_get f.ends.files k ≡ Some file → file.source ≡ Whole array → slice_get f.ends.places array ≡ Some (Some x) → name ≡ file.name
    → Saves r old new name (plain_text (whole_matrix f.arrays array x)) → Saves r old new (save_of f k).name (save_of f k).text
whole_saved r old new f k file array x name there source place named h =
    let text : plain_text (whole_matrix f.arrays array x) ≡ source_text f.ends.places f.arrays file.source
    = ap (λ (y : Placed). plain_text (whole_matrix f.arrays array y)) (sym (place_is f.ends.places array x place)) ∙ ap (source_text f.ends.places f.arrays) (sym source) in
    saves_at r old new f k file name _ there named text h

-- the piece of a process was saved
pub piece_saved : {X : Type 0} (r : Result X StoreErr) (old new : Files) (f : FinishedView) (k : ℕ) (file : File) (array process : ℕ) (x : Placed) (name : List ℕ) → slice_get f.ends.files k ≡ Some file → file.source ≡ Piece array process → slice_get f.ends.places array ≡ Some (Some x) → name ≡ file.name
    → Saves r old new name (text_of_piece x.layout process (cells_on f.arrays array x process)) → Saves r old new (save_of f k).name (save_of f k).text
piece_saved r old new f k file array process x name there source place named h =
    let text : text_of_piece x.layout process (cells_on f.arrays array x process) ≡ source_text f.ends.places f.arrays file.source
    = ap (λ (y : Placed). text_of_piece y.layout process (cells_on f.arrays array y process)) (sym (place_is f.ends.places array x place)) ∙ ap (source_text f.ends.places f.arrays) (sym source) in
    saves_at r old new f k file name _ there named text h

-- ---- prints

-- the whole matrix of an ARRAY was put
pub array_put : {X : Type 0} (r : Result X SinkErr) (old new : Poured) (p q : List ℕ) (names : List (List ℕ)) (places : List (Option Placed)) (arrays : Arrays) (array : ℕ) (x : Placed) → slice_get places array ≡ Some (Some x)
    → Pours r old new p q (array_text (name_at names array) (whole_matrix arrays array x)) → Pours r old new p q (print_text names places arrays (print.Array array))
array_put r old new p q names places arrays array x place h = subst (λ (y : Placed). Pours r old new p q (array_text (name_at names array) (whole_matrix arrays array y))) (sym (place_is places array x place)) h

-- what the first of them print
abbrev pub first_prints : FinishedView → ℕ → List ℕ
first_prints f k = flat_map (print_text f.ends.names f.ends.places f.arrays) (take k f.ends.prints)

-- an item, whatever stands past the end
other_default : (xs : List Print) (k : ℕ) (d e : Print) → k < length xs → get_or xs k d ≡ get_or xs k e
other_default [] k d e lt = absurd (omega arith)
other_default (x ∷ xs) zero d e lt = refl
other_default (x ∷ xs) (suc k) d e lt = other_default xs k d e (omega (arith, lt))

pub item_is : (xs ys : List Print) (k : ℕ) (d : Print) → k < length xs → xs ≡ ys → get_or xs k d ≡ get_or ys k (get_or xs k d)
item_is xs ys k d lt same = other_default xs k d (get_or xs k d) lt ∙ ap (λ (zs : List Print). get_or zs k (get_or xs k d)) same

pub no_prints : (f : FinishedView) (s : Poured) (p : List ℕ) → PoursOn s s p p (first_prints f 0)
no_prints f s p = pours_none s p

pub more_prints : (f : FinishedView) (k : ℕ) (x : Print) (old mid new : Poured) (p q r : List ℕ) → k < length f.ends.prints → x ≡ get_or f.ends.prints k x → PoursOn old mid p q (first_prints f k) → PoursOn mid new q r (print_text f.ends.names f.ends.places f.arrays x) → PoursOn old new p r (first_prints f (k + 1))
more_prints f k x old mid new p q r lt is first then =
    let P : List ℕ → Type 0 = λ t. PoursOn old new p r t in
    subst P (sym (flat_next (print_text f.ends.names f.ends.places f.arrays) f.ends.prints k x lt is)) (pours_then old mid new p q r _ _ first then)

pub prints_failed : (f : FinishedView) (k : ℕ) (x : Print) (old mid new : Poured) (p q : List ℕ) → k < length f.ends.prints → x ≡ get_or f.ends.prints k x → PoursOn old mid p q (first_prints f k) → SaysFront mid new (q ++ print_text f.ends.names f.ends.places f.arrays x) → SaysFront old new (p ++ finished_output f)
unfolding finished_output
prints_failed f k x old mid new p q lt is first then =
    let text = print_text f.ends.names f.ends.places f.arrays in
    let P : List ℕ → Type 0 = λ t. SaysFront old new (p ++ t) in
    let here : SaysFront old new (p ++ flat_map text (take (k + 1) f.ends.prints)) = subst P (sym (flat_next text f.ends.prints k x lt is)) (front_then old mid new p q _ _ first then) in
    subst P (flat_cut text f.ends.prints (k + 1)) (front_more old new p _ (flat_map text (drop (k + 1) f.ends.prints)) here)

pub all_prints : (f : FinishedView) (k : ℕ) (old new : Poured) (p q : List ℕ) → length f.ends.prints ≤ k → PoursOn old new p q (first_prints f k) → PoursOn old new p q (finished_output f)
unfolding finished_output
all_prints f k old new p q le first =
    let P : List Print → Type 0 = λ xs. PoursOn old new p q (flat_map (print_text f.ends.names f.ends.places f.arrays) xs) in
    subst P (take_all k f.ends.prints le) first
