-- Files by their numbers.
use Rattle.std.proofs.Common.{◌≡◌, ℕ, zero, suc, ◌<◌, List, [], ◌∷◌, Option, Some, length, get_or, slice_get, sym, ap}
use Rattle.std.specs.List.{AllByRecursion}
use Rattle.program_results.specs.Placed.{Placed, placed_at}
use Rattle.program_results.specs.EndsView.{name_of_file}
use Rattle.program_results.specs.Standing.{HasSource}
use Rattle.program_results.specs.declared.file.File.{File}
use Rattle.program_results.proofs.ListLaws.{each_is, is_there}

pub name_there : (files : List File) (k : ℕ) (file : File) → slice_get files k ≡ Some file → file.name ≡ name_of_file files k
name_there [] k file is = cc
name_there (x ∷ files) zero file is = let same : x ≡ file = cc in ap (λ (f : File). f.name) (sym same)
name_there (x ∷ files) (suc k) file is = name_there files k file is

-- a file that was taken out of a list has the name that it had there
pub name_removed : (files : List File) (k : ℕ) (file : File) → k < length files → file ≡ get_or files k file → file.name ≡ name_of_file files k
name_removed files k file lt is = name_there files k file (is_there files k file lt is)

-- the place of a file's source is known
pub source_there : (places : List (Option Placed)) (files : List File) (k : ℕ) (file : File) → AllByRecursion (λ f. HasSource places f.source) files → k < length files → file ≡ get_or files k file → HasSource places file.source
source_there places files k file all lt is = each_is (λ (f : File). HasSource places f.source) files k file all (is_there files k file lt is)

-- the place that was found
pub place_is : (places : List (Option Placed)) (array : ℕ) (x : Placed) → slice_get places array ≡ Some (Some x) → placed_at places array ≡ x
place_is [] array x is = cc
place_is (p ∷ places) zero x is = let same : p ≡ Some x = cc in let f : Option Placed → Placed = λ q. placed_at (q ∷ []) 0 in ap f same
place_is (p ∷ places) (suc array) x is = place_is places array x is
