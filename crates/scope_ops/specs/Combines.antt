-- SUM, AMX and AMN, each a whole line at once. A User's Guide to the BLACS, IGSUM2D, IGAMX2D and IGAMN2D. No tree, no message and no accumulator stands in it.
use Rattle.std.specs.Prelude.{ℕ, ◌*◌, Bool, nat_eq, ℤ, pos, Option, Some, None, List, map, slice_index, slice_index_or}
use Rattle.std.specs.Int.{int_wrap, w32}
use Rattle.std.specs.List.{list_any, range_with_len}
use Rattle.fold_ops.specs.declared.held.Held.{Held}
use Rattle.fold_ops.specs.FoldOf.{sum_of, greatest_of, least_of}
use Rattle.proc_grid.specs.Grid.{Grid, place_of, rank_of}
use Rattle.proc_grid.specs.Scopes.{members}
use Rattle.proc_grid.specs.declared.scope.Scope.{Scope}
use Rattle.pack_words.specs.declared.shape.Shape.TheVariants.{Ge}
use Rattle.pack_words.specs.declared.fold_kind.FoldKind.{FoldKind}
use Rattle.pack_words.specs.declared.fold_kind.FoldKind.TheVariants.{Sum, AbsMax, AbsMin}
use Rattle.pack_words.specs.GridState.{GridState}
use Rattle.pack_words.specs.GridSteps.{array_in}
use Rattle.scope_ops.specs.declared.part.Part.{Part}
use Rattle.scope_ops.specs.Lines.{words_of, given_to}

-- the fold of a list of words: the sum modulo 2^32, or the word of greatest or least absolute value with the least position of such a word
abbrev pub fold_of : FoldKind → List ℤ → Held
fold_of Sum words = record { value = sum_of words; place = 0 }
fold_of AbsMax words = greatest_of words
fold_of AbsMin words = least_of words

-- the word of a member at the k-th element of its part, by columns; a state's words are any whole numbers, and here each is taken as the number of 32 bits that it is modulo 2^32
abbrev pub member_word : Part → GridState → ℕ → ℕ → ℤ
member_word part s k r = int_wrap w32 (slice_index_or (words_of Ge part (array_in s r part.array)) k (pos 0))

-- the words of the members at the k-th element, in scope order
abbrev pub scope_words : List ℕ → Part → GridState → ℕ → List ℤ
scope_words ranks part s k = map (member_word part s k) ranks

-- the folds of all elements of the part, by columns
abbrev pub folds : FoldKind → List ℕ → Part → GridState → List Held
folds kind ranks part s = map (λ k. fold_of kind (scope_words ranks part s k)) (range_with_len 0 (part.m * part.n))

abbrev pub fold_values : List Held → List ℤ
fold_values fs = map (λ f. f.value) fs

-- the row and the column in the grid of the member at a position
abbrev pub or_corner : Option (ℕ × ℕ) → ℕ × ℕ
or_corner None = (0, 0)
or_corner (Some place) = place

abbrev pub place_of_member : Grid → List ℕ → ℕ → ℕ × ℕ
place_of_member g ranks k = or_corner (place_of g (slice_index ranks k))

-- the rows, and the columns, in the grid of the members that hold the words which the folds name
abbrev pub holder_rows : Grid → List ℕ → List Held → List ℤ
holder_rows g ranks fs = map (λ f. pos (place_of_member g ranks f.place).0) fs

abbrev pub holder_columns : Grid → List ℕ → List Held → List ℤ
holder_columns g ranks fs = map (λ f. pos (place_of_member g ranks f.place).1) fs

-- the part of as many rows and columns at the upper left corner of an array
abbrev pub corner_part : ℕ → Part → Part
corner_part array part = record { array = array; i = 1; j = 1; m = part.m; n = part.n }

-- the destinations: the process at one place, or every member
abbrev pub is_destination : Grid → Scope → Option (ℕ × ℕ) → ℕ → Bool
is_destination g scope (Some place) r = nat_eq r (rank_of g place)
is_destination g scope None r = list_any (λ m. nat_eq m r) (members g scope)

-- the arrays RA and CA of each destination get the rows and the columns of the holders, where they are asked for
abbrev pub located : Grid → List ℕ → (ℕ → Bool) → List Held → Part → Option (ℕ × ℕ) → GridState → GridState
located g ranks test fs part None s = s
located g ranks test fs part (Some rc) s =
    given_to test Ge (corner_part rc.1 part) (holder_columns g ranks fs) (given_to test Ge (corner_part rc.0 part) (holder_rows g ranks fs) s)

-- SUM, AMX, AMN: the elements of each destination's part get the folds over the scope, and RA and CA where they are asked for the places of the holders
unfoldable pub combine_line : Grid → Scope → Option (ℕ × ℕ) → FoldKind → Part → Option (ℕ × ℕ) → GridState → GridState
combine_line g scope dest kind part rc s =
    located g (members g scope) (is_destination g scope dest) (folds kind (members g scope) part s) part rc
    (given_to (is_destination g scope dest) Ge part (fold_values (folds kind (members g scope) part s)) s)
