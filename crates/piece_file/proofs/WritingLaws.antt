-- A piece that was put part by part.
use Rattle.std.proofs.Common.{◌≡◌, ℕ, ◌+◌, ◌<◌, ◌≤◌, List, [], ◌∷◌, ◌++◌, length, take, drop, get_or, sym, ap, subst, ◌∙◌, append-nil, zero, suc, ◌*◌, ◌^◌, Bool, true, false, cond, ℤ, refl, arith}
use Rattle.std.specs.Fmt.{decimal}
use Rattle.std.specs.List.{flat_map}
use Rattle.std.proofs.lemmas.Grind.{flat_map-append}
use Rattle.std.proofs.lemmas.List.{take_more, take_all, take-append-drop}
use Rattle.store_io.specs.Outside.{Outside}
use Rattle.text_io.specs.Writing.{PutsOn, PutsFront}
use Rattle.text_io.proofs.Putting.{puts_then, front_then, front_more}
use Rattle.std.specs.Prelude.{max, FitsSigned, ◌==◌}
use Rattle.std.specs.List.{AllByRecursion}
use Rattle.std.specs.Int.{w32}
use Rattle.index_tools.specs.Spread.{Spread, below, owner}
use Rattle.index_tools.specs.Home.{local_columns, column_spread}
use Rattle.mm_grammar.specs.Width.{width32, is_in_range}
use Rattle.mm_grammar.proofs.Ranges.{i32_in_range}
use Rattle.pack_words.specs.LocalCells.{LocalCells, IsLocalCells}
use Rattle.pack_words.proofs.CellsLemmas.{values_are_words}
use Rattle.mm_text.specs.LocalMatrix.{local_matrix}
use Rattle.piece_grammar.specs.Head.{Head, IsHead, layout_of, array_columns, array_of}
use Rattle.piece_grammar.proofs.PlainPieceLaws.{reads_back}
use Rattle.piece_file.specs.PieceView.{array_piece}
use Rattle.piece_grammar.specs.PlainPiece.{spaced, piece_text, IsWhole, ReadsBack}

-- a space and a number
pub puts_spaced : (a b c : Outside) (p q r : List ℕ) (n : ℕ) → PutsOn a b p q (32 ∷ []) → b.output ≡ a.output → PutsOn b c q r (decimal n) → PutsOn a c p r (spaced n)
puts_spaced a b c p q r n first same then = puts_then a b c p q r (32 ∷ []) (decimal n) first same then

pub front_spaced : (a b c : Outside) (p q : List ℕ) (n : ℕ) → PutsOn a b p q (32 ∷ []) → b.output ≡ a.output → PutsFront b c (q ++ decimal n) → PutsFront a c (p ++ spaced n)
front_spaced a b c p q n first same then = front_then a b c p q (32 ∷ []) (decimal n) first same then

pub front_space : (a b : Outside) (p : List ℕ) (n : ℕ) → PutsFront a b (p ++ 32 ∷ []) → PutsFront a b (p ++ spaced n)
front_space a b p n first = front_more a b p (32 ∷ []) (decimal n) first

next_text : (numbers : List ℕ) (i n : ℕ) → i < length numbers → n ≡ get_or numbers i 0 → flat_map spaced (take (i + 1) numbers) ≡ flat_map spaced (take i numbers) ++ spaced n
next_text numbers i n lt is =
    ap (flat_map spaced) (take_more numbers i 0 lt ∙ ap (λ (m : ℕ). take i numbers ++ m ∷ []) (sym is))
    ∙ flat_map-append spaced (take i numbers) (n ∷ []) ∙ ap (λ t. flat_map spaced (take i numbers) ++ t) (append-nil (spaced n))

-- one number more was put
pub puts_number : (old mid new : Outside) (p q r : List ℕ) (numbers : List ℕ) (i n : ℕ) → i < length numbers → n ≡ get_or numbers i 0
    → PutsOn old mid p q (flat_map spaced (take i numbers)) → mid.output ≡ old.output → PutsOn mid new q r (spaced n) → PutsOn old new p r (flat_map spaced (take (i + 1) numbers))
puts_number old mid new p q r numbers i n lt is first same then = rw (next_text numbers i n lt is) (puts_then old mid new p q r _ _ first same then)

-- of the next number a front
pub front_number : (old mid new : Outside) (p q : List ℕ) (numbers : List ℕ) (i n : ℕ) → i < length numbers → n ≡ get_or numbers i 0
    → PutsOn old mid p q (flat_map spaced (take i numbers)) → mid.output ≡ old.output → PutsFront mid new (q ++ spaced n) → PutsFront old new (p ++ flat_map spaced numbers)
front_number old mid new p q numbers i n lt is first same then =
    let here : PutsFront old new (p ++ flat_map spaced (take (i + 1) numbers)) = rw (next_text numbers i n lt is) (front_then old mid new p q _ _ first same then) in
    let P : List ℕ → Type 0 = λ t. PutsFront old new (p ++ t) in
    let whole : flat_map spaced (take (i + 1) numbers) ++ flat_map spaced (drop (i + 1) numbers) ≡ flat_map spaced numbers = sym (flat_map-append spaced (take (i + 1) numbers) (drop (i + 1) numbers)) ∙ ap (flat_map spaced) (take-append-drop (i + 1) numbers) in
    subst P whole (front_more old new p _ _ here)

pub all_numbers : (numbers : List ℕ) (i : ℕ) → length numbers ≤ i → take i numbers ≡ numbers
all_numbers numbers i le = take_all i numbers le

-- ---- a local array

below_most : (s : Spread) (p n : ℕ) → below s p n ≤ n
unfolding below
below_most s p zero = omega arith
below_most s p (suc n) =
    let h : below s p n ≤ n = below_most s p n in
    one_more (owner s n == p) h
  where
    one_more : (t : Bool) → below s p n ≤ n → below s p n + cond t 1 0 ≤ suc n
    one_more true h = omega arith
    one_more false h = omega arith

columns_few : (head : Head) → IsHead head → array_columns head ≤ 2 ^ 24
columns_few head good =
    let n : head.n ≤ 2 ^ 24 = good.columns_fit in
    let b : local_columns (layout_of head) head.pcol ≤ head.n = below_most (column_spread (layout_of head)) head.pcol head.n in
    most (local_columns (layout_of head) head.pcol) (omega arith)
  where
    most : (a : ℕ) → a ≤ 2 ^ 24 → max 1 a ≤ 2 ^ 24
    most a h = omega arith

array_is : (head : Head) (cells : LocalCells) → IsLocalCells cells → cells.lld ≡ head.lld → cells.cols ≡ array_columns head → array_of (array_piece head cells) ≡ local_matrix cells
array_is head cells is rows columns = rw (values_are_words cells is, rows, columns) refl

pub local_text : (head : Head) (cells : LocalCells) → IsLocalCells cells → cells.lld ≡ head.lld → cells.cols ≡ array_columns head → piece_text head (local_matrix cells) ≡ piece_text head (array_of (array_piece head cells))
local_text head cells is rows columns = ap (piece_text head) (sym (array_is head cells is rows columns))

words_fit : (ws : List ℤ) → AllByRecursion (FitsSigned w32) ws → AllByRecursion (λ v. is_in_range width32 v ≡ true) ws
words_fit [] all = tt
words_fit (w ∷ ws) all = (i32_in_range w all.0, words_fit ws all.1)

whole : (head : Head) (cells : LocalCells) → IsHead head → IsLocalCells cells → cells.lld ≡ head.lld → cells.cols ≡ array_columns head → IsWhole (array_piece head cells)
whole head cells good is rows columns =
    let n : head.n ≤ 2 ^ 24 = good.columns_fit in
    let area : cells.lld * cells.cols ≤ 2 ^ 26 = is.area_fits in
    let count : length cells.words ≡ cells.lld * cells.cols = is.count in
    let same : cells.lld * cells.cols ≡ head.lld * array_columns head = ap (λ (k : ℕ). k * cells.cols) rows ∙ ap (λ (k : ℕ). head.lld * k) columns in
    record {
      is_head = good;
      is_array = record {
        rows_fit = good.lead_fits;
        columns_fit = columns_few head good;
        area_fits = omega (arith, same);
        count = count ∙ same;
        each = words_fit cells.words is.each;
      };
    }

pub local_back : (head : Head) (cells : LocalCells) → IsHead head → IsLocalCells cells → cells.lld ≡ head.lld → cells.cols ≡ array_columns head → ReadsBack (array_piece head cells)
local_back head cells good is rows columns = reads_back (array_piece head cells) (whole head cells good is rows columns)
