-- The text of a piece is a text of this piece, and of no other one.
use Rattle.std.proofs.Common.{◌≡◌, ℕ, ◌+◌, ◌-◌, ◌*◌, ◌^◌, ◌<◌, ◌≤◌, true, pos, List, [], ◌∷◌, ◌++◌, map, length, Option, Some, refl, sym, ap, ◌∙◌, append-nil, arith, nat_lt}
use Rattle.std.specs.List.{AllByRecursion, list_all, flat_map}
use Rattle.std.specs.Fmt.{decimal}
use Rattle.std.proofs.lemmas.Fmt.{length-decimal-le}
use Rattle.std.proofs.lemmas.Bool.{lt-ltb}
use Rattle.std.proofs.lemmas.List.{length-append}
use Rattle.line_text.specs.Lines.{ended, text_of_lines}
use Rattle.line_text.specs.Words.{words, IsWord}
use Rattle.line_text.specs.Numbers.{signed_number}
use Rattle.line_text.proofs.Answers.{ok_is}
use Rattle.line_text.proofs.WordLaws.{words_one, words_more}
use Rattle.line_text.proofs.NumberLaws.{signed_number_decimal}
use Rattle.mm_grammar.specs.Width.{width32}
use Rattle.mm_grammar.specs.Matrix.{Matrix}
use Rattle.mm_grammar.specs.FileLines.{Line, file_lines, is_text_byte}
use Rattle.mm_grammar.specs.PlainText.{banner_line, cell_lines}
use Rattle.mm_grammar.specs.Place as at
use Rattle.mm_grammar.specs.Reading as matrix_reading
use Rattle.mm_grammar.proofs.Written.{decimal_digits, digits_text, decimal_word, text_line, text_append, placed, file_placed, written_fits}
use Rattle.mm_grammar.proofs.PlainLaws.{banner_text, banner_long, banner_at, is_banner, cells_are_lines, cells_accepted, cells_short}
use Rattle.mm_grammar.proofs.Laws as matrix_laws
use Rattle.piece_grammar.specs.Head.{Head, IsHead, Piece, array_of}
use Rattle.piece_grammar.specs.Desc.{Desc, desc_word, numbers_of, desc_numbered, desc_if_all, desc_words, desc_of, desc_of_head, head_of}
use Rattle.piece_grammar.specs.PieceText.{IsPiece, IsPieceText}
use Rattle.piece_grammar.specs.PlainPiece.{head_numbers, spaced, desc_numbers, desc_line, piece_text, IsWhole, ReadsBack}
use Rattle.piece_grammar.proofs.GoodHeads.{tested}

-- ---- the line of the head

-- numbers that are at most 2^24
abbrev AreSmall : List ℕ → Type 0
AreSmall ns = AllByRecursion (λ n. n ≤ 2 ^ 24) ns

small_numbers : (h : Head) → IsHead h → AreSmall (head_numbers h)
small_numbers h is =
    let a : h.nprow ≤ 64 = is.few_rows in
    let b : h.npcol ≤ 64 = is.few_columns in
    let p : h.prow < h.nprow = is.row in
    let q : h.pcol < h.npcol = is.column in
    let rs : h.rsrc < h.nprow = is.row_source in
    let cs : h.csrc < h.npcol = is.column_source in
    (omega arith, (omega arith, (omega arith, (omega arith, (is.rows_fit, (is.columns_fit, (is.row_block_fits, (is.column_block_fits, (omega arith, (omega arith, (is.lead_fits, tt)))))))))))

-- the words of a word and numbers after it
numbers_words : (word : List ℕ) (ns : List ℕ) → IsWord word → AreSmall ns → words (word ++ flat_map spaced ns) ≡ word ∷ map decimal ns
numbers_words word [] is all = ap words (append-nil word) ∙ words_one word is
numbers_words word (n ∷ ns) is all =
    let n_small : n ≤ 2 ^ 24 = all.0 in
    words_more word (decimal n ++ flat_map spaced ns) is ∙ ap (λ (ws : List (List ℕ)). word ∷ ws) (numbers_words (decimal n) ns (decimal_word n (omega arith)) all.1)

numbers_read : (ns : List ℕ) → AreSmall ns → numbers_of (map decimal ns) ≡ Some (map (λ n. pos n) ns)
unfolding numbers_of
numbers_read [] all = refl
numbers_read (n ∷ ns) all =
    let n_small : n ≤ 2 ^ 24 = all.0 in
    let one : signed_number (decimal n) ≡ Some (pos n) = signed_number_decimal (pos n) (let f : n < 2 ^ 63 = omega arith in f) in
    let fits : nat_lt n (2 ^ 31) ≡ true = lt-ltb n (2 ^ 31) (omega arith) in
    rw (one, fits, numbers_read ns all.1) refl

mark_word : IsWord desc_word
unfolding IsWord desc_word
mark_word = (refl, (refl, (refl, (refl, (refl, tt)))))

line_words : (h : Head) → IsHead h → words (desc_line h) ≡ desc_word ∷ map decimal (head_numbers h)
unfolding desc_numbers
line_words h is = numbers_words desc_word (head_numbers h) mark_word (small_numbers h is)

marked : (ws : List (List ℕ)) → desc_words (desc_word ∷ ws) ≡ desc_if_all (numbers_of ws)
unfolding desc_words desc_word
marked ws = refl

eleven : (h : Head) → desc_numbered (map (λ n. pos n) (head_numbers h)) ≡ Some (desc_of_head h)
unfolding desc_numbered
eleven h = refl

from_first : (h : Head) → desc_of (desc_line h) ≡ desc_words (words (desc_line h))
unfolding desc_word
from_first h = refl

says_head : (h : Head) → IsHead h → desc_of (desc_line h) ≡ Some (desc_of_head h)
says_head h is =
    from_first h ∙ ap desc_words (line_words h is) ∙ marked (map decimal (head_numbers h)) ∙ ap desc_if_all (numbers_read (head_numbers h) (small_numbers h is)) ∙ eleven h

numbers_text : (ns : List ℕ) → AreSmall ns → list_all is_text_byte (flat_map spaced ns) ≡ true
numbers_text [] all = refl
numbers_text (n ∷ ns) all =
    let n_small : n ≤ 2 ^ 24 = all.0 in
    text_append (decimal n) (flat_map spaced ns) (digits_text (decimal n) (decimal_digits n (omega arith))) (numbers_text ns all.1)

mark_text : list_all is_text_byte desc_word ≡ true
unfolding desc_word
mark_text = refl

line_text : (h : Head) → IsHead h → list_all is_text_byte (desc_line h) ≡ true
unfolding desc_numbers
line_text h is = text_append desc_word (flat_map spaced (head_numbers h)) mark_text (numbers_text (head_numbers h) (small_numbers h is))

numbers_short : (ns : List ℕ) → AreSmall ns → length (flat_map spaced ns) ≤ length ns * 9
numbers_short [] all = omega arith
numbers_short (n ∷ ns) all =
    let n_small : n ≤ 2 ^ 24 = all.0 in
    let one : length (decimal n) ≤ 8 = length-decimal-le 8 n (omega arith) (omega arith) (omega arith) in
    let both : length (decimal n ++ flat_map spaced ns) ≡ length (decimal n) + length (flat_map spaced ns) = length-append (decimal n) (flat_map spaced ns) in
    let more : length (flat_map spaced ns) ≤ length ns * 9 = numbers_short ns all.1 in
    omega arith

mark_long : length desc_word ≡ 5
unfolding desc_word
mark_long = refl

line_short : (h : Head) → IsHead h → length (desc_line h) ≤ 104
unfolding desc_numbers
line_short h is =
    let a : length (desc_word ++ flat_map spaced (head_numbers h)) ≡ length desc_word + length (flat_map spaced (head_numbers h)) = length-append desc_word (flat_map spaced (head_numbers h)) in
    let b : length (flat_map spaced (head_numbers h)) ≤ 11 * 9 = numbers_short (head_numbers h) (small_numbers h is) in
    let c : length desc_word ≡ 5 = mark_long in
    omega arith

-- ---- the whole text

written_accepted : (p : Piece) → IsWhole p → IsPieceText (piece_text p.head (array_of p)) p
unfolding piece_text
written_accepted p is =
    let h : Head = p.head in
    let m : Matrix = array_of p in
    let start : ℕ = 0 + length (ended banner_line) in
    let at : ℕ = start + length (ended (desc_line h)) in
    let a : length (ended banner_line) ≡ length banner_line + 1 = length-append banner_line (10 ∷ []) in
    let b : length banner_line ≡ 43 = banner_long in
    let c : length (ended (desc_line h)) ≡ length (desc_line h) + 1 = length-append (desc_line h) (10 ∷ []) in
    let d : length (desc_line h) ≤ 104 = line_short h is.is_head in
    let e : length (text_of_lines (cell_lines m)) ≤ 2 ^ 30 - 200 = cells_short width32 m is.is_array in
    record {
      banner = banner_at;
      desc = record { text = desc_line h; upto = at };
      rest = placed at (cell_lines m);
      whole = file_placed (banner_line ∷ desc_line h ∷ cell_lines m) (text_line banner_line banner_text, (text_line (desc_line h) (line_text h is.is_head), cells_are_lines width32 m is.is_array));
      is_banner = is_banner start (omega arith);
      is_desc = record {
        fits = written_fits (desc_line h) at (line_text h is.is_head) (omega arith) (omega arith);
        says = says_head h is.is_head;
        on_grid = (tested.passes h is.is_head).0;
        good = (tested.passes h is.is_head).1;
      };
      array = cells_accepted width32 m at is.is_array (omega arith);
    }

-- ---- a text of just one piece

-- Some lines are a text of one piece at most.
one_piece : (lines : List Line) (p q : Piece) → IsPiece lines p → IsPiece lines q → q ≡ p
one_piece lines p q a b =
    let same : b.banner ∷ b.desc ∷ b.rest ≡ a.banner ∷ a.desc ∷ a.rest = sym b.whole ∙ a.whole in
    let desc : b.desc ≡ a.desc = cc in
    let whole : b.banner ∷ b.rest ≡ a.banner ∷ a.rest = cc in
    let said : ◌≡◌ {A = Option Desc} (Some (desc_of_head q.head)) (Some (desc_of_head p.head)) = sym b.is_desc.says ∙ ap (λ (line : Line). desc_of line.text) desc ∙ a.is_desc.says in
    let descs : desc_of_head q.head ≡ desc_of_head p.head = cc in
    let array : array_of q ≡ array_of p = ok_is (array_of q) (array_of p)
    (sym (matrix_laws.read_accepted width32 (b.banner ∷ b.rest) (array_of q) b.array)
    ∙ ap (λ (ls : List Line). matrix_reading.read_on width32 1 at.AtBanner ls) whole
    ∙ matrix_laws.read_accepted width32 (a.banner ∷ a.rest) (array_of p) a.array) in
    both (ap head_of descs) (ap (λ (m : Matrix). m.values) array)
  where
    both : q.head ≡ p.head → q.words ≡ p.words → q ≡ p
    both e f = rw (← e, ← f) refl

pub reads_back : (p : Piece) → IsWhole p → ReadsBack p
reads_back p is = record { again = written_accepted p is; alone = λ q other. one_piece (file_lines (piece_text p.head (array_of p))) p q (written_accepted p is) other }
