-- Words, byte by byte, and words that are written with a space between them.
use Rattle.std.proofs.Common.{◌≡◌, ℕ, zero, suc, ◌+◌, ◌<◌, ◌≤◌, true, false, List, [], ◌∷◌, ◌++◌, length, take, drop, get_or, get_or-drop, add-zero, length-take, length-drop, refl, sym, ap, ◌∙◌, arith, append-nil}
use Rattle.std.proofs.lemmas.List.{drop_more, drop_all, take-append-drop}
use Rattle.line_text.specs.Words.{is_blank, parts, not_empty, words, IsWord, HasNoBlank}

-- a blank in front
words_blank : (b : ℕ) (bs : List ℕ) → is_blank b ≡ true → words (b ∷ bs) ≡ words bs
unfolding parts not_empty
words_blank b bs is = rw is refl

pub skip_blank : (i : ℕ) (text : List ℕ) → i < length text → is_blank (get_or text i 0) ≡ true → words (drop (i + 1) text) ≡ words (drop i text)
skip_blank i text lt is = rw (drop_more text i 0 lt) (sym (words_blank (get_or text i 0) (drop (i + 1) text) is))

pub no_words : (text : List ℕ) → length text ≤ 0 → words text ≡ []
unfolding parts not_empty
no_words [] le = refl
no_words (b ∷ bs) le = absurd (omega arith)

-- all were blanks
pub blanks_all : (i : ℕ) (text : List ℕ) → length text ≤ i → words (drop i text) ≡ words text → words (drop (length text) text) ≡ words text
blanks_all i text le e = ap words (drop_all (length text) text (omega arith) ∙ sym (drop_all i text le)) ∙ e

part_blank : (bs : List ℕ) (b : ℕ) (rest : List ℕ) → HasNoBlank bs → is_blank b ≡ true → parts (bs ++ b ∷ rest) ≡ bs ∷ parts rest
unfolding parts
part_blank [] b rest all is = rw is refl
part_blank (c ∷ bs) b rest all is = rw (all.0, part_blank bs b rest all.1 is) refl

part_only : (bs : List ℕ) → HasNoBlank bs → parts bs ≡ bs ∷ []
unfolding parts
part_only [] all = refl
part_only (b ∷ bs) all = rw (all.0, part_only bs all.1) refl

-- a word that some bytes begin with
cut_at : (word rest : List ℕ) → 0 < length word → HasNoBlank word → (0 < length rest → is_blank (get_or rest 0 0) ≡ true) → words (word ++ rest) ≡ word ∷ words rest
unfolding parts not_empty
cut_at [] rest some all stop = absurd (omega arith)
cut_at (b ∷ bs) [] some all stop = ap words (append-nil (b ∷ bs)) ∙ ap not_empty (part_only (b ∷ bs) all)
cut_at (b ∷ bs) (c ∷ rest) some all stop =
    let is : is_blank c ≡ true = stop (omega arith) in
    ap not_empty (part_blank (b ∷ bs) c rest all is) ∙ ap (λ (ws : List (List ℕ)). (b ∷ bs) ∷ ws) (sym (words_blank c rest is))

-- a word, a space and more words
pub words_more : (word rest : List ℕ) → IsWord word → words (word ++ 32 ∷ rest) ≡ word ∷ words rest
unfolding IsWord not_empty
words_more [] rest is = absurd is
words_more (b ∷ bs) rest is = ap not_empty (part_blank (b ∷ bs) 32 rest is refl)

-- a word alone
pub words_one : (word : List ℕ) → IsWord word → words word ≡ word ∷ []
unfolding IsWord not_empty
words_one [] is = absurd is
words_one (b ∷ bs) is = ap not_empty (part_only (b ∷ bs) is)

-- the first word, and what stands behind it
pub words_cut : (n : ℕ) (text : List ℕ) → 0 < n → n ≤ length text → HasNoBlank (take n text) → (n < length text → is_blank (get_or text n 0) ≡ true) → words text ≡ take n text ∷ words (drop n text)
words_cut n text some le all stop =
    let cut : words (take n text ++ drop n text) ≡ take n text ∷ words (drop n text) = cut_at (take n text) (drop n text) (omega (arith, length-take {A = ℕ})) all (λ more. rw (get_or-drop n text 0 0, add-zero) (stop (omega (arith, length-drop {A = ℕ})))) in
    ap words (sym (take-append-drop n text)) ∙ cut

pub rest_stops : (n : ℕ) (text : List ℕ) → (n < length text → is_blank (get_or text n 0) ≡ false) → 0 < length (drop n text) → is_blank (get_or (drop n text) 0 0) ≡ false
rest_stops n text stop some = rw (get_or-drop n text 0 0, add-zero) (stop (omega (arith, length-drop {A = ℕ})))

-- a word has a byte
pub some_length : (n : ℕ) (text : List ℕ) → 0 < length text → is_blank (get_or text 0 0) ≡ false → (n < length text → is_blank (get_or text n 0) ≡ true) → 0 < n
some_length zero text some is stop = let bad : true ≡ false = sym (stop some) ∙ is in absurd cc
some_length (suc n) text some is stop = omega arith
