-- The words of a line that is text.
use Rattle.std.proofs.Common.{◌≡◌, ℕ, Bool, true, false, cond, List, [], ◌∷◌, arith, refl, subst}
use Rattle.std.specs.Prelude.{◌&&◌, ◌==◌, nat_le}
use Rattle.std.specs.List.{list_all}
use Rattle.std.specs.Char.{is_ascii}
use Rattle.std.proofs.lemmas.Bool.{leb-true, lt-ltb, eqb-true}
use Rattle.line_text.specs.Words.{is_blank, before_first_part, parts, not_empty, words}
use Rattle.grid_lang.specs.Reading.{AreAscii}
use Rattle.line_text.specs.TextBytes.{is_text_byte}
use Rattle.grid_lang.specs.Programs.{first_word}
use Rattle.grid_lang.proofs.IdentSteps.{both, one_of}
use mathlib.Core.Logic.{inl, inr}

byte_is_ascii : (b : ℕ) → is_text_byte b ≡ true → is_ascii b ≡ true
byte_is_ascii b e =
    elim (one_of (b == 9) (nat_le 32 b && nat_le b 126) e) [
      | inl h ↦ let same = eqb-true b 9 h in lt-ltb b 128 (omega arith)
      | inr h ↦ let most = leb-true b 126 (both (nat_le 32 b) (nat_le b 126) h).1 in lt-ltb b 128 (omega arith)
    ]

pub bytes_are_ascii : (bs : List ℕ) → list_all is_text_byte bs ≡ true → list_all is_ascii bs ≡ true
bytes_are_ascii [] all = refl
bytes_are_ascii (b ∷ bs) all =
    let cut = both (is_text_byte b) (list_all is_text_byte bs) all in
    let here : is_ascii b ≡ true = byte_is_ascii b cut.0 in
    let rest : list_all is_ascii bs ≡ true = bytes_are_ascii bs cut.1 in
    rw (here, rest) refl

-- the first of such words, and the others
pub ascii_first : (old new : List (List ℕ)) (word : List ℕ) → AreAscii old → old ≡ word ∷ new → list_all is_ascii word ≡ true
ascii_first old new word all e = (both (list_all is_ascii word) (list_all (λ w. list_all is_ascii w) new) (subst AreAscii e all)).0

pub ascii_more : (old new : List (List ℕ)) (word : List ℕ) → AreAscii old → old ≡ word ∷ new → AreAscii new
ascii_more old new word all e = (both (list_all is_ascii word) (list_all (λ w. list_all is_ascii w) new) (subst AreAscii e all)).1

in_front : (b : ℕ) (ps : List (List ℕ)) → is_ascii b ≡ true → AreAscii ps → AreAscii (before_first_part b ps)
in_front b [] is all = rw is refl
in_front b (p ∷ ps) is all = rw is all

parts_case : (b : ℕ) (bs : List ℕ) (t : Bool) → is_ascii b ≡ true → AreAscii (parts bs) → AreAscii (cond t ([] ∷ parts bs) (before_first_part b (parts bs)))
parts_case b bs true is all = all
parts_case b bs false is all = in_front b (parts bs) is all

parts_are : (bs : List ℕ) → list_all is_ascii bs ≡ true → AreAscii (parts bs)
unfolding parts
parts_are [] all = refl
parts_are (b ∷ bs) all =
    let cut = both (is_ascii b) (list_all is_ascii bs) all in
    parts_case b bs (is_blank b) cut.0 (parts_are bs cut.1)

kept_are : (ps : List (List ℕ)) → AreAscii ps → AreAscii (not_empty ps)
unfolding not_empty
kept_are [] all = refl
kept_are ([] ∷ ps) all = kept_are ps all
kept_are ((b ∷ bs) ∷ ps) all =
    let cut = both (list_all is_ascii (b ∷ bs)) (list_all (λ w. list_all is_ascii w) ps) all in
    let here : list_all is_ascii (b ∷ bs) ≡ true = cut.0 in
    let rest : AreAscii (not_empty ps) = kept_are ps cut.1 in
    rw (here, rest) refl

pub words_are_ascii : (line : List ℕ) → list_all is_text_byte line ≡ true → AreAscii (words line)
words_are_ascii line all = kept_are (parts line) (parts_are line (bytes_are_ascii line all))

-- the first word
pub first_is : (line word behind : List ℕ) → words line ≡ word ∷ words behind → word ≡ first_word (words line)
first_is line word behind e = rw e refl

pub first_none : (line : List ℕ) → words line ≡ [] → [] ≡ first_word (words line)
first_none line e = rw e refl

pub first_ascii : (line word behind : List ℕ) → AreAscii (words line) → words line ≡ word ∷ words behind → list_all is_ascii word ≡ true
first_ascii line word behind all e = ascii_first (words line) (words behind) word all e
