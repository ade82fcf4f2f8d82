-- What `clap` sees in a word, by the word's kind.
use Rattle.std.proofs.Common.{◌≡◌, ℕ, suc, ◌==◌, Bool, true, false, List, [], ◌∷◌, Option, Some, None, refl, sym, ap, ◌∙◌, subst, length, eqb-true}
use Rattle.std.specs.Prelude.{slice_get, encode_utf8_all}
use Rattle.std.specs.Char.{encode_utf8}
use Rattle.std.specs.Str.{bytes_eq, chars, IsUtf8}
use Rattle.std.proofs.lemmas.Str.{chars-encodes}
use Rattle.clap.specs.Lexer.{long_of, short_of}
use Rattle.std.specs.List.{before_first}
use Rattle.tool_words.specs.Given.{Text, value_in, place, end, odd, option_kind, kind_of}

abbrev pub dashes : Text
dashes = 45 ∷ 45 ∷ []

pub data Look (x : Text) : Type 0 where
  looks_place : kind_of x ≡ place → bytes_eq x dashes ≡ false → long_of x ≡ None → short_of x ≡ None → Look x
  looks_end : kind_of x ≡ end → bytes_eq x dashes ≡ true → Look x
  looks_long : (n : Text) (v : Option Text) → kind_of x ≡ option_kind n v → bytes_eq x dashes ≡ false → long_of x ≡ Some (n, v) → Look x
  looks_short : (flags : Text) (f k : ℕ) → kind_of x ≡ odd → bytes_eq x dashes ≡ false → long_of x ≡ None → short_of x ≡ Some flags → slice_get (chars flags) 0 ≡ Some f → length flags ≡ suc k → Look x

-- a text behind a minus begins with a character
alone_ends : (c : ℕ) (bs : List ℕ) → encode_utf8_all (45 ∷ []) ≡ 45 ∷ c ∷ bs → ⊥
unfolding encode_utf8
alone_ends c bs e = cc

first_of : (cs : List ℕ) → (cs ≡ [] → ⊥) → (f : ℕ) × (slice_get cs 0 ≡ Some f)
first_of [] some = absurd (some refl)
first_of (c ∷ cs) some = (c, refl)

chars_next : (c : ℕ) (bs : List ℕ) → chars (45 ∷ c ∷ bs) ≡ 45 ∷ chars (c ∷ bs)
unfolding chars
chars_next c bs = refl

pub first_behind : (c : ℕ) (bs : List ℕ) → IsUtf8 (45 ∷ c ∷ bs) → (f : ℕ) × (slice_get (chars (c ∷ bs)) 0 ≡ Some f)
first_behind c bs (cs, (good, spelled)) =
    let read : cs ≡ 45 ∷ chars (c ∷ bs) = sym (chars-encodes cs good) ∙ ap chars spelled ∙ chars_next c bs in
    first_of (chars (c ∷ bs)) (λ none. alone_ends c bs (ap encode_utf8_all (sym (read ∙ ap (λ t. 45 ∷ t) none)) ∙ spelled))

one : (b : ℕ) (is : Bool) → (b == 45) ≡ is → Look (b ∷ [])
unfolding kind_of
one b true e = looks_place refl (rw e refl) (rw e refl) (rw e refl)
one b false e = looks_place refl (rw e refl) (rw e refl) (rw e refl)

two : (b c : ℕ) (bs : List ℕ) (is next : Bool) → (b == 45) ≡ is → (c == 45) ≡ next → IsUtf8 (b ∷ c ∷ bs) → Look (b ∷ c ∷ bs)
unfolding kind_of
two b c bs false next e f u = looks_place (rw e refl) (rw e refl) (rw e refl) (rw e refl)
two b c [] true true e f u = looks_end (rw (e, f) refl) (rw (e, f) refl)
two b c (d ∷ bs) true true e f u = looks_long (before_first (λ t. t == 61) (d ∷ bs)) (value_in (d ∷ bs)) (rw (e, f) refl) (rw (e, f) refl) (rw (e, f) refl)
two b c bs true false e f u =
    let first = first_behind c bs (subst (λ (t : ℕ). IsUtf8 (t ∷ c ∷ bs)) (eqb-true b 45 e) u) in
    looks_short (c ∷ bs) first.0 (length bs) (rw (e, f) refl) (rw (e, f) refl) (rw (e, f) refl) (rw (e, f) refl) first.1 refl

pub look : (x : Text) → IsUtf8 x → Look x
unfolding kind_of
look [] u = looks_place refl refl refl refl
look (b ∷ []) u = one b (b == 45) refl
look (b ∷ c ∷ bs) u = two b c bs (b == 45) (c == 45) refl refl u
