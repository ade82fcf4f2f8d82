-- The words of a head's line as numbers.
use Rattle.std.proofs.Common.{◌≡◌, ◌≢◌, ℕ, ◌+◌, ◌<◌, ◌≤◌, ℤ, pos, List, [], ◌∷◌, ◌++◌, length, take, get_or, set, take_all, Option, Some, None, refl, sym, ap, ◌∙◌, append_assoc, append-nil, length-append, length-take, arith}
use Rattle.std.specs.Option.{option_map}
use Rattle.std.proofs.lemmas.List.{take_more_set}
use Rattle.line_text.specs.Numbers.{signed_number}
use Rattle.piece_grammar.specs.Desc.{in_32_bits, before_numbers, numbers_of, desc_numbered, desc_if_all}

-- ---- one word after the other

-- numbers in front of others, if those are there
abbrev in_front : List ℤ → Option (List ℤ) → Option (List ℤ)
in_front ns o = option_map (λ (more : List ℤ). ns ++ more) o

-- The words of the line give the numbers that were read and those of the words that are left.
pub record IsReadTo (words left : List (List ℕ)) (numbers : List ℤ) : Type 0 where
  pub gives : numbers_of words ≡ in_front numbers (numbers_of left)

nothing_in_front : (o : Option (List ℤ)) → o ≡ in_front [] o
nothing_in_front None = refl
nothing_in_front (Some ns) = refl

pub none_read : (words : List (List ℕ)) (numbers : List ℤ) → IsReadTo words words (take 0 numbers)
none_read words numbers = record { gives = nothing_in_front (numbers_of words) }

one_in_front : (ns : List ℤ) (v : ℤ) (o : Option (List ℤ)) → in_front ns (before_numbers (Some v) o) ≡ in_front (ns ++ v ∷ []) o
one_in_front ns v None = refl
one_in_front ns v (Some more) = ap (λ (l : List ℤ). Some l) (sym (append_assoc ns (v ∷ []) more))

next_number : (word : List ℕ) (words : List (List ℕ)) (v : ℤ) → Some v ≡ in_32_bits (signed_number word) → numbers_of (word ∷ words) ≡ before_numbers (Some v) (numbers_of words)
unfolding numbers_of
next_number word words v e = ap (λ (o : Option ℤ). before_numbers o (numbers_of words)) (sym e)

pub one_read : (words left behind : List (List ℕ)) (word : List ℕ) (numbers : List ℤ) (k : ℕ) (v : ℤ) → k < length numbers → IsReadTo words left (take k numbers) → left ≡ word ∷ behind → Some v ≡ in_32_bits (signed_number word)
    → IsReadTo words behind (take (k + 1) (set numbers k v))
one_read words left behind word numbers k v less r is e = record {
  gives = r.gives
      ∙ ap (λ (ws : List (List ℕ)). in_front (take k numbers) (numbers_of ws)) is
      ∙ ap (in_front (take k numbers)) (next_number word behind v e)
      ∙ one_in_front (take k numbers) v (numbers_of behind)
      ∙ ap (λ (ns : List ℤ). in_front ns (numbers_of behind)) (sym (take_more_set numbers k v less));
}

-- ---- too few numbers, a word that is none, and too many

not_eleven : (ns : List ℤ) → length ns ≢ 11 → desc_numbered ns ≡ None
unfolding desc_numbered
not_eleven [] ne = refl
not_eleven (a ∷ []) ne = refl
not_eleven (a ∷ b ∷ []) ne = refl
not_eleven (a ∷ b ∷ c ∷ []) ne = refl
not_eleven (a ∷ b ∷ c ∷ d ∷ []) ne = refl
not_eleven (a ∷ b ∷ c ∷ d ∷ e ∷ []) ne = refl
not_eleven (a ∷ b ∷ c ∷ d ∷ e ∷ f ∷ []) ne = refl
not_eleven (a ∷ b ∷ c ∷ d ∷ e ∷ f ∷ g ∷ []) ne = refl
not_eleven (a ∷ b ∷ c ∷ d ∷ e ∷ f ∷ g ∷ h ∷ []) ne = refl
not_eleven (a ∷ b ∷ c ∷ d ∷ e ∷ f ∷ g ∷ h ∷ i ∷ []) ne = refl
not_eleven (a ∷ b ∷ c ∷ d ∷ e ∷ f ∷ g ∷ h ∷ i ∷ j ∷ []) ne = refl
not_eleven (a ∷ b ∷ c ∷ d ∷ e ∷ f ∷ g ∷ h ∷ i ∷ j ∷ k ∷ []) ne = absurd (ne refl)
not_eleven (a ∷ b ∷ c ∷ d ∷ e ∷ f ∷ g ∷ h ∷ i ∷ j ∷ k ∷ l ∷ ns) ne = refl

no_words : numbers_of [] ≡ Some []
unfolding numbers_of
no_words = refl

pub too_few : (words left : List (List ℕ)) (numbers : List ℤ) (k : ℕ) → length numbers ≡ 11 → k < 11 → IsReadTo words left (take k numbers) → left ≡ [] → desc_if_all (numbers_of words) ≡ None
too_few words left numbers k long less r is =
    let all : numbers_of words ≡ Some (take k numbers ++ []) = r.gives ∙ ap (λ (ws : List (List ℕ)). in_front (take k numbers) (numbers_of ws)) is ∙ ap (in_front (take k numbers)) no_words in
    ap desc_if_all all ∙ not_eleven (take k numbers ++ []) (λ e. omega (arith, e, length-append {A = ℤ}, length-take {A = ℤ}))

bad_word : (word : List ℕ) (words : List (List ℕ)) → None ≡ in_32_bits (signed_number word) → numbers_of (word ∷ words) ≡ None
unfolding numbers_of
bad_word word words e = ap (λ (o : Option ℤ). before_numbers o (numbers_of words)) (sym e)

pub no_number : (words left behind : List (List ℕ)) (word : List ℕ) (numbers : List ℤ) → IsReadTo words left numbers → left ≡ word ∷ behind → None ≡ in_32_bits (signed_number word) → desc_if_all (numbers_of words) ≡ None
no_number words left behind word numbers r is e =
    ap desc_if_all (r.gives ∙ ap (λ (ws : List (List ℕ)). in_front numbers (numbers_of ws)) is ∙ ap (in_front numbers) (bad_word word behind e))

more_than_eleven : (ns : List ℤ) (o p : Option (List ℤ)) (v : Option ℤ) → length ns ≡ 11 → desc_if_all (in_front ns (before_numbers v p)) ≡ None
more_than_eleven ns o p None long = refl
more_than_eleven ns o None (Some v) long = refl
more_than_eleven ns o (Some more) (Some v) long = not_eleven (ns ++ v ∷ more) (λ e. omega (arith, e, length-append {A = ℤ}))

first_number : (word : List ℕ) (words : List (List ℕ)) → numbers_of (word ∷ words) ≡ before_numbers (in_32_bits (signed_number word)) (numbers_of words)
unfolding numbers_of
first_number word words = refl

pub too_many : (words left behind : List (List ℕ)) (word : List ℕ) (numbers : List ℤ) (k : ℕ) → length numbers ≡ 11 → 11 ≤ k → IsReadTo words left (take k numbers) → left ≡ word ∷ behind → desc_if_all (numbers_of words) ≡ None
too_many words left behind word numbers k long all r is =
    ap desc_if_all (r.gives ∙ ap (λ (ws : List (List ℕ)). in_front (take k numbers) (numbers_of ws)) is ∙ ap (in_front (take k numbers)) (first_number word behind))
    ∙ more_than_eleven (take k numbers) None (numbers_of behind) (in_32_bits (signed_number word)) (omega (arith, length-take {A = ℤ}))

pub all_read : (words left : List (List ℕ)) (numbers : List ℤ) (k : ℕ) → length numbers ≡ 11 → 11 ≤ k → IsReadTo words left (take k numbers) → left ≡ [] → numbers_of words ≡ Some numbers
all_read words left numbers k long all r is =
    r.gives
    ∙ ap (λ (ws : List (List ℕ)). in_front (take k numbers) (numbers_of ws)) is
    ∙ ap (in_front (take k numbers)) no_words
    ∙ ap (λ (ns : List ℤ). Some ns) (append-nil (take k numbers) ∙ take_all k numbers (omega arith))

-- ---- the numbers by their places

pub eleven : (ns : List ℤ) (x : ℤ) → length ns ≡ 11
    → Some (record {
      nprow = get_or ns 0 x;
      npcol = get_or ns 1 x;
      prow = get_or ns 2 x;
      pcol = get_or ns 3 x;
      m = get_or ns 4 x;
      n = get_or ns 5 x;
      mb = get_or ns 6 x;
      nb = get_or ns 7 x;
      rsrc = get_or ns 8 x;
      csrc = get_or ns 9 x;
      lld = get_or ns 10 x;
    }) ≡ desc_numbered ns
unfolding desc_numbered
eleven [] x long = absurd (omega arith)
eleven (a ∷ []) x long = absurd (omega arith)
eleven (a ∷ b ∷ []) x long = absurd (omega arith)
eleven (a ∷ b ∷ c ∷ []) x long = absurd (omega arith)
eleven (a ∷ b ∷ c ∷ d ∷ []) x long = absurd (omega arith)
eleven (a ∷ b ∷ c ∷ d ∷ e ∷ []) x long = absurd (omega arith)
eleven (a ∷ b ∷ c ∷ d ∷ e ∷ f ∷ []) x long = absurd (omega arith)
eleven (a ∷ b ∷ c ∷ d ∷ e ∷ f ∷ g ∷ []) x long = absurd (omega arith)
eleven (a ∷ b ∷ c ∷ d ∷ e ∷ f ∷ g ∷ h ∷ []) x long = absurd (omega arith)
eleven (a ∷ b ∷ c ∷ d ∷ e ∷ f ∷ g ∷ h ∷ i ∷ []) x long = absurd (omega arith)
eleven (a ∷ b ∷ c ∷ d ∷ e ∷ f ∷ g ∷ h ∷ i ∷ j ∷ []) x long = absurd (omega arith)
eleven (a ∷ b ∷ c ∷ d ∷ e ∷ f ∷ g ∷ h ∷ i ∷ j ∷ k ∷ []) x long = refl
eleven (a ∷ b ∷ c ∷ d ∷ e ∷ f ∷ g ∷ h ∷ i ∷ j ∷ k ∷ l ∷ ns) x long = absurd (omega arith)

-- the same, where each number was read by itself
pub eleven_held : (ns : List ℤ) (a b c d e f g h i j k : ℤ) → length ns ≡ 11 → a ≡ get_or ns 0 (pos 0) → b ≡ get_or ns 1 (pos 0) → c ≡ get_or ns 2 (pos 0) → d ≡ get_or ns 3 (pos 0) → e ≡ get_or ns 4 (pos 0)
    → f ≡ get_or ns 5 (pos 0) → g ≡ get_or ns 6 (pos 0) → h ≡ get_or ns 7 (pos 0) → i ≡ get_or ns 8 (pos 0) → j ≡ get_or ns 9 (pos 0) → k ≡ get_or ns 10 (pos 0)
    → Some (record { nprow = a; npcol = b; prow = c; pcol = d; m = e; n = f; mb = g; nb = h; rsrc = i; csrc = j; lld = k }) ≡ desc_numbered ns
eleven_held ns a b c d e f g h i j k long p0 p1 p2 p3 p4 p5 p6 p7 p8 p9 p10 = rw (p0, p1, p2, p3, p4, p5, p6, p7, p8, p9, p10) (eleven ns (pos 0) long)
