-- What the words ask for, where they are sorted as `clap` sorts them.
use Rattle.std.proofs.Common.{◌≡◌, ℕ, suc, zero, ◌+◌, ◌==◌, ◌^◌, ◌-◌, Bool, true, false, not, ◌||◌, nat_le, List, [], ◌∷◌, length, Option, Some, None, refl, sym, ap, ◌∙◌, subst, arith, inl, inr, ◌⊎◌, eqb-true}
use Rattle.std.specs.Prelude.{option_and_then}
use Rattle.std.proofs.lemmas.Bool.{lt-leb}
use Rattle.std.specs.Option.{option_map}
use Rattle.std.specs.List.{list_any}
use Rattle.line_text.specs.Numbers.{digits_number}
use Rattle.tool_words.specs.Given.{Text, Kind, place, end, threads, seed, seed_is, odd, kind_of, Given, only_places, with_place, with_threads, with_seed, with_word, sorted_from, sorted}
use Rattle.tool_words.specs.CommandWords.{number_within, how_by, asked_by, asked_of}
use Rattle.tool_words.specs.declared.command.Command.{Command}
use Rattle.tool_words.specs.declared.asked.How.TheVariants.{Seed}
use Rattle.tool_words.proofs.LeafWalk.{value_taken, cut_from, merged}

-- ---- a value of `--seed` that is an option is no number

abbrev is_place : Kind → Bool
is_place place = true
is_place _ = false

abbrev odd_seeds : List Text → Bool
odd_seeds seeds = list_any (λ s. not (is_place (kind_of s))) seeds

minus_number : (low high : ℕ) (b : ℕ) (bs : List ℕ) → (b == 45) ≡ true → number_within low high (b ∷ bs) ≡ None
unfolding number_within digits_number
minus_number low high b bs e =
    let P : ℕ → Type 0 = λ t. number_within low high (t ∷ bs) ≡ None in
    subst P (sym (eqb-true b 45 e)) (by_length (nat_le (length (45 ∷ bs)) 20) refl)
  where
    by_length : (t : Bool) → nat_le (length (45 ∷ bs)) 20 ≡ t → number_within low high (45 ∷ bs) ≡ None
    by_length true f = rw f refl
    by_length false f = rw f refl

odd_number : (low high : ℕ) (s : Text) → is_place (kind_of s) ≡ false → number_within low high s ≡ None
unfolding kind_of
odd_number low high [] e = absurd cc
odd_number low high (b ∷ []) e = absurd cc
odd_number low high (b ∷ c ∷ bs) e = by_minus (b == 45) refl e
  where
    by_minus : (t : Bool) → (b == 45) ≡ t → is_place (kind_of (b ∷ c ∷ bs)) ≡ false → number_within low high (b ∷ c ∷ bs) ≡ None
    by_minus true f e = minus_number low high b (c ∷ bs) f
    by_minus false f e = let bad : true ≡ false = rw f at e in absurd cc

several : (t : ℕ) (a b : Text) (ss : List Text) → how_by t (a ∷ b ∷ ss) ≡ None
several zero a b ss = refl
several (suc zero) a b ss = refl
several (suc (suc n)) a b ss = refl

not_true : (b : Bool) → (not b || false) ≡ true → b ≡ false
not_true true e = absurd cc
not_true false e = refl

odd_how : (t : ℕ) (seeds : List Text) → odd_seeds seeds ≡ true → how_by t seeds ≡ None
odd_how t [] e = absurd cc
odd_how zero (s ∷ []) e = ap (option_map Seed) (odd_number 0 (2 ^ 64 - 1) s (not_true (is_place (kind_of s)) e))
odd_how (suc n) (s ∷ []) e = refl
odd_how t (s ∷ u ∷ ss) e = several t s u ss

-- `--threads` twice
twice_how : (n : ℕ) (seeds : List Text) → how_by (suc (suc n)) seeds ≡ None
twice_how n [] = refl
twice_how n (s ∷ []) = refl
twice_how n (s ∷ u ∷ ss) = refl

-- ---- the two ways to sort

-- nothing, or a value of `--seed` that is an option
abbrev Odd : Option Given → Type 0
Odd None = Unit {0}
Odd (Some g) = odd_seeds g.seeds ≡ true

abbrev Same : (cut given : Option Given) → Type 0
Same cut given = (cut ≡ given) ⊎ ((cut ≡ None) × Odd given)

odd_place : (x : Text) (o : Option Given) → Odd o → Odd (with_place x o)
odd_place x None h = tt
odd_place x (Some g) h = h

odd_threads : (o : Option Given) → Odd o → Odd (with_threads o)
odd_threads None h = tt
odd_threads (Some g) h = h

or_true : (b c : Bool) → c ≡ true → (b || c) ≡ true
or_true true c e = refl
or_true false c e = e

odd_seed : (x : Text) (o : Option Given) → Odd o → Odd (with_seed x o)
odd_seed x None h = tt
odd_seed x (Some g) h = or_true (not (is_place (kind_of x))) (odd_seeds g.seeds) h

odd_first : (x : Text) (o : Option Given) → is_place (kind_of x) ≡ false → Odd (with_seed x o)
odd_first x None e = tt
odd_first x (Some g) e = ap (λ b. not b || odd_seeds g.seeds) e

same_by : (f : Option Given → Option Given) → f None ≡ None → ((o : Option Given) → Odd o → Odd (f o)) → (a b : Option Given) → Same a b → Same (f a) (f b)
same_by f none keeps a b h = elim h [ inl e ↦ inl (ap f e) | inr e ↦ inr (ap f e.0 ∙ none, keeps b e.1) ]

same_next : (k : Kind) (x : Text) (ws : List Text) (a b v w : Option Given) → Same a b → Same v w → Same (with_word k x ws a v) (with_word k x ws b w)
same_next place x ws a b v w h i = same_by (with_place x) refl (odd_place x) a b h
same_next end x ws a b v w h i = inl refl
same_next threads x ws a b v w h i = same_by with_threads refl odd_threads a b h
same_next seed x ws a b v w h i = i
same_next (seed_is s) x ws a b v w h i = same_by (with_seed s) refl (odd_seed s) a b h
same_next odd x ws a b v w h i = inl refl

same_value : (k : Kind) (x : Text) (a b : Option Given) → kind_of x ≡ k → Same a b → Same (value_taken k x a) (with_seed x b)
same_value place x a b e h = same_by (with_seed x) refl (odd_seed x) a b h
same_value end x a b e h = inr (refl, odd_first x b (ap is_place e))
same_value threads x a b e h = inr (refl, odd_first x b (ap is_place e))
same_value seed x a b e h = inr (refl, odd_first x b (ap is_place e))
same_value (seed_is s) x a b e h = inr (refl, odd_first x b (ap is_place e))
same_value odd x a b e h = inr (refl, odd_first x b (ap is_place e))

same : (ws : List Text) → Same (cut_from false ws) (sorted_from false ws) × Same (cut_from true ws) (sorted_from true ws)
unfolding cut_from sorted_from
same [] = (inl refl, inl refl)
same (x ∷ ws) = (
  same_next (kind_of x) x ws (cut_from false ws) (sorted_from false ws) (cut_from true ws) (sorted_from true ws) (same ws).0 (same ws).1,
  same_value (kind_of x) x (cut_from false ws) (sorted_from false ws) refl (same ws).0,
)

-- ---- what is asked

odd_asks : (c : Command) (o : Option Given) → Odd o → option_and_then (asked_of c) o ≡ None
odd_asks c None h = refl
odd_asks c (Some g) h = ap (option_and_then (asked_by c g.places)) (odd_how g.threads g.seeds h)

abbrev pub nothing_given : Given
nothing_given = only_places []

merged_asks : (c : Command) (t : ℕ) (places seeds : List Text) → option_and_then (asked_of c) (merged nothing_given (Some (record { places = places; threads = t; seeds = seeds }))) ≡ asked_of c (record { places = places; threads = t; seeds = seeds })
merged_asks c zero places seeds = refl
merged_asks c (suc zero) places seeds = refl
merged_asks c (suc (suc n)) places seeds = rw (lt-leb (0 + suc (suc n)) 1 (omega arith)) (sym (ap (option_and_then (asked_by c places)) (twice_how n seeds)))

given_asks : (c : Command) (o : Option Given) → option_and_then (asked_of c) (merged nothing_given o) ≡ option_and_then (asked_of c) o
given_asks c None = refl
given_asks c (Some g) = merged_asks c g.threads g.places g.seeds

asks_by : (c : Command) (cut given : Option Given) → Same cut given → option_and_then (asked_of c) (merged nothing_given cut) ≡ option_and_then (asked_of c) given
asks_by c cut given (inl f) = given_asks c cut ∙ ap (option_and_then (asked_of c)) f
asks_by c cut given (inr f) = ap (λ t. option_and_then (asked_of c) (merged nothing_given t)) f.0 ∙ sym (odd_asks c given f.1)

pub asks_same : (c : Command) (ws : List Text) → option_and_then (asked_of c) (merged nothing_given (cut_from false ws)) ≡ option_and_then (asked_of c) (sorted ws)
asks_same c ws = asks_by c (cut_from false ws) (sorted ws) (same ws).0
