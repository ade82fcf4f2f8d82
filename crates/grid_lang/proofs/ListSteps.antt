-- Numbers, one after the other.
use Rattle.std.proofs.Common.{◌≡◌, ℕ, List, [], ◌∷◌, ◌++◌, Result, Ok, Err, refl, sym, ap, ◌∙◌, append_assoc, append-nil}
use Rattle.line_text.specs.Formats.{and_then}
use Rattle.grid_lang.specs.declared.fault.LangFault.{LangFault}
use Rattle.grid_lang.specs.WordKinds.{number}
use Rattle.grid_lang.specs.Kinds.{numbers}

-- these in front of others
abbrev pub in_front : List ℕ → Result (List ℕ) LangFault → Result (List ℕ) LangFault
in_front ns (Ok more) = Ok (ns ++ more)
in_front ns (Err fault) = Err fault

-- the words give the numbers that were read and those of the words that are left
pub record IsReadTo (words left : List (List ℕ)) (ns : List ℕ) : Type 0 where
  pub gives : numbers words ≡ in_front ns (numbers left)

nothing : (r : Result (List ℕ) LangFault) → r ≡ in_front [] r
nothing (Ok ns) = refl
nothing (Err fault) = refl

pub none_yet : (words : List (List ℕ)) → IsReadTo words words []
none_yet words = record { gives = nothing (numbers words) }

join : (ns : List ℕ) (n : ℕ) (r : Result (List ℕ) LangFault) → in_front ns (and_then r (λ more. Ok (n ∷ more))) ≡ in_front (ns ++ n ∷ []) r
join ns n (Ok more) = ap (λ (l : List ℕ). Ok l) (sym (append_assoc ns (n ∷ []) more))
join ns n (Err fault) = refl

next : (left behind : List (List ℕ)) (word : List ℕ) (n : ℕ) → left ≡ word ∷ behind → Ok n ≡ number word → numbers left ≡ and_then (numbers behind) (λ more. Ok (n ∷ more))
unfolding numbers
next left behind word n e is = rw (e, ← is) refl

pub one_more : (words left behind : List (List ℕ)) (word ns : List ℕ) (n : ℕ) → IsReadTo words left ns → left ≡ word ∷ behind → Ok n ≡ number word → IsReadTo words behind (ns ++ n ∷ [])
one_more words left behind word ns n is e good = record { gives = is.gives ∙ ap (in_front ns) (next left behind word n e good) ∙ join ns n (numbers behind) }

wrong : (left behind : List (List ℕ)) (word : List ℕ) (fault : LangFault) → left ≡ word ∷ behind → Err fault ≡ number word → numbers left ≡ Err fault
unfolding numbers
wrong left behind word fault e is = rw (e, ← is) refl

pub bad_one : (words left behind : List (List ℕ)) (word ns : List ℕ) (fault : LangFault) → IsReadTo words left ns → left ≡ word ∷ behind → Err fault ≡ number word → numbers words ≡ Err fault
bad_one words left behind word ns fault is e bad = is.gives ∙ ap (in_front ns) (wrong left behind word fault e bad)

last : (left : List (List ℕ)) → left ≡ [] → numbers left ≡ Ok []
unfolding numbers
last left e = rw e refl

pub all_of : (words left : List (List ℕ)) (ns : List ℕ) → IsReadTo words left ns → left ≡ [] → numbers words ≡ Ok ns
all_of words left ns is e = is.gives ∙ ap (in_front ns) (last left e) ∙ ap (λ (l : List ℕ). Ok l) (append-nil ns)
