-- The first line of some bytes, and of their front.
use Rattle.std.proofs.Common.{◌≡◌, ◌≢◌, ◌⊎◌, inl, inr, ℕ, zero, suc, ◌+◌, ◌-◌, ◌<◌, ◌≤◌, List, [], ◌∷◌, ◌++◌, length, take, map, refl, sym, ap, subst, ◌∙◌, arith, append-nil, length-append, length-take}
use Rattle.std.proofs.lemmas.Bool.{ne_eqb}
use Rattle.std.proofs.lemmas.Bool.Decides.{eqb_tells}
use Rattle.line_text.specs.Lines.{split_lines, without_return, lines, HasNoEnd}

-- the bytes before the first line end, and those after it
pub record HasEnd (bytes : List ℕ) : Type 0 where
  pub run : List ℕ
  pub rest : List ℕ
  pub free : HasNoEnd run
  pub cut : bytes ≡ run ++ 10 ∷ rest

more_run : (b : ℕ) (bs : List ℕ) → (b ≡ 10) ⊎ (b ≢ 10) → HasEnd bs ⊎ HasNoEnd bs → HasEnd (b ∷ bs) ⊎ HasNoEnd (b ∷ bs)
more_run b bs (inl e) r = inl (record { run = []; rest = bs; free = tt; cut = ap (λ (x : ℕ). x ∷ bs) e })
more_run b bs (inr ne) (inl h) = inl (record { run = b ∷ h.run; rest = h.rest; free = (ne, h.free); cut = ap (λ (l : List ℕ). b ∷ l) h.cut })
more_run b bs (inr ne) (inr free) = inr (ne, free)

is_end : (b : ℕ) → (b ≡ 10) ⊎ (b ≢ 10)
is_end b = elim (eqb_tells b 10) [ inl e ↦ inl e.1 | inr e ↦ inr e.1 ]

-- some bytes have a line end, or they have none
pub first_run : (bytes : List ℕ) → HasEnd bytes ⊎ HasNoEnd bytes
first_run [] = inr tt
first_run (b ∷ bs) = more_run b bs (is_end b) (first_run bs)

split_run : (run rest : List ℕ) → HasNoEnd run → split_lines (run ++ 10 ∷ rest) ≡ run ∷ split_lines rest
unfolding split_lines
split_run [] rest is = refl
split_run (b ∷ bs) rest is = rw (ne_eqb b 10 is.0, split_run bs rest is.1) refl

split_last : (b : ℕ) (bs : List ℕ) → HasNoEnd (b ∷ bs) → split_lines (b ∷ bs) ≡ (b ∷ bs) ∷ []
unfolding split_lines
split_last b [] is = rw (ne_eqb b 10 is.0) refl
split_last b (c ∷ bs) is = rw (ne_eqb b 10 is.0, split_last c bs is.1) refl

-- a line with its end
pub ended_line : (run rest : List ℕ) → HasNoEnd run → lines (run ++ 10 ∷ rest) ≡ without_return run ∷ lines rest
ended_line run rest free = ap (map without_return) (split_run run rest free)

last_line : (b : ℕ) (bs : List ℕ) → HasNoEnd (b ∷ bs) → lines (b ∷ bs) ≡ without_return (b ∷ bs) ∷ []
last_line b bs free = ap (map without_return) (split_last b bs free)

-- some line stands first
pub record HasLine (bytes : List ℕ) : Type 0 where
  pub line : List ℕ
  pub more : List (List ℕ)
  pub first : lines bytes ≡ line ∷ more

-- it is a line of more than 1,024 bytes
pub record HasLongLine (bytes : List ℕ) : Type 0 where
  pub line : List ℕ
  pub more : List (List ℕ)
  pub first : lines bytes ≡ line ∷ more
  pub long : 1024 < length line

line_of_run : (bytes : List ℕ) → HasEnd bytes → HasLine bytes
line_of_run bytes h = record { line = without_return h.run; more = lines h.rest; first = ap lines h.cut ∙ ended_line h.run h.rest h.free }

-- bytes have a line
pub some_line : (bytes : List ℕ) → 0 < length bytes → HasLine bytes
some_line [] some = absurd (omega arith)
some_line (b ∷ bs) some = elim (first_run (b ∷ bs)) [ inl h ↦ line_of_run (b ∷ bs) h | inr free ↦ record { line = without_return (b ∷ bs); more = []; first = last_line b bs free } ]

-- without a carriage return a line has one byte less at most
one_less : (line : List ℕ) → length line ≤ length (without_return line) + 1
unfolding without_return
one_less [] = omega arith
one_less (b ∷ []) = omega arith
one_less (b ∷ c ∷ bs) = let ih : length (c ∷ bs) ≤ length (without_return (c ∷ bs)) + 1 = one_less (c ∷ bs) in omega (arith, ih)

-- no line end stands among the first bytes of what comes before one
pub free_front : (m : ℕ) (run rest : List ℕ) → m ≤ length run → HasNoEnd run → HasNoEnd (take m (run ++ rest))
free_front zero [] rest le free = tt
free_front zero (b ∷ bs) rest le free = tt
free_front (suc m) [] rest le free = absurd (omega arith)
free_front (suc m) (b ∷ bs) rest le free = (free.0, free_front m bs rest (omega arith) free.1)

pub free_take : (m : ℕ) (bytes : List ℕ) → HasNoEnd bytes → HasNoEnd (take m bytes)
free_take zero [] free = tt
free_take zero (b ∷ bs) free = tt
free_take (suc m) [] free = tt
free_take (suc m) (b ∷ bs) free = (free.0, free_take m bs free.1)

-- the first line end comes after the bytes that have none
far_end : (m : ℕ) (run rest : List ℕ) → HasNoEnd (take m (run ++ 10 ∷ rest)) → m ≤ length run
far_end zero run rest free = omega arith
far_end (suc m) [] rest free = absurd (free.0 refl)
far_end (suc m) (b ∷ bs) rest free = let ih : m ≤ length bs = far_end m bs rest free.1 in omega (arith, ih)

-- so many bytes of a line are too many, a carriage return among them
unfoldable pub too_many : ℕ
too_many = 1026

pub too_many_is : too_many ≡ 1026
unfolding too_many
too_many_is = refl

long_run : (bytes : List ℕ) → HasNoEnd (take too_many bytes) → HasEnd bytes → HasLongLine bytes
long_run bytes free h =
    let far : too_many ≤ length h.run = far_end too_many h.run h.rest (subst (λ (l : List ℕ). HasNoEnd (take too_many l)) h.cut free) in
    record { line = without_return h.run; more = lines h.rest; first = ap lines h.cut ∙ ended_line h.run h.rest h.free; long = omega (arith, far, too_many_is, one_less h.run) }

-- bytes without a line end among the first 1,026
pub long_line : (bytes : List ℕ) → 1026 ≤ length bytes → HasNoEnd (take too_many bytes) → HasLongLine bytes
long_line [] long free = absurd (omega arith)
long_line (b ∷ bs) long free = elim (first_run (b ∷ bs)) [ inl h ↦ long_run (b ∷ bs) free h | inr none ↦ record { line = without_return (b ∷ bs); more = []; first = last_line b bs none; long = omega (arith, long, one_less (b ∷ bs)) } ]

-- the front of some bytes, past their first line end
pub take_over : (run rest : List ℕ) (c d : ℕ) → c ≡ length run + 1 + d → take c (run ++ 10 ∷ rest) ≡ run ++ 10 ∷ take d rest
take_over [] rest zero d e = absurd (omega arith)
take_over [] rest (suc c) d e = let same : c ≡ d = omega (arith, e) in ap (λ (k : ℕ). 10 ∷ take k rest) same
take_over (b ∷ bs) rest zero d e = absurd (omega arith)
take_over (b ∷ bs) rest (suc c) d e = ap (λ (l : List ℕ). b ∷ l) (take_over bs rest c d (omega (arith, e)))
