-- Rows that are printed value after value, and matrices row after row.
use Rattle.std.proofs.Common.{◌≡◌, ℕ, zero, suc, ◌+◌, ◌-◌, ◌<◌, ◌≤◌, List, [], ◌∷◌, ◌++◌, refl, sym, ap, subst, ◌∙◌, append_assoc, append-nil, arith}
use Rattle.std.specs.Prelude.{map}
use Rattle.std.specs.Fmt.{signed_decimal}
use Rattle.std.specs.List.{flat_map, range_with_len}
use Rattle.store_io.specs.Outside.{Poured}
use Rattle.line_text.specs.Lines.{ended}
use Rattle.mm_grammar.specs.Matrix.{Matrix}
use Rattle.tool_lines.specs.Saying.{SaysFront}
use Rattle.program_results.specs.Pouring.{PoursOn}
use Rattle.program_results.specs.Printing.{after_space, separated, value_at, row_line, first_rows}
use Rattle.program_results.specs.RowParts.{next_values}
use Rattle.program_results.proofs.PouringLaws.{pours_none, pours_then, front_then, front_more}

-- ---- texts of numbers, one after the other

-- those of so many numbers from one on
abbrev run : (ℕ → List ℕ) → (from count : ℕ) → List ℕ
run text from count = flat_map text (range_with_len from count)

run_more : (text : ℕ → List ℕ) (from n k : ℕ) → k ≡ from + n → run text from (suc n) ≡ run text from n ++ text k
run_more text from zero k is = append-nil (text from) ∙ ap text (let h : from ≡ k = omega (arith, is) in h)
run_more text from (suc n) k is = ap (λ (t : List ℕ). text from ++ t) (run_more text (from + 1) n k (omega (arith, is))) ∙ sym (append_assoc (text from) (run text (from + 1) n) (text k))

run_next : (text : ℕ → List ℕ) (from n k : ℕ) → k ≡ from + n → run text from (n + 1) ≡ run text from n ++ text k
run_next text from n k is = let h : n + 1 ≡ suc n = omega arith in ap (run text from) h ∙ run_more text from n k is

run_cut : (text : ℕ → List ℕ) (from n m : ℕ) → n ≤ m → run text from n ++ run text (from + n) (m - n) ≡ run text from m
run_cut text from zero m le =
    let h : from + 0 ≡ from = omega arith in
    let e : m - 0 ≡ m = omega arith in
    ap (λ (k : ℕ). run text k (m - 0)) h ∙ ap (run text from) e
run_cut text from (suc n) zero le = absurd (omega (arith, le))
run_cut text from (suc n) (suc m) le =
    let h : from + suc n ≡ from + 1 + n = omega arith in
    let e : suc m - suc n ≡ m - n = omega arith in
    append_assoc (text from) (run text (from + 1) n) (run text (from + suc n) (suc m - suc n))
    ∙ ap (λ (k : ℕ). text from ++ (run text (from + 1) n ++ run text k (suc m - suc n))) h
    ∙ ap (λ (k : ℕ). text from ++ (run text (from + 1) n ++ run text (from + 1 + n) k)) e
    ∙ ap (λ (t : List ℕ). text from ++ t) (run_cut text (from + 1) n m (omega (arith, le)))

-- one more was put
pours_run : (old mid new : Poured) (p q r : List ℕ) (text : ℕ → List ℕ) (from n k : ℕ) → k ≡ from + n → PoursOn old mid p q (run text from n) → PoursOn mid new q r (text k) → PoursOn old new p r (run text from (n + 1))
pours_run old mid new p q r text from n k is first then =
    let P : List ℕ → Type 0 = λ t. PoursOn old new p r t in
    subst P (sym (run_next text from n k is)) (pours_then old mid new p q r _ _ first then)

-- of the next one a front was put
front_run : (old mid new : Poured) (p q : List ℕ) (text : ℕ → List ℕ) (from n m k : ℕ) → k ≡ from + n → n < m → PoursOn old mid p q (run text from n) → SaysFront mid new (q ++ text k) → SaysFront old new (p ++ run text from m)
front_run old mid new p q text from n m k is lt first then =
    let P : List ℕ → Type 0 = λ t. SaysFront old new (p ++ t) in
    let here : SaysFront old new (p ++ run text from (n + 1)) = subst P (sym (run_next text from n k is)) (front_then old mid new p q _ _ first then) in
    subst P (run_cut text from (n + 1) m (omega (arith, lt))) (front_more old new p (run text from (n + 1)) (run text (from + (n + 1)) (m - (n + 1))) here)

-- ---- the values of a row

abbrev value_text : Matrix → ℕ → ℕ → List ℕ
value_text m i j = signed_decimal (value_at m i j)

pub no_values : (s : Poured) (p : List ℕ) (m : Matrix) (i : ℕ) → PoursOn s s p p (next_values m i (1 - 1))
unfolding next_values
no_values s p m i = pours_none s p

pub more_values : (old mid new : Poured) (p q r : List ℕ) (m : Matrix) (i j : ℕ) → 1 ≤ j → PoursOn old mid p q (next_values m i (j - 1)) → PoursOn mid new q r (after_space (signed_decimal (value_at m i j))) → PoursOn old new p r (next_values m i (j + 1 - 1))
unfolding next_values
more_values old mid new p q r m i j some first then =
    let h : j - 1 + 1 ≡ j + 1 - 1 = omega (arith, some) in
    let P : ℕ → Type 0 = λ n. PoursOn old new p r (run (λ k. after_space (value_text m i k)) 1 n) in
    subst P h (pours_run old mid new p q r (λ k. after_space (value_text m i k)) 1 (j - 1) j (omega (arith, some)) first then)

pub values_failed : (old mid new : Poured) (p q : List ℕ) (m : Matrix) (i j : ℕ) → 1 ≤ j → j < m.columns → PoursOn old mid p q (next_values m i (j - 1)) → SaysFront mid new (q ++ after_space (signed_decimal (value_at m i j))) → SaysFront old new (p ++ next_values m i (m.columns - 1))
unfolding next_values
values_failed old mid new p q m i j some lt first then = front_run old mid new p q (λ k. after_space (value_text m i k)) 1 (j - 1) (m.columns - 1) j (omega (arith, some)) (omega (arith, some, lt)) first then

flat_mapped : (f : ℕ → List ℕ) (xs : List ℕ) → flat_map after_space (map f xs) ≡ flat_map (λ x. after_space (f x)) xs
flat_mapped f [] = refl
flat_mapped f (x ∷ xs) = ap (λ (t : List ℕ). after_space (f x) ++ t) (flat_mapped f xs)

row_of : (m : Matrix) (i n : ℕ) → separated (map (value_text m i) (range_with_len 0 (suc n))) ≡ value_text m i 0 ++ flat_map (λ j. after_space (value_text m i j)) (range_with_len 1 n)
row_of m i n = ap (λ (t : List ℕ). value_text m i 0 ++ t) (flat_mapped (value_text m i) (range_with_len 1 n))

-- the first value and the others are the row
pub row_is : (m : Matrix) (i : ℕ) → 0 < m.columns → signed_decimal (value_at m i 0) ++ next_values m i (m.columns - 1) ≡ row_line m i
unfolding next_values row_line
row_is m i some =
    let h : suc (m.columns - 1) ≡ m.columns = omega (arith, some) in
    sym (row_of m i (m.columns - 1)) ∙ ap (λ (n : ℕ). separated (map (value_text m i) (range_with_len 0 n))) h

pub row_none : (m : Matrix) (i : ℕ) → m.columns ≡ 0 → row_line m i ≡ []
unfolding row_line
row_none m i none = ap (λ (n : ℕ). separated (map (value_text m i) (range_with_len 0 n))) none

pub no_row : (s : Poured) (p : List ℕ) (m : Matrix) (i : ℕ) → m.columns ≡ 0 → PoursOn s s p p (row_line m i)
no_row s p m i none = let P : List ℕ → Type 0 = λ t. PoursOn s s p p t in subst P (sym (row_none m i none)) (pours_none s p)

pub whole_row : (old mid new : Poured) (p q r : List ℕ) (m : Matrix) (i : ℕ) → 0 < m.columns → PoursOn old mid p q (signed_decimal (value_at m i 0)) → PoursOn mid new q r (next_values m i (m.columns - 1)) → PoursOn old new p r (row_line m i)
whole_row old mid new p q r m i some first then =
    let P : List ℕ → Type 0 = λ t. PoursOn old new p r t in
    subst P (row_is m i some) (pours_then old mid new p q r _ _ first then)

pub row_failed : (old mid new : Poured) (p q : List ℕ) (m : Matrix) (i : ℕ) → 0 < m.columns → PoursOn old mid p q (signed_decimal (value_at m i 0)) → SaysFront mid new (q ++ next_values m i (m.columns - 1)) → SaysFront old new (p ++ row_line m i)
row_failed old mid new p q m i some first then =
    let P : List ℕ → Type 0 = λ t. SaysFront old new (p ++ t) in
    subst P (row_is m i some) (front_then old mid new p q _ _ first then)

pub first_failed : (old new : Poured) (p : List ℕ) (m : Matrix) (i : ℕ) → 0 < m.columns → SaysFront old new (p ++ signed_decimal (value_at m i 0)) → SaysFront old new (p ++ row_line m i)
first_failed old new p m i some first =
    let P : List ℕ → Type 0 = λ t. SaysFront old new (p ++ t) in
    subst P (row_is m i some) (front_more old new p _ _ first)

-- ---- the rows of a matrix

pub no_rows : (s : Poured) (p : List ℕ) (m : Matrix) → PoursOn s s p p (first_rows m 0)
unfolding first_rows
no_rows s p m = pours_none s p

pub more_rows : (old mid new : Poured) (p q r : List ℕ) (m : Matrix) (i : ℕ) → PoursOn old mid p q (first_rows m i) → PoursOn mid new q r (ended (row_line m i)) → PoursOn old new p r (first_rows m (i + 1))
unfolding first_rows
more_rows old mid new p q r m i first then = pours_run old mid new p q r (λ k. ended (row_line m k)) 0 i i (omega arith) first then

pub rows_failed : (old mid new : Poured) (p q : List ℕ) (m : Matrix) (i n : ℕ) → i < n → PoursOn old mid p q (first_rows m i) → SaysFront mid new (q ++ ended (row_line m i)) → SaysFront old new (p ++ first_rows m n)
unfolding first_rows
rows_failed old mid new p q m i n lt first then = front_run old mid new p q (λ k. ended (row_line m k)) 0 i n i (omega arith) lt first then
