-- The sizes of a spread array.
use Rattle.std.proofs.Common.{◌≡◌, ℕ, ◌+◌, ◌*◌, ◌^◌, ◌≤◌, List, [], ◌∷◌, ◌++◌, sym, ap, ◌∙◌, arith}
use Rattle.std.specs.List.{AllByRecursion}
use Rattle.std.proofs.lemmas.List.Sums.{sum_by-cons}
use Rattle.pack_words.specs.GridShapes.{IsSize}
use Rattle.program_meaning.specs.Declarations.{words_in}
use Rattle.line_plans.specs.ArrayLines.{HasLead}

pub words_grown : (xs : List (ℕ × ℕ)) (s : ℕ × ℕ) → words_in (xs ++ s ∷ []) ≡ words_in xs + s.0 * s.1
words_grown [] s = sum_by-cons (λ (size : ℕ × ℕ). size.0 * size.1) s [] ∙ (let z : s.0 * s.1 + 0 ≡ 0 + s.0 * s.1 = omega arith in z)
words_grown (x ∷ xs) s =
    sum_by-cons (λ (size : ℕ × ℕ). size.0 * size.1) x (xs ++ s ∷ []) ∙ ap (λ n. x.0 * x.1 + n) (words_grown xs s)
    ∙ together (x.0 * x.1) (words_in xs) (s.0 * s.1)
    ∙ ap (λ n. n + s.0 * s.1) (sym (sum_by-cons (λ (size : ℕ × ℕ). size.0 * size.1) x xs))
  where
    together : (a b c : ℕ) → a + (b + c) ≡ a + b + c
    together a b c = omega arith

pub leads_grown : (xs : List (ℕ × ℕ)) (s : ℕ × ℕ) → AllByRecursion HasLead xs → HasLead s → AllByRecursion HasLead (xs ++ s ∷ [])
leads_grown [] s h l = (l, tt)
leads_grown (x ∷ xs) s h l = (h.0, leads_grown xs s h.1 l)

-- where all words are few, each size is one that an array can have
pub all_sizes : (xs : List (ℕ × ℕ)) → words_in xs ≤ 2 ^ 26 → AllByRecursion HasLead xs → AllByRecursion IsSize xs
all_sizes [] few h = tt
all_sizes (x ∷ xs) few h =
    let s = sum_by-cons (λ (size : ℕ × ℕ). size.0 * size.1) x xs in
    (record { lead_above_zero = h.0.least; lead_fits = h.0.most; area_fits = first (x.0 * x.1) (words_in xs) _ s few }, all_sizes xs (rest (x.0 * x.1) (words_in xs) _ s few) h.1)
  where
    first : (a b n : ℕ) → n ≡ a + b → n ≤ 2 ^ 26 → a ≤ 2 ^ 26
    first a b n e le = omega arith

    rest : (a b n : ℕ) → n ≡ a + b → n ≤ 2 ^ 26 → b ≤ 2 ^ 26
    rest a b n e le = omega arith
