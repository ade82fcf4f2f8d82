-- The bytes of an input, a piece after the other.
use Rattle.std.proofs.Common.{◌≡◌, ℕ, zero, suc, ◌+◌, ◌<◌, ◌≤◌, List, [], ◌∷◌, ◌++◌, length, take, drop, take_all, refl, sym, ap, subst, ◌∙◌, append-nil, append_assoc, arith, length-drop}
use Rattle.std.proofs.Math.Seq.{take-append_seam}
use Rattle.program_file.specs.ProgramFiles.{most_bytes}

-- how many they are
pub most_is : most_bytes ≡ 4202497
unfolding most_bytes
most_is = refl

front : (n : ℕ) (text left : List ℕ) → length text ≡ n → take n (text ++ left) ≡ text
front n text left e = subst (λ (k : ℕ). take k (text ++ left) ≡ text) e (take-append_seam text left)

behind : (text left : List ℕ) → drop (length text) (text ++ left) ≡ left
behind [] left = refl
behind (b ∷ bs) left = behind bs left

rest : (n : ℕ) (text left : List ℕ) → length text ≡ n → drop n (text ++ left) ≡ left
rest n text left e = subst (λ (k : ℕ). drop k (text ++ left) ≡ left) e (behind text left)

none : (n : ℕ) (bytes : List ℕ) → length bytes ≤ n → drop n bytes ≡ []
none zero [] le = refl
none (suc n) [] le = refl
none n (b ∷ bs) le = empty (drop n (b ∷ bs)) (omega (arith, length-drop {A = ℕ}))
  where
    empty : (l : List ℕ) → length l ≤ 0 → l ≡ []
    empty [] le = refl
    empty (c ∷ l) le = absurd (omega arith)

-- as many bytes are there as may be
pub full_text : (text left all : List ℕ) → 4202497 ≤ length text → length text ≤ 4202497 → text ++ left ≡ all → text ≡ take most_bytes all
full_text text left all many few e = sym (front most_bytes text left (omega (arith, many, few, most_is))) ∙ ap (take most_bytes) e

pub full_left : (text left all : List ℕ) → 4202497 ≤ length text → length text ≤ 4202497 → text ++ left ≡ all → left ≡ drop most_bytes all
full_left text left all many few e = sym (rest most_bytes text left (omega (arith, many, few, most_is))) ∙ ap (drop most_bytes) e

-- the input has ended
pub whole_text : (text left all : List ℕ) → length text ≤ 4202497 → left ≡ [] → text ++ left ≡ all → text ≡ take most_bytes all
whole_text text left all few ended e =
    let same : text ≡ all = sym (append-nil text) ∙ ap (λ (l : List ℕ). text ++ l) (sym ended) ∙ e in
    sym (take_all most_bytes text (omega (arith, few, most_is))) ∙ ap (take most_bytes) same

pub whole_left : (text left all : List ℕ) → length text ≤ 4202497 → left ≡ [] → text ++ left ≡ all → left ≡ drop most_bytes all
whole_left text left all few ended e =
    let same : text ≡ all = sym (append-nil text) ∙ ap (λ (l : List ℕ). text ++ l) (sym ended) ∙ e in
    ended ∙ sym (none most_bytes text (omega (arith, few, most_is))) ∙ ap (drop most_bytes) same
