-- One column of a local array more is set.
use Rattle.std.specs.Prelude.{◌≡◌, ℕ, ◌+◌, ◌-◌, ◌*◌, ◌/◌, ◌%◌, ◌<◌, ◌≤◌, ℤ, List, [], ◌++◌, length, take, drop}
use Rattle.std.proofs.Common.{refl, sym, ap, ◌∙◌, subst, arith}
use Rattle.std.proofs.lemmas.List.{length-take-le, length-drop}
use Rattle.pack_words.specs.LocalCells.{LocalCells, IsLocalCells, column_of, with_part}
use Rattle.scope_ops.specs.Lines.{numbered_from}
use Rattle.array_contents.specs.LocalWords.{local_word, place_word}
use Rattle.array_contents.specs.declared.local_words.LocalWords.{LocalWords}
use Rattle.array_contents.specs.Passes.{from_here}
use Rattle.array_contents.proofs.PassLaws.{numbered_long, pass_part, pass_done, column_pass}

inside : (j c l : ℕ) → j < c → j * l + l ≤ l * c
inside j c l lt = grind arith

next_place : (j l : ℕ) → (j + 1) * l ≡ j * l + l
next_place j l = grind arith

pub column_more : (by : LocalWords) (lld j : ℕ) (c : LocalCells) (ws : List ℤ) → IsLocalCells c → c.lld ≡ lld → j < c.cols → ws ≡ numbered_from 0 (local_word by j) (column_of c j)
    → from_here ((j + 1) * lld) (place_word by lld) (with_part c 0 j ws).words ≡ from_here (j * lld) (place_word by lld) c.words
column_more by lld j c ws w lead low e =
    let n : ℕ = j * lld in
    let size : length c.words ≡ lld * c.cols = w.count ∙ ap (λ l. l * c.cols) lead in
    let fits : n + lld ≤ length c.words = let h = inside j c.cols lld low in omega (arith, size, h) in
    let column : column_of c j ≡ take lld (drop n c.words) = ap (λ l. take l (drop (j * l) c.words)) lead in
    let count : length (take lld (drop n c.words)) ≡ lld = length-take-le lld (drop n c.words) (omega (arith, length-drop n c.words)) in
    let part : ws ≡ numbered_from n (place_word by lld) (take lld (drop n c.words)) =
    e ∙ ap (λ l. numbered_from 0 (local_word by j) l) column ∙ sym (column_pass (λ i k. local_word by k i) lld j (take lld (drop n c.words)) (omega (arith, count))) in
    let long : length ws ≡ lld = ap length part ∙ numbered_long n (place_word by lld) (take lld (drop n c.words)) ∙ count in
    let start : j * c.lld + 0 ≡ n = let z : j * c.lld + 0 ≡ j * c.lld = omega arith in z ∙ ap (λ l. j * l) lead in
    let whole : (with_part c 0 j ws).words ≡ take n c.words ++ ws ++ drop (n + lld) c.words =
    ap (λ m. take m c.words ++ ws ++ drop (m + length ws) c.words) start ∙ ap (λ m. take n c.words ++ ws ++ drop (n + m) c.words) long in
    ap (λ m. from_here m (place_word by lld) (with_part c 0 j ws).words) (next_place j lld)
    ∙ ap (λ l. from_here (n + lld) (place_word by lld) l) whole
    ∙ pass_part (place_word by lld) c.words ws n lld fits long part

-- after the last column all words are set
pub columns_done : (by : LocalWords) (lld j : ℕ) (c : LocalCells) → IsLocalCells c → c.lld ≡ lld → c.cols ≤ j → from_here (j * lld) (place_word by lld) c.words ≡ c.words
columns_done by lld j c w lead le = pass_done (place_word by lld) c.words (j * lld) (let h = past c.cols j lld le in omega (arith, w.count ∙ ap (λ l. l * c.cols) lead, h))
  where
    past : (c j l : ℕ) → c ≤ j → l * c ≤ j * l
    past c j l le = grind arith
