-- The first line of some bytes.
use Rattle.std.proofs.Common.{◌≡◌, ◌≢◌, ℕ, suc, ◌+◌, ◌-◌, ◌<◌, ◌≤◌, List, [], ◌∷◌, ◌++◌, length, take, drop, map, get_or, length-drop, take_all, refl, sym, ap, subst, ◌∙◌, arith}
use Rattle.std.proofs.lemmas.Bool.{ne_eqb, eq-eqb}
use Rattle.std.proofs.lemmas.List.{drop_more, take_more, take-append-drop, take_rest}
use Rattle.line_text.specs.Lines.{split_lines, without_return, lines, IsLine, HasNoEnd}

-- a line without a carriage return loses nothing
pub without_return_none : (line : List ℕ) → IsLine line → without_return line ≡ line
unfolding without_return
without_return_none [] is = refl
without_return_none (b ∷ []) is = rw (ne_eqb b 13 is.0.1) refl
without_return_none (b ∷ c ∷ bs) is = ap (λ (l : List ℕ). b ∷ l) (without_return_none (c ∷ bs) is.1)

without_append : (front : List ℕ) (b : ℕ) → b ≡ 13 → without_return (front ++ b ∷ []) ≡ front
unfolding without_return
without_append [] b is = rw (eq-eqb b 13 is) refl
without_append (c ∷ []) b is = rw (eq-eqb b 13 is) refl
without_append (c ∷ d ∷ front) b is = ap (λ (l : List ℕ). c ∷ l) (without_append (d ∷ front) b is)

kept_append : (front : List ℕ) (b : ℕ) → b ≢ 13 → without_return (front ++ b ∷ []) ≡ front ++ b ∷ []
unfolding without_return
kept_append [] b is = rw (ne_eqb b 13 is) refl
kept_append (c ∷ []) b is = rw (ne_eqb b 13 is) refl
kept_append (c ∷ d ∷ front) b is = ap (λ (l : List ℕ). c ∷ l) (kept_append (d ∷ front) b is)

-- a line is its front and its last byte
cut_last : (line : List ℕ) (n : ℕ) → length line ≡ suc n → line ≡ take n line ++ get_or line n 0 ∷ []
cut_last line n e = sym (take_all (n + 1) line (omega arith)) ∙ take_more line n 0 (omega arith)

pub without_last : (line : List ℕ) → 0 < length line → get_or line (length line - 1) 0 ≡ 13 → take (length line - 1) line ≡ without_return line
without_last line some is =
    let e : length line ≡ suc (length line - 1) = omega arith in
    sym (ap without_return (cut_last line (length line - 1) e) ∙ without_append (take (length line - 1) line) (get_or line (length line - 1) 0) is)

pub without_none : (line : List ℕ) → 0 < length line → get_or line (length line - 1) 0 ≢ 13 → line ≡ without_return line
without_none line some is =
    let e : length line ≡ suc (length line - 1) = omega arith in
    let cut : line ≡ take (length line - 1) line ++ get_or line (length line - 1) 0 ∷ [] = cut_last line (length line - 1) e in
    sym (ap without_return cut ∙ kept_append (take (length line - 1) line) (get_or line (length line - 1) 0) is ∙ sym cut)

pub without_empty : (line : List ℕ) → length line ≤ 0 → line ≡ without_return line
unfolding without_return
without_empty [] le = refl
without_empty (b ∷ bs) le = absurd (omega arith)

pub none : (text : List ℕ) → length text ≤ 0 → lines text ≡ []
unfolding split_lines
none [] le = refl
none (b ∷ bs) le = absurd (omega arith)

split_run : (run rest : List ℕ) → HasNoEnd run → split_lines (run ++ 10 ∷ rest) ≡ run ∷ split_lines rest
unfolding split_lines
split_run [] rest is = refl
split_run (b ∷ bs) rest is = rw (ne_eqb b 10 is.0, split_run bs rest is.1) refl

split_last : (text : List ℕ) → 0 < length text → HasNoEnd text → split_lines text ≡ text ∷ []
unfolding split_lines
split_last [] some free = absurd (omega arith)
split_last (b ∷ []) some free = rw (ne_eqb b 10 free.0) refl
split_last (b ∷ c ∷ bs) some free = rw (ne_eqb b 10 free.0, split_last (c ∷ bs) (omega arith) free.1) refl

-- a line with its end
pub ended_run : (n : ℕ) (text line : List ℕ) → n < length text → HasNoEnd (take n text) → get_or text n 0 ≡ 10 → line ≡ without_return (take n text) → lines text ≡ line ∷ lines (take (length text - (n + 1)) (drop (n + 1) text))
ended_run n text line lt free stop is =
    let rest : List ℕ = drop (n + 1) text in
    let cut : text ≡ take n text ++ 10 ∷ rest = sym (take-append-drop n text) ∙ ap (λ (l : List ℕ). take n text ++ l) (drop_more text n 0 lt ∙ ap (λ (b : ℕ). b ∷ rest) stop) in
    ap lines cut ∙ ap (map without_return) (split_run (take n text) rest free) ∙ ap (λ (l : List ℕ). l ∷ lines rest) (sym is) ∙ ap (λ (t : List ℕ). line ∷ lines t) (sym (take_rest text (n + 1)))

-- a last line without one
pub last_run : (n : ℕ) (text line : List ℕ) → 0 < length text → length text ≤ n → HasNoEnd (take n text) → line ≡ without_return (take n text) → lines text ≡ line ∷ lines (take (length text - n) (drop n text))
last_run n text line some le free is =
    let all : take n text ≡ text = take_all n text le in
    let end : lines (drop n text) ≡ [] = none (drop n text) (omega (arith, length-drop {A = ℕ})) in
    ap (map without_return) (split_last text some (subst HasNoEnd all free)) ∙ ap (λ (l : List ℕ). l ∷ []) (ap without_return (sym all) ∙ sym is) ∙ ap (λ (ls : List (List ℕ)). line ∷ ls) (sym end ∙ ap lines (sym (take_rest text n)))
