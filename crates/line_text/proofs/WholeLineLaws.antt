-- Lines with their ends.
use Rattle.std.proofs.Common.{◌≡◌, ℕ, Bool, true, false, cond, List, [], ◌∷◌, ◌++◌, map, refl, ap, ◌∙◌, append_assoc, nat_eq}
use Rattle.std.specs.List.{AllByRecursion, flat_map}
use Rattle.std.proofs.lemmas.Bool.{ne_eqb}
use Rattle.line_text.specs.Lines.{before_first_line, whole_lines, without_end, ended, text_of_lines, IsLine}
pub use Rattle.line_text.specs.Lines.{HasNoEnd}

in_front : (b : ℕ) (t : Bool) (lines : List (List ℕ)) → flat_map (λ line. line) (cond t ((b ∷ []) ∷ lines) (before_first_line b lines)) ≡ b ∷ flat_map (λ line. line) lines
in_front b true lines = refl
in_front b false [] = refl
in_front b false (line ∷ lines) = refl

-- The lines of a text, each with its end, joined are the text.
pub join_whole_lines : (bytes : List ℕ) → flat_map (λ line. line) (whole_lines bytes) ≡ bytes
unfolding whole_lines
join_whole_lines [] = refl
join_whole_lines (b ∷ bs) = in_front b (nat_eq b 10) (whole_lines bs) ∙ ap (λ (l : List ℕ). b ∷ l) (join_whole_lines bs)

-- the first run of bytes up to a line end, and the lines behind it
pub whole_run : (run rest : List ℕ) → HasNoEnd run → whole_lines (run ++ 10 ∷ rest) ≡ ended run ∷ whole_lines rest
unfolding whole_lines
whole_run [] rest is = refl
whole_run (b ∷ bs) rest is = rw (ne_eqb b 10 is.0, whole_run bs rest is.1) refl

-- bytes without a line end are one line
pub whole_last : (b : ℕ) (bs : List ℕ) → HasNoEnd (b ∷ bs) → whole_lines (b ∷ bs) ≡ (b ∷ bs) ∷ []
unfolding whole_lines
whole_last b [] is = rw (ne_eqb b 10 is.0) refl
whole_last b (c ∷ bs) is = rw (ne_eqb b 10 is.0, whole_last c bs is.1) refl

-- what stands before the line end of such bytes
pub without_end_run : (run : List ℕ) → HasNoEnd run → without_end (ended run) ≡ run
unfolding without_end
without_end_run [] is = refl
without_end_run (b ∷ bs) is = rw (ne_eqb b 10 is.0, without_end_run bs is.1) refl

pub without_end_last : (run : List ℕ) → HasNoEnd run → without_end run ≡ run
unfolding without_end
without_end_last [] is = refl
without_end_last (b ∷ bs) is = rw (ne_eqb b 10 is.0, without_end_last bs is.1) refl

pub no_end : (line : List ℕ) → IsLine line → HasNoEnd line
no_end [] is = tt
no_end (b ∷ bs) is = (is.0.0, no_end bs is.1)

-- The lines of a text that is written line by line.
pub whole_written : (written : List (List ℕ)) → AllByRecursion IsLine written → whole_lines (text_of_lines written) ≡ map ended written
unfolding whole_lines
whole_written [] all = refl
whole_written (line ∷ written) all =
    ap whole_lines (append_assoc line (10 ∷ []) (text_of_lines written))
    ∙ whole_run line (text_of_lines written) (no_end line all.0)
    ∙ ap (λ (ls : List (List ℕ)). ended line ∷ ls) (whole_written written all.1)
