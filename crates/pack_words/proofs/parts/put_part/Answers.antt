-- A part of one word.
use Rattle.std.proofs.Common.{◌≡◌, ◌+◌, ◌++◌, ◌<◌, ℕ, suc, ℤ, pos, List, [], ◌∷◌, length, take, drop, sym, ap, ◌∙◌, arith, rules, slice_index_or, slice_set, to_z-of_z}
use Rattle.std.specs.Prelude.{FitsSigned}
use Rattle.std.specs.Int.{w32}
use Rattle.std.proofs.lemmas.List.{set_split, append_assoc}
use Rattle.pack_words.proofs.parts.put_part.Goals as goal

one_word : (ws part : List ℤ) (start : ℕ) → length part ≡ 1 → start < length ws → slice_set ws start (slice_index_or part 0 (pos 0)) ≡ take start ws ++ part ++ drop (start + length part) ws
one_word ws [] start one lt = absurd (omega arith)
one_word ws (x ∷ y ∷ ys) start one lt = absurd (omega arith)
one_word ws (x ∷ []) start one lt =
    let e : start + 1 ≡ suc start = omega arith in
    set_split ws start x lt ∙ ap (λ n. take start ws ++ x ∷ drop n ws) (sym e) ∙ sym (append_assoc (take start ws) (x ∷ []) (drop (start + 1) ws))

pub returns-then-part-eq1-clause-whole : goal.returns-then-part-eq1-clause-whole
returns-then-part-eq1-clause-whole c =
    let fits : FitsSigned w32 (slice_index_or c.args.part.now 0 (pos 0)) = search rules in
    ap (slice_set c.args.words.now c.args.start) (to_z-of_z fits)
    ∙ one_word c.args.words.now c.args.part.now c.args.start c.if-part-eq1.true (omega arith)
