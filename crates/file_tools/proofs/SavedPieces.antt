-- What stands in the files of the pieces once all are saved.
use Rattle.std.proofs.Common.{◌≡◌, ℕ, zero, suc, ◌+◌, ◌*◌, ◌<◌, ◌≤◌, Bool, true, false, cond, List, [], ◌∷◌, Some, refl, subst, ◌∙◌, arith, inl, inr, ◌⊎◌}
use Rattle.std.specs.Prelude.{map}
use Rattle.std.specs.List.{range_with_len}
use Rattle.std.specs.FinMap.{get, insert}
use Rattle.std.specs.Ordering.{nat_cmp, eq_by_cmp}
use Rattle.std.specs.Cmp.Lexicographic.{slice_cmp}
use Rattle.std.proofs.Math.Nat.{le-mul_of_pos_right}
use Rattle.std.proofs.lemmas.Bool.{cases_lt}
use Rattle.store_io.specs.Outside.{Files}
use Rattle.store_io.proofs.FilesLemmas.{get_inserted, get_same, same_name}
use Rattle.mm_grammar.specs.Matrix.{Matrix}
use Rattle.tool_words.specs.Within.{IsTarget}
use Rattle.file_tools.specs.Target.{Target}
use Rattle.save_list.specs.Save.{Save, saved}
use Rattle.file_tools.specs.SplitWalk.{name_of, text_of, save_of, saves_of}
use Rattle.file_tools.proofs.NamesApart.{same_piece}

get_other : (m : Files) (k v q : List ℕ) → (q ≡ k → ⊥) → get (insert m k v) q ≡ get m q
get_other m k v q other = get_inserted m k v q ∙ by (eq_by_cmp (slice_cmp nat_cmp) q k) refl
  where
    by : (b : Bool) → eq_by_cmp (slice_cmp nat_cmp) q k ≡ b → cond b (Some v) (get m q) ≡ get m q
    by true e = absurd (other (same_name q k e))
    by false e = refl

-- no save has this name
abbrev IsFree : (name : List ℕ) → List Save → Type 0
IsFree name [] = Unit {0}
IsFree name (s ∷ more) = (name ≡ s.name → ⊥) × IsFree name more

kept : (saves : List Save) (files : Files) (name : List ℕ) → IsFree name saves → get (saved saves files) name ≡ get files name
kept [] files name free = refl
kept (s ∷ more) files name free = kept more (insert files s.name s.text) name free.1 ∙ get_other files s.name s.text name free.0

pub few_columns : (t : Target) → IsTarget t.nprow t.npcol t.mb t.nb → t.npcol ≤ 64
few_columns t is = let wide : t.npcol ≤ t.npcol * t.nprow = le-mul_of_pos_right t.npcol is.rows in omega (arith, wide, is.grid)

-- later pieces have other names
others : (t : Target) (m : Matrix) (k a c : ℕ) → IsTarget t.nprow t.npcol t.mb t.nb → k < a → a + c ≤ t.nprow * t.npcol → IsFree (name_of t k) (map (save_of t m) (range_with_len a c))
others t m k a zero is lt le = tt
others t m k a (suc c) is lt le =
    let differ : name_of t k ≡ name_of t a → ⊥ = λ e. let same = same_piece t.prefix t.npcol k a is.columns (few_columns t is) (omega (arith, is.grid)) (omega (arith, is.grid)) e in omega (arith, same) in
    (differ, others t m k (a + 1) c is (omega arith) (omega arith))

held_from : (t : Target) (m : Matrix) (k a c : ℕ) (files : Files) → IsTarget t.nprow t.npcol t.mb t.nb → a ≤ k → k < a + c → a + c ≤ t.nprow * t.npcol
    → get (saved (map (save_of t m) (range_with_len a c)) files) (name_of t k) ≡ Some (text_of t m k)
held_from t m k a zero files is from lt le = absurd (omega arith)
held_from t m k a (suc c) files is from lt le = by (cases_lt a k) (λ l. held_from t m k (a + 1) c (insert files (name_of t a) (text_of t m a)) is (omega arith) (omega arith) (omega arith))
  where
    by : (a < k) ⊎ (k ≤ a) → (a < k → get (saved (map (save_of t m) (range_with_len (a + 1) c)) (insert files (name_of t a) (text_of t m a))) (name_of t k) ≡ Some (text_of t m k))
        → get (saved (map (save_of t m) (range_with_len (a + 1) c)) (insert files (name_of t a) (text_of t m a))) (name_of t k) ≡ Some (text_of t m k)
    by (inl l) later = later l
    by (inr l) later =
        let same : a ≡ k = omega arith in
        kept (map (save_of t m) (range_with_len (a + 1) c)) (insert files (name_of t a) (text_of t m a)) (name_of t k) (others t m k (a + 1) c is (omega arith) (omega arith))
        ∙ subst (λ (j : ℕ). get (insert files (name_of t a) (text_of t m a)) (name_of t j) ≡ Some (text_of t m j)) same (get_same files (name_of t a) (text_of t m a))

-- Each piece stands under its name.
pub piece_held : (t : Target) (m : Matrix) (k : ℕ) (files : Files) → IsTarget t.nprow t.npcol t.mb t.nb → k < t.nprow * t.npcol → get (saved (saves_of t m) files) (name_of t k) ≡ Some (text_of t m k)
piece_held t m k files is lt = held_from t m k 0 (t.nprow * t.npcol) files is (omega arith) (omega arith) (omega arith)
