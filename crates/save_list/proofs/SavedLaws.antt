-- Saves that are done one after the other.
use Rattle.std.proofs.Common.{◌≡◌, ℕ, zero, suc, ◌+◌, ◌-◌, ◌^◌, ◌<◌, min, IsTrue, List, [], ◌∷◌, ◌++◌, refl, sym, ap, subst, ◌∙◌, arith}
use Rattle.std.specs.Prelude.{map}
use Rattle.std.specs.List.{range_with_len}
use Rattle.std.specs.FinMap.{insert}
use Rattle.std.proofs.lemmas.List.FromFn.{map-range_with_len_more}
use Rattle.store_io.specs.Outside.{Outside, Files, SameCounts, HasFailed, IsEither, Rose, OneMore}
use Rattle.store_io.specs.declared.store.StoreErr.{StoreErr}
use Rattle.store_io.specs.declared.store.StoreErr.TheVariants as store
use Rattle.text_io.specs.Saving.{HoldsFront, SavesWhy}
use Rattle.save_list.specs.Save.{Save, saved, numbered, names_of}
use Rattle.save_list.specs.Saving.{opened, FailsAtSave}

-- one save after others
saved_last : (xs : List Save) (s : Save) (files : Files) → saved (xs ++ s ∷ []) files ≡ insert (saved xs files) s.name s.text
saved_last [] s files = refl
saved_last (x ∷ xs) s files = saved_last xs s (insert files x.name x.text)

-- no save is done
pub saved_none : (save_at : ℕ → Save) (files : Files) → files ≡ saved (numbered save_at 0) files
saved_none save_at files = refl

-- one save more
pub saved_next : (save_at : ℕ → Save) (k : ℕ) (old mid new : Files) → mid ≡ saved (numbered save_at k) old → new ≡ insert mid (save_at k).name (save_at k).text → new ≡ saved (numbered save_at (k + 1)) old
saved_next save_at k old mid new before then =
    then ∙ ap (λ (files : Files). insert files (save_at k).name (save_at k).text) before ∙ sym (saved_last (numbered save_at k) (save_at k) old)
    ∙ ap (λ (xs : List Save). saved xs old) (sym (map-range_with_len_more save_at 0 k k (omega arith)))

-- the saves before a number, that of it, and those after it
cut_from : (save_at : ℕ → Save) (a k n : ℕ) → k < n → map save_at (range_with_len a n) ≡ map save_at (range_with_len a k) ++ save_at (a + k) ∷ map save_at (range_with_len (a + k + 1) (n - suc k))
cut_from save_at a k zero lt = absurd (omega arith)
cut_from save_at a zero (suc n) lt =
    let here : a + 0 ≡ a = omega arith in
    ap (λ (b : ℕ). save_at b ∷ map save_at (range_with_len (b + 1) n)) (sym here)
    ∙ ap (λ (b : ℕ). save_at (a + 0) ∷ map save_at (range_with_len (a + 0 + 1) b)) (let same : n ≡ suc n - 1 = omega arith in same)
cut_from save_at a (suc k) (suc n) lt =
    let at : a + 1 + k ≡ a + suc k = omega arith in
    let left : n - suc k ≡ suc n - suc (suc k) = omega arith in
    ap (λ (xs : List Save). save_at a ∷ xs) (cut_from save_at (a + 1) k n (omega arith))
    ∙ ap (λ (b : ℕ). save_at a ∷ (map save_at (range_with_len (a + 1) k) ++ save_at b ∷ map save_at (range_with_len (b + 1) (n - suc k)))) at
    ∙ ap (λ (c : ℕ). save_at a ∷ (map save_at (range_with_len (a + 1) k) ++ save_at (a + suc k) ∷ map save_at (range_with_len (a + suc k + 1) c))) left

pub cut_at : (save_at : ℕ → Save) (k n : ℕ) → k < n → numbered save_at n ≡ numbered save_at k ++ save_at k ∷ map save_at (range_with_len (k + 1) (n - suc k))
cut_at save_at k n lt =
    let here : 0 + k ≡ k = omega arith in
    cut_from save_at 0 k n lt ∙ ap (λ (b : ℕ). numbered save_at k ++ save_at b ∷ map save_at (range_with_len (b + 1) (n - suc k))) here

-- ---- openings

pub opened_none : (before : ℕ) → before ≡ opened 0 before
unfolding opened
opened_none before = refl

one_opened : (k before : ℕ) → opened (suc k) before ≡ min (opened k before + 1) (2 ^ 64 - 1)
unfolding opened
one_opened k before = refl

pub after_one : (k before mid now : ℕ) → mid ≡ opened k before → OneMore mid now → now ≡ opened (suc k) before
after_one k before mid now first then = then ∙ ap (λ (n : ℕ). min (n + 1) (2 ^ 64 - 1)) first ∙ sym (one_opened k before)

-- one opening more
pub opened_next : (k before mid now : ℕ) → mid ≡ opened k before → OneMore mid now → now ≡ opened (k + 1) before
opened_next k before mid now first then = let next : suc k ≡ k + 1 = omega arith in after_one k before mid now first then ∙ ap (λ (n : ℕ). opened n before) next

-- ---- a save that failed

-- the store failed after other calls
pub fails_later : (old mid new : Outside) → SameCounts old mid → HasFailed mid new → HasFailed old new
fails_later old mid new same failed =
    let P : ℕ → Type 0 = λ n. Rose n new.faults in
    record { faults = subst P same.faults failed.faults; misses = failed.misses ∙ same.misses }

pub saves_failed : (e : StoreErr) (old new : Outside) → SavesWhy e old new → HasFailed old new
saves_failed store.Failed old new why = why
saves_failed store.Missing old new why = absurd why

-- the store failed at a save after those before it
pub fails_at : (save_at : ℕ → Save) (k : ℕ) (e : StoreErr) (old mid new : Outside) → mid.told ≡ old.told → (IsTrue old.told → mid.files ≡ saved (numbered save_at k) old.files) → mid.opens ≡ opened k old.opens → SameCounts old mid
    → new.told ≡ mid.told → (IsTrue mid.told → IsEither (new.files ≡ mid.files) (HoldsFront mid.files new.files (save_at k).name (save_at k).text)) → OneMore mid.opens new.opens → SavesWhy e mid new → FailsAtSave save_at k old new
fails_at save_at k e old mid new told before opens counts still then one why =
    let P : Files → Type 0 = λ files. IsEither (new.files ≡ files) (HoldsFront files new.files (save_at k).name (save_at k).text) in
    record {
      told = still ∙ told;
      files = λ tells. subst P (before tells) (then (subst IsTrue (sym told) tells));
      opens = after_one k old.opens mid.opens new.opens opens one;
      failed = fails_later old mid new counts (saves_failed e mid new why);
    }

-- the names of saves, where each number has a name
pub names_by : (save_at : ℕ → Save) (name_at : ℕ → List ℕ) (ks : List ℕ) → ((k : ℕ) → (save_at k).name ≡ name_at k) → names_of (map save_at ks) ≡ map name_at ks
names_by save_at name_at [] e = refl
names_by save_at name_at (k ∷ ks) e = ap (λ (n : List ℕ). n ∷ names_of (map save_at ks)) (e k) ∙ ap (λ (ns : List (List ℕ)). name_at k ∷ ns) (names_by save_at name_at ks e)
