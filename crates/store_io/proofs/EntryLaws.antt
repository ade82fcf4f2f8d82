-- Laws of the files of entries.
use Rattle.std.proofs.Common.{◌≡◌, ◌≢◌, ℕ, zero, suc, ◌+◌, ◌<◌, ◌≤◌, Bool, true, false, cond, List, [], ◌∷◌, ◌++◌, length, map, take, get_or, refl, sym, ap, ◌∙◌, arith, Option, None, Some}
use Rattle.std.specs.List.{AllByRecursion}
use Rattle.std.specs.Ordering.{nat_cmp, eq_by_cmp}
use Rattle.std.specs.Cmp.Lexicographic.{slice_cmp}
use Rattle.std.specs.Prelude.{MatchOption}
use Rattle.std.specs.FinMap.{get, insert, empty, get-empty}
use Rattle.std.proofs.lemmas.List.{take_more, take_all}
use Rattle.store_io.specs.Outside.{Files}
use Rattle.store_io.specs.Heap.{Bytes, IsPart, Keeps, part_of}
use Rattle.store_io.specs.Entries.{IsEntry, files_of, fail_of, names_of}
use Rattle.store_io.specs.declared.heap.Part.{Part}
use Rattle.store_io.specs.declared.entries.Entry.{Entry}
use Rattle.store_io.specs.declared.fails.FailEntry.{FailEntry}
use Rattle.store_io.proofs.FilesLemmas.{get_inserted, get_same, same_name}

-- ---- what stands at a name

pub files_more : (files : Files) (b : Bytes) (es : List Entry) (e : Entry) → files_of files b (es ++ e ∷ []) ≡ insert (files_of files b es) (part_of b e.name) (part_of b e.content)
unfolding files_of
files_more files b [] e = refl
files_more files b (x ∷ es) e = files_more (insert files (part_of b x.name) (part_of b x.content)) b es e

pub own : (files : Files) (k v name : List ℕ) → k ≡ name → get (insert files k v) name ≡ Some v
own files k v name is = ap (λ (n : List ℕ). get (insert files n v) name) is ∙ get_same files name v

pub other : (files : Files) (k v name : List ℕ) → k ≢ name → get (insert files k v) name ≡ get files name
other files k v name ne = get_inserted files k v name ∙ kept (eq_by_cmp (slice_cmp nat_cmp) name k) _ _ (λ t. ne (sym (same_name name k t)))
  where
    kept : (b : Bool) (x y : Option (List ℕ)) → (b ≡ true → ⊥) → cond b x y ≡ y
    kept true x y f = absurd (f refl)
    kept false x y f = refl

-- an answer for a name over these files
abbrev pub Found : Bytes → Files → (name : List ℕ) → Option Entry → Type 0
Found b files name o = MatchOption o (get files name ≡ None) (λ (e : Entry). (IsEntry b e × (part_of b e.name ≡ name)) × (get files name ≡ Some (part_of b e.content)))

pub entry_at : (b : Bytes) (es : List Entry) (i : ℕ) (d : Entry) → AllByRecursion (IsEntry b) es → i < length es → IsEntry b (get_or es i d)
entry_at b [] i d all lt = absurd (omega arith)
entry_at b (e ∷ es) zero d all lt = all.0
entry_at b (e ∷ es) (suc i) d all lt = entry_at b es i d all.1 (omega arith)

pub found_own : (b : Bytes) (es : List Entry) (i : ℕ) (d : Entry) (name : List ℕ) → i < length es → AllByRecursion (IsEntry b) es → part_of b (get_or es i d).name ≡ name → Found b (files_of empty b (take (i + 1) es)) name (Some (get_or es i d))
found_own b es i d name lt all is = ((entry_at b es i d all lt, is), rw (take_more es i d lt, files_more empty b (take i es) (get_or es i d)) (own (files_of empty b (take i es)) (part_of b (get_or es i d).name) (part_of b (get_or es i d).content) name is))

pub found_other : (b : Bytes) (es : List Entry) (i : ℕ) (d : Entry) (name : List ℕ) (o : Option Entry) → i < length es → part_of b (get_or es i d).name ≢ name → Found b (files_of empty b (take i es)) name o → Found b (files_of empty b (take (i + 1) es)) name o
found_other b es i d name o lt ne = at o
  where
    same : get (files_of empty b (take (i + 1) es)) name ≡ get (files_of empty b (take i es)) name
    same = rw (take_more es i d lt, files_more empty b (take i es) (get_or es i d)) (other (files_of empty b (take i es)) (part_of b (get_or es i d).name) (part_of b (get_or es i d).content) name ne)

    at : (o : Option Entry) → Found b (files_of empty b (take i es)) name o → Found b (files_of empty b (take (i + 1) es)) name o
    at None h = same ∙ h
    at (Some e) h = (h.0, same ∙ h.1)

pub found_none : (b : Bytes) (es : List Entry) (name : List ℕ) → Found b (files_of empty b (take 0 es)) name None
unfolding files_of
found_none b es name = get-empty (slice_cmp nat_cmp) name

pub found_all : (b : Bytes) (es : List Entry) (i : ℕ) (name : List ℕ) (o : Option Entry) → length es ≤ i → Found b (files_of empty b (take i es)) name o → Found b (files_of empty b es) name o
found_all b es i name o le = λ (h : Found b (files_of empty b (take i es)) name o). rw (take_all i es le) at h

-- ---- entries stay where bytes are added

pub entry_kept : (old new : Bytes) (e : Entry) → Keeps old new → IsEntry old e → IsEntry new e
entry_kept old new e keeps is = let name = keeps e.name is.name in let content = keeps e.content is.content in record { name = name.0; content = content.0 }

pub entries_kept : (old new : Bytes) (es : List Entry) → Keeps old new → AllByRecursion (IsEntry old) es → AllByRecursion (IsEntry new) es
entries_kept old new [] keeps all = tt
entries_kept old new (e ∷ es) keeps all = (entry_kept old new e keeps all.0, entries_kept old new es keeps all.1)

pub entries_more : (b : Bytes) (es : List Entry) (e : Entry) → AllByRecursion (IsEntry b) es → IsEntry b e → AllByRecursion (IsEntry b) (es ++ e ∷ [])
entries_more b [] e all one = (one, tt)
entries_more b (x ∷ es) e all one = (all.0, entries_more b es e all.1 one)

pub file_kept : (old new : Bytes) (files : Files) (e : Entry) → Keeps old new → IsEntry old e → insert files (part_of new e.name) (part_of new e.content) ≡ insert files (part_of old e.name) (part_of old e.content)
file_kept old new files e keeps is =
    let name = keeps e.name is.name in
    let content = keeps e.content is.content in
    ap (λ (n : List ℕ). insert files n (part_of new e.content)) name.1 ∙ ap (insert files (part_of old e.name)) content.1

pub files_kept : (old new : Bytes) (files : Files) (es : List Entry) → Keeps old new → AllByRecursion (IsEntry old) es → files_of files new es ≡ files_of files old es
unfolding files_of
files_kept old new files [] keeps all = refl
files_kept old new files (e ∷ es) keeps all = ap (λ (m : Files). files_of m new es) (file_kept old new files e keeps all.0) ∙ files_kept old new (insert files (part_of old e.name) (part_of old e.content)) es keeps all.1

-- ---- calls that are to fail stay, too

pub fails_kept : (old new : Bytes) (es : List FailEntry) → Keeps old new → AllByRecursion (IsPart old) (names_of es) → map (fail_of new) es ≡ map (fail_of old) es
fails_kept old new [] keeps all = refl
fails_kept old new (e ∷ es) keeps all = let name = keeps e.name all.0 in rw (name.1, fails_kept old new es keeps all.1) refl

pub names_kept : (old new : Bytes) (ps : List Part) → Keeps old new → AllByRecursion (IsPart old) ps → AllByRecursion (IsPart new) ps
names_kept old new [] keeps all = tt
names_kept old new (p ∷ ps) keeps all = let is = keeps p all.0 in (is.0, names_kept old new ps keeps all.1)

pub names_more : (P : Part → Type 0) (es : List FailEntry) (e : FailEntry) → AllByRecursion P (names_of es) → P e.name → AllByRecursion P (names_of (es ++ e ∷ []))
names_more P [] e all one = (one, tt)
names_more P (x ∷ es) e all one = (all.0, names_more P es e all.1 one)

pub keeps_then : (a b c : Bytes) → Keeps a b → Keeps b c → Keeps a c
keeps_then a b c first then p is =
    let one = first p is in
    let two = then p one.0 in
    (two.0, two.1 ∙ one.1)
