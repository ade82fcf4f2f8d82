-- Laws of a call that is counted at one entry after another.
use Rattle.std.proofs.Common.{◌≡◌, ℕ, zero, suc, ◌+◌, ◌-◌, ◌<◌, ◌≤◌, Bool, ◌||◌, List, [], ◌∷◌, ◌++◌, length, map, take, drop, get_or, set, refl, sym, ap, ◌∙◌, arith}
use Rattle.std.specs.List.{AllByRecursion, list_any, refill}
use Rattle.std.proofs.lemmas.List.{take_at, take_all, drop_all, append-nil, map-set, get_or-map, get_or-append_right, get_or-drop, length-take-le, length-map}
use Rattle.std.proofs.lemmas.List.Edits.{map_over_more}
use Rattle.std.proofs.lemmas.List.Folds.{list_any_more}
use Rattle.std.proofs.Math.Seq.{map-set_same}
use Rattle.store_io.specs.Fails.{Fail, is_due, counted}
use Rattle.store_io.specs.Heap.{Bytes}
use Rattle.store_io.specs.Entries.{fail_of, names_of}
use Rattle.store_io.specs.declared.call_kind.CallKind.{CallKind}
use Rattle.store_io.specs.declared.heap.Part.{Part}
use Rattle.store_io.specs.declared.fails.FailEntry.{FailEntry}

-- the entries after a call was counted at the first i of them
abbrev pub counted_to : CallKind → List ℕ → ℕ → List Fail → List Fail
counted_to kind name i fails = map (counted kind name) (take i fails) ++ drop i fails

at_place : (c : Fail → Fail) (xs : List Fail) (i : ℕ) (d : Fail) → i < length xs → get_or (map c (take i xs) ++ drop i xs) i d ≡ get_or xs i d
at_place c xs i d lt =
    let len : length (map c (take i xs)) ≡ i = length-map (take i xs) c ∙ length-take-le i xs (omega arith) in
    let none : i - i ≡ 0 = omega arith in
    let here : i + 0 ≡ i = omega arith in
    get_or-append_right (map c (take i xs)) (drop i xs) i i d len (omega arith) ∙ ap (λ (n : ℕ). get_or (drop i xs) n d) none ∙ get_or-drop i xs 0 d ∙ ap (λ (n : ℕ). get_or xs n d) here

pub counted_more : (bytes : Bytes) (kind : CallKind) (name : List ℕ) (xs : List Fail) (es : List FailEntry) (i : ℕ) (d e : FailEntry) → i < length es → i < length xs
    → map (fail_of bytes) es ≡ counted_to kind name i xs → fail_of bytes e ≡ counted kind name (fail_of bytes (get_or es i d))
    → map (fail_of bytes) (set es i e) ≡ counted_to kind name (i + 1) xs
counted_more bytes kind name xs es i d e in_es in_xs is one =
    let old : Fail = fail_of bytes (get_or es i d) in
    let there : old ≡ get_or (counted_to kind name i xs) i old = sym (ap (λ (zs : List Fail). get_or zs i old) (sym is) ∙ get_or-map (fail_of bytes) es i d old in_es) in
    map-set (fail_of bytes) es i e ∙ ap (λ (zs : List Fail). set zs i (fail_of bytes e)) is ∙ ap (λ (f : Fail). set (counted_to kind name i xs) i f) one
    ∙ map_over_more (counted kind name) xs (counted_to kind name i xs) i old in_xs refl there

pub due_more : (bytes : Bytes) (kind : CallKind) (name : List ℕ) (xs : List Fail) (es : List FailEntry) (i : ℕ) (d : FailEntry) → i < length es → i < length xs
    → map (fail_of bytes) es ≡ counted_to kind name i xs
    → list_any (is_due kind name) (take (i + 1) xs) ≡ (list_any (is_due kind name) (take i xs) || is_due kind name (fail_of bytes (get_or es i d)))
due_more bytes kind name xs es i d in_es in_xs is =
    let f : Fail = fail_of bytes d in
    let same : get_or xs i f ≡ fail_of bytes (get_or es i d) = sym (at_place (counted kind name) xs i f in_xs) ∙ ap (λ (zs : List Fail). get_or zs i f) (sym is) ∙ get_or-map (fail_of bytes) es i d f in_es in
    list_any_more (is_due kind name) xs i f in_xs ∙ ap (λ (g : Fail). list_any (is_due kind name) (take i xs) || is_due kind name g) same

pub names_kept : (es : List FailEntry) (i : ℕ) (d e : FailEntry) → e.name ≡ (get_or es i d).name → names_of (set es i e) ≡ names_of es
names_kept es i d e same = map-set_same (λ (x : FailEntry). x.name) es i e d same

pub all_at : (P : Part → Type 0) (es : List FailEntry) (i : ℕ) (d : FailEntry) → AllByRecursion P (names_of es) → i < length es → P (get_or es i d).name
all_at P [] i d all lt = absurd (omega arith)
all_at P (e ∷ es) zero d all lt = all.0
all_at P (e ∷ es) (suc i) d all lt = all_at P es i d all.1 (omega arith)

pub all_counted : (kind : CallKind) (name : List ℕ) (xs : List Fail) (i : ℕ) → length xs ≤ i → counted_to kind name i xs ≡ map (counted kind name) xs
all_counted kind name xs i le = rw (take_all i xs le, drop_all i xs le) (append-nil (map (counted kind name) xs))

pub all_due : (p : Fail → Bool) (xs : List Fail) (i : ℕ) → length xs ≤ i → list_any p (take i xs) ≡ list_any p xs
all_due p xs i le = rw (take_all i xs le) refl

-- as many elements as before, all written
pub refilled : {X : Type 0} (old new : List X) → length new ≡ length old → refill (length old) old new ≡ new
refilled old new same = take_at new (drop (length new) old) (length old) same
