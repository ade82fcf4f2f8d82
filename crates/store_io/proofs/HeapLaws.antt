-- Laws of parts of bytes that only grow.
use Rattle.std.proofs.Common.{◌≡◌, ℕ, ◌+◌, ◌≤◌, Bool, true, false, List, [], ◌++◌, length, take, drop, sym, ap, ◌∙◌, arith, if◌then◌else◌}
use Rattle.std.specs.Prelude.{slice_range}
use Rattle.std.proofs.lemmas.List.{take-append-le, take_at, length-append, drop-append-le, append-nil}
use Rattle.std.proofs.lemmas.Slice.{between_is}
use Rattle.store_io.specs.Heap.{Bytes, IsPart, Keeps, part_of}

-- a part stays where bytes come after it
stays : (xs more : List ℕ) (i j : ℕ) → j ≤ length xs → slice_range (xs ++ more) i j ≡ slice_range xs i j
stays xs more i j le = between_is (xs ++ more) i j ∙ ap (drop i) (take-append-le j xs more le) ∙ sym (between_is xs i j)

longer : (xs more : List ℕ) (j : ℕ) → j ≤ length xs → j ≤ length (xs ++ more)
longer xs more j le = omega (arith, length-append xs more)

-- the last part with what is added
pub grown : (xs piece ys : List ℕ) (i j k : ℕ) → ys ≡ xs ++ piece → i ≤ j → j ≡ length xs → k ≡ j + length piece → slice_range ys i k ≡ slice_range xs i j ++ piece
grown xs piece ys i j k is le end next =
    let whole : take k (xs ++ piece) ≡ xs ++ piece = ap (take k) (sym (append-nil (xs ++ piece))) ∙ take_at (xs ++ piece) [] k (length-append xs piece ∙ omega arith) in
    let part : slice_range xs i j ≡ drop i xs = between_is xs i j ∙ ap (drop i) (ap (take j) (sym (append-nil xs)) ∙ take_at xs [] j (sym end)) in
    rw is (between_is (xs ++ piece) i k ∙ ap (drop i) whole ∙ drop-append-le i xs piece (omega arith) ∙ ap (λ (s : List ℕ). s ++ piece) (sym part))

pub keeps_main : (old new : Bytes) (piece : List ℕ) → new.main ≡ old.main ++ piece → new.aside ≡ old.aside → Keeps old new
keeps_main old new piece main aside p is = at p.aside is.order is.fits
  where
    at : (a : Bool) {i j : ℕ} → i ≤ j → j ≤ length (if a then old.aside else old.main) → (IsPart new (record { aside = a; from = i; to = j })) × (part_of new (record { aside = a; from = i; to = j }) ≡ part_of old (record { aside = a; from = i; to = j }))
    at true {i} {j} order fits = (record { order = order; fits = rw aside fits }, ap (λ (b : List ℕ). slice_range b i j) aside)
    at false {i} {j} order fits = (record { order = order; fits = rw main (longer old.main piece j fits) }, ap (λ (b : List ℕ). slice_range b i j) main ∙ stays old.main piece i j fits)

pub keeps_aside : (old new : Bytes) (piece : List ℕ) → new.main ≡ old.main → new.aside ≡ old.aside ++ piece → Keeps old new
keeps_aside old new piece main aside p is = at p.aside is.order is.fits
  where
    at : (a : Bool) {i j : ℕ} → i ≤ j → j ≤ length (if a then old.aside else old.main) → (IsPart new (record { aside = a; from = i; to = j })) × (part_of new (record { aside = a; from = i; to = j }) ≡ part_of old (record { aside = a; from = i; to = j }))
    at false {i} {j} order fits = (record { order = order; fits = rw main fits }, ap (λ (b : List ℕ). slice_range b i j) main)
    at true {i} {j} order fits = (record { order = order; fits = rw aside (longer old.aside piece j fits) }, ap (λ (b : List ℕ). slice_range b i j) aside ∙ stays old.aside piece i j fits)
