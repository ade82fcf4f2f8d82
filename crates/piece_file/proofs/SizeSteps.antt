-- The size of a head's array, by what the code compares.
use Rattle.std.proofs.Common.{◌≡◌, ◌≢◌, ℕ, ◌+◌, ◌*◌, ◌^◌, ◌<◌, ◌≤◌, ◌&&◌, not, Bool, true, false, [], Some, None, refl, sym, ap, ◌∙◌, arith, nat_eq, nat_lt}
use Rattle.std.proofs.lemmas.Bool.{ne_eqb, eq-eqb, lt-ltb, le-ltb}
use Rattle.mm_grammar.specs.Parts.{Header}
use Rattle.piece_grammar.specs.Head.{Head, array_columns, array_words}
use Rattle.piece_grammar.specs.Faults.{Shape, TooLarge}
use Rattle.piece_grammar.specs.Turn.{Turn}
use Rattle.mm_grammar.specs.Symmetry.{General}
use Rattle.piece_grammar.specs.FaultTable.{first_fault, array_rows}
use Rattle.piece_grammar.proofs.Heads.{when_none}
use Rattle.piece_file.specs.Halting.{Fits}
use Rattle.std.proofs.lemmas.Bool.{and_parts, eqb-true, ltb-false}

no_second : (b : Bool) → b && false ≡ false
no_second true = refl
no_second false = refl

pub other_rows : (turn : Turn) (head : Head) (size : Header) (columns : ℕ) → columns ≡ array_columns head → size.rows ≢ head.lld → first_fault (array_rows turn head (Some size)) ≡ Some (Shape size.rows size.columns head.lld columns)
other_rows turn head size columns same ne = rw (ne_eqb size.rows head.lld ne, same) refl

pub other_columns : (turn : Turn) (head : Head) (size : Header) (columns : ℕ) → columns ≡ array_columns head → size.columns ≢ columns → first_fault (array_rows turn head (Some size)) ≡ Some (Shape size.rows size.columns head.lld columns)
other_columns turn head size columns same ne =
    let other : nat_eq size.columns (array_columns head) ≡ false = ne_eqb size.columns (array_columns head) (λ e. ne (e ∙ sym same)) in
    rw (other, no_second (nat_eq size.rows head.lld), same) refl

pub too_many : (turn : Turn) (head : Head) (size : Header) (columns : ℕ) → columns ≡ array_columns head → size.rows ≡ head.lld → size.columns ≡ columns → 2 ^ 26 < turn.before + head.lld * columns
    → first_fault (array_rows turn head (Some size)) ≡ Some (TooLarge (turn.before + head.lld * columns))
too_many turn head size columns same rows cols more =
    let large : nat_lt (2 ^ 26) (turn.before + array_words head) ≡ true = lt-ltb _ _ (let e : head.lld * columns ≡ array_words head = ap (λ (n : ℕ). head.lld * n) same in omega (arith, e)) in
    rw (eq-eqb size.rows head.lld rows, eq-eqb size.columns (array_columns head) (cols ∙ same), large, same) refl

pub fits : (turn : Turn) (head : Head) (size : Header) (columns : ℕ) → columns ≡ array_columns head → size.rows ≡ head.lld → size.columns ≡ columns → turn.before + head.lld * columns ≤ 2 ^ 26 → first_fault (array_rows turn head (Some size)) ≡ None
fits turn head size columns same rows cols few =
    let small : nat_lt (2 ^ 26) (turn.before + array_words head) ≡ false = le-ltb _ _ (let e : head.lld * columns ≡ array_words head = ap (λ (n : ℕ). head.lld * n) same in omega (arith, e)) in
    rw (eq-eqb size.rows head.lld rows, eq-eqb size.columns (array_columns head) (cols ∙ same), small) refl

-- ---- a size that none of the rows refuses

not_not : (b : Bool) → not b ≡ false → b ≡ true
not_not true h = refl
not_not false h = absurd cc

size_is : (turn : Turn) (head : Head) (size : Header) → first_fault (array_rows turn head (Some size)) ≡ None → (size.rows ≡ head.lld) × (size.columns ≡ array_columns head) × (turn.before + array_words head ≤ 2 ^ 26)
size_is turn head size none =
    let a = when_none (not (nat_eq size.rows head.lld && nat_eq size.columns (array_columns head))) (Shape size.rows size.columns head.lld (array_columns head)) _ none in
    let b = when_none (nat_lt (2 ^ 26) (turn.before + array_words head)) (TooLarge (turn.before + array_words head)) [] a.1 in
    let c = and_parts (nat_eq size.rows head.lld) (nat_eq size.columns (array_columns head)) (not_not _ a.0) in
    (eqb-true size.rows head.lld c.0, eqb-true size.columns (array_columns head) c.1, ltb-false (2 ^ 26) (turn.before + array_words head) b.0)

pub size_fits : (turn : Turn) (head : Head) (size : Header) → size.symmetry ≡ General → first_fault (array_rows turn head (Some size)) ≡ None → Fits turn head size
size_fits turn head size kind none = let s = size_is turn head size none in record { general = kind; rows = s.0; columns = s.1; few = s.2 }
