-- What the tests of a head's line say of the head.
use Rattle.std.proofs.Common.{◌≡◌, ℕ, ◌-◌, ◌*◌, ◌<◌, ◌≤◌, ◌&&◌, Bool, true, false, not, ℤ, pos, negsuc, List, [], ◌∷◌, Option, Some, None, refl, subst, arith, nat_lt, nat_eq}
use Rattle.std.proofs.lemmas.Bool.{eqb-true, eq-eqb, and_parts, or_parts, ltb-false, not-false}
use Rattle.std.specs.Option.{option_map}
use Rattle.index_tools.specs.Home.{Layout}
use Rattle.descriptor.specs.Bounds.{is_outside, part}
use Rattle.descriptor.specs.InfoOf.{entry, info_of}
use Rattle.descriptor.specs.declared.info.Info.{Info}
use Rattle.descriptor.proofs.PassLemmas.{not_outside, info_of-each}
use Rattle.piece_grammar.specs.Head.{Head}
use Rattle.piece_grammar.specs.Desc.{Desc, desc_of_head, head_of, is_off_grid, desc_info, is_number, differs_from}
use Rattle.piece_grammar.specs.Faults.{Fault, DescLine, Disagree, DescEntry, WrongPlace}
use Rattle.piece_grammar.specs.Turn.{Turn, Agrees}
use Rattle.piece_grammar.specs.FaultTable.{when, first_fault, disagrees, is_elsewhere, desc_rows}

-- ---- the place on the grid

-- what a number of processes and a place among them are
pub record IsOnGrid (d : Desc) : Type 0 where
  pub nprow_is : d.nprow ≡ pos (part d.nprow)
  pub npcol_is : d.npcol ≡ pos (part d.npcol)
  pub prow_is : d.prow ≡ pos (part d.prow)
  pub pcol_is : d.pcol ≡ pos (part d.pcol)
  pub some_rows : 1 ≤ part d.nprow
  pub few_rows : part d.nprow ≤ 64
  pub some_columns : 1 ≤ part d.npcol
  pub few_columns : part d.npcol ≤ 64
  pub few : part d.nprow * part d.npcol ≤ 64
  pub row : part d.prow < part d.nprow
  pub column : part d.pcol < part d.npcol

pub on_grid : (d : Desc) → is_off_grid d ≡ false → IsOnGrid d
on_grid d h =
    let at_q = or_parts _ (is_outside d.pcol 0 (part d.npcol - 1)) h in
    let at_p = or_parts _ (is_outside d.prow 0 (part d.nprow - 1)) at_q.0 in
    let at_few = or_parts _ (nat_lt 64 (part d.nprow * part d.npcol)) at_p.0 in
    let at_shape = or_parts (is_outside d.nprow 1 64) (is_outside d.npcol 1 64) at_few.0 in
    let a = not_outside d.nprow 1 64 at_shape.0 in
    let b = not_outside d.npcol 1 64 at_shape.1 in
    let c : part d.nprow * part d.npcol ≤ 64 = ltb-false 64 (part d.nprow * part d.npcol) at_few.1 in
    let p = not_outside d.prow 0 (part d.nprow - 1) at_p.1 in
    let q = not_outside d.pcol 0 (part d.npcol - 1) at_q.1 in
    let a1 : 1 ≤ part d.nprow = a.1 in
    let b1 : 1 ≤ part d.npcol = b.1 in
    let p2 : part d.prow ≤ part d.nprow - 1 = p.2 in
    let q2 : part d.pcol ≤ part d.npcol - 1 = q.2 in
    record {
      nprow_is = a.0;
      npcol_is = b.0;
      prow_is = p.0;
      pcol_is = q.0;
      some_rows = a1;
      few_rows = a.2;
      some_columns = b1;
      few_columns = b.2;
      few = c;
      row = omega arith;
      column = omega arith;
    }

-- ---- the entries

-- eight entries that are all good
pub record EightGood (b₁ b₂ b₃ b₄ b₅ b₆ b₇ b₈ : Bool) : Type 0 where
  pub rows : b₁ ≡ false
  pub columns : b₂ ≡ false
  pub row_block : b₃ ≡ false
  pub column_block : b₄ ≡ false
  pub context : b₅ ≡ false
  pub row_source : b₆ ≡ false
  pub column_source : b₇ ≡ false
  pub lead : b₈ ≡ false

pub eight_good : (a b c d e f g h : Bool) → info_of (entry a 2 ∷ (entry b 3 ∷ (entry c 4 ∷ (entry d 5 ∷ (entry e 8 ∷ (entry f 6 ∷ (entry g 7 ∷ (entry h 9 ∷ [])))))))) ≡ None → EightGood a b c d e f g h
eight_good a b c d e f g h none =
    let k1 = info_of-each a 2 (entry b 3 ∷ (entry c 4 ∷ (entry d 5 ∷ (entry e 8 ∷ (entry f 6 ∷ (entry g 7 ∷ (entry h 9 ∷ []))))))) none in
    let k2 = info_of-each b 3 (entry c 4 ∷ (entry d 5 ∷ (entry e 8 ∷ (entry f 6 ∷ (entry g 7 ∷ (entry h 9 ∷ [])))))) k1.1 in
    let k3 = info_of-each c 4 (entry d 5 ∷ (entry e 8 ∷ (entry f 6 ∷ (entry g 7 ∷ (entry h 9 ∷ []))))) k2.1 in
    let k4 = info_of-each d 5 (entry e 8 ∷ (entry f 6 ∷ (entry g 7 ∷ (entry h 9 ∷ [])))) k3.1 in
    let k5 = info_of-each e 8 (entry f 6 ∷ (entry g 7 ∷ (entry h 9 ∷ []))) k4.1 in
    let k6 = info_of-each f 6 (entry g 7 ∷ (entry h 9 ∷ [])) k5.1 in
    let k7 = info_of-each g 7 (entry h 9 ∷ []) k6.1 in
    let k8 = info_of-each h 9 [] k7.1 in
    record { rows = k1.0; columns = k2.0; row_block = k3.0; column_block = k4.0; context = k5.0; row_source = k6.0; column_source = k7.0; lead = k8.0 }

-- ---- numbers that are these

number_is : (v : ℤ) (k : ℕ) → is_number v k ≡ true → part v ≡ k
number_is (pos n) k h = eqb-true n k h
number_is (negsuc n) k h = absurd cc

is_that : (n : ℕ) → is_number (pos n) n ≡ true
is_that n = eq-eqb n n refl

pub agreed : (first : Option Head) (d : Desc) → disagrees first d ≡ false → Agrees first (head_of d)
agreed None d h = tt
agreed (Some first) d h =
    let k8 = and_parts _ (is_number d.csrc first.csrc) (not-false _ h) in
    let k7 = and_parts _ (is_number d.rsrc first.rsrc) k8.0 in
    let k6 = and_parts _ (is_number d.nb first.nb) k7.0 in
    let k5 = and_parts _ (is_number d.mb first.mb) k6.0 in
    let k4 = and_parts _ (is_number d.n first.n) k5.0 in
    let k3 = and_parts _ (is_number d.m first.m) k4.0 in
    let k2 = and_parts (is_number d.nprow first.nprow) (is_number d.npcol first.npcol) k3.0 in
    rw (number_is d.m first.m k3.1, number_is d.n first.n k4.1, number_is d.mb first.mb k5.1, number_is d.nb first.nb k6.1, number_is d.rsrc first.rsrc k7.1, number_is d.csrc first.csrc k8.1, number_is d.nprow first.nprow k2.0, number_is d.npcol first.npcol k2.1) refl

own_numbers : (first : Head) → differs_from (desc_of_head first) first ≡ false
own_numbers first = rw (is_that first.nprow, is_that first.npcol, is_that first.m, is_that first.n, is_that first.mb, is_that first.nb, is_that first.rsrc, is_that first.csrc) refl

pub agrees_on : (first : Option Head) (h : Head) → Agrees first h → disagrees first (desc_of_head h) ≡ false
agrees_on None h same = refl
agrees_on (Some first) h same =
    subst (λ (l : Layout). not (nat_eq h.nprow l.nprow && nat_eq h.npcol l.npcol && nat_eq h.m l.rows && nat_eq h.n l.columns && nat_eq h.mb l.mb && nat_eq h.nb l.nb && nat_eq h.rsrc l.rsrc && nat_eq h.csrc l.csrc) ≡ false) same (own_numbers h)

pub here : (turn : Turn) (d : Desc) → is_elsewhere turn d ≡ false → (part d.prow ≡ turn.prow) × (part d.pcol ≡ turn.pcol)
here turn d h = let k = and_parts (is_number d.prow turn.prow) (is_number d.pcol turn.pcol) (not-false _ h) in (number_is d.prow turn.prow k.0, number_is d.pcol turn.pcol k.1)

pub is_here : (turn : Turn) (h : Head) → h.prow ≡ turn.prow → h.pcol ≡ turn.pcol → is_elsewhere turn (desc_of_head h) ≡ false
is_here turn h row column = rw (eq-eqb h.prow turn.prow row, eq-eqb h.pcol turn.pcol column) refl

-- ---- the rows of the line

-- a row that isn't met
pub when_none : (b : Bool) (fault : Fault) (more : List (Option Fault)) → first_fault (when b fault ∷ more) ≡ None → (b ≡ false) × (first_fault more ≡ None)
when_none true fault more h = absurd cc
when_none false fault more h = (refl, h)

info_none : (o : Option Info) (more : List (Option Fault)) → first_fault (option_map DescEntry o ∷ more) ≡ None → (o ≡ None) × (first_fault more ≡ None)
info_none (Some info) more h = absurd cc
info_none None more h = (refl, h)

-- what a line of which no row is met says
pub record Passes (turn : Turn) (d : Desc) : Type 0 where
  pub on_grid : is_off_grid d ≡ false
  pub agrees : disagrees turn.first d ≡ false
  pub good : desc_info d ≡ None
  pub place : is_elsewhere turn d ≡ false

pub rows_passed : (turn : Turn) (d : Desc) → first_fault (desc_rows turn (Some d)) ≡ None → Passes turn d
rows_passed turn d h =
    let a = when_none (is_off_grid d) DescLine _ h in
    let b = when_none (disagrees turn.first d) Disagree _ a.1 in
    let c = info_none (desc_info d) _ b.1 in
    let e = when_none (is_elsewhere turn d) WrongPlace [] c.1 in
    record { on_grid = a.0; agrees = b.0; good = c.0; place = e.0 }

pub none_met : (turn : Turn) (d : Desc) → Passes turn d → first_fault (desc_rows turn (Some d)) ≡ None
none_met turn d p = rw (p.on_grid, p.agrees, p.good, p.place) refl
