-- Members of a scope and their positions.
use Rattle.std.specs.Prelude.{◌≡◌, ◌↔◌, ℕ, ◌+◌, ◌*◌, ◌/◌, ◌%◌, ◌<◌, ◌≤◌, ◌==◌, Bool, true, false, cond, ◌&&◌, nat_eq, nat_lt, Option, Some, None, is_some, List, length, slice_get, slice_index}
use Rattle.std.proofs.Common.{sym, ap, ◌∙◌, refl, subst, inl, inr, arith}
use Rattle.std.proofs.lemmas.Bool.Decides.{nat_tests, eqb_tells}
use Rattle.std.proofs.Math.Nat.{mod-lt}
use Rattle.std.proofs.lemmas.Nat.{mod-mul-add, div-mul-add, div-add-mod', div_below}
use Rattle.std.proofs.lemmas.List.FromFn.{length-map-range_with_len, get_or-map-range_with_len}
use Rattle.std.proofs.lemmas.Option.{same_Some, some_pair_parts}
use Rattle.proc_grid.specs.Grid.{Grid, IsGrid, place_number, place_of, rank_at, is_in}
use Rattle.proc_grid.specs.Scopes.{IsScopeOf, IsPosition, AreDistinct, members, position_in}
use Rattle.proc_grid.specs.declared.scope.Scope.{Scope}
use Rattle.proc_grid.specs.declared.scope.Scope.TheVariants.{Row, Column, All}
use Rattle.proc_grid.proofs.GridLemmas.{place_number-below, rank_at-some, place_of-rank, place_of-rank_at}

-- a place that has a rank is in the grid
in_grid : (g : Grid) (place : ℕ × ℕ) → is_in g place ≡ true → (place.0 < g.nprow) × (place.1 < g.npcol)
in_grid g place h = by (nat_lt place.0 g.nprow) (nat_lt place.1 g.npcol) refl refl h where
  by : (a b : Bool) → nat_lt place.0 g.nprow ≡ a → nat_lt place.1 g.npcol ≡ b → is_some (cond (a && b) (slice_get g.ranks (place_number g.npcol place.0 place.1)) None) ≡ true → (place.0 < g.nprow) × (place.1 < g.npcol)
  by true true p q h = (grind (arith, nat_tests), grind (arith, nat_tests))
  by true false p q h = cc
  by false b p q h = cc

pub row_member : (g : Grid) (p k : ℕ) → k < g.npcol → slice_index (members g (Row p)) k ≡ slice_index g.ranks (place_number g.npcol p k)
row_member g p k lt = get_or-map-range_with_len (λ q. slice_index g.ranks (place_number g.npcol p q)) 0 g.npcol k k 0 lt (omega arith)

pub column_member : (g : Grid) (q k : ℕ) → k < g.nprow → slice_index (members g (Column q)) k ≡ slice_index g.ranks (place_number g.npcol k q)
column_member g q k lt = get_or-map-range_with_len (λ p. slice_index g.ranks (place_number g.npcol p q)) 0 g.nprow k k 0 lt (omega arith)

pub row_long : (g : Grid) (p : ℕ) → length (members g (Row p)) ≡ g.npcol
row_long g p = length-map-range_with_len (λ q. slice_index g.ranks (place_number g.npcol p q)) 0 g.npcol

pub column_long : (g : Grid) (q : ℕ) → length (members g (Column q)) ≡ g.nprow
column_long g q = length-map-range_with_len (λ p. slice_index g.ranks (place_number g.npcol p q)) 0 g.nprow

some_of : (b : Bool) (x k : ℕ) → cond b (Some x) None ≡ Some k → (b ≡ true) × (x ≡ k)
some_of true x k h = (refl, (cc))
some_of false x k h = cc

both_of : (a b : Bool) → (a && b) ≡ true → (a ≡ true) × (b ≡ true)
both_of true true h = (refl, refl)
both_of true false h = cc
both_of false b h = cc

tells : (a b : ℕ) → nat_eq a b ≡ true → a ≡ b
tells a b e = elim (eqb_tells a b) [ inl h ↦ h.1 | inr h ↦ let x : true ≡ false = sym e ∙ h.0 in (cc) ]

-- the place of a position
pub position_of : (g : Grid) (scope : Scope) (place : ℕ × ℕ) (k : ℕ) → IsGrid g → position_in g scope place ≡ Some k → IsPosition g scope place k
position_of g (Row p) place k w h =
    let s = some_of (is_in g place && nat_eq place.0 p) place.1 k h in
    let b = both_of (is_in g place) (nat_eq place.0 p) s.0 in
    let at = in_grid g place b.0 in
    let row : place.0 ≡ p = tells place.0 p b.1 in
    let lk : k < g.npcol = let a = at.1 in let e = s.1 in omega arith in
    record {
      scope_is = let a = at.0 in omega arith;
      within = let l = row_long g p in omega arith;
      rank_is = rank_at-some g place.0 place.1 w at.0 at.1
          ∙ ap Some (sym (row_member g p k lk ∙ (ap (λ i. slice_index g.ranks (place_number g.npcol i k)) (sym row) ∙ ap (λ i. slice_index g.ranks (place_number g.npcol place.0 i)) (sym s.1))));
    }
position_of g (Column q) place k w h =
    let s = some_of (is_in g place && nat_eq place.1 q) place.0 k h in
    let b = both_of (is_in g place) (nat_eq place.1 q) s.0 in
    let at = in_grid g place b.0 in
    let column : place.1 ≡ q = tells place.1 q b.1 in
    let lk : k < g.nprow = let a = at.0 in let e = s.1 in omega arith in
    record {
      scope_is = let a = at.1 in omega arith;
      within = let l = column_long g q in omega arith;
      rank_is = rank_at-some g place.0 place.1 w at.0 at.1
          ∙ ap Some (sym (column_member g q k lk ∙ (ap (λ i. slice_index g.ranks (place_number g.npcol k i)) (sym column) ∙ ap (λ i. slice_index g.ranks (place_number g.npcol i place.1)) (sym s.1))));
    }
position_of g All place k w h =
    let s = some_of (is_in g place) (place_number g.npcol place.0 place.1) k h in
    let at = in_grid g place s.0 in
    record {
      scope_is = tt;
      within = let l = place_number-below g place.0 place.1 w at.0 at.1 in let e = s.1 in omega arith;
      rank_is = rank_at-some g place.0 place.1 w at.0 at.1 ∙ ap (λ n. Some (slice_index g.ranks n)) s.1;
    }

-- ---- and back: only one place has a member's rank

equals : (a b : ℕ) → a ≡ b → nat_eq a b ≡ true
equals a b e = grind (arith, nat_tests)

chosen : (b : Bool) (x k : ℕ) → b ≡ true → x ≡ k → cond b (Some x) None ≡ Some k
chosen true x k h e = ap Some e
chosen false x k h e = cc

both_true : (a b : Bool) → a ≡ true → b ≡ true → (a && b) ≡ true
both_true true true h e = refl
both_true true false h e = cc
both_true false b h e = cc

held : (g : Grid) (place : ℕ × ℕ) (r : ℕ) → rank_at g place.0 place.1 ≡ Some r → is_in g place ≡ true
held g place r e = ap is_some e

-- where the rank at a place is that at (p, q), the place is (p, q)
same_place : (g : Grid) (place : ℕ × ℕ) (p q : ℕ) → IsGrid g → p < g.nprow → q < g.npcol → rank_at g place.0 place.1 ≡ Some (slice_index g.ranks (place_number g.npcol p q)) → (place.0 ≡ p) × (place.1 ≡ q)
same_place g place p q w lp lq e = some_pair_parts place.0 p place.1 q (sym (place_of-rank_at g place.0 place.1 (slice_index g.ranks (place_number g.npcol p q)) w e) ∙ place_of-rank g p q w lp lq)

found : (g : Grid) (scope : Scope) (place : ℕ × ℕ) (k : ℕ) → IsGrid g → IsPosition g scope place k → position_in g scope place ≡ Some k
found g (Row p) place k w at =
    let lk : k < g.npcol = let l = row_long g p in let h = at.within in omega arith in
    let is = at.rank_is ∙ ap Some (row_member g p k lk) in
    let same = same_place g place p k w at.scope_is lk is in
    chosen (is_in g place && nat_eq place.0 p) place.1 k (both_true (is_in g place) (nat_eq place.0 p) (held g place _ is) (equals place.0 p same.0)) same.1
found g (Column q) place k w at =
    let lk : k < g.nprow = let l = column_long g q in let h = at.within in omega arith in
    let is = at.rank_is ∙ ap Some (column_member g q k lk) in
    let same = same_place g place k q w lk at.scope_is is in
    chosen (is_in g place && nat_eq place.1 q) place.0 k (both_true (is_in g place) (nat_eq place.1 q) (held g place _ is) (equals place.1 q same.1)) same.0
found g All place k w at =
    let within = in_grid g place (held g place _ at.rank_is) in
    let number = place_number-below g place.0 place.1 w within.0 within.1 in
    let rank : slice_index g.ranks (place_number g.npcol place.0 place.1) ≡ slice_index g.ranks k = same_Some _ _ (sym (rank_at-some g place.0 place.1 w within.0 within.1) ∙ at.rank_is) in
    chosen (is_in g place) (place_number g.npcol place.0 place.1) k (held g place _ at.rank_is) (w.distinct _ k number at.within rank)

pub position_is : (g : Grid) (scope : Scope) (place : ℕ × ℕ) (k : ℕ) → IsGrid g → (position_in g scope place ≡ Some k) ↔ IsPosition g scope place k
position_is g scope place k w = (position_of g scope place k w, found g scope place k w)

-- ---- members

pub members_distinct : (g : Grid) (scope : Scope) → IsGrid g → IsScopeOf g scope → AreDistinct (members g scope)
members_distinct g (Row p) w lp j k lj lk e =
    let long = row_long g p in
    let a : j < g.npcol = omega arith in
    let b : k < g.npcol = omega arith in
    let same = w.distinct (place_number g.npcol p j) (place_number g.npcol p k) (place_number-below g p j w lp a) (place_number-below g p k w lp b) (sym (row_member g p j a) ∙ (e ∙ row_member g p k b)) in
    sym (mod-mul-add p g.npcol j a) ∙ (ap (λ n. n % g.npcol) same ∙ mod-mul-add p g.npcol k b)
members_distinct g (Column q) w lq j k lj lk e =
    let long = column_long g q in
    let a : j < g.nprow = omega arith in
    let b : k < g.nprow = omega arith in
    let same = w.distinct (place_number g.npcol j q) (place_number g.npcol k q) (place_number-below g j q w a lq) (place_number-below g k q w b lq) (sym (column_member g q j a) ∙ (e ∙ column_member g q k b)) in
    sym (div-mul-add j g.npcol q lq) ∙ (ap (λ n. n / g.npcol) same ∙ div-mul-add k g.npcol q lq)
members_distinct g All w s j k lj lk e = w.distinct j k lj lk e

-- a scope's members are among the ranks of the grid
pub members_within : (ranks : ℕ) (g : Grid) (scope : Scope) → IsGrid g → IsScopeOf g scope → ((k : ℕ) → k < length g.ranks → slice_index g.ranks k < ranks) → (k : ℕ) → k < length (members g scope) → slice_index (members g scope) k < ranks
members_within ranks g (Row p) w lp all k lk =
    let l : k < g.npcol = let long = row_long g p in omega arith in
    subst (λ (r : ℕ). r < ranks) (sym (row_member g p k l)) (all (place_number g.npcol p k) (place_number-below g p k w lp l))
members_within ranks g (Column q) w lq all k lk =
    let l : k < g.nprow = let long = column_long g q in omega arith in
    subst (λ (r : ℕ). r < ranks) (sym (column_member g q k l)) (all (place_number g.npcol k q) (place_number-below g k q w l lq))
members_within ranks g All w s all k lk = all k lk

pub few_members : (g : Grid) (scope : Scope) → IsGrid g → length (members g scope) ≤ 64
few_members g (Row p) w = let l = row_long g p in let f = w.few_columns in omega arith
few_members g (Column q) w = let l = column_long g q in let f = w.few_rows in omega arith
few_members g All w = w.few

-- ---- where the members stand in the grid

-- the place of the k-th member: (p, k) in row p, (k, q) in column q, by rows in the whole grid
pub row_place : (g : Grid) (p k : ℕ) → IsGrid g → p < g.nprow → k < g.npcol → place_of g (slice_index (members g (Row p)) k) ≡ Some (p, k)
row_place g p k w lp lk = ap (place_of g) (row_member g p k lk) ∙ place_of-rank g p k w lp lk

pub column_place : (g : Grid) (q k : ℕ) → IsGrid g → q < g.npcol → k < g.nprow → place_of g (slice_index (members g (Column q)) k) ≡ Some (k, q)
column_place g q k w lq lk = ap (place_of g) (column_member g q k lk) ∙ place_of-rank g k q w lk lq

pub grid_place : (g : Grid) (k : ℕ) → IsGrid g → k < length g.ranks → place_of g (slice_index (members g All) k) ≡ Some (k / g.npcol, k % g.npcol)
grid_place g k w lk =
    let some = w.some_columns in
    let column : k % g.npcol < g.npcol = mod-lt k some in
    let row : k / g.npcol < g.nprow = div_below k g.npcol g.nprow some (let f = w.filled in omega arith) in
    let number : place_number g.npcol (k / g.npcol) (k % g.npcol) ≡ k = div-add-mod' k g.npcol in
    ap (λ n. place_of g (slice_index g.ranks n)) (sym number) ∙ place_of-rank g (k / g.npcol) (k % g.npcol) w row column
