-- Which element has its home at a place of a rank: that of the row and the column which the rank has there.
use Rattle.std.specs.Prelude.{◌≡◌, ◌≢◌, ◌⊎◌, ℕ, zero, suc, ◌+◌, ◌*◌, ◌/◌, ◌%◌, ◌<◌, ◌≤◌, Bool, true, false, List, [], ◌∷◌, length, Option, None, Some, slice_get, slice_index_or}
use Rattle.std.specs.List.{find}
use Rattle.std.proofs.Common.{refl, sym, ap, ◌∙◌, subst, inl, inr, arith}
use Rattle.std.proofs.Math.Nat.{mul-add-mod_self_right, mod-eq_of_lt}
use Rattle.std.proofs.lemmas.Nat.{div-mul-add, div-add-mod'}
use Rattle.pack_words.specs.declared.shape.Shape.TheVariants.{Ge}
use Rattle.index_tools.specs.Spread.{Spread, owner, below, local, IsIndexAt}
use Rattle.index_tools.specs.Home.{row_spread, column_spread, local_rows}
use Rattle.index_tools.proofs.HomeLemmas.{same_index, local_below, index_below}
use Rattle.spread_cells.specs.Spreading.{owned}
use Rattle.spread_cells.proofs.OwnedLemmas.{length-owned, owned_are}
use Rattle.proc_grid.specs.Grid.{place_of}
use Rattle.proc_grid.proofs.GridLemmas.{place_of-rank}
use Rattle.mr2d.specs.Homes.{SpreadArray, RankPlace, rank_place, rank_of, home_on, IsSpread}
use Rattle.mr2d.specs.Moves.{Move, IsElement, elements, is_same_place}
use Rattle.mr2d.specs.Pairs.{IsAmong}
use Rattle.mr2d.proofs.Among.{find_is}
use Rattle.mr2d.proofs.HomeLaws.{same_process, process_row, process_column, same_home}
use Rattle.mr2d.proofs.MovedLaws.{in_elements, of_elements, same_place, place_itself}
use Rattle.program_meaning.specs.Filling.{element_here}
use Rattle.array_contents.specs.Columns.{element_in}
use Rattle.array_contents.proofs.ColumnLaws.{gets}

-- the whole matrix, as what is moved
abbrev whole_of : SpreadArray → Move
whole_of s = record { cut = record { shape = Ge; m = s.layout.rows; n = s.layout.columns }; a = s; ia = 0; ja = 0; b = s; ib = 0; jb = 0 }

record IsHere (s : SpreadArray) (at : RankPlace) (i j : ℕ) : Type 0 where
  pub row : i < s.layout.rows
  pub column : j < s.layout.columns
  pub here : home_on s i j ≡ at

yes_no : (b : Bool) → b ≡ true → b ≡ false → ⊥
yes_no b e f = cc

-- an element that is found has its home there; where none is found none has
found_or_none : (s : SpreadArray) (at : RankPlace) → ((e : ℕ × ℕ) × (element_here s at ≡ Some e) × IsHere s at e.0 e.1) ⊎ ((element_here s at ≡ None) × ((i j : ℕ) → IsHere s at i j → ⊥))
found_or_none s at = step (find_is (λ (e : ℕ × ℕ). is_same_place (home_on s e.0 e.1) at) (elements (whole_of s).cut))
  where
    step : ((x : ℕ × ℕ) × (element_here s at ≡ Some x) × IsAmong x (elements (whole_of s).cut) × (is_same_place (home_on s x.0 x.1) at ≡ true)) ⊎ ((element_here s at ≡ None) × ((x : ℕ × ℕ) → IsAmong x (elements (whole_of s).cut) → is_same_place (home_on s x.0 x.1) at ≡ false))
        → ((e : ℕ × ℕ) × (element_here s at ≡ Some e) × IsHere s at e.0 e.1) ⊎ ((element_here s at ≡ None) × ((i j : ℕ) → IsHere s at i j → ⊥))
    step (inl r) =
        let e : IsElement (whole_of s) r.0.0 r.0.1 = of_elements (whole_of s) r.0 r.2 in
        inl (r.0, r.1, record { row = e.row; column = e.column; here = same_place (home_on s r.0.0 r.0.1) at r.3 })
    step (inr r) = inr (
      r.0,
      λ i j h.
          yes_no (is_same_place (home_on s i j) at) (place_itself (home_on s i j) at h.here)
          (r.1 (i, j) (in_elements (whole_of s) i j (record { row = h.row; column = h.column; selected = refl }))),
    )

one_here : (s : SpreadArray) (at : RankPlace) (i j : ℕ) → IsSpread s → IsHere s at i j → element_here s at ≡ Some (i, j)
one_here s at i j w h = step (found_or_none s at)
  where
    pair : (a b c d : ℕ) → a ≡ c → b ≡ d → (let x : ℕ × ℕ = (a, b) in Some x) ≡ Some (c, d)
    pair a b c d e f = cc

    step : ((e : ℕ × ℕ) × (element_here s at ≡ Some e) × IsHere s at e.0 e.1) ⊎ ((element_here s at ≡ None) × ((i j : ℕ) → IsHere s at i j → ⊥)) → element_here s at ≡ Some (i, j)
    step (inl r) =
        let same = same_home s r.0.0 r.0.1 i j w r.2.row h.row (r.2.here ∙ sym h.here) in
        r.1 ∙ pair r.0.0 r.0.1 i j same.0 same.1
    step (inr r) = absurd (r.1 i j h)

none_here : (s : SpreadArray) (at : RankPlace) → ((i j : ℕ) → IsHere s at i j → ⊥) → element_here s at ≡ None
none_here s at none = step (found_or_none s at)
  where
    step : ((e : ℕ × ℕ) × (element_here s at ≡ Some e) × IsHere s at e.0 e.1) ⊎ ((element_here s at ≡ None) × ((i j : ℕ) → IsHere s at i j → ⊥)) → element_here s at ≡ None
    step (inl r) = absurd (none r.0.0 r.0.1 r.2)
    step (inr r) = r.0

-- ---- owned indices by their places

one_value : (x g : ℕ) → Some x ≡ Some g → x ≡ g
one_value x g e = cc

got : (xs : List ℕ) (k g : ℕ) → slice_get xs k ≡ Some g → (k < length xs) × (slice_index_or xs k 0 ≡ g)
got [] k g e = absurd cc
got (x ∷ xs) zero g e = (omega arith, one_value x g e)
got (x ∷ xs) (suc k) g e = let r = got xs k g e in (omega (arith, r.0), r.1)

get_owned : (s : Spread) (p n k g : ℕ) → IsIndexAt s p k g → k < below s p n → slice_get (owned s p n) k ≡ Some g
get_owned s p n k g is lt =
    let low : k < length (owned s p n) = omega (arith, lt, length-owned s p n) in
    gets (owned s p n) k 0 low ∙ ap (λ x. Some x) (same_index s p k (slice_index_or (owned s p n) k 0) g (owned_are s p n k low) is)

owned_get : (s : Spread) (p n k g : ℕ) → slice_get (owned s p n) k ≡ Some g → IsIndexAt s p k g × (k < below s p n)
owned_get s p n k g e =
    let r = got (owned s p n) k g e in
    let P : ℕ → Type 0 = IsIndexAt s p k in
    (subst P r.1 (owned_are s p n k r.0), omega (arith, r.0, length-owned s p n))

-- an owned index is one of the matrix's
pub owned_below : (s : Spread) (p n k : ℕ) → k < length (owned s p n) → slice_index_or (owned s p n) k 0 < n
owned_below s p n k lt = index_below s p k (slice_index_or (owned s p n) k 0) n (owned_are s p n k lt) (omega (arith, lt, length-owned s p n))

pub got_below : (s : Spread) (p n k g : ℕ) → slice_get (owned s p n) k ≡ Some g → g < n
got_below s p n k g e = let r = owned_get s p n k g e in index_below s p k g n r.0 r.1

-- an index stands at its own place of its process
at_home : (s : Spread) (p i : ℕ) → owner s i ≡ p → IsIndexAt s p (local s i) i
at_home s p i is = record { owned = is; counted = ap (λ x. below s x i) (sym is) }

-- ---- a place of a process

abbrev rows_at : SpreadArray → ℕ → List ℕ
rows_at s p = owned (row_spread s.layout) p s.layout.rows

abbrev columns_at : SpreadArray → ℕ → List ℕ
columns_at s q = owned (column_spread s.layout) q s.layout.columns

quotient : (j lld i x : ℕ) → i < lld → j * lld + i ≡ x → (x / lld ≡ j) × (x % lld ≡ i)
quotient j lld i x lt e =
    (ap (λ n. n / lld) (sym e) ∙ div-mul-add j lld i lt, ap (λ n. n % lld) (sym e) ∙ mul-add-mod_self_right j lld i ∙ mod-eq_of_lt lt)

-- an element with its home at a place of the process is in the row and the column that stand there
spots : (s : SpreadArray) (p q lld x i j : ℕ) → IsSpread s → p < s.grid.nprow → q < s.grid.npcol → s.llds p q ≡ lld → IsHere s (rank_place (rank_of s.grid p q) x) i j
    → (slice_get (rows_at s p) (x % lld) ≡ Some i) × (slice_get (columns_at s q) (x / lld) ≡ Some j)
spots s p q lld x i j w hp hq lead h =
    let rs : Spread = row_spread s.layout in
    let cs : Spread = column_spread s.layout in
    let one = same_process s.grid (owner rs i) (owner cs j) p q w.grid (process_row s i w) (process_column s j w) hp hq (ap (λ (a : RankPlace). a.rank) h.here) in
    let ld : s.llds (owner rs i) (owner cs j) ≡ lld = ap (λ r. s.llds r (owner cs j)) one.0 ∙ ap (λ c. s.llds p c) one.1 ∙ lead in
    let spot : local cs j * lld + local rs i ≡ x = ap (λ l. local cs j * l + local rs i) (sym ld) ∙ ap (λ (a : RankPlace). a.place) h.here in
    let r : local rs i < below rs p s.layout.rows = subst (λ n. local rs i < below rs n s.layout.rows) one.0 (local_below rs i s.layout.rows h.row) in
    let c : local cs j < below cs q s.layout.columns = subst (λ n. local cs j < below cs n s.layout.columns) one.1 (local_below cs j s.layout.columns h.column) in
    let room : below rs p s.layout.rows ≤ s.llds p q = w.room.rows_fit p q (subst (λ n. p < n) (sym w.rows) hp) (subst (λ n. q < n) (sym w.columns) hq) in
    let low : local rs i < lld = subst (λ n. local rs i < n) lead (omega (arith, r, room)) in
    let parts = quotient (local cs j) lld (local rs i) x low spot in (
      ap (slice_get (rows_at s p)) parts.1 ∙ get_owned rs p s.layout.rows (local rs i) i (at_home rs p i one.0) r,
      ap (slice_get (columns_at s q)) parts.0 ∙ get_owned cs q s.layout.columns (local cs j) j (at_home cs q j one.1) c,
    )

-- where a row and a column stand at a place, it is the home of their element
there : (s : SpreadArray) (p q lld x i j : ℕ) → s.llds p q ≡ lld → slice_get (rows_at s p) (x % lld) ≡ Some i → slice_get (columns_at s q) (x / lld) ≡ Some j → IsHere s (rank_place (rank_of s.grid p q) x) i j
there s p q lld x i j lead row column =
    let rs : Spread = row_spread s.layout in
    let cs : Spread = column_spread s.layout in
    let r = owned_get rs p s.layout.rows (x % lld) i row in
    let c = owned_get cs q s.layout.columns (x / lld) j column in
    let li : local rs i ≡ x % lld = ap (λ n. below rs n i) r.0.owned ∙ r.0.counted in
    let lj : local cs j ≡ x / lld = ap (λ n. below cs n j) c.0.owned ∙ c.0.counted in
    let ld : s.llds (owner rs i) (owner cs j) ≡ lld = ap (λ n. s.llds n (owner cs j)) r.0.owned ∙ ap (λ n. s.llds p n) c.0.owned ∙ lead in
    let spot : local cs j * s.llds (owner rs i) (owner cs j) + local rs i ≡ x
    = ap (λ n. local cs j * n + local rs i) ld ∙ ap (λ n. n * lld + local rs i) lj ∙ ap (λ n. x / lld * lld + n) li ∙ div-add-mod' x lld in
    record {
      row = index_below rs p (x % lld) i s.layout.rows r.0 r.1;
      column = index_below cs q (x / lld) j s.layout.columns c.0 c.1;
      here = is (rank_of s.grid (owner rs i) (owner cs j)) (rank_of s.grid p q) (local cs j * s.llds (owner rs i) (owner cs j) + local rs i) x (ap (λ n. rank_of s.grid n (owner cs j)) r.0.owned ∙ ap (λ n. rank_of s.grid p n) c.0.owned) spot;
    }
  where
    is : (a b y z : ℕ) → a ≡ b → y ≡ z → rank_place a y ≡ rank_place b z
    is a b y z e f = cc

-- the element at a place of a process of the grid
pub here_is : (s : SpreadArray) (p q lld x : ℕ) → IsSpread s → p < s.grid.nprow → q < s.grid.npcol → s.llds p q ≡ lld
    → element_here s (rank_place (rank_of s.grid p q) x) ≡ element_in (slice_get (rows_at s p) (x % lld)) (slice_get (columns_at s q) (x / lld))
here_is s p q lld x w hp hq lead = step (slice_get (rows_at s p) (x % lld)) (slice_get (columns_at s q) (x / lld)) refl refl
  where
    apart : (o : Option ℕ) (i : ℕ) → o ≡ None → o ≡ Some i → ⊥
    apart o i e f = cc

    step : (o u : Option ℕ) → slice_get (rows_at s p) (x % lld) ≡ o → slice_get (columns_at s q) (x / lld) ≡ u → element_here s (rank_place (rank_of s.grid p q) x) ≡ element_in o u
    step (Some i) (Some j) e f = one_here s (rank_place (rank_of s.grid p q) x) i j w (there s p q lld x i j lead e f)
    step (Some i) None e f = none_here s (rank_place (rank_of s.grid p q) x) (λ a b h. apart _ b f (spots s p q lld x a b w hp hq lead h).1)
    step None u e f = none_here s (rank_place (rank_of s.grid p q) x) (λ a b h. apart _ a e (spots s p q lld x a b w hp hq lead h).0)

-- no element has its home on a rank outside of the grid
pub none_outside : (s : SpreadArray) (rank x : ℕ) → IsSpread s → place_of s.grid rank ≡ None → element_here s (rank_place rank x) ≡ None
none_outside s rank x w e = none_here s (rank_place rank x) (λ i j h. apart (place_of s.grid rank) _ e (has i j (ap (λ (a : RankPlace). a.rank) h.here)))
  where
    apart : (o : Option (ℕ × ℕ)) (at : ℕ × ℕ) → o ≡ None → o ≡ Some at → ⊥
    apart o at e f = cc

    has : (i j : ℕ) → (home_on s i j).rank ≡ rank → place_of s.grid rank ≡ Some (owner (row_spread s.layout) i, owner (column_spread s.layout) j)
    has i j is = ap (place_of s.grid) (sym is) ∙ place_of-rank s.grid (owner (row_spread s.layout) i) (owner (column_spread s.layout) j) w.grid (process_row s i w) (process_column s j w)
