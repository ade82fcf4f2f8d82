-- What a destination's memory is after it has stored the folds.
use Rattle.std.specs.Prelude.{◌≡◌, ℕ, ◌<◌, ◌≤◌, ◌^◌, true, ℤ, pos, Option, Some, None, List, length, map, take, slice_index_or, slice_set}
use Rattle.std.specs.Int.{w32, cast_signed}
use Rattle.std.specs.List.{range_with_len}
use Rattle.std.proofs.Common.{sym, ap, ◌∙◌, refl, arith, lit<}
use Rattle.std.proofs.lemmas.Int.{to_z_pos}
use Rattle.fold_ops.specs.declared.held.Held.{Held}
use Rattle.proc_grid.specs.Grid.{Grid}
use Rattle.proc_grid.specs.declared.scope.Scope.{Scope}
use Rattle.pack_words.specs.declared.fold_kind.FoldKind.{FoldKind}
use Rattle.pack_words.specs.declared.fold_kind.FoldKind.TheVariants.{Sum, AbsMax, AbsMin}
use Rattle.pack_words.specs.declared.coords.Coords.{Coords}
use Rattle.pack_words.specs.declared.shape.Shape.TheVariants.{Ge}
use Rattle.pack_words.specs.LocalCells.{LocalCells, zeros}
use Rattle.pack_words.specs.Packing.{with_words}
use Rattle.pack_words.specs.Accumulators.{element_of, no_held, values_of_held, has_places}
use Rattle.pack_words.specs.Coordinates.{coord_place, row_word, column_word}
use Rattle.pack_words.specs.RankOps.{RankState, with_stored, rank_acted}
use Rattle.pack_words.specs.Parts.{part_region}
use Rattle.pack_words.proofs.PartLaws.{part_is_region}
use Rattle.scope_ops.specs.declared.part.Part.{Part}
use Rattle.scope_ops.specs.declared.own.Own.TheVariants as own
use Rattle.scope_ops.specs.Parts.{cut_of}
use Rattle.scope_ops.specs.Lines.{received}
use Rattle.scope_ops.specs.Combines.{fold_values, place_of_member, holder_rows, holder_columns, corner_part}
use Rattle.scope_ops.specs.CombineOps.{element_count, own_op, coords_of, AreAskable}
use Rattle.scope_ops.proofs.Tables.{first_table, map_table}
use Rattle.scope_ops.proofs.Gathered.{Agrees}

-- the arrays of a destination after the line
abbrev pub stored_arrays : Grid → List ℕ → Part → Option (ℕ × ℕ) → List Held → List LocalCells → List LocalCells
stored_arrays g ranks part None fs cs = received Ge part (fold_values fs) cs
stored_arrays g ranks part (Some rc) fs cs =
    received Ge (corner_part rc.1 part) (holder_columns g ranks fs) (received Ge (corner_part rc.0 part) (holder_rows g ranks fs) (received Ge part (fold_values fs) cs))

-- words stored in a part's region are assigned to the part
one_stored : (s : RankState) (part : Part) (ws : List ℤ) → (with_stored s part.array (part_region (cut_of Ge part) part.i part.j) ws).arrays ≡ received Ge part ws s.arrays
one_stored s part ws = ap (λ ss. slice_set s.arrays part.array (with_words (slice_index_or s.arrays part.array (zeros 1 0)) ss ws)) (part_is_region (cut_of Ge part) part.i part.j)

-- the coordinates that the positions of the scope stand for are those of its members
abbrev pub TellPlaces : Grid → List ℕ → Coords → Type 0
TellPlaces g ranks c = (k : ℕ) → k < length ranks → coord_place c k ≡ place_of_member g ranks k

-- each fold is of a member
abbrev pub AreHeldBy : FoldKind → ℕ → ℕ → (ℕ → Held) → Type 0
AreHeldBy Sum n len f = Unit {0}
AreHeldBy AbsMax n len f = (k : ℕ) → k < len → (f k).place < n
AreHeldBy AbsMin n len f = (k : ℕ) → k < len → (f k).place < n

value_agrees : (fold : FoldKind) (h f : Held) → Agrees fold h f → h.value ≡ f.value
value_agrees Sum h f is = is
value_agrees AbsMax h f is = ap (λ (x : Held). x.value) is
value_agrees AbsMin h f is = ap (λ (x : Held). x.value) is

values_stored : (fold : FoldKind) (hs : List Held) (f : ℕ → Held) (len : ℕ) → len ≤ length hs → ((k : ℕ) → k < len → Agrees fold (element_of hs k) (f k)) → values_of_held (take len hs) ≡ fold_values (map f (range_with_len 0 len))
values_stored fold hs f len le agree =
    first_table no_held (pos 0) (λ (h : Held). h.value) hs (λ k. (f k).value) len le (λ k lt. value_agrees fold (element_of hs k) (f k) (agree k lt)) ∙ sym (map_table (λ (h : Held). h.value) f 0 len)

signed_low : (m : ℕ) → m < 64 → cast_signed w32 m ≡ pos m
signed_low m lt = to_z_pos w32 m (let l : 64 < 2 ^ 31 = lit< tt in omega arith)

module _ (g : Grid) (ranks : List ℕ) (small : (k : ℕ) → k < length ranks → ((place_of_member g ranks k).0 < 64) × ((place_of_member g ranks k).1 < 64)) (c : Coords) (tell : TellPlaces g ranks c) where
  row_told : (h f : Held) → h ≡ f → f.place < length ranks → row_word c h ≡ pos (place_of_member g ranks f.place).0
  row_told h f is lt =
      ap (λ (x : Held). row_word c x) is ∙ (ap (λ (p : ℕ × ℕ). cast_signed w32 p.0) (tell f.place lt) ∙ signed_low (place_of_member g ranks f.place).0 (small f.place lt).0)

  column_told : (h f : Held) → h ≡ f → f.place < length ranks → column_word c h ≡ pos (place_of_member g ranks f.place).1
  column_told h f is lt =
      ap (λ (x : Held). column_word c x) is ∙ (ap (λ (p : ℕ × ℕ). cast_signed w32 p.1) (tell f.place lt) ∙ signed_low (place_of_member g ranks f.place).1 (small f.place lt).1)

  rows_stored : (hs : List Held) (f : ℕ → Held) (len : ℕ) → len ≤ length hs → ((k : ℕ) → k < len → element_of hs k ≡ f k) → ((k : ℕ) → k < len → (f k).place < length ranks)
      → map (row_word c) (take len hs) ≡ holder_rows g ranks (map f (range_with_len 0 len))
  rows_stored hs f len le same low =
      first_table no_held (pos 0) (row_word c) hs (λ k. pos (place_of_member g ranks (f k).place).0) len le (λ k lt. row_told (element_of hs k) (f k) (same k lt) (low k lt)) ∙ sym (map_table (λ (h : Held). pos (place_of_member g ranks h.place).0) f 0 len)

  columns_stored : (hs : List Held) (f : ℕ → Held) (len : ℕ) → len ≤ length hs → ((k : ℕ) → k < len → element_of hs k ≡ f k) → ((k : ℕ) → k < len → (f k).place < length ranks)
      → map (column_word c) (take len hs) ≡ holder_columns g ranks (map f (range_with_len 0 len))
  columns_stored hs f len le same low =
      first_table no_held (pos 0) (column_word c) hs (λ k. pos (place_of_member g ranks (f k).place).1) len le (λ k lt. column_told (element_of hs k) (f k) (same k lt) (low k lt)) ∙ sym (map_table (λ (h : Held). pos (place_of_member g ranks h.place).1) f 0 len)

places_of : (fold : FoldKind) (hs : List Held) (f : ℕ → Held) (len : ℕ) → has_places fold ≡ true → ((k : ℕ) → k < len → Agrees fold (element_of hs k) (f k)) → (k : ℕ) → k < len → element_of hs k ≡ f k
places_of Sum hs f len has agree k lt = cc
places_of AbsMax hs f len has agree k lt = agree k lt
places_of AbsMin hs f len has agree k lt = agree k lt

held_low : (fold : FoldKind) (n len : ℕ) (f : ℕ → Held) → has_places fold ≡ true → AreHeldBy fold n len f → (k : ℕ) → k < len → (f k).place < n
held_low Sum n len f has low k lt = cc
held_low AbsMax n len f has low k lt = low k lt
held_low AbsMin n len f has low k lt = low k lt

askable_has : (fold : FoldKind) (rc : ℕ × ℕ) → AreAskable fold (Some rc) → has_places fold ≡ true
askable_has Sum rc ask = absurd ask
askable_has AbsMax rc ask = refl
askable_has AbsMin rc ask = refl

-- the arrays of a destination that stores the folds
pub stores : (g : Grid) (ranks : List ℕ) (scope : Scope) (npcol : ℕ) → ((k : ℕ) → k < length ranks → ((place_of_member g ranks k).0 < 64) × ((place_of_member g ranks k).1 < 64)) → ((ra ca : ℕ) → TellPlaces g ranks (record { ra = ra; ca = ca; scope = scope; npcol = npcol }))
    → (fold : FoldKind) (rc : Option (ℕ × ℕ)) → AreAskable fold rc → (part : Part) (f : ℕ → Held) → AreHeldBy fold (length ranks) (element_count part) f
    → (s : RankState) (p : ℕ) → element_count part ≤ length s.held → ((k : ℕ) → k < element_count part → Agrees fold (element_of s.held k) (f k))
    → (rank_acted s (own_op (own.Store (coords_of scope npcol rc)) part p)).arrays ≡ stored_arrays g ranks part rc (map f (range_with_len 0 (element_count part))) s.arrays
stores g ranks scope npcol small tell fold None ask part f low s p le agree =
    one_stored s part (values_of_held (take (element_count part) s.held)) ∙ ap (λ vs. received Ge part vs s.arrays) (values_stored fold s.held f (element_count part) le agree)
stores g ranks scope npcol small tell fold (Some rc) ask part f low s p le agree =
    let c : Coords = record { ra = rc.0; ca = rc.1; scope = scope; npcol = npcol } in
    let has : has_places fold ≡ true = askable_has fold rc ask in
    let same = places_of fold s.held f (element_count part) has agree in
    let below = held_low fold (length ranks) (element_count part) f has low in
    let hs : List Held = take (element_count part) s.held in
    let first : RankState = with_stored s part.array (part_region (cut_of Ge part) part.i part.j) (values_of_held (take (element_count part) s.held)) in
    let second : RankState = with_stored first rc.0 (part_region (cut_of Ge (corner_part rc.0 part)) 1 1) (map (row_word c) (take (element_count part) s.held)) in
    let rows = rows_stored g ranks small c (tell rc.0 rc.1) s.held f (element_count part) le same below in
    let columns = columns_stored g ranks small c (tell rc.0 rc.1) s.held f (element_count part) le same below in
    let one : first.arrays ≡ received Ge part (fold_values (map f (range_with_len 0 (element_count part)))) s.arrays =
    one_stored s part (values_of_held (take (element_count part) s.held)) ∙ ap (λ vs. received Ge part vs s.arrays) (values_stored fold s.held f (element_count part) le agree) in
    let two : second.arrays ≡ received Ge (corner_part rc.0 part) (holder_rows g ranks (map f (range_with_len 0 (element_count part)))) first.arrays =
    one_stored first (corner_part rc.0 part) (map (row_word c) (take (element_count part) s.held)) ∙ ap (λ vs. received Ge (corner_part rc.0 part) vs first.arrays) rows in
    one_stored second (corner_part rc.1 part) (map (column_word c) (take (element_count part) s.held))
    ∙ ap (λ vs. received Ge (corner_part rc.1 part) vs second.arrays) columns
    ∙ ap (λ cs. received Ge (corner_part rc.1 part) (holder_columns g ranks (map f (range_with_len 0 (element_count part)))) cs) (two ∙ ap (λ cs. received Ge (corner_part rc.0 part) (holder_rows g ranks (map f (range_with_len 0 (element_count part)))) cs) one)
