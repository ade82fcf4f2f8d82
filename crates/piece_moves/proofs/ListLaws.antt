-- Lists that grow by one.
use Rattle.std.proofs.Common.{◌≡◌, ℕ, zero, suc, ◌+◌, ◌*◌, ◌^◌, ◌<◌, ◌≤◌, ℤ, pos, List, [], ◌∷◌, ◌++◌, length, get_or, take, refl, sym, ap, subst, ◌∙◌, arith}
use Rattle.std.specs.Prelude.{map, slice_get, Some}
use Rattle.std.specs.List.{range_with_len, AllByRecursion}
use Rattle.std.proofs.lemmas.List.{map-append, take_more, length-map, length-append}
use Rattle.std.proofs.lemmas.List.FromFn.{map-range_with_len_more, fill_by_all, length-map-range_with_len, get_or-map-range_with_len}
use Rattle.std.proofs.lemmas.Int.{to_z-of_z}
use mir.Val.{SFits, of_z, to_z}
use mir.Syntax.{w64}
use Rattle.pack_words.specs.LocalCells.{LocalCells, zeros}
use Rattle.pack_words.specs.RankOps.{RankState}
use Rattle.piece_grammar.specs.Head as grammar
use Rattle.piece_file.specs.PieceView.{piece_view}
use Rattle.piece_file.specs.declared.piece.Piece.{Piece}
use Rattle.piece_moves.specs.Distribution.{Distribution, head_over}
use Rattle.piece_moves.specs.PieceMove.{array_of, llds_from}
use Rattle.pack_words.specs.GridState.{arrays_held}
use Rattle.pack_words.specs.GridShapes.{ShapesView, HasShapes, measure_of, measures_of, whole_measure}
use Rattle.pack_words.specs.GridPlans.{first_grid}
use Rattle.piece_moves.specs.Sizes.{array_in, size_in, AreWhole, HoldTwo}

-- what the first items give, and the next
pub map_more : {X Y : Type 0} (f : X → Y) (xs : List X) (k : ℕ) (x : X) → k < length xs → x ≡ get_or xs k x → map f (take (k + 1) xs) ≡ map f (take k xs) ++ f x ∷ []
map_more f xs k x lt is = ap (map f) (take_more xs k x lt ∙ ap (λ y. take k xs ++ y ∷ []) (sym is)) ∙ map-append f (take k xs) (x ∷ [])

-- one leading dimension more
pub llds_more : (ps : List Piece) (k : ℕ) (p : Piece) (llds : List ℤ) → k < length ps → p ≡ get_or ps k p → llds ≡ llds_from (map piece_view (take k ps)) → llds ++ pos p.head.lld ∷ [] ≡ llds_from (map piece_view (take (k + 1) ps))
llds_more ps k p llds lt is before =
    ap (λ (l : List ℤ). l ++ pos p.head.lld ∷ []) before
    ∙ sym (ap llds_from (map_more piece_view ps k p lt is) ∙ map-append (λ (q : grammar.Piece). pos q.head.lld) (map piece_view (take k ps)) (piece_view p ∷ []))

-- the local array of a piece
cells_are : (c : LocalCells) (lld cols : ℕ) → c.lld ≡ lld → c.cols ≡ cols → c ≡ record { lld = lld; cols = cols; words = c.words }
cells_are c lld cols e f = rw (← e, ← f) refl

pub array_is : (p : Piece) → p.cells ≡ array_of (piece_view p)
array_is p = cells_are p.cells p.head.lld (grammar.array_columns (piece_view p).head) p.lead p.columns

pub arrays_more : (arrays : List LocalCells) (ps : List Piece) (p : Piece) → arrays ≡ map array_of (map piece_view ps) → arrays ++ p.cells ∷ [] ≡ map array_of (map piece_view (ps ++ p ∷ []))
arrays_more arrays ps p before =
    ap (λ (cs : List LocalCells). cs ++ p.cells ∷ []) before ∙ ap (λ (a : LocalCells). map array_of (map piece_view ps) ++ a ∷ []) (array_is p)
    ∙ sym (ap (map array_of) (map-append piece_view ps (p ∷ [])) ∙ map-append array_of (map piece_view ps) (piece_view p ∷ []))

-- a list, place by place
past : {X : Type 0} (xs : List X) (k : ℕ) (d : X) → length xs ≤ k → get_or xs k d ≡ d
past [] k d le = refl
past (x ∷ xs) zero d le = absurd (omega arith)
past (x ∷ xs) (suc k) d le = past xs k d (omega arith)

pub whole_list : {X : Type 0} (xs : List X) (n : ℕ) (d : X) → length xs ≡ n → xs ≡ map (λ k. get_or xs k d) (range_with_len 0 n)
whole_list xs n d count = fill_by_all (λ k. get_or xs k d) xs n d count (λ k lt. refl)

pub padded_more : {X : Type 0} (xs ys : List X) (k : ℕ) (d : X) → length xs ≤ k → ys ≡ map (λ j. get_or xs j d) (range_with_len 0 k) → ys ++ d ∷ [] ≡ map (λ j. get_or xs j d) (range_with_len 0 (k + 1))
padded_more xs ys k d le before =
    ap (λ l. l ++ d ∷ []) before ∙ ap (λ x. map (λ j. get_or xs j d) (range_with_len 0 k) ++ x ∷ []) (sym (past xs k d le)) ∙ sym (map-range_with_len_more (λ j. get_or xs j d) 0 k k (omega arith))

-- ---- two arrays of each rank

at_front : {X : Type 0} (ys : List X) (s : X) (k : ℕ) (d : X) → k < length ys → get_or (ys ++ s ∷ []) k d ≡ get_or ys k d
at_front [] s k d lt = absurd (omega arith)
at_front (y ∷ ys) s zero d lt = refl
at_front (y ∷ ys) s (suc k) d lt = at_front ys s k d (omega arith)

at_end : {X : Type 0} (ys : List X) (s d : X) → get_or (ys ++ s ∷ []) (length ys) d ≡ s
at_end [] s d = refl
at_end (y ∷ ys) s d = at_end ys s d

abbrev pub paired : List LocalCells → (ℕ → LocalCells) → ℕ → List LocalCells
paired ys z r = get_or ys r (zeros 1 0) ∷ z r ∷ []

-- the same arrays at each place are the same lists
paired_as : (xs ys : List LocalCells) (z : ℕ → LocalCells) (n : ℕ) → ((k : ℕ) → k < n → get_or xs k (zeros 1 0) ≡ get_or ys k (zeros 1 0)) → map (paired xs z) (range_with_len 0 n) ≡ map (paired ys z) (range_with_len 0 n)
paired_as xs ys z n same =
    fill_by_all (paired ys z) (map (paired xs z) (range_with_len 0 n)) n [] (length-map-range_with_len (paired xs z) 0 n)
    (λ k lt. get_or-map-range_with_len (paired xs z) 0 n k k [] lt (omega arith) ∙ ap (λ (c : LocalCells). c ∷ z k ∷ []) (same k lt))

pub nodes_more : (nodes : List RankState) (n : RankState) (ys : List LocalCells) (s : LocalCells) (z : ℕ → LocalCells) → map arrays_held nodes ≡ map (paired ys z) (range_with_len 0 (length ys)) → arrays_held n ≡ s ∷ z (length ys) ∷ []
    → map arrays_held (nodes ++ n ∷ []) ≡ map (paired (ys ++ s ∷ []) z) (range_with_len 0 (length (ys ++ s ∷ [])))
nodes_more nodes n ys s z before is =
    let long : length (ys ++ s ∷ []) ≡ length ys + 1 = length-append ys (s ∷ []) in
    map-append arrays_held nodes (n ∷ []) ∙ ap (λ (l : List (List LocalCells)). l ++ arrays_held n ∷ []) (before ∙ sym (paired_as (ys ++ s ∷ []) ys z (length ys) (λ k lt. at_front ys s k (zeros 1 0) lt)))
    ∙ ap (λ (a : List LocalCells). map (paired (ys ++ s ∷ []) z) (range_with_len 0 (length ys)) ++ a ∷ []) (is ∙ ap (λ (c : LocalCells). c ∷ z (length ys) ∷ []) (sym (at_end ys s (zeros 1 0))))
    ∙ sym (map-range_with_len_more (paired (ys ++ s ∷ []) z) 0 (length ys) (length ys) (omega arith)) ∙ ap (λ (m : ℕ). map (paired (ys ++ s ∷ []) z) (range_with_len 0 m)) (sym long)

-- as many ranks as arrays
pub nodes_count : (nodes : List RankState) (ys : List LocalCells) (z : ℕ → LocalCells) → map arrays_held nodes ≡ map (paired ys z) (range_with_len 0 (length ys)) → length nodes ≡ length ys
nodes_count nodes ys z e = sym (length-map nodes arrays_held) ∙ ap length e ∙ length-map-range_with_len (paired ys z) 0 (length ys)

pub memories_are : (held : List (List LocalCells)) (xs sources : List LocalCells) (z : ℕ → LocalCells) (ranks : ℕ) → sources ≡ map (λ r. get_or xs r (zeros 1 0)) (range_with_len 0 ranks) → held ≡ map (paired sources z) (range_with_len 0 (length sources)) → held ≡ map (paired xs z) (range_with_len 0 ranks)
memories_are held xs sources z ranks are is =
    let f : ℕ → LocalCells = λ r. get_or xs r (zeros 1 0) in
    let count : length sources ≡ ranks = ap length are ∙ length-map-range_with_len f 0 ranks in
    is ∙ ap (λ (m : ℕ). map (paired sources z) (range_with_len 0 m)) count
    ∙ paired_as sources xs z ranks (λ k lt. ap (λ (l : List LocalCells). get_or l k (zeros 1 0)) are ∙ get_or-map-range_with_len f 0 ranks k k (zeros 1 0) lt (omega arith))

-- one leading dimension of the other grid more
pub llds_to_more : (d : Distribution) (rows columns : ℕ) (llds : List ℤ) (k lld : ℕ) → llds ≡ map (λ j. pos (head_over d rows columns j).lld) (range_with_len 0 k) → lld ≡ (head_over d rows columns k).lld → llds ++ pos lld ∷ [] ≡ map (λ j. pos (head_over d rows columns j).lld) (range_with_len 0 (k + 1))
llds_to_more d rows columns llds k lld before is =
    let f : ℕ → ℤ = λ j. pos (head_over d rows columns j).lld in
    ap (λ (l : List ℤ). l ++ pos lld ∷ []) before ∙ ap (λ (x : ℕ). map f (range_with_len 0 k) ++ pos x ∷ []) is ∙ sym (map-range_with_len_more f 0 k k (omega arith))

-- a small number passed as a word of 64 bits
pub pushed_as : (x : ℤ) (lld : ℕ) → x ≡ pos lld → lld < 2 ^ 32 → to_z w64 (of_z w64 x) ≡ pos lld
pushed_as x lld e lt = let fits : SFits w64 x = subst (SFits w64) (sym e) (omega (arith, lt)) in to_z-of_z w64 x fits ∙ e

-- ---- sizes

measures_at : (nodes : List RankState) (r : ℕ) (d : RankState) → r < length nodes → get_or (map measures_of (map arrays_held nodes)) r [] ≡ measures_of (get_or nodes r d).arrays
measures_at [] r d lt = absurd (omega arith)
measures_at (n ∷ ns) zero d lt = refl
measures_at (n ∷ ns) (suc r) d lt = measures_at ns r d (omega arith)

each_at : (P : RankState → Type 0) (nodes : List RankState) (r : ℕ) (d : RankState) → AllByRecursion P nodes → r < length nodes → P (get_or nodes r d)
each_at P [] r d all lt = absurd (omega arith)
each_at P (n ∷ ns) zero d all lt = all.0
each_at P (n ∷ ns) (suc r) d all lt = each_at P ns r d all.1 (omega arith)

some_at : (xs : List LocalCells) (a : ℕ) → a < length xs → slice_get (map measure_of xs) a ≡ Some (measure_of (get_or xs a (zeros 1 0)))
some_at [] a lt = absurd (omega arith)
some_at (x ∷ xs) zero lt = refl
some_at (x ∷ xs) (suc a) lt = some_at xs a (omega arith)

size_at : (a : ℕ) (nodes : List RankState) (r : ℕ) (n : RankState) → r < length nodes → get_or (map (size_in a) nodes) r (1, 0) ≡ size_in a (get_or nodes r n)
size_at a [] r d lt = absurd (omega arith)
size_at a (n ∷ ns) zero d lt = refl
size_at a (n ∷ ns) (suc r) d lt = size_at a ns r d (omega arith)

whole_size : (n : RankState) (a : ℕ) → a < length n.arrays → AreWhole a n → slice_get (measures_of n.arrays) a ≡ Some (whole_measure (size_in a n))
whole_size n a lt whole = some_at n.arrays a lt ∙ ap (λ (k : ℕ). Some ((array_in a n).lld, (array_in a n).cols, k)) whole

in_first : {X : Type 0} (xs ys : List X) (k : ℕ) (d : X) → k < length xs → get_or (xs ++ ys) k d ≡ get_or xs k d
in_first [] ys k d lt = absurd (omega arith)
in_first (x ∷ xs) ys zero d lt = refl
in_first (x ∷ xs) ys (suc k) d lt = in_first xs ys k d (omega arith)

in_second : {X : Type 0} (xs ys : List X) (k : ℕ) (d : X) → get_or (xs ++ ys) (length xs + k) d ≡ get_or ys k d
in_second [] ys k d = let e : 0 + k ≡ k = omega arith in ap (λ (j : ℕ). get_or ys j d) e
in_second (x ∷ xs) ys k d = let e : suc (length xs) + k ≡ suc (length xs + k) = omega arith in ap (λ (j : ℕ). get_or (x ∷ (xs ++ ys)) j d) e ∙ in_second xs ys k d

sizes_at : (nodes : List RankState) (a r : ℕ) (n : RankState) → a < 2 → r < length nodes → get_or (map (size_in 0) nodes ++ map (size_in 1) nodes) (a * length nodes + r) (1, 0) ≡ size_in a (get_or nodes r n)
sizes_at nodes zero r n two lt =
    let e : 0 * length nodes + r ≡ r = omega arith in
    ap (λ (j : ℕ). get_or (map (size_in 0) nodes ++ map (size_in 1) nodes) j (1, 0)) e
    ∙ in_first (map (size_in 0) nodes) (map (size_in 1) nodes) r (1, 0) (omega (arith, lt, length-map nodes (size_in 0))) ∙ size_at 0 nodes r n lt
sizes_at nodes (suc zero) r n two lt =
    let e : 1 * length nodes + r ≡ length (map (size_in 0) nodes) + r = omega (arith, length-map nodes (size_in 0)) in
    ap (λ (j : ℕ). get_or (map (size_in 0) nodes ++ map (size_in 1) nodes) j (1, 0)) e
    ∙ in_second (map (size_in 0) nodes) (map (size_in 1) nodes) r (1, 0) ∙ size_at 1 nodes r n lt
sizes_at nodes (suc (suc a)) r n two lt = absurd (omega arith)

whole_at : (nodes : List RankState) (a r : ℕ) (n : RankState) → a < 2 → AllByRecursion (AreWhole 0) nodes → AllByRecursion (AreWhole 1) nodes → r < length nodes → AreWhole a (get_or nodes r n)
whole_at nodes zero r n two first second lt = each_at (AreWhole 0) nodes r n first lt
whole_at nodes (suc zero) r n two first second lt = each_at (AreWhole 1) nodes r n second lt
whole_at nodes (suc (suc a)) r n two first second lt = absurd (omega arith)

-- ranks with two arrays have the shapes of their sizes
pub have_shapes : (v : ShapesView) (nodes : List RankState) → v ≡ record { ranks = length nodes; count = 2; sizes = map (size_in 0) nodes ++ map (size_in 1) nodes } → HoldTwo nodes → AllByRecursion (AreWhole 0) nodes → AllByRecursion (AreWhole 1) nodes → HasShapes v (first_grid nodes)
have_shapes v nodes is two first second = subst (λ (w : ShapesView). HasShapes w (first_grid nodes)) (sym is) (record {
  ranks_are = length-map nodes arrays_held;
  each = λ r a hr ha.
      (let n : RankState = get_or nodes r (record { arrays = []; held = [] }) in
      let d : RankState = record { arrays = []; held = [] } in
      let count : length n.arrays ≡ 2 = each_at (λ (m : RankState). length m.arrays ≡ 2) nodes r d two hr in
      ap (λ ms. slice_get ms a) (measures_at nodes r d hr) ∙ whole_size n a (omega (arith, ha, count)) (whole_at nodes a r d ha first second hr) ∙ ap (λ (s : ℕ × ℕ). Some (whole_measure s)) (sym (sizes_at nodes a r d ha hr)));
})

-- as many memories as there were ranks, each with two arrays
pub nodes_len : (nodes : List RankState) (f : ℕ → List LocalCells) (n : ℕ) → map arrays_held nodes ≡ map f (range_with_len 0 n) → length nodes ≡ n
nodes_len nodes f n e = sym (length-map nodes arrays_held) ∙ ap length e ∙ length-map-range_with_len f 0 n

pub hold_two : (nodes : List RankState) (xs : List LocalCells) (z : ℕ → LocalCells) (ks : List ℕ) → map arrays_held nodes ≡ map (paired xs z) ks → HoldTwo nodes
hold_two [] xs z ks e = tt
hold_two (n ∷ ns) xs z [] e = absurd cc
hold_two (n ∷ ns) xs z (k ∷ ks) e =
    let here : n.arrays ≡ paired xs z k = cc in
    let rest : map arrays_held ns ≡ map (paired xs z) ks = cc in
    (ap length here, hold_two ns xs z ks rest)

pub two_by : (nodes : List RankState) (f : ℕ → List LocalCells) (a n : ℕ) → map arrays_held nodes ≡ map f (range_with_len a n) → ((k : ℕ) → a ≤ k → k < a + n → length (f k) ≡ 2) → HoldTwo nodes
two_by [] f a n e h = tt
two_by (x ∷ xs) f a zero e h = absurd cc
two_by (x ∷ xs) f a (suc n) e h =
    let here : x.arrays ≡ f a = cc in
    let rest : map arrays_held xs ≡ map f (range_with_len (a + 1) n) = cc in
    (ap length here ∙ h a (omega arith) (omega arith), two_by xs f (a + 1) n rest (λ k low lt. h k (omega (arith, low)) (omega (arith, lt))))

-- the rank has the array of that number
pub has_second : (nodes : List RankState) (k : ℕ) (d : RankState) → k < length nodes → HoldTwo nodes → length (get_or nodes k d).arrays ≡ 2
has_second nodes k d lt two = each_at (λ (m : RankState). length m.arrays ≡ 2) nodes k d two lt
