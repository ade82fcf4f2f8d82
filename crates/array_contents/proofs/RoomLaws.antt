-- Room for the columns of all ranks' arrays, and one array more on each.
use Rattle.std.specs.Prelude.{◌≡◌, ◌⊎◌, ℕ, zero, suc, ◌+◌, ◌*◌, ◌<◌, ◌≤◌, List, [], ◌∷◌, ◌++◌, length, map, take, drop, slice_index_or, slice_set, replicate}
use Rattle.std.specs.Global.{Vec}
use Rattle.std.proofs.Common.{refl, sym, ap, ◌∙◌, subst, inl, inr, arith, append-nil}
use Rattle.std.proofs.lemmas.Bool.{cases_lt}
use Rattle.std.proofs.lemmas.List.{map-set, get_or-map, length-map, get_or_past, map-append, take_more_set, drop-set-lt, drop_more, append_assoc, take-append-drop, drop_all}
use Rattle.pack_words.specs.LocalCells.{LocalCells, zeros}
use Rattle.program_meaning.specs.Declarations.{with_zeros}
use Rattle.array_contents.specs.Contents.{arrays_of, HasRoomFor}

-- the leading dimension of a rank's array of that number
abbrev pub lead_at : ℕ → List (List LocalCells) → ℕ → ℕ
lead_at array arrays r = (slice_index_or (slice_index_or arrays r []) array (zeros 1 0)).lld

at_rank : (ranks : List (Vec LocalCells)) (k : ℕ) (d : Vec LocalCells) → k < length ranks → slice_index_or (arrays_of ranks) k [] ≡ (slice_index_or ranks k d).items
at_rank ranks k d lt = get_or-map (λ (mine : Vec LocalCells). mine.items) ranks k d [] lt

pub room_more : (ranks : List (Vec LocalCells)) (k array longest next : ℕ) (d : Vec LocalCells) → k < length ranks → ((r : ℕ) → r < k → array < length (slice_index_or (arrays_of ranks) r []) → lead_at array (arrays_of ranks) r ≤ longest) → longest ≤ next
    → (array < length (slice_index_or ranks k d).items → (slice_index_or (slice_index_or ranks k d).items array (zeros 1 0)).lld ≤ next)
    → (r : ℕ) → r < k + 1 → array < length (slice_index_or (arrays_of ranks) r []) → lead_at array (arrays_of ranks) r ≤ next
room_more ranks k array longest next d lt before more one r low here = step (cases_lt r k)
  where
    step : (r < k) ⊎ (k ≤ r) → lead_at array (arrays_of ranks) r ≤ next
    step (inl l) = omega (arith, before r l here, more)
    step (inr g) =
        let e : r ≡ k = omega (arith, g, low) in
        let same : slice_index_or (arrays_of ranks) r [] ≡ (slice_index_or ranks k d).items = ap (λ n. slice_index_or (arrays_of ranks) n []) e ∙ at_rank ranks k d lt in
        subst (λ (mine : List LocalCells). (slice_index_or mine array (zeros 1 0)).lld ≤ next) (sym same) (one (subst (λ (mine : List LocalCells). array < length mine) same here))

pub room_all : (ranks : List (Vec LocalCells)) (k array longest room : ℕ) → length ranks ≤ k → ((r : ℕ) → r < k → array < length (slice_index_or (arrays_of ranks) r []) → lead_at array (arrays_of ranks) r ≤ longest) → room ≡ longest → HasRoomFor array (arrays_of ranks) room
room_all ranks k array longest room le all e = λ r here. step r here (cases_lt r k)
  where
    step : (r : ℕ) → array < length (slice_index_or (arrays_of ranks) r []) → (r < k) ⊎ (k ≤ r) → lead_at array (arrays_of ranks) r ≤ room
    step r here (inl l) = omega (arith, all r l here, e)
    step r here (inr g) =
        let n : length (arrays_of ranks) ≡ length ranks = length-map ranks (λ (mine : Vec LocalCells). mine.items) in
        let none : slice_index_or (arrays_of ranks) r [] ≡ [] = get_or_past (arrays_of ranks) r [] (omega (arith, n, g, le)) in
        let bad : array < 0 = subst (λ (mine : List LocalCells). array < length mine) none here in
        absurd (omega (arith, bad))

-- the same where the rank's arrays are known
pub room_next : (ranks : List (Vec LocalCells)) (k array longest next : ℕ) (mine : Vec LocalCells) → mine ≡ slice_index_or ranks k mine → k < length ranks → ((r : ℕ) → r < k → array < length (slice_index_or (arrays_of ranks) r []) → lead_at array (arrays_of ranks) r ≤ longest) → longest ≤ next
    → (array < length mine.items → (slice_index_or mine.items array (zeros 1 0)).lld ≤ next)
    → (r : ℕ) → r < k + 1 → array < length (slice_index_or (arrays_of ranks) r []) → lead_at array (arrays_of ranks) r ≤ next
room_next ranks k array longest next mine is lt before more one =
    room_more ranks k array longest next mine lt before more (subst (λ (v : Vec LocalCells). array < length v.items → (slice_index_or v.items array (zeros 1 0)).lld ≤ next) is one)

-- ---- one array more on each rank

zeros_step : (sizes : List (ℕ × ℕ)) (css : List (List LocalCells)) (k : ℕ) (d : ℕ × ℕ) (e : List LocalCells) → k < length sizes → k < length css
    → with_zeros (drop k sizes) (drop k css) ≡ (slice_index_or css k e ++ zeros (slice_index_or sizes k d).0 (slice_index_or sizes k d).1 ∷ []) ∷ with_zeros (drop (k + 1) sizes) (drop (k + 1) css)
zeros_step sizes css k d e low lt =
    ap (λ (s : List (ℕ × ℕ)). with_zeros s (drop k css)) (drop_more sizes k d low)
    ∙ ap (λ (c : List (List LocalCells)). with_zeros (slice_index_or sizes k d ∷ drop (k + 1) sizes) c) (drop_more css k e lt)

pub zeros_more : (sizes : List (ℕ × ℕ)) (ranks : List (Vec LocalCells)) (k : ℕ) (d : ℕ × ℕ) (e v : Vec LocalCells) → k < length sizes → k < length ranks → v.items ≡ (slice_index_or ranks k e).items ++ zeros (slice_index_or sizes k d).0 (slice_index_or sizes k d).1 ∷ []
    → take (k + 1) (arrays_of (slice_set ranks k v)) ++ with_zeros (drop (k + 1) sizes) (drop (k + 1) (arrays_of (slice_set ranks k v))) ≡ take k (arrays_of ranks) ++ with_zeros (drop k sizes) (drop k (arrays_of ranks))
zeros_more sizes ranks k d e v low lt is =
    let css : List (List LocalCells) = arrays_of ranks in
    let inside : k < length css = subst (λ n. k < n) (sym (length-map ranks (λ (mine : Vec LocalCells). mine.items))) lt in
    let mine : v.items ≡ slice_index_or css k [] ++ zeros (slice_index_or sizes k d).0 (slice_index_or sizes k d).1 ∷ [] =
    is ∙ ap (λ (cs : List LocalCells). cs ++ zeros (slice_index_or sizes k d).0 (slice_index_or sizes k d).1 ∷ []) (sym (at_rank ranks k e lt)) in
    ap (λ (l : List (List LocalCells)). take (k + 1) l ++ with_zeros (drop (k + 1) sizes) (drop (k + 1) l)) (map-set (λ (m : Vec LocalCells). m.items) ranks k v)
    ∙ ap (λ (l : List (List LocalCells)). l ++ with_zeros (drop (k + 1) sizes) (drop (k + 1) (slice_set css k v.items))) (take_more_set css k v.items inside)
    ∙ ap (λ (l : List (List LocalCells)). (take k css ++ v.items ∷ []) ++ with_zeros (drop (k + 1) sizes) l) (drop-set-lt (k + 1) css k v.items (omega arith))
    ∙ append_assoc (take k css) (v.items ∷ []) (with_zeros (drop (k + 1) sizes) (drop (k + 1) css))
    ∙ ap (λ (cs : List LocalCells). take k css ++ cs ∷ with_zeros (drop (k + 1) sizes) (drop (k + 1) css)) mine
    ∙ ap (λ (l : List (List LocalCells)). take k css ++ l) (sym (zeros_step sizes css k d [] low inside))

none_left : (sizes : List (ℕ × ℕ)) (css : List (List LocalCells)) → (length sizes ≤ 0) ⊎ (length css ≤ 0) → with_zeros sizes css ≡ css
none_left sizes [] h = ends sizes
  where
    ends : (sizes : List (ℕ × ℕ)) → with_zeros sizes [] ≡ []
    ends sizes = refl
none_left [] (cs ∷ css) h = refl
none_left (s ∷ sizes) (cs ∷ css) (inl h) = absurd (omega (arith, h))
none_left (s ∷ sizes) (cs ∷ css) (inr h) = absurd (omega (arith, h))

pub zeros_done : (sizes : List (ℕ × ℕ)) (ranks : List (Vec LocalCells)) (k : ℕ) → (length sizes ≤ k) ⊎ (length ranks ≤ k) → take k (arrays_of ranks) ++ with_zeros (drop k sizes) (drop k (arrays_of ranks)) ≡ arrays_of ranks
zeros_done sizes ranks k h = ap (λ (l : List (List LocalCells)). take k (arrays_of ranks) ++ l) (none_left (drop k sizes) (drop k (arrays_of ranks)) (ends h)) ∙ take-append-drop k (arrays_of ranks)
  where
    ends : (length sizes ≤ k) ⊎ (length ranks ≤ k) → (length (drop k sizes) ≤ 0) ⊎ (length (drop k (arrays_of ranks)) ≤ 0)
    ends (inl le) = inl (omega (arith, ap length (drop_all k sizes le)))
    ends (inr le) =
        let n : length (arrays_of ranks) ≡ length ranks = length-map ranks (λ (mine : Vec LocalCells). mine.items) in
        inr (omega (arith, ap length (drop_all k (arrays_of ranks) (omega (arith, n, le)))))

-- a rank without arrays more
pub empty_more : (ranks : List (Vec LocalCells)) (k : ℕ) (v : Vec LocalCells) → arrays_of ranks ≡ replicate k [] → v.items ≡ [] → arrays_of (ranks ++ v ∷ []) ≡ replicate (k + 1) []
empty_more ranks k v e is =
    map-append (λ (mine : Vec LocalCells). mine.items) ranks (v ∷ []) ∙ ap (λ (l : List (List LocalCells)). l ++ v.items ∷ []) e ∙ ap (λ (cs : List LocalCells). replicate k [] ++ cs ∷ []) is ∙ one k
  where
    longer : (x : List LocalCells) (k : ℕ) → replicate k x ++ x ∷ [] ≡ replicate (suc k) x
    longer x zero = refl
    longer x (suc k) = ap (λ (l : List (List LocalCells)). x ∷ l) (longer x k)

    one : (k : ℕ) → (let x : List LocalCells = [] in replicate k x ++ x ∷ []) ≡ replicate (k + 1) []
    one k = let next : suc k ≡ k + 1 = omega arith in longer [] k ∙ ap (λ (n : ℕ). let x : List LocalCells = [] in replicate n x) next
