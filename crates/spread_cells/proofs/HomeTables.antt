-- Tables of where indices lie.
use Rattle.std.proofs.Common.{◌≡◌, ℕ, ◌+◌, ◌<◌, List, [], ◌∷◌, ◌++◌, length, get_or, refl, sym, ap, subst, ◌∙◌, arith}
use Rattle.std.proofs.lemmas.List.FromFn.{map-range_with_len_more, get_or-map-range_with_len, length-map-range_with_len}
use Rattle.index_tools.specs.Spread.{Spread, owner, below, local}
use Rattle.index_tools.proofs.HomeLemmas.{owner_below, local_below}
use Rattle.spread_cells.specs.declared.index_home.IndexHome.{IndexHome}
use Rattle.spread_cells.specs.IndexHomes.{index_home, index_homes}

home_is : (p l q m : ℕ) → p ≡ q → l ≡ m → (let h : IndexHome = record { process = p; local = l } in h) ≡ record { process = q; local = m }
home_is p l q m e f = rw (e, f) refl

-- the next index after those that are there
pub homes_more : (s : Spread) (k g p l : ℕ) (homes : List IndexHome) → homes ≡ index_homes s k → g ≡ k → p ≡ owner s g → l ≡ local s g → homes ++ record { process = p; local = l } ∷ [] ≡ index_homes s (k + 1)
homes_more s k g p l homes before here own at =
    let last : (let h : IndexHome = record { process = p; local = l } in h) ≡ index_home s k = home_is p l (owner s k) (local s k) (own ∙ ap (owner s) here) (at ∙ ap (λ n. local s n) here) in
    ap (λ (hs : List IndexHome). hs ++ record { process = p; local = l } ∷ []) before ∙ ap (λ (h : IndexHome). index_homes s k ++ h ∷ []) last ∙ sym (map-range_with_len_more (index_home s) 0 k k (omega arith))

-- how many there are, and what stands at an index
pub homes_length : (s : Spread) (n : ℕ) (homes : List IndexHome) → homes ≡ index_homes s n → length homes ≡ n
homes_length s n homes e = ap length e ∙ length-map-range_with_len (index_home s) 0 n

pub home_at : (s : Spread) (n i : ℕ) (homes : List IndexHome) (d : IndexHome) → homes ≡ index_homes s n → i < n → get_or homes i d ≡ index_home s i
home_at s n i homes d e lt = ap (λ (hs : List IndexHome). get_or hs i d) e ∙ get_or-map-range_with_len (index_home s) 0 n i i d lt (omega arith)

-- what the table of a spread says of an index below n
pub home_found : (s t : Spread) (n m i : ℕ) (homes : List IndexHome) (h : IndexHome) → homes ≡ index_homes s n → s ≡ t → n ≡ m → i < m → h ≡ get_or homes i h → h ≡ index_home t i
home_found s t n m i homes h are same size low here =
    here ∙ home_at s n i homes h are (omega (arith, size, low)) ∙ ap (λ u. index_home u i) same

-- it is a process
pub process_found : (s : Spread) (i : ℕ) (h : IndexHome) → 0 < s.processes → h ≡ index_home s i → h.process < s.processes
process_found s i h some is = omega (arith, owner_below s i some, ap (λ (x : IndexHome). x.process) is)

-- and a local index below the local size
pub local_found : (s : Spread) (i n : ℕ) (h : IndexHome) → i < n → h ≡ index_home s i → h.local < below s h.process n
local_found s i n h low is = let P : IndexHome → Type 0 = λ x. x.local < below s x.process n in subst P (sym is) (local_below s i n low)
