-- The messages of accumulators pass their first elements one by one.
use Rattle.std.proofs.Common.{◌≡◌, ℕ, ◌+◌, ◌-◌, ◌<◌, ◌≤◌, ◌^◌, Bool, true, false, List, ◌++◌, length, map, take, drop, get_or, refl, ap, ◌∙◌, arith, ℤ, pos, length-append, length-drop, length-take, lit<}
use Rattle.std.specs.Prelude.{slice_index_or, min}
use Rattle.std.specs.List.{range_with_len}
use Rattle.std.specs.Int.{w32, cast_signed, cast_unsigned}
use Rattle.std.specs.Ordering.{is_gt}
use Rattle.std.specs.declared.cmp.Ordering.{Ordering}
use Rattle.std.proofs.lemmas.Int.{of_z-to_z}
use Rattle.std.proofs.lemmas.List.{length-map, get_or_append_left, get_or-append_right, get_or-map, get_or-take}
use Rattle.std.proofs.lemmas.List.FromFn.{get_or-map-range_with_len, length-map-range_with_len}
use Rattle.fold_ops.specs.declared.held.Held.{Held}
use Rattle.fold_ops.specs.Join.{sum_joined, first_by, max_joined, min_joined, greatest_first, least_first}
use Rattle.fold_ops.specs.SumLaws.{made}
use Rattle.fold_ops.specs.FoldOf.{added}
use Rattle.route_laws.specs.Elements.{PassesEach}
use Rattle.route_plans.specs.Gathering.{IsAccumulator}
use Rattle.pack_words.specs.Accumulators.{values_of_held, words_of_held, held_at, value_at, no_held, element_of, value_of, pairs_message, values_message, first_made, joined_with, added_with, replaced_by_pairs, replaced_by_values}

pub made_element : (f : ℕ → Held) (n : ℕ) (hs : List Held) (k : ℕ) → k < n → element_of (first_made f n hs) k ≡ f k
made_element f n hs k lt =
    let size : length (map f (range_with_len 0 n)) ≡ n = length-map-range_with_len f 0 n in
    get_or_append_left (map f (range_with_len 0 n)) (drop n hs) no_held k (omega arith) ∙ get_or-map-range_with_len f 0 n k k no_held lt (omega arith)

pub made_length : (f : ℕ → Held) (n : ℕ) (hs : List Held) → n ≤ length hs → length (first_made f n hs) ≡ length hs
made_length f n hs le =
    let size : length (map f (range_with_len 0 n)) ≡ n = length-map-range_with_len f 0 n in
    let rest : length (drop n hs) ≡ length hs - n = length-drop n hs in
    length-append (map f (range_with_len 0 n)) (drop n hs) ∙ omega arith

pub made_good : (f : ℕ → Held) (n : ℕ) (hs : List Held) → n ≤ length hs → ((k : ℕ) → k < n → (f k).place < 2 ^ 32) → IsAccumulator n (first_made f n hs)
made_good f n hs le low = record {
  room = let same = made_length f n hs le in omega arith;
  places = λ k lt. let e : (element_of (first_made f n hs) k).place ≡ (f k).place = ap (λ (h : Held). h.place) (made_element f n hs k lt) in let l = low k lt in omega arith;
}

-- ---- what a message brings

taken_size : (n : ℕ) (hs : List Held) → n ≤ length hs → length (take n hs) ≡ n
taken_size n hs le = let e : length (take n hs) ≡ min n (length hs) = length-take n hs in omega arith

value_comes : (n : ℕ) (hs : List Held) (more : List ℤ) (k : ℕ) → n ≤ length hs → k < n → slice_index_or (values_of_held (take n hs) ++ more) k (pos 0) ≡ (element_of hs k).value
value_comes n hs more k le lt =
    let size : length (take n hs) ≡ n = taken_size n hs le in
    let same : length (values_of_held (take n hs)) ≡ length (take n hs) = length-map (take n hs) (λ (h : Held). h.value) in
    get_or_append_left (values_of_held (take n hs)) more (pos 0) k (omega arith)
    ∙ get_or-map (λ (h : Held). h.value) (take n hs) k no_held (pos 0) (omega arith)
    ∙ ap (λ (h : Held). h.value) (get_or-take n hs k no_held lt)

place_comes : (n : ℕ) (hs : List Held) (k : ℕ) → n ≤ length hs → k < n → slice_index_or (pairs_message n hs) (n + k) (pos 0) ≡ cast_signed w32 (element_of hs k).place
place_comes n hs k le lt =
    let size : length (take n hs) ≡ n = taken_size n hs le in
    let same : length (values_of_held (take n hs)) ≡ length (take n hs) = length-map (take n hs) (λ (h : Held). h.value) in
    let back : n + k - n ≡ k = omega arith in
    get_or-append_right (values_of_held (take n hs)) (words_of_held (take n hs)) n (n + k) (pos 0) (omega arith) (omega arith)
    ∙ ap (λ j. get_or (words_of_held (take n hs)) j (pos 0)) back
    ∙ get_or-map (λ (h : Held). cast_signed w32 h.place) (take n hs) k no_held (pos 0) (omega arith)
    ∙ ap (λ (h : Held). cast_signed w32 h.place) (get_or-take n hs k no_held lt)

pub pair_comes : (n : ℕ) (hs : List Held) → IsAccumulator n hs → (k : ℕ) → k < n → held_at (pairs_message n hs) n k ≡ element_of hs k
pair_comes n hs good k lt =
    made _ (element_of hs k).value _ (element_of hs k).place
    (value_comes n hs (words_of_held (take n hs)) k good.room lt)
    (ap (cast_unsigned w32) (place_comes n hs k good.room lt) ∙ of_z-to_z w32 (element_of hs k).place (good.places k lt))

pub value_alone_comes : (n : ℕ) (hs : List Held) (k : ℕ) → n ≤ length hs → k < n → (value_at (values_message n hs) k).value ≡ value_of hs k
value_alone_comes n hs k le lt =
    let size : length (take n hs) ≡ n = taken_size n hs le in
    get_or-map (λ (h : Held). h.value) (take n hs) k no_held (pos 0) (omega arith) ∙ ap (λ (h : Held). h.value) (get_or-take n hs k no_held lt)

-- ---- joining and replacing

-- joining gives places of 32 bits
abbrev pub KeepsPlaces : (Held → Held → Held) → Type 0
KeepsPlaces join = (a b : Held) → a.place < 2 ^ 32 → b.place < 2 ^ 32 → (join a b).place < 2 ^ 32

first_keeps_places : (order : Held → Held → Ordering) → KeepsPlaces (first_by order)
first_keeps_places order a b low low' = at (is_gt (order a b)) refl
  where
    at : (p : Bool) → is_gt (order a b) ≡ p → (first_by order a b).place < 2 ^ 32
    at true e = rw e low'
    at false e = rw e low

pub max_keeps_places : KeepsPlaces max_joined
max_keeps_places = first_keeps_places greatest_first

pub min_keeps_places : KeepsPlaces min_joined
min_keeps_places = first_keeps_places least_first

-- a message with places, joined
pub pairs_join : (join : Held → Held → Held) → KeepsPlaces join → (n : ℕ)
    → PassesEach n (IsAccumulator n) element_of (λ e child parent. join parent child) (λ e child parent. joined_with join n parent (pairs_message n child))
pairs_join join keeps n = record {
  good = λ e child parent c p. made_good (λ k. join (element_of parent k) (held_at (pairs_message n child) n k)) n parent p.room
      (λ k lt. let same = pair_comes n child c k lt in rw same (keeps (element_of parent k) (element_of child k) (p.places k lt) (c.places k lt)));
  each = λ e child parent c p k lt. made_element (λ j. join (element_of parent j) (held_at (pairs_message n child) n j)) n parent k lt ∙ ap (λ h. join (element_of parent k) h) (pair_comes n child c k lt);
}

-- a message of values alone, added
pub values_add : (n : ℕ) → PassesEach n (IsAccumulator n) value_of (λ e child parent. added parent child) (λ e child parent. added_with n parent (values_message n child))
values_add n = record {
  good = λ e child parent c p. made_good (λ k. sum_joined (element_of parent k) (value_at (values_message n child) k)) n parent p.room (λ k lt. let low = p.places k lt in omega arith);
  each = λ e child parent c p k lt.
      ap (λ (h : Held). h.value) (made_element (λ j. sum_joined (element_of parent j) (value_at (values_message n child) j)) n parent k lt)
      ∙ ap (λ v. added (value_of parent k) v) (value_alone_comes n child k c.room lt);
}

-- a message with places, put in
pub pairs_replace : (n : ℕ) → PassesEach n (IsAccumulator n) element_of (λ e start end. start) (λ e start end. replaced_by_pairs n end (pairs_message n start))
pairs_replace n = record {
  good = λ e start end s d. made_good (held_at (pairs_message n start) n) n end d.room (λ k lt. let same : (held_at (pairs_message n start) n k).place ≡ (element_of start k).place = ap (λ (h : Held). h.place) (pair_comes n start s k lt) in let low = s.places k lt in omega arith);
  each = λ e start end s d k lt. made_element (held_at (pairs_message n start) n) n end k lt ∙ pair_comes n start s k lt;
}

-- a message of values alone, put in
pub values_replace : (n : ℕ) → PassesEach n (IsAccumulator n) value_of (λ e start end. start) (λ e start end. replaced_by_values n end (values_message n start))
values_replace n = record {
  good = λ e start end s d. made_good (value_at (values_message n start)) n end d.room (λ k lt. lit< tt);
  each = λ e start end s d k lt. ap (λ (h : Held). h.value) (made_element (value_at (values_message n start)) n end k lt) ∙ value_alone_comes n start k s.room lt;
}
