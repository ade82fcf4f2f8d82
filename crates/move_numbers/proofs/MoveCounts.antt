-- A move's messages, copies and words: by its rectangles, as its operations have them, they are those of its elements.
use Rattle.std.specs.Prelude.{◌≡◌, ◌⊎◌, ℕ, suc, ◌+◌, ◌*◌, ◌<◌, ◌≤◌, ◌==◌, ◌&&◌, not, Bool, true, false, cond, IsTrue, nat_le, nat_lt, ◌-◌, List, [], ◌∷◌, ◌++◌, length, map, filter, count_by, sum_by}
use Rattle.std.specs.List.{AllByRecursion, IsDistinct}
use Rattle.std.proofs.Common.{sym, ap, ◌∙◌, subst, refl, inl, inr, arith, zero-add, length-append}
use Rattle.std.proofs.lemmas.Bool.Decides.{nat_tests}
use Rattle.std.proofs.lemmas.List.{length-map}
use Rattle.std.proofs.lemmas.List.Sums.{sum_by-cons, length-filter}
use Rattle.pack_words.specs.declared.cut.Cut.{Cut}
use Rattle.pack_words.specs.Selected.{is_selected}
use Rattle.pack_words.specs.Packing.{spots, is_same_spot, selected_count}
use Rattle.pack_words.specs.Parts.{place_in, part_spots, part_region, selected_elements}
use Rattle.pack_words.proofs.Once.{named_once}
use Rattle.pack_words.proofs.PartLaws.{part_is_region}
use Rattle.block_meet.specs.declared.side.Meet.{Meet}
use Rattle.block_meet.specs.Meets.{covers, touches}
use Rattle.block_meet.proofs.MeetLemmas.{corner_decides}
use Rattle.mr2d.specs.Moves.{Move, home_a, home_b, IsElement, elements}
use Rattle.mr2d.specs.Pairs.{IsAmong, parts_of_a, parts_of_cut, spot_a, AreOfPair}
use Rattle.mr2d.specs.Plans.{Rectangles, pairs, all_gives, all_takes, operations, AreAllMeets, has_some, sends, stays, words_sent}
use Rattle.mr2d.proofs.Among.{all_at, among_either, among_left, among_right, among_filter, among_filter_back}
use Rattle.mr2d.proofs.CanLaws.{apart_from}
use Rattle.mr2d.proofs.MovedLaws.{in_elements, of_elements}
use Rattle.mr2d.proofs.PairLaws.{GoesFor, spots_of_a, all_go, all_there}
use Rattle.mr2d.proofs.PlanLaws.{of_pairs}
use Rattle.mr2d.proofs.ListLaws.{takes_count, gives_count}
use Rattle.move_numbers.specs.MoveNumbers.{goes, going, move_messages, move_copies, move_words, AreTouching}

-- ---- lists of places without one twice

record IsSplit (x : ℕ × ℕ) (ys : List (ℕ × ℕ)) : Type 0 where
  before : List (ℕ × ℕ)
  after : List (ℕ × ℕ)
  whole : ys ≡ before ++ x ∷ after

split : (x : ℕ × ℕ) (ys : List (ℕ × ℕ)) → IsAmong x ys → IsSplit x ys
split x [] h = absurd h
split x (y ∷ ys) (inl e) = record { before = []; after = ys; whole = ap (λ z. z ∷ ys) (sym e) }
split x (y ∷ ys) (inr h) = let s = split x ys h in record { before = y ∷ s.before; after = s.after; whole = ap (λ zs. y ∷ zs) s.whole }

other : (e x : ℕ × ℕ) (before after : List (ℕ × ℕ)) → IsAmong e (before ++ x ∷ after) → (e ≡ x → ⊥) → IsAmong e (before ++ after)
other e x before after h differ = step (among_either e before (x ∷ after) h)
  where
    step : IsAmong e before ⊎ IsAmong e (x ∷ after) → IsAmong e (before ++ after)
    step (inl k) = among_left e before after k
    step (inr (inl same)) = absurd (differ same)
    step (inr (inr k)) = among_right e before after k

-- one that has no place twice is no longer than one that has all its places
no_longer : (xs ys : List (ℕ × ℕ)) → IsDistinct is_same_spot xs → ((e : ℕ × ℕ) → IsAmong e xs → IsAmong e ys) → length xs ≤ length ys
unfolding IsDistinct
no_longer [] ys once h = omega arith
no_longer (x ∷ xs) ys once h =
    let s = split x ys (h x (inl refl)) in
    let rest : length xs ≤ length (s.before ++ s.after) = no_longer xs (s.before ++ s.after) once.1 (λ e k.
    other e x s.before s.after (subst (λ zs. IsAmong e zs) s.whole (h e (inr k))) (λ same. apart_from x e (all_at (λ y. is_same_spot x y ≡ false) e xs once.0 k) (sym same))) in
    let whole : length ys ≡ length s.before + suc (length s.after) = ap length s.whole ∙ length-append s.before (x ∷ s.after) in
    let parts : length (s.before ++ s.after) ≡ length s.before + length s.after = length-append s.before s.after in
    omega arith

all_passing : (P : ℕ × ℕ → Type 0) (p : ℕ × ℕ → Bool) (xs : List (ℕ × ℕ)) → AllByRecursion P xs → AllByRecursion P (filter p xs)
all_passing P p [] all = tt
all_passing P p (x ∷ xs) all = step (all_passing P p xs all.1) (p x)
  where
    step : AllByRecursion P (filter p xs) → (b : Bool) → AllByRecursion P (cond b (x ∷ filter p xs) (filter p xs))
    step rest true = (all.0, rest)
    step rest false = rest

filter_once : (p : ℕ × ℕ → Bool) (xs : List (ℕ × ℕ)) → IsDistinct is_same_spot xs → IsDistinct is_same_spot (filter p xs)
unfolding IsDistinct
filter_once p [] once = tt
filter_once p (x ∷ xs) once = step (filter_once p xs once.1) (p x)
  where
    step : IsDistinct is_same_spot (filter p xs) → (b : Bool) → IsDistinct is_same_spot (cond b (x ∷ filter p xs) (filter p xs))
    step rest true = (all_passing (λ y. is_same_spot x y ≡ false) p xs once.0, rest)
    step rest false = rest

from_corner : (es : List (ℕ × ℕ)) → map (place_in 1 1) es ≡ es
from_corner [] = refl
from_corner (e ∷ es) = joined (0 + e.0) (0 + e.1) e.0 e.1 (map (place_in 1 1) es) es (zero-add e.0) (zero-add e.1) (from_corner es)
  where
    joined : (a b c d : ℕ) (xs ys : List (ℕ × ℕ)) → a ≡ c → b ≡ d → xs ≡ ys → (let x : ℕ × ℕ = (a, b) in x ∷ xs) ≡ (c, d) ∷ ys
    joined a b c d xs ys e f g = cc

corner_part : (cut : Cut) → part_spots cut 1 1 ≡ elements cut
unfolding part_spots selected_elements
corner_part cut = from_corner (elements cut)

elements_once : (cut : Cut) → IsDistinct is_same_spot (elements cut)
elements_once cut = subst (λ es. IsDistinct is_same_spot es) (part_is_region cut 1 1 ∙ corner_part cut) (named_once cut (part_region cut 1 1 ∷ []) (tt, tt))

-- ---- one pair of ranks

both_eq : (a b c d : ℕ) → (a == b) && (c == d) ≡ true → (a ≡ b) × (c ≡ d)
both_eq a b c d h = (first a b c d h, second a b c d h)
  where
    first : (a b c d : ℕ) → (a == b) && (c == d) ≡ true → a ≡ b
    first a b c d h = grind (arith, nat_tests)

    second : (a b c d : ℕ) → (a == b) && (c == d) ≡ true → c ≡ d
    second a b c d h = grind (arith, nat_tests)

eq_both : (a b c d : ℕ) → a ≡ b → c ≡ d → (a == b) && (c == d) ≡ true
eq_both a b c d e f = grind (arith, nat_tests)

module _ (mv : Move) (from to : ℕ) (ms : List Meet) (are : AreOfPair mv from to ms) where
  these : List (ℕ × ℕ)
  these = spots mv.cut (parts_of_cut ms)

  those : List (ℕ × ℕ)
  those = filter (goes mv (from, to)) (elements mv.cut)

  -- the elements of the pair's rectangles are those that go from the one rank to the other
  same_number : length these ≡ going mv (from, to)
  unfolding these those
  same_number =
      let up : length these ≤ length those = no_longer these those (named_once mv.cut (parts_of_cut ms) are.apart) (λ e h.
      let g = all_at (GoesFor mv from to) e these (all_go mv from to ms are.each) h in
      among_filter (goes mv (from, to)) e (elements mv.cut) (in_elements mv e.0 e.1 g.element) (eq_both _ _ _ _ g.source g.target)) in
      let down : length those ≤ length these = no_longer those these (filter_once (goes mv (from, to)) (elements mv.cut) (elements_once mv.cut)) (λ e h.
      let k = among_filter_back (goes mv (from, to)) e (elements mv.cut) h in
      let r = both_eq _ _ _ _ k.1 in
      all_there mv from to ms are e.0 e.1 (of_elements mv e k.0) r.0 r.1) in
      let size : length those ≡ going mv (from, to) = length-filter (goes mv (from, to)) (elements mv.cut) in
      omega arith

  pub pair_words : selected_count mv.cut (parts_of_a ms) ≡ going mv (from, to)
  unfolding these
  pair_words = ap length (spots_of_a mv from to ms are.each) ∙ length-map these (spot_a mv) ∙ same_number

some_long : (e : ℕ × ℕ) (xs : List (ℕ × ℕ)) → IsAmong e xs → 0 < length xs
some_long e [] h = absurd h
some_long e (x ∷ xs) h = omega arith

true_of : (b : Bool) → IsTrue b → b ≡ true
true_of b h = h

none_go : (mv : Move) (from to : ℕ) → AreOfPair mv from to [] → going mv (from, to) ≡ 0
unfolding these spots
none_go mv from to are = sym (same_number mv from to [] are)

some_go : (mv : Move) (from to : ℕ) (t : Meet) (ts : List Meet) → AreOfPair mv from to (t ∷ ts) → IsTrue (touches mv.cut t) → 0 < going mv (from, to)
unfolding these
some_go mv from to t ts are h =
    let is = are.each.0 in
    let some = (corner_decides mv.cut t is.some_rows is.some_columns).0 h in
    let i : ℕ = some.0 in
    let j : ℕ = some.1.0 in
    let at = place_of_it i j t some.1.1.0 in
    let bottom = is.bottom in let right = is.right in
    let row : t.i0 + at.0 ≡ i = at.2 in
    let column : t.j0 + at.1 ≡ j = at.3 in
    let low = at.4 in
    let left = at.5 in
    let e : IsElement mv i j = record { row = omega arith; column = omega arith; selected = true_of (is_selected mv.cut i j) some.1.1.1 } in
    let source : (home_a mv i j).rank ≡ from = subst (λ x. (home_a mv x j).rank ≡ from) row (subst (λ y. (home_a mv (t.i0 + at.0) y).rank ≡ from) column (is.source at.0 at.1 low left)) in
    let target : (home_b mv i j).rank ≡ to = subst (λ x. (home_b mv x j).rank ≡ to) row (subst (λ y. (home_b mv (t.i0 + at.0) y).rank ≡ to) column (is.target at.0 at.1 low left)) in
    let there : IsAmong (i, j) (spots mv.cut (parts_of_cut (t ∷ ts))) = all_there mv from to (t ∷ ts) are i j e source target in
    let long : 0 < length (spots mv.cut (parts_of_cut (t ∷ ts))) = some_long (i, j) (spots mv.cut (parts_of_cut (t ∷ ts))) there in
    subst (λ n. 0 < n) (same_number mv from to (t ∷ ts) are) long
  where
    place_of_it : (i j : ℕ) (t : Meet) → IsTrue (covers i j t) → (u : ℕ) × (v : ℕ) × (t.i0 + u ≡ i) × (t.j0 + v ≡ j) × (u < t.rows) × (v < t.cols)
    place_of_it i j t h =
        let w = within i j t.i0 t.rows t.j0 t.cols h in
        let a = w.0 in let b = w.1 in let c = w.2 in let d = w.3 in
        (i - t.i0, j - t.j0, omega arith, omega arith, omega arith, omega arith)
      where
        within : (i j i0 rows j0 cols : ℕ) → IsTrue ((nat_le i0 i && nat_lt i (i0 + rows)) && (nat_le j0 j && nat_lt j (j0 + cols))) → (i0 ≤ i) × (i < i0 + rows) × (j0 ≤ j) × (j < j0 + cols)
        within i j i0 rows j0 cols h = (one i j i0 rows j0 cols h, two i j i0 rows j0 cols h, three i j i0 rows j0 cols h, four i j i0 rows j0 cols h)
          where
            one : (i j i0 rows j0 cols : ℕ) → IsTrue ((nat_le i0 i && nat_lt i (i0 + rows)) && (nat_le j0 j && nat_lt j (j0 + cols))) → i0 ≤ i
            one i j i0 rows j0 cols h = grind (arith, nat_tests)

            two : (i j i0 rows j0 cols : ℕ) → IsTrue ((nat_le i0 i && nat_lt i (i0 + rows)) && (nat_le j0 j && nat_lt j (j0 + cols))) → i < i0 + rows
            two i j i0 rows j0 cols h = grind (arith, nat_tests)

            three : (i j i0 rows j0 cols : ℕ) → IsTrue ((nat_le i0 i && nat_lt i (i0 + rows)) && (nat_le j0 j && nat_lt j (j0 + cols))) → j0 ≤ j
            three i j i0 rows j0 cols h = grind (arith, nat_tests)

            four : (i j i0 rows j0 cols : ℕ) → IsTrue ((nat_le i0 i && nat_lt i (i0 + rows)) && (nat_le j0 j && nat_lt j (j0 + cols))) → j < j0 + cols
            four i j i0 rows j0 cols h = grind (arith, nat_tests)

-- a pair has a rectangle just where some element goes
pub has_some_going : (mv : Move) (from to : ℕ) (ms : List Meet) → AreOfPair mv from to ms → AllByRecursion (λ t. IsTrue (touches mv.cut t)) ms → has_some ms ≡ nat_lt 0 (going mv (from, to))
has_some_going mv from to [] are all = sym (ap (λ n. nat_lt 0 n) (none_go mv from to are))
has_some_going mv from to (t ∷ ts) are all = sym (above (going mv (from, to)) (some_go mv from to t ts are all.0))
  where
    above : (n : ℕ) → 0 < n → nat_lt 0 n ≡ true
    above n h = grind (arith, nat_tests)

-- ---- all pairs

count_cons : (p : ℕ × ℕ → Bool) (x : ℕ × ℕ) (xs : List (ℕ × ℕ)) → count_by p (x ∷ xs) ≡ cond (p x) 1 0 + count_by p xs
count_cons p x xs = sum_by-cons (λ y. cond (p y) 1 0) x xs

count_same : (p q : ℕ × ℕ → Bool) (xs : List (ℕ × ℕ)) → ((x : ℕ × ℕ) → IsAmong x xs → p x ≡ q x) → count_by p xs ≡ count_by q xs
count_same p q [] h = refl
count_same p q (x ∷ xs) h =
    count_cons p x xs ∙ ap (λ b. cond b 1 0 + count_by p xs) (h x (inl refl)) ∙ ap (λ n. cond (q x) 1 0 + n) (count_same p q xs (λ y k. h y (inr k))) ∙ sym (count_cons q x xs)

sum_same : (f g : ℕ × ℕ → ℕ) (xs : List (ℕ × ℕ)) → ((x : ℕ × ℕ) → IsAmong x xs → f x ≡ g x) → sum_by f xs ≡ sum_by g xs
sum_same f g [] h = refl
sum_same f g (x ∷ xs) h = sum_by-cons f x xs ∙ ap (λ n. n + sum_by f xs) (h x (inl refl)) ∙ ap (λ n. g x + n) (sum_same f g xs (λ y k. h y (inr k))) ∙ sym (sum_by-cons g x xs)

pub messages_are : (mv : Move) (ranks : ℕ) (meets : Rectangles) → AreTouching mv ranks meets → count_by (λ p. sends meets p.0 p.1) (pairs ranks) ≡ move_messages mv ranks
unfolding move_messages
messages_are mv ranks meets h = count_same (λ p. sends meets p.0 p.1) (λ p. nat_lt 0 (going mv p) && not (p.0 == p.1)) (pairs ranks) (λ p k.
    let l = of_pairs ranks p k in
    ap (λ b. b && not (p.0 == p.1)) (has_some_going mv p.0 p.1 (meets p.0 p.1) (h.all.each p.0 p.1 l.0 l.1) (h.each p.0 p.1)))

pub copies_are : (mv : Move) (ranks : ℕ) (meets : Rectangles) → AreTouching mv ranks meets → count_by (λ p. stays meets p.0 p.1) (pairs ranks) ≡ move_copies mv ranks
unfolding move_copies
copies_are mv ranks meets h = count_same (λ p. stays meets p.0 p.1) (λ p. nat_lt 0 (going mv p) && (p.0 == p.1)) (pairs ranks) (λ p k.
    let l = of_pairs ranks p k in
    ap (λ b. b && (p.0 == p.1)) (has_some_going mv p.0 p.1 (meets p.0 p.1) (h.all.each p.0 p.1 l.0 l.1) (h.each p.0 p.1)))

pub words_are : (mv : Move) (ranks : ℕ) (meets : Rectangles) → AreTouching mv ranks meets → words_sent mv meets (pairs ranks) ≡ move_words mv ranks
unfolding move_words
words_are mv ranks meets h = sum_same (λ p. cond (sends meets p.0 p.1) (selected_count mv.cut (parts_of_a (meets p.0 p.1))) 0) (λ p. cond (p.0 == p.1) 0 (going mv p)) (pairs ranks) (λ p k.
    let l = of_pairs ranks p k in
    one p (meets p.0 p.1) (h.all.each p.0 p.1 l.0 l.1) (p.0 == p.1))
  where
    one : (p : ℕ × ℕ) (ms : List Meet) → AreOfPair mv p.0 p.1 ms → (b : Bool) → cond (has_some ms && not b) (selected_count mv.cut (parts_of_a ms)) 0 ≡ cond b 0 (going mv p)
    one p [] are true = refl
    one p [] are false = sym (none_go mv p.0 p.1 are)
    one p (t ∷ ts) are true = refl
    one p (t ∷ ts) are false = pair_words mv p.0 p.1 (t ∷ ts) are

-- how many operations it has
pub operations_are : (mv : Move) (ranks : ℕ) (meets : Rectangles) → AreTouching mv ranks meets → length (operations mv meets ranks) ≡ 2 * move_messages mv ranks + move_copies mv ranks
operations_are mv ranks meets h =
    let whole = length-append (all_gives mv.a.array mv.b.array mv.cut meets (pairs ranks)) (all_takes mv.b.array mv.cut meets (pairs ranks)) in
    let first = gives_count mv.a.array mv.b.array mv.cut meets (pairs ranks) in
    let second = takes_count mv.b.array mv.cut meets (pairs ranks) in
    let m = messages_are mv ranks meets h in
    let c = copies_are mv ranks meets h in
    omega arith
