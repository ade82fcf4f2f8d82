-- The rectangles of a pair are its meets.
use Rattle.std.proofs.Common.{◌≡◌, ℕ, ◌+◌, ◌-◌, ◌*◌, ◌<◌, ◌≤◌, ◌&&◌, ◌↔◌, IsTrue, Bool, true, false, cond, nat_eq, nat_le, nat_lt, List, [], ◌∷◌, ◌++◌, filter, map, count_by, refl, sym, ap, ◌∙◌, arith}
use Rattle.std.specs.List.{flat_map, AllByRecursion}
use Rattle.std.proofs.lemmas.Bool.{and_parts}
use Rattle.std.proofs.lemmas.Bool.Decides.{nat_tests}
use Rattle.std.proofs.lemmas.List.Sums.{sum_by-cons, sum_by-append}
use Rattle.index_tools.specs.Spread.{owner}
use Rattle.block_meet.specs.declared.axis.Axis.{Axis}
use Rattle.block_meet.specs.declared.axis.Run.{Run}
use Rattle.pack_words.specs.declared.cut.Cut.{Cut}
use Rattle.pack_words.specs.declared.shape.Shape.{Shape}
use Rattle.pack_words.specs.declared.shape.Shape.TheVariants.{Ge, Tr}
use Rattle.pack_words.specs.declared.uplo.Uplo.TheVariants.{Upper, Lower}
use Rattle.pack_words.specs.declared.diag.Diag.TheVariants.{N, U}
use Rattle.block_meet.specs.declared.side.Meet.{Meet}
use Rattle.block_meet.specs.Runs.{spread_of, IsRun, AreRunsFrom, AreRuns, holds}
use Rattle.block_meet.specs.Pairs.{lies_on}
use Rattle.pack_words.specs.Selected.{selects, is_selected}
use Rattle.block_meet.specs.Meets.{HasSelected, covers, IsOnPair, IsMeet, IsBefore, AreOrdered, rectangle, rectangles, touched, touches}
use Rattle.block_meet.proofs.LawLemmas.{each_once, inside_run}

-- Where a rectangle has a selected element, it has one at the corner that the shape favours.
covers_touched : (s : Shape) (m n : ℕ) (t : Meet) (i j : ℕ) → covers i j t ≡ true → selects s m n i j ≡ true → touched s m n t ≡ true
covers_touched Ge m n t i j h k = refl
covers_touched (Tr Upper N) m n t i j h k = corner t.i0 t.rows t.j0 t.cols i j (m - n) h k
  where
    corner : (a l b o i j d : ℕ) → ((nat_le a i && nat_lt i (a + l)) && (nat_le b j && nat_lt j (b + o))) ≡ true → nat_le i (j + d) ≡ true → nat_le a (b + o - 1 + d) ≡ true
    corner a l b o i j d h k = grind (arith, nat_tests)
covers_touched (Tr Upper U) m n t i j h k = corner t.i0 t.rows t.j0 t.cols i j (m - n) h k
  where
    corner : (a l b o i j d : ℕ) → ((nat_le a i && nat_lt i (a + l)) && (nat_le b j && nat_lt j (b + o))) ≡ true → nat_lt i (j + d) ≡ true → nat_lt a (b + o - 1 + d) ≡ true
    corner a l b o i j d h k = grind (arith, nat_tests)
covers_touched (Tr Lower N) m n t i j h k = corner t.i0 t.rows t.j0 t.cols i j (n - m) h k
  where
    corner : (a l b o i j d : ℕ) → ((nat_le a i && nat_lt i (a + l)) && (nat_le b j && nat_lt j (b + o))) ≡ true → nat_le j (i + d) ≡ true → nat_le b (a + l - 1 + d) ≡ true
    corner a l b o i j d h k = grind (arith, nat_tests)
covers_touched (Tr Lower U) m n t i j h k = corner t.i0 t.rows t.j0 t.cols i j (n - m) h k
  where
    corner : (a l b o i j d : ℕ) → ((nat_le a i && nat_lt i (a + l)) && (nat_le b j && nat_lt j (b + o))) ≡ true → nat_lt j (i + d) ≡ true → nat_lt b (a + l - 1 + d) ≡ true
    corner a l b o i j d h k = grind (arith, nat_tests)

-- a rectangle has its corners
corner_in : (a l b o i j : ℕ) → a ≤ i → i < a + l → b ≤ j → j < b + o → ((nat_le a i && nat_lt i (a + l)) && (nat_le b j && nat_lt j (b + o))) ≡ true
corner_in a l b o i j p q r s = grind (arith, nat_tests)

-- The corner tells of a selected element.
touched_some : (s : Shape) (m n : ℕ) (t : Meet) → 0 < t.rows → 0 < t.cols → touched s m n t ≡ true → (i : ℕ) × ((j : ℕ) × (IsTrue (covers i j t) × IsTrue (selects s m n i j)))
touched_some Ge m n t hr hc h = (t.i0, (t.j0, (corner_in t.i0 t.rows t.j0 t.cols t.i0 t.j0 (omega arith) (omega arith) (omega arith) (omega arith), h)))
touched_some (Tr Upper d) m n t hr hc h = (t.i0, (t.j0 + t.cols - 1, (corner_in t.i0 t.rows t.j0 t.cols t.i0 (t.j0 + t.cols - 1) (omega arith) (omega arith) (omega arith) (omega arith), h)))
touched_some (Tr Lower d) m n t hr hc h = (t.i0 + t.rows - 1, (t.j0, (corner_in t.i0 t.rows t.j0 t.cols (t.i0 + t.rows - 1) t.j0 (omega arith) (omega arith) (omega arith) (omega arith), h)))

-- What holds of each element, of a list, its image, its filter, of many lists.
all_weaker : {X : Type 0} (P Q : X → Type 0) (xs : List X) → ((x : X) → P x → Q x) → AllByRecursion P xs → AllByRecursion Q xs
all_weaker P Q [] f h = tt
all_weaker P Q (x ∷ xs) f h = (f x h.0, all_weaker P Q xs f h.1)

all_of : {X : Type 0} (P : X → Type 0) (xs : List X) → ((x : X) → P x) → AllByRecursion P xs
all_of P [] f = tt
all_of P (x ∷ xs) f = (f x, all_of P xs f)

all_map : {X Y : Type 0} (P : Y → Type 0) (g : X → Y) (xs : List X) → AllByRecursion (λ x. P (g x)) xs → AllByRecursion P (map g xs)
all_map P g [] h = tt
all_map P g (x ∷ xs) h = (h.0, all_map P g xs h.1)

all_append : {X : Type 0} (P : X → Type 0) (xs ys : List X) → AllByRecursion P xs → AllByRecursion P ys → AllByRecursion P (xs ++ ys)
all_append P [] ys h k = k
all_append P (x ∷ xs) ys h k = (h.0, all_append P xs ys h.1 k)

all_flat : {X Y : Type 0} (P : Y → Type 0) (g : X → List Y) (xs : List X) → AllByRecursion (λ x. AllByRecursion P (g x)) xs → AllByRecursion P (flat_map g xs)
all_flat P g [] h = tt
all_flat P g (x ∷ xs) h = all_append P (g x) (flat_map g xs) h.0 (all_flat P g xs h.1)

all_filter : {X : Type 0} (P : X → Type 0) (t : X → Bool) (xs : List X) → AllByRecursion (λ x. t x ≡ true → P x) xs → AllByRecursion P (filter t xs)
all_filter P t [] h = tt
all_filter P t (x ∷ xs) h = by_test (t x) h.0 (all_filter P t xs h.1)
  where
    by_test : (d : Bool) → (d ≡ true → P x) → AllByRecursion P (filter t xs) → AllByRecursion P (cond d (x ∷ filter t xs) (filter t xs))
    by_test true f r = (f refl, r)
    by_test false f r = r

-- Elements that are left out do not count.
count_filter : {X : Type 0} (p t : X → Bool) (xs : List X) → AllByRecursion (λ x. p x ≡ true → t x ≡ true) xs → count_by p (filter t xs) ≡ count_by p xs
count_filter p t [] f = refl
count_filter p t (x ∷ xs) f = by_test (t x) f.0 (count_filter p t xs f.1) ∙ sym (sum_by-cons (λ y. cond (p y) 1 0) x xs)
  where
    none : (c : Bool) → (c ≡ true → false ≡ true) → ◌≡◌ {A = ℕ} 0 (cond c 1 0)
    none true g = absurd (let e : false ≡ true = g refl in cc)
    none false g = refl

    by_test : (d : Bool) → (p x ≡ true → d ≡ true) → count_by p (filter t xs) ≡ count_by p xs → count_by p (cond d (x ∷ filter t xs) (filter t xs)) ≡ cond (p x) 1 0 + count_by p xs
    by_test true g e = sum_by-cons (λ y. cond (p y) 1 0) x (filter t xs) ∙ ap (λ n. cond (p x) 1 0 + n) e
    by_test false g e = e ∙ (let z : 0 ≡ cond (p x) 1 0 = none (p x) g in omega arith)

-- How many of a column run's rectangles have an element.
count_column : (i j : ℕ) (c : Run) (rs : List Run) → count_by (covers i j) (map (λ r. rectangle r c) rs) ≡ cond (holds j c) (count_by (holds i) rs) 0
count_column i j c [] = none (holds j c)
  where
    none : (d : Bool) → ◌≡◌ {A = ℕ} 0 (cond d 0 0)
    none true = refl
    none false = refl
count_column i j c (r ∷ rs) =
    sum_by-cons (λ m. cond (covers i j m) 1 0) (rectangle r c) (map (λ r. rectangle r c) rs)
    ∙ ap (λ n. cond (holds i r && holds j c) 1 0 + n) (count_column i j c rs)
    ∙ both (holds i r) (holds j c) (count_by (holds i) rs)
    ∙ ap (λ n. cond (holds j c) n 0) (sym (sum_by-cons (λ r. cond (holds i r) 1 0) r rs))
  where
    both : (x y : Bool) (n : ℕ) → cond (x && y) 1 0 + cond y n 0 ≡ cond y (cond x 1 0 + n) 0
    both true true n = refl
    both true false n = refl
    both false true n = refl
    both false false n = refl

-- How many rectangles have an element: as many row runs as have its row, times as many column runs as have its column.
count_rectangles : (i j : ℕ) (rs cs : List Run) → count_by (covers i j) (rectangles rs cs) ≡ count_by (holds i) rs * count_by (holds j) cs
count_rectangles i j rs [] = let e : 0 ≡ count_by (holds i) rs * 0 = omega arith in e
count_rectangles i j rs (c ∷ cs) =
    sum_by-append (λ m. cond (covers i j m) 1 0) (map (λ r. rectangle r c) rs) (rectangles rs cs)
    ∙ ap (λ n. n + count_by (covers i j) (rectangles rs cs)) (count_column i j c rs)
    ∙ ap (λ n. cond (holds j c) (count_by (holds i) rs) 0 + n) (count_rectangles i j rs cs)
    ∙ times (holds j c) (count_by (holds i) rs) (count_by (holds j) cs)
    ∙ ap (λ n. count_by (holds i) rs * n) (sym (sum_by-cons (λ c. cond (holds j c) 1 0) c cs))
  where
    times : (y : Bool) (x n : ℕ) → cond y x 0 + x * n ≡ x * (cond y 1 0 + n)
    times true x n = omega arith
    times false x n = omega arith

-- Each listed run is one.
runs_are : (n : ℕ) (a b : Axis) (from to : ℕ) (rs : List Run) → AreRunsFrom n a b from to rs → AllByRecursion (IsRun n a b) rs
runs_are n a b from to [] h = tt
runs_are n a b from to (r ∷ rs) h = (h.1, runs_are n a b (from + r.len) to rs h.2)

lies : (x y p q : ℕ) → x ≡ p → y ≡ q → (nat_eq x p && nat_eq y q) ≡ true
lies x y p q e f = grind (arith, nat_tests)

lies_first : (x y p q : ℕ) → (nat_eq x p && nat_eq y q) ≡ true → x ≡ p
lies_first x y p q h = grind (arith, nat_tests)

lies_second : (x y p q : ℕ) → (nat_eq x p && nat_eq y q) ≡ true → y ≡ q
lies_second x y p q h = grind (arith, nat_tests)

held_low : (s l i : ℕ) → (nat_le s i && nat_lt i (s + l)) ≡ true → s ≤ i
held_low s l i h = grind (arith, nat_tests)

held_high : (s l i : ℕ) → (nat_le s i && nat_lt i (s + l)) ≡ true → i < s + l
held_high s l i h = grind (arith, nat_tests)

-- A run that has an index of the pair lies on the pair.
holder_lies : (n : ℕ) (a b : Axis) (i p q : ℕ) (r : Run) → owner (spread_of a) (a.first + i) ≡ p → owner (spread_of b) (b.first + i) ≡ q → IsRun n a b r → holds i r ≡ true → lies_on p q r ≡ true
holder_lies n a b i p q r e f w h =
    let low : r.start ≤ i = held_low r.start r.len i h in
    let high : i < r.start + r.len = held_high r.start r.len i h in
    let place : r.start + (i - r.start) ≡ i = omega arith in
    let own = inside_run n a b r w (i - r.start) (omega arith) in
    lies r.pa r.pb p q (sym own.0 ∙ ap (λ x. owner (spread_of a) (a.first + x)) place ∙ e) (sym own.1 ∙ ap (λ x. owner (spread_of b) (b.first + x)) place ∙ f)

pair_holds : (n : ℕ) (a b : Axis) (i p q : ℕ) (rs : List Run) → AreRuns n a b rs → i < n → owner (spread_of a) (a.first + i) ≡ p → owner (spread_of b) (b.first + i) ≡ q → count_by (holds i) (filter (lies_on p q) rs) ≡ 1
pair_holds n a b i p q rs h l e f = count_filter (holds i) (lies_on p q) rs (all_weaker (IsRun n a b) _ rs (λ r w. holder_lies n a b i p q r e f w) (runs_are n a b 0 n rs h)) ∙ each_once n a b rs h i l

-- Each selected element of the pair is in one of the pair's rectangles.
pub pair_once : (cut : Cut) (ra ca rb cb : Axis) (source dest : ℕ × ℕ) (rs cs : List Run) (i j : ℕ) → AreRuns cut.m ra rb rs → AreRuns cut.n ca cb cs → i < cut.m → j < cut.n → is_selected cut i j ≡ true → IsOnPair ra ca rb cb source dest i j
    → count_by (covers i j) (filter (touches cut) (rectangles (filter (lies_on source.0 dest.0) rs) (filter (lies_on source.1 dest.1) cs))) ≡ 1
pair_once cut ra ca rb cb source dest rs cs i j h k hi hj s p =
    count_filter (covers i j) (touches cut) (rectangles (filter (lies_on source.0 dest.0) rs) (filter (lies_on source.1 dest.1) cs)) (all_of _ _ (λ t c. covers_touched cut.shape cut.m cut.n t i j c s))
    ∙ count_rectangles i j (filter (lies_on source.0 dest.0) rs) (filter (lies_on source.1 dest.1) cs)
    ∙ ap (λ n. n * count_by (holds j) (filter (lies_on source.1 dest.1) cs)) (pair_holds cut.m ra rb i source.0 dest.0 rs h hi p.row_in_a p.row_in_b)
    ∙ ap (λ n. 1 * n) (pair_holds cut.n ca cb j source.1 dest.1 cs k hj p.column_in_a p.column_in_b)

-- a run of a pair
record IsPairRun (n : ℕ) (a b : Axis) (p q : ℕ) (r : Run) : Type 0 where
  pub run : IsRun n a b r
  pub lies : lies_on p q r ≡ true

pair_runs : (n : ℕ) (a b : Axis) (p q : ℕ) (rs : List Run) → AreRuns n a b rs → AllByRecursion (IsPairRun n a b p q) (filter (lies_on p q) rs)
pair_runs n a b p q rs h = all_filter (IsPairRun n a b p q) (lies_on p q) rs (all_weaker (IsRun n a b) _ rs (λ r w l. record { run = w; lies = l }) (runs_are n a b 0 n rs h))

covered : (a l b o i j : ℕ) → ((nat_le a i && nat_lt i (a + l)) && (nat_le b j && nat_lt j (b + o))) ≡ true → (a ≤ i) × (i < a + l) × (b ≤ j) × (j < b + o)
covered a l b o i j h = let parts = and_parts _ _ h in (held_low a l i parts.0, held_high a l i parts.0, held_low b o j parts.1, held_high b o j parts.1)

-- The rectangle of a row run and a column run of the pair, where it has a selected element, is a meet.
is_meet : (cut : Cut) (ra ca rb cb : Axis) (source dest : ℕ × ℕ) (r c : Run) → IsPairRun cut.m ra rb source.0 dest.0 r → IsPairRun cut.n ca cb source.1 dest.1 c → touches cut (rectangle r c) ≡ true → IsMeet cut ra ca rb cb source dest (rectangle r c)
is_meet cut ra ca rb cb source dest r c x y t = record {
  some = touched_some cut.shape cut.m cut.n (rectangle r c) x.run.some y.run.some t;
  bottom = x.run.inside;
  right = y.run.inside;
  members = λ i j hi hj. (
    λ h. let w = covered r.start r.len c.start c.len i j h in ((x.run.members i hi).0 (w.0, w.1), (y.run.members j hj).0 (w.2, w.3)),
    λ h. let v = (x.run.members i hi).1 h.0 in let w = (y.run.members j hj).1 h.1 in corner_in r.start r.len c.start c.len i j v.0 v.1 w.0 w.1,
  );
  on_pair = λ u v hu hv. let f = inside_run cut.m ra rb r x.run u hu in let g = inside_run cut.n ca cb c y.run v hv in record {
    row_in_a = f.0 ∙ lies_first _ _ _ _ x.lies;
    column_in_a = g.0 ∙ lies_first _ _ _ _ y.lies;
    row_in_b = f.1 ∙ lies_second _ _ _ _ x.lies;
    column_in_b = g.1 ∙ lies_second _ _ _ _ y.lies;
  };
  placed = λ u v hu hv. let f = inside_run cut.m ra rb r x.run u hu in let g = inside_run cut.n ca cb c y.run v hv in record { row_in_a = f.2; column_in_a = g.2; row_in_b = f.3; column_in_b = g.3 };
}

pub pair_meets : (cut : Cut) (ra ca rb cb : Axis) (source dest : ℕ × ℕ) (rs cs : List Run) → AreRuns cut.m ra rb rs → AreRuns cut.n ca cb cs
    → AllByRecursion (IsMeet cut ra ca rb cb source dest) (filter (touches cut) (rectangles (filter (lies_on source.0 dest.0) rs) (filter (lies_on source.1 dest.1) cs)))
pair_meets cut ra ca rb cb source dest rs cs h k =
    all_filter _ (touches cut) (rectangles (filter (lies_on source.0 dest.0) rs) (filter (lies_on source.1 dest.1) cs))
    (all_flat _ _ (filter (lies_on source.1 dest.1) cs)
    (all_weaker (IsPairRun cut.n ca cb source.1 dest.1) _ (filter (lies_on source.1 dest.1) cs)
    (λ c y. all_map _ (λ r. rectangle r c) (filter (lies_on source.0 dest.0) rs)
    (all_weaker (IsPairRun cut.m ra rb source.0 dest.0) _ (filter (lies_on source.0 dest.0) rs)
    (λ r x t. is_meet cut ra ca rb cb source dest r c x y t)
    (pair_runs cut.m ra rb source.0 dest.0 rs h)))
    (pair_runs cut.n ca cb source.1 dest.1 cs k)))

-- Runs that begin one after the other.
abbrev Rising : List Run → Type 0
Rising [] = Unit {0}
Rising (r ∷ rs) = AllByRecursion (λ x. r.start < x.start) rs × Rising rs

begin_from : (n : ℕ) (a b : Axis) (from to : ℕ) (rs : List Run) → AreRunsFrom n a b from to rs → AllByRecursion (λ x. from ≤ x.start) rs
begin_from n a b from to [] h = tt
begin_from n a b from to (r ∷ rs) h = (let e = h.0 in omega arith, all_weaker (λ x. from + r.len ≤ x.start) _ rs (λ x l. omega arith) (begin_from n a b (from + r.len) to rs h.2))

runs_rise : (n : ℕ) (a b : Axis) (from to : ℕ) (rs : List Run) → AreRunsFrom n a b from to rs → Rising rs
runs_rise n a b from to [] h = tt
runs_rise n a b from to (r ∷ rs) h = (all_weaker (λ x. from + r.len ≤ x.start) _ rs (λ x l. let e = h.0 in let s = h.1.some in omega arith) (begin_from n a b (from + r.len) to rs h.2), runs_rise n a b (from + r.len) to rs h.2)

all_kept : {X : Type 0} (P : X → Type 0) (t : X → Bool) (xs : List X) → AllByRecursion P xs → AllByRecursion P (filter t xs)
all_kept P t xs h = all_filter P t xs (all_weaker P _ xs (λ x p e. p) h)

filter_rises : (t : Run → Bool) (rs : List Run) → Rising rs → Rising (filter t rs)
filter_rises t [] h = tt
filter_rises t (r ∷ rs) h = by_test (t r) (all_kept _ t rs h.0) (filter_rises t rs h.1)
  where
    by_test : (d : Bool) → AllByRecursion (λ x. r.start < x.start) (filter t rs) → Rising (filter t rs) → Rising (cond d (r ∷ filter t rs) (filter t rs))
    by_test true f g = (f, g)
    by_test false f g = g

ordered_append : (xs ys : List Meet) → AreOrdered xs → AreOrdered ys → AllByRecursion (λ x. AllByRecursion (IsBefore x) ys) xs → AreOrdered (xs ++ ys)
ordered_append [] ys h k f = k
ordered_append (x ∷ xs) ys h k f = (all_append (IsBefore x) xs ys h.0 f.0, ordered_append xs ys h.1 k f.1)

ordered_column : (c : Run) (rs : List Run) → Rising rs → AreOrdered (map (λ r. rectangle r c) rs)
ordered_column c [] h = tt
ordered_column c (r ∷ rs) h = (all_map (IsBefore (rectangle r c)) (λ r. rectangle r c) rs (all_weaker (λ x. r.start < x.start) _ rs (λ x l. (omega arith, λ e. l)) h.0), ordered_column c rs h.1)

ordered_rectangles : (rs cs : List Run) → Rising rs → Rising cs → AreOrdered (rectangles rs cs)
ordered_rectangles rs [] h k = tt
ordered_rectangles rs (c ∷ cs) h k =
    ordered_append (map (λ r. rectangle r c) rs) (rectangles rs cs) (ordered_column c rs h) (ordered_rectangles rs cs h k.1)
    (all_map _ (λ r. rectangle r c) rs (all_of _ rs (λ r. all_flat (IsBefore (rectangle r c)) (λ c. map (λ r. rectangle r c) rs) cs (all_weaker (λ x. c.start < x.start) _ cs (λ d l. all_map (IsBefore (rectangle r c)) (λ r. rectangle r d) rs (all_of _ rs (λ q. (omega arith, λ e. absurd (omega arith))))) k.0))))

ordered_filter : (t : Meet → Bool) (ms : List Meet) → AreOrdered ms → AreOrdered (filter t ms)
ordered_filter t [] h = tt
ordered_filter t (m ∷ ms) h = by_test (t m) (all_kept _ t ms h.0) (ordered_filter t ms h.1)
  where
    by_test : (d : Bool) → AllByRecursion (IsBefore m) (filter t ms) → AreOrdered (filter t ms) → AreOrdered (cond d (m ∷ filter t ms) (filter t ms))
    by_test true f g = (f, g)
    by_test false f g = g

-- The rectangles of a pair come by increasing j0, then i0.
pub pair_ordered : (cut : Cut) (ra ca rb cb : Axis) (source dest : ℕ × ℕ) (rs cs : List Run) → AreRuns cut.m ra rb rs → AreRuns cut.n ca cb cs
    → AreOrdered (filter (touches cut) (rectangles (filter (lies_on source.0 dest.0) rs) (filter (lies_on source.1 dest.1) cs)))
pair_ordered cut ra ca rb cb source dest rs cs h k =
    ordered_filter (touches cut) _ (ordered_rectangles (filter (lies_on source.0 dest.0) rs) (filter (lies_on source.1 dest.1) cs)
    (filter_rises (lies_on source.0 dest.0) rs (runs_rise cut.m ra rb 0 cut.m rs h))
    (filter_rises (lies_on source.1 dest.1) cs (runs_rise cut.n ca cb 0 cut.n cs k)))

-- The corner decides.
pub corner_decides : (cut : Cut) (m : Meet) → 0 < m.rows → 0 < m.cols → IsTrue (touches cut m) ↔ HasSelected cut m
corner_decides cut m hr hc = (λ h. touched_some cut.shape cut.m cut.n m hr hc h, λ h. covers_touched cut.shape cut.m cut.n m h.0 h.1.0 h.1.1.0 h.1.1.1)
