-- Laws of the word that comes first by an order.
use Rattle.std.proofs.Common.{◌≡◌, ℕ, ◌<◌, ◌≤◌, Bool, true, false, List, length, refl, sym, ap, ◌∙◌, arith, inl, inr}
use Rattle.std.specs.Prelude.{ℤ}
use Rattle.std.specs.Ordering.{nat_cmp, int_cmp, is_gt, ordering_then, ordering_reverse}
use Rattle.std.specs.declared.cmp.Ordering.{Ordering}
use Rattle.std.specs.declared.cmp.Ordering.TheVariants.{Less, Equal, Greater}
use Rattle.std.specs.Cmp.{IsTotalOrder, nat_cmp_is}
use Rattle.std.specs.FinMap.{nat_cmp-IsAntisymmetric, int_cmp-IsAntisymmetric}
use Rattle.std.proofs.lemmas.Cmp.{upto, tied_itself, nat_cmp_total, int_cmp_total, on_total, then_total, back_total, ranked, by_ranked}
use Rattle.std.proofs.lemmas.Bool.{cases_lt}
use Rattle.std.proofs.lemmas.Bool.Decides.{eqb_tells}
use Rattle.fold_ops.specs.declared.held.Held.{Held}
use Rattle.fold_ops.specs.Join.{size, by_tie, greatest_first, least_first, first_by, max_joined, min_joined}
use Rattle.fold_ops.specs.Tree.{Tree, one, both, times, JoinsAll, AllFit, word_at, joined_over}
use Rattle.fold_ops.specs.Fold.{IsMaxFold, IsMinFold}
use Rattle.fold_ops.specs.SumLaws.{made}

-- an order on held words that tells different ones apart
pub record IsExact (R : Held → Held → Ordering) : Type 0 where
  pub total : IsTotalOrder R
  pub same : (a b : Held) → R a b ≡ Equal → a ≡ b

then_equal : (p q : Ordering) → ordering_then p q ≡ Equal → (p ≡ Equal) × (q ≡ Equal)
then_equal Less q e = cc
then_equal Equal q e = (refl, e)
then_equal Greater q e = cc

held_same : (a b : Held) → a.place ≡ b.place → a.value ≡ b.value → a ≡ b
held_same a b p v = made a.value b.value a.place b.place v p

tie_same : (a b : Held) → by_tie a b ≡ Equal → a ≡ b
tie_same a b e =
    let parts = then_equal (nat_cmp a.place b.place) (int_cmp b.value a.value) e in
    held_same a b (nat_cmp-IsAntisymmetric a.place b.place parts.0) (sym (int_cmp-IsAntisymmetric b.value a.value parts.1))

tie_total : IsTotalOrder by_tie
tie_total = then_total (on_total (λ (a : Held). a.place) nat_cmp_total) (on_total (λ (a : Held). a.value) (back_total int_cmp_total))

pub greatest_exact : IsExact greatest_first
greatest_exact = record {
  total = then_total (on_total size (back_total nat_cmp_total)) tie_total;
  same = λ a b e. tie_same a b (then_equal (nat_cmp (size b) (size a)) (by_tie a b) e).1;
}

pub least_exact : IsExact least_first
least_exact = record {
  total = then_total (on_total size nat_cmp_total) tie_total;
  same = λ a b e. tie_same a b (then_equal (nat_cmp (size a) (size b)) (by_tie a b) e).1;
}

-- ---- joining by an exact order

reversed : (R : Held → Held → Ordering) → IsExact R → (a b : Held) (r : Ordering) → R a b ≡ r → R b a ≡ ordering_reverse r
reversed R o a b r e = let t = o.total in t.antisymm b a ∙ ap ordering_reverse e

pub first_commutative : (R : Held → Held → Ordering) → IsExact R → (a b : Held) → first_by R a b ≡ first_by R b a
first_commutative R o a b = at (R a b) refl
  where
    at : (r : Ordering) → R a b ≡ r → first_by R a b ≡ first_by R b a
    at Less e = rw (e, reversed R o a b Less e) refl
    at Equal e = rw (e, reversed R o a b Equal e) (o.same a b e)
    at Greater e = rw (e, reversed R o a b Greater e) refl

is_greater : (r : Ordering) → is_gt r ≡ true → r ≡ Greater
is_greater Less e = cc
is_greater Equal e = cc
is_greater Greater e = refl

above : (R : Held → Held → Ordering) → IsExact R → (a b c : Held) → is_gt (R a b) ≡ true → is_gt (R b c) ≡ true → is_gt (R a c) ≡ true
above R o a b c p q =
    let t = o.total in
    let low : R c b ≡ Less = reversed R o b c Greater (is_greater (R b c) q) in
    let high : R b a ≡ Less = reversed R o a b Greater (is_greater (R a b) p) in
    ap is_gt (reversed R o c a Less (t.trans c b a low high))

pub first_associative : (R : Held → Held → Ordering) → IsExact R → (a b c : Held) → first_by R (first_by R a b) c ≡ first_by R a (first_by R b c)
first_associative R o a b c = at (is_gt (R a b)) refl (is_gt (R b c)) refl
  where
    at : (p : Bool) → is_gt (R a b) ≡ p → (q : Bool) → is_gt (R b c) ≡ q → first_by R (first_by R a b) c ≡ first_by R a (first_by R b c)
    at true e true f = rw (e, f, above R o a b c e f) refl
    at true e false f = rw (e, f, e) refl
    at false e true f = rw (e, f) refl
    at false e false f = rw (e, f, e, upto o.total a b c e f) refl

-- ---- over a tree, the word of one member, which comes before all others

abbrev pub held_at : List ℤ → ℕ → Held
held_at words k = record { value = word_at words k; place = k }

-- some member's word is what the tree gives
pub record Reached (R : Held → Held → Ordering) (words : List ℤ) (t : Tree) : Type 0 where
  pub at : ℕ
  pub joined : 0 < times at t
  pub is : joined_over (first_by R) words t ≡ held_at words at

reached_both : (R : Held → Held → Ordering) (words : List ℤ) (a b : Tree) → Reached R words a → Reached R words b → Reached R words (both a b)
reached_both R words a b left right = at (is_gt (R (joined_over (first_by R) words a) (joined_over (first_by R) words b))) refl
  where
    at : (p : Bool) → is_gt (R (joined_over (first_by R) words a) (joined_over (first_by R) words b)) ≡ p → Reached R words (both a b)
    at true e = record { at = right.at; joined = let l = right.joined in omega arith; is = rw e right.is }
    at false e = record { at = left.at; joined = let l = left.joined in omega arith; is = rw e left.is }

reached : (R : Held → Held → Ordering) (words : List ℤ) (t : Tree) → Reached R words t
reached R words (one j) = record { at = j; joined = elim (eqb_tells j j) [ inl same ↦ rw same.0 (omega arith) | inr other ↦ absurd (other.1 refl) ]; is = refl }
reached R words (both a b) = reached_both R words a b (reached R words a) (reached R words b)

first_before : (R : Held → Held → Ordering) → IsExact R → (a b : Held) → (is_gt (R (first_by R a b) a) ≡ false) × (is_gt (R (first_by R a b) b) ≡ false)
first_before R o a b = at (R a b) refl
  where
    itself : (c : Held) → is_gt (R c c) ≡ false
    itself c = ap is_gt (tied_itself o.total c)

    at : (r : Ordering) → R a b ≡ r → (is_gt (R (first_by R a b) a) ≡ false) × (is_gt (R (first_by R a b) b) ≡ false)
    at Less e = (rw e (itself a), rw (e, e) refl)
    at Equal e = (rw e (itself a), rw (e, e) refl)
    at Greater e = (rw (e, reversed R o a b Greater e) refl, rw e (itself b))

before_all : (R : Held → Held → Ordering) → IsExact R → (words : List ℤ) (t : Tree) (k : ℕ) → 0 < times k t → is_gt (R (joined_over (first_by R) words t) (held_at words k)) ≡ false
before_all R o words (one j) k lt = elim (eqb_tells j k) [
  | inl same ↦ rw same.1 (ap is_gt (tied_itself o.total (held_at words k)))
  | inr other ↦ absurd (none (rw other.0 at lt))
]
  where
    none : 0 < 0 → ⊥
    none h = omega arith
before_all R o words (both a b) k lt =
    let x : Held = joined_over (first_by R) words a in
    let y : Held = joined_over (first_by R) words b in
    let best = first_before R o x y in
    elim (cases_lt 0 (times k a)) [
      | inl left ↦ upto o.total (first_by R x y) x (held_at words k) best.0 (before_all R o words a k left)
      | inr none ↦ upto o.total (first_by R x y) y (held_at words k) best.1 (before_all R o words b k (omega arith))
    ]

-- ---- what that says of absolute values and places

not_above : (m n : ℕ) (o : Ordering) → is_gt (ordering_then (nat_cmp m n) o) ≡ false → m ≤ n
not_above m n o h = by_ranked (m < n) (m ≡ n) (n < m) (nat_cmp m n) (ranked m n (nat_cmp m n) refl) (λ _ l. omega arith) (λ _ e. omega arith) (λ g _. absurd (never (rw g at h)))
  where
    never : is_gt (ordering_then Greater o) ≡ false → ⊥
    never e = cc

below_at_tie : (m n p q : ℕ) (o : Ordering) → is_gt (ordering_then (nat_cmp m n) (ordering_then (nat_cmp p q) o)) ≡ false → q < p → m < n
below_at_tie m n p q o h lt = by_ranked (m < n) (m ≡ n) (n < m) (nat_cmp m n) (ranked m n (nat_cmp m n) refl) (λ _ l. l) (λ e _. absurd (tied (rw e at h))) (λ g _. absurd (never (rw g at h)))
  where
    greater : nat_cmp p q ≡ Greater
    greater = sym (nat_cmp_is p q Greater lt)

    clash : is_gt (ordering_then Greater o) ≡ false → ⊥
    clash e = cc

    tied : is_gt (ordering_then Equal (ordering_then (nat_cmp p q) o)) ≡ false → ⊥
    tied e = clash (rw greater at e)

    never : is_gt (ordering_then Greater (ordering_then (nat_cmp p q) o)) ≡ false → ⊥
    never e = cc

in_range : (n k : ℕ) (t : Tree) → JoinsAll n t → 0 < times k t → k < n
in_range n k t joins lt = elim (cases_lt k n) [ inl below ↦ below | inr le ↦ absurd (let e = joins.no_other k le in omega arith) ]

pub max_commutative : (a b : Held) → max_joined a b ≡ max_joined b a
max_commutative = first_commutative greatest_first greatest_exact

pub max_associative : (a b c : Held) → max_joined (max_joined a b) c ≡ max_joined a (max_joined b c)
max_associative = first_associative greatest_first greatest_exact

pub min_commutative : (a b : Held) → min_joined a b ≡ min_joined b a
min_commutative = first_commutative least_first least_exact

pub min_associative : (a b c : Held) → min_joined (min_joined a b) c ≡ min_joined a (min_joined b c)
min_associative = first_associative least_first least_exact

pub max_gives_fold : (words : List ℤ) (tree : Tree) → AllFit words → JoinsAll (length words) tree → IsMaxFold words (joined_over max_joined words tree)
max_gives_fold words tree fit joins =
    let best : Reached greatest_first words tree = reached greatest_first words tree in
    let below : best.at < length words = in_range (length words) best.at tree joins best.joined in
    let before : (k : ℕ) → k < length words → is_gt (greatest_first (held_at words best.at) (held_at words k)) ≡ false
    = λ k lt. rw best.is at (before_all greatest_first greatest_exact words tree k (let e = joins.once k lt in omega arith)) in
    rw best.is (record {
      place = below;
      value = refl;
      greatest = λ k lt. not_above (size (held_at words k)) (size (held_at words best.at)) _ (before k lt);
      first = λ k lt. below_at_tie (size (held_at words k)) (size (held_at words best.at)) best.at k _ (before k (omega arith)) lt;
    })

pub min_gives_fold : (words : List ℤ) (tree : Tree) → AllFit words → JoinsAll (length words) tree → IsMinFold words (joined_over min_joined words tree)
min_gives_fold words tree fit joins =
    let best : Reached least_first words tree = reached least_first words tree in
    let below : best.at < length words = in_range (length words) best.at tree joins best.joined in
    let before : (k : ℕ) → k < length words → is_gt (least_first (held_at words best.at) (held_at words k)) ≡ false
    = λ k lt. rw best.is at (before_all least_first least_exact words tree k (let e = joins.once k lt in omega arith)) in
    rw best.is (record {
      place = below;
      value = refl;
      least = λ k lt. not_above (size (held_at words best.at)) (size (held_at words k)) _ (before k lt);
      first = λ k lt. below_at_tie (size (held_at words best.at)) (size (held_at words k)) best.at k _ (before k (omega arith)) lt;
    })
