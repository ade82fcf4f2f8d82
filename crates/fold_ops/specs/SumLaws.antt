-- Laws of sums modulo 2^32.
use Rattle.std.proofs.Common.{◌≡◌, ◌≢◌, ℕ, zero, suc, ◌+◌, ◌-◌, ◌<◌, ◌≤◌, List, [], ◌∷◌, length, refl, sym, ap, ◌∙◌, arith, inl, inr}
use Rattle.std.specs.Prelude.{ℤ, pos, ◌+ℤ◌}
use Rattle.std.specs.Int.{int_wrap, w32}
use Rattle.std.proofs.lemmas.Int.{ints, int_wrap-add_left, int_wrap-add_right, int_wrap_fits}
use Rattle.std.proofs.lemmas.Bool.{cases_lt}
use Rattle.std.proofs.lemmas.Bool.Decides.{eqb_tells}
use Rattle.fold_ops.specs.declared.held.Held.{Held}
use Rattle.fold_ops.specs.Join.{sum_joined}
use Rattle.fold_ops.specs.Tree.{Tree, one, both, times, JoinsAll, AllFit, word_at, joined_over}
use Rattle.fold_ops.specs.Fold.{total, IsSumFold}

pub made : (v w : ℤ) (p q : ℕ) → v ≡ w → p ≡ q → let a : Held = record { value = v; place = p } in let b : Held = record { value = w; place = q } in a ≡ b
made v w p q e f = cc

pub sum_commutative : (a b : Held) → sum_joined a b ≡ sum_joined b a
sum_commutative a b = made _ _ _ _ (ap (int_wrap w32) (omega (arith, ints))) (omega arith)

pub sum_associative : (a b c : Held) → sum_joined (sum_joined a b) c ≡ sum_joined a (sum_joined b c)
sum_associative a b c = made _ _ _ _ (int_wrap-add_left w32 (a.value +ℤ b.value) c.value ∙ ap (int_wrap w32) (omega (arith, ints)) ∙ sym (int_wrap-add_right w32 a.value (b.value +ℤ c.value))) (omega arith)

-- a word taken so many times
abbrev pub taken : ℕ → ℤ → ℤ
taken zero w = pos 0
taken (suc n) w = w +ℤ taken n w

-- the sum of the words from place i on, each as often as c says
abbrev pub weighed : ℕ → List ℤ → (ℕ → ℕ) → ℤ
weighed i [] c = pos 0
weighed i (w ∷ ws) c = taken (c i) w +ℤ weighed (i + 1) ws c

taken_add : (m n : ℕ) (w : ℤ) → taken (m + n) w ≡ taken m w +ℤ taken n w
taken_add zero n w = let e : 0 + n ≡ n = omega arith in rw e (omega (arith, ints))
taken_add (suc m) n w =
    let e : suc m + n ≡ suc (m + n) = omega arith in
    let more : taken (m + n) w ≡ taken m w +ℤ taken n w = taken_add m n w in
    ap (λ k. taken k w) e ∙ ap (λ x. w +ℤ x) more ∙ omega (arith, ints)

weighed_past : (i j : ℕ) (ws : List ℤ) → j < i → weighed i ws (λ k. times k (one j)) ≡ pos 0
weighed_past i j [] lt = refl
weighed_past i j (w ∷ ws) lt = elim (eqb_tells j i) [
  | inl same ↦ absurd (let e = same.1 in omega arith)
  | inr other ↦ rw other.0 (ap (λ x. pos 0 +ℤ x) (weighed_past (i + 1) j ws (omega arith)))
]

weighed_one : (i j : ℕ) (ws : List ℤ) → i ≤ j → weighed i ws (λ k. times k (one j)) ≡ word_at ws (j - i)
weighed_one i j [] le = refl
weighed_one i j (w ∷ ws) le = elim (eqb_tells j i) [
  | inl same ↦
      let e : j ≡ i = same.1 in
      let none : j - i ≡ 0 = omega arith in
      let rest : weighed (i + 1) ws (λ k. times k (one j)) ≡ pos 0 = weighed_past (i + 1) j ws (omega arith) in
      rw (same.0, none) (ap (λ x. w +ℤ pos 0 +ℤ x) rest ∙ omega (arith, ints))
  | inr other ↦
      let ne : j ≢ i = other.1 in
      let more : j - i ≡ suc (j - (i + 1)) = omega arith in
      rw (other.0, more) (ap (λ x. pos 0 +ℤ x) (weighed_one (i + 1) j ws (omega arith)) ∙ omega (arith, ints))
]

weighed_both : (i : ℕ) (ws : List ℤ) (c d : ℕ → ℕ) → weighed i ws (λ k. c k + d k) ≡ weighed i ws c +ℤ weighed i ws d
weighed_both i [] c d = refl
weighed_both i (w ∷ ws) c d =
    let here : taken (c i + d i) w ≡ taken (c i) w +ℤ taken (d i) w = taken_add (c i) (d i) w in
    let rest : weighed (i + 1) ws (λ k. c k + d k) ≡ weighed (i + 1) ws c +ℤ weighed (i + 1) ws d = weighed_both (i + 1) ws c d in
    rw (here, rest) (omega (arith, ints))

weighed_once : (i : ℕ) (ws : List ℤ) (c : ℕ → ℕ) → ((k : ℕ) → i ≤ k → k < i + length ws → c k ≡ 1) → weighed i ws c ≡ total ws
weighed_once i [] c once = refl
weighed_once i (w ∷ ws) c once =
    let here : c i ≡ 1 = once i (omega arith) (omega arith) in
    let rest : weighed (i + 1) ws c ≡ total ws = weighed_once (i + 1) ws c (λ k low high. once k (omega arith) (omega arith)) in
    rw (here, rest) (omega (arith, ints))

-- the sum over a tree, as a whole number
abbrev pub tree_total : List ℤ → Tree → ℤ
tree_total words (one k) = word_at words k
tree_total words (both a b) = tree_total words a +ℤ tree_total words b

tree_weighed : (words : List ℤ) (t : Tree) → weighed 0 words (λ k. times k t) ≡ tree_total words t
tree_weighed words (one j) = let e : j - 0 ≡ j = omega arith in weighed_one 0 j words (omega arith) ∙ ap (word_at words) e
tree_weighed words (both a b) = weighed_both 0 words (λ k. times k a) (λ k. times k b) ∙ ap (λ x. x +ℤ weighed 0 words (λ k. times k b)) (tree_weighed words a) ∙ ap (λ x. tree_total words a +ℤ x) (tree_weighed words b)

tree_value : (words : List ℤ) (t : Tree) → AllFit words → ((k : ℕ) → length words ≤ k → times k t ≡ 0) → (joined_over sum_joined words t).value ≡ int_wrap w32 (tree_total words t)
tree_value words (one j) fit none = elim (cases_lt j (length words)) [
  | inl lt ↦ sym (int_wrap_fits w32 (word_at words j) (fit j lt))
  | inr le ↦ elim (eqb_tells j j) [
    | inl same ↦ absurd (clash (times j (one j)) (rw same.0 refl) (none j le))
    | inr other ↦ absurd (other.1 refl)
  ]
]
  where
    clash : (n : ℕ) → n ≡ 1 → n ≡ 0 → ⊥
    clash n e f = omega arith
tree_value words (both a b) fit none =
    let left = tree_value words a fit (λ k le. let h = none k le in omega arith) in
    let right = tree_value words b fit (λ k le. let h = none k le in omega arith) in
    ap (λ x. int_wrap w32 (x +ℤ (joined_over sum_joined words b).value)) left
    ∙ ap (λ x. int_wrap w32 (int_wrap w32 (tree_total words a) +ℤ x)) right
    ∙ int_wrap-add_left w32 (tree_total words a) (int_wrap w32 (tree_total words b))
    ∙ int_wrap-add_right w32 (tree_total words a) (tree_total words b)

pub sum_gives_fold : (words : List ℤ) (tree : Tree) → AllFit words → JoinsAll (length words) tree → IsSumFold words (joined_over sum_joined words tree)
sum_gives_fold words tree fit joins = record {
  value = tree_value words tree fit joins.no_other ∙ ap (int_wrap w32) (sym (tree_weighed words tree) ∙ weighed_once 0 words (λ k. times k tree) (λ k low high. joins.once k (omega arith)));
}
