-- An order with more operations.
use Rattle.std.proofs.Common.{◌≡◌, ℕ, ◌+◌, ◌≤◌, max, inl, inr, List, [], ◌∷◌, ◌++◌, length, sym, refl, ap, ◌∙◌, arith, length-append}
use Rattle.std.proofs.lemmas.Bool.Decides.{eqb_tells}
use Rattle.std.proofs.lemmas.List.{append-nil}
use Rattle.machine.specs.declared.kind.Kind.{Kind}
use Rattle.machine.specs.declared.kind.Kind.TheVariants.{Send, Recv, Local}
use Rattle.machine.specs.Changes.{at_pair}
use Rattle.machine.specs.Queues.{Lens, lens_by, lens_with, lens_to}
use Rattle.machine.specs.Orders.{own, lens_after, messages_of, occupancy_from, messages_by}
use Rattle.machine.proofs.Pairs.{at_else, at_here}
use Rattle.machine.proofs.Stepping.{lens_end, lens_one, lens_none}
use Rattle.machine.proofs.Orders.{own_here, own_else}

-- the own operations of a longer order
pub own_join : {Op : Type 0} (r : ℕ) (xs ys : List (ℕ × Op)) → own r (xs ++ ys) ≡ own r xs ++ own r ys
own_join r [] ys = refl
own_join r (x ∷ xs) ys = elim (eqb_tells x.0 r) [
  | inl e ↦ own_here r x (xs ++ ys) e.1 ∙ (ap (λ os. x.1 ∷ os) (own_join r xs ys) ∙ ap (λ os. os ++ own r ys) (sym (own_here r x xs e.1)))
  | inr e ↦ own_else r x (xs ++ ys) e.1 ∙ (own_join r xs ys ∙ ap (λ os. os ++ own r ys) (sym (own_else r x xs e.1)))
]

pub own_end : {Op : Type 0} (r : ℕ) (xs : List (ℕ × Op)) (x : ℕ × Op) → own r (xs ++ x ∷ []) ≡ own r xs ++ own r (x ∷ [])
own_end r xs x = own_join r xs (x ∷ [])

pub after_end : (xs : List (ℕ × Kind)) (x : ℕ × Kind) (q : Lens) → lens_after (xs ++ x ∷ []) q ≡ lens_by x.1 x.0 (lens_after xs q)
after_end [] x q = refl
after_end (y ∷ xs) x q = after_end xs x (lens_by y.1 y.0 q)

-- the greatest length is the old one or the new one
pub most_end : (xs : List (ℕ × Kind)) (x : ℕ × Kind) (q : Lens) (i j : ℕ) → occupancy_from (xs ++ x ∷ []) q i j ≡ max (occupancy_from xs q i j) (length (lens_by x.1 x.0 (lens_after xs q) i j))
most_end [] x q i j = refl
most_end (y ∷ xs) x q i j = let rest = most_end xs x (lens_by y.1 y.0 q) i j in omega (arith, rest)

-- a send is one message more of its pair
pub messages_end : (xs : List (ℕ × Kind)) (x : ℕ × Kind) (i j : ℕ) → messages_of (xs ++ x ∷ []) i j ≡ messages_by x.1 x.0 (messages_of xs) i j
messages_end xs x i j = elim (eqb_tells x.0 i) [
  | inl e ↦
      ap (λ os. length (lens_to j os)) (own_end i xs x ∙ ap (λ os. own i xs ++ os) (own_here i x [] e.1))
      ∙ (ap length (lens_end j (own i xs) x.1) ∙ (by x.1 (messages_of xs) i j (lens_to j (own i xs)) refl ∙ ap (λ r. messages_by x.1 r (messages_of xs) i j) (sym e.1)))
  | inr e ↦
      ap (λ os. length (lens_to j os)) (own_end i xs x ∙ (ap (λ os. own i xs ++ os) (own_else i x [] e.1) ∙ append-nil (own i xs)))
      ∙ sym (other x.1 x.0 (messages_of xs) i j (λ q. e.1 (sym q)))
]
  where
    by : (k : Kind) (m : ℕ → ℕ → ℕ) (i j : ℕ) (lens : List ℕ) → length lens ≡ m i j → length (lens ++ lens_with k j []) ≡ messages_by k i m i j
    by (Send to len) m i j lens e = elim (eqb_tells to j) [
      | inl h ↦ ap (λ l. length (lens ++ l)) (lens_one to len j h.1) ∙ (let l = length-append lens (len ∷ []) in let c : at_pair m i to (m i to + 1) i j ≡ m i j + 1 = ap (λ b. at_pair m i to (m i to + 1) i b) (sym h.1) ∙ (at_here m i to (m i to + 1) ∙ ap (λ b. m i b + 1) h.1) in omega (arith, l, c, e))
      | inr h ↦ ap (λ l. length (lens ++ l)) (lens_none to len j h.1) ∙ (ap length (append-nil lens) ∙ (e ∙ sym (at_else m i to (m i to + 1) i j (inr (λ q. h.1 (sym q))))))
    ]
    by (Recv from len) m i j lens e = ap length (append-nil lens) ∙ e
    by Local m i j lens e = ap length (append-nil lens) ∙ e

    other : (k : Kind) (r : ℕ) (m : ℕ → ℕ → ℕ) (i j : ℕ) → (i ≡ r → ⊥) → messages_by k r m i j ≡ m i j
    other (Send to len) r m i j n = at_else m r to (m r to + 1) i j (inl n)
    other (Recv from len) r m i j n = refl
    other Local r m i j n = refl
