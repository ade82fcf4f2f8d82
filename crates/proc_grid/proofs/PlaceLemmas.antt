-- Places and ranks as signed numbers lead back to each other.
use Rattle.std.proofs.Common.{◌≡◌, ℕ, ℤ, pos, negsuc, Option, None, Some, sym, ap, ◌∙◌, refl}
use Rattle.proc_grid.specs.Grid.{Grid, IsGrid, rank_at, place_of, or_minus_one, place_or_minus_one, pnum_of, pcoord_of}
use Rattle.proc_grid.proofs.GridLemmas.{place_of-rank_at, rank_at-place_of}

pub pcoord_of-pnum_of : (g : Grid) (prow pcol : ℤ) (r : ℕ) → IsGrid g → pnum_of g prow pcol ≡ pos r → pcoord_of g (pos r) ≡ (prow, pcol)
pcoord_of-pnum_of g (pos p) (pos q) r w e = ap place_or_minus_one (place_of-rank_at g p q r w (held (rank_at g p q) e))
  where
    held : (o : Option ℕ) → or_minus_one o ≡ pos r → o ≡ Some r
    held None h = cc
    held (Some x) h = cc
pcoord_of-pnum_of g (pos p) (negsuc q) r w e = cc
pcoord_of-pnum_of g (negsuc p) pcol r w e = cc

pub pnum_of-pcoord_of : (g : Grid) (rank : ℤ) (p : ℕ) (c : ℤ) → IsGrid g → pcoord_of g rank ≡ (pos p, c) → pnum_of g (pos p) c ≡ rank
pnum_of-pcoord_of g (pos rank) p c w e = by_place (place_of g rank) refl
  where
    first : {a b : ℤ} → ◌≡◌ {A = ℤ × ℤ} (a, b) (pos p, c) → a ≡ pos p
    first h = ap (λ (w : ℤ × ℤ). w.0) h

    second : {a b : ℤ} → ◌≡◌ {A = ℤ × ℤ} (a, b) (pos p, c) → b ≡ c
    second h = ap (λ (w : ℤ × ℤ). w.1) h

    outside : negsuc 0 ≡ pos p → ⊥
    outside h = cc

    numbers : (a b : ℕ) → pos a ≡ pos b → a ≡ b
    numbers a b h = cc

    at : (a b : ℕ) → place_of g rank ≡ Some (a, b) → pos a ≡ pos p → pos b ≡ c → pnum_of g (pos p) c ≡ pos rank
    at a b f h k = ap (λ x. pnum_of g (pos p) x) (sym k) ∙ ap (λ x. pnum_of g x (pos b)) (sym h) ∙ ap or_minus_one (rank_at-place_of g a b rank w f)

    by_place : (o : Option (ℕ × ℕ)) → place_of g rank ≡ o → pnum_of g (pos p) c ≡ pos rank
    by_place None f = absurd (outside (ap (λ (w : ℤ × ℤ). w.0) (ap place_or_minus_one (sym f) ∙ e)))
    by_place (Some place) f = at place.0 place.1 f (ap (λ (w : ℤ × ℤ). w.0) (ap place_or_minus_one (sym f) ∙ e)) (ap (λ (w : ℤ × ℤ). w.1) (ap place_or_minus_one (sym f) ∙ e))
pnum_of-pcoord_of g (negsuc rank) p c w e = absurd (outside (ap (λ (w : ℤ × ℤ). w.0) e))
  where
    outside : negsuc 0 ≡ pos p → ⊥
    outside h = cc
