-- What a pair of ranks gives that has a rectangle.
use Rattle.std.specs.Prelude.{◌≡◌, ℕ, Bool, true, false, List, [], ◌∷◌, length}
use Rattle.std.proofs.Common.{refl, subst}
use Rattle.pack_words.specs.declared.cut.Cut.{Cut}
use Rattle.block_meet.specs.declared.side.Meet.{Meet}
use Rattle.mr2d.specs.Plans.{gives, giving}

other : Bool → Type 0
other true = ⊥
other false = Unit {0}

pub untrue : false ≡ true → ⊥
unfolding other
untrue e = subst other e tt

pub gives_some : (a b : ℕ) (cut : Cut) (from to : ℕ) (ms : List Meet) → (length ms ≡ 0 → ⊥) → gives a b cut from to ms ≡ (from, giving a b cut from to ms) ∷ []
gives_some a b cut from to [] some = absurd (some refl)
gives_some a b cut from to (t ∷ ts) some = refl
