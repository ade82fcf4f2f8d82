-- Bytes in two runs that only grow, and parts of them.
use Rattle.std.specs.Prelude.{◌≡◌, ℕ, ◌≤◌, false, List, length, if◌then◌else◌, slice_range, refl}
use Rattle.std.specs.Coded.{Coded, code_by, coded×, coded_ℕ, coded_list}
use Rattle.store_io.specs.declared.heap.Part.{Part}

-- both runs, and the room that is left
pub record Bytes : Type 0 where
  pub main : List ℕ
  pub aside : List ℕ
  pub room : ℕ

-- the run that a part lies in
abbrev pub run_of : Bytes → Part → List ℕ
run_of b p = if p.aside then b.aside else b.main

abbrev pub part_of : Bytes → Part → List ℕ
part_of b p = slice_range (run_of b p) p.from p.to

pub record IsPart (b : Bytes) (p : Part) : Type 0 where
  pub order : p.from ≤ p.to
  pub fits : p.to ≤ length (run_of b p)

-- no byte of its run stands after it, and it isn't aside
pub record IsLast (b : Bytes) (p : Part) : Type 0 where
  pub run : p.aside ≡ false
  pub end : p.to ≡ length b.main

-- each part stays
abbrev pub Keeps : Bytes → Bytes → Type 0
Keeps old new = (p : Part) → IsPart old p → IsPart new p × (part_of new p ≡ part_of old p)

abbrev pub bytes_code : Coded Bytes
bytes_code = code_by (List ℕ × (List ℕ × ℕ)) (coded× (coded_list coded_ℕ) (coded× (coded_list coded_ℕ) coded_ℕ)) (λ b. (b.main, (b.aside, b.room))) (λ p. record { main = p.0; aside = p.1.0; room = p.1.1 }) (λ _. refl)
