-- The blocks along an axis.
use Rattle.std.proofs.Common.{◌≡◌, ℕ, ◌+◌, ◌-◌, ◌*◌, ◌/◌, ◌%◌, ◌<◌, ◌≤◌, ap, ◌∙◌, arith}
use Rattle.std.proofs.Math.Nat.{mod-lt}
use Rattle.std.proofs.lemmas.Nat.{div-mul-add, div-add-mod', le-div}
use Rattle.block_meet.specs.declared.axis.Axis.{Axis}
use Rattle.block_meet.specs.Runs.{block_at}
use Rattle.block_meet.specs.Stretch.{left}

-- Blocks come in the order of their indices.
pub block_le : (a : Axis) (i j : ℕ) → 0 < a.nb → i ≤ j → block_at a i ≤ block_at a j
block_le a i j hb h =
    let split : (a.first + i) / a.nb * a.nb + (a.first + i) % a.nb ≡ a.first + i = div-add-mod' (a.first + i) a.nb in
    le-div (block_at a i) (a.first + j) a.nb hb (omega arith)

pub left_some : (a : Axis) (i : ℕ) → 0 < a.nb → 0 < left a i
left_some a i hb = let r : (a.first + i) % a.nb < a.nb = mod-lt (a.first + i) hb in omega arith

-- Those indices lie in the block of the first.
pub left_stays : (a : Axis) (s i : ℕ) → 0 < a.nb → s ≤ i → i < s + left a s → block_at a i ≡ block_at a s
left_stays a s i hb low high =
    let split : (a.first + s) / a.nb * a.nb + (a.first + s) % a.nb ≡ a.first + s = div-add-mod' (a.first + s) a.nb in
    let r : (a.first + s) % a.nb < a.nb = mod-lt (a.first + s) hb in
    let rest : (a.first + s) % a.nb + (i - s) < a.nb = omega arith in
    let place : a.first + i ≡ (a.first + s) / a.nb * a.nb + ((a.first + s) % a.nb + (i - s)) = omega arith in
    ap (λ x. x / a.nb) place ∙ div-mul-add ((a.first + s) / a.nb) a.nb _ rest

-- After them comes the next block.
pub left_ends : (a : Axis) (s : ℕ) → 0 < a.nb → block_at a (s + left a s) ≡ block_at a s + 1
left_ends a s hb =
    let split : (a.first + s) / a.nb * a.nb + (a.first + s) % a.nb ≡ a.first + s = div-add-mod' (a.first + s) a.nb in
    let r : (a.first + s) % a.nb < a.nb = mod-lt (a.first + s) hb in
    let place : a.first + (s + left a s) ≡ ((a.first + s) / a.nb + 1) * a.nb + 0 = omega arith in
    ap (λ x. x / a.nb) place ∙ div-mul-add ((a.first + s) / a.nb + 1) a.nb 0 hb
