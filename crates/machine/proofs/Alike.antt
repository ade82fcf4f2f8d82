-- Functions with the same values are the same.
use Rattle.std.proofs.Common.{◌≡◌, ℕ}
use Rattle.machine.specs.Queues.{Lens}
use Rattle.machine.specs.Machine.{Lists, Done}

pub same_done : (d e : Done) → ((r : ℕ) → d r ≡ e r) → d ≡ e
same_done d e h = λ t r. h r t

pub same_lens : (p q : Lens) → ((i j : ℕ) → p i j ≡ q i j) → p ≡ q
same_lens p q h = λ t i j. h i j t
