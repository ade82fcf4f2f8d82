-- The numbers of a line.
use Rattle.std.proofs.Common.{◌≡◌, ℤ, pos, negsuc, Ok, Err, refl, arith}
use Rattle.std.specs.Prelude.{◌≤ℤ◌, ◌<ℤ◌, unsigned_abs}
use Rattle.std.proofs.lemmas.Int.{ints}
use Rattle.grid_lang.specs.declared.fault.LangFault.{LangFault}
use Rattle.grid_lang.specs.declared.fault.LangFault.TheVariants.{Number}
use Rattle.grid_lang.specs.WordKinds.{Word, integer, number}

pub good : (word : Word) (v : ℤ) → Ok v ≡ integer word → pos 0 ≤ℤ v → Ok (unsigned_abs v) ≡ number word
unfolding number
good word (pos n) e least = rw (← e) refl
good word (negsuc n) e least = absurd (omega (arith, ints))

pub negative : (word : Word) (v : ℤ) → Ok v ≡ integer word → v <ℤ pos 0 → Err Number ≡ number word
unfolding number
negative word (pos n) e less = absurd (omega (arith, ints))
negative word (negsuc n) e less = rw (← e) refl

pub bad : (word : Word) (fault : LangFault) → Err fault ≡ integer word → Err fault ≡ number word
unfolding number
bad word fault e = rw (← e) refl
