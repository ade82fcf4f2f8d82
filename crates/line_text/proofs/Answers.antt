-- What answers say that are taken apart.
use Rattle.std.proofs.Common.{◌≡◌, Option, Some, None, Result, Ok, Err, refl}
use Rattle.line_text.specs.FaultTables.{unless_fault}

pub ok_is : {A E : Type 0} (x y : A) → ◌≡◌ {A = Result A E} (Ok x) (Ok y) → x ≡ y
ok_is x y e = cc

pub err_is : {A E : Type 0} (x y : E) → ◌≡◌ {A = Result A E} (Err x) (Err y) → x ≡ y
err_is x y e = cc

pub unless_ok : {A Fault : Type 0} (o : Option Fault) (r : Result A Fault) (a : A) → unless_fault o r ≡ Ok a → (o ≡ None) × (r ≡ Ok a)
unless_ok (Some fault) r a e = absurd cc
unless_ok None r a e = (refl, e)
