-- The first bad entry of lists in a row.
use Rattle.std.proofs.Common.{◌≡◌, Bool, true, false, cond, List, [], ◌∷◌, ◌++◌, Option, None, Some, refl}
use Rattle.descriptor.specs.InfoOf.{Entry, info_of, info_number}
use Rattle.descriptor.specs.declared.info.Info.{Info}

-- The first bad entry of the front is the first of all.
pub info_of_front : (xs ys : List Entry) (info : Info) → info_of xs ≡ Some info → info_of (xs ++ ys) ≡ Some info
info_of_front [] ys info h = cc
info_of_front (x ∷ xs) ys info h = step x.is_bad (info_number x.place) (info_of xs) (info_of (xs ++ ys)) (info_of_front xs ys info) h
  where
    step : (b : Bool) (i : Info) (o p : Option Info) → (o ≡ Some info → p ≡ Some info) → cond b (Some i) o ≡ Some info → cond b (Some i) p ≡ Some info
    step true i o p f h = h
    step false i o p f h = f h

-- Where the front is good, what is after it decides.
pub info_of_rest : (xs ys : List Entry) → info_of xs ≡ None → info_of (xs ++ ys) ≡ info_of ys
info_of_rest [] ys h = refl
info_of_rest (x ∷ xs) ys h = step x.is_bad (info_number x.place) (info_of xs) (info_of (xs ++ ys)) (info_of ys) (info_of_rest xs ys) h
  where
    step : (b : Bool) (i : Info) (o p r : Option Info) → (o ≡ None → p ≡ r) → cond b (Some i) o ≡ None → cond b (Some i) p ≡ r
    step true i o p r f h = cc
    step false i o p r f h = f h
