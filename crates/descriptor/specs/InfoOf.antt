-- INFO: which entry of a check is the first bad one. ScaLAPACK Users' Guide, "Error Handling".
use Rattle.std.specs.Prelude.{ℕ, Bool, List, [], ◌∷◌, Option, None, Some, if◌then◌else◌, pos, ◌-ℤ◌}
use Rattle.descriptor.specs.declared.info.Info.{Info}

-- An entry of a check: whether it is bad, and its place. That of argument i is i, and that of entry j of the
-- descriptor that is argument i is 100 * i + j.
pub record Entry : Type 0 where
  pub is_bad : Bool
  pub place : ℕ

abbrev pub entry : Bool → ℕ → Entry
entry is_bad place = record { is_bad = is_bad; place = place }

-- the number of a place: less than 0
abbrev pub info_number : ℕ → Info
info_number place = record { 0 = pos 0 -ℤ pos place }

-- the number of the first bad entry, if there is one
abbrev pub info_of : List Entry → Option Info
info_of [] = None
info_of (e ∷ es) = if e.is_bad then Some (info_number e.place) else info_of es
