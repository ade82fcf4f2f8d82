-- The characters of topologies, by A User's Guide to the BLACS.
use Rattle.std.specs.Prelude.{ℕ, ◌-◌, ◌==◌, Bool, List, codes, if◌then◌else◌, Option, Some, None}
use Rattle.std.specs.List.{list_any}
use Rattle.route_tree.specs.declared.top.Top.{Top}
use Rattle.route_tree.specs.declared.top.Top.TheVariants.{I, D, S, H, F, M, T}

-- a character that is one of these
abbrev pub is_of : ℕ → List ℕ → Bool
is_of c text = list_any (λ x. c == x) text

-- the topology of a character: a letter in either case, a digit for the tree with so many branches (48 is the code of 0), or a blank
abbrev pub top_of : ℕ → Option Top
top_of c =
    if is_of c (codes "Ii") then Some I
    else if is_of c (codes "Dd") then Some D
    else if is_of c (codes "Ss") then Some S
    else if is_of c (codes "Hh ") then Some H
    else if is_of c (codes "Ff") then Some F
    else if is_of c (codes "Mm") then Some M
    else if is_of c (codes "Tt") then Some (T 2)
    else if is_of c (codes "123456789") then Some (T (c - 48))
    else None
