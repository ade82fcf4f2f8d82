-- The tree of each topology of A User's Guide to the BLACS; where the guide leaves parents and order open they are this
-- project's own. Members have relative numbers, 0 for the source.
use Rattle.std.specs.Prelude.{ℕ, zero, suc, ◌+◌, ◌-◌, ◌/◌, ◌%◌, ◌^◌, ◌≤◌, ◌==◌, nat_le, nat_lt, if◌then◌else◌, List, map}
use Rattle.std.specs.List.{range_with_len}
use Rattle.route_tree.specs.declared.top.Top.{Top}
use Rattle.route_tree.specs.declared.top.Top.TheVariants.{I, D, S, H, F, M, T}

-- the greatest of the powers of two up to 2 ^ e that is at most k
unfoldable pub power_below : ℕ → ℕ → ℕ
power_below zero k = 1
power_below (suc e) k = if nat_le (2 ^ suc e) k then 2 ^ suc e else power_below e k

-- the highest binary one of k, a number of 32 bits that isn't 0
abbrev pub highest_one : ℕ → ℕ
highest_one k = power_below 31 k

-- the parent of member k of n
abbrev pub parent_of : Top → ℕ → ℕ → ℕ
parent_of I n k = k - 1
parent_of D n k = k - 1
parent_of S n k = if nat_le k (n / 2) then k - 1 else if k == n - 1 then 0 else k + 1
parent_of H n k = k - highest_one k
parent_of F n k = 0
parent_of M n k = if k == n / 2 + 1 then 0 else k - 1
parent_of (T branches) n k = (k - 1) / branches

-- the member that the i-th edge ends at: in order, but for the split ring, where the second half goes down
abbrev pub number_of : Top → ℕ → ℕ → ℕ
number_of S n i = if nat_lt (n / 2) i then n + n / 2 - i else i
number_of I n i = i
number_of D n i = i
number_of H n i = i
number_of F n i = i
number_of M n i = i
number_of (T branches) n i = i

-- the position of member k in the scope list: up from the source, or down for the decreasing ring
abbrev pub place_of : Top → ℕ → ℕ → ℕ → ℕ
place_of D n source k = (source + (n - k)) % n
place_of I n source k = (source + k) % n
place_of S n source k = (source + k) % n
place_of H n source k = (source + k) % n
place_of F n source k = (source + k) % n
place_of M n source k = (source + k) % n
place_of (T branches) n source k = (source + k) % n

-- the i-th edge, from 1
abbrev pub edge_of : Top → ℕ → ℕ → ℕ → ℕ × ℕ
edge_of top n source i = (place_of top n source (parent_of top n (number_of top n i)), place_of top n source (number_of top n i))

-- all edges, in sending order
abbrev pub edges_of : Top → ℕ → ℕ → List (ℕ × ℕ)
edges_of top n source = map (edge_of top n source) (range_with_len 1 (n - 1))

-- a tree has 1 to 9 branches
abbrev pub HasBranches : Top → Type 0
HasBranches (T branches) = (1 ≤ branches) × (branches ≤ 9)
HasBranches I = Unit {0}
HasBranches D = Unit {0}
HasBranches S = Unit {0}
HasBranches H = Unit {0}
HasBranches F = Unit {0}
HasBranches M = Unit {0}
