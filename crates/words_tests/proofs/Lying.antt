-- Regions in an array of a rank.
use Rattle.std.specs.Prelude.{◌≡◌, ℕ, zero, suc, Some, List, [], ◌∷◌, slice_get, map}
use Rattle.std.proofs.Common.{subst}
use Rattle.pack_words.specs.declared.region.Region.{Region}
use Rattle.pack_words.specs.LocalCells.{LocalCells}
use Rattle.pack_words.specs.declared.cut.Cut.{Cut}
use Rattle.pack_words.specs.Packing.{AllInArray, AllApart, NameOnce}
use Rattle.pack_words.specs.RankOps.{RankState, shapes, size_of, AreInArray}
use Rattle.pack_words.proofs.Once.{named_once}

in_sizes : (cs : List LocalCells) (a : ℕ) (c : LocalCells) (rs : List Region) → slice_get cs a ≡ Some c → AllInArray c rs → AreInArray (map size_of cs) a rs
in_sizes [] a c rs here lie = absurd cc
in_sizes (x ∷ xs) zero c rs here lie = let e : c ≡ x = cc in subst (λ (d : LocalCells). AllInArray d rs) e lie
in_sizes (x ∷ xs) (suc a) c rs here lie = in_sizes xs a c rs here lie

pub in_shapes : (s : RankState) (a : ℕ) (c : LocalCells) (rs : List Region) → slice_get s.arrays a ≡ Some c → AllInArray c rs → AreInArray (shapes s) a rs
in_shapes s a c rs here lie = in_sizes s.arrays a c rs here lie

pub once : (cut : Cut) (rs : List Region) → AllApart rs → NameOnce cut rs
once cut rs apart = named_once cut rs apart
