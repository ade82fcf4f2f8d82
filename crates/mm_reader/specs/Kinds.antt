-- The symmetries of the code as those of the definitions.
use Rattle.mm_grammar.specs.Symmetry as symmetry
use Rattle.mm_reader.specs.declared.symmetry.Symmetry.{Symmetry}
use Rattle.mm_reader.specs.declared.symmetry.Symmetry.TheVariants.{General, Symmetric, SkewSymmetric}

abbrev pub kind_of : Symmetry → symmetry.Symmetry
kind_of General = symmetry.General
kind_of Symmetric = symmetry.Symmetric
kind_of SkewSymmetric = symmetry.SkewSymmetric
