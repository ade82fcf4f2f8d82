-- A part that fits an array.
use Rattle.std.specs.Prelude.{◌≡◌, ℕ, true}
use Rattle.std.proofs.Common.{arith}
use Rattle.std.proofs.lemmas.Bool.Decides.{nat_tests}
use Rattle.pack_words.specs.declared.shape.Shape.{Shape}
use Rattle.pack_words.specs.Parts.{IsPartOf}
use Rattle.pack_words.proofs.PartLaws.{part_moved}
use Rattle.scope_ops.specs.declared.part.Part.{Part}
use Rattle.scope_ops.specs.Parts.{fits, cut_of}
use Rattle.scope_ops.specs.Ops.{Fits, IsGoodPart}

pub is_part : (size : ℕ × ℕ) (shape : Shape) (part : Part) → Fits size part → IsPartOf size (cut_of shape part) part.i part.j
is_part size shape part h = let f : fits size part ≡ true = h.fits_is in of f where
  of : fits size part ≡ true → IsPartOf size (cut_of shape part) part.i part.j
  of f = record { some_row = grind (arith, nat_tests); some_column = grind (arith, nat_tests); rows = grind (arith, nat_tests); columns = grind (arith, nat_tests) }

pub is_good : (size : ℕ × ℕ) (shape : Shape) (part : Part) → Fits size part → IsGoodPart shape part
is_good size shape part h = let p = is_part size shape part h in record {
  row = p.some_row;
  column = p.some_column;
  moved = part_moved size (cut_of shape part) part.i part.j h.size_is p;
}
