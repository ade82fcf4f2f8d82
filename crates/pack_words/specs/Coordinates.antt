-- Where a process stands in its grid, by its place in a scope. A User's Guide to the BLACS, "Scope" and IGAMX2D.
use Rattle.std.specs.Prelude.{ℕ, ◌<◌, ◌/◌, ◌%◌, ℤ}
use Rattle.std.specs.Int.{w32, cast_signed}
use Rattle.proc_grid.specs.declared.scope.Scope.{Scope}
use Rattle.proc_grid.specs.declared.scope.Scope.TheVariants.{Row, Column, All}
use Rattle.fold_ops.specs.declared.held.Held.{Held}
use Rattle.pack_words.specs.declared.coords.Coords.{Coords}
use Rattle.pack_words.specs.declared.written.Written.{Written}
use Rattle.pack_words.specs.declared.written.Written.TheVariants.{Value, RowOf, ColumnOf}

-- row and column of the process at place k of a scope, in a grid of so many columns, by rows
abbrev pub place_in_grid : Scope → ℕ → ℕ → ℕ × ℕ
place_in_grid All npcol k = (k / npcol, k % npcol)
place_in_grid (Row p) npcol k = (p, k)
place_in_grid (Column q) npcol k = (k, q)

abbrev pub coord_place : Coords → ℕ → ℕ × ℕ
coord_place c k = place_in_grid c.scope c.npcol k

-- the row of the member that held the element, and its column, each as the i32 of the same 32 bits
abbrev pub row_word : Coords → Held → ℤ
row_word c h = cast_signed w32 (coord_place c h.place).0

abbrev pub column_word : Coords → Held → ℤ
column_word c h = cast_signed w32 (coord_place c h.place).1

-- the word that is written for an element of the accumulator
abbrev pub written_word : Written → Held → ℤ
written_word Value h = h.value
written_word (RowOf c) h = row_word c h
written_word (ColumnOf c) h = column_word c h

-- coordinates are written only of grids with a column
abbrev pub HasColumns : Written → Type 0
HasColumns Value = Unit {0}
HasColumns (RowOf c) = 0 < c.npcol
HasColumns (ColumnOf c) = 0 < c.npcol
