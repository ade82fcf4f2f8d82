-- Worked programs, each with its lines or its fault.
use Rattle.std.proofs.Common.{◌≡◌, ℕ, ◌+◌, pos, negsuc, List, [], ◌∷◌, ◌++◌, codes, Some, None, Result, Ok, Err, refl, replicate}
use Rattle.line_text.specs.Lines.{split_lines, without_return, text_of_lines}
use Rattle.line_text.specs.Words.{parts, not_empty}
use Rattle.line_text.specs.Numbers.{digits_number, signed_number}
use Rattle.line_text.specs.Formats.{Refusal, read_on, read_text}
use Rattle.proc_grid.specs.declared.world.Order.TheVariants.{R}
use Rattle.proc_grid.specs.declared.scope.Scope.TheVariants.{Row, Column, All}
use Rattle.route_tree.specs.declared.top.Top.TheVariants as top
use Rattle.grid_lang.specs.declared.fault.LangFault.{LangFault}
use Rattle.grid_lang.specs.declared.fault.LangFault.TheVariants as fault
use Rattle.grid_lang.specs.declared.line.Area.{Area}
use Rattle.grid_lang.specs.declared.line.Line.{Line}
use Rattle.grid_lang.specs.declared.line.Line.TheVariants.{Ranks, Grid, Map, Array, Matrix, Fill, Send, Bcast, Sum, Amx, Barrier, Gemr2d, Trmr2d, SavePieces, PrintArray, PrintMatrix}
use Rattle.grid_lang.specs.declared.line.Numbered.{Numbered}
use Rattle.pack_words.specs.declared.uplo.Uplo.TheVariants.{Upper}
use Rattle.pack_words.specs.declared.diag.Diag.TheVariants as diag
use Rattle.grid_lang.specs.WordKinds.{integer, number, rank_below, is_name, new_name, order, topology, uplo, diag as diag_word, character, scope_of, scope, pieces, grid, array, matrix, either, any_word}
use Rattle.grid_lang.specs.Kinds.{area, destination, lead, triangle, places, numbers}
use Rattle.grid_lang.specs.Table.{keyword_of, line_of}
use Rattle.grid_lang.specs.Programs.{step, grid_format}

-- lines that stand on the lines from this number on
abbrev from : ℕ → List Line → List Numbered
from n [] = []
from n (line ∷ more) = record { number = n; line = line } ∷ from (n + 1) more

abbrev is_program : List Line → Result (List Numbered) (Refusal LangFault)
is_program said = Ok (from 1 said)

abbrev bad : ℕ → LangFault → Result (List Numbered) (Refusal LangFault)
bad n fault = Err (record { line = n; fault = fault })

-- each text of the table is read to the answer beside it
abbrev AllRead : List (List (List ℕ) × Result (List Numbered) (Refusal LangFault)) → Type 0
AllRead [] = Unit {0}
AllRead (row ∷ rows) = (read_text grid_format (text_of_lines row.0) ≡ row.1) × AllRead rows

abbrev part : ℕ → ℕ → ℕ → ℕ → ℕ → Area
part array i j m n = record { array = array; i = i; j = j; m = m; n = n }

-- a move between disjoint grids
abbrev disjoint : List (List ℕ)
disjoint =
    codes "RANKS 2" ∷ codes "MAP g 1 1 0" ∷ codes "MAP h 1 1 1" ∷ codes "GRID w R 1 2" ∷ codes "ARRAY a g 2 2 2 2 0 0" ∷ codes "ARRAY b h 2 2 2 2 0 0 5"
    ∷ codes "FILL a 1 1 10 0" ∷ codes "FILL b 0 0 0 7" ∷ codes "GEMR2D 2 2 a 1 1 b 1 1 w" ∷ codes "SAVE b t PIECES" ∷ codes "PRINT b" ∷ []

abbrev disjoint_lines : List Line
disjoint_lines =
    Ranks 2 ∷ Map 1 1 (0 ∷ []) ∷ Map 1 1 (1 ∷ []) ∷ Grid R 1 2
    ∷ Array (codes "a") 0 (pos 2) (pos 2) (pos 2) (pos 2) (pos 0) (pos 0) None
    ∷ Array (codes "b") 1 (pos 2) (pos 2) (pos 2) (pos 2) (pos 0) (pos 0) (Some (pos 5))
    ∷ Fill 0 (pos 1) (pos 1) (pos 10) (pos 0) ∷ Fill 1 (pos 0) (pos 0) (pos 0) (pos 7)
    ∷ Gemr2d (record { m = pos 2; n = pos 2; a = 0; ia = pos 1; ja = pos 1; b = 1; ib = pos 1; jb = pos 1; grid = 2 })
    ∷ SavePieces 1 (codes "t") ∷ PrintArray 1 ∷ []

abbrev ring : List (List ℕ)
ring = codes "RANKS 2" ∷ codes "GRID w R 1 2" ∷ codes "MATRIX v 1 1" ∷ []

abbrev ring_lines : List Line
ring_lines = Ranks 2 ∷ Grid R 1 2 ∷ Matrix (codes "v") 1 1 ∷ []

abbrev program_rows : List (List (List ℕ) × Result (List Numbered) (Refusal LangFault))
program_rows =
    (disjoint, is_program disjoint_lines)
    ∷ (ring ++ codes "SEND w 0 0 v 1 1 1 1 0 1" ∷ codes "BARRIER w A" ∷ [], is_program (ring_lines ++ Send 0 0 0 (part 0 1 1 1 1) 0 1 None ∷ Barrier 0 All ∷ []))
    ∷ (codes "RANKS 2" ∷ codes "GRID w R 2 2" ∷ [], is_program (Ranks 2 ∷ Grid R 2 2 ∷ []))
    ∷ (
      ring ++ codes "fill v -5 0 0 10" ∷ codes "MATRIX r 1 1" ∷ codes "MATRIX c 1 1" ∷ codes "AMX w A H -1 0 v 1 1 1 1 r c" ∷ [],
      is_program (ring_lines ++ Fill 0 (negsuc 4) (pos 0) (pos 0) (pos 10) ∷ Matrix (codes "r") 1 1 ∷ Matrix (codes "c") 1 1 ∷ Amx 0 All top.H None (part 0 1 1 1 1) (Some (1, 2)) ∷ []),
    )
    ∷ (
      ring ++ codes "BCAST w r0 - 0 1 v 1 1 1 1 u n" ∷ codes "SUM w C1 3 0 0 v 1 1 1 1" ∷ codes "PRINT v 1" ∷ [],
      is_program (ring_lines ++ Bcast 0 (Row 0) top.H 0 1 (part 0 1 1 1 1) (Some (Upper, diag.N)) ∷ Sum 0 (Column 1) (top.T 3) (Some (0, 0)) (part 0 1 1 1 1) ∷ PrintMatrix 0 1 ∷ []),
    )
    ∷ (
      codes "RANKS 1" ∷ codes "GRID w R 1 1" ∷ codes "ARRAY a w 3 2 3 2 0 0" ∷ codes "ARRAY b w 3 2 3 2 0 0" ∷ codes "TRMR2D X N 3 2 a 1 1 b 1 1 w" ∷ [],
      is_program (Ranks 1 ∷ Grid R 1 1 ∷ Array (codes "a") 0 (pos 3) (pos 2) (pos 3) (pos 2) (pos 0) (pos 0) None ∷ Array (codes "b") 0 (pos 3) (pos 2) (pos 3) (pos 2) (pos 0) (pos 0) None
          ∷ Trmr2d 88 78 (record { m = pos 3; n = pos 2; a = 0; ia = pos 1; ja = pos 1; b = 1; ib = pos 1; jb = pos 1; grid = 0 }) ∷ []),
    )
    ∷ []

programs : AllRead program_rows
unfolding read_on split_lines without_return parts not_empty digits_number signed_number integer number rank_below is_name new_name order topology uplo diag_word character scope_of scope pieces grid array matrix either any_word area destination lead triangle places numbers keyword_of line_of step
programs = (refl, (refl, (refl, (refl, (refl, (refl, tt))))))

-- Faults, each at its line.
abbrev fault_rows : List (List (List ℕ) × Result (List Numbered) (Refusal LangFault))
fault_rows =
    ([], bad 1 fault.Order)
    ∷ (codes "# nothing" ∷ [] ∷ codes "  # more" ∷ [], bad 4 fault.Order)
    ∷ (codes "RANKS 2" ∷ codes "RANKS 2" ∷ [], bad 2 fault.Order)
    ∷ (codes "RANKS 65" ∷ [], bad 1 fault.Limit)
    ∷ (codes "RANKS 0" ∷ [], bad 1 fault.Limit)
    ∷ (codes "RANKS -0" ∷ [], bad 1 fault.Limit)
    ∷ (codes "RANKS -1" ∷ [], bad 1 fault.Number)
    ∷ (codes "RANKS +3" ∷ codes "GRID 9g R 1 1" ∷ [], bad 2 fault.Name)
    ∷ (codes "RANKS 1" ∷ codes "GRID 9g R 1 1" ∷ [], bad 2 fault.Name)
    ∷ (codes "RANKS 1" ∷ codes "MAP 9g 1 1" ∷ [], bad 2 fault.Words)
    ∷ (codes "RANKS 1" ∷ codes "MAP 9g x 1 0" ∷ [], bad 2 fault.Name)
    ∷ (codes "RANKS 1" ∷ codes "MAP g x 1" ∷ [], bad 2 fault.Number)
    ∷ (codes "RANKS 1" ∷ codes "MAP g x" ∷ [], bad 2 fault.Words)
    ∷ (ring ++ codes "PRINT" ∷ [], bad 4 fault.Words)
    ∷ (ring ++ codes "PRINT nope 1 2 3" ∷ [], bad 4 fault.Name)
    ∷ (ring ++ codes "PRINT v" ∷ [], bad 4 fault.Words)
    ∷ (ring ++ codes "PRINT v 2" ∷ [], bad 4 fault.Number)
    ∷ (ring ++ codes "MATRIX w 1 1" ∷ [], bad 4 fault.Twice)
    ∷ (ring ++ codes "SEND w 0 0 v 1 1 1 1 0" ∷ [], bad 4 fault.Words)
    ∷ (ring ++ codes "SEND v 0 0 v 1 1 1 1 0 1" ∷ [], bad 4 fault.Name)
    ∷ (ring ++ codes "SEND w 0 0 v 1 1 1 1 0 1 X N" ∷ [], bad 4 fault.Unknown)
    ∷ (ring ++ codes "BARRIER w A" ∷ codes "MATRIX u 1 1" ∷ [], bad 5 fault.Order)
    ∷ (ring ++ codes "SUM w A H -2 0 v 1 1 1 1" ∷ [], bad 4 fault.Number)
    ∷ (ring ++ codes "SUM w A H -1 x v 1 1 1 1" ∷ [], bad 4 fault.Number)
    ∷ (ring ++ codes "SUM w A- H -1 x v 1 1 1 1" ∷ [], bad 4 fault.Unknown)
    ∷ (ring ++ codes "JUMP w" ∷ [], bad 4 fault.Unknown)
    ∷ (ring ++ (11 ∷ codes "# no comment") ∷ [], bad 4 fault.NotText)
    ∷ (ring ++ (35 ∷ replicate 1024 200) ∷ [], bad 4 fault.Limit)
    ∷ []

faults : AllRead fault_rows
unfolding read_on split_lines without_return parts not_empty digits_number signed_number integer number rank_below is_name new_name order topology uplo diag_word character scope_of scope pieces grid array matrix either any_word area destination lead triangle places numbers keyword_of line_of step
faults =
    (refl, (refl, (refl, (refl, (refl, (refl, (refl, (refl, (refl, (refl, (refl, (refl, (refl, (refl, (refl, (refl, (refl, (refl, (refl, (refl, (refl, (refl, (refl, (refl, (refl, (refl, (refl, (refl, tt))))))))))))))))))))))))))))
