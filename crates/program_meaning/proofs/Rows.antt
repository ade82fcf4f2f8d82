-- Worked programs, each with what it leaves or with its first refused line.
use Rattle.std.proofs.Common.{◌≡◌, ℕ, suc, ℤ, pos, negsuc, List, [], ◌∷◌, ◌++◌, Option, Some, None, Result, Ok, Err, refl}
use Rattle.std.specs.Int.{int_wrap}
use Rattle.line_text.specs.Formats.{Refusal}
use Rattle.index_tools.specs.Spread.{below}
use Rattle.proc_grid.specs.FirstOf.{first_of}
use Rattle.proc_grid.specs.declared.world.Order.TheVariants.{R}
use Rattle.proc_grid.specs.declared.scope.Scope.TheVariants.{All}
use Rattle.proc_grid.specs.declared.grid_err.GridErr.TheVariants as grid_err
use Rattle.route_tree.specs.declared.top.Top.TheVariants.{I, H}
use Rattle.descriptor.specs.Bounds.{is_outside, starts_outside, some_below, has_bad_lld, lacks_grid}
use Rattle.descriptor.specs.Entries.{extent_entries, desc_entries, start_entries, matrix_entries, common_entries, is_bad_uplo, is_bad_diag}
use Rattle.mm_grammar.specs.Matrix.{Matrix as Cells}
use Rattle.pack_words.specs.LocalCells.{LocalCells}
use Rattle.pack_words.specs.Parts.{selected_elements, part_spots}
use Rattle.fold_ops.specs.FoldOf.{sum_of, greatest_of, least_of}
use Rattle.scope_ops.specs.Lines.{sent_line, given_to, broadcast_line}
use Rattle.scope_ops.specs.Combines.{combine_line}
use Rattle.scope_ops.specs.declared.scope_err.ScopeErr.TheVariants as scope_err
use Rattle.mr2d.specs.Moves.{moved_for}
use Rattle.grid_lang.specs.declared.line.Area.{Area}
use Rattle.grid_lang.specs.declared.line.Line.{Line}
use Rattle.grid_lang.specs.declared.line.Line.TheVariants.{Load, Ranks, Grid, Map, Array, Matrix, Fill, Send, Recv, Bcast, Sum, Amx, Amn, Barrier, Gemr2d, Trmr2d, PrintMatrix}
use Rattle.grid_lang.specs.declared.line.Numbered.{Numbered}
use Rattle.program_meaning.specs.declared.fault.ExecFault.{ExecFault}
use Rattle.program_meaning.specs.declared.fault.ExecFault.TheVariants as fault
use Rattle.program_meaning.specs.ProgramState.{ProgramState}
use Rattle.program_meaning.specs.Filling.{with_written}
use Rattle.program_meaning.specs.Declarations.{with_array, spread_of}
use Rattle.move_numbers.specs.MoveNumbers.{move_messages, move_copies, move_words}
use Rattle.program_meaning.specs.Exchanges.{send_exchange, receive_exchange, broadcast_exchange, combine_exchange, barrier_exchange, move_exchange}
use Rattle.program_meaning.specs.Programs.{line_done, program_done, no_loads}

-- lines with their numbers, from one on
abbrev numbered : ℕ → List Line → List Numbered
numbered n [] = []
numbered n (l ∷ more) = record { number = n; line = l } ∷ numbered (suc n) more

-- ranks, operations, messages and words
abbrev Numbers : Type 0
Numbers = ℕ × ℕ × ℕ × ℕ

abbrev numbers_of : Result ProgramState (Refusal ExecFault) → Result Numbers (Refusal ExecFault)
numbers_of (Ok s) = Ok (s.shapes.ranks, s.operations, s.messages, s.words)
numbers_of (Err refusal) = Err refusal

abbrev arrays_of : Result ProgramState (Refusal ExecFault) → List (List LocalCells)
arrays_of (Ok s) = s.state.arrays
arrays_of (Err refusal) = []

abbrev checked : List Line → Result Numbers (Refusal ExecFault)
checked lines = numbers_of (program_done no_loads (numbered 1 lines))

abbrev ran : List Line → List (List LocalCells)
ran lines = arrays_of (program_done no_loads (numbered 1 lines))

abbrev passes : ℕ → ℕ → ℕ → ℕ → Result Numbers (Refusal ExecFault)
passes ranks operations messages words = Ok (ranks, operations, messages, words)

abbrev fails : ℕ → ExecFault → Result Numbers (Refusal ExecFault)
fails line what = Err (record { line = line; fault = what })

abbrev one : ℕ → Area
one array = record { array = array; i = 1; j = 1; m = 1; n = 1 }

abbrev area : ℕ → ℕ → ℕ → Area
area array m n = record { array = array; i = 1; j = 1; m = m; n = n }

abbrev cells : ℕ → ℕ → List ℤ → LocalCells
cells lld cols words = record { lld = lld; cols = cols; words = words }

-- two ranks, and so many arrays of one word
abbrev two_ranks : List Line
two_ranks = Ranks 2 ∷ Grid R 1 2 ∷ []

abbrev word : Line
word = Matrix [] 1 1

-- -5 on rank 0 and 5 on rank 1: to all, the greatest absolute value is that of the first, and rank 0 holds it
abbrev greatest : List Line
greatest = two_ranks ++ word ∷ word ∷ word ∷ Fill 0 (negsuc 4) (pos 0) (pos 0) (pos 10) ∷ Amx 0 All H None (one 0) (Some (1, 2)) ∷ []

greatest_numbers : checked greatest ≡ passes 2 8 2 10
unfolding program_done line_done with_array with_written combine_exchange first_of
greatest_numbers = refl

greatest_words : ran greatest ≡ (let mine : List LocalCells = cells 1 1 (negsuc 4 ∷ []) ∷ cells 1 1 (pos 0 ∷ []) ∷ cells 1 1 (pos 0 ∷ []) ∷ [] in mine ∷ mine ∷ [])
unfolding int_wrap program_done line_done with_array with_written combine_exchange combine_line given_to selected_elements part_spots first_of greatest_of
greatest_words = refl

-- the least takes the first of two as well
least_words : ran (two_ranks ++ word ∷ Fill 0 (negsuc 4) (pos 0) (pos 0) (pos 10) ∷ Amn 0 All H None (one 0) None ∷ []) ≡ (let mine : List LocalCells = cells 1 1 (negsuc 4 ∷ []) ∷ [] in mine ∷ mine ∷ [])
unfolding int_wrap program_done line_done with_array with_written combine_exchange combine_line given_to selected_elements part_spots first_of least_of
least_words = refl

-- a sum wraps; a member that is no destination keeps its word
sum_words : ran (two_ranks ++ word ∷ Fill 0 (pos 2147483647) (pos 0) (pos 0) (negsuc 2147483645) ∷ Sum 0 All H (Some (0, 0)) (one 0) ∷ []) ≡ (cells 1 1 (negsuc 2147483647 ∷ []) ∷ []) ∷ (cells 1 1 (pos 1 ∷ []) ∷ []) ∷ []
unfolding int_wrap program_done line_done with_array with_written combine_exchange combine_line given_to selected_elements part_spots first_of sum_of
sum_words = refl

-- rank 3's word to all five
abbrev spreads_three : List Line
spreads_three = Ranks 5 ∷ Grid R 1 5 ∷ word ∷ Fill 0 (pos 0) (pos 0) (pos 0) (pos 1) ∷ Bcast 0 All I 0 3 (one 0) None ∷ PrintMatrix 0 4 ∷ []

broadcast_numbers : checked spreads_three ≡ passes 5 8 4 9
unfolding program_done line_done with_array with_written broadcast_exchange selected_elements part_spots first_of
broadcast_numbers = refl

broadcast_words : ran spreads_three ≡ (let mine : List LocalCells = cells 1 1 (pos 3 ∷ []) ∷ [] in mine ∷ mine ∷ mine ∷ mine ∷ mine ∷ [])
unfolding int_wrap program_done line_done with_array with_written broadcast_exchange broadcast_line given_to selected_elements part_spots first_of
broadcast_words = refl

-- a receive that finds no message, one that finds another length, and a collective while a message waits
no_message : checked (two_ranks ++ Matrix [] 2 3 ∷ Recv 0 0 1 (area 0 2 3) 0 0 None ∷ Send 0 0 0 (area 0 2 3) 0 1 None ∷ []) ≡ fails 4 (fault.Scope (scope_err.NoMessage 0 1))
unfolding program_done line_done with_array receive_exchange selected_elements part_spots
no_message = refl

other_length : checked (two_ranks ++ Matrix [] 2 3 ∷ Send 0 0 0 (area 0 2 3) 0 1 None ∷ Recv 0 0 1 (area 0 2 2) 0 0 None ∷ []) ≡ fails 5 (fault.Scope (scope_err.WrongLength 6 4))
unfolding program_done line_done with_array send_exchange receive_exchange sent_line selected_elements part_spots
other_length = refl

still_waits : checked (two_ranks ++ word ∷ Send 0 0 1 (one 0) 0 0 None ∷ Barrier 0 All ∷ []) ≡ fails 5 (fault.Waiting 1 0)
unfolding program_done line_done with_array send_exchange barrier_exchange sent_line selected_elements part_spots
still_waits = refl

-- what a rank sent to itself runs into no barrier
own_message : checked (two_ranks ++ word ∷ Send 0 0 1 (one 0) 0 1 None ∷ Barrier 0 All ∷ []) ≡ passes 2 5 3 3
unfolding program_done line_done with_array send_exchange barrier_exchange sent_line selected_elements part_spots
own_message = refl

barrier_numbers : checked (two_ranks ++ Barrier 0 All ∷ []) ≡ passes 2 4 2 0
unfolding program_done line_done barrier_exchange
barrier_numbers = refl

-- arrays of a combine
same_array : checked (Ranks 1 ∷ Grid R 1 1 ∷ Matrix [] 2 2 ∷ Matrix [] 2 2 ∷ Amx 0 All H (Some (0, 0)) (area 0 2 2) (Some (1, 1)) ∷ []) ≡ fails 5 (fault.Scope scope_err.SameArray)
unfolding program_done line_done with_array combine_exchange first_of
same_array = refl

low_lead : checked (Ranks 1 ∷ Grid R 1 1 ∷ Matrix [] 2 2 ∷ Matrix [] 1 2 ∷ Matrix [] 2 2 ∷ Amx 0 All H (Some (0, 0)) (area 0 2 2) (Some (1, 2)) ∷ []) ≡ fails 6 (fault.Scope (scope_err.BadRcLead 1 2))
unfolding program_done line_done with_array combine_exchange first_of
low_lead = refl

-- a grid that needs more ranks, and too many words, counted before any is there
large_grid : checked (Ranks 2 ∷ Grid R 2 2 ∷ []) ≡ fails 2 (fault.Grid (grid_err.TooMany 4 2))
unfolding program_done line_done
large_grid = refl

-- ---- moves

abbrev square : ℕ → Option ℤ → Line
square grid lld = Array [] grid (pos 2) (pos 2) (pos 2) (pos 2) (pos 0) (pos 0) lld

abbrev whole_square : ℕ → Line
whole_square grid = Gemr2d (record { m = pos 2; n = pos 2; a = 0; ia = pos 1; ja = pos 1; b = 1; ib = pos 1; jb = pos 1; grid = grid })

-- from rank 0 to rank 1, whose array has leading dimension 5; padding stays
abbrev apart : ℕ → List Line
apart common = Ranks 2 ∷ Map 1 1 (0 ∷ []) ∷ Map 1 1 (1 ∷ []) ∷ Grid R 1 2 ∷ square 0 None ∷ square 1 (Some (pos 5)) ∷ Fill 0 (pos 1) (pos 1) (pos 10) (pos 0) ∷ Fill 1 (pos 0) (pos 0) (pos 0) (pos 7) ∷ whole_square common ∷ []

apart_numbers : checked (apart 2) ≡ passes 2 2 1 18
unfolding program_done line_done with_array with_written spread_of move_exchange move_messages move_copies move_words below first_of is_outside starts_outside some_below has_bad_lld lacks_grid extent_entries desc_entries start_entries matrix_entries common_entries
apart_numbers = refl

apart_words : ran (apart 2) ≡ (cells 2 2 (pos 1 ∷ pos 2 ∷ pos 11 ∷ pos 12 ∷ []) ∷ cells 1 0 [] ∷ []) ∷ (cells 1 0 [] ∷ cells 5 2 (pos 1 ∷ pos 2 ∷ pos 7 ∷ pos 7 ∷ pos 7 ∷ pos 11 ∷ pos 12 ∷ pos 7 ∷ pos 7 ∷ pos 7 ∷ []) ∷ []) ∷ []
unfolding program_done line_done with_array with_written spread_of move_exchange move_messages move_copies move_words moved_for int_wrap below first_of is_outside starts_outside some_below has_bad_lld lacks_grid extent_entries desc_entries start_entries matrix_entries common_entries
apart_words = refl

-- a common context that lacks rank 1
lacks_one : checked (apart 0) ≡ fails 9 (fault.Info (record { 0 = negsuc 10 }))
unfolding program_done line_done with_array with_written spread_of move_exchange move_messages move_copies move_words below first_of is_outside starts_outside some_below has_bad_lld lacks_grid extent_entries desc_entries start_entries matrix_entries common_entries
lacks_one = refl

-- trapezoids of 3 by 2 on one rank
abbrev tall : Line
tall = Array [] 0 (pos 3) (pos 2) (pos 3) (pos 2) (pos 0) (pos 0) None

abbrev on_one_rank : Line → List Line
on_one_rank line = Ranks 1 ∷ Grid R 1 1 ∷ tall ∷ tall ∷ Fill 0 (pos 1) (pos 1) (pos 10) (pos 0) ∷ line ∷ []

abbrev trapezoid : ℕ → ℕ → Line
trapezoid uplo diag = Trmr2d uplo diag (record { m = pos 3; n = pos 2; a = 0; ia = pos 1; ja = pos 1; b = 1; ib = pos 1; jb = pos 1; grid = 0 })

-- UN
upper_words : ran (on_one_rank (trapezoid 85 78)) ≡ (cells 3 2 (pos 1 ∷ pos 2 ∷ pos 3 ∷ pos 11 ∷ pos 12 ∷ pos 13 ∷ []) ∷ cells 3 2 (pos 1 ∷ pos 2 ∷ pos 0 ∷ pos 11 ∷ pos 12 ∷ pos 13 ∷ []) ∷ []) ∷ []
unfolding program_done line_done with_array with_written spread_of move_exchange move_messages move_copies move_words moved_for int_wrap below first_of is_outside starts_outside some_below has_bad_lld lacks_grid extent_entries desc_entries start_entries matrix_entries common_entries is_bad_uplo is_bad_diag
upper_words = refl

-- one copy, no message
upper_numbers : checked (on_one_rank (trapezoid 85 78)) ≡ passes 1 1 0 12
unfolding program_done line_done with_array with_written spread_of move_exchange move_messages move_copies move_words below first_of is_outside starts_outside some_below has_bad_lld lacks_grid extent_entries desc_entries start_entries matrix_entries common_entries is_bad_uplo is_bad_diag
upper_numbers = refl

-- XN
no_triangle : checked (on_one_rank (trapezoid 88 78)) ≡ fails 6 (fault.Info (record { 0 = negsuc 0 }))
unfolding program_done line_done with_array with_written spread_of move_exchange move_messages move_copies move_words below first_of is_outside starts_outside some_below has_bad_lld lacks_grid extent_entries desc_entries start_entries matrix_entries common_entries is_bad_uplo is_bad_diag
no_triangle = refl

to_itself : checked (on_one_rank (Gemr2d (record { m = pos 3; n = pos 2; a = 0; ia = pos 1; ja = pos 1; b = 0; ib = pos 1; jb = pos 1; grid = 0 }))) ≡ fails 6 fault.SameArray
unfolding program_done line_done with_array with_written spread_of move_exchange move_messages move_copies move_words below first_of is_outside starts_outside some_below has_bad_lld lacks_grid extent_entries desc_entries start_entries matrix_entries common_entries
to_itself = refl

-- NB of 0 is refused where the array is declared
no_block : checked (Ranks 1 ∷ Grid R 1 1 ∷ tall ∷ Array [] 0 (pos 3) (pos 2) (pos 3) (pos 0) (pos 0) (pos 0) None ∷ []) ≡ fails 4 (fault.Info (record { 0 = negsuc 4 }))
unfolding program_done line_done with_array spread_of below first_of is_outside
no_block = refl

-- arrays at the limit, and one word above it
at_the_limit : checked (Ranks 64 ∷ Matrix [] 1024 1024 ∷ []) ≡ passes 64 0 0 67108864
unfolding program_done line_done with_array
at_the_limit = refl

above_the_limit : checked (Ranks 64 ∷ Matrix [] 1024 1024 ∷ Grid R 1 2 ∷ Barrier 0 All ∷ Matrix [] 1 1 ∷ []) ≡ fails 5 (fault.TooLarge 67108928)
unfolding program_done line_done with_array barrier_exchange
above_the_limit = refl

-- ---- files

-- a file of 2 by 2 into an array whose leading dimension is 3: padding stays, and 3 by 2 is another size
abbrev held : Cells
held = record { rows = 2; columns = 2; values = pos 1 ∷ pos 2 ∷ pos 3 ∷ pos 4 ∷ [] }

abbrev loaded : ℤ → Result ProgramState (Refusal ExecFault)
loaded rows = program_done (λ file. Some held) (numbered 1 (Ranks 1 ∷ Grid R 1 1 ∷ Array [] 0 rows (pos 2) (pos 3) (pos 2) (pos 0) (pos 0) (Some (pos 3)) ∷ Fill 0 (pos 0) (pos 0) (pos 0) (pos 7) ∷ Load 0 [] ∷ []))

loaded_words : arrays_of (loaded (pos 2)) ≡ (cells 3 2 (pos 1 ∷ pos 2 ∷ pos 7 ∷ pos 3 ∷ pos 4 ∷ pos 7 ∷ []) ∷ []) ∷ []
unfolding program_done line_done with_array with_written spread_of int_wrap below first_of is_outside
loaded_words = refl

other_size : numbers_of (loaded (pos 3)) ≡ fails 5 (fault.Size 2 2 3 2)
unfolding program_done line_done with_array with_written spread_of int_wrap below first_of is_outside
other_size = refl
