-- The numbers of the job.
use Rattle.std.specs.Prelude.{◌≡◌, ℕ, zero, suc, ◌+◌, ◌*◌, ◌^◌, ◌≤◌, Bool, true, false, cond, ℤ, List, length, count_by, not, nat_lt, ◌==◌, ◌&&◌}
use Rattle.std.proofs.Common.{sym, ap, ap₂, ◌∙◌, subst, refl, arith}
use Rattle.std.proofs.lemmas.List.Sums.{count_by-le-length}
use Rattle.block_meet.specs.Meets.{rows_of, columns_of}
use Rattle.mr2d.specs.Sides.{side_of}
use Rattle.block_meet.specs.declared.axis.Axis.{Axis}
use Rattle.block_meet.specs.Numbers.{run_number, run_count, in_one_pair}
use Rattle.mm_grammar.specs.Matrix.{Matrix}
use Rattle.mr2d.specs.Moves.{Move}
use Rattle.mr2d.specs.Plans.{pairs}
use Rattle.descriptor.specs.declared.moves.Moved.{Moved}
use Rattle.move_numbers.specs.MoveNumbers.{move_messages, move_copies, going}
use Rattle.piece_moves.specs.Distribution.{Distribution}
use Rattle.piece_moves.specs.PieceMove.{move_for}
use Rattle.piece_moves.specs.Numbers.{meets_of_whole, numbers_for}
use Rattle.fold_ops.specs.Fold.{total}
use Rattle.piece_grammar.specs.Head.{Piece}
use Rattle.piece_file.specs.Gathering.{AreTurns}
use Rattle.piece_moves.specs.PieceMove.{move_words}
use Rattle.piece_moves.specs.Planning.{IsDistribution}
use Rattle.drawn_jobs.specs.Dealing.{pieces_of, whole_of}
use Rattle.drawn_jobs.specs.Jobs.{drawn_matrix, drawn_sum, first_grid, second_grid, move_there, move_back, numbers_of, job_meets, job_messages, job_copies, IsLoaded}
use Rattle.drawn_jobs.specs.declared.job.Loaded.{Loaded}
use Rattle.drawn_jobs.proofs.DrawnLaws.{drawn_length}
use Rattle.drawn_jobs.proofs.SizeLaws.{first_few, second_few}
use Rattle.drawn_jobs.proofs.DealtLaws.{IsSquare, pieces_turn, few_move, whole_is}

-- the same move with other numbers and leading dimensions of its arrays
abbrev renamed : Move → (a b : ℕ) → (f g : ℕ → ℕ → ℕ) → Move
renamed mv a b f g = record mv { a = record mv.a { array = a; llds = f }; b = record mv.b { array = b; llds = g } }

messages_same : (mv : Move) (a b : ℕ) (f g : ℕ → ℕ → ℕ) → move_messages mv 16 ≡ move_messages (renamed mv a b f g) 16
unfolding move_messages
messages_same mv a b f g = refl

copies_same : (mv : Move) (a b : ℕ) (f g : ℕ → ℕ → ℕ) → move_copies mv 16 ≡ move_copies (renamed mv a b f g) 16
unfolding move_copies
copies_same mv a b f g = refl

moved_is : (x y z u v w : ℕ) → x ≡ u → y ≡ v → z ≡ w → (let m : Moved = record { meets = x; messages = y; copies = z } in m) ≡ record { meets = u; messages = v; copies = w }
moved_is x y z u v w e f g = rw (e, f, g) refl

-- a square matrix of these values
abbrev square : ℕ → List ℤ → Matrix
square size vs = record { rows = size; columns = size; values = vs }

there_numbers : (size : ℕ) (vs : List ℤ) → numbers_for (pieces_of first_grid (square size vs)) second_grid ≡ numbers_of (move_there size)
unfolding first_grid second_grid
there_numbers size vs =
    let mv : Move = move_for (pieces_of first_grid (square size vs)) second_grid in
    moved_is _ _ _ (meets_of_whole (move_there size)) (move_messages (move_there size) 16) (move_copies (move_there size) 16) refl (sym (messages_same (move_there size) 0 1 mv.a.llds mv.b.llds)) (sym (copies_same (move_there size) 0 1 mv.a.llds mv.b.llds))

back_numbers : (size : ℕ) (vs : List ℤ) → numbers_for (pieces_of second_grid (square size vs)) first_grid ≡ numbers_of (move_back size)
unfolding first_grid second_grid
back_numbers size vs =
    let mv : Move = move_for (pieces_of second_grid (square size vs)) first_grid in
    moved_is _ _ _ (meets_of_whole (move_back size)) (move_messages (move_back size) 16) (move_copies (move_back size) 16) refl (sym (messages_same (move_back size) 0 1 mv.a.llds mv.b.llds)) (sym (copies_same (move_back size) 0 1 mv.a.llds mv.b.llds))

-- ---- how large the numbers are

number_low : (a b : Axis) (i : ℕ) → run_number a b i ≤ i
unfolding run_number
number_low a b zero = omega arith
number_low a b (suc i) = by (in_one_pair a b i (suc i)) (number_low a b i)
  where
    by : (t : Bool) → run_number a b i ≤ i → run_number a b i + cond t 0 1 ≤ suc i
    by true le = omega (arith, le)
    by false le = omega (arith, le)

count_low : (a b : Axis) (n : ℕ) → run_count a b n ≤ n
count_low a b zero = omega arith
count_low a b (suc i) = let le = number_low a b i in omega (arith, le)

counted : (p : ℕ × ℕ → Bool) (ps : List (ℕ × ℕ)) → length ps ≡ 256 → count_by p ps ≤ 256
counted p ps all = let le = count_by-le-length p ps in omega (arith, le, all)

few_messages : (mv : Move) → move_messages mv 16 ≤ 256
unfolding move_messages
few_messages mv = counted (λ (p : ℕ × ℕ). nat_lt 0 (going mv p) && not (p.0 == p.1)) (pairs 16) refl

few_copies : (mv : Move) → move_copies mv 16 ≤ 256
unfolding move_copies
few_copies mv = counted (λ (p : ℕ × ℕ). nat_lt 0 (going mv p) && (p.0 == p.1)) (pairs 16) refl

-- at most one meet for each element
few_meets : (mv : Move) → mv.cut.m ≤ 2000 → mv.cut.n ≤ 2000 → meets_of_whole mv ≤ 4000000
few_meets mv rows columns =
    product (run_count (rows_of (side_of mv.a) mv.ia) (rows_of (side_of mv.b) mv.ib) mv.cut.m) (run_count (columns_of (side_of mv.a) mv.ja) (columns_of (side_of mv.b) mv.jb) mv.cut.n) mv.cut.m mv.cut.n
    (count_low (rows_of (side_of mv.a) mv.ia) (rows_of (side_of mv.b) mv.ib) mv.cut.m) (count_low (columns_of (side_of mv.a) mv.ja) (columns_of (side_of mv.b) mv.jb) mv.cut.n) rows columns
  where
    product : (a b m n : ℕ) → a ≤ m → b ≤ n → m ≤ 2000 → n ≤ 2000 → a * b ≤ 4000000
    product a b m n ha hb hm hn = grind arith

-- ---- the job, step by step

is_first : IsDistribution first_grid
unfolding first_grid
is_first = record { rows = omega arith; few_rows = omega arith; columns = omega arith; few_columns = omega arith; grid = omega arith; row_block = omega arith; row_block_fits = omega arith; column_block = omega arith; column_block_fits = omega arith }

is_second : IsDistribution second_grid
unfolding second_grid
is_second = record { rows = omega arith; few_rows = omega arith; columns = omega arith; few_columns = omega arith; grid = omega arith; row_block = omega arith; row_block_fits = omega arith; column_block = omega arith; column_block_fits = omega arith }

first_ranks : first_grid.nprow * first_grid.npcol ≡ 16
unfolding first_grid
first_ranks = refl

second_ranks : second_grid.nprow * second_grid.npcol ≡ 16
unfolding second_grid
second_ranks = refl

is_square : (seed size : ℕ) → size ≤ 2000 → IsSquare (drawn_matrix seed size) size
is_square seed size le = record { rows = refl; columns = refl; small = le; count = drawn_length seed (size * size) }

pub first_turns : (seed size : ℕ) (ps : List Piece) → ps ≡ pieces_of first_grid (drawn_matrix seed size) → size ≤ 2000 → AreTurns ps
first_turns seed size ps e le = subst AreTurns (sym e) (pieces_turn first_grid (drawn_matrix seed size) size is_first (is_square seed size le) (first_few size le))

pub second_turns : (seed size : ℕ) (ps : List Piece) → ps ≡ pieces_of second_grid (drawn_matrix seed size) → size ≤ 2000 → AreTurns ps
second_turns seed size ps e le = subst AreTurns (sym e) (pieces_turn second_grid (drawn_matrix seed size) size is_second (is_square seed size le) (second_few size le))

pub first_small : (seed size : ℕ) (ps : List Piece) (d : Distribution) → ps ≡ pieces_of first_grid (drawn_matrix seed size) → d ≡ second_grid → size ≤ 2000 → move_words ps d ≤ 2 ^ 26
first_small seed size ps d e is le =
    let small = few_move first_grid second_grid (drawn_matrix seed size) size is_first (is_square seed size le) (first_few size le) (second_few size le) first_ranks second_ranks in
    subst (λ (qs : List Piece). move_words qs d ≤ 2 ^ 26) (sym e) (subst (λ (c : Distribution). move_words (pieces_of first_grid (drawn_matrix seed size)) c ≤ 2 ^ 26) (sym is) small)

pub second_small : (seed size : ℕ) (ps : List Piece) (d : Distribution) → ps ≡ pieces_of second_grid (drawn_matrix seed size) → d ≡ first_grid → size ≤ 2000 → move_words ps d ≤ 2 ^ 26
second_small seed size ps d e is le =
    let small = few_move second_grid first_grid (drawn_matrix seed size) size is_second (is_square seed size le) (second_few size le) (first_few size le) second_ranks first_ranks in
    subst (λ (qs : List Piece). move_words qs d ≤ 2 ^ 26) (sym e) (subst (λ (c : Distribution). move_words (pieces_of second_grid (drawn_matrix seed size)) c ≤ 2 ^ 26) (sym is) small)

-- the pieces of one grid joined are the drawn matrix
first_whole : (seed size : ℕ) (ps : List Piece) → ps ≡ pieces_of first_grid (drawn_matrix seed size) → whole_of ps ≡ drawn_matrix seed size
first_whole seed size ps e = ap whole_of e ∙ whole_is first_grid (drawn_matrix seed size) is_first (drawn_length seed (size * size))

second_whole : (seed size : ℕ) (ps : List Piece) → ps ≡ pieces_of second_grid (drawn_matrix seed size) → whole_of ps ≡ drawn_matrix seed size
second_whole seed size ps e = ap whole_of e ∙ whole_is second_grid (drawn_matrix seed size) is_second (drawn_length seed (size * size))

pub first_moved : (seed size : ℕ) (ps qs : List Piece) (d : Distribution) → ps ≡ pieces_of first_grid (drawn_matrix seed size) → d ≡ second_grid → qs ≡ pieces_of d (whole_of ps) → qs ≡ pieces_of second_grid (drawn_matrix seed size)
first_moved seed size ps qs d e is are = are ∙ ap₂ pieces_of is (first_whole seed size ps e)

-- what came back
pub few_ranks : (d : Distribution) → d ≡ first_grid → d.nprow * d.npcol ≤ 16
few_ranks d e = let is : d.nprow * d.npcol ≡ 16 = ap (λ (x : Distribution). x.nprow * x.npcol) e ∙ first_ranks in omega (arith, is)

pub sum_is : (seed size : ℕ) (ps : List Piece) (s : ℤ) → ps ≡ pieces_of second_grid (drawn_matrix seed size) → s ≡ total (whole_of ps).values → s ≡ drawn_sum seed size
unfolding drawn_sum
sum_is seed size ps s e is = is ∙ ap (λ (m : Matrix). total m.values) (second_whole seed size ps e)

-- the numbers
pub there_is : (seed size : ℕ) (ps : List Piece) (d : Distribution) (n : Moved) → ps ≡ pieces_of first_grid (drawn_matrix seed size) → d ≡ second_grid → n ≡ numbers_for ps d → n ≡ numbers_of (move_there size)
there_is seed size ps d n e is are = are ∙ ap₂ numbers_for e is ∙ there_numbers size (drawn_matrix seed size).values

pub back_is : (seed size : ℕ) (ps : List Piece) (d : Distribution) (n : Moved) → ps ≡ pieces_of second_grid (drawn_matrix seed size) → d ≡ first_grid → n ≡ numbers_for ps d → n ≡ numbers_of (move_back size)
back_is seed size ps d n e is are = are ∙ ap₂ numbers_for e is ∙ back_numbers size (drawn_matrix seed size).values

low_of : (mv : Move) (n : Moved) → mv.cut.m ≤ 2000 → mv.cut.n ≤ 2000 → n ≡ numbers_of mv → (n.meets ≤ 2 ^ 32) × ((n.messages ≤ 256) × (n.copies ≤ 256))
low_of mv n rows columns e =
    let meets = few_meets mv rows columns in
    let messages = few_messages mv in
    let copies = few_copies mv in
    let a : n.meets ≡ meets_of_whole mv = ap (λ (x : Moved). x.meets) e in
    let b : n.messages ≡ move_messages mv 16 = ap (λ (x : Moved). x.messages) e in
    let c : n.copies ≡ move_copies mv 16 = ap (λ (x : Moved). x.copies) e in
    (omega (arith, meets, a), (omega (arith, messages, b), omega (arith, copies, c)))

pub there_low : (size : ℕ) (n : Moved) → n ≡ numbers_of (move_there size) → size ≤ 2000 → (n.meets ≤ 2 ^ 32) × ((n.messages ≤ 256) × (n.copies ≤ 256))
there_low size n e le = low_of (move_there size) n le le e

pub back_low : (size : ℕ) (n : Moved) → n ≡ numbers_of (move_back size) → size ≤ 2000 → (n.meets ≤ 2 ^ 32) × ((n.messages ≤ 256) × (n.copies ≤ 256))
back_low size n e le = low_of (move_back size) n le le e

pub is_loaded : (seed size : ℕ) (a b : Moved) (s : ℤ) (l : Loaded) → a ≡ numbers_of (move_there size) → b ≡ numbers_of (move_back size) → s ≡ drawn_sum seed size → l ≡ record { meets = a.meets + b.meets; messages = a.messages + b.messages; copies = a.copies + b.copies; sum = s } → IsLoaded seed size l
unfolding job_meets job_messages job_copies
is_loaded seed size a b s l there back sum is = record {
  meets = ap (λ (x : Loaded). x.meets) is ∙ ap₂ (λ (x y : Moved). x.meets + y.meets) there back;
  messages = ap (λ (x : Loaded). x.messages) is ∙ ap₂ (λ (x y : Moved). x.messages + y.messages) there back;
  copies = ap (λ (x : Loaded). x.copies) is ∙ ap₂ (λ (x y : Moved). x.copies + y.copies) there back;
  sum = ap (λ (x : Loaded). x.sum) is ∙ sum;
}
