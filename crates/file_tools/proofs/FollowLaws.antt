-- What a command leaves, by what it answers.
use Rattle.std.proofs.Common.{◌≡◌, ℕ, ◌^◌, ◌≤◌, IsTrue, List, [], Option, Some, Result, Ok, Err, sym, subst}
use Rattle.std.specs.Result.{IsErrAnd}
use Rattle.store_io.specs.Outside.{Outside, Poured}
use Rattle.mm_grammar.specs.Matrix.{Matrix}
use Rattle.piece_grammar.specs.Head.{Piece}
use Rattle.mm_text.specs.Loading as loading
use Rattle.mm_text.specs.declared.matrix.LoadErr.{LoadErr}
use Rattle.mm_text.specs.declared.matrix.LoadErr.TheVariants as load
use Rattle.piece_file.specs.Gathering as gathering
use Rattle.piece_file.specs.declared.fault.PieceErr.{PieceErr}
use Rattle.piece_file.specs.declared.fault.PieceErr.TheVariants as gather
use Rattle.text_io.specs.Reading.{OnlyReads}
use Rattle.save_list.specs.Save.{Save, names_of}
use Rattle.command_walks.specs.Walk.{Walk, Ends, Comes, within_limit}
use Rattle.command_walks.specs.ReadingWalks.{matrix_walk, pieces_walk}
use Rattle.command_walks.specs.Outcome.{Leaves}
use Rattle.command_walks.specs.Following.{ReadsOn, StopsWith, load_status, load_line, gather_status, gather_line}
use Rattle.command_walks.specs.declared.status.Status.TheVariants as status
use Rattle.command_walks.proofs.GoingOn.{leaves_on}
use Rattle.command_walks.proofs.LimitLaws.{small_leaves}
use Rattle.command_walks.proofs.ReadingLaws.{matrix_stops}
use Rattle.command_walks.proofs.GatheringLaws.{pieces_stop}
use Rattle.file_tools.specs.Causes.{of_load, of_piece}
use Rattle.file_tools.specs.Troubles.{Follows, Stops, status_of, line_of}
use Rattle.file_tools.specs.declared.trouble.Trouble.{Trouble}
use Rattle.file_tools.specs.declared.trouble.Trouble.TheVariants as trouble

-- no command finds its words outside the table
pub never_words : (t : Trouble) → status_of t ≡ status.Words → ⊥
never_words (trouble.Missing name) e = cc
never_words (trouble.Failed name) e = cc
never_words (trouble.Matrix name error) e = cc
never_words (trouble.Piece name line fault) e = cc
never_words (trouble.Program name line what) e = cc
never_words (trouble.Line name line fault) e = cc
never_words (trouble.TooMany words) e = cc
never_words trouble.NoMemory e = cc
never_words trouble.Output e = cc

-- what a command leaves from where its walk has come is what it leaves from the start
pub follows_by : {X : Type 0} (r : Result X Trouble) (w here : Walk) (names : Option (List (List ℕ))) (old mid new : Outside) (before after : Poured) → (IsTrue old.told → Comes w old.files here) → ReadsOn old mid → Follows r here names mid new before after → Follows r w names old new before after
follows_by (Ok x) w here names old mid new before after comes on then = leaves_on status.Done (λ e. cc) w here names [] old mid new before after comes on then
follows_by (Err t) w here names old mid new before after comes on then = leaves_on (status_of t) (never_words t) w here names (line_of t) old mid new before after comes on then

-- so of a matrix that was read, and of pieces
pub after_matrix : {X : Type 0} (r : Result X Trouble) (name : List ℕ) (next : Matrix → Walk) (m : Matrix) (names : Option (List (List ℕ))) (old mid new : Outside) (before after : Poured)
    → ((f : Matrix → Walk) → IsTrue old.told → Comes (matrix_walk name f) old.files (f m)) → ReadsOn old mid → Follows r (next m) names mid new before after → Follows r (matrix_walk name next) names old new before after
after_matrix r name next m names old mid new before after comes on then = follows_by r (matrix_walk name next) (next m) names old mid new before after (comes next) on then

pub after_pieces : {X : Type 0} (r : Result X Trouble) (prefix : List ℕ) (next : List Piece → Walk) (ps : List Piece) (names : Option (List (List ℕ))) (old mid new : Outside) (before after : Poured)
    → ((f : List Piece → Walk) → IsTrue old.told → Comes (pieces_walk prefix f) old.files (f ps)) → ReadsOn old mid → Follows r (next ps) names mid new before after → Follows r (pieces_walk prefix next) names old new before after
after_pieces r prefix next ps names old mid new before after comes on then = follows_by r (pieces_walk prefix next) (next ps) names old mid new before after (comes next) on then

-- a trouble that is passed on
pub passed_on : {X : Type 0} (r : Result X Trouble) (t : Trouble) (w : Walk) (names : Option (List (List ℕ))) (old new : Outside) → IsErrAnd r (λ u. u ≡ t) → Stops t w names old new → (pour : Poured) → Follows r w names old new pour pour
passed_on (Ok x) t w names old new is stops pour = absurd is
passed_on (Err u) t w names old new is stops pour = subst (λ (v : Trouble). Leaves (status_of v) w names (line_of v) old new pour pour) (sym is) (stops pour)

-- a job within the limit goes on
pub small_by : {X : Type 0} (r : Result X Trouble) (words n : ℕ) (next : Walk) (names : Option (List (List ℕ))) (old new : Outside) (before after : Poured) → words ≡ n → words ≤ 2 ^ 26 → Follows r next names old new before after → Follows r (within_limit n next) names old new before after
small_by (Ok x) words n next names old new before after count le then = small_leaves status.Done words n next names [] old new before after count le then
small_by (Err t) words n next names old new before after count le then = small_leaves (status_of t) words n next names (line_of t) old new before after count le then

pub small_follows : {X : Type 0} (r : Result X Trouble) (words n : ℕ) (next : Walk) (names : Option (List (List ℕ))) (old new : Outside) → words ≡ n → words ≤ 2 ^ 26 → ((pour : Poured) → Follows r next names old new pour pour) → (pour : Poured) → Follows r (within_limit n next) names old new pour pour
small_follows r words n next names old new count le then pour = small_by r words n next names old new pour pour count le (then pour)

-- the same end under other words for its saves, names and output
pub ends_by : {X : Type 0} (r : Result X Trouble) (xs ys : List Save) (line output : List ℕ) (names : List (List ℕ)) (old new : Outside) (before after : Poured) → xs ≡ ys → names_of xs ≡ names → line ≡ output → Follows r (Ends xs line) (Some (names_of xs)) old new before after → Follows r (Ends ys output) (Some names) old new before after
ends_by r xs ys line output names old new before after same named text then =
    let P : List (List ℕ) → Type 0 = λ ns. Follows r (Ends xs line) (Some ns) old new before after in
    let Q : List ℕ → Type 0 = λ l. Follows r (Ends xs l) (Some names) old new before after in
    let R : List Save → Type 0 = λ zs. Follows r (Ends zs output) (Some names) old new before after in
    subst R same (subst Q text (subst P named then))

-- ---- reading

-- a matrix that wasn't read
pub load_stops : (e : LoadErr) (name : List ℕ) (next : Matrix → Walk) (names : Option (List (List ℕ))) (old new : Outside) → (IsTrue old.told → loading.Refuses e old.files name) → loading.Because e old new → OnlyReads old new → Stops (of_load name e) (matrix_walk name next) names old new
load_stops e name next names old new is why same = by e (matrix_stops e name next names old new is why same)
  where
    by : (f : LoadErr) → StopsWith (load_status f) (load_line name f) (matrix_walk name next) names old new → Stops (of_load name f) (matrix_walk name next) names old new
    by load.Missing h = h
    by load.Failed h = h
    by (load.Mm error) h = h
    by load.NoMemory h = h

-- pieces that weren't read
pub gather_stops : (e : PieceErr) (prefix : List ℕ) (next : List Piece → Walk) (names : Option (List (List ℕ))) (old new : Outside) → (IsTrue old.told → gathering.Refuses e old.files prefix) → gathering.Because e old new → OnlyReads old new → Stops (of_piece e) (pieces_walk prefix next) names old new
gather_stops e prefix next names old new is why same = by e (pieces_stop e prefix next names old new is why same)
  where
    by : (f : PieceErr) → StopsWith (gather_status f) (gather_line f) (pieces_walk prefix next) names old new → Stops (of_piece f) (pieces_walk prefix next) names old new
    by (gather.Missing name) h = h
    by (gather.Failed name) h = h
    by (gather.Bad name line fault) h = h
    by gather.NoMemory h = h
