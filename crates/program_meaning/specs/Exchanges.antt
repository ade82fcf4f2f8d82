-- What the exchange lines do, and why one is refused.
use Rattle.std.specs.Prelude.{ℕ, ◌+◌, ◌-◌, ◌*◌, ◌^◌, ◌==◌, Bool, true, not, nat_lt, List, [], ◌∷◌, length, map, Option, None, Some, Result, Ok, if◌then◌else◌, pos}
use Rattle.std.specs.List.{filter, flat_map, find}
use Rattle.std.specs.Option.{option_map}
use Rattle.line_text.specs.FaultTables.{when, first_fault, unless_fault}
use Rattle.proc_grid.specs.Grid.{Grid, rank_of}
use Rattle.proc_grid.specs.Scopes.{members}
use Rattle.proc_grid.specs.declared.scope.Scope.{Scope}
use Rattle.proc_grid.specs.declared.scope.Scope.TheVariants.{Row, Column, All}
use Rattle.descriptor.specs.InfoOf.{Entry, info_of}
use Rattle.descriptor.specs.Entries.{gemr2d_entries, trmr2d_entries}
use Rattle.descriptor.specs.declared.moves.MrArgs.{MrArgs}
use Rattle.pack_words.specs.declared.shape.Shape.{Shape}
use Rattle.pack_words.specs.declared.shape.Shape.TheVariants.{Ge, Tr}
use Rattle.pack_words.specs.declared.uplo.Uplo.{Uplo}
use Rattle.pack_words.specs.declared.diag.Diag.{Diag}
use Rattle.pack_words.specs.declared.fold_kind.FoldKind.{FoldKind}
use Rattle.pack_words.specs.Accumulators.{message_words, has_places}
use Rattle.pack_words.specs.GridState.{GridState}
use Rattle.scope_ops.specs.declared.part.Part.{Part}
use Rattle.scope_ops.specs.declared.part.Spot.{Spot}
use Rattle.scope_ops.specs.Parts.{part_from}
use Rattle.scope_ops.specs.Lines.{sent_line, received_line, broadcast_line}
use Rattle.scope_ops.specs.Combines.{combine_line}
use Rattle.scope_ops.specs.Refusals.{send_fault, receive_fault, part_count}
use Rattle.scope_ops.specs.Scopes.{broadcast_fault}
use Rattle.scope_ops.specs.CombineRefusals.{combine_fault, barrier_fault, combine_count, combine_messages}
use Rattle.mr2d.specs.Moves.{plain_move}
use Rattle.mr2d.specs.Calls.{move_of, shape_by}
use Rattle.grid_lang.specs.declared.line.Area.{Area}
use Rattle.grid_lang.specs.declared.line.Mr.{Mr}
use Rattle.program_meaning.specs.declared.fault.ExecFault.{ExecFault}
use Rattle.program_meaning.specs.declared.fault.ExecFault.TheVariants as fault
use Rattle.program_meaning.specs.ProgramState.{ProgramState, grid_at, spread_at, large_fault}
use Rattle.move_numbers.specs.MoveNumbers.{move_messages, move_copies, move_words}

-- What a line says, before it is known whether it is done.
pub record Exchange : Type 0 where
  -- the pairs of ranks whose messages it may use: of none of them may one wait
  pub pairs : List (ℕ × ℕ)
  -- why its call refuses it
  pub refused : Option ExecFault
  -- how many operations and messages it has, and how many words these messages have together
  pub operations : ℕ
  pub messages : ℕ
  pub words : ℕ
  -- what it does
  pub does : GridState → GridState

-- ---- one line done, or refused

abbrev pub waits : GridState → ℕ × ℕ → Bool
waits s p = nat_lt 0 (length (s.waits p.0 p.1))

abbrev pub waiting : Option (ℕ × ℕ) → Option ExecFault
waiting None = None
waiting (Some p) = Some (fault.Waiting p.0 p.1)

-- Why the line is refused, in this order: a message waits of a pair that it may use (the first such pair is named); its call
-- refuses it, after its other causes where the operations would be more than 2^20; the words would be more than 2^26.
abbrev pub exchange_fault : ProgramState → Exchange → Option ExecFault
exchange_fault s x = first_fault (waiting (find (waits s.state) x.pairs) ∷ x.refused ∷ large_fault (s.words + x.words) ∷ [])

abbrev pub exchange_done : ProgramState → Exchange → ProgramState
exchange_done s x = record s { state = x.does s.state; operations = s.operations + x.operations; messages = s.messages + x.messages; words = s.words + x.words }

abbrev pub exchanged : ProgramState → Exchange → Result ProgramState ExecFault
exchanged s x = unless_fault (exchange_fault s x) (Ok (exchange_done s x))

-- ---- messages

abbrev pub shape_in : Option (Uplo × Diag) → Shape
shape_in None = Ge
shape_in (Some t) = Tr t.0 t.1

abbrev pub part_in : Area → Part
part_in area = record { array = area.array; i = area.i; j = area.j; m = area.m; n = area.n }

-- SEND: the process at `me` sends its part to the one at `dest`
unfoldable pub send_exchange : ProgramState → Grid → ℕ × ℕ → Shape → Part → ℕ × ℕ → Exchange
send_exchange s g me shape part dest = record {
  pairs = [];
  refused = option_map fault.Scope (send_fault s.operations s.shapes g me part dest);
  operations = 1;
  messages = 1;
  words = part_count shape part;
  does = sent_line (rank_of g me) (rank_of g dest) shape part;
}

-- the lengths of the messages that wait of each pair
abbrev pub waiting_lengths : GridState → ℕ → ℕ → List ℕ
waiting_lengths s from to = map length (s.waits from to)

-- RECV: the process at `me` takes the first message from the one at `src` into its part
unfoldable pub receive_exchange : ProgramState → Grid → ℕ × ℕ → Shape → Part → ℕ × ℕ → Exchange
receive_exchange s g me shape part src = record {
  pairs = [];
  refused = option_map fault.Scope (receive_fault s.operations (waiting_lengths s.state) s.shapes g me shape part src);
  operations = 1;
  messages = 0;
  words = 0;
  does = received_line (rank_of g src) (rank_of g me) shape part;
}

-- ---- a scope

-- the members of a scope; one that isn't in the grid has none
abbrev pub is_scope_of : Grid → Scope → Bool
is_scope_of g (Row p) = nat_lt p g.nprow
is_scope_of g (Column q) = nat_lt q g.npcol
is_scope_of g All = true

abbrev pub members_of : Grid → Scope → List ℕ
members_of g scope = if is_scope_of g scope then members g scope else []

-- the pairs of two different members, by the position of the sender, then of the receiver
abbrev pub pairs_among : List ℕ → List (ℕ × ℕ)
pairs_among ranks = flat_map (λ from. map (λ to. (from, to)) (filter (λ to. not (from == to)) ranks)) ranks

-- the place where a part begins
abbrev pub place_of_part : Part → Spot
place_of_part part = record { array = part.array; i = part.i; j = part.j }

-- BCAST: the source's part to the same part of every other member
unfoldable pub broadcast_exchange : ProgramState → Grid → Scope → Shape → Part → ℕ × ℕ → Exchange
broadcast_exchange s g scope shape part src =
    let others = length (members g scope) - 1 in
    record {
      pairs = pairs_among (members_of g scope);
      refused = option_map fault.Scope (broadcast_fault s.operations s.shapes g scope part src (place_of_part part));
      operations = 2 * others;
      messages = others;
      words = others * part_count shape part;
      does = broadcast_line (members g scope) (rank_of g src) shape part (part_from (place_of_part part) part);
    }

-- SUM, AMX, AMN: the fold over the members, to one destination or to all; RA and CA where they are asked for
unfoldable pub combine_exchange : ProgramState → Grid → Scope → FoldKind → Option (ℕ × ℕ) → Part → Option (ℕ × ℕ) → Exchange
combine_exchange s g scope fold dest part rc =
    let n = length (members g scope) in
    record {
      pairs = pairs_among (members_of g scope);
      refused = option_map fault.Scope (combine_fault s.operations s.shapes g scope dest part rc);
      operations = combine_count n dest;
      messages = combine_messages n dest;
      words = combine_messages n dest * message_words (has_places fold) (part.m * part.n);
      does = combine_line g scope dest fold part rc;
    }

-- BARRIER: no array is changed
unfoldable pub barrier_exchange : ProgramState → Grid → Scope → Exchange
barrier_exchange s g scope =
    let others = length (members g scope) - 1 in
    record {
      pairs = pairs_among (members_of g scope);
      refused = option_map fault.Scope (barrier_fault s.operations g scope);
      operations = 4 * others;
      messages = 2 * others;
      words = 0;
      does = λ state. state;
    }

-- ---- moves

-- the arguments of the call
abbrev pub args_of : ProgramState → Mr → MrArgs
args_of s mr = record {
  m = mr.m;
  n = mr.n;
  a = mr.a;
  ia = mr.ia;
  ja = mr.ja;
  desca = spread_at s mr.a;
  b = mr.b;
  ib = mr.ib;
  jb = mr.jb;
  descb = spread_at s mr.b;
  ictxt = pos mr.grid;
}

-- from each rank of A's grid to each of B's, both row by row
abbrev pub pairs_between : List ℕ → List ℕ → List (ℕ × ℕ)
pairs_between a b = flat_map (λ from. map (λ to. (from, to)) b) a

-- GEMR2D and TRMR2D: the plain move of what the shape selects, where the check of the arguments finds no bad entry
unfoldable pub move_exchange : ProgramState → Shape → MrArgs → List Entry → Exchange
move_exchange s shape args entries =
    let a = grid_at s args.desca.desc.ctxt in
    let b = grid_at s args.descb.desc.ctxt in
    let mv = move_of shape args a b in
    let operations = 2 * move_messages mv s.shapes.ranks + move_copies mv s.shapes.ranks in
    record {
      pairs = pairs_between a.ranks b.ranks;
      refused = first_fault (option_map fault.Info (info_of entries) ∷ when (args.a == args.b) fault.SameArray ∷ when (nat_lt (2 ^ 20) (s.operations + operations)) fault.TooManyOps ∷ []);
      operations = operations;
      messages = move_messages mv s.shapes.ranks;
      words = move_words mv s.shapes.ranks;
      does = plain_move mv;
    }

abbrev pub general_move : ProgramState → Mr → Exchange
general_move s mr = move_exchange s Ge (args_of s mr) (gemr2d_entries s.grids (args_of s mr))

abbrev pub trapezoid_move : ProgramState → ℕ → ℕ → Mr → Exchange
trapezoid_move s uplo diag mr = move_exchange s (shape_by uplo diag) (args_of s mr) (trmr2d_entries s.grids uplo diag (args_of s mr))
