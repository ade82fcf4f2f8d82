-- A move line that is planned stands for what its meaning leaves.
use Rattle.std.proofs.Common.{◌≡◌, ℕ, ◌+◌, ◌*◌, ◌^◌, ◌<◌, ◌≤◌, nat_lt, Bool, true, false, List, [], ◌∷◌, length, Option, Some, None, Result, Ok, Err, ℤ, refl, sym, ap, subst, ◌∙◌, arith, pos}
use Rattle.std.specs.Prelude.{◌↔◌, ◌==◌, is_some, slice_get, IfOk, OnOk}
use Rattle.std.specs.List.{find}
use Rattle.std.specs.Option.{option_map}
use Rattle.std.proofs.lemmas.Bool.Decides.{nat_tests}
use Rattle.line_text.specs.FaultTables.{when, first_fault, unless_fault}
use Rattle.proc_grid.specs.Grid.{Grid, IsGrid, place_number}
use Rattle.proc_grid.specs.Held.{context_at}
use Rattle.proc_grid.proofs.GridLemmas.{place_number-below}
use Rattle.descriptor.specs.InfoOf.{Entry, info_of}
use Rattle.descriptor.specs.Entries.{move_entries}
use Rattle.grid_lang.specs.declared.line.Mr.{Mr}
use Rattle.descriptor.specs.declared.info.Info.{Info}
use Rattle.descriptor.specs.declared.spread.Spread.{Spread}
use Rattle.descriptor.specs.declared.moves.MrArgs.{MrArgs}
use Rattle.descriptor.specs.declared.moves.Moved.{Moved}
use Rattle.descriptor.specs.declared.moves.MrErr.{MrErr}
use Rattle.descriptor.specs.declared.moves.MrErr.TheVariants as mr_err
use Rattle.msg_core.specs.Plans.{PlanView, message_count, word_count}
use Rattle.pack_words.specs.declared.rank_op.RankOp.{RankOp}
use Rattle.pack_words.specs.declared.shape.Shape.{Shape}
use Rattle.pack_words.specs.GridState.{GridState, rank_steps}
use Rattle.pack_words.specs.GridShapes.{ShapesView}
use Rattle.pack_words.specs.GridPlans.{IsOf, Appends, Grows}
use Rattle.block_meet.proofs.ExistLemmas.{all_runs}
use Rattle.mr2d.specs.Moves.{Move, plain_move}
use Rattle.mr2d.specs.Plans.{pairs, words_sent, operations}
use Rattle.mr2d.specs.Between.{meets_by}
use Rattle.mr2d.specs.Calls.{move_of, IsReady, CanCall, IsAppended, IsMoved, IsTooLong}
use Rattle.mr2d.proofs.ArgLaws.{ready_from, is_move, row_axis_a, column_axis_a, row_axis_b, column_axis_b}
use Rattle.mr2d.proofs.BetweenLaws.{all_meets}
use Rattle.mr2d.proofs.UsedLaws.{all_touching}
use Rattle.program_meaning.specs.declared.fault.ExecFault.{ExecFault}
use Rattle.program_meaning.specs.declared.fault.ExecFault.TheVariants as fault
use Rattle.program_meaning.specs.ProgramState.{ProgramState, or_no_grid, or_no_spread, large_fault}
use Rattle.move_numbers.specs.MoveNumbers.{move_messages, move_copies, move_words}
use Rattle.program_meaning.specs.Exchanges.{Exchange, waits, waiting, exchange_done, exchanged, pairs_between, move_exchange}
use Rattle.move_numbers.specs.MoveNumbers.{AreTouching}
use Rattle.move_numbers.proofs.MoveCounts.{messages_are, copies_are, words_are, operations_are}
use Rattle.line_plans.specs.declared.declared.Declared.{Declared}
use Rattle.line_plans.specs.declared.halt.Halt.{Halt}
use Rattle.line_plans.specs.declared.halt.Halt.TheVariants.{Fault, NoMemory}
use Rattle.program_meaning.specs.Sound.{IsSpreadOut}
use Rattle.line_plans.specs.Moving.{ArgsAre, IsMoveAnswer, IsMoveQuiet}
use Rattle.line_plans.specs.Standing.{state_of, IsExchanged, IsCounted}
use Rattle.line_plans.specs.Waits.{AreQuiet, IsHeldUp}
use Rattle.line_plans.proofs.Settling.{fault_is, by_words}

-- a line whose call refuses it
pub refused_line : (d : Declared) (p q : PlanView RankOp) (state : GridState) (x : Exchange) (f : ExecFault) → find (waits state) x.pairs ≡ None → x.refused ≡ Some f → IsExchanged (Err (Fault f)) d p q state (exchanged (state_of d p state) x)
refused_line d p q state x f quiet refused =
    subst (λ (o : Option ExecFault). IsExchanged (Err (Fault f)) d p q state (unless_fault o (Ok (exchange_done (state_of d p state) x)))) (sym (fault_is (state_of d p state) x (Some f) quiet refused)) refl

-- a line that runs into a message
pub waiting_line : (d : Declared) (p q : PlanView RankOp) (state : GridState) (x : Exchange) (f : ExecFault) → waiting (find (waits state) x.pairs) ≡ Some f → IsExchanged (Err (Fault f)) d p q state (exchanged (state_of d p state) x)
waiting_line d p q state x f e =
    subst (λ (o : Option ExecFault). IsExchanged (Err (Fault f)) d p q state (unless_fault (first_fault (o ∷ x.refused ∷ large_fault (d.words + word_count rank_steps p.steps + x.words) ∷ [])) (Ok (exchange_done (state_of d p state) x)))) (sym e) refl

-- the move between two grids, as a line
between : ProgramState → Shape → MrArgs → List Entry → Grid → Grid → Exchange
between s shape args entries a b =
    let mv = move_of shape args a b in
    let operations = 2 * move_messages mv s.shapes.ranks + move_copies mv s.shapes.ranks in
    record {
      pairs = pairs_between a.ranks b.ranks;
      refused = first_fault (option_map fault.Info (info_of entries) ∷ when (args.a == args.b) fault.SameArray ∷ when (nat_lt (2 ^ 20) (s.operations + operations)) fault.TooManyOps ∷ []);
      operations = operations;
      messages = move_messages mv s.shapes.ranks;
      words = move_words mv s.shapes.ranks;
      does = plain_move mv;
    }

grids_are : (d : Declared) (p : PlanView RankOp) (state : GridState) (shape : Shape) (args : MrArgs) (entries : List Entry) (a b : Grid) → context_at d.contexts args.desca.desc.ctxt ≡ Some a → context_at d.contexts args.descb.desc.ctxt ≡ Some b
    → move_exchange (state_of d p state) shape args entries ≡ between (state_of d p state) shape args entries a b
unfolding move_exchange between
grids_are d p state shape args entries a b e f =
    ap (λ (g : Grid). between (state_of d p state) shape args entries g (or_no_grid (context_at d.contexts args.descb.desc.ctxt))) (ap or_no_grid e)
    ∙ ap (λ (g : Grid). between (state_of d p state) shape args entries a g) (ap or_no_grid f)

-- the clauses of a move's call
pub record IsMoveCalled (held : List Grid) (v : ShapesView) (shape : Shape) (args : MrArgs) (entries : List Entry) (called : Result Moved MrErr) (p q : PlanView RankOp) : Type 0 where
  pub done : IfOk called (λ moved. IsMoved held v shape args p q moved)
  pub passes : OnOk called (info_of entries ≡ None)
  pub bad : (i : Info) → (called ≡ Err (mr_err.Info i)) ↔ (info_of entries ≡ Some i)
  pub same : (called ≡ Err mr_err.SameArray) ↔ ((info_of entries ≡ None) × (args.a ≡ args.b))
  pub full : called ≡ Err mr_err.TooManyOps → IsTooLong held shape args p
  pub fits : OnOk called (length q.steps ≤ 1048576)

eq_false : (a b : ℕ) → (a ≡ b → ⊥) → (a == b) ≡ false
eq_false a b h = grind (arith, nat_tests)

eq_true : (a b : ℕ) → a ≡ b → (a == b) ≡ true
eq_true a b h = grind (arith, nat_tests)

lt_false : (a b : ℕ) → b ≤ a → nat_lt a b ≡ false
lt_false a b h = grind (arith, nat_tests)

lt_true : (a b : ℕ) → a < b → nat_lt a b ≡ true
lt_true a b h = grind (arith, nat_tests)

causes : (o : Option Info) (b c : Bool) (o' : Option Info) (b' c' : Bool) → o ≡ o' → b ≡ b' → c ≡ c'
    → first_fault (option_map fault.Info o ∷ when b fault.SameArray ∷ when c fault.TooManyOps ∷ []) ≡ first_fault (option_map fault.Info o' ∷ when b' fault.SameArray ∷ when c' fault.TooManyOps ∷ [])
causes o b c o' b' c' e f g =
    ap (λ (x : Option Info). first_fault (option_map fault.Info x ∷ when b fault.SameArray ∷ when c fault.TooManyOps ∷ [])) e
    ∙ ap (λ (x : Bool). first_fault (option_map fault.Info o' ∷ when x fault.SameArray ∷ when c fault.TooManyOps ∷ [])) f
    ∙ ap (λ (x : Bool). first_fault (option_map fault.Info o' ∷ when b' fault.SameArray ∷ when x fault.TooManyOps ∷ [])) g

first_some : {A : Type 0} (o : Option A) → ((x : A) → o ≡ Some x → ⊥) → o ≡ None
first_some None h = refl
first_some (Some x) h = absurd (h x refl)

same_some : {A : Type 0} (x y : A) → Some x ≡ Some y → x ≡ y
same_some x y e = cc

module _ (d : Declared) (p q : PlanView RankOp) (state : GridState) (shape : Shape) (args : MrArgs) (entries : List Entry) (a b : Grid)
    (is : IsOf d.shapes p state) (world : d.shapes.ranks ≡ p.ranks) (a_is : context_at d.contexts args.desca.desc.ctxt ≡ Some a) (b_is : context_at d.contexts args.descb.desc.ctxt ≡ Some b)
    (quiet : find (waits state) (pairs_between a.ranks b.ranks) ≡ None) (ready : info_of entries ≡ None → IsReady args a b) where
  mv : Move
  mv = move_of shape args a b

  s : ProgramState
  s = state_of d p state

  x : Exchange
  x = between s shape args entries a b

  x_quiet : find (waits state) x.pairs ≡ None
  unfolding x between
  x_quiet = quiet

  refused_is : (o : Option Info) (same full : Bool) → info_of entries ≡ o → (args.a == args.b) ≡ same → nat_lt (2 ^ 20) (length p.steps + x.operations) ≡ full → x.refused ≡ first_fault (option_map fault.Info o ∷ when same fault.SameArray ∷ when full fault.TooManyOps ∷ [])
  unfolding x between s
  refused_is o same full e f g = causes _ _ _ o same full e f g

  -- Ok
  is_appended : (moved : Moved) → IsMoved d.contexts d.shapes shape args p q moved → IsAppended d.shapes mv p q moved
  unfolding mv
  is_appended moved m =
      let ea : m.a ≡ a = same_some m.a a (sym m.a_is ∙ a_is) in
      let eb : m.b ≡ b = same_some m.b b (sym m.b_is ∙ b_is) in
      subst (λ (g : Grid). IsAppended d.shapes (move_of shape args g b) p q moved) ea (subst (λ (g : Grid). IsAppended d.shapes (move_of shape args m.a g) p q moved) eb m.appended)

  grows_so : (moved : Moved) → IsAppended d.shapes mv p q moved → Grows p q x.operations x.messages x.words
  unfolding x between s mv
  grows_so moved h =
      let t : AreTouching (move_of shape args a b) p.ranks h.meets = record { all = h.all; each = h.touching } in
      let messages : moved.messages ≡ move_messages (move_of shape args a b) d.shapes.ranks = h.messages ∙ messages_are (move_of shape args a b) p.ranks h.meets t ∙ ap (λ n. move_messages (move_of shape args a b) n) (sym world) in
      let copies : moved.copies ≡ move_copies (move_of shape args a b) d.shapes.ranks = h.copies ∙ copies_are (move_of shape args a b) p.ranks h.meets t ∙ ap (λ n. move_copies (move_of shape args a b) n) (sym world) in
      let words : words_sent (move_of shape args a b) h.meets (pairs p.ranks) ≡ move_words (move_of shape args a b) d.shapes.ranks = words_are (move_of shape args a b) p.ranks h.meets t ∙ ap (λ n. move_words (move_of shape args a b) n) (sym world) in
      record {
        ops_are = h.grows.ops_are ∙ ap (λ n. length p.steps + (2 * n + moved.copies)) messages ∙ ap (λ n. length p.steps + (2 * move_messages (move_of shape args a b) d.shapes.ranks + n)) copies;
        messages_are = h.grows.messages_are ∙ ap (λ n. message_count rank_steps p.steps + n) messages;
        words_are = h.grows.words_are ∙ ap (λ n. word_count rank_steps p.steps + n) words;
      }

  does_is : (moved : Moved) → IsAppended d.shapes mv p q moved → Appends d.shapes p q x.does
  unfolding x between mv
  does_is moved h = h.appends

  on_ok : (moved : Moved) (r : Result (Unit {0}) Halt) → IsMoveCalled d.contexts d.shapes shape args entries (Ok moved) p q → IsCounted r (d.words + word_count rank_steps q.steps) → IsExchanged r d p q state (exchanged s x)
  unfolding s
  on_ok moved r h counted =
      let m = is_appended moved h.done in
      let g = grows_so moved m in
      let ops = g.ops_are in
      let fits = h.fits in
      let few : length p.steps + x.operations ≤ 2 ^ 20 = omega arith in
      let apart : args.a ≡ args.b → ⊥ = λ e. absurd (let k : (let c : Result Moved MrErr = Ok moved in c) ≡ Err mr_err.SameArray = h.same.1 (h.passes, e) in cc) in
      by_words d p q state x r x_quiet (refused_is None false false h.passes (eq_false args.a args.b apart) (lt_false (2 ^ 20) (length p.steps + x.operations) few)) is (does_is moved m) g counted

  -- too many operations
  too_long : info_of entries ≡ None → (args.a ≡ args.b → ⊥) → IsTooLong d.contexts shape args p → 2 ^ 20 < length p.steps + x.operations
  unfolding x between s
  too_long none apart long =
      let rd = ready none in
      let rs = all_runs _ _ _ (row_axis_a shape args a b rd) (row_axis_b shape args a b rd) in
      let cs = all_runs _ _ _ (column_axis_a shape args a b rd) (column_axis_b shape args a b rd) in
      let moves = is_move shape args a b rd apart in
      let t : AreTouching (move_of shape args a b) p.ranks (meets_by (move_of shape args a b).cut a b rs.0 cs.0) = record {
        all = all_meets (move_of shape args a b) p.ranks rs.0 cs.0 moves rs.1 cs.1;
        each = all_touching (move_of shape args a b).cut a b rs.0 cs.0;
      } in
      let count : length (operations (move_of shape args a b) (meets_by (move_of shape args a b).cut a b rs.0 cs.0) p.ranks) ≡ 2 * move_messages (move_of shape args a b) d.shapes.ranks + move_copies (move_of shape args a b) d.shapes.ranks = operations_are (move_of shape args a b) p.ranks _ t ∙ ap (λ n. 2 * move_messages (move_of shape args a b) n + move_copies (move_of shape args a b) n) (sym world) in
      subst (λ n. 2 ^ 20 < length p.steps + n) count (long.long a b a_is b_is rs.0 cs.0 rs.1 cs.1)

  by_answer : (called : Result Moved MrErr) (r : Result (Unit {0}) Halt) → IsMoveCalled d.contexts d.shapes shape args entries called p q → IsMoveAnswer called r (d.words + word_count rank_steps q.steps) → IsExchanged r d p q state (exchanged s x)
  unfolding s
  by_answer (Ok moved) r h answer = on_ok moved r h answer
  by_answer (Err (mr_err.Info i)) r h answer =
      subst (λ (y : Result (Unit {0}) Halt). IsExchanged y d p q state (exchanged s x)) (sym answer)
      (refused_line d p q state x (fault.Info i) x_quiet (refused_is (Some i) _ _ ((h.bad i).0 refl) refl refl))
  by_answer (Err mr_err.SameArray) r h answer =
      let k = h.same.0 refl in
      subst (λ (y : Result (Unit {0}) Halt). IsExchanged y d p q state (exchanged s x)) (sym answer)
      (refused_line d p q state x fault.SameArray x_quiet (refused_is None true _ k.0 (eq_true args.a args.b k.1) refl))
  by_answer (Err mr_err.TooManyOps) r h answer =
      let none : info_of entries ≡ None = first_some (info_of entries) (λ i e. absurd (let k : (let c : Result Moved MrErr = Err mr_err.TooManyOps in c) ≡ Err (mr_err.Info i) = (h.bad i).1 e in cc)) in
      let apart : args.a ≡ args.b → ⊥ = λ e. absurd (let k : (let c : Result Moved MrErr = Err mr_err.TooManyOps in c) ≡ Err mr_err.SameArray = h.same.1 (none, e) in cc) in
      subst (λ (y : Result (Unit {0}) Halt). IsExchanged y d p q state (exchanged s x)) (sym answer)
      (refused_line d p q state x fault.TooManyOps x_quiet (refused_is None false true none (eq_false args.a args.b apart) (lt_true (2 ^ 20) (length p.steps + x.operations) (too_long none apart (h.full refl)))))
  by_answer (Err mr_err.NoMemory) r h answer = subst (λ (y : Result (Unit {0}) Halt). IsExchanged y d p q state (exchanged s x)) (sym answer) tt

  pub move_line : (called : Result Moved MrErr) (r : Result (Unit {0}) Halt) → IsMoveCalled d.contexts d.shapes shape args entries called p q → IsMoveAnswer called r (d.words + word_count rank_steps q.steps) → IsExchanged r d p q state (exchanged (state_of d p state) (move_exchange (state_of d p state) shape args entries))
  unfolding x s
  move_line called r h answer =
      subst (λ (y : Exchange). IsExchanged r d p q state (exchanged (state_of d p state) y)) (sym (grids_are d p state shape args entries a b a_is b_is)) (by_answer called r h answer)

and_good : (r : Result (Unit {0}) Halt) (P Q R : Type 0) → OnOk r P → Q → R → OnOk r (P × Q × R)
and_good (Ok done) P Q R h x y = (h, x, y)
and_good (Err halt) P Q R h x y = tt

-- what a look at two grids tells of whatever grids the contexts are
pub quiet_by : (r : Result (Unit {0}) Halt) (d : Declared) (p : PlanView RankOp) (args : MrArgs) (a b : Grid) → context_at d.contexts args.desca.desc.ctxt ≡ Some a → context_at d.contexts args.descb.desc.ctxt ≡ Some b → IsGrid a → IsGrid b
    → OnOk r (AreQuiet p a.ranks b.ranks) → ((v : ShapesView) (state : GridState) → IsOf v p state → IsHeldUp r (find (waits state) (pairs_between a.ranks b.ranks))) → IsMoveQuiet r d p args
quiet_by r d p args a b ea eb ga gb quiet done = record {
  quiet = λ x y ex ey.
      subst (λ (g : Grid). OnOk r (AreQuiet p g.ranks y.ranks × IsGrid g × IsGrid y)) (same_some a x (sym ea ∙ ex))
      (subst (λ (g : Grid). OnOk r (AreQuiet p a.ranks g.ranks × IsGrid a × IsGrid g)) (same_some b y (sym eb ∙ ey)) (and_good r (AreQuiet p a.ranks b.ranks) (IsGrid a) (IsGrid b) quiet ga gb));
  done = λ x y ex ey v state is.
      subst (λ (g : Grid). IsHeldUp r (find (waits state) (pairs_between g.ranks y.ranks))) (same_some a x (sym ea ∙ ex))
      (subst (λ (g : Grid). IsHeldUp r (find (waits state) (pairs_between a.ranks g.ranks))) (same_some b y (sym eb ∙ ey)) (done v state is));
}

-- what a call asks, from what is declared and what doesn't wait
pub can_call : (held : List Grid) (v : ShapesView) (p : PlanView RankOp) (args : MrArgs) → v.ranks ≡ p.ranks → IsSpreadOut held v args.a args.desca → IsSpreadOut held v args.b args.descb
    → ((a b : Grid) → context_at held args.desca.desc.ctxt ≡ Some a → context_at held args.descb.desc.ctxt ≡ Some b → AreQuiet p a.ranks b.ranks × IsGrid a × IsGrid b) → CanCall held args v p
can_call held v p args world source target quiet = λ a b a_is b_is.
    let h = quiet a b a_is b_is in
    record {
      ranks_are = world;
      source = source.sizes a a_is;
      target = target.sizes b b_is;
      quiet = λ i j k l li lj lk ll. h.0 (place_number a.npcol i j) (place_number b.npcol k l) (place_number-below a i j h.1 li lj) (place_number-below b k l h.2 lk ll);
    }

pub held_line : (d : Declared) (p q : PlanView RankOp) (state : GridState) (x : Exchange) (h : Halt) → IsHeldUp (Err h) (find (waits state) x.pairs) → IsExchanged (Err h) d p q state (exchanged (state_of d p state) x)
held_line d p q state x (Fault f) e = waiting_line d p q state x f e
held_line d p q state x NoMemory e = tt

move_held : (d : Declared) (p q : PlanView RankOp) (state : GridState) (shape : Shape) (args : MrArgs) (entries : List Entry) (a b : Grid) → context_at d.contexts args.desca.desc.ctxt ≡ Some a → context_at d.contexts args.descb.desc.ctxt ≡ Some b
    → (h : Halt) → IsHeldUp (Err h) (find (waits state) (pairs_between a.ranks b.ranks)) → IsExchanged (Err h) d p q state (exchanged (state_of d p state) (move_exchange (state_of d p state) shape args entries))
unfolding between
move_held d p q state shape args entries a b ea eb h e =
    subst (λ (y : Exchange). IsExchanged (Err h) d p q state (exchanged (state_of d p state) y)) (sym (grids_are d p state shape args entries a b ea eb)) (held_line d p q state (between (state_of d p state) shape args entries a b) h e)

some_of : {A : Type 0} (o : Option A) → is_some o ≡ true → (x : A) × (o ≡ Some x)
some_of None e = absurd cc
some_of (Some x) e = (x, refl)

-- whatever the shape and the entries, once the check of the entries tells that the move is ready
module _ (d : Declared) (p q : PlanView RankOp) (state : GridState) (shape : Shape) (args : MrArgs) (entries : List Entry) (mr : Mr) (is : IsOf d.shapes p state) (h : ArgsAre d args mr) where
  pub shape_held : (halt : Halt) → IsMoveQuiet (Err halt) d p args → IsExchanged (Err halt) d p q state (exchanged (state_of d p state) (move_exchange (state_of d p state) shape args entries))
  shape_held halt quiet =
      let a = some_of (context_at d.contexts args.desca.desc.ctxt) h.source.known in
      let b = some_of (context_at d.contexts args.descb.desc.ctxt) h.target.known in
      move_held d p q state shape args entries a.0 b.0 a.1 b.1 halt (quiet.done a.0 b.0 a.1 b.1 d.shapes state is)

  pub shape_done : (called : Result Moved MrErr) (r : Result (Unit {0}) Halt) → d.shapes.ranks ≡ p.ranks → IsMoveQuiet (Ok tt) d p args → (info_of entries ≡ None → (shift : ℕ) × (info_of (move_entries d.contexts args shift) ≡ None))
      → IsMoveCalled d.contexts d.shapes shape args entries called p q → IsMoveAnswer called r (d.words + word_count rank_steps q.steps) → IsExchanged r d p q state (exchanged (state_of d p state) (move_exchange (state_of d p state) shape args entries))
  shape_done called r world quiet passes calls answer =
      let a = some_of (context_at d.contexts args.desca.desc.ctxt) h.source.known in
      let b = some_of (context_at d.contexts args.descb.desc.ctxt) h.target.known in
      let grids = quiet.quiet a.0 b.0 a.1 b.1 in
      move_line d p q state shape args entries a.0 b.0 is world a.1 b.1 (quiet.done a.0 b.0 a.1 b.1 d.shapes state is)
      (λ none. let k = passes none in ready_from d.contexts args k.0 a.0 b.0 k.1 a.1 b.1 grids.1 grids.2) called r calls answer

-- the arguments of a line whose arrays are spread
args_same : (a b : ℕ) (m n i j k l c m' n' i' j' k' l' c' : ℤ) (x y x' y' : Spread) → m ≡ m' → n ≡ n' → i ≡ i' → j ≡ j' → k ≡ k' → l ≡ l' → c ≡ c' → x ≡ x' → y ≡ y'
    → (let s : MrArgs = record { m = m; n = n; a = a; ia = i; ja = j; desca = x; b = b; ib = k; jb = l; descb = y; ictxt = c } in s) ≡ record { m = m'; n = n'; a = a; ia = i'; ja = j'; desca = x'; b = b; ib = k'; jb = l'; descb = y'; ictxt = c' }
args_same a b m n i j k l c m' n' i' j' k' l' c' x y x' y' e1 e2 e3 e4 e5 e6 e7 e8 e9 = cc

pub args_by : (d : Declared) (mr : Mr) (a b x y : Spread) (m n i j k l c : ℤ) → slice_get d.spreads.items mr.a ≡ Some (Some a) → slice_get d.spreads.items mr.b ≡ Some (Some b) → x ≡ a → y ≡ b
    → m ≡ mr.m → n ≡ mr.n → i ≡ mr.ia → j ≡ mr.ja → k ≡ mr.ib → l ≡ mr.jb → c ≡ pos mr.grid
    → ArgsAre d (record { m = m; n = n; a = mr.a; ia = i; ja = j; desca = x; b = mr.b; ib = k; jb = l; descb = y; ictxt = c }) mr
args_by d mr a b x y m n i j k l c ea eb ex ey em en ei ej ek el ec = record {
  args_are = args_same mr.a mr.b m n i j k l c mr.m mr.n mr.ia mr.ja mr.ib mr.jb (pos mr.grid) x y (or_no_spread (slice_get d.spreads.items mr.a)) (or_no_spread (slice_get d.spreads.items mr.b)) em en ei ej ek el ec (ex ∙ sym (ap or_no_spread ea)) (ey ∙ sym (ap or_no_spread eb));
  source = subst (λ (s : Spread). IsSpreadOut d.contexts d.shapes mr.a s) (sym ex) (d.sound.spread_out mr.a a ea);
  target = subst (λ (s : Spread). IsSpreadOut d.contexts d.shapes mr.b s) (sym ey) (d.sound.spread_out mr.b b eb);
}
