-- One operation of a part: what is known before it is pushed, and what it means.
use Rattle.std.specs.Prelude.{◌≡◌, ℕ, ◌+◌, ◌<◌, Bool, true, false, cond, nat_le, nat_lt, Option, Some, None, Result, Ok, Err, MatchOption, IsOkUnless, ℤ, List, [], ◌∷◌, ◌++◌, length, map, slice_get, IsSomeAnd}
use Rattle.std.proofs.Common.{sym, ap, ◌∙◌, refl, subst, inl, inr, arith, length-append}
use Rattle.std.proofs.lemmas.Bool.Decides.{nat_tests, eqb_tells}
use Rattle.std.proofs.lemmas.List.Sums.{sum_by_push}
use Rattle.msg_core.specs.Kinds.{Kind}
use Rattle.msg_core.specs.Kinds.{Send, Recv}
use Rattle.msg_core.specs.declared.fault.PlanErr.{PlanErr}
use Rattle.msg_core.specs.declared.fault.PlanErr.TheVariants as plan_err
use Rattle.msg_core.specs.InOrder.{at_pair, HasLength}
use Rattle.msg_core.specs.Plans.{PlanView, waiting_lens, message_count, word_count, sent_messages, sent_words, is_full, full_fault, first_fault}
use Rattle.proc_grid.specs.Grid.{Grid, rank_of}
use Rattle.pack_words.specs.declared.cut.Cut.{Cut}
use Rattle.pack_words.specs.declared.shape.Shape.{Shape}
use Rattle.pack_words.specs.declared.rank_op.RankOp.{RankOp}
use Rattle.pack_words.specs.LocalCells.{LocalCells}
use Rattle.pack_words.specs.Packing.{words_at, with_words, selected_count}
use Rattle.pack_words.specs.RankOps.{size_of, CanDoIn, rank_kind}
use Rattle.pack_words.specs.GridState.{rank_steps}
use Rattle.pack_words.specs.GridSteps.{array_in, with_array_in, first_message, without_message, GridCan}
use Rattle.pack_words.specs.GridShapes.{ShapesView, shape_of}
use Rattle.pack_words.specs.GridPlans.{IsOf, Appends, Grows}
use Rattle.pack_words.proofs.PartLaws.{part_is_region, part_in_shape, part_once}
use Rattle.pack_words.proofs.Shaped.{is_held, held_regions}
use Rattle.pack_words.proofs.Kept.{means_by}
use Rattle.scope_ops.specs.declared.part.Part.{Part}
use Rattle.scope_ops.specs.declared.scope_err.ScopeErr.{ScopeErr}
use Rattle.scope_ops.specs.declared.scope_err.ScopeErr.TheVariants.{WrongLength, TooManyOps}
use Rattle.scope_ops.specs.Parts.{cut_of}
use Rattle.scope_ops.specs.Lines.{sent_line, received_line}
use Rattle.scope_ops.specs.Refusals.{many_fault, IsAnswer, as_scope_err, send_fault, message_fault, receive_fault, part_count}
use Rattle.scope_ops.specs.Ops.{regions_of, put_of, get_of, Fits, IsPoint}
use Rattle.scope_ops.specs.Calls.{IsMade}
use Rattle.scope_ops.proofs.Fitting.{is_part, is_good}
use Rattle.scope_ops.proofs.Within.{grown_within, unused_within}

-- a send of the part, in each state of the plan before
pub send_appends : (v : ShapesView) (p q : PlanView RankOp) (from to : ℕ) (shape : Shape) (part : Part) → from < v.ranks → part.array < v.count → Fits (shape_of v from part.array) part → q.ranks ≡ p.ranks
    → q.steps ≡ p.steps ++ (from, put_of to shape part) ∷ [] → Appends v p q (sent_line from to shape part)
unfolding sent_line
send_appends v p q from to shape part lr la h ranks steps =
    let cut : Cut = cut_of shape part in
    let o : RankOp = put_of to shape part in
    let size : ℕ × ℕ = shape_of v from part.array in
    let at = is_part size shape part h in
    record {
      added = (from, o) ∷ [];
      ranks_are = ranks;
      steps_are = steps;
      means = means_by ((from, o) ∷ []) (IsOf v p) (sent_line from to shape part) (λ s of.
          let held = is_held v s from part.array of.shaped lr la in
          let able : CanDoIn (map size_of held.arrays) o = ((is_good size shape part h).moved, held_regions v s from part.array (regions_of shape part) held (part_in_shape size cut part.i part.j at)) in
          let can : GridCan from o s = record { able = subst (λ (m : Option (List LocalCells)). IsSomeAnd m (λ cs. CanDoIn (map size_of cs) o)) (sym held.here) able; finds = tt } in (
            (can, tt),
            record {
              arrays_are = refl;
              waits_are = λ i j. ap (λ ss. at_pair s.waits from to (s.waits from to ++ words_at (array_in s from part.array) ss ∷ []) i j) (part_is_region cut part.i part.j);
            },
          ));
    }

first_waits : (ls : List ℕ) (ms : List (List ℤ)) (len : ℕ) → ls ≡ map length ms → slice_get ls 0 ≡ Some len → IsSomeAnd (slice_get ms 0) (HasLength len)
first_waits ls [] len e h = let f : None ≡ Some len = ap (λ l. slice_get l 0) (sym e) ∙ h in (cc)
first_waits ls (m ∷ ms) len e h = let f : Some (length m) ≡ Some len = ap (λ l. slice_get l 0) (sym e) ∙ h in (cc)

-- a receive into the part
pub receive_appends : (v : ShapesView) (p q : PlanView RankOp) (from to : ℕ) (shape : Shape) (part : Part) → to < v.ranks → part.array < v.count → Fits (shape_of v to part.array) part → q.ranks ≡ p.ranks
    → slice_get (waiting_lens rank_steps p from to) 0 ≡ Some (part_count shape part)
    → q.steps ≡ p.steps ++ (to, get_of from shape part) ∷ [] → Appends v p q (received_line from to shape part)
unfolding received_line
receive_appends v p q from to shape part lr la h ranks waits steps =
    let cut : Cut = cut_of shape part in
    let o : RankOp = get_of from shape part in
    let size : ℕ × ℕ = shape_of v to part.array in
    let at = is_part size shape part h in
    let same = part_is_region cut part.i part.j in
    record {
      added = (to, o) ∷ [];
      ranks_are = ranks;
      steps_are = steps;
      means = means_by ((to, o) ∷ []) (IsOf v p) (received_line from to shape part) (λ s of.
          let held = is_held v s to part.array of.shaped lr la in
          let able : CanDoIn (map size_of held.arrays) o = ((is_good size shape part h).moved, held_regions v s to part.array (regions_of shape part) held (part_in_shape size cut part.i part.j at), part_once cut part.i part.j) in
          let first : IsSomeAnd (slice_get (s.waits from to) 0) (HasLength (part_count shape part)) = first_waits (waiting_lens rank_steps p from to) (s.waits from to) (part_count shape part) (of.lens_are from to) waits in
          let can : GridCan to o s = record {
            able = subst (λ (m : Option (List LocalCells)). IsSomeAnd m (λ cs. CanDoIn (map size_of cs) o)) (sym held.here) able;
            finds = subst (λ (n : ℕ). IsSomeAnd (slice_get (s.waits from to) 0) (HasLength n)) (ap length (sym same)) first;
          } in (
            (can, tt),
            record {
              arrays_are = ap (λ ss. (without_message (with_array_in s to part.array (with_words (array_in s to part.array) ss (first_message s from to))) from to).arrays) same;
              waits_are = λ i j. refl;
            },
          ));
    }

-- one operation more, by its kind
pub one_more : (p q : PlanView RankOp) (r : ℕ) (o : RankOp) (K : Kind) → rank_kind o ≡ K → q.steps ≡ p.steps ++ (r, o) ∷ [] → Grows p q 1 (sent_messages K) (sent_words K)
one_more p q r o K kind more = record {
  ops_are = ap length more ∙ length-append p.steps ((r, o) ∷ []);
  messages_are = ap (message_count rank_steps) more ∙ (sum_by_push (λ (x : ℕ × RankOp). sent_messages (rank_kind x.1)) p.steps (r, o) ∙ ap (λ J. message_count rank_steps p.steps + sent_messages J) kind);
  words_are = ap (word_count rank_steps) more ∙ (sum_by_push (λ (x : ℕ × RankOp). sent_words (rank_kind x.1)) p.steps (r, o) ∙ ap (λ J. word_count rank_steps p.steps + sent_words J) kind);
}

full_same : (n : ℕ) → nat_lt 1048576 (n + 1) ≡ nat_le 1048576 n
full_same n = grind (arith, nat_tests)

full_answer : (full : Bool) (e : PlanErr) → MatchOption (full_fault rank_steps full) (IsOkUnless {T = Unit {0}} (Err e) plan_err.NoMemory) (λ f. ◌≡◌ {A = Result (Unit {0}) PlanErr} (Err e) (Err f)) → IsAnswer (Err (as_scope_err e)) (cond full (Some TooManyOps) None)
full_answer true e h = let k : e ≡ plan_err.TooManyOps = cc in inl (ap (λ x. Err (as_scope_err x)) k)
full_answer false e h = ap as_scope_err h

many_is : (p : PlanView RankOp) → many_fault (length p.steps) 1 ≡ cond (is_full rank_steps p) (Some TooManyOps) None
many_is p = ap (λ t. cond t (Some TooManyOps) None) (full_same (length p.steps))

-- why the plan refuses one operation more is why the call does
pub send_refused : (p : PlanView RankOp) (v : ShapesView) (g : Grid) (me dest : ℕ × ℕ) (ranks : ℕ × ℕ) (part : Part) (e : PlanErr) → IsPoint g v me dest part ranks
    → MatchOption (full_fault rank_steps (is_full rank_steps p)) (IsOkUnless {T = Unit {0}} (Err e) plan_err.NoMemory) (λ f. ◌≡◌ {A = Result (Unit {0}) PlanErr} (Err e) (Err f)) → IsAnswer (Err (as_scope_err e)) (send_fault (length p.steps) v g me part dest)
send_refused p v g me dest ranks part e is refuses =
    subst (λ (o : Option ScopeErr). IsAnswer (Err (as_scope_err e)) o) (sym (is.no_fault (many_fault (length p.steps) 1) ∙ many_is p)) (full_answer (is_full rank_steps p) e refuses)

send_means : (v : ShapesView) (p q : PlanView RankOp) (g : Grid) (me dest ranks : ℕ × ℕ) (shape : Shape) (part : Part) → IsPoint g v me dest part ranks → part.array < v.count → q.ranks ≡ p.ranks → q.steps ≡ p.steps ++ (ranks.0, put_of ranks.1 shape part) ∷ []
    → Appends v p q (sent_line (rank_of g me) (rank_of g dest) shape part)
send_means v p q g me dest ranks shape part is la same steps =
    let f : Appends v p q (sent_line ranks.0 ranks.1 shape part) = send_appends v p q ranks.0 ranks.1 shape part is.me_within la is.part_fits same steps in
    subst (λ (r : ℕ). Appends v p q (sent_line r (rank_of g dest) shape part)) (sym is.me_is) (subst (λ (r : ℕ). Appends v p q (sent_line ranks.0 r shape part)) (sym is.other_is) f)

first_there : (first : Option ℕ) (from to want : ℕ) (full : Bool) (x : Unit {0}) → MatchOption (first_fault first from to want full) (IsOkUnless {T = Unit {0}} {E = PlanErr} (Ok x) plan_err.NoMemory) (λ f. ◌≡◌ {A = Result (Unit {0}) PlanErr} (Ok x) (Err f)) → first ≡ Some want
first_there None from to want full x h = cc
first_there (Some have) from to want full x h = elim (eqb_tells have want) [
  | inl k ↦ ap (λ n. Some n) k.1
  | inr k ↦ none (subst (λ (b : Bool). MatchOption (cond b (cond full (Some plan_err.TooManyOps) None) (Some (plan_err.WrongLength have want))) (IsOkUnless {T = Unit {0}} {E = PlanErr} (Ok x) plan_err.NoMemory) (λ f. ◌≡◌ {A = Result (Unit {0}) PlanErr} (Ok x) (Err f))) k.0 h)
] where
  none : ◌≡◌ {A = Result (Unit {0}) PlanErr} (Ok x) (Err (plan_err.WrongLength have want)) → Some have ≡ Some want
  none h = cc

count_is : (shape : Shape) (part : Part) → selected_count (cut_of shape part) (regions_of shape part) ≡ part_count shape part
count_is shape part = ap length (part_is_region (cut_of shape part) part.i part.j)

-- what the plan said of the receive
abbrev pub Said : PlanView RankOp → ℕ × ℕ → Shape → Part → Result (Unit {0}) PlanErr → Type 0
Said p ranks shape part result = MatchOption (first_fault (slice_get (waiting_lens rank_steps p ranks.1 ranks.0) 0) ranks.1 ranks.0 (selected_count (cut_of shape part) (regions_of shape part)) (is_full rank_steps p)) (IsOkUnless result plan_err.NoMemory) (λ f. result ≡ Err f)

receive_means : (v : ShapesView) (p q : PlanView RankOp) (g : Grid) (me src ranks : ℕ × ℕ) (shape : Shape) (part : Part) (x : Unit {0}) → IsPoint g v me src part ranks → part.array < v.count → q.ranks ≡ p.ranks → Said p ranks shape part (Ok x)
    → q.steps ≡ p.steps ++ (ranks.0, get_of ranks.1 shape part) ∷ [] → Appends v p q (received_line (rank_of g src) (rank_of g me) shape part)
receive_means v p q g me src ranks shape part x is la same said steps =
    let first : slice_get (waiting_lens rank_steps p ranks.1 ranks.0) 0 ≡ Some (part_count shape part) = first_there (slice_get (waiting_lens rank_steps p ranks.1 ranks.0) 0) ranks.1 ranks.0 (selected_count (cut_of shape part) (regions_of shape part)) (is_full rank_steps p) x said ∙ ap (λ n. Some n) (count_is shape part) in
    let f : Appends v p q (received_line ranks.1 ranks.0 shape part) = receive_appends v p q ranks.1 ranks.0 shape part is.me_within la is.part_fits same first steps in
    subst (λ (r : ℕ). Appends v p q (received_line r (rank_of g me) shape part)) (sym is.other_is) (subst (λ (r : ℕ). Appends v p q (received_line ranks.1 r shape part)) (sym is.me_is) f)

abbrev pub as_call : Result (Unit {0}) PlanErr → Result (Unit {0}) ScopeErr
as_call (Ok x) = Ok x
as_call (Err e) = Err (as_scope_err e)

message_answer : (first : Option ℕ) (from to want : ℕ) (full : Bool) (result : Result (Unit {0}) PlanErr) → MatchOption (first_fault first from to want full) (IsOkUnless result plan_err.NoMemory) (λ f. result ≡ Err f) → IsAnswer (as_call result) (message_fault first from to want (cond full (Some TooManyOps) None))
message_answer None from to want full (Ok x) h = cc
message_answer None from to want full (Err e) h = let k : e ≡ plan_err.NoMessage from to = cc in inl (ap (λ x. Err (as_scope_err x)) k)
message_answer (Some have) from to want full result h = elim (eqb_tells have want) [
  | inl k ↦ subst (λ (b : Bool). IsAnswer (as_call result) (cond b (cond full (Some TooManyOps) None) (Some (WrongLength have want)))) (sym k.0) (full_or full result (subst (λ (b : Bool). MatchOption (cond b (cond full (Some plan_err.TooManyOps) None) (Some (plan_err.WrongLength have want))) (IsOkUnless result plan_err.NoMemory) (λ f. result ≡ Err f)) k.0 h))
  | inr k ↦ subst (λ (b : Bool). IsAnswer (as_call result) (cond b (cond full (Some TooManyOps) None) (Some (WrongLength have want)))) (sym k.0) (wrong result (subst (λ (b : Bool). MatchOption (cond b (cond full (Some plan_err.TooManyOps) None) (Some (plan_err.WrongLength have want))) (IsOkUnless result plan_err.NoMemory) (λ f. result ≡ Err f)) k.0 h))
] where
  full_or : (full : Bool) (result : Result (Unit {0}) PlanErr) → MatchOption (cond full (Some plan_err.TooManyOps) None) (IsOkUnless result plan_err.NoMemory) (λ f. result ≡ Err f) → IsAnswer (as_call result) (cond full (Some TooManyOps) None)
  full_or true (Ok x) h = cc
  full_or true (Err e) h = let k : e ≡ plan_err.TooManyOps = cc in inl (ap (λ x. Err (as_scope_err x)) k)
  full_or false (Ok x) h = tt
  full_or false (Err e) h = ap as_scope_err h

  wrong : (result : Result (Unit {0}) PlanErr) → result ≡ Err (plan_err.WrongLength have want) → IsAnswer (as_call result) (Some (WrongLength have want))
  wrong (Ok x) h = cc
  wrong (Err e) h = let k : e ≡ plan_err.WrongLength have want = cc in inl (ap (λ x. Err (as_scope_err x)) k)

receive_fault_is : (p : PlanView RankOp) (v : ShapesView) (g : Grid) (me src ranks : ℕ × ℕ) (shape : Shape) (part : Part) → IsPoint g v me src part ranks
    → receive_fault (length p.steps) (waiting_lens rank_steps p) v g me shape part src ≡ message_fault (slice_get (waiting_lens rank_steps p ranks.1 ranks.0) 0) ranks.1 ranks.0 (selected_count (cut_of shape part) (regions_of shape part)) (cond (is_full rank_steps p) (Some TooManyOps) None)
receive_fault_is p v g me src ranks shape part is =
    is.no_fault _
    ∙ (ap (λ (r : ℕ). message_fault (slice_get (waiting_lens rank_steps p r (rank_of g me)) 0) r (rank_of g me) (part_count shape part) (many_fault (length p.steps) 1)) is.other_is
    ∙ (ap (λ (r : ℕ). message_fault (slice_get (waiting_lens rank_steps p ranks.1 r) 0) ranks.1 r (part_count shape part) (many_fault (length p.steps) 1)) is.me_is
    ∙ (ap (λ (n : ℕ). message_fault (slice_get (waiting_lens rank_steps p ranks.1 ranks.0) 0) ranks.1 ranks.0 n (many_fault (length p.steps) 1)) (sym (count_is shape part))
    ∙ ap (λ (o : Option ScopeErr). message_fault (slice_get (waiting_lens rank_steps p ranks.1 ranks.0) 0) ranks.1 ranks.0 (selected_count (cut_of shape part) (regions_of shape part)) o) (many_is p))))

receive_answer : (p : PlanView RankOp) (v : ShapesView) (g : Grid) (me src ranks : ℕ × ℕ) (shape : Shape) (part : Part) (result : Result (Unit {0}) PlanErr) → IsPoint g v me src part ranks → Said p ranks shape part result → IsAnswer (as_call result) (receive_fault (length p.steps) (waiting_lens rank_steps p) v g me shape part src)
receive_answer p v g me src ranks shape part result is said =
    subst (λ (o : Option ScopeErr). IsAnswer (as_call result) o) (sym (receive_fault_is p v g me src ranks shape part is))
    (message_answer (slice_get (waiting_lens rank_steps p ranks.1 ranks.0) 0) ranks.1 ranks.0 (selected_count (cut_of shape part) (regions_of shape part)) (is_full rank_steps p) result said)

pub receive_taken : (p : PlanView RankOp) (v : ShapesView) (g : Grid) (me src ranks : ℕ × ℕ) (shape : Shape) (part : Part) (x : Unit {0}) → IsPoint g v me src part ranks → Said p ranks shape part (Ok x) → IsAnswer (Ok x) (receive_fault (length p.steps) (waiting_lens rank_steps p) v g me shape part src)
receive_taken p v g me src ranks shape part x is said = receive_answer p v g me src ranks shape part (Ok x) is said

pub receive_refused : (p : PlanView RankOp) (v : ShapesView) (g : Grid) (me src ranks : ℕ × ℕ) (shape : Shape) (part : Part) (e : PlanErr) → IsPoint g v me src part ranks → Said p ranks shape part (Err e) → IsAnswer (Err (as_scope_err e)) (receive_fault (length p.steps) (waiting_lens rank_steps p) v g me shape part src)
receive_refused p v g me src ranks shape part e is said = receive_answer p v g me src ranks shape part (Err e) is said

send_grows : (p q : PlanView RankOp) (r to : ℕ) (shape : Shape) (part : Part) → q.steps ≡ p.steps ++ (r, put_of to shape part) ∷ [] → Grows p q 1 1 (part_count shape part)
send_grows p q r to shape part steps = one_more p q r (put_of to shape part) (Send to (part_count shape part)) (ap (λ n. Send to n) (count_is shape part)) steps

receive_grows : (p q : PlanView RankOp) (r from : ℕ) (shape : Shape) (part : Part) → q.steps ≡ p.steps ++ (r, get_of from shape part) ∷ [] → Grows p q 1 0 0
receive_grows p q r from shape part steps = one_more p q r (get_of from shape part) (Recv from (part_count shape part)) (ap (λ n. Recv from n) (count_is shape part)) steps

-- all that a send and a receive promise
pub send_made : (v : ShapesView) (p q : PlanView RankOp) (g : Grid) (me dest ranks : ℕ × ℕ) (shape : Shape) (part : Part) → IsPoint g v me dest part ranks → part.array < v.count → q.ranks ≡ p.ranks → q.steps ≡ p.steps ++ (ranks.0, put_of ranks.1 shape part) ∷ []
    → IsMade v p q (sent_line (rank_of g me) (rank_of g dest) shape part) 1 1 (part_count shape part)
send_made v p q g me dest ranks shape part is la same steps = record {
  appends = send_means v p q g me dest ranks shape part is la same steps;
  grows = send_grows p q ranks.0 ranks.1 shape part steps;
  scratch = grown_within v p.steps ((ranks.0, put_of ranks.1 shape part) ∷ []) q.steps steps (unused_within v ranks.0 (put_of ranks.1 shape part) refl);
}

pub receive_made : (v : ShapesView) (p q : PlanView RankOp) (g : Grid) (me src ranks : ℕ × ℕ) (shape : Shape) (part : Part) (x : Unit {0}) → IsPoint g v me src part ranks → part.array < v.count → q.ranks ≡ p.ranks → Said p ranks shape part (Ok x)
    → q.steps ≡ p.steps ++ (ranks.0, get_of ranks.1 shape part) ∷ [] → IsMade v p q (received_line (rank_of g src) (rank_of g me) shape part) 1 0 0
receive_made v p q g me src ranks shape part x is la same said steps = record {
  appends = receive_means v p q g me src ranks shape part x is la same said steps;
  grows = receive_grows p q ranks.0 ranks.1 shape part steps;
  scratch = grown_within v p.steps ((ranks.0, get_of ranks.1 shape part) ∷ []) q.steps steps (unused_within v ranks.0 (get_of ranks.1 shape part) refl);
}
