-- What operations keep of a grid: the sizes of its arrays; and the lengths that wait.
use Rattle.std.specs.Prelude.{◌≡◌, ℕ, ◌*◌, Bool, take, Option, Some, None, ℤ, List, [], ◌∷◌, ◌++◌, length, map, slice_get, slice_index_or, slice_set, IsSomeAnd, replicate, max, cond, nat_eq, true, false, IfSome, ◌≤◌}
use Rattle.std.proofs.Common.{zero, suc, sym, ap, ◌∙◌, refl, subst, arith}
use Rattle.std.proofs.Math.Seq.{map-set_same}
use Rattle.std.proofs.lemmas.List.{length-map, length-replicate}
use Rattle.std.proofs.lemmas.Option.{get_or_from_slice_get}
use Rattle.msg_core.specs.Kinds.{Kind}
use Rattle.msg_core.specs.Kinds.{Send, Recv, Local}
use Rattle.msg_core.specs.InOrder.{World, start, waiting, or_none, world_by, world_with, after_step, in_order, CanGo}
use Rattle.msg_core.specs.Plans.{PlanView, Lens, no_lens, lens_of, waiting_lens, AllCan}
use Rattle.msg_core.specs.Stages.{end_nodes}
use Rattle.msg_core.proofs.GrowingPlans.{Matches, Lawful}
use Rattle.msg_core.proofs.GrowingPlans.{lens_join, in_order_join, can_go_join, lens_after}
use Rattle.pack_words.specs.declared.rank_op.RankOp.{RankOp}
use Rattle.pack_words.specs.declared.rank_op.RankOp.TheVariants.{Put, Get, Copy, LoadAcc, PutAcc, JoinAcc, GetAcc, StoreAcc, Pulse}
use Rattle.pack_words.specs.LocalCells.{LocalCells, zeros}
use Rattle.pack_words.specs.Packing.{spots, with_words}
use Rattle.pack_words.specs.WholeRegions.{whole_cut, corner}
use Rattle.pack_words.specs.Coordinates.{row_word, column_word}
use Rattle.fold_ops.specs.declared.held.Held.{Held}
use Rattle.pack_words.specs.declared.region.Region.{Region}
use Rattle.pack_words.specs.declared.coords.Coords.{Coords}
use Rattle.pack_words.specs.RankOps.{RankState, size_of, with_stored, with_coords, CanDoIn, CanDo, elements_used, rank_kind, rank_absorbed, rank_acted}
use Rattle.pack_words.specs.RankLaws.{sizes_stay, message_length, can_after_absorb, can_after_act}
use Rattle.pack_words.specs.GridSteps.{pulse_by, grid_by, grid_after, GridCanGo}
use Rattle.pack_words.specs.Accumulators.{no_held, values_of_held}
use Rattle.pack_words.proofs.Rooms.{room_front, room_back, room_after, held_length, held_step}
use Rattle.pack_words.proofs.Shown.{shown_in_order}
use Rattle.pack_words.specs.GridState.{GridState, Shows, Means, scratch_needed, HasRoom, IsSame, arrays_held, rank_steps, rank_nodes}
use Rattle.pack_words.specs.GridShapes.{ShapesView, measure_of, measures_of, all_measures, HasShapes}
use Rattle.pack_words.specs.GridPlans.{IsOf, Appends, PlanMeans, first_grid}

lawful : Lawful rank_steps rank_nodes
lawful = record { message_length = message_length; after_absorb = can_after_absorb; after_act = can_after_act }

same_measure : (c d : LocalCells) → c.lld ≡ d.lld → c.cols ≡ d.cols → length c.words ≡ length d.words → measure_of c ≡ measure_of d
same_measure c d a b l =
    let m : ℕ → ℕ → ℕ → ℕ × ℕ × ℕ = λ x y z. (x, y, z) in
    ap (λ (x : ℕ). m x c.cols (length c.words)) a ∙ (ap (λ (y : ℕ). m d.lld y (length c.words)) b ∙ ap (λ (z : ℕ). m d.lld d.cols z) l)

-- words written into one array leave the measures of all
pub measures_written : (cs : List LocalCells) (a : ℕ) (ss : List (ℕ × ℕ)) (ws : List ℤ) → measures_of (slice_set cs a (with_words (slice_index_or cs a (zeros 1 0)) ss ws)) ≡ measures_of cs
measures_written cs a ss ws =
    let c : LocalCells = slice_index_or cs a (zeros 1 0) in
    let h = sizes_stay c ss ws in
    map-set_same measure_of cs a (with_words c ss ws) (zeros 1 0) (same_measure (with_words c ss ws) c h.0 h.1 h.2)

abbrev pub node_measures : RankState → List (ℕ × ℕ × ℕ)
node_measures n = measures_of n.arrays

absorbed_measures : (n : RankState) (o : RankOp) (ws : List ℤ) → node_measures (rank_absorbed n o ws) ≡ node_measures n
absorbed_measures n (Put to a rs cut) ws = refl
absorbed_measures n (Get from a rs cut) ws = measures_written n.arrays a (spots cut rs) ws
absorbed_measures n (Copy a rs b ts cut) ws = refl
absorbed_measures n (LoadAcc a r k) ws = refl
absorbed_measures n (PutAcc to m pairs) ws = refl
absorbed_measures n (JoinAcc from m fold) ws = refl
absorbed_measures n (GetAcc from m pairs) ws = refl
absorbed_measures n (StoreAcc a r coords) ws = refl
absorbed_measures n (Pulse peer sends) ws = refl

stored_measures : (n : RankState) (a : ℕ) (r : Region) (ws : List ℤ) → node_measures (with_stored n a r ws) ≡ node_measures n
stored_measures n a r ws = measures_written n.arrays a (spots (whole_cut r) (r ∷ [])) ws

coords_measures : (n : RankState) (r : Region) (coords : Option Coords) (hs : List Held) → node_measures (with_coords n r coords hs) ≡ node_measures n
coords_measures n r None hs = refl
coords_measures n r (Some c) hs = stored_measures (with_stored n c.ra (corner r) (map (row_word c) hs)) c.ca (corner r) (map (column_word c) hs) ∙ stored_measures n c.ra (corner r) (map (row_word c) hs)

acted_measures : (n : RankState) (o : RankOp) → node_measures (rank_acted n o) ≡ node_measures n
acted_measures n (Put to a rs cut) = refl
acted_measures n (Get from a rs cut) = refl
acted_measures n (Copy a rs b ts cut) = measures_written n.arrays b (spots cut ts) _
acted_measures n (LoadAcc a r k) = refl
acted_measures n (PutAcc to m pairs) = refl
acted_measures n (JoinAcc from m fold) = refl
acted_measures n (GetAcc from m pairs) = refl
acted_measures n (StoreAcc a r coords) =
    let hs : List Held = take (r.rows * r.cols) n.held in
    coords_measures (with_stored n a r (values_of_held hs)) r coords hs ∙ stored_measures n a r (values_of_held hs)
acted_measures n (Pulse peer sends) = refl

no_arrays : RankState
no_arrays = record { arrays = []; held = [] }

set_measures : (ns : List RankState) (r : ℕ) (n m : RankState) → slice_get ns r ≡ Some n → node_measures m ≡ node_measures n → map node_measures (slice_set ns r m) ≡ map node_measures ns
set_measures ns r n m here same = map-set_same node_measures ns r m no_arrays (same ∙ ap node_measures (sym (get_or_from_slice_get ns r n no_arrays here)))

measures_by : (K : Kind) (o : RankOp) (r : ℕ) (n : RankState) (w : World RankState) → slice_get w.nodes r ≡ Some n → map node_measures (world_by rank_steps rank_nodes K r o n w).nodes ≡ map node_measures w.nodes
measures_by (Send to len) o r n w here = refl
measures_by (Recv from len) o r n w here = set_measures w.nodes r n (rank_absorbed n o (or_none (waiting w from r))) here (absorbed_measures n o (or_none (waiting w from r)))
measures_by Local o r n w here = set_measures w.nodes r n (rank_acted n o) here (acted_measures n o)

measures_step : (m : Option RankState) (x : ℕ × RankOp) (w : World RankState) → slice_get w.nodes x.0 ≡ m → map node_measures (world_with rank_steps rank_nodes m x.0 x.1 w).nodes ≡ map node_measures w.nodes
measures_step (Some n) x w here = measures_by (rank_kind x.1) x.1 x.0 n w here
measures_step None x w here = refl

pub measures_kept : (xs : List (ℕ × RankOp)) (w : World RankState) → map node_measures (in_order rank_steps rank_nodes xs w).nodes ≡ map node_measures w.nodes
measures_kept [] w = refl
measures_kept (x ∷ xs) w = measures_kept xs (after_step rank_steps rank_nodes w x) ∙ measures_step (slice_get w.nodes x.0) x w refl

held_measures : (ns : List RankState) → map measures_of (map arrays_held ns) ≡ map node_measures ns
held_measures [] = refl
held_measures (n ∷ ns) = ap (λ l. node_measures n ∷ l) (held_measures ns)

shown_measures : (w : World RankState) (s : GridState) → Shows w s → all_measures s ≡ map node_measures w.nodes
shown_measures w s is = ap (map measures_of) (sym is.arrays_are) ∙ held_measures w.nodes

same_length : (xs ys : List (List LocalCells)) → map measures_of xs ≡ map measures_of ys → length xs ≡ length ys
same_length xs ys e = sym (length-map xs measures_of) ∙ (ap length e ∙ length-map ys measures_of)

-- states of the same measures have the same shapes
pub shapes_along : (v : ShapesView) (s t : GridState) → all_measures s ≡ all_measures t → HasShapes v s → HasShapes v t
shapes_along v s t e h = record {
  ranks_are = sym (same_length s.arrays t.arrays e) ∙ h.ranks_are;
  each = λ r a lr la. ap (λ ms. slice_get (slice_index_or ms r []) a) (sym e) ∙ h.each r a lr la;
}

-- what is shown after operations is of the longer plan
of_after : (v : ShapesView) (p q : PlanView RankOp) (added : List (ℕ × RankOp)) (w : World RankState) (s t : GridState) → q.steps ≡ p.steps ++ added → Shows w s → IsOf v p s → CanGo rank_steps rank_nodes added w → Shows (in_order rank_steps rank_nodes added w) t → IsOf v q t
of_after v p q added w s t more is of can after =
    let u : World RankState = in_order rank_steps rank_nodes added w in
    let m : Matches (waiting_lens rank_steps p) w = λ i j. (is.taken_were_sent i j, of.lens_are i j ∙ ap (λ l. map length l) (sym (is.waits_are i j))) in
    let n = lens_after rank_steps rank_nodes lawful added w (waiting_lens rank_steps p) can m in
    let lens : waiting_lens rank_steps q ≡ lens_of rank_steps added (waiting_lens rank_steps p) = ap (λ xs. lens_of rank_steps xs no_lens) more ∙ lens_join rank_steps p.steps added no_lens in
    record {
      shaped = shapes_along v s t (shown_measures w s is ∙ (sym (measures_kept added w) ∙ sym (shown_measures u t after))) of.shaped;
      lens_are = λ i j. ap (λ (q : Lens). q i j) lens ∙ ((n i j).1 ∙ ap (λ l. map length l) (after.waits_are i j));
    }

abbrev node_with : ℕ → List LocalCells → RankState
node_with k cs = record { arrays = cs; held = replicate k no_held }

-- a world that shows a state, with accumulators of k elements
abbrev world_of : ℕ → GridState → World RankState
world_of k s = record { nodes = map (node_with k) s.arrays; sent = s.waits; taken = λ i j. 0 }

arrays_back : (k : ℕ) (css : List (List LocalCells)) → map arrays_held (map (node_with k) css) ≡ css
arrays_back k [] = refl
arrays_back k (cs ∷ css) = ap (λ l. cs ∷ l) (arrays_back k css)

world_shows : (k : ℕ) (s : GridState) → Shows (world_of k s) s
world_shows k s = record { arrays_are = arrays_back k s.arrays; waits_are = λ i j. refl; taken_were_sent = λ i j. omega arith }

most_used : List (ℕ × RankOp) → ℕ
most_used [] = 0
most_used (x ∷ xs) = max (elements_used x.1) (most_used xs)

needed_most : (r : ℕ) (xs : List (ℕ × RankOp)) → scratch_needed r xs ≤ most_used xs
unfolding most_used
needed_most r [] = omega arith
needed_most r (x ∷ xs) =
    let h = needed_most r xs in
    elim (nat_eq x.0 r) as (λ b. max (cond b (elements_used x.1) 0) (scratch_needed r xs) ≤ max (elements_used x.1) (most_used xs)) [ true ↦ omega arith | false ↦ omega arith ]

enough : (k a : ℕ) (css : List (List LocalCells)) (r : ℕ) → a ≤ k → IfSome (slice_get (map (node_with k) css) r) (λ n. a ≤ length n.held)
enough k a [] r le = tt
enough k a (cs ∷ css) zero le = let l : length (replicate k no_held) ≡ k = length-replicate k no_held in omega arith
enough k a (cs ∷ css) (suc r) le = enough k a css r le

world_room : (xs : List (ℕ × RankOp)) (s : GridState) → HasRoom xs (world_of (most_used xs) s).nodes
world_room xs s = record { each = λ r. enough (most_used xs) (scratch_needed r xs) s.arrays r (needed_most r xs) }

pub appends_keeps : (v : ShapesView) (p q : PlanView RankOp) (f : GridState → GridState) (s : GridState) → Appends v p q f → IsOf v p s → IsOf v q (f s)
appends_keeps v p q f s more of =
    let k : ℕ = most_used more.added in
    let done = more.means.means (world_of k s) s (world_shows k s) of (world_room more.added s) in
    of_after v p q more.added (world_of k s) s (f s) more.steps_are (world_shows k s) of done.0 done.1

-- operations and then others
pub means_both : (xs ys : List (ℕ × RankOp)) (A B : GridState → Type 0) (f g : GridState → GridState) → ((s : GridState) → A s → B (f s)) → Means xs A f → Means ys B g → Means (xs ++ ys) A (λ s. g (f s))
means_both xs ys A B f g leads mx my = record {
  means = λ w s is allowed room.
      let first = mx.means w s is allowed (room_front xs ys w.nodes room) in
      let second = my.means (in_order rank_steps rank_nodes xs w) (f s) first.1 (leads s allowed) (room_after xs ys w first.0 (room_back xs ys w.nodes room)) in
      (can_go_join rank_steps rank_nodes xs ys w first.0 second.0, subst (λ (u : World RankState). Shows u (g (f s))) (sym (in_order_join rank_steps rank_nodes xs ys w)) second.1);
}

join_assoc : {X : Type 0} (xs ys zs : List X) → (xs ++ ys) ++ zs ≡ xs ++ (ys ++ zs)
join_assoc [] ys zs = refl
join_assoc (x ∷ xs) ys zs = ap (λ l. x ∷ l) (join_assoc xs ys zs)

pub appends_both : (v : ShapesView) (p q r : PlanView RankOp) (f g : GridState → GridState) → Appends v p q f → Appends v q r g → Appends v p r (λ s. g (f s))
appends_both v p q r f g a b = record {
  added = a.added ++ b.added;
  ranks_are = b.ranks_are ∙ a.ranks_are;
  steps_are = b.steps_are ∙ (ap (λ l. l ++ b.added) a.steps_are ∙ join_assoc p.steps a.added b.added);
  means = means_both a.added b.added (IsOf v p) (IsOf v q) f g (λ s of. appends_keeps v p q f s a of) a.means b.means;
}

first_shown : (nodes : List RankState) → Shows (start nodes) (first_grid nodes)
first_shown nodes = record { arrays_are = refl; waits_are = λ i j. refl; taken_were_sent = λ i j. omega arith }

pub plan_begins : (v : ShapesView) (p : PlanView RankOp) → p.steps ≡ [] → PlanMeans v p (λ s. s)
plan_begins v p e = record {
  means = λ nodes shaped room. (
    subst (λ (xs : List (ℕ × RankOp)). CanGo rank_steps rank_nodes xs (start nodes)) (sym e) tt,
    subst (λ (xs : List (ℕ × RankOp)). Shows (in_order rank_steps rank_nodes xs (start nodes)) (first_grid nodes)) (sym e) (first_shown nodes),
  );
}

pub plan_goes_on : (v : ShapesView) (p q : PlanView RankOp) (f g : GridState → GridState) → PlanMeans v p f → Appends v p q g → PlanMeans v q (λ s. g (f s))
plan_goes_on v p q f g old more = record {
  means = λ nodes shaped all.
      let first : GridState = first_grid nodes in
      let room : HasRoom (p.steps ++ more.added) nodes = subst (λ (xs : List (ℕ × RankOp)). HasRoom xs nodes) more.steps_are all in
      let before = old.means nodes shaped (room_front p.steps more.added nodes room) in
      let none : PlanView RankOp = record p { steps = [] } in
      let start_of : IsOf v none first = record { shaped = shaped; lens_are = λ i j. refl } in
      let of : IsOf v p (f first) = of_after v none p p.steps (start nodes) first (f first) refl (first_shown nodes) start_of before.0 before.1 in
      let then = more.means.means (in_order rank_steps rank_nodes p.steps (start nodes)) (f first) before.1 of (room_after p.steps more.added (start nodes) before.0 (room_back p.steps more.added nodes room)) in (
        subst (λ (xs : List (ℕ × RankOp)). CanGo rank_steps rank_nodes xs (start nodes)) (sym more.steps_are) (can_go_join rank_steps rank_nodes p.steps more.added (start nodes) before.0 then.0),
        subst (λ (xs : List (ℕ × RankOp)). Shows (in_order rank_steps rank_nodes xs (start nodes)) (g (f first))) (sym more.steps_are)
            (subst (λ (u : World RankState). Shows u (g (f first))) (sym (in_order_join rank_steps rank_nodes p.steps more.added (start nodes))) then.1),
      );
}

same_shown : (w : World RankState) (s t : GridState) → Shows w s → IsSame s t → Shows w t
same_shown w s t is same = record { arrays_are = is.arrays_are ∙ same.arrays_are; waits_are = λ i j. is.waits_are i j ∙ same.waits_are i j; taken_were_sent = is.taken_were_sent }

-- operations mean what they do to the grid states
pub means_by : (xs : List (ℕ × RankOp)) (A : GridState → Type 0) (f : GridState → GridState) → ((s : GridState) → A s → GridCanGo xs s × IsSame (grid_after xs s) (f s)) → Means xs A f
means_by xs A f h = record {
  means = λ w s is allowed room.
      let both = h s allowed in
      let done = shown_in_order xs w s is both.0 room in
      (done.0, same_shown (in_order rank_steps rank_nodes xs w) (grid_after xs s) (f s) done.1 both.1);
}

pulse_measures : (sends : Bool) (r peer : ℕ) (s : GridState) → all_measures (pulse_by sends r peer s) ≡ all_measures s
pulse_measures true r peer s = refl
pulse_measures false r peer s = refl

-- operations keep the shapes of a grid state
grid_measures : (r : ℕ) (o : RankOp) (s : GridState) → all_measures (grid_by r o s) ≡ all_measures s
grid_measures r (Put to a rs cut) s = refl
grid_measures r (Get from a rs cut) s = map-set_same measures_of s.arrays r _ [] (measures_written (slice_index_or s.arrays r []) a (spots cut rs) _)
grid_measures r (Copy a rs b ts cut) s = map-set_same measures_of s.arrays r _ [] (measures_written (slice_index_or s.arrays r []) b (spots cut ts) _)
grid_measures r (LoadAcc a region k) s = refl
grid_measures r (PutAcc to n pairs) s = refl
grid_measures r (JoinAcc from n fold) s = refl
grid_measures r (GetAcc from n pairs) s = refl
grid_measures r (StoreAcc a region coords) s = refl
grid_measures r (Pulse peer sends) s = pulse_measures sends r peer s

pub grid_shapes : (v : ShapesView) (r : ℕ) (o : RankOp) (s : GridState) → HasShapes v s → HasShapes v (grid_by r o s)
grid_shapes v r o s h = shapes_along v s (grid_by r o s) (sym (grid_measures r o s)) h

-- what a rank can do depends on the sizes of its arrays alone
sizes_of_measures : (cs ds : List LocalCells) → measures_of cs ≡ measures_of ds → map size_of cs ≡ map size_of ds
sizes_of_measures cs ds e = from cs ∙ (ap (map front) e ∙ sym (from ds)) where
  front : ℕ × ℕ × ℕ → ℕ × ℕ
  front m = (m.0, m.1)

  from : (cs : List LocalCells) → map size_of cs ≡ map front (measures_of cs)
  from [] = refl
  from (c ∷ cs) = ap (λ l. size_of c ∷ l) (from cs)

can_along : (ns ms : List RankState) (r : ℕ) (o : RankOp) → map node_measures ns ≡ map node_measures ms → map held_length ns ≡ map held_length ms → IsSomeAnd (slice_get ns r) (λ n. CanDo n o) → IsSomeAnd (slice_get ms r) (λ n. CanDo n o)
can_along [] ms r o e l h = absurd h
can_along (n ∷ ns) [] r o e l h = cc
can_along (n ∷ ns) (m ∷ ms) zero o e l h =
    let same : node_measures n ≡ node_measures m = cc in
    let long : held_length n ≡ held_length m = cc in
    (subst (λ (sizes : List (ℕ × ℕ)). CanDoIn sizes o) (sizes_of_measures n.arrays m.arrays same) h.0, subst (λ (k : ℕ). elements_used o ≤ k) long h.1)
can_along (n ∷ ns) (m ∷ ms) (suc r) o e l h =
    let rest : map node_measures ns ≡ map node_measures ms = cc in
    let more : map held_length ns ≡ map held_length ms = cc in
    can_along ns ms r o rest more h

all_along : (ns ms : List RankState) (xs : List (ℕ × RankOp)) → map node_measures ns ≡ map node_measures ms → map held_length ns ≡ map held_length ms → AllCan rank_nodes ns xs → AllCan rank_nodes ms xs
all_along ns ms [] e l all = tt
all_along ns ms (x ∷ xs) e l all = (can_along ns ms x.0 x.1 e l all.0, all_along ns ms xs e l all.1)

-- what can be done in its order can be done by the memories before it
pub all_can : (xs : List (ℕ × RankOp)) (w : World RankState) → CanGo rank_steps rank_nodes xs w → AllCan rank_nodes w.nodes xs
all_can [] w can = tt
all_can (x ∷ xs) w can = (can.0, all_along (after_step rank_steps rank_nodes w x).nodes w.nodes xs (measures_step (slice_get w.nodes x.0) x w refl) (held_step (slice_get w.nodes x.0) x w refl can.0) (all_can xs (after_step rank_steps rank_nodes w x) can.2))

pub plan_runs : (v : ShapesView) (p : PlanView RankOp) (f : GridState → GridState) (nodes : List RankState) → PlanMeans v p f → HasShapes v (first_grid nodes) → HasRoom p.steps nodes → AllCan rank_nodes nodes p.steps × (map arrays_held (end_nodes rank_steps rank_nodes p.steps nodes) ≡ (f (first_grid nodes)).arrays)
plan_runs v p f nodes means shaped room = let done = means.means nodes shaped room in (all_can p.steps (start nodes) done.0, done.1.arrays_are)
