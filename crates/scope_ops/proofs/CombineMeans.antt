-- A combine along any route means its line.
use Rattle.std.specs.Prelude.{◌≡◌, ◌≢◌, ℕ, ◌<◌, ◌≤◌, ◌^◌, true, false, cond, nat_eq, ℤ, pos, Option, Some, None, IsSomeAnd, List, [], ◌∷◌, ◌++◌, length, map, slice_get, slice_index, slice_index_or}
use Rattle.std.specs.Int.{int_wrap, w32}
use Rattle.std.specs.List.{list_any}
use Rattle.std.proofs.Common.{sym, ap, ◌∙◌, refl, subst, arith, inl, inr, lit<}
use Rattle.std.proofs.lemmas.Bool.Decides.{eqb_tells}
use Rattle.std.proofs.lemmas.Int.{SFits-int_wrap}
use Rattle.std.proofs.lemmas.List.{length-map}
use Rattle.std.proofs.lemmas.Option.{slice_get-get_or, get_or_from_slice_get}
use Rattle.fold_ops.specs.declared.held.Held.{Held}
use Rattle.fold_ops.proofs.FoldOfLaws.{greatest_of_is, least_of_is}
use Rattle.msg_core.specs.InOrder.{World, in_order, CanGo}
use Rattle.msg_core.specs.Plans.{PlanView, waiting_lens, AllCan}
use Rattle.msg_core.proofs.GrowingPlans.{Matches, Lawful, can_go, matches_after}
use Rattle.msg_core.proofs.Lists.{within_get}
use Rattle.proc_grid.specs.Grid.{Grid, rank_of}
use Rattle.proc_grid.specs.Scopes.{members}
use Rattle.proc_grid.specs.declared.scope.Scope.{Scope}
use Rattle.route_tree.specs.Routes.{IsRoute}
use Rattle.route_laws.specs.Passing.{turned}
use Rattle.route_plans.specs.Members.{rank_in}
use Rattle.route_plans.specs.PlanSteps.{own_step, plan_each, plan_passing}
use Rattle.route_plans.specs.PlanPassing.{memory_of, AreQuiet, HaveMemories}
use Rattle.route_plans.specs.Gathering.{AreReady, words_of_scope}
use Rattle.route_plans.proofs.PlanLaws.{combine_done, combine_for_all_done}
use Rattle.route_plans.proofs.CallLaws.{are_quiet, combine_leaves, combine_for_all_leaves, combine_can, combine_for_all_can}
use Rattle.pack_words.specs.declared.fold_kind.FoldKind.{FoldKind}
use Rattle.pack_words.specs.declared.fold_kind.FoldKind.TheVariants.{Sum, AbsMax, AbsMin}
use Rattle.pack_words.specs.declared.shape.Shape.TheVariants.{Ge}
use Rattle.pack_words.specs.declared.rank_op.RankOp.{RankOp}
use Rattle.pack_words.specs.LocalCells.{LocalCells}
use Rattle.pack_words.specs.Packing.{words_at}
use Rattle.pack_words.specs.Accumulators.{element_of}
use Rattle.pack_words.specs.RankLaws.{message_length, can_after_absorb, can_after_act}
use Rattle.pack_words.specs.RankOps.{RankState, AreInArray, shapes, rank_acted, CanDo, CanStoreCoords, AreCoords}
use Rattle.pack_words.specs.GridState.{GridState, Shows, HasRoom, arrays_held, rank_steps, rank_nodes}
use Rattle.pack_words.specs.GridSteps.{arrays_in, array_in}
use Rattle.pack_words.specs.GridShapes.{ShapesView, shape_of}
use Rattle.pack_words.specs.GridPlans.{IsOf}
use Rattle.pack_words.specs.Parts.{part_region}
use Rattle.pack_words.proofs.PartLaws.{part_is_region}
use Rattle.pack_words.proofs.Rooms.{room_front}
use Rattle.scope_ops.specs.declared.part.Part.{Part}
use Rattle.scope_ops.specs.declared.relay.Relay.{Relay}
use Rattle.scope_ops.specs.declared.relay.Relay.TheVariants as relay
use Rattle.scope_ops.specs.declared.own.Own.TheVariants as own
use Rattle.scope_ops.specs.Parts.{cut_of}
use Rattle.scope_ops.specs.Lines.{numbered_from}
use Rattle.scope_ops.specs.Broadcasts.{AreMembers, IsQuiet}
use Rattle.scope_ops.specs.Combines.{fold_of, member_word, scope_words, folds, place_of_member, corner_part, is_destination, combine_line}
use Rattle.scope_ops.specs.CombineOps.{element_count, relay_send, relay_receive, own_op, coords_of, combine_ops, combine_for_all_ops, AllFitPart, RcFit, AreAskable}
use Rattle.scope_ops.proofs.Along.{any_true, any_false, differs, equals}
use Rattle.scope_ops.proofs.Tables.{table_of, same_tables}
use Rattle.scope_ops.proofs.Relays.{relay_lengths, relay_along}
use Rattle.scope_ops.proofs.Gathered.{acc_of, own_word, Agrees, up, down, up_rest, down_rest, up_good, down_good, up_folds, down_folds}
use Rattle.scope_ops.proofs.Stored.{stored_arrays, TellPlaces, AreHeldBy, stores}
use Rattle.scope_ops.proofs.CombineShown.{changed, line_arrays, line_waits, shown_arrays, get_mapped}
use Rattle.scope_ops.proofs.CombineAble.{member_room, few_elements, part_whole, in_array}

pub lawful : Lawful rank_steps rank_nodes
lawful = record { message_length = message_length; after_absorb = can_after_absorb; after_act = can_after_act }

pub no_memory : RankState
no_memory = record { arrays = []; held = [] }

member_is : (ranks : List ℕ) (k : ℕ) → k < length ranks → list_any (λ m. nat_eq m (slice_index ranks k)) ranks ≡ true
member_is ranks k lt = any_true (λ m. nat_eq m (slice_index ranks k)) ranks k (slice_index ranks k) (slice_get-get_or ranks k 0 lt) (equals (slice_index ranks k) (slice_index ranks k) refl)

none_is : (ranks : List ℕ) (r : ℕ) → ((k : ℕ) → k < length ranks → slice_index ranks k ≢ r) → list_any (λ m. nat_eq m r) ranks ≡ false
none_is ranks r miss = any_false (λ m. nat_eq m r) ranks (λ k x e. differs x r (λ same. miss k (within_get ranks k x e) (get_or_from_slice_get ranks k x 0 e ∙ same)))

-- what the scope's positions and the places of its members have to do with one another
pub record KnowsPlaces (g : Grid) (scope : Scope) (npcol : ℕ) (ranks : List ℕ) : Type 0 where
  pub small : (k : ℕ) → k < length ranks → ((place_of_member g ranks k).0 < 64) × ((place_of_member g ranks k).1 < 64)
  pub tell : (ra ca : ℕ) → TellPlaces g ranks (record { ra = ra; ca = ca; scope = scope; npcol = npcol })
  pub some : 1 ≤ npcol

-- the holder of a word of greatest or least absolute value is a member
held_by : (fold : FoldKind) (n len : ℕ) (words : ℕ → List ℤ) → 0 < n → ((k : ℕ) → length (words k) ≡ n) → AreHeldBy fold n len (λ k. fold_of fold (words k))
held_by Sum n len words some long = tt
held_by AbsMax n len words some long = λ k lt. let l = long k in let is = (greatest_of_is (words k) (omega arith)).place in omega arith
held_by AbsMin n len words some long = λ k lt. let l = long k in let is = (least_of_is (words k) (omega arith)).place in omega arith

module _ (v : ShapesView) (p : PlanView RankOp) (ranks : List ℕ) (root : ℕ) (edges : List (ℕ × ℕ)) (fold : FoldKind) (part : Part) (rc : Option (ℕ × ℕ)) (scope : Scope) (npcol : ℕ) (g : Grid)
    (ms : AreMembers v.ranks ranks) (most : length ranks ≤ 64) (s_in : root < length ranks) (route : IsRoute (length ranks) root edges) (quiet : IsQuiet p ranks)
    (fits : AllFitPart v ranks part) (rc_fits : RcFit v ranks part rc) (ask : AreAskable fold rc) (knows : KnowsPlaces g scope npcol ranks)
    (w : World RankState) (s : GridState) (is : Shows w s) (of : IsOf v p s) where
  abbrev rank : ℕ → ℕ
  rank = rank_in ranks

  abbrev memory : ℕ → RankState
  memory = memory_of no_memory (rank_in ranks) w

  abbrev join : Relay
  join = relay.Join (element_count part) fold

  abbrev spread : Relay
  spread = relay.Spread (element_count part) fold

  matches : Matches (waiting_lens rank_steps p) w
  matches i j = (is.taken_were_sent i j, of.lens_are i j ∙ ap (λ l. map length l) (sym (is.waits_are i j)))

  node_count : length w.nodes ≡ v.ranks
  node_count = sym (length-map w.nodes arrays_held) ∙ ap (λ (css : List (List LocalCells)). length css) is.arrays_are ∙ (of.shaped).ranks_are

  within : (k : ℕ) → k < length ranks → rank_in ranks k < length w.nodes
  within k lt = let h = ms.within k lt in let c = node_count in omega arith

  here : (k : ℕ) → k < length ranks → slice_get w.nodes (rank_in ranks k) ≡ Some (memory_of no_memory (rank_in ranks) w k)
  here k lt = slice_get-get_or w.nodes (rank_in ranks k) no_memory (within k lt)

  calm : AreQuiet (length ranks) (rank_in ranks) w
  calm = are_quiet w (waiting_lens rank_steps p) matches (length ranks) (rank_in ranks) within (λ j k lj lk ne same. ne (ms.distinct j k lj lk same)) quiet

  -- the words that the members load are those of the line
  arrays_here : (k : ℕ) → k < length ranks → (memory_of no_memory (rank_in ranks) w k).arrays ≡ arrays_in s (rank_in ranks k)
  arrays_here k lt =
      sym (get_or_from_slice_get (map arrays_held w.nodes) (rank_in ranks k) (memory_of no_memory (rank_in ranks) w k).arrays [] (get_mapped arrays_held w.nodes (rank_in ranks k) (memory_of no_memory (rank_in ranks) w k) (here k lt)))
      ∙ ap (λ (css : List (List LocalCells)). slice_index_or css (rank_in ranks k) []) is.arrays_are

  word_here : (k : ℕ) → k < length ranks → (e : ℕ) → own_word part k (memory_of no_memory (rank_in ranks) w k) e ≡ member_word part s e (rank_in ranks k)
  word_here k lt e =
      ap (λ (cs : List LocalCells). own_word part k (record { arrays = cs; held = [] }) e) (arrays_here k lt)
      ∙ ap (λ ss. int_wrap w32 (slice_index_or (words_at (array_in s (rank_in ranks k) part.array) ss) e (pos 0))) (part_is_region (cut_of Ge part) part.i part.j)

  words_here : (e : ℕ) → words_of_scope (length ranks) (own_word part) (memory_of no_memory (rank_in ranks) w) e ≡ scope_words ranks part s e
  words_here e =
      same_tables (λ k. own_word part k (memory_of no_memory (rank_in ranks) w k) e) (λ k. member_word part s e (slice_index ranks k)) 0 (length ranks) (λ k lt. word_here k (omega arith) e)
      ∙ sym (table_of (pos 0) ranks (member_word part s e))

  ready_if : ((k : ℕ) → k < length ranks → element_count part ≤ length (memory_of no_memory (rank_in ranks) w k).held) → AreReady (length ranks) (element_count part) acc_of (own_word part) (memory_of no_memory (rank_in ranks) w)
  ready_if room = record {
    few = let f : 64 < 2 ^ 32 = lit< tt in omega arith;
    room = room;
    fit = λ k lt e e_lt. SFits-int_wrap w32 _;
  }

  -- each member can load, pass and store
  few : element_count part ≤ 2 ^ 26
  few = few_elements (shape_of v (slice_index ranks root) part.array) part (fits.each root s_in)

  able : (k : ℕ) → k < length ranks → (o : RankOp) → CanDo (memory_of no_memory (rank_in ranks) w k) o → IsSomeAnd (slice_get w.nodes (rank_in ranks k)) (λ a. CanDo a o)
  able k lt o h = let P : Option RankState → Type 0 = λ m. IsSomeAnd m (λ a. CanDo a o) in subst P (sym (here k lt)) h

  inside : (k : ℕ) → k < length ranks → (q : Part) → AllFitPart v ranks q → AreInArray (shapes (memory_of no_memory (rank_in ranks) w k)) q.array (part_region (cut_of Ge q) q.i q.j ∷ [])
  inside k lt q all = in_array v w s (rank_in ranks k) (memory_of no_memory (rank_in ranks) w k) q is of.shaped (ms.within k lt) (here k lt) all.array (all.each k lt)

  can_load : (k : ℕ) → k < length ranks → element_count part ≤ length (memory_of no_memory (rank_in ranks) w k).held → CanDo (memory_of no_memory (rank_in ranks) w k) (own_op own.Load part k)
  can_load k lt room = ((part_whole (shape_of v (slice_index ranks k) part.array) part (fits.each k lt), inside k lt part fits), room)

  store_coords : (k : ℕ) → k < length ranks → (asked : Option (ℕ × ℕ)) → RcFit v ranks part asked
      → AreCoords (coords_of scope npcol asked) × CanStoreCoords (shapes (memory_of no_memory (rank_in ranks) w k)) part.array (part_region (cut_of Ge part) part.i part.j) (coords_of scope npcol asked)
  store_coords k lt None fit = (tt, tt)
  store_coords k lt (Some asked) fit = (knows.some, (fit.not_rows, fit.not_columns, fit.apart, inside k lt (corner_part asked.0 part) fit.rows, inside k lt (corner_part asked.1 part) fit.columns))

  can_store : (k : ℕ) → k < length ranks → element_count part ≤ length (memory_of no_memory (rank_in ranks) w k).held → CanDo (memory_of no_memory (rank_in ranks) w k) (own_op (own.Store (coords_of scope npcol rc)) part k)
  can_store k lt room =
      let coords = store_coords k lt rc rc_fits in
      ((part_whole (shape_of v (slice_index ranks k) part.array) part (fits.each k lt), coords.0, inside k lt part fits, coords.1), room)

  -- the folds are those of the line
  agree_here : (h : Held) (e : ℕ) → Agrees fold h (fold_of fold (words_of_scope (length ranks) (own_word part) (memory_of no_memory (rank_in ranks) w) e)) → Agrees fold h (fold_of fold (scope_words ranks part s e))
  agree_here h e a = subst (λ (ws : List ℤ). Agrees fold h (fold_of fold ws)) (words_here e) a

  low : AreHeldBy fold (length ranks) (element_count part) (λ e. fold_of fold (scope_words ranks part s e))
  low = held_by fold (length ranks) (element_count part) (λ e. scope_words ranks part s e) (omega arith) (λ e. length-map ranks (member_word part s e))

  store_here : (a : RankState) (k : ℕ) → element_count part ≤ length a.held → ((e : ℕ) → e < element_count part → Agrees fold (element_of a.held e) (fold_of fold (words_of_scope (length ranks) (own_word part) (memory_of no_memory (rank_in ranks) w) e)))
      → (rank_acted a (own_op (own.Store (coords_of scope npcol rc)) part k)).arrays ≡ stored_arrays g ranks part rc (folds fold ranks part s) a.arrays
  store_here a k room agree =
      stores g ranks scope npcol knows.small knows.tell fold rc ask part (λ e. fold_of fold (scope_words ranks part s e)) low a k room (λ e lt. agree_here (element_of a.held e) e (agree e lt))

  -- a world with these memories and messages shows the line
  shows_line : (dest : Option (ℕ × ℕ)) (w' : World RankState) (mem : ℕ → RankState) → ranks ≡ members g scope → HaveMemories no_memory (length ranks) (rank_in ranks) mem w w' → ((i j : ℕ) → w'.taken i j ≤ length (w'.sent i j))
      → ((k : ℕ) → k < length ranks → (mem k).arrays ≡ changed (is_destination g scope dest) (stored_arrays g ranks part rc (folds fold ranks part s)) (rank_in ranks k) (memory_of no_memory (rank_in ranks) w k).arrays)
      → ((r : ℕ) → ((k : ℕ) → k < length ranks → rank_in ranks k ≢ r) → is_destination g scope dest r ≡ false) → Shows w' (combine_line g scope dest fold part rc s)
  shows_line dest w' mem listed have taken of_member elsewhere = record {
    arrays_are = shown_arrays w w' s (is_destination g scope dest) (stored_arrays g ranks part rc (folds fold ranks part s)) no_memory (length ranks) (rank_in ranks) mem is have within of_member elsewhere
        ∙ ap (λ rs. numbered_from 0 (changed (is_destination g scope dest) (stored_arrays g rs part rc (folds fold rs part s))) s.arrays) listed
        ∙ sym (line_arrays g scope dest fold part rc s);
    waits_are = λ i j. have.else_as_before.queues i j ∙ is.waits_are i j ∙ sym (line_waits g scope dest fold part rc s i j);
    taken_were_sent = taken;
  }

  -- to one destination
  pub one_means : (place : ℕ × ℕ) → ranks ≡ members g scope → slice_index ranks root ≡ rank_of g place → HasRoom (combine_ops ranks root edges fold part (coords_of scope npcol rc)) w.nodes
      → CanGo rank_steps rank_nodes (combine_ops ranks root edges fold part (coords_of scope npcol rc)) w × Shows (in_order rank_steps rank_nodes (combine_ops ranks root edges fold part (coords_of scope npcol rc)) w) (combine_line g scope (Some place) fold part rc s)
  one_means place listed at room =
      let n : ℕ = length ranks in
      let ops : List (ℕ × RankOp) = combine_ops ranks root edges fold part (coords_of scope npcol rc) in
      let loads : List (ℕ × RankOp) = plan_each (rank_in ranks) (own_op own.Load part) (length ranks) in
      let ups : List (ℕ × RankOp) = plan_passing (rank_in ranks) (relay_send join (rank_in ranks)) (relay_receive join (rank_in ranks)) (turned edges) in
      let last : List (ℕ × RankOp) = own_step (rank_in ranks) (own_op (own.Store (coords_of scope npcol rc)) part) root ∷ [] in
      let rooms : (k : ℕ) → k < length ranks → element_count part ≤ length (memory_of no_memory (rank_in ranks) w k).held
      = λ k lt. member_room part (rank_in ranks) (length ranks) k ups w.nodes (memory_of no_memory (rank_in ranks) w k) lt (room_front (loads ++ ups) last w.nodes room) (here k lt) in
      let prepared = ready_if rooms in
      let all : AllCan rank_nodes w.nodes (combine_ops ranks root edges fold part (coords_of scope npcol rc)) = combine_can rank_steps rank_nodes w.nodes (length ranks) root edges s_in route (rank_in ranks) (own_op own.Load part) (relay_send join (rank_in ranks)) (relay_receive join (rank_in ranks)) (own_op (own.Store (coords_of scope npcol rc)) part)
      (λ k lt. able k lt (own_op own.Load part k) (can_load k lt (rooms k lt)))
      (λ e lt. able e.0 lt (relay_send join (rank_in ranks) e) (few, rooms e.0 lt))
      (λ e lt. able e.1 lt (relay_receive join (rank_in ranks) e) (few, rooms e.1 lt))
      (able root s_in (own_op (own.Store (coords_of scope npcol rc)) part root) (can_store root s_in (rooms root s_in))) in
      let leaves = combine_leaves rank_steps (length ranks) root edges route (rank_in ranks) (own_op own.Load part) (relay_send join (rank_in ranks)) (relay_receive join (rank_in ranks)) (own_op (own.Store (coords_of scope npcol rc)) part) (λ k. refl) (relay_lengths join (rank_in ranks)) (λ k. refl) (waiting_lens rank_steps p) quiet in
      let can = can_go rank_steps rank_nodes lawful (combine_ops ranks root edges fold part (coords_of scope npcol rc)) w (waiting_lens rank_steps p) all leaves.order matches in
      let after = matches_after rank_steps rank_nodes lawful (combine_ops ranks root edges fold part (coords_of scope npcol rc)) w (waiting_lens rank_steps p) all leaves.order matches in
      let done = combine_done rank_steps rank_nodes no_memory (length ranks) root edges s_in route (rank_in ranks) (own_op own.Load part) (relay_send join (rank_in ranks)) (relay_receive join (rank_in ranks)) (own_op (own.Store (coords_of scope npcol rc)) part) (λ k. refl) (relay_along join (rank_in ranks)) (λ k. refl) w calm in (
        can,
        shows_line (Some place) (in_order rank_steps rank_nodes (combine_ops ranks root edges fold part (coords_of scope npcol rc)) w) _ listed done (λ i j. (after i j).0)
            (λ k lt. elim (eqb_tells k root) [
              | inl e ↦ rw e.0 (
                  store_here (up fold part (length ranks) root edges (rank_in ranks) (memory_of no_memory (rank_in ranks) w) root) root ((up_good part (length ranks) root edges (rank_in ranks) (memory_of no_memory (rank_in ranks) w) s_in route prepared fold root s_in).room)
                  (λ e' e_lt. up_folds part (length ranks) root edges (rank_in ranks) (memory_of no_memory (rank_in ranks) w) s_in route prepared fold e' e_lt)
                  ∙ ap (λ cs. stored_arrays g ranks part rc (folds fold ranks part s) cs) (up_rest fold part (length ranks) root edges (rank_in ranks) (memory_of no_memory (rank_in ranks) w) root)
                  ∙ ap (λ cs. stored_arrays g ranks part rc (folds fold ranks part s) cs) (ap (λ x. (memory_of no_memory (rank_in ranks) w x).arrays) (sym e.1))
                  ∙ ap (λ b. cond b (stored_arrays g ranks part rc (folds fold ranks part s) (memory_of no_memory (rank_in ranks) w k).arrays) (memory_of no_memory (rank_in ranks) w k).arrays) (sym (equals (rank_in ranks k) (rank_of g place) (ap (slice_index ranks) e.1 ∙ at))))
              | inr e ↦ rw e.0 (
                  up_rest fold part (length ranks) root edges (rank_in ranks) (memory_of no_memory (rank_in ranks) w) k
                  ∙ ap (λ b. cond b (stored_arrays g ranks part rc (folds fold ranks part s) (memory_of no_memory (rank_in ranks) w k).arrays) (memory_of no_memory (rank_in ranks) w k).arrays) (sym (differs (rank_in ranks k) (rank_of g place) (λ same. e.1 (ms.distinct k root lt s_in (same ∙ sym at))))))
            ])
            (λ r miss. differs r (rank_of g place) (λ same. miss root s_in (at ∙ sym same))),
      )

  -- to all members
  pub all_mean : ranks ≡ members g scope → HasRoom (combine_for_all_ops ranks edges fold part (coords_of scope npcol rc)) w.nodes
      → CanGo rank_steps rank_nodes (combine_for_all_ops ranks edges fold part (coords_of scope npcol rc)) w × Shows (in_order rank_steps rank_nodes (combine_for_all_ops ranks edges fold part (coords_of scope npcol rc)) w) (combine_line g scope None fold part rc s)
  all_mean listed room =
      let loads : List (ℕ × RankOp) = plan_each (rank_in ranks) (own_op own.Load part) (length ranks) in
      let ups : List (ℕ × RankOp) = plan_passing (rank_in ranks) (relay_send join (rank_in ranks)) (relay_receive join (rank_in ranks)) (turned edges) in
      let downs : List (ℕ × RankOp) = plan_passing (rank_in ranks) (relay_send spread (rank_in ranks)) (relay_receive spread (rank_in ranks)) edges in
      let last : List (ℕ × RankOp) = plan_each (rank_in ranks) (own_op (own.Store (coords_of scope npcol rc)) part) (length ranks) in
      let rooms : (k : ℕ) → k < length ranks → element_count part ≤ length (memory_of no_memory (rank_in ranks) w k).held
      = λ k lt. member_room part (rank_in ranks) (length ranks) k ups w.nodes (memory_of no_memory (rank_in ranks) w k) lt (room_front (loads ++ ups) downs w.nodes (room_front (loads ++ ups ++ downs) last w.nodes room)) (here k lt) in
      let prepared = ready_if rooms in
      let all : AllCan rank_nodes w.nodes (combine_for_all_ops ranks edges fold part (coords_of scope npcol rc)) = combine_for_all_can rank_steps rank_nodes w.nodes (length ranks) root edges route (rank_in ranks) (own_op own.Load part) (relay_send join (rank_in ranks)) (relay_receive join (rank_in ranks))
      (relay_send spread (rank_in ranks)) (relay_receive spread (rank_in ranks)) (own_op (own.Store (coords_of scope npcol rc)) part)
      (λ k lt. able k lt (own_op own.Load part k) (can_load k lt (rooms k lt)))
      (λ e lt. able e.0 lt (relay_send join (rank_in ranks) e) (few, rooms e.0 lt))
      (λ e lt. able e.1 lt (relay_receive join (rank_in ranks) e) (few, rooms e.1 lt))
      (λ e lt. able e.0 lt (relay_send spread (rank_in ranks) e) (few, rooms e.0 lt))
      (λ e lt. able e.1 lt (relay_receive spread (rank_in ranks) e) (few, rooms e.1 lt))
      (λ k lt. able k lt (own_op (own.Store (coords_of scope npcol rc)) part k) (can_store k lt (rooms k lt))) in
      let leaves = combine_for_all_leaves rank_steps (length ranks) root edges route (rank_in ranks) (own_op own.Load part) (relay_send join (rank_in ranks)) (relay_receive join (rank_in ranks)) (relay_send spread (rank_in ranks)) (relay_receive spread (rank_in ranks)) (own_op (own.Store (coords_of scope npcol rc)) part)
      (λ k. refl) (relay_lengths join (rank_in ranks)) (relay_lengths spread (rank_in ranks)) (λ k. refl) (waiting_lens rank_steps p) quiet in
      let can = can_go rank_steps rank_nodes lawful (combine_for_all_ops ranks edges fold part (coords_of scope npcol rc)) w (waiting_lens rank_steps p) all leaves.order matches in
      let after = matches_after rank_steps rank_nodes lawful (combine_for_all_ops ranks edges fold part (coords_of scope npcol rc)) w (waiting_lens rank_steps p) all leaves.order matches in
      let done = combine_for_all_done rank_steps rank_nodes no_memory (length ranks) root edges route (rank_in ranks) (own_op own.Load part) (relay_send join (rank_in ranks)) (relay_receive join (rank_in ranks)) (relay_send spread (rank_in ranks)) (relay_receive spread (rank_in ranks)) (own_op (own.Store (coords_of scope npcol rc)) part)
      (λ k. refl) (relay_along join (rank_in ranks)) (relay_along spread (rank_in ranks)) (λ k. refl) w calm in (
        can,
        shows_line None (in_order rank_steps rank_nodes (combine_for_all_ops ranks edges fold part (coords_of scope npcol rc)) w) _ listed done (λ i j. (after i j).0)
            (λ k lt.
            store_here (down fold part (length ranks) root edges (rank_in ranks) (memory_of no_memory (rank_in ranks) w) k) k ((down_good part (length ranks) root edges (rank_in ranks) (memory_of no_memory (rank_in ranks) w) s_in route prepared fold k lt).room)
            (λ e' e_lt. down_folds part (length ranks) root edges (rank_in ranks) (memory_of no_memory (rank_in ranks) w) s_in route prepared fold k lt e' e_lt)
            ∙ ap (λ cs. stored_arrays g ranks part rc (folds fold ranks part s) cs) (down_rest fold part (length ranks) root edges (rank_in ranks) (memory_of no_memory (rank_in ranks) w) k)
            ∙ ap (λ b. cond b (stored_arrays g ranks part rc (folds fold ranks part s) (memory_of no_memory (rank_in ranks) w k).arrays) (memory_of no_memory (rank_in ranks) w k).arrays)
            (sym (ap (λ rs. list_any (λ m. nat_eq m (rank_in ranks k)) rs) (sym listed) ∙ member_is ranks k lt)))
            (λ r miss. ap (λ rs. list_any (λ m. nat_eq m r) rs) (sym listed) ∙ none_is ranks r miss),
      )
