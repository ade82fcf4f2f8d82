-- A world and the grid state that it shows go along together.
use Rattle.std.specs.Prelude.{◌≡◌, ℕ, ◌+◌, ◌<◌, Bool, true, false, Option, Some, None, ℤ, List, [], ◌∷◌, ◌++◌, length, map, drop, slice_get, slice_index_or, slice_set, IsSomeAnd}
use Rattle.std.proofs.Common.{zero, suc, sym, ap, ◌∙◌, refl, subst, inl, inr, arith}
use Rattle.std.proofs.lemmas.Bool.Decides.{eqb_tells}
use Rattle.std.proofs.lemmas.List.{drop-append-le, length-append, map-set}
use Rattle.msg_core.specs.Kinds.{Kind}
use Rattle.msg_core.specs.Kinds.{Send, Recv, Local}
use Rattle.msg_core.specs.InOrder.{World, at_pair, waiting, or_none, HasLength, world_by, world_with, after_step, in_order, CanBy, CanGo}
use Rattle.msg_core.proofs.Lists.{within_get, set_same}
use Rattle.msg_core.proofs.Pairs.{at_cases}
use Rattle.pack_words.specs.declared.rank_op.RankOp.{RankOp}
use Rattle.pack_words.specs.declared.rank_op.RankOp.TheVariants.{Put, Get, Copy, LoadAcc, PutAcc, JoinAcc, GetAcc, StoreAcc, Pulse}
use Rattle.pack_words.specs.LocalCells.{LocalCells, zeros}
use Rattle.pack_words.specs.Packing.{selected_count, packed, unpacked}
use Rattle.pack_words.specs.RankOps.{RankState, size_of, array_at, pulse_kind, rank_kind, CanDoIn, CanDo, rank_absorbed, rank_acted}
use Rattle.pack_words.specs.GridState.{GridState, Shows, HasRoom, arrays_held, rank_steps, rank_nodes}
use Rattle.pack_words.proofs.Rooms.{room_first, room_rest, room_along, held_step}
use Rattle.pack_words.specs.GridSteps.{array_in, with_array_in, with_message, first_message, without_message, pulse_by, grid_by, grid_after, FindsBy, Finds, GridCanGo}

-- what holds at each pair and at the changed one holds after the change
pub at_along : {X Y : Type 0} (F : ℕ → ℕ → X → Y) (f : ℕ → ℕ → X) (g : ℕ → ℕ → Y) (a b : ℕ) (x : X) (y : Y) → ((i j : ℕ) → F i j (f i j) ≡ g i j) → F a b x ≡ y → (i j : ℕ) → F i j (at_pair f a b x i j) ≡ at_pair g a b y i j
at_along F f g a b x y all here i j = elim (eqb_tells i a) [
  | inl h ↦ elim (eqb_tells j b) [
    | inl k ↦ rw (h.0, k.0) (ap (λ m. F m j x) h.1 ∙ (ap (λ n. F a n x) k.1 ∙ here))
    | inr k ↦ rw (h.0, k.0) (all i j)
  ]
  | inr h ↦ rw h.0 (all i j)
]

get_held : (ns : List RankState) (ys : List (List LocalCells)) (r : ℕ) (n : RankState) → map arrays_held ns ≡ ys → slice_get ns r ≡ Some n → slice_index_or ys r [] ≡ n.arrays
get_held ns ys r n e h = ap (λ zs. slice_index_or zs r []) (sym e) ∙ held ns r n h where
  held : (ns : List RankState) (r : ℕ) (n : RankState) → slice_get ns r ≡ Some n → slice_index_or (map arrays_held ns) r [] ≡ n.arrays
  held [] r n h = cc
  held (m ∷ ns) zero n h = let e : m ≡ n = cc in ap arrays_held e
  held (m ∷ ns) (suc r) n h = held ns r n h

node_held : (ns : List RankState) (ys : List (List LocalCells)) (r : ℕ) (cs : List LocalCells) → map arrays_held ns ≡ ys → slice_get ys r ≡ Some cs → (n : RankState) × (slice_get ns r ≡ Some n) × (n.arrays ≡ cs)
node_held ns ys r cs e h = held ns r cs (ap (λ zs. slice_get zs r) e ∙ h) where
  held : (ns : List RankState) (r : ℕ) (cs : List LocalCells) → slice_get (map arrays_held ns) r ≡ Some cs → (n : RankState) × (slice_get ns r ≡ Some n) × (n.arrays ≡ cs)
  held [] r cs h = cc
  held (m ∷ ns) zero cs h = (m, refl, (cc))
  held (m ∷ ns) (suc r) cs h = held ns r cs h

get_drop : (xs : List (List ℤ)) (k : ℕ) → slice_get xs k ≡ slice_get (drop k xs) 0
get_drop [] zero = refl
get_drop [] (suc k) = refl
get_drop (x ∷ xs) zero = refl
get_drop (x ∷ xs) (suc k) = get_drop xs k

drop_more : (xs : List (List ℤ)) (k : ℕ) → drop (suc k) xs ≡ drop 1 (drop k xs)
drop_more [] zero = refl
drop_more [] (suc k) = refl
drop_more (x ∷ xs) zero = refl
drop_more (x ∷ xs) (suc k) = drop_more xs k

or_none_is : (xs : List (List ℤ)) → or_none (slice_get xs 0) ≡ slice_index_or xs 0 []
or_none_is [] = refl
or_none_is (x ∷ xs) = refl

there : (m : Option (List ℤ)) (len : ℕ) → IsSomeAnd m (HasLength len) → (ws : List ℤ) × (m ≡ Some ws)
there (Some ws) len h = (ws, refl)
there None len h = absurd h

-- a message more is shown by a message more
sent_shown : (w : World RankState) (s : GridState) (r to : ℕ) (ws vs : List ℤ) → Shows w s → ws ≡ vs → Shows (record w { sent = at_pair w.sent r to (w.sent r to ++ ws ∷ []) }) (with_message s r to vs)
sent_shown w s r to ws vs is same = record {
  arrays_are = is.arrays_are;
  waits_are = at_along (λ i j l. drop (w.taken i j) l) w.sent s.waits r to (w.sent r to ++ ws ∷ []) (s.waits r to ++ vs ∷ []) is.waits_are
      (drop-append-le (w.taken r to) (w.sent r to) (ws ∷ []) (is.taken_were_sent r to) ∙ (ap (λ l. l ++ ws ∷ []) (is.waits_are r to) ∙ ap (λ m. s.waits r to ++ m ∷ []) same));
  taken_were_sent = λ i j. elim (at_cases w.sent r to (w.sent r to ++ ws ∷ []) i j) [
    | inl h ↦ rw h.0 (is.taken_were_sent i j)
    | inr h ↦
        let l = length-append (w.sent r to) (ws ∷ []) in
        let old = is.taken_were_sent r to in
        let at : w.taken i j ≡ w.taken r to = ap (λ a. w.taken a j) h.0 ∙ ap (λ b. w.taken r b) h.1 in
        rw h.2 (omega (arith, l, old, at))
  ];
}

first_is : (w : World RankState) (s : GridState) (from r : ℕ) → Shows w s → waiting w from r ≡ slice_get (s.waits from r) 0
first_is w s from r is = get_drop (w.sent from r) (w.taken from r) ∙ ap (λ l. slice_get l 0) (is.waits_are from r)

-- a message that is taken, by memories with these arrays, is shown by one less
taken_shown : (w : World RankState) (s : GridState) (nodes : List RankState) (arrays : List (List LocalCells)) (from r len : ℕ) → Shows w s → map arrays_held nodes ≡ arrays → IsSomeAnd (slice_get (s.waits from r) 0) (HasLength len)
    → Shows (record w { nodes = nodes; taken = at_pair w.taken from r (w.taken from r + 1) }) (without_message (record s { arrays = arrays }) from r)
taken_shown w s nodes arrays from r len is held finds =
    let some = there (slice_get (s.waits from r) 0) len finds in
    let within : w.taken from r < length (w.sent from r) = within_get (w.sent from r) (w.taken from r) some.0 (first_is w s from r is ∙ some.1) in
    record {
      arrays_are = held;
      waits_are = at_along (λ i j k. drop k (w.sent i j)) w.taken s.waits from r (w.taken from r + 1) (drop 1 (s.waits from r)) is.waits_are
          (ap (λ k. drop k (w.sent from r)) (let e : w.taken from r + 1 ≡ suc (w.taken from r) = omega arith in e) ∙ (drop_more (w.sent from r) (w.taken from r) ∙ ap (drop 1) (is.waits_are from r)));
      taken_were_sent = λ i j. elim (at_cases w.taken from r (w.taken from r + 1) i j) [
        | inl h ↦ rw h.0 (is.taken_were_sent i j)
        | inr h ↦
            let at : length (w.sent i j) ≡ length (w.sent from r) = ap (λ a. length (w.sent a j)) h.0 ∙ ap (λ b. length (w.sent from b)) h.1 in
            rw h.2 (omega (arith, within, at))
      ];
    }

-- the state shown after an operation
pulse_shown : (sends : Bool) (peer r : ℕ) (w : World RankState) (s : GridState) (n : RankState) → Shows w s → slice_get w.nodes r ≡ Some n → FindsBy (pulse_kind sends peer) r s → Shows (world_by rank_steps rank_nodes (pulse_kind sends peer) r (Pulse peer sends) n w) (pulse_by sends r peer s)
pulse_shown true peer r w s n is here finds = sent_shown w s r peer [] [] is refl
pulse_shown false peer r w s n is here finds = taken_shown w s (slice_set w.nodes r n) s.arrays peer r 0 is (ap (map arrays_held) (set_same w.nodes r n here) ∙ is.arrays_are) finds

shown_by : (o : RankOp) (r : ℕ) (w : World RankState) (s : GridState) (n : RankState) → Shows w s → slice_get w.nodes r ≡ Some n → Finds o r s → Shows (world_by rank_steps rank_nodes (rank_kind o) r o n w) (grid_by r o s)
shown_by (Put to a rs cut) r w s n is here finds =
    sent_shown w s r to (packed cut rs (array_at n a)) (packed cut rs (array_in s r a)) is
    (ap (λ cs. packed cut rs (slice_index_or cs a (zeros 1 0))) (sym (get_held w.nodes s.arrays r n is.arrays_are here)))
shown_by (Get from a rs cut) r w s n is here finds =
    let held : slice_index_or s.arrays r [] ≡ n.arrays = get_held w.nodes s.arrays r n is.arrays_are here in
    let words : or_none (waiting w from r) ≡ slice_index_or (s.waits from r) 0 [] = ap or_none (first_is w s from r is) ∙ or_none_is (s.waits from r) in
    taken_shown w s (slice_set w.nodes r (rank_absorbed n (Get from a rs cut) (or_none (waiting w from r)))) (with_array_in s r a (unpacked cut rs (first_message s from r) (array_in s r a))).arrays from r (selected_count cut rs) is
    (map-set arrays_held w.nodes r (rank_absorbed n (Get from a rs cut) (or_none (waiting w from r)))
    ∙ (ap (λ ys. slice_set ys r (slice_set n.arrays a (unpacked cut rs (or_none (waiting w from r)) (slice_index_or n.arrays a (zeros 1 0))))) is.arrays_are
    ∙ (ap (λ ws. slice_set s.arrays r (slice_set n.arrays a (unpacked cut rs ws (slice_index_or n.arrays a (zeros 1 0))))) words
    ∙ ap (λ cs. slice_set s.arrays r (slice_set cs a (unpacked cut rs (slice_index_or (s.waits from r) 0 []) (slice_index_or cs a (zeros 1 0))))) (sym held)))) finds
shown_by (Copy a rs b ts cut) r w s n is here finds =
    let held : slice_index_or s.arrays r [] ≡ n.arrays = get_held w.nodes s.arrays r n is.arrays_are here in
    record {
      arrays_are = map-set arrays_held w.nodes r (rank_acted n (Copy a rs b ts cut))
          ∙ (ap (λ ys. slice_set ys r (slice_set n.arrays b (unpacked cut ts (packed cut rs (slice_index_or n.arrays a (zeros 1 0))) (slice_index_or n.arrays b (zeros 1 0))))) is.arrays_are
          ∙ ap (λ cs. slice_set s.arrays r (slice_set cs b (unpacked cut ts (packed cut rs (slice_index_or cs a (zeros 1 0))) (slice_index_or cs b (zeros 1 0))))) (sym held));
      waits_are = is.waits_are;
      taken_were_sent = is.taken_were_sent;
    }
shown_by (LoadAcc a region k) r w s n is here finds = absurd finds
shown_by (PutAcc to m pairs) r w s n is here finds = absurd finds
shown_by (JoinAcc from m fold) r w s n is here finds = absurd finds
shown_by (GetAcc from m pairs) r w s n is here finds = absurd finds
shown_by (StoreAcc a region coords) r w s n is here finds = absurd finds
shown_by (Pulse peer sends) r w s n is here finds = pulse_shown sends peer r w s n is here finds

-- a receive finds its message
finds_by : (o : RankOp) (r : ℕ) (s : GridState) → Finds o r s → FindsBy (rank_kind o) r s
finds_by (Put to a rs cut) r s finds = tt
finds_by (Get from a rs cut) r s finds = finds
finds_by (Copy a rs b ts cut) r s finds = tt
finds_by (LoadAcc a region k) r s finds = absurd finds
finds_by (PutAcc to m pairs) r s finds = absurd finds
finds_by (JoinAcc from m fold) r s finds = absurd finds
finds_by (GetAcc from m pairs) r s finds = absurd finds
finds_by (StoreAcc a region coords) r s finds = absurd finds
finds_by (Pulse peer sends) r s finds = finds

some_arrays : (m : Option (List LocalCells)) (o : RankOp) → IsSomeAnd m (λ cs. CanDoIn (map size_of cs) o) → (cs : List LocalCells) × (m ≡ Some cs) × CanDoIn (map size_of cs) o
some_arrays (Some cs) o h = (cs, refl, h)
some_arrays None o h = absurd h

can_by : (K : Kind) (r : ℕ) (w : World RankState) (s : GridState) → Shows w s → FindsBy K r s → CanBy rank_steps rank_nodes K r w
can_by (Send to len) r w s is h = tt
can_by (Recv from len) r w s is h =
    let first : waiting w from r ≡ slice_get (s.waits from r) 0 = get_drop (w.sent from r) (w.taken from r) ∙ ap (λ l. slice_get l 0) (is.waits_are from r) in
    subst (λ (m : Option (List ℤ)). IsSomeAnd m (HasLength len)) (sym first) h
can_by Local r w s is h = tt

-- what can be done by the state shown can be done, and the world shows the state after it
pub shown_in_order : (xs : List (ℕ × RankOp)) (w : World RankState) (s : GridState) → Shows w s → GridCanGo xs s → HasRoom xs w.nodes → CanGo rank_steps rank_nodes xs w × Shows (in_order rank_steps rank_nodes xs w) (grid_after xs s)
shown_in_order [] w s is can room = (tt, is)
shown_in_order (x ∷ xs) w s is can room =
    let cs = some_arrays (slice_get s.arrays x.0) x.1 can.0.able in
    let n = node_held w.nodes s.arrays x.0 cs.0 is.arrays_are cs.1 in
    let able : CanDoIn (map size_of (n.0).arrays) x.1 = subst (λ (cs : List LocalCells). CanDoIn (map size_of cs) x.1) (sym n.2) cs.2 in
    let by : after_step rank_steps rank_nodes w x ≡ world_by rank_steps rank_nodes (rank_kind x.1) x.0 x.1 n.0 w = ap (λ q. world_with rank_steps rank_nodes q x.0 x.1 w) n.1 in
    let step : Shows (after_step rank_steps rank_nodes w x) (grid_by x.0 x.1 s) = subst (λ (u : World RankState). Shows u (grid_by x.0 x.1 s)) (sym by) (shown_by x.1 x.0 w s n.0 is n.1 can.0.finds) in
    let does : IsSomeAnd (slice_get w.nodes x.0) (λ p. CanDo p x.1) = subst (λ (m : Option RankState). IsSomeAnd m (λ p. CanDo p x.1)) (sym n.1) (able, room_first x xs w.nodes n.0 room n.1) in
    let later : HasRoom xs (after_step rank_steps rank_nodes w x).nodes = room_along xs w.nodes (after_step rank_steps rank_nodes w x).nodes (sym (held_step (slice_get w.nodes x.0) x w refl does)) (room_rest x xs w.nodes room) in
    let rest = shown_in_order xs (after_step rank_steps rank_nodes w x) (grid_by x.0 x.1 s) step can.1 later in
    ((does, can_by (rank_kind x.1) x.0 w s is (finds_by x.1 x.0 s can.0.finds), rest.0), rest.1)
