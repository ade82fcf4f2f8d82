-- What each operation of a rank does to the state that a world shows. (These laws belong beside GridState, in pack_words.)
use Rattle.std.specs.Prelude.{◌≡◌, ◌≢◌, ◌⊎◌, ℕ, zero, suc, ◌+◌, ◌<◌, ◌≤◌, ℤ, List, [], ◌∷◌, ◌++◌, length, map, drop, slice_get, slice_set, slice_index_or, Option, Some, IsSomeAnd}
use Rattle.std.proofs.Common.{sym, ap, ◌∙◌, subst, refl, inl, inr, arith}
use Rattle.std.proofs.lemmas.List.{length-append, drop-append-le, map-set}
use Rattle.msg_core.specs.InOrder.{World, queue, waiting, or_none, at_pair, after_step, in_order, HasLength, CanBy, CanGo}
use Rattle.msg_core.proofs.Pairs.{at_cases, at_else, at_here}
use Rattle.msg_core.proofs.GrowingPlans.{step_is}
use Rattle.pack_words.specs.declared.cut.Cut.{Cut}
use Rattle.pack_words.specs.declared.region.Region.{Region}
use Rattle.pack_words.specs.declared.rank_op.RankOp.{RankOp}
use Rattle.pack_words.specs.declared.rank_op.RankOp.TheVariants.{Put, Get, Copy}
use Rattle.pack_words.specs.LocalCells.{LocalCells, zeros}
use Rattle.pack_words.specs.Packing.{packed, unpacked, selected_count}
use Rattle.pack_words.specs.RankOps.{RankState, size_of, CanDoIn, CanDo, elements_used, rank_kind}
use Rattle.pack_words.specs.GridState.{GridState, Shows, rank_steps, rank_nodes}
use Rattle.mr2d.specs.Homes.{Arrays, cells_of}
use Rattle.mr2d.specs.Pairs.{with_cells}

-- the state with one more message of a pair
abbrev pub with_message : GridState → ℕ → ℕ → List ℤ → GridState
with_message s from to ws = record s { waits = at_pair s.waits from to (s.waits from to ++ ws ∷ []) }

-- the state whose messages of a pair are these
abbrev pub with_waits : GridState → ℕ → ℕ → List (List ℤ) → GridState
with_waits s from to rest = record s { waits = at_pair s.waits from to rest }

-- the state with another array
abbrev pub with_array_of : GridState → ℕ → ℕ → LocalCells → GridState
with_array_of s rank array c = record s { arrays = with_cells s.arrays rank array c }

-- the operation can be done next, and then the world shows that state
pub record Steps (x : ℕ × RankOp) (w : World RankState) (s : GridState) : Type 0 where
  pub can : IsSomeAnd (slice_get w.nodes x.0) (λ n. CanDo n x.1)
  pub fits : CanBy rank_steps rank_nodes (rank_kind x.1) x.0 w
  pub shows : Shows (after_step rank_steps rank_nodes w x) s

-- the operations can be done in their order, and then the world shows that state
pub record Reaches (xs : List (ℕ × RankOp)) (w : World RankState) (s : GridState) : Type 0 where
  pub can : CanGo rank_steps rank_nodes xs w
  pub shows : Shows (in_order rank_steps rank_nodes xs w) s

-- a rank's arrays
node_at : (nodes : List RankState) (r : ℕ) → r < length (map (λ n. n.arrays) nodes) → (n : RankState) × (slice_get nodes r ≡ Some n) × (n.arrays ≡ slice_index_or (map (λ n. n.arrays) nodes) r [])
node_at [] r lt = absurd (omega arith)
node_at (n ∷ ns) zero lt = (n, refl, refl)
node_at (n ∷ ns) (suc r) lt = node_at ns r (omega arith)

-- the rank of a world that shows the state
pub record Here (w : World RankState) (s : GridState) (r : ℕ) : Type 0 where
  pub node : RankState
  pub there : slice_get w.nodes r ≡ Some node
  pub is : node.arrays ≡ slice_index_or s.arrays r []

pub here : (w : World RankState) (s : GridState) (r : ℕ) → Shows w s → r < length s.arrays → Here w s r
here w s r h lt =
    let n = node_at w.nodes r (subst (λ (x : Arrays). r < length x) (sym h.arrays_are) lt) in
    record { node = n.0; there = n.1; is = n.2 ∙ ap (λ (x : Arrays). slice_index_or x r []) h.arrays_are }

can_here : (w : World RankState) (s : GridState) (r : ℕ) (o : RankOp) → Here w s r → CanDoIn (map size_of (slice_index_or s.arrays r [])) o → elements_used o ≡ 0 → IsSomeAnd (slice_get w.nodes r) (λ n. CanDo n o)
can_here w s r o n can none =
    let P : Option RankState → Type 0 = λ m. IsSomeAnd m (λ n. CanDo n o) in
    subst P (sym n.there) (subst (λ (cs : List LocalCells). CanDoIn (map size_of cs) o) (sym n.is) can, omega arith)

set_arrays : (w : World RankState) (s : GridState) (r : ℕ) (n : RankState) (cs : List LocalCells) → Shows w s → n.arrays ≡ cs → map (λ n. n.arrays) (slice_set w.nodes r n) ≡ slice_set s.arrays r cs
set_arrays w s r n cs h e = map-set (λ (n : RankState). n.arrays) w.nodes r n ∙ ap (λ (x : Arrays). slice_set x r n.arrays) h.arrays_are ∙ ap (slice_set s.arrays r) e

-- a send
pub step_put : (w : World RankState) (s : GridState) (from to a : ℕ) (rs : List Region) (cut : Cut) → Shows w s → from < length s.arrays → CanDoIn (map size_of (slice_index_or s.arrays from [])) (Put to a rs cut)
    → Steps (from, Put to a rs cut) w (with_message s from to (packed cut rs (cells_of s.arrays from a)))
step_put w s from to a rs cut h lt can =
    let n : Here w s from = here w s from h lt in
    let msg : List ℤ = packed cut rs (slice_index_or n.node.arrays a (zeros 1 0)) in
    let sent : List (List ℤ) = w.sent from to ++ msg ∷ [] in
    let same : msg ≡ packed cut rs (cells_of s.arrays from a) = ap (λ (cs : List LocalCells). packed cut rs (slice_index_or cs a (zeros 1 0))) n.is in
    record {
      can = can_here w s from (Put to a rs cut) n can refl;
      fits = tt;
      shows = subst (λ (v : World RankState). Shows v (with_message s from to (packed cut rs (cells_of s.arrays from a)))) (sym (step_is rank_steps rank_nodes (from, Put to a rs cut) w n.node n.there))
          (subst (λ (ws : List ℤ). Shows (record w { sent = at_pair w.sent from to sent }) (with_message s from to ws)) same
          (record { arrays_are = h.arrays_are; waits_are = λ f t. waits msg f t; taken_were_sent = λ f t. taken msg f t }));
    }
  where
    at : (msg : List ℤ) → queue (record w { sent = at_pair w.sent from to (w.sent from to ++ msg ∷ []) }) from to ≡ at_pair s.waits from to (s.waits from to ++ msg ∷ []) from to
    at msg =
        ap (drop (w.taken from to)) (at_here w.sent from to (w.sent from to ++ msg ∷ []))
        ∙ drop-append-le (w.taken from to) (w.sent from to) (msg ∷ []) (h.taken_were_sent from to)
        ∙ ap (λ xs. xs ++ msg ∷ []) (h.waits_are from to)
        ∙ sym (at_here s.waits from to (s.waits from to ++ msg ∷ []))

    waits : (msg : List ℤ) (f t : ℕ) → drop (w.taken f t) (at_pair w.sent from to (w.sent from to ++ msg ∷ []) f t) ≡ at_pair s.waits from to (s.waits from to ++ msg ∷ []) f t
    waits msg f t = step (at_cases w.sent from to (w.sent from to ++ msg ∷ []) f t)
      where
        step : (at_pair w.sent from to (w.sent from to ++ msg ∷ []) f t ≡ w.sent f t) × ((f ≢ from) ⊎ (t ≢ to)) ⊎ ((f ≡ from) × (t ≡ to) × (at_pair w.sent from to (w.sent from to ++ msg ∷ []) f t ≡ w.sent from to ++ msg ∷ []))
            → drop (w.taken f t) (at_pair w.sent from to (w.sent from to ++ msg ∷ []) f t) ≡ at_pair s.waits from to (s.waits from to ++ msg ∷ []) f t
        step (inl r) = ap (drop (w.taken f t)) r.0 ∙ h.waits_are f t ∙ sym (at_else s.waits from to (s.waits from to ++ msg ∷ []) f t r.1)
        step (inr r) =
            subst (λ (x : ℕ). drop (w.taken x t) (at_pair w.sent from to (w.sent from to ++ msg ∷ []) x t) ≡ at_pair s.waits from to (s.waits from to ++ msg ∷ []) x t) (sym r.0)
            (subst (λ (y : ℕ). drop (w.taken from y) (at_pair w.sent from to (w.sent from to ++ msg ∷ []) from y) ≡ at_pair s.waits from to (s.waits from to ++ msg ∷ []) from y) (sym r.1) (at msg))

    taken : (msg : List ℤ) (f t : ℕ) → w.taken f t ≤ length (at_pair w.sent from to (w.sent from to ++ msg ∷ []) f t)
    taken msg f t = step (at_cases w.sent from to (w.sent from to ++ msg ∷ []) f t)
      where
        step : (at_pair w.sent from to (w.sent from to ++ msg ∷ []) f t ≡ w.sent f t) × ((f ≢ from) ⊎ (t ≢ to)) ⊎ ((f ≡ from) × (t ≡ to) × (at_pair w.sent from to (w.sent from to ++ msg ∷ []) f t ≡ w.sent from to ++ msg ∷ [])) → w.taken f t ≤ length (at_pair w.sent from to (w.sent from to ++ msg ∷ []) f t)
        step (inl r) = let e = ap length r.0 in let k = h.taken_were_sent f t in omega arith
        step (inr r) =
            let e = ap length r.2 in let l = length-append (w.sent from to) (msg ∷ []) in
            let k : w.taken f t ≤ length (w.sent from to) = subst (λ (x : ℕ). w.taken x t ≤ length (w.sent from to)) (sym r.0) (subst (λ (y : ℕ). w.taken from y ≤ length (w.sent from to)) (sym r.1) (h.taken_were_sent from to)) in
            omega arith

-- a copy
pub step_copy : (w : World RankState) (s : GridState) (r a b : ℕ) (rs ts : List Region) (cut : Cut) → Shows w s → r < length s.arrays → CanDoIn (map size_of (slice_index_or s.arrays r [])) (Copy a rs b ts cut)
    → Steps (r, Copy a rs b ts cut) w (with_array_of s r b (unpacked cut ts (packed cut rs (cells_of s.arrays r a)) (cells_of s.arrays r b)))
step_copy w s r a b rs ts cut h lt can =
    let n : Here w s r = here w s r h lt in
    let after : List LocalCells → List LocalCells = λ cs. slice_set cs b (unpacked cut ts (packed cut rs (slice_index_or cs a (zeros 1 0))) (slice_index_or cs b (zeros 1 0))) in
    record {
      can = can_here w s r (Copy a rs b ts cut) n can refl;
      fits = tt;
      shows = subst (λ (v : World RankState). Shows v (with_array_of s r b (unpacked cut ts (packed cut rs (cells_of s.arrays r a)) (cells_of s.arrays r b)))) (sym (step_is rank_steps rank_nodes (r, Copy a rs b ts cut) w n.node n.there))
          (record { arrays_are = set_arrays w s r (record n.node { arrays = after n.node.arrays }) (after (slice_index_or s.arrays r [])) h (ap after n.is); waits_are = h.waits_are; taken_were_sent = h.taken_were_sent });
    }

-- what waits first
first_of : (xs : List (List ℤ)) (k : ℕ) (ws : List ℤ) (rest : List (List ℤ)) → drop k xs ≡ ws ∷ rest → (slice_get xs k ≡ Some ws) × (drop (k + 1) xs ≡ rest) × (k < length xs)
first_of [] zero ws rest e = cc
first_of [] (suc k) ws rest e = cc
first_of (x ∷ xs) zero ws rest e = (cc, cc, omega arith)
first_of (x ∷ xs) (suc k) ws rest e = let r = first_of xs k ws rest e in let l = r.2 in let e : suc k + 1 ≡ suc (k + 1) = omega arith in (r.0, ap (λ n. drop n (x ∷ xs)) e ∙ r.1, omega arith)

-- a receive, where a message waits that has its length
pub step_get : (w : World RankState) (s : GridState) (from to b : ℕ) (ts : List Region) (cut : Cut) (ws : List ℤ) (rest : List (List ℤ)) → Shows w s → to < length s.arrays → CanDoIn (map size_of (slice_index_or s.arrays to [])) (Get from b ts cut)
    → s.waits from to ≡ ws ∷ rest → length ws ≡ selected_count cut ts
    → Steps (to, Get from b ts cut) w (with_waits (with_array_of s to b (unpacked cut ts ws (cells_of s.arrays to b))) from to rest)
step_get w s from to b ts cut ws rest h lt can waits_so long =
    let n : Here w s to = here w s to h lt in
    let f = first_of (w.sent from to) (w.taken from to) ws rest (h.waits_are from to ∙ waits_so) in
    let after : List ℤ → List LocalCells → List LocalCells = λ ws cs. slice_set cs b (unpacked cut ts ws (slice_index_or cs b (zeros 1 0))) in
    let first : or_none (waiting w from to) ≡ ws = ap or_none f.0 in
    let P : Option (List ℤ) → Type 0 = λ m. IsSomeAnd m (HasLength (selected_count cut ts)) in
    record {
      can = can_here w s to (Get from b ts cut) n can refl;
      fits = subst P (sym f.0) long;
      shows = subst (λ (v : World RankState). Shows v (with_waits (with_array_of s to b (unpacked cut ts ws (cells_of s.arrays to b))) from to rest)) (sym (step_is rank_steps rank_nodes (to, Get from b ts cut) w n.node n.there))
          (record {
            arrays_are = set_arrays w s to (record n.node { arrays = after (or_none (waiting w from to)) n.node.arrays }) (after ws (slice_index_or s.arrays to [])) h (ap (λ v. after v n.node.arrays) first ∙ ap (after ws) n.is);
            waits_are = λ x y. waits f.1 x y;
            taken_were_sent = λ x y. taken f.2 x y;
          });
    }
  where
    waits : drop (w.taken from to + 1) (w.sent from to) ≡ rest → (x y : ℕ) → drop (at_pair w.taken from to (w.taken from to + 1) x y) (w.sent x y) ≡ at_pair s.waits from to rest x y
    waits left x y = step (at_cases w.taken from to (w.taken from to + 1) x y)
      where
        step : (at_pair w.taken from to (w.taken from to + 1) x y ≡ w.taken x y) × ((x ≢ from) ⊎ (y ≢ to)) ⊎ ((x ≡ from) × (y ≡ to) × (at_pair w.taken from to (w.taken from to + 1) x y ≡ w.taken from to + 1))
            → drop (at_pair w.taken from to (w.taken from to + 1) x y) (w.sent x y) ≡ at_pair s.waits from to rest x y
        step (inl r) = ap (λ k. drop k (w.sent x y)) r.0 ∙ h.waits_are x y ∙ sym (at_else s.waits from to rest x y r.1)
        step (inr r) =
            ap (λ k. drop k (w.sent x y)) r.2 ∙ ap (λ i. drop (w.taken from to + 1) (w.sent i y)) r.0 ∙ ap (λ j. drop (w.taken from to + 1) (w.sent from j)) r.1 ∙ left
            ∙ sym (at_here s.waits from to rest) ∙ sym (ap (λ i. at_pair s.waits from to rest i y) r.0 ∙ ap (λ j. at_pair s.waits from to rest from j) r.1)

    taken : w.taken from to < length (w.sent from to) → (x y : ℕ) → at_pair w.taken from to (w.taken from to + 1) x y ≤ length (w.sent x y)
    taken low x y = step (at_cases w.taken from to (w.taken from to + 1) x y)
      where
        step : (at_pair w.taken from to (w.taken from to + 1) x y ≡ w.taken x y) × ((x ≢ from) ⊎ (y ≢ to)) ⊎ ((x ≡ from) × (y ≡ to) × (at_pair w.taken from to (w.taken from to + 1) x y ≡ w.taken from to + 1)) → at_pair w.taken from to (w.taken from to + 1) x y ≤ length (w.sent x y)
        step (inl r) = let e = r.0 in let k = h.taken_were_sent x y in omega arith
        step (inr r) =
            let e = r.2 in
            let k : w.taken from to < length (w.sent x y) = subst (λ (i : ℕ). w.taken from to < length (w.sent i y)) (sym r.0) (subst (λ (j : ℕ). w.taken from to < length (w.sent from j)) (sym r.1) low) in
            omega arith

-- one after the other
pub reaches_none : (w : World RankState) (s : GridState) → Shows w s → Reaches [] w s
reaches_none w s h = record { can = tt; shows = h }

pub reaches_one : (x : ℕ × RankOp) (w : World RankState) (s : GridState) → Steps x w s → Reaches (x ∷ []) w s
reaches_one x w s h = record { can = (h.can, h.fits, tt); shows = h.shows }

pub reaches_more : (xs ys : List (ℕ × RankOp)) (w : World RankState) (s t : GridState) → Reaches xs w s → Reaches ys (in_order rank_steps rank_nodes xs w) t → Reaches (xs ++ ys) w t
reaches_more [] ys w s t a b = b
reaches_more (x ∷ xs) ys w s t a b =
    let rest : Reaches (xs ++ ys) (after_step rank_steps rank_nodes w x) t = reaches_more xs ys (after_step rank_steps rank_nodes w x) s t (record { can = a.can.2; shows = a.shows }) b in
    record { can = (a.can.0, a.can.1, rest.can); shows = rest.shows }

-- a world shows a state as well as its equal
pub shows_same : (w : World RankState) (s t : GridState) → Shows w s → s.arrays ≡ t.arrays → ((from to : ℕ) → s.waits from to ≡ t.waits from to) → Shows w t
shows_same w s t h e f = record { arrays_are = h.arrays_are ∙ e; waits_are = λ from to. h.waits_are from to ∙ f from to; taken_were_sent = h.taken_were_sent }
