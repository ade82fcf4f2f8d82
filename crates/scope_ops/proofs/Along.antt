-- A broadcast along the edges of a route.
use Rattle.std.specs.Prelude.{◌≡◌, ◌≢◌, ℕ, zero, suc, ◌+◌, ◌<◌, Bool, true, false, cond, not, ◌&&◌, ◌||◌, nat_eq, Option, Some, None, ℤ, List, [], ◌∷◌, ◌++◌, length, map, take, drop, slice_get, slice_index, slice_index_or, slice_set, IsSomeAnd}
use Rattle.std.specs.List.{list_any}
use Rattle.std.proofs.Common.{sym, ap, ◌∙◌, refl, subst, inl, inr, arith}
use Rattle.std.proofs.lemmas.Bool.Decides.{eqb_tells}
use Rattle.std.proofs.lemmas.List.{get_or-set_same}
use Rattle.std.proofs.lemmas.Option.{get_or_from_slice_get}
use Rattle.msg_core.specs.InOrder.{HasLength}
use Rattle.msg_core.specs.Plans.{PlanView, waiting_lens}
use Rattle.std.proofs.lemmas.List.{length-map}
use Rattle.msg_core.proofs.Lists.{same_places, get_take, take_at, get_within, within_get, get_set_same, get_set_other}
use Rattle.msg_core.proofs.Pairs.{at_cases, at_here, at_else}
use Rattle.route_tree.specs.Routes.{IsEdge, IsRoute}
use Rattle.pack_words.specs.declared.shape.Shape.{Shape}
use Rattle.pack_words.specs.declared.rank_op.RankOp.{RankOp}
use Rattle.pack_words.specs.LocalCells.{LocalCells, zeros}
use Rattle.pack_words.specs.Packing.{packed, unpacked, words_at, with_words, selected_count}
use Rattle.pack_words.specs.RankOps.{size_of, CanDoIn}
use Rattle.pack_words.specs.GridState.{GridState, Means, IsSame, rank_steps}
use Rattle.pack_words.specs.GridSteps.{arrays_in, array_in, with_message, first_message, without_message, grid_by, grid_after, GridCan, GridCanGo}
use Rattle.pack_words.specs.GridShapes.{ShapesView, shape_of, HasShapes}
use Rattle.pack_words.specs.GridPlans.{IsOf}
use Rattle.pack_words.specs.Parts.{part_spots}
use Rattle.pack_words.proofs.PartLaws.{part_is_region, part_in_shape, part_once, part_read_back, part_long}
use Rattle.pack_words.proofs.Shaped.{is_held, held_regions}
use Rattle.pack_words.proofs.Kept.{means_by, grid_shapes}
use Rattle.scope_ops.specs.declared.part.Part.{Part}
use Rattle.scope_ops.specs.declared.part.Spot.{Spot}
use Rattle.scope_ops.specs.Parts.{part_from, cut_of}
use Rattle.scope_ops.specs.Lines.{words_of, assigned_to, numbered_from, received, given_to, is_other, broadcast_line}
use Rattle.scope_ops.specs.Ops.{regions_of, put_of, get_of, Fits}
use Rattle.scope_ops.specs.Broadcasts.{part_sent, edge_ops, AreMembers, AllFit, IsQuiet}
use Rattle.scope_ops.proofs.Fitting.{is_part, is_good}

-- one member sends and another receives, and no message of the pair waited
sent_words : (u : GridState) (a : ℕ) (shape : Shape) (p : Part) → packed (cut_of shape p) (regions_of shape p) (array_in u a p.array) ≡ words_of shape p (array_in u a p.array)
sent_words u a shape p = ap (λ ss. words_at (array_in u a p.array) ss) (part_is_region (cut_of shape p) p.i p.j)

message_there : (u : GridState) (a b : ℕ) (ws : List ℤ) → u.waits a b ≡ [] → (with_message u a b ws).waits a b ≡ ws ∷ []
message_there u a b ws quiet = at_here u.waits a b (u.waits a b ++ ws ∷ []) ∙ ap (λ l. l ++ ws ∷ []) quiet

pair_waits : (u : GridState) (a b : ℕ) (ws : List ℤ) (css : List (List LocalCells)) → u.waits a b ≡ [] → (i j : ℕ) → (without_message (record { arrays = css; waits = (with_message u a b ws).waits }) a b).waits i j ≡ u.waits i j
pair_waits u a b ws css quiet i j =
    let more : ℕ → ℕ → List (List ℤ) = (with_message u a b ws).waits in
    elim (at_cases more a b (drop 1 (more a b)) i j) [
      | inl h ↦ h.0 ∙ at_else u.waits a b (u.waits a b ++ ws ∷ []) i j h.1
      | inr h ↦ h.2 ∙ (ap (drop 1) (message_there u a b ws quiet) ∙ (sym quiet ∙ (ap (λ x. u.waits x b) (sym h.0) ∙ ap (λ y. u.waits i y) (sym h.1))))
    ]

pair_arrays : (u : GridState) (a b : ℕ) (shape : Shape) (p t : Part) (ws : List ℤ) → u.waits a b ≡ [] → words_of shape p (array_in u a p.array) ≡ ws
    → (grid_by b (get_of a shape t) (grid_by a (put_of b shape p) u)).arrays ≡ slice_set u.arrays b (received shape t ws (arrays_in u b))
pair_arrays u a b shape p t ws quiet e =
    let sent : List ℤ = packed (cut_of shape p) (regions_of shape p) (array_in u a p.array) in
    let is : sent ≡ ws = sent_words u a shape p ∙ e in
    let first : first_message (with_message u a b sent) a b ≡ ws = ap (λ l. slice_index_or l 0 []) (message_there u a b sent quiet) ∙ is in
    ap (λ m. slice_set u.arrays b (slice_set (arrays_in u b) t.array (unpacked (cut_of shape t) (regions_of shape t) m (array_in u b t.array)))) first
    ∙ ap (λ ss. slice_set u.arrays b (slice_set (arrays_in u b) t.array (with_words (array_in u b t.array) ss ws))) (part_is_region (cut_of shape t) t.i t.j)

can_put : (v : ShapesView) (u : GridState) (a b : ℕ) (shape : Shape) (p : Part) → HasShapes v u → a < v.ranks → p.array < v.count → Fits (shape_of v a p.array) p → GridCan a (put_of b shape p) u
can_put v u a b shape p shaped la lp fits =
    let size : ℕ × ℕ = shape_of v a p.array in
    let held = is_held v u a p.array shaped la lp in
    let able : CanDoIn (map size_of held.arrays) (put_of b shape p) = ((is_good size shape p fits).moved, held_regions v u a p.array (regions_of shape p) held (part_in_shape size (cut_of shape p) p.i p.j (is_part size shape p fits))) in
    record { able = subst (λ (m : Option (List LocalCells)). IsSomeAnd m (λ cs. CanDoIn (map size_of cs) (put_of b shape p))) (sym held.here) able; finds = tt }

can_get : (v : ShapesView) (u : GridState) (a b : ℕ) (shape : Shape) (t : Part) (ws : List ℤ) (rest : List (List ℤ)) → HasShapes v u → b < v.ranks → t.array < v.count → Fits (shape_of v b t.array) t → u.waits a b ≡ ws ∷ rest → length ws ≡ selected_count (cut_of shape t) (regions_of shape t) → GridCan b (get_of a shape t) u
can_get v u a b shape t ws rest shaped lb lt fits waits long =
    let size : ℕ × ℕ = shape_of v b t.array in
    let held = is_held v u b t.array shaped lb lt in
    let able : CanDoIn (map size_of held.arrays) (get_of a shape t) = ((is_good size shape t fits).moved, held_regions v u b t.array (regions_of shape t) held (part_in_shape size (cut_of shape t) t.i t.j (is_part size shape t fits)), part_once (cut_of shape t) t.i t.j) in
    record {
      able = subst (λ (m : Option (List LocalCells)). IsSomeAnd m (λ cs. CanDoIn (map size_of cs) (get_of a shape t))) (sym held.here) able;
      finds = subst (λ (l : List (List ℤ)). IsSomeAnd (slice_get l 0) (HasLength (selected_count (cut_of shape t) (regions_of shape t)))) (sym waits) long;
    }

-- each rank's arrays by its number
numbered_get : {X : Type 0} (k : ℕ) (f : ℕ → X → X) (xs : List X) (r : ℕ) (x : X) → slice_get xs r ≡ Some x → slice_get (numbered_from k f xs) r ≡ Some (f (k + r) x)
numbered_get k f [] r x e = cc
numbered_get k f (y ∷ xs) zero x e = let h : y ≡ x = cc in ap (λ z. Some (f k z)) h ∙ ap (λ n. Some (f n x)) (let z : k ≡ k + 0 = omega arith in z)
numbered_get k f (y ∷ xs) (suc r) x e = numbered_get (suc k) f xs r x e ∙ ap (λ n. Some (f n x)) (let z : suc k + r ≡ k + suc r = omega arith in z)

pub numbered_past : {X : Type 0} (k : ℕ) (f : ℕ → X → X) (xs : List X) (r : ℕ) → slice_get xs r ≡ None → slice_get (numbered_from k f xs) r ≡ None
numbered_past k f [] r e = refl
numbered_past k f (y ∷ xs) zero e = cc
numbered_past k f (y ∷ xs) (suc r) e = numbered_past (suc k) f xs r e

pub numbered_same : {X : Type 0} (k : ℕ) (f g : ℕ → X → X) (xs : List X) → ((r : ℕ) (x : X) → f r x ≡ g r x) → numbered_from k f xs ≡ numbered_from k g xs
numbered_same k f g [] h = refl
numbered_same k f g (x ∷ xs) h = ap (λ y. y ∷ numbered_from (suc k) f xs) (h k x) ∙ ap (λ l. g k x ∷ l) (numbered_same (suc k) f g xs h)

pub numbered_kept : {X : Type 0} (k : ℕ) (f : ℕ → X → X) (xs : List X) → ((r : ℕ) (x : X) → f r x ≡ x) → numbered_from k f xs ≡ xs
numbered_kept k f [] h = refl
numbered_kept k f (x ∷ xs) h = ap (λ y. y ∷ numbered_from (suc k) f xs) (h k x) ∙ ap (λ l. x ∷ l) (numbered_kept (suc k) f xs h)

-- the element of that number, if there is one, comes from there
pub from_zero : {X : Type 0} (f : ℕ → X → X) (xs : List X) (r : ℕ) (x : X) → slice_get xs r ≡ Some x → slice_get (numbered_from 0 f xs) r ≡ Some (f r x)
from_zero f xs r x e = numbered_get 0 f xs r x e ∙ ap (λ n. Some (f n x)) (let z : 0 + r ≡ r = omega arith in z)

-- one element more passes the test
numbered_set : {X : Type 0} (f g : ℕ → X → X) (xs : List X) (t : ℕ) (x : X) → slice_get xs t ≡ Some x → ((r : ℕ) (y : X) → r ≢ t → f r y ≡ g r y) → slice_set (numbered_from 0 f xs) t (g t x) ≡ numbered_from 0 g xs
numbered_set {X = X} f g xs t x here h = same_places (slice_set (numbered_from 0 f xs) t (g t x)) (numbered_from 0 g xs) (λ r. elim (eqb_tells r t) [
  | inl k ↦ ap (λ n. slice_get (slice_set (numbered_from 0 f xs) t (g t x)) n) k.1 ∙ (get_set_same (numbered_from 0 f xs) t (f t x) (g t x) (from_zero f xs t x here) ∙ (sym (from_zero g xs t x here) ∙ ap (λ n. slice_get (numbered_from 0 g xs) n) (sym k.1)))
  | inr k ↦ get_set_other (numbered_from 0 f xs) t r (g t x) k.1 ∙ other r k.1 (slice_get xs r) refl
]) where
  other : (r : ℕ) → r ≢ t → (m : Option X) → slice_get xs r ≡ m → slice_get (numbered_from 0 f xs) r ≡ slice_get (numbered_from 0 g xs) r
  other r ne None e = numbered_past 0 f xs r e ∙ sym (numbered_past 0 g xs r e)
  other r ne (Some y) e = from_zero f xs r y e ∙ (ap (λ z. Some z) (h r y ne) ∙ sym (from_zero g xs r y e))

-- tests of lists
pub any_true : {X : Type 0} (p : X → Bool) (xs : List X) (k : ℕ) (x : X) → slice_get xs k ≡ Some x → p x ≡ true → list_any p xs ≡ true
any_true p [] k x e h = cc
any_true p (y ∷ xs) zero x e h = let same : y ≡ x = cc in ap (λ z. p z || list_any p xs) same ∙ ap (λ b. b || list_any p xs) h
any_true p (y ∷ xs) (suc k) x e h = ap (λ b. p y || b) (any_true p xs k x e h) ∙ or_true (p y) where
  or_true : (b : Bool) → (b || true) ≡ true
  or_true true = refl
  or_true false = refl

pub any_false : {X : Type 0} (p : X → Bool) (xs : List X) → ((k : ℕ) (x : X) → slice_get xs k ≡ Some x → p x ≡ false) → list_any p xs ≡ false
any_false p [] h = refl
any_false p (y ∷ xs) h = ap (λ b. b || list_any p xs) (h 0 y refl) ∙ any_false p xs (λ k x e. h (suc k) x e)

any_end : {X : Type 0} (p : X → Bool) (xs : List X) (x : X) → list_any p (xs ++ x ∷ []) ≡ (list_any p xs || p x)
any_end p [] x = or_false (p x) where
  or_false : (b : Bool) → (b || false) ≡ b
  or_false true = refl
  or_false false = refl
any_end p (y ∷ xs) x = ap (λ b. p y || b) (any_end p xs x) ∙ or_assoc (p y) (list_any p xs) (p x) where
  or_assoc : (a b c : Bool) → (a || (b || c)) ≡ (a || b || c)
  or_assoc true b c = refl
  or_assoc false b c = refl

some_after : {X : Type 0} (p : X → Bool) (y : X) (xs : List X) (b : Bool) → p y ≡ b → (list_any p xs ≡ true → (k : ℕ) × (x : X) × (slice_get xs k ≡ Some x) × (p x ≡ true)) → (b || list_any p xs) ≡ true
    → (k : ℕ) × (x : X) × (slice_get (y ∷ xs) k ≡ Some x) × (p x ≡ true)
some_after p y xs true e rest h = (0, y, refl, e)
some_after p y xs false e rest h = let r = rest h in (suc r.0, r.1, r.2, r.3)

pub any_some : {X : Type 0} (p : X → Bool) (xs : List X) → list_any p xs ≡ true → (k : ℕ) × (x : X) × (slice_get xs k ≡ Some x) × (p x ≡ true)
any_some p [] h = cc
any_some p (y ∷ xs) h = some_after p y xs (p y) refl (λ k. any_some p xs k) h

bool_same : (a b : Bool) → (a ≡ true → b ≡ true) → (b ≡ true → a ≡ true) → a ≡ b
bool_same true true f g = refl
bool_same false false f g = refl
bool_same true false f g = sym (f refl)
bool_same false true f g = g refl

pub differs : (a b : ℕ) → a ≢ b → nat_eq a b ≡ false
differs a b ne = elim (eqb_tells a b) [ inl h ↦ absurd (ne h.1) | inr h ↦ h.0 ]

pub equals : (a b : ℕ) → a ≡ b → nat_eq a b ≡ true
equals a b e = elim (eqb_tells a b) [ inl h ↦ h.0 | inr h ↦ absurd (h.1 e) ]

pub tells : (a b : ℕ) → nat_eq a b ≡ true → a ≡ b
tells a b e = elim (eqb_tells a b) [ inl h ↦ h.1 | inr h ↦ let x : true ≡ false = sym e ∙ h.0 in (cc) ]

take_get : {X : Type 0} (xs : List X) (i k : ℕ) (x : X) → k < i → slice_get xs k ≡ Some x → slice_get (take i xs) k ≡ Some x
take_get xs zero k x lt e = absurd (omega arith)
take_get [] (suc i) k x lt e = cc
take_get (y ∷ xs) (suc i) zero x lt e = e
take_get (y ∷ xs) (suc i) (suc k) x lt e = take_get xs i k x (omega arith) e

drop_next : {X : Type 0} (xs : List X) (i : ℕ) (x : X) (rest : List X) → drop i xs ≡ x ∷ rest → (slice_get xs i ≡ Some x) × (drop (suc i) xs ≡ rest)
drop_next [] zero x rest e = cc
drop_next [] (suc i) x rest e = cc
drop_next (y ∷ xs) zero x rest e = ((cc), (cc))
drop_next (y ∷ xs) (suc i) x rest e = drop_next xs i x rest e

abbrev member : List ℕ → ℕ → ℕ
member members k = slice_index members k

-- rank r is the end of one of the first i edges
abbrev reached : List ℕ → List (ℕ × ℕ) → ℕ → ℕ → Bool
reached members edges i r = list_any (λ e. nat_eq (member members e.1) r) (take i edges)

abbrev change : (ℕ → Bool) → Shape → Part → List ℤ → ℕ → List LocalCells → List LocalCells
change test shape part ws r cs = cond (test r) (received shape part ws cs) cs

-- a grid state after the first i edges
record IsAfter (v : ShapesView) (members : List ℕ) (edges : List (ℕ × ℕ)) (shape : Shape) (target : Part) (ws : List ℤ) (s : GridState) (i : ℕ) (u : GridState) : Type 0 where
  pub shaped : HasShapes v u
  pub arrays_are : u.arrays ≡ numbered_from 0 (change (reached members edges i) shape target ws) s.arrays
  pub waits_are : (a b : ℕ) → u.waits a b ≡ s.waits a b

-- the arrays of a rank after the first i edges
arrays_after : (v : ShapesView) (members : List ℕ) (edges : List (ℕ × ℕ)) (shape : Shape) (target : Part) (ws : List ℤ) (s : GridState) (i : ℕ) (u : GridState) (r : ℕ) (cs : List LocalCells) (b : Bool) → IsAfter v members edges shape target ws s i u → slice_get s.arrays r ≡ Some cs → reached members edges i r ≡ b
    → arrays_in u r ≡ cond b (received shape target ws cs) cs
arrays_after v members edges shape target ws s i u r cs b is here test =
    ap (λ css. slice_index_or css r []) is.arrays_are
    ∙ (get_or_from_slice_get (numbered_from 0 (change (reached members edges i) shape target ws) s.arrays) r (change (reached members edges i) shape target ws r cs) [] (from_zero (change (reached members edges i) shape target ws) s.arrays r cs here)
    ∙ ap (λ t. cond t (received shape target ws cs) cs) test)

module _ (v : ShapesView) (members : List ℕ) (edges : List (ℕ × ℕ)) (source : ℕ) (shape : Shape) (part : Part) (rcv : Spot) (s : GridState) (ms : AreMembers v.ranks members) (fit : AllFit v members source part rcv) (route : IsRoute (length members) source edges) (there : source < length members) (shaped : HasShapes v s)
    (quiet : (j k : ℕ) → j < length members → k < length members → j ≢ k → s.waits (slice_index members j) (slice_index members k) ≡ []) where
  abbrev words : List ℤ
  words = words_of shape part (array_in s (member members source) part.array)

  abbrev After : ℕ → GridState → Type 0
  After i u = IsAfter v members edges shape (part_from rcv part) words s i u

  -- an end of an edge is reached by no earlier one
  only_once : (i j f g t : ℕ) → IsEdge edges i f t → IsEdge edges j g t → i ≡ j
  only_once i j f g t e d =
      let h = route.reached t (route.ends i f t e).1 (route.not_source i f t e) in
      h.once i f e ∙ sym (h.once j g d)

  edge_end : (k : ℕ) (x : ℕ × ℕ) → slice_get edges k ≡ Some x → x.1 < length members
  edge_end k x e = (route.ends k x.0 x.1 e).1

  not_yet : (i f t : ℕ) → IsEdge edges i f t → reached members edges i (member members t) ≡ false
  not_yet i f t e = any_false (λ x. nat_eq (member members x.1) (member members t)) (take i edges) (λ k x d.
      let at = get_take edges i k x d in
      differs (member members x.1) (member members t) (λ same.
      let one : x.1 ≡ t = ms.distinct x.1 t (edge_end k x at.0) (route.ends i f t e).1 same in
      let d' : IsEdge edges k x.0 t = subst (λ (y : ℕ). slice_get edges k ≡ Some (x.0, y)) one at.0 in
      let both : k ≡ i = only_once k i x.0 f t d' e in
      let lt = at.1 in
      absurd (omega arith)))

  source_not : (i : ℕ) → reached members edges i (member members source) ≡ false
  source_not i = any_false (λ x. nat_eq (member members x.1) (member members source)) (take i edges) (λ k x d.
      let at = get_take edges i k x d in
      differs (member members x.1) (member members source) (λ same. route.not_source k x.0 x.1 at.0 (ms.distinct x.1 source (edge_end k x at.0) there same)))

  held_before : (i f t : ℕ) → IsEdge edges i f t → (f ≢ source) → reached members edges i (member members f) ≡ true
  held_before i f t e ne = elim (route.earlier i f t e) [
    | inl h ↦ absurd (ne h)
    | inr h ↦ any_true (λ x. nat_eq (member members x.1) (member members f)) (take i edges) h.0 (h.1, f) (take_get edges i h.0 (h.1, f) h.2 h.3) (equals (member members f) (member members f) refl)
  ]

  apart : (i f t : ℕ) → IsEdge edges i f t → f ≢ t
  apart i f t e same = elim (route.earlier i f t e) [
    | inl h ↦ route.not_source i f t e (sym same ∙ h)
    | inr h ↦
        let d : IsEdge edges h.0 h.1 t = subst (λ (y : ℕ). IsEdge edges h.0 h.1 y) same h.3 in
        let both : h.0 ≡ i = only_once h.0 i h.1 f t d e in
        let lt = h.2 in
        absurd (omega arith)
  ]

  words_long : length words ≡ length (part_spots (cut_of shape part) part.i part.j)
  words_long = length-map (part_spots (cut_of shape part) part.i part.j) _

  -- the sender of an edge sends the source's words
  sends_words : (i f t : ℕ) (u : GridState) → IsEdge edges i f t → After i u → words_of shape (part_sent source part rcv f) (array_in u (member members f) (part_sent source part rcv f).array) ≡ words
  sends_words i f t u e is = elim (eqb_tells f source) [
    | inl h ↦
        let held = is_held v s (member members source) part.array shaped (ms.within source there) fit.array in
        let arrays : arrays_in u (member members source) ≡ held.arrays = arrays_after v members edges shape (part_from rcv part) words s i u (member members source) held.arrays false is held.here (source_not i) in
        subst (λ (b : Bool). words_of shape (cond b part (part_from rcv part)) (array_in u (member members f) (cond b part (part_from rcv part)).array) ≡ words) (sym h.0)
        (ap (λ k. words_of shape part (array_in u (member members k) part.array)) h.1 ∙ ap (λ cs. words_of shape part (slice_index_or cs part.array (zeros 1 0))) (arrays ∙ sym held.arrays_are))
    | inr h ↦
        let lf = (route.ends i f t e).0 in
        let r : ℕ = member members f in
        let held = is_held v s r rcv.array shaped (ms.within f lf) fit.rcv_array in
        let size : ℕ × ℕ = shape_of v r rcv.array in
        let arrays : arrays_in u r ≡ received shape (part_from rcv part) words held.arrays = arrays_after v members edges shape (part_from rcv part) words s i u r held.arrays true is held.here (held_before i f t e h.1) in
        let within : rcv.array < length held.arrays = within_get held.arrays rcv.array held.cells held.at in
        let cells : LocalCells = slice_index_or held.arrays rcv.array (zeros 1 0) in
        let cells_are : cells ≡ held.cells = get_or_from_slice_get held.arrays rcv.array held.cells (zeros 1 0) held.at in
        let got : array_in u r rcv.array ≡ assigned_to shape (part_from rcv part) words cells = ap (λ cs. slice_index_or cs rcv.array (zeros 1 0)) arrays ∙ get_or-set_same held.arrays rcv.array (assigned_to shape (part_from rcv part) words cells) (zeros 1 0) within in
        subst (λ (b : Bool). words_of shape (cond b part (part_from rcv part)) (array_in u r (cond b part (part_from rcv part)).array) ≡ words) (sym h.0)
        (ap (λ c. words_of shape (part_from rcv part) c) got
        ∙ part_read_back size (cut_of shape part) rcv.i rcv.j words cells (is_part size shape (part_from rcv part) (fit.others_fit f lf h.1)) (ap (λ c. c.lld) cells_are ∙ held.lead) (ap (λ c. length c.words) cells_are ∙ held.count)
        (words_long ∙ part_long (cut_of shape part) part.i part.j rcv.i rcv.j))
  ]

  -- what an edge leaves
  one_edge : (i f t : ℕ) (u : GridState) → IsEdge edges i f t → After i u
      → GridCan (member members f) (put_of (member members t) shape (part_sent source part rcv f)) u
      × GridCan (member members t) (get_of (member members f) shape (part_from rcv part)) (grid_by (member members f) (put_of (member members t) shape (part_sent source part rcv f)) u)
      × After (suc i) (grid_by (member members t) (get_of (member members f) shape (part_from rcv part)) (grid_by (member members f) (put_of (member members t) shape (part_sent source part rcv f)) u))
  one_edge i f t u e is =
      let a : ℕ = member members f in
      let b : ℕ = member members t in
      let target : Part = part_from rcv part in
      let p : Part = part_sent source part rcv f in
      let lf = (route.ends i f t e).0 in
      let lt = (route.ends i f t e).1 in
      let put : RankOp = put_of b shape p in
      let get : RankOp = get_of a shape target in
      let none : u.waits a b ≡ [] = is.waits_are a b ∙ quiet f t lf lt (apart i f t e) in
      let sends = sends_words i f t u e is in
      let sent : List ℤ = packed (cut_of shape p) (regions_of shape p) (array_in u a p.array) in
      let sent_are : sent ≡ words = sent_words u a shape p ∙ sends in
      let u1 : GridState = grid_by a put u in
      let shaped1 : HasShapes v u1 = grid_shapes v a put u is.shaped in
      let long : length sent ≡ selected_count (cut_of shape target) (regions_of shape target) =
      ap length sent_are ∙ (words_long ∙ (part_long (cut_of shape part) part.i part.j rcv.i rcv.j ∙ sym (ap length (part_is_region (cut_of shape part) rcv.i rcv.j)))) in
      let sender : (p.array < v.count) × Fits (shape_of v a p.array) p = sender_fits f lf in
      let held = is_held v s b rcv.array shaped (ms.within t lt) fit.rcv_array in
      let arrays : arrays_in u b ≡ held.arrays = arrays_after v members edges shape target words s i u b held.arrays false is held.here (not_yet i f t e) in
      let more : (r : ℕ) → reached members edges (suc i) r ≡ (reached members edges i r || nat_eq b r) = λ r.
      ap (λ es. list_any (λ (x : ℕ × ℕ). nat_eq (member members x.1) r) es) (take_at edges i (f, t) e) ∙ any_end (λ (x : ℕ × ℕ). nat_eq (member members x.1) r) (take i edges) (f, t) in
      let here : reached members edges (suc i) b ≡ true = more b ∙ (ap (λ x. reached members edges i b || x) (equals b b refl) ∙ or_true (reached members edges i b)) in
      let others : (r : ℕ) (cs : List LocalCells) → r ≢ b → change (reached members edges i) shape target words r cs ≡ change (reached members edges (suc i)) shape target words r cs = λ r cs ne.
      ap (λ x. cond x (received shape target words cs) cs) (sym (more r ∙ (ap (λ x. reached members edges i r || x) (differs b r (λ q. ne (sym q))) ∙ or_false (reached members edges i r)))) in (
        can_put v u a b shape p is.shaped (ms.within f lf) sender.0 sender.1,
        can_get v u1 a b shape target sent [] shaped1 (ms.within t lt) fit.rcv_array (fit.others_fit t lt (route.not_source i f t e)) (message_there u a b sent none) long,
        record {
          shaped = grid_shapes v b get u1 shaped1;
          arrays_are = pair_arrays u a b shape p target words none sends
              ∙ (ap (λ cs. slice_set u.arrays b (received shape target words cs)) arrays
              ∙ (ap (λ css. slice_set css b (received shape target words held.arrays)) is.arrays_are
              ∙ (ap (λ x. slice_set (numbered_from 0 (change (reached members edges i) shape target words) s.arrays) b (cond x (received shape target words held.arrays) held.arrays)) (sym here)
              ∙ numbered_set (change (reached members edges i) shape target words) (change (reached members edges (suc i)) shape target words) s.arrays b held.arrays held.here others)));
          waits_are = λ x y. pair_waits u a b sent u.arrays none x y ∙ is.waits_are x y;
        },
      )
    where
      or_true : (x : Bool) → (x || true) ≡ true
      or_true true = refl
      or_true false = refl

      or_false : (x : Bool) → (x || false) ≡ x
      or_false true = refl
      or_false false = refl

      sender_fits : (f : ℕ) → f < length members → ((part_sent source part rcv f).array < v.count) × Fits (shape_of v (member members f) (part_sent source part rcv f).array) (part_sent source part rcv f)
      sender_fits f lf = elim (eqb_tells f source) [
        | inl h ↦ subst (λ (x : Bool). ((cond x part (part_from rcv part)).array < v.count) × Fits (shape_of v (member members f) (cond x part (part_from rcv part)).array) (cond x part (part_from rcv part))) (sym h.0)
            (fit.array, subst (λ (k : ℕ). Fits (shape_of v (member members k) part.array) part) (sym h.1) fit.source_fits)
        | inr h ↦ subst (λ (x : Bool). ((cond x part (part_from rcv part)).array < v.count) × Fits (shape_of v (member members f) (cond x part (part_from rcv part)).array) (cond x part (part_from rcv part))) (sym h.0)
            (fit.rcv_array, fit.others_fit f lf h.1)
      ]

  along : (rest : List (ℕ × ℕ)) (i : ℕ) (u : GridState) → drop i edges ≡ rest → i + length rest ≡ length edges → After i u
      → GridCanGo (edge_ops members source shape part rcv rest) u × After (length edges) (grid_after (edge_ops members source shape part rcv rest) u)
  along [] i u e long is = (tt, subst (λ (k : ℕ). After k u) (let h : i ≡ length edges = omega arith in h) is)
  along (x ∷ rest) i u e long is =
      let next = drop_next edges i x rest e in
      let step = one_edge i x.0 x.1 u next.0 is in
      let tail = along rest (suc i) _ next.1 (omega arith) step.2 in
      ((step.0, (step.1, tail.0)), tail.1)

  all_reached : (r : ℕ) → reached members edges (length edges) r ≡ is_other members (member members source) r
  all_reached r = bool_same (reached members edges (length edges) r) (is_other members (member members source) r) (λ h.
      let k = any_some (λ (x : ℕ × ℕ). nat_eq (member members x.1) r) (take (length edges) edges) h in
      let at = get_take edges (length edges) k.0 k.1 k.2 in
      let is : member members k.1.1 ≡ r = tells (member members k.1.1) r k.3 in
      let lt = edge_end k.0 k.1 at.0 in
      let y = get_within members k.1.1 lt in
      let same : y.0 ≡ member members k.1.1 = sym (get_or_from_slice_get members k.1.1 y.0 0 y.1) in
      let any : list_any (λ x. nat_eq x r) members ≡ true = any_true (λ x. nat_eq x r) members k.1.1 y.0 y.1 (equals y.0 r (same ∙ is)) in
      let ne : nat_eq r (member members source) ≡ false = differs r (member members source) (λ q. route.not_source k.0 k.1.0 k.1.1 at.0 (ms.distinct k.1.1 source lt there (is ∙ q))) in
      ap (λ x. x && not (nat_eq r (member members source))) any ∙ ap not ne)
      (λ h.
      let both = and_both (list_any (λ x. nat_eq x r) members) (nat_eq r (member members source)) h in
      let k = any_some (λ x. nat_eq x r) members both.0 in
      let lt : k.0 < length members = within_get members k.0 k.1 k.2 in
      let is : member members k.0 ≡ r = get_or_from_slice_get members k.0 k.1 0 k.2 ∙ tells k.1 r k.3 in
      let ne : k.0 ≢ source = λ q. let x : nat_eq r (member members source) ≡ true = equals r (member members source) (sym is ∙ ap (member members) q) in let y : true ≡ false = sym x ∙ both.1 in (cc) in
      let once = route.reached k.0 lt ne in
      any_true (λ (x : ℕ × ℕ). nat_eq (member members x.1) r) (take (length edges) edges) once.at (once.from, k.0) (take_get edges (length edges) once.at (once.from, k.0) (within_get edges once.at (once.from, k.0) once.edge) once.edge) (equals (member members k.0) r is))
    where
      and_both : (a b : Bool) → (a && not b) ≡ true → (a ≡ true) × (b ≡ false)
      and_both true false h = (refl, refl)
      and_both true true h = cc
      and_both false b h = cc

  -- the edges one after the other give every other member the source's words
  pub along_route : GridCanGo (edge_ops members source shape part rcv edges) s × IsSame (grid_after (edge_ops members source shape part rcv edges) s) (broadcast_line members (member members source) shape part (part_from rcv part) s)
  unfolding broadcast_line given_to
  along_route =
      let first : After 0 s = record { shaped = shaped; arrays_are = sym (numbered_kept 0 (change (reached members edges 0) shape (part_from rcv part) words) s.arrays (λ r cs. refl)); waits_are = λ a b. refl } in
      let done = along edges 0 s refl (omega arith) first in (
        done.0,
        record {
          arrays_are = done.1.arrays_are ∙ numbered_same 0 _ _ s.arrays (λ r cs. ap (λ x. cond x (received shape (part_from rcv part) words cs) cs) (all_reached r));
          waits_are = done.1.waits_are;
        },
      )

-- a broadcast along any route
pub broadcast_means : (v : ShapesView) (p : PlanView RankOp) (members : List ℕ) (edges : List (ℕ × ℕ)) (source : ℕ) (shape : Shape) (part : Part) (rcv : Spot) → AreMembers v.ranks members → AllFit v members source part rcv → IsRoute (length members) source edges → source < length members → IsQuiet p members
    → Means (edge_ops members source shape part rcv edges) (IsOf v p) (broadcast_line members (slice_index members source) shape part (part_from rcv part))
broadcast_means v p members edges source shape part rcv ms fit route there quiet =
    means_by (edge_ops members source shape part rcv edges) (IsOf v p) (broadcast_line members (slice_index members source) shape part (part_from rcv part))
    (λ s of. along_route v members edges source shape part rcv s ms fit route there of.shaped (λ j k lj lk ne. none_waits (s.waits (slice_index members j) (slice_index members k)) (waiting_lens rank_steps p (slice_index members j) (slice_index members k)) (of.lens_are (slice_index members j) (slice_index members k)) (quiet j k lj lk ne)))
  where
    none_waits : (ms : List (List ℤ)) (ls : List ℕ) → ls ≡ map length ms → ls ≡ [] → ms ≡ []
    none_waits [] ls e q = refl
    none_waits (x ∷ ms) ls e q = let f : [] ≡ length x ∷ map length ms = sym q ∙ e in (cc)
