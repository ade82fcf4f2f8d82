-- Operations keep what a rank can do.
use Rattle.std.specs.Prelude.{◌≡◌, ◌≤◌, ◌*◌, ℕ, zero, suc, Bool, true, false, ℤ, Option, Some, None, List, [], ◌∷◌, length, map, take, drop, slice_index_or, slice_set, refl}
use Rattle.std.specs.List.{range_with_len}
use Rattle.std.specs.Int.{w32, cast_signed}
use Rattle.std.proofs.Common.{sym, ap, subst, ◌∙◌, arith}
use Rattle.std.proofs.lemmas.List.{length-append, length-drop, length-map, length-set, length-take}
use Rattle.std.proofs.lemmas.List.FromFn.{length-map-range_with_len}
use Rattle.msg_core.specs.Kinds.{Send}
use Rattle.fold_ops.specs.declared.held.Held.{Held}
use Rattle.pack_words.specs.declared.region.Region.{Region}
use Rattle.pack_words.specs.declared.coords.Coords.{Coords}
use Rattle.pack_words.specs.declared.fold_kind.FoldKind.{FoldKind}
use Rattle.pack_words.specs.declared.fold_kind.FoldKind.TheVariants.{Sum, AbsMax, AbsMin}
use Rattle.pack_words.specs.declared.rank_op.RankOp.{RankOp}
use Rattle.pack_words.specs.declared.rank_op.RankOp.TheVariants.{Put, Get, Copy, LoadAcc, PutAcc, JoinAcc, GetAcc, StoreAcc, Pulse}
use Rattle.pack_words.specs.LocalCells.{LocalCells, zeros, place, with_word}
use Rattle.pack_words.specs.Packing.{spots, with_words}
use Rattle.pack_words.specs.WholeRegions.{whole_cut, corner}
use Rattle.pack_words.specs.Accumulators.{values_of_held, words_of_held, first_made, message_words, held_message, replaced_by, joined_by}
use Rattle.pack_words.specs.Coordinates.{row_word, column_word}
use Rattle.pack_words.specs.RankOps.{RankState, size_of, shapes, array_at, with_array, pulse_kind, rank_kind, IsWellMade, CanDoIn, CanDo, elements_used, rank_message, rank_absorbed, with_stored, with_coords, rank_acted}

-- words written into an array leave its sizes
pub sizes_stay : (c : LocalCells) (ss : List (ℕ × ℕ)) (ws : List ℤ) → ((with_words c ss ws).lld ≡ c.lld) × ((with_words c ss ws).cols ≡ c.cols) × (length (with_words c ss ws).words ≡ length c.words)
sizes_stay c [] ws = (refl, refl, refl)
sizes_stay c (s ∷ ss) [] = (refl, refl, refl)
sizes_stay c (s ∷ ss) (w ∷ ws) =
    let h = sizes_stay (with_word c s.0 s.1 w) ss ws in
    (h.0, h.1, h.2 ∙ length-set c.words (place c.lld s.0 s.1) w)

-- an array in the place of one of its size
shapes_set : (cs : List LocalCells) (a : ℕ) (c d : LocalCells) → c.lld ≡ (slice_index_or cs a d).lld → c.cols ≡ (slice_index_or cs a d).cols → map size_of (slice_set cs a c) ≡ map size_of cs
shapes_set [] a c d l k = refl
shapes_set (x ∷ xs) zero c d l k =
    let rest : List (ℕ × ℕ) = map size_of xs in
    let one : ℕ → ℕ → ℕ × ℕ = λ m n. (m, n) in
    ap (λ (n : ℕ). one n c.cols ∷ rest) l ∙ ap (λ (n : ℕ). one x.lld n ∷ rest) k
shapes_set (x ∷ xs) (suc a) c d l k = ap (λ ys. size_of x ∷ ys) (shapes_set xs a c d l k)

-- words written into an array of a list leave the sizes of all
pub sizes_written : (cs : List LocalCells) (a : ℕ) (ss : List (ℕ × ℕ)) (ws : List ℤ) → map size_of (slice_set cs a (with_words (slice_index_or cs a (zeros 1 0)) ss ws)) ≡ map size_of cs
sizes_written cs a ss ws =
    let h = sizes_stay (slice_index_or cs a (zeros 1 0)) ss ws in
    shapes_set cs a (with_words (slice_index_or cs a (zeros 1 0)) ss ws) (zeros 1 0) h.0 h.1

shapes_written : (s : RankState) (a : ℕ) (ss : List (ℕ × ℕ)) (ws : List ℤ) → shapes (with_array s a (with_words (array_at s a) ss ws)) ≡ shapes s
shapes_written s a ss ws = sizes_written s.arrays a ss ws

shapes_stored : (s : RankState) (a : ℕ) (r : Region) (ws : List ℤ) → shapes (with_stored s a r ws) ≡ shapes s
shapes_stored s a r ws = shapes_written s a (spots (whole_cut r) (r ∷ [])) ws

shapes_with_coords : (s : RankState) (r : Region) (coords : Option Coords) (hs : List Held) → shapes (with_coords s r coords hs) ≡ shapes s
shapes_with_coords s r None hs = refl
shapes_with_coords s r (Some c) hs = shapes_stored (with_stored s c.ra (corner r) (map (row_word c) hs)) c.ca (corner r) (map (column_word c) hs) ∙ shapes_stored s c.ra (corner r) (map (row_word c) hs)

shapes_absorbed : (s : RankState) (o : RankOp) (ws : List ℤ) → shapes (rank_absorbed s o ws) ≡ shapes s
shapes_absorbed s (Put to a rs cut) ws = refl
shapes_absorbed s (Get from a rs cut) ws = shapes_written s a (spots cut rs) ws
shapes_absorbed s (Copy a rs b ts cut) ws = refl
shapes_absorbed s (LoadAcc a r k) ws = refl
shapes_absorbed s (PutAcc to n pairs) ws = refl
shapes_absorbed s (JoinAcc from n fold) ws = refl
shapes_absorbed s (GetAcc from n pairs) ws = refl
shapes_absorbed s (StoreAcc a r coords) ws = refl
shapes_absorbed s (Pulse peer sends) ws = refl

shapes_acted : (s : RankState) (o : RankOp) → shapes (rank_acted s o) ≡ shapes s
shapes_acted s (Put to a rs cut) = refl
shapes_acted s (Get from a rs cut) = refl
shapes_acted s (Copy a rs b ts cut) = shapes_written s b (spots cut ts) _
shapes_acted s (LoadAcc a r k) = refl
shapes_acted s (PutAcc to n pairs) = refl
shapes_acted s (JoinAcc from n fold) = refl
shapes_acted s (GetAcc from n pairs) = refl
shapes_acted s (StoreAcc a r coords) =
    let hs : List Held = take (r.rows * r.cols) s.held in
    shapes_with_coords (with_stored s a r (values_of_held hs)) r coords hs ∙ shapes_stored s a r (values_of_held hs)
shapes_acted s (Pulse peer sends) = refl

pub can_is_well_made : (s : RankState) (o : RankOp) → CanDo s o → IsWellMade o
can_is_well_made s (Put to a rs cut) h = h.0.0
can_is_well_made s (Get from a rs cut) h = h.0.0
can_is_well_made s (Copy a rs b ts cut) h = (h.0.0, h.0.1)
can_is_well_made s (LoadAcc a r k) h = h.0.0
can_is_well_made s (PutAcc to n pairs) h = h.0
can_is_well_made s (JoinAcc from n fold) h = h.0
can_is_well_made s (GetAcc from n pairs) h = h.0
can_is_well_made s (StoreAcc a r coords) h = (h.0.0, h.0.1)
can_is_well_made s (Pulse peer sends) h = tt

-- a message of the first n elements has n values, and as many places
held_long : (pairs : Bool) (n : ℕ) (hs : List Held) → n ≤ length hs → length (held_message pairs n hs) ≡ message_words pairs n
held_long true n hs le =
    let size : length (take n hs) ≡ n = let e = length-take n hs in omega arith in
    let both = length-append (values_of_held (take n hs)) (words_of_held (take n hs)) in
    let values = length-map (take n hs) (λ (h : Held). h.value) in
    let places = length-map (take n hs) (λ (h : Held). cast_signed w32 h.place) in
    omega arith
held_long false n hs le =
    let size : length (take n hs) ≡ n = let e = length-take n hs in omega arith in
    length-map (take n hs) (λ (h : Held). h.value) ∙ size

pulse_long : (sends : Bool) (peer to len : ℕ) → pulse_kind sends peer ≡ Send to len → 0 ≡ len
pulse_long true peer to len k = cc
pulse_long false peer to len k = cc

pub message_length : (s : RankState) (o : RankOp) (to len : ℕ) → CanDo s o → rank_kind o ≡ Send to len → length (rank_message s o) ≡ len
message_length s (Put to' a rs cut) to len h k = let e : length (spots cut rs) ≡ len = cc in length-map (spots cut rs) _ ∙ e
message_length s (Get from a rs cut) to len h k = cc
message_length s (Copy a rs b ts cut) to len h k = cc
message_length s (LoadAcc a r p) to len h k = cc
message_length s (PutAcc to' n pairs) to len h k = let e : message_words pairs n ≡ len = cc in held_long pairs n s.held h.1 ∙ e
message_length s (JoinAcc from n fold) to len h k = cc
message_length s (GetAcc from n pairs) to len h k = cc
message_length s (StoreAcc a r coords) to len h k = cc
message_length s (Pulse peer sends) to len h k = pulse_long sends peer to len k

-- other first elements, as many as there were
pub made_length : (f : ℕ → Held) (n : ℕ) (hs : List Held) → n ≤ length hs → length (first_made f n hs) ≡ length hs
made_length f n hs le =
    let size : length (map f (range_with_len 0 n)) ≡ n = length-map-range_with_len f 0 n in
    let rest = length-drop n hs in
    length-append (map f (range_with_len 0 n)) (drop n hs) ∙ omega arith

joined_long : (fold : FoldKind) (n : ℕ) (hs : List Held) (ws : List ℤ) → n ≤ length hs → length (joined_by fold n hs ws) ≡ length hs
joined_long Sum n hs ws le = made_length _ n hs le
joined_long AbsMax n hs ws le = made_length _ n hs le
joined_long AbsMin n hs ws le = made_length _ n hs le

replaced_long : (pairs : Bool) (n : ℕ) (hs : List Held) (ws : List ℤ) → n ≤ length hs → length (replaced_by pairs n hs ws) ≡ length hs
replaced_long true n hs ws le = made_length _ n hs le
replaced_long false n hs ws le = made_length _ n hs le

coords_held : (s : RankState) (r : Region) (coords : Option Coords) (hs : List Held) → (with_coords s r coords hs).held ≡ s.held
coords_held s r None hs = refl
coords_held s r (Some c) hs = refl

-- no operation that a rank can do makes the accumulator longer or shorter
pub held_absorbed : (s : RankState) (o : RankOp) (ws : List ℤ) → elements_used o ≤ length s.held → length (rank_absorbed s o ws).held ≡ length s.held
held_absorbed s (Put to a rs cut) ws le = refl
held_absorbed s (Get from a rs cut) ws le = refl
held_absorbed s (Copy a rs b ts cut) ws le = refl
held_absorbed s (LoadAcc a r k) ws le = refl
held_absorbed s (PutAcc to n pairs) ws le = refl
held_absorbed s (JoinAcc from n fold) ws le = joined_long fold n s.held ws le
held_absorbed s (GetAcc from n pairs) ws le = replaced_long pairs n s.held ws le
held_absorbed s (StoreAcc a r coords) ws le = refl
held_absorbed s (Pulse peer sends) ws le = refl

pub held_acted : (s : RankState) (o : RankOp) → elements_used o ≤ length s.held → length (rank_acted s o).held ≡ length s.held
held_acted s (Put to a rs cut) le = refl
held_acted s (Get from a rs cut) le = refl
held_acted s (Copy a rs b ts cut) le = refl
held_acted s (LoadAcc a r k) le = made_length _ (r.rows * r.cols) s.held le
held_acted s (PutAcc to n pairs) le = refl
held_acted s (JoinAcc from n fold) le = refl
held_acted s (GetAcc from n pairs) le = refl
held_acted s (StoreAcc a r coords) le = ap length (coords_held (with_stored s a r (values_of_held (take (r.rows * r.cols) s.held))) r coords (take (r.rows * r.cols) s.held))
held_acted s (Pulse peer sends) le = refl

pub can_after_absorb : (s : RankState) (o p : RankOp) (ws : List ℤ) → CanDo s o → CanDo s p → CanDo (rank_absorbed s p ws) o
can_after_absorb s o p ws h k = (subst (λ (sizes : List (ℕ × ℕ)). CanDoIn sizes o) (sym (shapes_absorbed s p ws)) h.0, subst (λ (n : ℕ). elements_used o ≤ n) (sym (held_absorbed s p ws k.1)) h.1)

pub can_after_act : (s : RankState) (o p : RankOp) → CanDo s o → CanDo s p → CanDo (rank_acted s p) o
can_after_act s o p h k = (subst (λ (sizes : List (ℕ × ℕ)). CanDoIn sizes o) (sym (shapes_acted s p)) h.0, subst (λ (n : ℕ). elements_used o ≤ n) (sym (held_acted s p k.1)) h.1)
