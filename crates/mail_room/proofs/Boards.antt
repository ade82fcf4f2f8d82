-- Desks in a row, of which one changes.
use Rattle.std.proofs.Common.{◌≡◌, ℕ, zero, suc, ◌+◌, ◌<◌, Some, ◌⊎◌, inl, inr, List, [], ◌∷◌, length, slice_get, get_or, set, sym, refl, ap, ◌∙◌, arith, drop, add-one}
use Rattle.std.proofs.Math.ListN.{length-set}
use Rattle.std.proofs.lemmas.Option.{slice_get_read}
use Rattle.mail_room.specs.declared.seen.Side.{Side}
use Rattle.mail_room.specs.Desks.{DeskView}
use Rattle.mail_room.specs.Making.{with_out, with_in, change_at, row_side, with_pair, with_pairs, IsSquare}
use Rattle.std.proofs.Math.Seq.{drop-cons}
use Rattle.mail_room.specs.Mail.{side}
use lib.IntN.{ℤ}

pub set_change : (f : DeskView → DeskView) (xs : List DeskView) (k : ℕ) (x : DeskView) → x ≡ get_or xs k x → k < length xs → set xs k (f x) ≡ change_at xs k f
set_change f [] k x e h = refl
set_change f (y ∷ xs) zero x e h = ap (λ z. f z ∷ xs) e
set_change f (y ∷ xs) (suc k) x e h = ap (λ l. y ∷ l) (set_change f xs k x e (omega arith))

-- what stands at a place after one is set
at_after : {X : Type 0} (xs : List X) (k j : ℕ) (v d : X) → slice_get (set xs k v) j ≡ Some d → (d ≡ v) ⊎ (slice_get xs j ≡ Some d)
at_after [] k j v d e = inr e
at_after (x ∷ xs) zero zero v d e = inl (cc)
at_after (x ∷ xs) zero (suc j) v d e = inr e
at_after (x ∷ xs) (suc k) zero v d e = inr e
at_after (x ∷ xs) (suc k) (suc j) v d e = at_after xs k j v d e

length_change : (xs : List DeskView) (k : ℕ) (f : DeskView → DeskView) → length (change_at xs k f) ≡ length xs
length_change [] k f = refl
length_change (x ∷ xs) zero f = refl
length_change (x ∷ xs) (suc k) f = ap suc (length_change xs k f)

at_change : (xs : List DeskView) (k j : ℕ) (f : DeskView → DeskView) (d : DeskView) → slice_get (change_at xs k f) j ≡ Some d
    → ((x : DeskView) × (slice_get xs j ≡ Some x) × (d ≡ f x)) ⊎ (slice_get xs j ≡ Some d)
at_change [] k j f d e = inr e
at_change (x ∷ xs) zero zero f d e = inl (x, refl, (cc))
at_change (x ∷ xs) zero (suc j) f d e = inr e
at_change (x ∷ xs) (suc k) zero f d e = inr e
at_change (x ∷ xs) (suc k) (suc j) f d e = at_change xs k j f d e

pub square_set : (n : ℕ) (xs : List DeskView) (k : ℕ) (v : DeskView) → IsSquare n xs → length v.outs ≡ n → length v.ins ≡ n → IsSquare n (set xs k v)
square_set n xs k v s outs ins = (
  length-set xs k v ∙ s.0,
  λ j d e. elim (at_after xs k j v d e) [
    | inl is ↦ (ap (λ (x : DeskView). length x.outs) is ∙ outs, ap (λ (x : DeskView). length x.ins) is ∙ ins)
    | inr old ↦ s.1 j d old
  ],
)

pub square_at : (n : ℕ) (xs : List DeskView) (k : ℕ) (d : DeskView) → IsSquare n xs → k < n → d ≡ get_or xs k d → (length d.outs ≡ n) × (length d.ins ≡ n)
square_at n xs k d s h e = s.1 k d (slice_get_read xs n k d (sym s.0) h e)

pub paired : (letters : ℕ → ℕ → List (List ℤ)) (desks : List DeskView) (from to capacity : ℕ) (a new1 b new2 : DeskView) (s r : Side)
    → s ≡ side (letters from to) capacity 0 → r ≡ side (letters from to) capacity 0
    → a ≡ get_or desks from a → new1 ≡ with_out (get_or desks from a) to s
    → b ≡ get_or (set desks from new1) to b → new2 ≡ with_in (get_or (set desks from new1) to b) from r
    → from < length desks → to < length desks → set (set desks from new1) to new2 ≡ with_pair letters desks (from, to, capacity)
paired letters desks from to capacity a new1 b new2 s r es er ea n1 eb n2 hf ht =
    let S : Side = side (letters from to) capacity 0 in
    let R : Side = side (letters from to) capacity 0 in
    let e1 : new1 ≡ with_out a to S = n1 ∙ (ap (λ d. with_out d to s) (sym ea) ∙ ap (λ v. with_out a to v) es) in
    let e2 : new2 ≡ with_in b from R = n2 ∙ (ap (λ d. with_in d from r) (sym eb) ∙ ap (λ v. with_in b from v) er) in
    let row1 : set desks from new1 ≡ change_at desks from (λ d. with_out d to S) = ap (λ d. set desks from d) e1 ∙ set_change (λ d. with_out d to S) desks from a ea hf in
    ap (λ d. set (set desks from new1) to d) e2
    ∙ (set_change (λ d. with_in d from R) (set desks from new1) to b eb (rw length-set ht) ∙ ap (λ l. change_at l to (λ d. with_in d from R)) row1)

pub still_square : (n : ℕ) (desks : List DeskView) (from to : ℕ) (a new1 b new2 : DeskView) (s r : Side)
    → IsSquare n desks
    → a ≡ get_or desks from a → new1 ≡ with_out (get_or desks from a) to s
    → b ≡ get_or (set desks from new1) to b → new2 ≡ with_in (get_or (set desks from new1) to b) from r
    → from < n → to < n → IsSquare n (set desks from new1) × IsSquare n (set (set desks from new1) to new2)
still_square n desks from to a new1 b new2 s r sq ea n1 eb n2 hf ht =
    let old = square_at n desks from a sq hf ea in
    let e1 : new1 ≡ with_out a to s = n1 ∙ ap (λ d. with_out d to s) (sym ea) in
    let one : IsSquare n (set desks from new1) = square_set n desks from new1 sq (ap (λ (x : DeskView). length x.outs) e1 ∙ (length-set a.outs to (Some s) ∙ old.0)) (ap (λ (x : DeskView). length x.ins) e1 ∙ old.1) in
    let e2 : new2 ≡ with_in b from r = n2 ∙ ap (λ d. with_in d from r) (sym eb) in
    let mid = square_at n (set desks from new1) to b one ht eb in
    (one, square_set n (set desks from new1) to new2 one (ap (λ (x : DeskView). length x.outs) e2 ∙ mid.0) (ap (λ (x : DeskView). length x.ins) e2 ∙ (length-set b.ins from (Some r) ∙ mid.1)))

pub room_for_in : (n : ℕ) (desks : List DeskView) (from to : ℕ) (a new1 b : DeskView) (s : Side)
    → IsSquare n desks → a ≡ get_or desks from a → new1 ≡ with_out (get_or desks from a) to s
    → b ≡ get_or (set desks from new1) to b → from < n → to < n → from < length (get_or (set desks from new1) to b).ins
room_for_in n desks from to a new1 b s sq ea n1 eb hf ht =
    let both = still_square n desks from to a new1 b (with_in (get_or (set desks from new1) to b) from s) s s sq ea n1 eb refl hf ht in
    let mid = square_at n (set desks from new1) to b both.0 ht eb in
    let same : length (get_or (set desks from new1) to b).ins ≡ length b.ins = ap (λ (x : DeskView). length x.ins) (sym eb) in omega (arith, mid.1)

square_change : (n : ℕ) (xs : List DeskView) (k : ℕ) (f : DeskView → DeskView) → ((d : DeskView) → (length (f d).outs ≡ length d.outs) × (length (f d).ins ≡ length d.ins)) → IsSquare n xs
    → IsSquare n (change_at xs k f)
square_change n xs k f same s = (
  length_change xs k f ∙ s.0,
  λ j d e. elim (at_change xs k j f d e) [
    | inl h ↦ let old = s.1 j h.0 h.1 in let keep = same h.0 in (ap (λ (x : DeskView). length x.outs) h.2 ∙ (keep.0 ∙ old.0), ap (λ (x : DeskView). length x.ins) h.2 ∙ (keep.1 ∙ old.1))
    | inr h ↦ s.1 j d h
  ],
)

pub square_pair : (letters : ℕ → ℕ → List (List ℤ)) (n : ℕ) (desks : List DeskView) (cap : ℕ × ℕ × ℕ) → IsSquare n desks → IsSquare n (with_pair letters desks cap)
square_pair letters n desks cap s =
    square_change n _ cap.1 (λ d. with_in d cap.0 (row_side letters cap)) (λ d. (refl, length-set d.ins cap.0 _))
    (square_change n desks cap.0 (λ d. with_out d cap.1 (row_side letters cap)) (λ d. (length-set d.outs cap.1 _, refl)) s)

pub next_pairs : (letters : ℕ → ℕ → List (List ℤ)) (desks new : List DeskView) (caps : List (ℕ × ℕ × ℕ)) (i : ℕ) (d : ℕ × ℕ × ℕ) → new ≡ with_pair letters desks (get_or caps i d) → i < length caps
    → with_pairs letters new (drop (i + 1) caps) ≡ with_pairs letters desks (drop i caps)
next_pairs letters desks new caps i d e h = ap (λ n. with_pairs letters new (drop n caps)) (add-one i) ∙ (ap (λ l. with_pairs letters l (drop (suc i) caps)) e ∙ ap (λ l. with_pairs letters desks l) (sym (drop-cons caps i d h)))
