-- New desks stand at the start of their pairs' messages.
use Rattle.std.proofs.Common.{◌≡◌, ◌≢◌, ℕ, zero, suc, ◌<◌, Option, Some, None, ◌⊎◌, inl, inr, List, [], ◌∷◌, length, slice_get, set, replicate, sym, refl, ap, ◌∙◌, arith}
use lib.IntN.{ℤ}
use Rattle.std.proofs.lemmas.Bool.Decides.{eqb_tells}
use Rattle.mail_room.specs.declared.seen.Side.{Side}
use Rattle.mail_room.specs.Mail.{side}
use Rattle.mail_room.specs.Desks.{DeskView, side_at, Capacities, or_else, row_at, capacities, side_of, AreNewDesks, AreRows}
use Rattle.mail_room.specs.Making.{vacant, with_out, with_in, change_at, row_side, with_pair, with_pairs, IsSquare, OutsAre, InsAre, with_row}
use Rattle.mail_room.proofs.Boards.{square_pair}

-- what stands at a place after a change
changed : (xs : List DeskView) (k i : ℕ) (f : DeskView → DeskView) (d : DeskView) → slice_get (change_at xs k f) i ≡ Some d
    → ((i ≢ k) × (slice_get xs i ≡ Some d)) ⊎ ((i ≡ k) × ((x : DeskView) × (slice_get xs i ≡ Some x) × (d ≡ f x)))
changed [] k i f d e = cc
changed (x ∷ xs) zero zero f d e = inr (refl, (x, refl, (cc)))
changed (x ∷ xs) zero (suc i) f d e = inl ((λ q. absurd (omega (arith, q))), e)
changed (x ∷ xs) (suc k) zero f d e = inl ((λ q. absurd (omega (arith, q))), e)
changed (x ∷ xs) (suc k) (suc i) f d e = elim (changed xs k i f d e) [ inl h ↦ inl ((λ q. h.0 (omega (arith, q))), h.1) | inr h ↦ inr (ap suc h.0, h.1) ]

side_here : (sides : List (Option Side)) (k : ℕ) (u : Side) → k < length sides → side_at (set sides k (Some u)) k ≡ Some u
side_here [] k u h = absurd (omega arith)
side_here (x ∷ sides) zero u h = refl
side_here (x ∷ sides) (suc k) u h = side_here sides k u (omega arith)

side_else : (sides : List (Option Side)) (k j : ℕ) (o : Option Side) → j ≢ k → side_at (set sides k o) j ≡ side_at sides j
side_else [] k j o ne = refl
side_else (x ∷ sides) zero zero o ne = absurd (ne refl)
side_else (x ∷ sides) zero (suc j) o ne = refl
side_else (x ∷ sides) (suc k) zero o ne = refl
side_else (x ∷ sides) (suc k) (suc j) o ne = side_else sides k j o (λ q. ne (ap suc q))

-- a row says its capacity of its own pair, and nothing of another
row_here : (row : ℕ × ℕ × ℕ) (i j : ℕ) → i ≡ row.0 → j ≡ row.1 → row_at row i j ≡ Some row.2
row_here row i j ei ej = elim (eqb_tells row.0 i) [
  | inl h ↦ elim (eqb_tells row.1 j) [ inl k ↦ rw (h.0, k.0) refl | inr k ↦ absurd (k.1 (sym ej)) ]
  | inr h ↦ absurd (h.1 (sym ei))
]

row_from : (row : ℕ × ℕ × ℕ) (i j : ℕ) → i ≢ row.0 → row_at row i j ≡ None
row_from row i j ne = elim (eqb_tells row.0 i) [ inl h ↦ absurd (ne (sym h.1)) | inr h ↦ rw h.0 refl ]

row_to : (row : ℕ × ℕ × ℕ) (i j : ℕ) → j ≢ row.1 → row_at row i j ≡ None
row_to row i j ne = elim (eqb_tells row.1 j) [
  | inl h ↦ absurd (ne (sym h.1))
  | inr h ↦ elim (eqb_tells row.0 i) [ inl k ↦ rw (k.0, h.0) refl | inr k ↦ rw k.0 refl ]
]

module _ (letters : ℕ → ℕ → List (List ℤ)) (n : ℕ) where
  -- the sender's desk gets a side
  outs_out : (row : ℕ × ℕ × ℕ) (caps : Capacities) (desks : List DeskView) → IsSquare n desks → row.1 < n → OutsAre letters caps desks
      → OutsAre letters (with_row row caps) (change_at desks row.0 (λ d. with_out d row.1 (row_side letters row)))
  outs_out row caps desks sq below a i j d e = let u : Side = row_side letters row in
      elim (changed desks row.0 i (λ x. with_out x row.1 u) d e) [
        | inl h ↦ a i j d h.1 ∙ ap (λ c. side_of (letters i j) (or_else c (caps i j)) 0) (sym (row_from row i j h.0))
        | inr h ↦
            let x : DeskView = h.1.0 in
            let is : side_at d.outs j ≡ side_at (set x.outs row.1 (Some u)) j = ap (λ (y : DeskView). side_at y.outs j) h.1.2 in
            elim (eqb_tells j row.1) [
              | inl k ↦
                  let room : row.1 < length x.outs = omega (arith, (sq.1 i x h.1.1).0) in
                  let here : side_at (set x.outs row.1 (Some u)) j ≡ Some u = ap (λ m. side_at (set x.outs row.1 (Some u)) m) k.1 ∙ side_here x.outs row.1 u room in
                  let same : Some u ≡ side_of (letters i j) (Some row.2) 0 = ap (λ m. Some (side (letters m row.1) row.2 0)) (sym h.0) ∙ ap (λ m. Some (side (letters i m) row.2 0)) (sym k.1) in
                  is ∙ (here ∙ (same ∙ ap (λ c. side_of (letters i j) (or_else c (caps i j)) 0) (sym (row_here row i j h.0 k.1))))
              | inr k ↦ is ∙ (side_else x.outs row.1 j (Some u) k.1 ∙ (a i j x h.1.1 ∙ ap (λ c. side_of (letters i j) (or_else c (caps i j)) 0) (sym (row_to row i j k.1))))
            ]
      ]

  -- and the receiver's
  ins_in : (row : ℕ × ℕ × ℕ) (caps : Capacities) (desks : List DeskView) → ((k : ℕ) (d : DeskView) → slice_get desks k ≡ Some d → length d.ins ≡ n) → row.0 < n → InsAre letters caps desks
      → InsAre letters (with_row row caps) (change_at desks row.1 (λ d. with_in d row.0 (row_side letters row)))
  ins_in row caps desks sq below a i j d e = let u : Side = row_side letters row in
      elim (changed desks row.1 j (λ x. with_in x row.0 u) d e) [
        | inl h ↦ a i j d h.1 ∙ ap (λ c. side_of (letters i j) (or_else c (caps i j)) 0) (sym (row_to row i j h.0))
        | inr h ↦
            let x : DeskView = h.1.0 in
            let is : side_at d.ins i ≡ side_at (set x.ins row.0 (Some u)) i = ap (λ (y : DeskView). side_at y.ins i) h.1.2 in
            elim (eqb_tells i row.0) [
              | inl k ↦
                  let room : row.0 < length x.ins = omega (arith, sq j x h.1.1) in
                  let here : side_at (set x.ins row.0 (Some u)) i ≡ Some u = ap (λ m. side_at (set x.ins row.0 (Some u)) m) k.1 ∙ side_here x.ins row.0 u room in
                  let same : Some u ≡ side_of (letters i j) (Some row.2) 0 = ap (λ m. Some (side (letters row.0 m) row.2 0)) (sym h.0) ∙ ap (λ m. Some (side (letters m j) row.2 0)) (sym k.1) in
                  is ∙ (here ∙ (same ∙ ap (λ c. side_of (letters i j) (or_else c (caps i j)) 0) (sym (row_here row i j k.1 h.0))))
              | inr k ↦ is ∙ (side_else x.ins row.0 i (Some u) k.1 ∙ (a i j x h.1.1 ∙ ap (λ c. side_of (letters i j) (or_else c (caps i j)) 0) (sym (row_from row i j k.1))))
            ]
      ]

  -- a change of the other sides
  outs_in : (row : ℕ × ℕ × ℕ) (caps : Capacities) (desks : List DeskView) (u : Side) → OutsAre letters caps desks → OutsAre letters caps (change_at desks row.1 (λ d. with_in d row.0 u))
  outs_in row caps desks u a i j d e = elim (changed desks row.1 i (λ x. with_in x row.0 u) d e) [ inl h ↦ a i j d h.1 | inr h ↦ ap (λ (y : DeskView). side_at y.outs j) h.1.2 ∙ a i j h.1.0 h.1.1 ]

  ins_out : (row : ℕ × ℕ × ℕ) (caps : Capacities) (desks : List DeskView) (u : Side) → InsAre letters caps desks → InsAre letters caps (change_at desks row.0 (λ d. with_out d row.1 u))
  ins_out row caps desks u a i j d e = elim (changed desks row.0 j (λ x. with_out x row.1 u) d e) [ inl h ↦ a i j d h.1 | inr h ↦ ap (λ (y : DeskView). side_at y.ins i) h.1.2 ∙ a i j h.1.0 h.1.1 ]

  lengths_out : (row : ℕ × ℕ × ℕ) (desks : List DeskView) (u : Side) → IsSquare n desks → (k : ℕ) (d : DeskView) → slice_get (change_at desks row.0 (λ x. with_out x row.1 u)) k ≡ Some d → length d.ins ≡ n
  lengths_out row desks u sq k d e = elim (changed desks row.0 k (λ x. with_out x row.1 u) d e) [ inl h ↦ (sq.1 k d h.1).1 | inr h ↦ ap (λ (y : DeskView). length y.ins) h.1.2 ∙ (sq.1 k h.1.0 h.1.1).1 ]

  outs_pair : (row : ℕ × ℕ × ℕ) (caps : Capacities) (desks : List DeskView) → IsSquare n desks → row.1 < n → OutsAre letters caps desks → OutsAre letters (with_row row caps) (with_pair letters desks row)
  outs_pair row caps desks sq below a = outs_in row (with_row row caps) (change_at desks row.0 (λ d. with_out d row.1 (row_side letters row))) (row_side letters row) (outs_out row caps desks sq below a)

  ins_pair : (row : ℕ × ℕ × ℕ) (caps : Capacities) (desks : List DeskView) → IsSquare n desks → row.0 < n → InsAre letters caps desks → InsAre letters (with_row row caps) (with_pair letters desks row)
  ins_pair row caps desks sq below a =
      ins_in row caps (change_at desks row.0 (λ d. with_out d row.1 (row_side letters row))) (lengths_out row desks (row_side letters row) sq) below
      (ins_out row caps desks (row_side letters row) a)

  -- what rows say, before these
  abbrev with_rows : List (ℕ × ℕ × ℕ) → Capacities → Capacities
  with_rows rows caps i j = or_else (capacities rows i j) (caps i j)

  or_else_parts : (a b c : Option ℕ) → or_else a (or_else b c) ≡ or_else (or_else a b) c
  or_else_parts (Some x) b c = refl
  or_else_parts None b c = refl

  rest_rows : (row : ℕ × ℕ × ℕ) (rows : List (ℕ × ℕ × ℕ)) → AreRows n (row ∷ rows) → AreRows n rows
  rest_rows row rows a k r e = a (suc k) r e

  outs_pairs : (rows : List (ℕ × ℕ × ℕ)) (caps : Capacities) (desks : List DeskView) → IsSquare n desks → AreRows n rows → OutsAre letters caps desks → OutsAre letters (with_rows rows caps) (with_pairs letters desks rows)
  outs_pairs [] caps desks sq rs a i j d e = a i j d e
  outs_pairs (row ∷ rows) caps desks sq rs a i j d e =
      outs_pairs rows (with_row row caps) (with_pair letters desks row) (square_pair letters n desks row sq) (rest_rows row rows rs) (outs_pair row caps desks sq (rs 0 row refl).1 a) i j d e
      ∙ ap (λ c. side_of (letters i j) c 0) (or_else_parts (capacities rows i j) (row_at row i j) (caps i j))

  ins_pairs : (rows : List (ℕ × ℕ × ℕ)) (caps : Capacities) (desks : List DeskView) → IsSquare n desks → AreRows n rows → InsAre letters caps desks → InsAre letters (with_rows rows caps) (with_pairs letters desks rows)
  ins_pairs [] caps desks sq rs a i j d e = a i j d e
  ins_pairs (row ∷ rows) caps desks sq rs a i j d e =
      ins_pairs rows (with_row row caps) (with_pair letters desks row) (square_pair letters n desks row sq) (rest_rows row rows rs) (ins_pair row caps desks sq (rs 0 row refl).0 a) i j d e
      ∙ ap (λ c. side_of (letters i j) c 0) (or_else_parts (capacities rows i j) (row_at row i j) (caps i j))

  no_side : (m j : ℕ) → side_at (replicate m None) j ≡ None
  no_side zero j = refl
  no_side (suc m) zero = refl
  no_side (suc m) (suc j) = no_side m j

  all_vacant : (m i : ℕ) (d : DeskView) → slice_get (replicate m (vacant n)) i ≡ Some d → d ≡ vacant n
  all_vacant zero i d e = cc
  all_vacant (suc m) zero d e = cc
  all_vacant (suc m) (suc i) d e = all_vacant m i d e

  length-same : {X : Type 0} (x : X) (m : ℕ) → length (replicate m x) ≡ m
  length-same x zero = refl
  length-same x (suc m) = ap suc (length-same x m)

  abbrev no_caps : Capacities
  no_caps i j = None

  pub square_vacant : IsSquare n (replicate n (vacant n))
  square_vacant = (
    length-same (vacant n) n,
    λ k d e. let is = all_vacant n k d e in (ap (λ (y : DeskView). length y.outs) is ∙ length-same None n, ap (λ (y : DeskView). length y.ins) is ∙ length-same None n),
  )

  or_none_else : (c : Option ℕ) → or_else c None ≡ c
  or_none_else (Some x) = refl
  or_none_else None = refl

  -- the desks of all pairs
  pub new_desks : (rows : List (ℕ × ℕ × ℕ)) → AreRows n rows → AreNewDesks letters (capacities rows) (with_pairs letters (replicate n (vacant n)) rows)
  new_desks rows rs r d e =
      let outs : OutsAre letters no_caps (replicate n (vacant n)) = λ i j x h. ap (λ (y : DeskView). side_at y.outs j) (all_vacant n i x h) ∙ no_side n j in
      let ins : InsAre letters no_caps (replicate n (vacant n)) = λ i j x h. ap (λ (y : DeskView). side_at y.ins i) (all_vacant n j x h) ∙ no_side n i in
      record {
        outs = λ to. outs_pairs rows no_caps (replicate n (vacant n)) square_vacant rs outs r to d e ∙ ap (λ c. side_of (letters r to) c 0) (or_none_else (capacities rows r to));
        ins = λ from. ins_pairs rows no_caps (replicate n (vacant n)) square_vacant rs ins from r d e ∙ ap (λ c. side_of (letters from r) c 0) (or_none_else (capacities rows from r));
      }

  length-change : (xs : List DeskView) (k : ℕ) (f : DeskView → DeskView) → length (change_at xs k f) ≡ length xs
  length-change [] k f = refl
  length-change (x ∷ xs) zero f = refl
  length-change (x ∷ xs) (suc k) f = ap suc (length-change xs k f)

  length-pairs : (rows : List (ℕ × ℕ × ℕ)) (desks : List DeskView) → length (with_pairs letters desks rows) ≡ length desks
  length-pairs [] desks = refl
  length-pairs (row ∷ rows) desks = length-pairs rows (with_pair letters desks row) ∙ (length-change _ row.1 _ ∙ length-change desks row.0 _)

  pub as_many : (rows : List (ℕ × ℕ × ℕ)) → length (with_pairs letters (replicate n (vacant n)) rows) ≡ n
  as_many rows = length-pairs rows (replicate n (vacant n)) ∙ length-same (vacant n) n
