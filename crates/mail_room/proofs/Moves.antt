-- Each step keeps the rule of a pair's queue.
use Rattle.std.proofs.Common.{◌≡◌, ℕ, zero, suc, ◌+◌, ◌<◌, ◌≤◌, Some, ◌⊎◌, inl, inr, List, [], ◌∷◌, ◌++◌, length, map, slice_get, slice_set, sym, refl, ap, ◌∙◌, subst, append_assoc, arith, zero-add, length-append}
use lib.IntN.{ℤ}
use mathlib.Core.Option.{some, some-injective, some-ne-none}
use lib.ListN.{get_elem?}
use Rattle.crossbeam_queue.specs.Fifo.{Pushes, Pops, Forks, Learns}
use Rattle.mail_room.specs.declared.seen.Seen.{Seen}
use Rattle.mail_room.specs.declared.seen.Role.TheVariants.{Maker, Sender, Receiver}
use Rattle.mail_room.specs.Mail.{Words, words_of, seen, has_done, IsNext, Carries, fresh, Delivers}

-- what stands behind a first part
get_behind : {X : Type 0} (xs ys : List X) (n k : ℕ) → n ≡ length xs + k → slice_get (xs ++ ys) n ≡ slice_get ys k
get_behind [] ys n k e = ap (λ i. slice_get ys i) (e ∙ zero-add k)
get_behind (x ∷ xs) ys zero k e = absurd (omega arith)
get_behind (x ∷ xs) ys (suc n) k e = get_behind xs ys n k (omega arith)

length-map : (items : List Words) → length (map words_of items) ≡ length items
length-map [] = refl
length-map (x ∷ xs) = ap suc (length-map xs)

joins : (items : List Words) (x : Words) (ys : List (List ℤ)) → map words_of (items ++ x ∷ []) ++ ys ≡ map words_of items ++ x.items ∷ ys
joins [] x ys = refl
joins (y ∷ items) x ys = ap (λ l. y.items ∷ l) (joins items x ys)

-- a message that is next joins what is carried
grows : (items : List Words) (x : Words) (rest : List (List ℤ)) → slice_get rest 0 ≡ Some x.items
    → (less : List (List ℤ)) × (map words_of items ++ rest ≡ map words_of (items ++ x ∷ []) ++ less)
grows items x [] e = cc
grows items x (y ∷ ys) e = let same : y ≡ x.items = cc in (ys, ap (λ l. map words_of items ++ l ∷ ys) same ∙ sym (joins items x ys))

pub carries_more : (letters : List (List ℤ)) (capacity put taken : ℕ) (items : List Words) (x : Words) → Carries letters capacity put taken items → slice_get letters put ≡ Some x.items
    → length items < capacity → Carries letters capacity (put + 1) taken (items ++ x ∷ [])
carries_more letters capacity put taken items x c next short =
    let at : slice_get (map words_of items ++ c.rest) (length items) ≡ Some x.items = sym (get_behind c.gone (map words_of items ++ c.rest) put (length items) c.put_is) ∙ (ap (λ l. slice_get l put) (sym c.parts) ∙ next) in
    let here : slice_get c.rest 0 ≡ Some x.items = sym (get_behind (map words_of items) c.rest (length items) 0 (omega (arith, length-map items))) ∙ at in
    let more = grows items x c.rest here in
    record {
      gone = c.gone;
      rest = more.0;
      parts = c.parts ∙ ap (λ l. c.gone ++ l) more.1;
      taken_is = c.taken_is;
      put_is = omega (arith, c.put_is, length-append items (x ∷ []));
      fits = omega (arith, length-append items (x ∷ []));
    }

pub carries_less : (letters : List (List ℤ)) (capacity put taken : ℕ) (items : List Words) (x : Words) → Carries letters capacity put taken (x ∷ items)
    → (slice_get letters taken ≡ Some x.items) × Carries letters capacity put (taken + 1) items
carries_less letters capacity put taken items x c = (
  ap (λ l. slice_get l taken) c.parts ∙ get_behind c.gone (x.items ∷ (map words_of items ++ c.rest)) taken 0 (omega arith),
  record {
    gone = c.gone ++ x.items ∷ [];
    rest = c.rest;
    parts = c.parts ∙ sym (append_assoc c.gone (x.items ∷ []) (map words_of items ++ c.rest));
    taken_is = omega (arith, length-append c.gone (x.items ∷ []));
    put_is = omega (arith, length-append c.gone (x.items ∷ []));
    fits = omega arith;
  },
)

-- the view at a seat of the one pass, or of the two
at_one : (a v : Seen) (views : List Seen) (port : ℕ) → views ≡ a ∷ [] → get_elem? views port ≡ some v → (port ≡ 0) × (a ≡ v)
at_one a v views zero is e = (refl, some-injective a v (ap (λ l. get_elem? l 0) (sym is) ∙ e))
at_one a v views (suc port) is e = absurd (some-ne-none v (sym (ap (λ l. get_elem? l (suc port)) (sym is) ∙ e)))

at_two : (a b v : Seen) (views : List Seen) (port : ℕ) → views ≡ a ∷ b ∷ [] → get_elem? views port ≡ some v → ((port ≡ 0) × (a ≡ v)) ⊎ ((port ≡ 1) × (b ≡ v))
at_two a b v views zero is e = inl (refl, some-injective a v (ap (λ l. get_elem? l 0) (sym is) ∙ e))
at_two a b v views (suc zero) is e = inr (refl, some-injective b v (ap (λ l. get_elem? l 1) (sym is) ∙ e))
at_two a b v views (suc (suc port)) is e = absurd (some-ne-none v (sym (ap (λ l. get_elem? l (suc (suc port))) (sym is) ∙ e)))

pub puts : (n port : ℕ) (v : Seen) (x : Words) → v.role ≡ Sender → v.side.capacity ≡ n → IsNext v.side x.items → Pushes Delivers n port v x (λ w. w ≡ has_done v)
puts n port v x sender full next items views short (inl new) at = let one = at_one fresh v views port new.views_are at in let same : Maker ≡ Sender = (ap (λ (s : Seen). s.role) one.1 ∙ sender) in cc
puts n port v x sender full next items views short (inr run) at =
    let a : Seen = seen Sender run.letters run.capacity run.put in
    let b : Seen = seen Receiver run.letters run.capacity run.taken in
    elim (at_two a b v views port run.views_are at) [
      | inl z ↦ (
        has_done v,
        inr (record {
          letters = run.letters;
          capacity = run.capacity;
          put = run.put + 1;
          taken = run.taken;
          views_are = ap (λ l. slice_set l port (has_done v)) run.views_are ∙ (ap (λ i. slice_set (a ∷ b ∷ []) i (has_done v)) z.0 ∙ ap (λ s. has_done s ∷ b ∷ []) (sym z.1));
          carries = carries_more run.letters run.capacity run.put run.taken items x run.carries (subst (λ (s : Seen). slice_get s.side.letters s.side.done ≡ Some x.items) (sym z.1) next) (let cap : run.capacity ≡ v.side.capacity = ap (λ (s : Seen). s.side.capacity) z.1 in omega arith);
        }),
        refl,
      )
      | inr z ↦ let same : Receiver ≡ Sender = ap (λ (s : Seen). s.role) z.1 ∙ sender in cc
    ]

pub put_learns : (port : ℕ) (v : Seen) → v.role ≡ Sender → Learns Delivers port v (λ items. length items ≤ v.side.done)
put_learns port v sender items views (inl new) at = omega (arith, ap length new.empty)
put_learns port v sender items views (inr run) at =
    let a : Seen = seen Sender run.letters run.capacity run.put in
    let b : Seen = seen Receiver run.letters run.capacity run.taken in
    elim (at_two a b v views port run.views_are at) [
      | inl z ↦ let done : run.put ≡ v.side.done = ap (λ (s : Seen). s.side.done) z.1 in omega (arith, run.carries.put_is)
      | inr z ↦ let same : Receiver ≡ Sender = ap (λ (s : Seen). s.role) z.1 ∙ sender in cc
    ]

pub takes : (port : ℕ) (v : Seen) → v.role ≡ Receiver → Pops Delivers port v (λ x w. IsNext v.side x.items × (w ≡ has_done v))
takes port v receiver x items views (inl new) at = let none : x ∷ items ≡ [] = new.empty in cc
takes port v receiver x items views (inr run) at =
    let a : Seen = seen Sender run.letters run.capacity run.put in
    let b : Seen = seen Receiver run.letters run.capacity run.taken in
    elim (at_two a b v views port run.views_are at) [
      | inl z ↦ let same : Sender ≡ Receiver = ap (λ (s : Seen). s.role) z.1 ∙ receiver in cc
      | inr z ↦ let less = carries_less run.letters run.capacity run.put run.taken items x run.carries in (
        has_done v,
        inr (record {
          letters = run.letters;
          capacity = run.capacity;
          put = run.put;
          taken = run.taken + 1;
          views_are = ap (λ l. slice_set l port (has_done v)) run.views_are ∙ (ap (λ i. slice_set (a ∷ b ∷ []) i (has_done v)) z.0 ∙ ap (λ s. a ∷ has_done s ∷ []) (sym z.1));
          carries = less.1;
        }),
        (rw (← z.1) less.0, refl),
      )
    ]

pub splits : (port : ℕ) (v : Seen) (letters : List (List ℤ)) (capacity : ℕ) → v.role ≡ Maker
    → Forks Delivers port v (seen Sender letters capacity 0) (seen Receiver letters capacity 0)
splits port v letters capacity maker items views (inl new) at =
    let one = at_one fresh v views port new.views_are at in
    let l : Seen = seen Sender letters capacity 0 in
    let r : Seen = seen Receiver letters capacity 0 in
    inr (record {
      letters = letters;
      capacity = capacity;
      put = 0;
      taken = 0;
      views_are = ap (λ vs. slice_set vs port l ++ r ∷ []) new.views_are ∙ ap (λ i. slice_set (fresh ∷ []) i l ++ r ∷ []) one.0;
      carries = record {
        gone = [];
        rest = letters;
        parts = rw new.empty;
        taken_is = refl;
        put_is = omega (arith, ap length new.empty);
        fits = omega (arith, ap length new.empty);
      };
    })
splits port v letters capacity maker items views (inr run) at =
    let a : Seen = seen Sender run.letters run.capacity run.put in
    let b : Seen = seen Receiver run.letters run.capacity run.taken in
    elim (at_two a b v views port run.views_are at) [
      | inl z ↦ let same : Sender ≡ Maker = ap (λ (s : Seen). s.role) z.1 ∙ maker in cc
      | inr z ↦ let same : Receiver ≡ Maker = ap (λ (s : Seen). s.role) z.1 ∙ maker in cc
    ]

pub begins : Delivers [] (fresh ∷ [])
begins = inl (record { empty = refl; views_are = refl })
