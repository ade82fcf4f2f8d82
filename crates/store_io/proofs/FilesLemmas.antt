-- Laws of the files of a store, and of bytes that are written piece by piece.
use Rattle.std.proofs.Common.{◌≡◌, ℕ, ◌+◌, ◌-◌, Bool, true, false, cond, List, [], ◌++◌, length, take, drop, refl, sym, ap, subst, ◌∙◌, arith, Option, None, Some, Ordering, append_assoc, append-nil}
use Rattle.std.specs.Ordering.{nat_cmp, eq_by_cmp, is_eq}
use Rattle.std.specs.declared.cmp.Ordering.TheVariants.{Less, Equal, Greater}
use Rattle.std.specs.Cmp.{eq_by_cmp_equiv}
use Rattle.std.proofs.lemmas.Cmp.{nat_list_cmp_total}
use Rattle.std.proofs.lemmas.List.{take-append-drop, take-take, drop-take, take_rest}
use Rattle.std.specs.Cmp.Lexicographic.{slice_cmp}
use Rattle.std.specs.FinMap.{get, insert, get-insert, same_map, slice_cmp-IsAntisymmetric, nat_cmp-IsAntisymmetric}
use Rattle.store_io.specs.Outside.{Files, Outside, WritesOn, WritesFront, KeepsOutput, grown, appended}

pub take_add : {X : Type 0} (xs : List X) (i k : ℕ) → take i xs ++ take k (drop i xs) ≡ take (i + k) xs
take_add xs i k =
    let front : take i (take (i + k) xs) ≡ take i xs = take-take i (i + k) xs (omega arith) in
    let back : drop i (take (i + k) xs) ≡ take k (drop i xs) = drop-take i k xs in
    rw (← front, ← back) (take-append-drop i (take (i + k) xs))

pub same_files : (m n : Files) → ((q : List ℕ) → get m q ≡ get n q) → m ≡ n
same_files m n h = same_map nat_list_cmp_total (slice_cmp-IsAntisymmetric nat_cmp-IsAntisymmetric) m n h

-- what stands at a name after an insertion
pub get_inserted : (m : Files) (k v q : List ℕ) → get (insert m k v) q ≡ cond (eq_by_cmp (slice_cmp nat_cmp) q k) (Some v) (get m q)
get_inserted m k v q = get-insert nat_list_cmp_total m k v q

pub get_same : (m : Files) (k v : List ℕ) → get (insert m k v) k ≡ Some v
get_same m k v = get_inserted m k v k ∙ ap (λ b. cond b (Some v) (get m k)) (let e = eq_by_cmp_equiv nat_list_cmp_total in e.refl k)

pub insert-insert : (m : Files) (k v w : List ℕ) → insert (insert m k v) k w ≡ insert m k w
insert-insert m k v w = same_files _ _ (λ q. get_inserted (insert m k v) k w q ∙ ap (λ o. cond (eq_by_cmp (slice_cmp nat_cmp) q k) (Some w) o) (get_inserted m k v q) ∙ over (eq_by_cmp (slice_cmp nat_cmp) q k) _ _ _ ∙ sym (get_inserted m k w q))
  where
    over : (b : Bool) (x y z : Option (List ℕ)) → cond b x (cond b y z) ≡ cond b x z
    over true x y z = refl
    over false x y z = refl

is_equal : (r : Ordering) → is_eq r ≡ true → r ≡ Equal
is_equal Less e = cc
is_equal Equal e = refl
is_equal Greater e = cc

-- names that compare alike are one
pub same_name : (q k : List ℕ) → eq_by_cmp (slice_cmp nat_cmp) q k ≡ true → q ≡ k
same_name q k e = slice_cmp-IsAntisymmetric nat_cmp-IsAntisymmetric q k (is_equal _ e)

-- two insertions at different names, in either order
pub insert-swap : (m : Files) (j k v w : List ℕ) → (k ≡ j → ⊥) → insert (insert m j v) k w ≡ insert (insert m k w) j v
insert-swap m j k v w other = same_files _ _ (λ q. get_inserted (insert m j v) k w q ∙ ap (λ o. cond (eq_by_cmp (slice_cmp nat_cmp) q k) (Some w) o) (get_inserted m j v q)
    ∙ swapped (eq_by_cmp (slice_cmp nat_cmp) q k) (eq_by_cmp (slice_cmp nat_cmp) q j) (Some w) (Some v) (get m q) (λ at_k at_j. other (sym (same_name q k at_k) ∙ same_name q j at_j))
    ∙ sym (ap (λ o. cond (eq_by_cmp (slice_cmp nat_cmp) q j) (Some v) o) (get_inserted m k w q)) ∙ sym (get_inserted (insert m k w) j v q))
  where
    swapped : (a b : Bool) (x y z : Option (List ℕ)) → (a ≡ true → b ≡ true → ⊥) → cond a x (cond b y z) ≡ cond b y (cond a x z)
    swapped true true x y z both = absurd (both refl refl)
    swapped true false x y z both = refl
    swapped false b x y z both = refl

pub insert_held : (m : Files) (k v : List ℕ) → get m k ≡ Some v → insert m k v ≡ m
insert_held m k v h = same_files _ _ (λ q. get_inserted m k v q ∙ kept (eq_by_cmp (slice_cmp nat_cmp) q k) _ _ (λ e. sym h ∙ ap (get m) (sym (same_name q k e))))
  where
    kept : (b : Bool) (x y : Option (List ℕ)) → (b ≡ true → x ≡ y) → cond b x y ≡ y
    kept true x y f = f refl
    kept false x y f = refl

pub appended-nil : (m : Files) (k : List ℕ) → appended m k [] ≡ m
unfolding appended
appended-nil m k = at (get m k) refl
  where
    at : (o : Option (List ℕ)) → get m k ≡ o → grown o m k [] ≡ m
    at None e = refl
    at (Some v) e = ap (insert m k) (append-nil v) ∙ insert_held m k v e

pub appended-appended : (m : Files) (k a b : List ℕ) → appended (appended m k a) k b ≡ appended m k (a ++ b)
unfolding appended
appended-appended m k a b = at (get m k) refl
  where
    at : (o : Option (List ℕ)) → get m k ≡ o → grown (get (grown o m k a) k) (grown o m k a) k b ≡ grown o m k (a ++ b)
    at None e = ap (λ (o : Option (List ℕ)). grown o m k b) e
    at (Some v) e = ap (λ (o : Option (List ℕ)). grown o (insert m k (v ++ a)) k b) (get_same m k (v ++ a)) ∙ insert-insert m k (v ++ a) ((v ++ a) ++ b) ∙ ap (insert m k) (append_assoc v a b)

-- a file that was just opened for writing
pub appended_new : (m : Files) (k a : List ℕ) → appended (insert m k []) k a ≡ insert m k a
unfolding appended
appended_new m k a = ap (λ (o : Option (List ℕ)). grown o (insert m k []) k a) (get_same m k []) ∙ insert-insert m k [] a

-- two writes one after the other
pub writes_on : (old mid new : Outside) (a b : List ℕ) → WritesOn old mid a → KeepsOutput old mid → WritesOn mid new b → WritesOn old new (a ++ b)
writes_on old mid new a b first kept then = record {
  files = then.files ∙ ap (λ k. appended mid.files k b) kept.output ∙ ap (λ m. appended m old.output b) first.files ∙ appended-appended old.files old.output a b;
}

pub writes_nothing : (old : Outside) → WritesOn old old []
writes_nothing old = record { files = sym (appended-nil old.files old.output) }

-- `&xs[i..]` cut to k, after the first i
pub take_sliced : {X : Type 0} (xs : List X) (i k : ℕ) → take i xs ++ take k (take (length xs - i) (drop i xs)) ≡ take (i + k) xs
take_sliced xs i k = ap (λ s. take i xs ++ take k s) (take_rest xs i) ∙ take_add xs i k

-- bytes that grew by one piece after another
pub grew_more : (a b c xs : List ℕ) (i k : ℕ) → b ≡ a ++ take i xs → c ≡ b ++ take k (take (length xs - i) (drop i xs)) → c ≡ a ++ take (i + k) xs
grew_more a b c xs i k first then = then ∙ ap (λ s. s ++ take k (take (length xs - i) (drop i xs))) first ∙ append_assoc a (take i xs) _ ∙ ap (λ s. a ++ s) (take_sliced xs i k)

-- the same of a file
pub writes_more : (old mid new : Outside) (xs : List ℕ) (i k : ℕ) → WritesOn old mid (take i xs) → KeepsOutput old mid → WritesOn mid new (take k (take (length xs - i) (drop i xs))) → WritesOn old new (take (i + k) xs)
writes_more old mid new xs i k first kept then = let P : List ℕ → Type 0 = WritesOn old new in subst P (take_sliced xs i k) (writes_on old mid new _ _ first kept then)

-- a front of no byte
pub writes_no_byte : (old new : Outside) (piece : List ℕ) → new.files ≡ old.files → WritesFront old new piece
writes_no_byte old new piece same = (0, record { files = same ∙ sym (appended-nil old.files old.output) })

-- a file that was just set
pub appended_set : (m : Files) (k v a : List ℕ) → appended (insert m k v) k a ≡ insert m k (v ++ a)
unfolding appended
appended_set m k v a = ap (λ (o : Option (List ℕ)). grown o (insert m k v) k a) (get_same m k v) ∙ insert-insert m k v (v ++ a)
