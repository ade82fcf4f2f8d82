-- Passes over lists: each step leaves what is done and what is left to do.
use Rattle.std.specs.Prelude.{◌≡◌, ℕ, suc, ◌+◌, ◌-◌, ◌*◌, ◌/◌, ◌%◌, ◌<◌, ◌≤◌, List, [], ◌∷◌, ◌++◌, length, take, drop, slice_index_or, slice_set}
use Rattle.std.proofs.Common.{refl, sym, ap, ◌∙◌, subst, arith, append-nil}
use Rattle.std.proofs.lemmas.List.{take_more_set, drop-set-lt, drop_more, append_assoc, take_all, drop_all, length-append, length-take-le, length-take, length-drop, drop-drop, take-append-drop}
use Rattle.std.proofs.Math.Seq.{take-append_seam, drop-append_seam, take-append-add}
use Rattle.std.proofs.Math.Nat.{mul-add-mod_self_right, mod-eq_of_lt}
use Rattle.std.proofs.lemmas.Nat.{div-mul-add}
use Rattle.scope_ops.specs.Lines.{numbered_from}
use Rattle.array_contents.specs.Passes.{from_here}

pub numbered_long : {X : Type 0} (k : ℕ) (f : ℕ → X → X) (xs : List X) → length (numbered_from k f xs) ≡ length xs
numbered_long k f [] = refl
numbered_long k f (x ∷ xs) = ap suc (numbered_long (suc k) f xs)

pub numbered_append : {X : Type 0} (k : ℕ) (f : ℕ → X → X) (xs ys : List X) → numbered_from k f (xs ++ ys) ≡ numbered_from k f xs ++ numbered_from (k + length xs) f ys
numbered_append k f [] ys = let e : k ≡ k + 0 = omega arith in ap (λ n. numbered_from n f ys) e
numbered_append k f (x ∷ xs) ys =
    let e : suc k + length xs ≡ k + suc (length xs) = omega arith in
    ap (λ l. f k x ∷ l) (numbered_append (suc k) f xs ys ∙ ap (λ n. numbered_from (suc k) f xs ++ numbered_from n f ys) e)

-- functions that are one at these numbers do one thing
pub numbered_same : {X : Type 0} (k : ℕ) (f g : ℕ → X → X) (xs : List X) → ((i : ℕ) (x : X) → k ≤ i → i < k + length xs → f i x ≡ g i x) → numbered_from k f xs ≡ numbered_from k g xs
numbered_same k f g [] e = refl
numbered_same k f g (x ∷ xs) e =
    ap (λ y. y ∷ numbered_from (suc k) f xs) (e k x (omega arith) (omega arith))
    ∙ ap (λ l. g k x ∷ l) (numbered_same (suc k) f g xs (λ i y low high. e i y (omega arith) (omega arith)))

-- where a function doesn't look at the elements, lists of one length give one list
pub numbered_any : {X : Type 0} (k : ℕ) (f : ℕ → X → X) (xs ys : List X) → length xs ≡ length ys → ((i : ℕ) (x y : X) → f i x ≡ f i y) → numbered_from k f xs ≡ numbered_from k f ys
numbered_any k f [] [] e same = refl
numbered_any k f [] (y ∷ ys) e same = absurd (omega arith)
numbered_any k f (x ∷ xs) [] e same = absurd (omega arith)
numbered_any k f (x ∷ xs) (y ∷ ys) e same =
    ap (λ z. z ∷ numbered_from (suc k) f xs) (same k x y) ∙ ap (λ l. f k y ∷ l) (numbered_any (suc k) f xs ys (omega arith) same)

-- what leaves each element from a number on leaves the list
pub numbered_keeps : {X : Type 0} (k : ℕ) (f : ℕ → X → X) (xs : List X) → ((i : ℕ) (x : X) → k ≤ i → f i x ≡ x) → numbered_from k f xs ≡ xs
numbered_keeps k f [] e = refl
numbered_keeps k f (x ∷ xs) e =
    ap (λ y. y ∷ numbered_from (suc k) f xs) (e k x (omega arith)) ∙ ap (λ l. x ∷ l) (numbered_keeps (suc k) f xs (λ i y low. e i y (omega arith)))

-- numbers from k on are k and more
pub numbered_shift : {X : Type 0} (k n : ℕ) (f : ℕ → X → X) (xs : List X) → numbered_from (k + n) f xs ≡ numbered_from n (λ i x. f (k + i) x) xs
numbered_shift k n f [] = refl
numbered_shift k n f (x ∷ xs) =
    let e : suc (k + n) ≡ k + suc n = omega arith in
    ap (λ l. f (k + n) x ∷ l) (ap (λ m. numbered_from m f xs) e ∙ numbered_shift k (suc n) f xs)

-- one element more is done
pub pass_more : {X : Type 0} (f : ℕ → X → X) (xs : List X) (k : ℕ) (d v : X) → k < length xs → v ≡ f k (slice_index_or xs k d) → from_here (k + 1) f (slice_set xs k v) ≡ from_here k f xs
pass_more f xs k d v lt e =
    let next : suc k ≡ k + 1 = omega arith in
    ap (λ l. l ++ numbered_from (k + 1) f (drop (k + 1) (slice_set xs k v))) (take_more_set xs k v lt)
    ∙ ap (λ l. (take k xs ++ v ∷ []) ++ numbered_from (k + 1) f l) (drop-set-lt (k + 1) xs k v (omega arith))
    ∙ append_assoc (take k xs) (v ∷ []) (numbered_from (k + 1) f (drop (k + 1) xs))
    ∙ ap (λ w. take k xs ++ w ∷ numbered_from (k + 1) f (drop (k + 1) xs)) e
    ∙ ap (λ n. take k xs ++ f k (slice_index_or xs k d) ∷ numbered_from n f (drop (k + 1) xs)) (sym next)
    ∙ ap (λ l. take k xs ++ numbered_from k f l) (sym (drop_more xs k d lt))

-- nothing is left
pub pass_done : {X : Type 0} (f : ℕ → X → X) (xs : List X) (k : ℕ) → length xs ≤ k → from_here k f xs ≡ xs
pass_done f xs k le =
    ap (λ l. l ++ numbered_from k f (drop k xs)) (take_all k xs le) ∙ ap (λ l. xs ++ numbered_from k f l) (drop_all k xs le) ∙ append-nil xs

-- what is left stays
pub pass_keeps : {X : Type 0} (f : ℕ → X → X) (xs : List X) (k : ℕ) → ((i : ℕ) (x : X) → k ≤ i → f i x ≡ x) → from_here k f xs ≡ xs
pass_keeps f xs k e = ap (λ l. take k xs ++ l) (numbered_keeps k f (drop k xs) e) ∙ take-append-drop k xs

pub pass_same : {X : Type 0} (f g : ℕ → X → X) (xs : List X) (k : ℕ) → ((i : ℕ) (x : X) → k ≤ i → i < length xs → f i x ≡ g i x) → from_here k f xs ≡ from_here k g xs
pass_same f g xs k e = ap (λ l. take k xs ++ l) (numbered_same k f g (drop k xs) (λ i x low high. e i x low (omega (arith, high, length-drop k xs))))

-- some elements more are done
pub pass_part : {X : Type 0} (f : ℕ → X → X) (xs part : List X) (k n : ℕ) → k + n ≤ length xs → length part ≡ n → part ≡ numbered_from k f (take n (drop k xs))
    → from_here (k + n) f (take k xs ++ part ++ drop (k + n) xs) ≡ from_here k f xs
pass_part {X = X} f xs part k n fits long e =
    let front : List X = take k xs ++ part in
    let rest : List X = drop (k + n) xs in
    let size : length front ≡ k + n = length-append (take k xs) part ∙ ap (λ m. m + length part) (length-take-le k xs (omega arith)) ∙ ap (λ m. k + m) long in
    let taken : take (k + n) (front ++ rest) ≡ front = ap (λ m. take m (front ++ rest)) (sym size) ∙ take-append_seam front rest in
    let left : drop (k + n) (front ++ rest) ≡ rest = ap (λ m. drop m (front ++ rest)) (sym size) ∙ drop-append_seam front rest in
    let count : length (take n (drop k xs)) ≡ n = length-take-le n (drop k xs) (omega (arith, length-drop k xs)) in
    ap (λ l. l ++ numbered_from (k + n) f (drop (k + n) (front ++ rest))) taken
    ∙ ap (λ l. front ++ numbered_from (k + n) f l) left
    ∙ append_assoc (take k xs) part (numbered_from (k + n) f rest)
    ∙ ap (λ p. take k xs ++ (p ++ numbered_from (k + n) f rest)) e
    ∙ ap (λ m. take k xs ++ (numbered_from k f (take n (drop k xs)) ++ numbered_from (k + m) f rest)) (sym count)
    ∙ ap (λ l. take k xs ++ (numbered_from k f (take n (drop k xs)) ++ numbered_from (k + length (take n (drop k xs))) f l)) (sym (drop_drop k n xs))
    ∙ ap (λ l. take k xs ++ l) (sym (numbered_append k f (take n (drop k xs)) (drop n (drop k xs))))
    ∙ ap (λ l. take k xs ++ numbered_from k f l) (take-append-drop n (drop k xs))
  where
    drop_drop : {X : Type 0} (k n : ℕ) (xs : List X) → drop n (drop k xs) ≡ drop (k + n) xs
    drop_drop k n xs = drop-drop n k xs

-- Words of column j, of columns of so many words: each by its row and the column.
pub column_pass : {X : Type 0} (h : ℕ → ℕ → X → X) (lld j : ℕ) (ws : List X) → length ws ≤ lld → numbered_from (j * lld) (λ x w. h (x % lld) (x / lld) w) ws ≡ numbered_from 0 (λ i w. h i j w) ws
column_pass {X = X} h lld j ws le =
    let e : j * lld ≡ j * lld + 0 = omega arith in
    ap (λ n. numbered_from n (λ x w. h (x % lld) (x / lld) w) ws) e
    ∙ numbered_shift (j * lld) 0 (λ x w. h (x % lld) (x / lld) w) ws
    ∙ numbered_same 0 (λ i w. h ((j * lld + i) % lld) ((j * lld + i) / lld) w) (λ i w. h i j w) ws (λ i w low high. at i w (omega arith))
  where
    mod_is : (j lld i : ℕ) → i < lld → (j * lld + i) % lld ≡ i
    mod_is j lld i lt = mul-add-mod_self_right j lld i ∙ mod-eq_of_lt lt

    at : (i : ℕ) (w : X) → i < lld → h ((j * lld + i) % lld) ((j * lld + i) / lld) w ≡ h i j w
    at i w lt = ap (λ r. h r ((j * lld + i) / lld) w) (mod_is j lld i lt) ∙ ap (λ q. h i q w) (div-mul-add j lld i lt)
