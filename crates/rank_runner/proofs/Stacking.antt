-- Posts on the stacks of the workers.
use Rattle.std.proofs.Common.{◌≡◌, ℕ, zero, suc, ◌<◌, ◌%◌, Some, List, [], ◌∷◌, ◌++◌, All, length, map, reverse, get_or, set, replicate, slice_get, sym, refl, ap, ◌∙◌, arith}
use Rattle.std.proofs.lemmas.List.{map-append, reverse-append, length-set, map-set, set-set, set-get_or, get_or-set_same, length-replicate}
use Rattle.rank_runner.specs.declared.post.Post.{Post}
use Rattle.rank_runner.specs.Stacks.{Padded, posts_in, stacks, push_at, dealt}

-- lists by place
get_here : {X : Type 0} (xs : List X) (k : ℕ) (x d : X) → slice_get xs k ≡ Some x → get_or xs k d ≡ x
get_here [] k x d e = cc
get_here (y ∷ xs) zero x d e = cc
get_here (y ∷ xs) (suc k) x d e = get_here xs k x d e

here_get : {X : Type 0} (xs : List X) (k : ℕ) (d : X) → k < length xs → slice_get xs k ≡ Some (get_or xs k d)
here_get [] k d h = absurd (omega arith)
here_get (y ∷ xs) zero d h = refl
here_get (y ∷ xs) (suc k) d h = here_get xs k d (omega arith)

map_here : {X Y : Type 0} (f : X → Y) (xs : List X) (k : ℕ) (d : X) (e : Y) → k < length xs → get_or (map f xs) k e ≡ f (get_or xs k d)
map_here f [] k d e h = absurd (omega arith)
map_here f (x ∷ xs) zero d e h = refl
map_here f (x ∷ xs) (suc k) d e h = map_here f xs k d e (omega arith)

length-mapped : {X Y : Type 0} (f : X → Y) (xs : List X) → length (map f xs) ≡ length xs
length-mapped f [] = refl
length-mapped f (x ∷ xs) = ap suc (length-mapped f xs)

pub reverse_end : {X : Type 0} (xs : List X) (x : X) → reverse (xs ++ x ∷ []) ≡ x ∷ reverse xs
reverse_end xs x = reverse-append xs (x ∷ [])

-- a post joins the posts of a worker
top : {N Op F : Type 0} (f : Post N Op → F) (posts more : List (Post N Op)) (p : Post N Op) → more ≡ posts ++ p ∷ [] → reverse (map f more) ≡ f p ∷ reverse (map f posts)
top f posts more p e = ap (λ l. reverse (map f l)) e ∙ (ap reverse (map-append f posts (p ∷ [])) ∙ reverse_end (map f posts) (f p))

pub pushed : {N Op F : Type 0} (f : Post N Op → F) (ws : List (Padded N Op)) (k : ℕ) (w new : Padded N Op) (p : Post N Op) → k < length ws → w ≡ get_or ws k w → posts_in new ≡ posts_in w ++ p ∷ []
    → stacks f (set ws k new) ≡ push_at (stacks f ws) k (f p)
pushed f ws k w new p below here more =
    let h : Padded _ _ → List _ = λ v. reverse (map f (posts_in v)) in
    let old : get_or (stacks f ws) k [] ≡ reverse (map f (posts_in w)) = map_here h ws k w [] below ∙ ap h (sym here) in
    map-set h ws k new ∙ ap (λ l. set (stacks f ws) k l) (top f (posts_in w) (posts_in new) p more ∙ ap (λ l. f p ∷ l) (sym old))

-- and leaves them
pub popped : {N Op F : Type 0} (f : Post N Op → F) (ws : List (Padded N Op)) (k : ℕ) (w new : Padded N Op) (p : Post N Op) (x : F) (xs : List F) → k < length ws → w ≡ get_or ws k w → posts_in w ≡ posts_in new ++ p ∷ []
    → slice_get (stacks f ws) k ≡ Some (x ∷ xs) → (f p ≡ x) × (stacks f (set ws k new) ≡ set (stacks f ws) k xs)
popped f ws k w new p x xs below here less at =
    let h : Padded _ _ → List _ = λ v. reverse (map f (posts_in v)) in
    let is : f p ∷ reverse (map f (posts_in new)) ≡ x ∷ xs = sym (top f (posts_in new) (posts_in w) p less) ∙ (ap h here ∙ (sym (map_here h ws k w [] below) ∙ get_here (stacks f ws) k (x ∷ xs) [] at)) in
    (cc, map-set h ws k new ∙ ap (λ l. set (stacks f ws) k l) (let rest : reverse (map f (posts_in new)) ≡ xs = cc in rest))

-- a stack with something on it is of a worker with a post
pub some_on : {N Op F : Type 0} (f : Post N Op → F) (ws : List (Padded N Op)) (k : ℕ) (x : F) (xs : List F) → slice_get (stacks f ws) k ≡ Some (x ∷ xs) → k < length ws
some_on f [] k x xs e = cc
some_on f (w ∷ ws) zero x xs e = omega arith
some_on f (w ∷ ws) (suc k) x xs e = let h = some_on f ws k x xs e in omega (arith, h)

none_mapped : {N Op F : Type 0} (f : Post N Op → F) (posts : List (Post N Op)) (x : F) (xs : List F) → reverse (map f posts) ≡ x ∷ xs → length posts ≡ 0 → (P : Type 0) → P
none_mapped f [] x xs e z P = cc
none_mapped f (p ∷ posts) x xs e z P = absurd (omega (arith, z))

some_length : {N Op F : Type 0} (f : Post N Op → F) (posts : List (Post N Op)) (x : F) (xs : List F) → reverse (map f posts) ≡ x ∷ xs → 0 < length posts
some_length f [] x xs e = cc
some_length f (p ∷ posts) x xs e = omega arith

pub some_post : {N Op F : Type 0} (f : Post N Op → F) (ws : List (Padded N Op)) (k : ℕ) (w : Padded N Op) (x : F) (xs : List F) → w ≡ get_or ws k w → slice_get (stacks f ws) k ≡ Some (x ∷ xs) → 0 < length (posts_in w)
some_post f ws k w x xs here at =
    let h : Padded _ _ → List _ = λ v. reverse (map f (posts_in v)) in
    some_length f (posts_in w) x xs (ap h here ∙ (sym (map_here h ws k w [] (some_on f ws k x xs at)) ∙ get_here (stacks f ws) k (x ∷ xs) [] at))

-- dealt lists
pub length-dealt : {F : Type 0} (count m : ℕ) (xs : List F) → length (dealt count m xs) ≡ count
length-dealt count m [] = length-replicate count []
length-dealt count m (x ∷ xs) = length-set (dealt count (suc m) xs) (m % count) _ ∙ length-dealt count (suc m) xs

pub dealt_top : {F : Type 0} (count m : ℕ) (x : F) (xs : List F) → m % count < count → slice_get (dealt count m (x ∷ xs)) (m % count) ≡ Some (x ∷ get_or (dealt count (suc m) xs) (m % count) [])
dealt_top count m x xs below =
    let ls : List (List _) = dealt count (suc m) xs in
    let long = length-dealt count (suc m) xs in
    here_get (push_at ls (m % count) x) (m % count) [] (omega (arith, length-set ls (m % count) (x ∷ get_or ls (m % count) []), long, below))
    ∙ ap (λ l. Some l) (get_or-set_same ls (m % count) (x ∷ get_or ls (m % count) []) [] (omega (arith, long, below)))

pub dealt_rest : {F : Type 0} (count m : ℕ) (x : F) (xs : List F) → set (dealt count m (x ∷ xs)) (m % count) (get_or (dealt count (suc m) xs) (m % count) []) ≡ dealt count (suc m) xs
dealt_rest count m x xs = let ls : List (List _) = dealt count (suc m) xs in set-set ls (m % count) (x ∷ get_or ls (m % count) []) (get_or ls (m % count) []) ∙ set-get_or ls (m % count) []

-- no post yet
pub no_posts : {N Op F : Type 0} (f : Post N Op → F) (ws : List (Padded N Op)) → All (λ w. posts_in w ≡ []) ws → stacks f ws ≡ replicate (length ws) []
no_posts f [] none = refl
no_posts f (w ∷ ws) none = ap (λ l. reverse (map f l) ∷ stacks f ws) (none 0 w (omega arith)) ∙ ap (λ l. [] ∷ l) (no_posts f ws (λ k d h. none (suc k) d (omega (arith, h))))

as_reversed : {N Op F : Type 0} (f : Post N Op → F) (ws : List (Padded N Op)) → stacks f ws ≡ map reverse (map (λ w. map f (posts_in w)) ws)
as_reversed f [] = refl
as_reversed f (w ∷ ws) = ap (λ l. reverse (map f (posts_in w)) ∷ l) (as_reversed f ws)

-- the same, as stacks
pub same_stacks : {N Op F : Type 0} (f h : Post N Op → F) (us ws : List (Padded N Op)) → map (λ w. map f (posts_in w)) us ≡ map (λ w. map h (posts_in w)) ws → stacks f us ≡ stacks h ws
same_stacks f h us ws e = as_reversed f us ∙ (ap (λ l. map reverse l) e ∙ sym (as_reversed h ws))
