-- The posts of the workers, as stacks: the rank that is dealt last lies on top, and is taken first.
-- (Bookkeeping inside this crate: no clause of a public call cites it.)
use Rattle.std.specs.Prelude.{◌+◌, ◌≤◌, ◌%◌, ℕ, suc, All, List, [], ◌∷◌, map, reverse, get_or, slice_set, replicate, vec_len, vec_capacity}
use Rattle.crossbeam_utils.specs.declared.cache_padded.CachePadded.{CachePadded}
use Rattle.crossbeam_utils.specs.Padded.{padded_value}
use Rattle.msg_core.specs.declared.node.Node.{Ghosts as NodeOf}
use Rattle.msg_core.specs.declared.node.Step.{Ghosts as StepOf}
use Rattle.rank_runner.specs.declared.post.Post.{Post}
use Rattle.rank_runner.specs.declared.fan.Worker.{Worker}
use Rattle.rank_runner.specs.Stands.{IsReady}

abbrev pub Padded : Type 0 → Type 0 → Type 0
Padded N Op = CachePadded (Worker N Op)

abbrev pub posts_in : {N Op : Type 0} → Padded N Op → List (Post N Op)
posts_in w = (padded_value w).posts.items

-- what f says of the posts of each worker, the top one first
abbrev pub stacks : {N Op F : Type 0} → (Post N Op → F) → List (Padded N Op) → List (List F)
stacks f ws = map (λ w. reverse (map f (posts_in w))) ws

-- x on top of stack k
abbrev pub push_at : {F : Type 0} → List (List F) → ℕ → F → List (List F)
push_at ls k x = slice_set ls k (x ∷ get_or ls k [])

-- the ranks from m on are dealt to so many workers, the last one first, rank r to worker r % count
abbrev pub dealt : {F : Type 0} → ℕ → ℕ → List F → List (List F)
dealt count m [] = replicate count []
dealt count m (x ∷ xs) = push_at (dealt count (suc m) xs) (m % count) x

-- so many more posts have room
abbrev pub HasRoom : {N Op : Type 0} → ℕ → Padded N Op → Type 0
HasRoom m w = vec_len (padded_value w).posts + m ≤ vec_capacity (padded_value w).posts

module _ {N Op : Type 0} (t : StepOf Op) (g : NodeOf N Op) (steps : List (ℕ × Op)) where
  abbrev pub IsReadyWorker : Padded N Op → Type 0
  IsReadyWorker w = All (IsReady t g steps) (posts_in w)
