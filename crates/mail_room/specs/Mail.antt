-- What the passes of a pair's queue know, and what the queue holds.
-- The messages of an ordered pair are taken in the order in which they were sent (A User's Guide to the BLACS, point to point).
use Rattle.std.specs.Prelude.{◌≡◌, ◌⊎◌, ℕ, ℤ, ◌+◌, ◌≤◌, Some, List, [], ◌∷◌, ◌++◌, length, map, slice_get}
use Rattle.std.specs.declared.vec.Vec.{Vec}
use Rattle.std.specs.declared.alloc.Global.{Global}
use Rattle.mail_room.specs.declared.seen.Seen.{Seen}
use Rattle.mail_room.specs.declared.seen.Side.{Side}
use Rattle.mail_room.specs.declared.seen.Role.{Role}
use Rattle.mail_room.specs.declared.seen.Role.TheVariants.{Maker, Sender, Receiver}

-- a message as it lies in the queue
abbrev pub Words : Type 0
Words = Vec ℤ Global

abbrev pub words_of : Words → List ℤ
words_of v = v.items

abbrev pub side : List (List ℤ) → ℕ → ℕ → Side
side letters capacity done = record { letters = letters; capacity = capacity; done = done }

-- the next message of a side
abbrev pub IsNext : Side → List ℤ → Type 0
IsNext s ws = slice_get s.letters s.done ≡ Some ws

-- one more is put or taken
abbrev pub one_more : Side → Side
one_more s = record s { done = s.done + 1 }

abbrev pub seen : Role → List (List ℤ) → ℕ → ℕ → Seen
seen r letters capacity done = record { role = r; side = side letters capacity done }

abbrev pub has_done : Seen → Seen
has_done v = record v { side = one_more v.side }

-- the queue holds the letters from taken to put, and no more than its capacity
pub record Carries (letters : List (List ℤ)) (capacity put taken : ℕ) (items : List Words) : Type 0 where
  pub gone : List (List ℤ)
  pub rest : List (List ℤ)
  pub parts : letters ≡ gone ++ (map words_of items ++ rest)
  pub taken_is : taken ≡ length gone
  pub put_is : put ≡ length gone + length items
  pub fits : length items ≤ capacity

-- what the one pass knows before there are roles
abbrev pub fresh : Seen
fresh = seen Maker [] 0 0

-- before the roles are given there is one pass, and the queue is empty
pub record IsNew (items : List Words) (views : List Seen) : Type 0 where
  pub empty : items ≡ []
  pub views_are : views ≡ fresh ∷ []

-- afterwards there are two, the sender's and the receiver's, and the queue carries what the one has put and the other not taken
pub record IsRunning (items : List Words) (views : List Seen) : Type 0 where
  pub letters : List (List ℤ)
  pub capacity : ℕ
  pub put : ℕ
  pub taken : ℕ
  pub views_are : views ≡ seen Sender letters capacity put ∷ seen Receiver letters capacity taken ∷ []
  pub carries : Carries letters capacity put taken items

-- the rule of a pair's queue
abbrev pub Delivers : List Words → List Seen → Type 0
Delivers items views = IsNew items views ⊎ IsRunning items views
