-- Dealing and collecting, a post after the other.
use Rattle.std.proofs.Common.{◌≡◌, ℕ, zero, suc, ◌+◌, ◌<◌, ◌≤◌, ◌%◌, Some, None, List, [], ◌∷◌, ◌++◌, All, length, map, reverse, take, drop, get_or, set, slice_get, sym, refl, ap, ◌∙◌, subst, arith, append_assoc, add-one}
use Rattle.std.proofs.lemmas.List.{append-nil, map-append, length-append, take_more, take_all}
use Rattle.std.proofs.lemmas.List.Elements.{All-set, All-push, All-same, All-weaker}
use Rattle.machine.proofs.Lists.{get_append, get_end}
use Rattle.msg_core.specs.declared.node.Node.{Ghosts as NodeOf}
use Rattle.msg_core.specs.declared.node.Step.{Ghosts as StepOf}
use Rattle.mail_room.specs.Desks.{DeskView}
use Rattle.rank_runner.specs.declared.post.Post.{Post}
use Rattle.rank_runner.specs.Posts.{IsSound, end_node, end_desk}
use Rattle.rank_runner.specs.Tasks.{ops_of, todo, AllTasks, IsHeld}
use Rattle.rank_runner.specs.Stands.{left, IsReady, fate, outcome}
use Rattle.rank_runner.specs.Seats.{TaskList, first_of, second_of, seat_ops, seat_fate, seat_fates, CanStart, CanSit}
use Rattle.rank_runner.specs.Stacks.{Padded, posts_in, stacks, push_at, dealt, HasRoom, IsReadyWorker}
use Rattle.rank_runner.specs.Dealing.{IsDealing, IsCollecting}
use Rattle.rank_runner.proofs.Stacking.{no_posts, dealt_top, dealt_rest}

-- the element at the end of a front
get_mid : {X : Type 0} (xs0 xs ys rest : List X) (x : X) → xs0 ≡ xs ++ rest → xs ≡ ys ++ x ∷ [] → slice_get xs0 (length ys) ≡ Some x
get_mid xs0 xs ys rest x e f = ap (λ l. slice_get l (length ys)) (e ∙ ap (λ l. l ++ rest) f) ∙ get_append (ys ++ x ∷ []) rest (length ys) x (get_end ys x)

rest_more : {X : Type 0} (xs0 xs ys rest : List X) (x : X) → xs0 ≡ xs ++ rest → xs ≡ ys ++ x ∷ [] → xs0 ≡ ys ++ x ∷ rest
rest_more xs0 xs ys rest x e f = e ∙ (ap (λ l. l ++ rest) f ∙ append_assoc ys (x ∷ []) rest)

one_less : {X : Type 0} (xs ys : List X) (x : X) → xs ≡ ys ++ x ∷ [] → length xs ≡ suc (length ys)
one_less xs ys x e = (let a = ap (λ (l : List _). length l) e in let b = length-append ys (x ∷ []) in omega (arith, a, b))

empty_list : {X : Type 0} (xs : List X) → length xs ≡ 0 → xs ≡ []
empty_list [] e = refl
empty_list (x ∷ xs) e = absurd (omega (arith, e))

no_more : {X : Type 0} (xs0 xs rest : List X) → xs0 ≡ xs ++ rest → xs ≡ [] → rest ≡ xs0
no_more xs0 xs rest e none = sym (e ∙ ap (λ l. l ++ rest) none)

module _ {N Op : Type 0} (t : StepOf Op) (g : NodeOf N Op) (steps : List (ℕ × Op)) where
  -- a worker that gets a ready post stays ready
  pub seat_ready : (ws : List (Padded N Op)) (k : ℕ) (w new : Padded N Op) (p : Post N Op) → k < length ws → w ≡ get_or ws k w → posts_in new ≡ posts_in w ++ p ∷ [] → IsReady t g steps p
      → All (IsReadyWorker t g steps) ws → All (IsReadyWorker t g steps) (set ws k new)
  seat_ready ws k w new p below here more ready all =
      let was : IsReadyWorker t g steps w = subst (λ (v : Padded N Op). IsReadyWorker t g steps v) (sym here) (all k w below) in
      All-set (IsReadyWorker t g steps) ws k new (All-same (IsReady t g steps) (posts_in new) (posts_in w ++ p ∷ []) more (All-push (IsReady t g steps) (posts_in w) p was ready)) all

  pub seat_room : (m : ℕ) (ws : List (Padded N Op)) (k : ℕ) (w new : Padded N Op) → k < length ws → w ≡ get_or ws k w → (HasRoom (suc m) w → HasRoom m new) → All (HasRoom (suc m)) ws → All (HasRoom m) (set ws k new)
  seat_room m ws k w new below here less all =
      let was : HasRoom (suc m) w = subst (λ (v : Padded N Op). HasRoom (suc m) v) (sym here) (all k w below) in
      All-set (HasRoom m) ws k new (less was) (All-weaker (HasRoom (suc m)) (HasRoom m) (λ v h. omega (arith, h)) ws all)

  pub room_here : (ws : List (Padded N Op)) (k : ℕ) (w : Padded N Op) → k < length ws → w ≡ get_or ws k w → All (HasRoom 1) ws → HasRoom 1 w
  room_here ws k w below here all = subst (λ (v : Padded N Op). HasRoom 1 v) (sym here) (all k w below)

  pub room_less : (m n : ℕ) (ws : List (Padded N Op)) → m ≤ n → All (HasRoom n) ws → All (HasRoom m) ws
  room_less m n ws le all = All-weaker (HasRoom n) (HasRoom m) (λ v h. omega (arith, h, le)) ws all

  room_is : (m n : ℕ) (ws : List (Padded N Op)) → n ≡ m → All (HasRoom n) ws → All (HasRoom m) ws
  room_is m n ws e all = room_less m n ws (omega (arith, e)) all

  -- a rank that can start
  seat_post : (n : N) (ts : TaskList) (d : DeskView) (p : Post N Op) → p.held ≡ None → p.done ≡ 0 → p.node ≡ n → p.tasks ≡ ts → p.desk ≡ d → CanStart t g steps n ts d → IsReady t g steps p × (fate t g steps p ≡ seat_fate t g steps n ts d)
  seat_post n ts d p none zero_done en et ed c =
      let was : left t g steps p ≡ seat_ops t g steps ts = ap (λ h. ops_of steps (todo h p.tasks.items)) none ∙ ap (λ (v : TaskList). ops_of steps (reverse v.items)) et in (
        record {
          sound = subst (λ (x : List Op). IsSound t g p.node x p.desk) (sym was) (subst (λ (x : N). IsSound t g x (seat_ops t g steps ts) p.desk) (sym en) (subst (λ (x : DeskView). IsSound t g n (seat_ops t g steps ts) x) (sym ed) c.sound));
          tasks = subst (λ (v : TaskList). AllTasks t steps (reverse v.items)) (sym et) c.tasks;
          held = subst (λ h. IsHeld t g steps p.node h) (sym none) tt;
          count =
              let a = ap (λ h. length (todo h p.tasks.items)) none in
              let b = ap (λ (v : TaskList). length (reverse v.items)) et in
              let k = c.count in
              omega (arith, a, b, k, zero_done);
        },
        ap (λ os. (end_node t g p.node os p.desk, end_desk t g os p.desk)) was
            ∙ (ap (λ x. (end_node t g x (seat_ops t g steps ts) p.desk, end_desk t g (seat_ops t g steps ts) p.desk)) en
            ∙ (ap (λ x. (end_node t g n (seat_ops t g steps ts) x, end_desk t g (seat_ops t g steps ts) x)) ed)),
      )

  module _ (count : ℕ) (ns0 : List N) (tss0 : List TaskList) (ds0 : List DeskView) where
    abbrev pub At : List N → List TaskList → List DeskView → List (Padded N Op) → Type 0
    At ns tss ds ws = IsDealing t g steps count ns0 tss0 ds0 ns tss ds ws

    pub dealing_start : (ws : List (Padded N Op)) → length ws ≡ count → length tss0 ≡ length ns0 → length ds0 ≡ length ns0 → All (λ w. posts_in w ≡ []) ws → All (HasRoom (length ns0)) ws → At ns0 tss0 ds0 ws
    dealing_start ws long lt ld empty room = record {
      rest_ns = [];
      rest_tss = [];
      rest_ds = [];
      nodes = sym (append-nil ns0);
      tasks = sym (append-nil tss0);
      desks = sym (append-nil ds0);
      same_tasks = lt;
      same_desks = ld;
      ready = All-weaker (λ w. posts_in w ≡ []) (IsReadyWorker t g steps) (λ w e. All-same (IsReady t g steps) (posts_in w) [] e (λ k d h. absurd (omega (arith, h)))) ws empty;
      room = room;
      long = long;
      on = no_posts (fate t g steps) ws empty ∙ ap (λ k. dealt k (length ns0) []) long;
    }

    -- the last rank that is left can start
    start_at : (ns ns' : List N) (tss tss' : List TaskList) (ds ds' : List DeskView) (ws : List (Padded N Op)) (n : N) (ts : TaskList) (d : DeskView) → At ns tss ds ws → CanSit t g steps ns0 tss0 ds0
        → ns ≡ ns' ++ n ∷ [] → tss ≡ tss' ++ ts ∷ [] → ds ≡ ds' ++ d ∷ [] → CanStart t g steps n ts d
    start_at ns ns' tss tss' ds ds' ws n ts d at can en et ed =
        let ln = one_less ns ns' n en in
        let lt = one_less tss tss' ts et in
        let ld = one_less ds ds' d ed in
        let kt : length tss' ≡ length ns' = (let s = at.same_tasks in omega (arith, ln, lt, s)) in
        let kd : length ds' ≡ length ns' = (let s = at.same_desks in omega (arith, ln, ld, s)) in
        can (length ns') n ts d (get_mid ns0 ns ns' at.rest_ns n at.nodes en) (ap (λ k. slice_get tss0 k) (sym kt) ∙ get_mid tss0 tss tss' at.rest_tss ts at.tasks et) (ap (λ k. slice_get ds0 k) (sym kd) ∙ get_mid ds0 ds ds' at.rest_ds d at.desks ed)

    pub dealing_ready : (ns ns' : List N) (tss tss' : List TaskList) (ds ds' : List DeskView) (ws : List (Padded N Op)) (p : Post N Op) → At ns tss ds ws → CanSit t g steps ns0 tss0 ds0
        → ns ≡ ns' ++ p.node ∷ [] → tss ≡ tss' ++ p.tasks ∷ [] → ds ≡ ds' ++ p.desk ∷ [] → p.held ≡ None → p.done ≡ 0 → IsReady t g steps p
    dealing_ready ns ns' tss tss' ds ds' ws p at can en et ed none zero_done =
        (seat_post p.node p.tasks p.desk p none zero_done refl refl refl (start_at ns ns' tss tss' ds ds' ws p.node p.tasks p.desk at can en et ed)).0

    pub dealing_step : (ns ns' : List N) (tss tss' : List TaskList) (ds ds' : List DeskView) (ws ws' : List (Padded N Op)) (p : Post N Op) → At ns tss ds ws → CanSit t g steps ns0 tss0 ds0
        → ns ≡ ns' ++ p.node ∷ [] → tss ≡ tss' ++ p.tasks ∷ [] → ds ≡ ds' ++ p.desk ∷ [] → p.held ≡ None → p.done ≡ 0
        → All (IsReadyWorker t g steps) ws' → ((m : ℕ) → All (HasRoom (suc m)) ws → All (HasRoom m) ws') → length ws' ≡ length ws
        → stacks (fate t g steps) ws' ≡ push_at (stacks (fate t g steps) ws) (length ns' % count) (fate t g steps p) → At ns' tss' ds' ws'
    dealing_step ns ns' tss tss' ds ds' ws ws' p at can en et ed none zero_done ready room long on =
        let ln = one_less ns ns' p.node en in
        let lt = one_less tss tss' p.tasks et in
        let ld = one_less ds ds' p.desk ed in
        let is : fate t g steps p ≡ seat_fate t g steps p.node p.tasks p.desk = (seat_post p.node p.tasks p.desk p none zero_done refl refl refl (start_at ns ns' tss tss' ds ds' ws p.node p.tasks p.desk at can en et ed)).1 in
        let rest : List (N × DeskView) = seat_fates t g steps at.rest_ns at.rest_tss at.rest_ds in
        let k : ℕ = length ns' % count in
        record {
          rest_ns = p.node ∷ at.rest_ns;
          rest_tss = p.tasks ∷ at.rest_tss;
          rest_ds = p.desk ∷ at.rest_ds;
          nodes = rest_more ns0 ns ns' at.rest_ns p.node at.nodes en;
          tasks = rest_more tss0 tss tss' at.rest_tss p.tasks at.tasks et;
          desks = rest_more ds0 ds ds' at.rest_ds p.desk at.desks ed;
          same_tasks = (let s = at.same_tasks in omega (arith, ln, lt, s));
          same_desks = (let s = at.same_desks in omega (arith, ln, ld, s));
          ready = ready;
          room = room (length ns') (room_is (suc (length ns')) (length ns) ws ln at.room);
          long = long ∙ at.long;
          on = on ∙ (ap (λ x. push_at (stacks (fate t g steps) ws) k x) is ∙ ap (λ ls. push_at ls k (seat_fate t g steps p.node p.tasks p.desk)) (at.on ∙ ap (λ m. dealt count m rest) ln));
        }

    pub dealing_end : (ns : List N) (tss : List TaskList) (ds : List DeskView) (ws : List (Padded N Op)) → At ns tss ds ws → length ns ≡ 0 → stacks (fate t g steps) ws ≡ dealt count 0 (seat_fates t g steps ns0 tss0 ds0)
    dealing_end ns tss ds ws at none =
        let rn = no_more ns0 ns at.rest_ns at.nodes (empty_list ns none) in
        let rt = no_more tss0 tss at.rest_tss at.tasks (empty_list tss (let s = at.same_tasks in omega (arith, s, none))) in
        let rd = no_more ds0 ds at.rest_ds at.desks (empty_list ds (let s = at.same_desks in omega (arith, s, none))) in
        at.on
        ∙ (ap (λ m. dealt count m (seat_fates t g steps at.rest_ns at.rest_tss at.rest_ds)) none
        ∙ (ap (λ x. dealt count 0 (seat_fates t g steps x at.rest_tss at.rest_ds)) rn
        ∙ (ap (λ x. dealt count 0 (seat_fates t g steps ns0 x at.rest_ds)) rt ∙ ap (λ x. dealt count 0 (seat_fates t g steps ns0 tss0 x)) rd)))

    pub dealing_few : (ns : List N) (tss : List TaskList) (ds : List DeskView) (ws : List (Padded N Op)) → At ns tss ds ws → length ns ≤ length ns0
    dealing_few ns tss ds ws at = (let a = ap (λ (l : List N). length l) at.nodes in let b = length-append ns at.rest_ns in omega (arith, a, b))

-- collecting
get_first : {X : Type 0} (xs : List X) (k : ℕ) (d : X) → k < length xs → drop k xs ≡ get_or xs k d ∷ drop (suc k) xs
get_first [] k d h = absurd (omega arith)
get_first (x ∷ xs) zero d h = refl
get_first (x ∷ xs) (suc k) d h = get_first xs k d (omega arith)

some_element : {X : Type 0} (xs : List X) (k : ℕ) → k < length xs → (x : X) × (get_or xs k x ≡ x)
some_element [] k h = absurd (omega arith)
some_element (x ∷ xs) zero h = (x, refl)
some_element (x ∷ xs) (suc k) h = some_element xs k (omega arith)

module _ {N Op : Type 0} (count : ℕ) (all : List (N × DeskView)) where
  -- the top of the next rank's stack
  pub collecting_top : (rank : ℕ) (ws : List (Padded N Op)) (nodes : List N) (desks : List DeskView) → IsCollecting count rank all ws nodes desks → rank < length all → rank % count < count
      → (x : N × DeskView) × (xs : List (N × DeskView)) × (slice_get (stacks outcome ws) (rank % count) ≡ Some (x ∷ xs))
  collecting_top rank ws nodes desks at below within =
      let e = some_element all rank below in
      let more : List (N × DeskView) = drop (suc rank) all in
      (e.0, get_or (dealt count (suc rank) more) (rank % count) [], ap (λ ls. slice_get ls (rank % count)) (at.on ∙ ap (λ l. dealt count rank l) (get_first all rank e.0 below ∙ ap (λ y. y ∷ more) e.1)) ∙ dealt_top count rank e.0 more within)

  pub collecting_step : (rank : ℕ) (ws ws' : List (Padded N Op)) (nodes : List N) (desks : List DeskView) (p : Post N Op) → IsCollecting count rank all ws nodes desks → rank < length all → rank % count < count
      → ((x : N × DeskView) (xs : List (N × DeskView)) → slice_get (stacks outcome ws) (rank % count) ≡ Some (x ∷ xs) → (outcome p ≡ x) × (stacks outcome ws' ≡ set (stacks outcome ws) (rank % count) xs))
      → IsCollecting count (rank + 1) all ws' (nodes ++ p.node ∷ []) (desks ++ p.desk ∷ [])
  collecting_step rank ws ws' nodes desks p at below within pops =
      let e = some_element all rank below in
      let more : List (N × DeskView) = drop (suc rank) all in
      let x : N × DeskView = e.0 in
      let parts : drop rank all ≡ x ∷ more = get_first all rank x below ∙ ap (λ y. y ∷ more) e.1 in
      let on : stacks outcome ws ≡ dealt count rank (x ∷ more) = at.on ∙ ap (λ l. dealt count rank l) parts in
      let rest : List (N × DeskView) = get_or (dealt count (suc rank) more) (rank % count) [] in
      let got = pops x rest (ap (λ ls. slice_get ls (rank % count)) on ∙ dealt_top count rank x more within) in
      let longer : take (rank + 1) all ≡ take rank all ++ x ∷ [] = take_more all rank x below ∙ ap (λ y. take rank all ++ y ∷ []) e.1 in
      record {
        on = got.1 ∙ (ap (λ ls. set ls (rank % count) rest) on ∙ (dealt_rest count rank x more ∙ (ap (λ m. dealt count m (drop m all)) (sym (add-one rank)))));
        nodes_are = ap (λ l. l ++ p.node ∷ []) at.nodes_are ∙ (ap (λ y. map first_of (take rank all) ++ first_of y ∷ []) got.0 ∙ (sym (map-append first_of (take rank all) (x ∷ [])) ∙ ap (λ l. map first_of l) (sym longer)));
        desks_are = ap (λ l. l ++ p.desk ∷ []) at.desks_are ∙ (ap (λ y. map second_of (take rank all) ++ second_of y ∷ []) got.0 ∙ (sym (map-append second_of (take rank all) (x ∷ [])) ∙ ap (λ l. map second_of l) (sym longer)));
      }

  pub collecting_end : (rank : ℕ) (ws : List (Padded N Op)) (nodes : List N) (desks : List DeskView) → IsCollecting count rank all ws nodes desks → length all ≤ rank → (nodes ≡ map first_of all) × (desks ≡ map second_of all)
  collecting_end rank ws nodes desks at past = (at.nodes_are ∙ ap (λ l. map first_of l) (take_all rank all past), at.desks_are ∙ ap (λ l. map second_of l) (take_all rank all past))
