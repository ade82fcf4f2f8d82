-- One step of a post keeps it ready, and its fate.
use Rattle.std.proofs.Common.{◌≡◌, ℕ, ◌+◌, ◌<◌, Option, Some, None, is_some, false, List, [], ◌∷◌, ◌++◌, length, reverse, slice_get, sym, refl, ap, ◌∙◌, subst, arith}
use Rattle.std.proofs.lemmas.List.{reverse-append}
use Rattle.machine.proofs.Lists.{within_get}
use Rattle.msg_core.specs.declared.node.Node.{Ghosts as NodeOf}
use Rattle.msg_core.specs.declared.node.Step.{Ghosts as StepOf}
use Rattle.mail_room.specs.Desks.{DeskView}
use Rattle.rank_runner.specs.declared.post.Task.{Task}
use Rattle.rank_runner.specs.declared.post.Post.{Post}
use Rattle.rank_runner.specs.Posts.{node_after, desk_after, Agrees, IsSound, end_node, end_desk}
use Rattle.rank_runner.specs.Tasks.{with_op, ops_of, todo, HasBuffer, IsTask, AllTasks, IsPacked, IsBegun, IsHeld}
use Rattle.rank_runner.specs.Stands.{left, IsReady, fate, outcome}

some_same : {X : Type 0} (m : Option X) (a b : X) → m ≡ Some a → m ≡ Some b → a ≡ b
some_same m a b e f = let g : Some a ≡ Some b = sym e ∙ f in cc

pub none_held : {X : Type 0} (o : Option X) → is_some o ≡ false → o ≡ None
none_held None e = refl
none_held (Some x) e = cc

reverse_end : (xs : List Task) (x : Task) → reverse (xs ++ x ∷ []) ≡ x ∷ reverse xs
reverse_end xs x = reverse-append xs (x ∷ [])

module _ {N Op : Type 0} (t : StepOf Op) (g : NodeOf N Op) (steps : List (ℕ × Op)) where
  left_none : (p : Post N Op) → p.held ≡ None → left t g steps p ≡ ops_of steps (reverse p.tasks.items)
  left_none p e = ap (λ h. ops_of steps (todo h p.tasks.items)) e

  left_some : (p : Post N Op) (x : Task) → p.held ≡ Some x → left t g steps p ≡ with_op (slice_get steps x.place) (ops_of steps (reverse p.tasks.items))
  left_some p x e = ap (λ h. ops_of steps (todo h p.tasks.items)) e

  abbrev fates : N → List Op → DeskView → N × DeskView
  fates n os d = (end_node t g n os d, end_desk t g os d)

  same_fate : (n m : N) (os ps : List Op) (d e : DeskView) → n ≡ m → os ≡ ps → d ≡ e → fates n os d ≡ fates m ps e
  same_fate n m os ps d e en eo ed = ap (λ x. fates x os d) en ∙ (ap (λ x. fates m x d) eo ∙ ap (λ x. fates m ps x) ed)

  same_sound : (n m : N) (os ps : List Op) (d e : DeskView) → n ≡ m → os ≡ ps → d ≡ e → IsSound t g n os d → IsSound t g m ps e
  same_sound n m os ps d e en eo ed h = subst (λ (x : DeskView). IsSound t g m ps x) ed (subst (λ (x : List Op). IsSound t g m x d) eo (subst (λ (x : N). IsSound t g x os d) en h))

  -- the next task, where none is held
  pub next_task : (p : Post N Op) (ys : List Task) (x : Task) → IsReady t g steps p → p.held ≡ None → p.tasks.items ≡ ys ++ x ∷ [] → IsTask t steps x × AllTasks t steps (reverse ys)
  next_task p ys x ready none items = subst (λ (l : List Task). AllTasks t steps l) (ap reverse items ∙ reverse_end ys x) ready.tasks

  -- it can be done
  pub next_can : (p : Post N Op) (ys : List Task) (x : Task) (op : ℕ × Op) → IsReady t g steps p → p.held ≡ None → p.tasks.items ≡ ys ++ x ∷ [] → slice_get steps x.place ≡ Some op → g.can_do p.node op.1
  next_can p ys x op ready none items here =
      let is : left t g steps p ≡ op.1 ∷ ops_of steps (reverse ys) = left_none p none ∙ (ap (λ l. ops_of steps l) (ap reverse items ∙ reverse_end ys x) ∙ ap (λ m. with_op m (ops_of steps (reverse ys))) here) in
      (subst (λ (os : List Op). IsSound t g p.node os p.desk) is ready.sound).0

  pub record Picked (p q : Post N Op) : Type 0 where
    pub ready : IsReady t g steps q
    pub fate : fate t g steps q ≡ fate t g steps p

  -- it is held from now on
  pub picked : (p q : Post N Op) (x y : Task) (op : ℕ × Op) → IsReady t g steps p → p.held ≡ None → p.tasks.items ≡ q.tasks.items ++ x ∷ [] → slice_get steps x.place ≡ Some op
      → q.held ≡ Some y → y.place ≡ x.place → q.node ≡ p.node → q.desk ≡ p.desk → q.done ≡ p.done → IsPacked t g (t.kind_of op.1) p.node op.1 y.buffer.items → Picked p q
  picked p q x y op ready none items here held place node desk done packed =
      let rest : List Op = ops_of steps (reverse q.tasks.items) in
      let flip : reverse p.tasks.items ≡ x ∷ reverse q.tasks.items = ap reverse items ∙ reverse_end q.tasks.items x in
      let was : left t g steps p ≡ with_op (slice_get steps x.place) rest = left_none p none ∙ ap (λ l. ops_of steps l) flip in
      let now : left t g steps q ≡ with_op (slice_get steps x.place) rest = left_some q y held ∙ ap (λ k. with_op (slice_get steps k) rest) place in
      let same : left t g steps p ≡ left t g steps q = was ∙ sym now in
      record {
        ready = record {
          sound = same_sound p.node q.node (left t g steps p) (left t g steps q) p.desk q.desk (sym node) same (sym desk) ready.sound;
          tasks = (next_task p q.tasks.items x ready none items).1;
          held =
              let begun : IsBegun t g steps q.node y = record {
                op = op;
                here = ap (λ k. slice_get steps k) place ∙ here;
                packed = subst (λ (n : N). IsPacked t g (t.kind_of op.1) n op.1 y.buffer.items) (sym node) packed;
              } in
              subst (λ (h : Option Task). IsHeld t g steps q.node h) (sym held) begun;
          count =
              let a = ap (λ h. length (todo h p.tasks.items)) none in
              let b = ap (λ (l : List Task). length l) flip in
              let c = ap (λ h. length (todo h q.tasks.items)) held in
              let k = ready.count in
              omega (arith, a, b, c, k, done);
        };
        fate = same_fate q.node p.node (left t g steps q) (left t g steps p) q.desk p.desk node (sym same) desk;
      }

  -- what the held task needs
  pub record Held (p : Post N Op) (x : Task) (op : ℕ × Op) : Type 0 where
    pub can : g.can_do p.node op.1
    pub agrees : Agrees t g (t.kind_of op.1) p.node op.1 p.desk
    pub packed : IsPacked t g (t.kind_of op.1) p.node op.1 x.buffer.items
    pub sound : IsSound t g (node_after t g (t.kind_of op.1) p.node op.1 p.desk) (ops_of steps (reverse p.tasks.items)) (desk_after t g (t.kind_of op.1) p.desk)

  pub held_place : (p : Post N Op) (x : Task) → IsReady t g steps p → p.held ≡ Some x → (op : ℕ × Op) × (slice_get steps x.place ≡ Some op) × IsPacked t g (t.kind_of op.1) p.node op.1 x.buffer.items
  held_place p x ready held = let b : IsBegun t g steps p.node x = subst (λ (h : Option Task). IsHeld t g steps p.node h) held ready.held in (b.op, b.here, b.packed)

  pub held_finds : (p : Post N Op) (x : Task) (op : ℕ × Op) → IsReady t g steps p → p.held ≡ Some x → slice_get steps x.place ≡ Some op → Held p x op
  held_finds p x op ready held here =
      let b = held_place p x ready held in
      let same : b.0 ≡ op = some_same (slice_get steps x.place) b.0 op b.1 here in
      let is : left t g steps p ≡ op.1 ∷ ops_of steps (reverse p.tasks.items) = left_some p x held ∙ ap (λ m. with_op m (ops_of steps (reverse p.tasks.items))) here in
      let s : IsSound t g p.node (op.1 ∷ ops_of steps (reverse p.tasks.items)) p.desk = subst (λ (os : List Op). IsSound t g p.node os p.desk) is ready.sound in
      record { can = s.0; agrees = s.1; packed = subst (λ (o : ℕ × Op). IsPacked t g (t.kind_of o.1) p.node o.1 x.buffer.items) same b.2; sound = s.2 }

  -- it is done
  pub finished : (p q : Post N Op) (x : Task) (op : ℕ × Op) → IsReady t g steps p → p.held ≡ Some x → slice_get steps x.place ≡ Some op → q.held ≡ None → q.tasks ≡ p.tasks
      → q.node ≡ node_after t g (t.kind_of op.1) p.node op.1 p.desk → q.desk ≡ desk_after t g (t.kind_of op.1) p.desk → q.done ≡ p.done + 1 → Picked p q
  finished p q x op ready held here none tasks node desk done =
      let rest : List Op = ops_of steps (reverse p.tasks.items) in
      let f = held_finds p x op ready held here in
      let was : left t g steps p ≡ op.1 ∷ rest = left_some p x held ∙ ap (λ m. with_op m rest) here in
      let now : left t g steps q ≡ rest = left_none q none ∙ ap (λ (v : _). ops_of steps (reverse v.items)) tasks in
      let n : N = node_after t g (t.kind_of op.1) p.node op.1 p.desk in
      let d : DeskView = desk_after t g (t.kind_of op.1) p.desk in
      record {
        ready = record {
          sound = same_sound n q.node rest (left t g steps q) d q.desk (sym node) (sym now) (sym desk) f.sound;
          tasks = subst (λ (v : _). AllTasks t steps (reverse v.items)) (sym tasks) ready.tasks;
          held = subst (λ (h : Option Task). IsHeld t g steps q.node h) (sym none) tt;
          count =
              let a = ap (λ h. length (todo h p.tasks.items)) held in
              let b = ap (λ h. length (todo h q.tasks.items)) none in
              let c = ap (λ (v : _). length (reverse v.items)) tasks in
              let k = ready.count in
              omega (arith, a, b, c, k, done);
        };
        fate = same_fate q.node n (left t g steps q) rest q.desk d node now desk ∙ sym (ap (λ os. fates p.node os p.desk) was);
      }

  -- or it waits
  pub waited : (p q : Post N Op) (x y : Task) (op : ℕ × Op) → IsReady t g steps p → p.held ≡ Some x → slice_get steps x.place ≡ Some op → q.held ≡ Some y → y.place ≡ x.place → q.tasks ≡ p.tasks
      → q.node ≡ p.node → q.desk ≡ p.desk → q.done ≡ p.done → IsPacked t g (t.kind_of op.1) p.node op.1 y.buffer.items → Picked p q
  waited p q x y op ready held here again place tasks node desk done packed =
      let was : left t g steps p ≡ with_op (slice_get steps x.place) (ops_of steps (reverse p.tasks.items)) = left_some p x held in
      let now : left t g steps q ≡ with_op (slice_get steps x.place) (ops_of steps (reverse p.tasks.items)) =
      left_some q y again ∙ (ap (λ k. with_op (slice_get steps k) (ops_of steps (reverse q.tasks.items))) place ∙ ap (λ (v : _). with_op (slice_get steps x.place) (ops_of steps (reverse v.items))) tasks) in
      let same : left t g steps p ≡ left t g steps q = was ∙ sym now in
      record {
        ready = record {
          sound = same_sound p.node q.node (left t g steps p) (left t g steps q) p.desk q.desk (sym node) same (sym desk) ready.sound;
          tasks = subst (λ (v : _). AllTasks t steps (reverse v.items)) (sym tasks) ready.tasks;
          held =
              let begun : IsBegun t g steps q.node y = record {
                op = op;
                here = ap (λ k. slice_get steps k) place ∙ here;
                packed = subst (λ (n : N). IsPacked t g (t.kind_of op.1) n op.1 y.buffer.items) (sym node) packed;
              } in
              subst (λ (h : Option Task). IsHeld t g steps q.node h) (sym again) begun;
          count =
              let a = ap (λ h. length (todo h p.tasks.items)) held in
              let b = ap (λ h. length (todo h q.tasks.items)) again in
              let c = ap (λ (v : _). length (reverse v.items)) tasks in
              let k = ready.count in
              omega (arith, a, b, c, k, done);
        };
        fate = same_fate q.node p.node (left t g steps q) (left t g steps p) q.desk p.desk node (sym same) desk;
      }

  pub picked_ready : (p q : Post N Op) (x y : Task) (op : ℕ × Op) → IsReady t g steps p → p.held ≡ None → p.tasks.items ≡ q.tasks.items ++ x ∷ [] → slice_get steps x.place ≡ Some op
      → q.held ≡ Some y → y.place ≡ x.place → q.node ≡ p.node → q.desk ≡ p.desk → q.done ≡ p.done → IsPacked t g (t.kind_of op.1) p.node op.1 y.buffer.items → IsReady t g steps q
  picked_ready p q x y op ready none items here held place node desk done packed = (picked p q x y op ready none items here held place node desk done packed).ready

  pub picked_fate : (p q : Post N Op) (x y : Task) (op : ℕ × Op) → IsReady t g steps p → p.held ≡ None → p.tasks.items ≡ q.tasks.items ++ x ∷ [] → slice_get steps x.place ≡ Some op
      → q.held ≡ Some y → y.place ≡ x.place → q.node ≡ p.node → q.desk ≡ p.desk → q.done ≡ p.done → IsPacked t g (t.kind_of op.1) p.node op.1 y.buffer.items → fate t g steps q ≡ fate t g steps p
  picked_fate p q x y op ready none items here held place node desk done packed = (picked p q x y op ready none items here held place node desk done packed).fate

  pub waited_ready : (p q : Post N Op) (x y : Task) (op : ℕ × Op) → IsReady t g steps p → p.held ≡ Some x → slice_get steps x.place ≡ Some op → q.held ≡ Some y → y.place ≡ x.place → q.tasks ≡ p.tasks
      → q.node ≡ p.node → q.desk ≡ p.desk → q.done ≡ p.done → IsPacked t g (t.kind_of op.1) p.node op.1 y.buffer.items → IsReady t g steps q
  waited_ready p q x y op ready held here again place tasks node desk done packed = (waited p q x y op ready held here again place tasks node desk done packed).ready

  pub waited_fate : (p q : Post N Op) (x y : Task) (op : ℕ × Op) → IsReady t g steps p → p.held ≡ Some x → slice_get steps x.place ≡ Some op → q.held ≡ Some y → y.place ≡ x.place → q.tasks ≡ p.tasks
      → q.node ≡ p.node → q.desk ≡ p.desk → q.done ≡ p.done → IsPacked t g (t.kind_of op.1) p.node op.1 y.buffer.items → fate t g steps q ≡ fate t g steps p
  waited_fate p q x y op ready held here again place tasks node desk done packed = (waited p q x y op ready held here again place tasks node desk done packed).fate

  pub finished_ready : (p q : Post N Op) (x : Task) (op : ℕ × Op) → IsReady t g steps p → p.held ≡ Some x → slice_get steps x.place ≡ Some op → q.held ≡ None → q.tasks ≡ p.tasks
      → q.node ≡ node_after t g (t.kind_of op.1) p.node op.1 p.desk → q.desk ≡ desk_after t g (t.kind_of op.1) p.desk → q.done ≡ p.done + 1 → IsReady t g steps q
  finished_ready p q x op ready held here none tasks node desk done = (finished p q x op ready held here none tasks node desk done).ready

  pub finished_fate : (p q : Post N Op) (x : Task) (op : ℕ × Op) → IsReady t g steps p → p.held ≡ Some x → slice_get steps x.place ≡ Some op → q.held ≡ None → q.tasks ≡ p.tasks
      → q.node ≡ node_after t g (t.kind_of op.1) p.node op.1 p.desk → q.desk ≡ desk_after t g (t.kind_of op.1) p.desk → q.done ≡ p.done + 1 → fate t g steps q ≡ fate t g steps p
  finished_fate p q x op ready held here none tasks node desk done = (finished p q x op ready held here none tasks node desk done).fate

  pub next_buffer : (p : Post N Op) (ys : List Task) (x : Task) (op : ℕ × Op) → IsReady t g steps p → p.held ≡ None → p.tasks.items ≡ ys ++ x ∷ [] → slice_get steps x.place ≡ Some op → HasBuffer (t.kind_of op.1) x.buffer.items
  next_buffer p ys x op ready none items here =
      let k = (next_task p ys x ready none items).0 in
      subst (λ (o : ℕ × Op). HasBuffer (t.kind_of o.1) x.buffer.items) (some_same (slice_get steps x.place) k.op op k.here here) k.buffer

  pub next_within : (p : Post N Op) (ys : List Task) (x : Task) → IsReady t g steps p → p.held ≡ None → p.tasks.items ≡ ys ++ x ∷ [] → x.place < length steps
  next_within p ys x ready none items = let k = (next_task p ys x ready none items).0 in within_get steps x.place k.op k.here

  pub held_within : (p : Post N Op) (x : Task) → IsReady t g steps p → p.held ≡ Some x → x.place < length steps
  held_within p x ready held = let b = held_place p x ready held in within_get steps x.place b.0 b.1

  -- nothing is left
  pub over : (p : Post N Op) → todo p.held p.tasks.items ≡ [] → outcome p ≡ fate t g steps p
  over p none = sym (ap (λ l. fates p.node (ops_of steps l) p.desk) none)
