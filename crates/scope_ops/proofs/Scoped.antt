-- The members of a scope, listed.
use Rattle.std.specs.Prelude.{◌≡◌, ℕ, ◌<◌, Some, List, length, slice_index}
use Rattle.std.proofs.Common.{sym, ap, subst, arith}
use Rattle.proc_grid.specs.Grid.{Grid, IsGrid}
use Rattle.proc_grid.specs.Scopes.{members, position_in}
use Rattle.proc_grid.specs.declared.scope.Scope.{Scope}
use Rattle.proc_grid.proofs.ScopeLemmas.{position_of, members_distinct, members_within, few_members}
use Rattle.pack_words.specs.GridShapes.{ShapesView, IsShapes}
use Rattle.scope_ops.specs.Broadcasts.{AreMembers}
use Rattle.scope_ops.specs.Scopes.{IsListed}

pub is_listed : (g : Grid) (v : ShapesView) (scope : Scope) (place : ℕ × ℕ) (ranks : List ℕ) (k : ℕ) → IsGrid g → IsShapes v → ((k : ℕ) → k < length g.ranks → slice_index g.ranks k < v.ranks) → position_in g scope place ≡ Some k → ranks ≡ members g scope → IsListed g v scope place ranks k
is_listed g v scope place ranks k w shapes all e same =
    let at = position_of g scope place k w e in
    let m : AreMembers v.ranks (members g scope) = record { within = members_within v.ranks g scope w at.scope_is all; distinct = members_distinct g scope w at.scope_is } in
    record {
      grid = w;
      ranks_are = same;
      position = e;
      place_is = at;
      within = let l = at.within in let h = ap length same in omega arith;
      few = let l = few_members g scope w in let h = ap length same in omega arith;
      members_are = subst (λ (rs : List ℕ). AreMembers v.ranks rs) (sym same) m;
      shapes_are = shapes;
    }
