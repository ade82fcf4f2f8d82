-- What members do by themselves is local and well made.
use Rattle.std.proofs.Common.{◌≡◌, ℕ, refl}
use Rattle.msg_core.specs.Kinds.{Local}
use Rattle.pack_words.specs.RankOps.{rank_kind, IsWellMade}
use Rattle.scope_ops.specs.declared.part.Part.{Part}
use Rattle.scope_ops.specs.declared.own.Own.{Own}
use Rattle.scope_ops.specs.declared.own.Own.TheVariants as own
use Rattle.scope_ops.specs.CombineOps.{own_op, IsLoadable, IsGoodOwn}

pub own_kind : (o : Own) (part : Part) (p : ℕ) → rank_kind (own_op o part p) ≡ Local
own_kind own.Load part p = refl
own_kind (own.Store coords) part p = refl

pub loadable : (o : Own) (part : Part) → IsGoodOwn o part → IsLoadable part
loadable own.Load part good = good
loadable (own.Store coords) part good = good.0

pub own_made : (o : Own) (part : Part) (p : ℕ) → IsGoodOwn o part → IsWellMade (own_op o part p)
own_made own.Load part p good = record { first_row = refl; first_column = refl; most = good.most }
own_made (own.Store coords) part p good = (record { first_row = refl; first_column = refl; most = good.0.most }, good.1)
