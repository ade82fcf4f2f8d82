use Rattle.std.proofs.Common.{◌≡◌, map, take}
use Rattle.program_results.specs.Placed.{placed_of}
use Rattle.program_results.proofs.placing.places_of.Given as goal

-- the places before this one are made
abbrev pub invariant-loop-spread : goal.invariant-loop-spread
invariant-loop-spread l = l.places.items ≡ map (placed_of l.contexts) (take l.spread-index l.spreads)
