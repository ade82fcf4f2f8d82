-- All that the lines ask for has a place.
use Rattle.std.proofs.Common.{◌≡◌, List, Option, ap, ◌∙◌}
use Rattle.program_results.specs.Placed.{Placed}
use Rattle.program_results.specs.EndsView.{program_files}
use Rattle.program_results.proofs.Fitting.{are_good}
use Rattle.program_results.proofs.EndsLaws.{well_made}
use Rattle.program_results.proofs.ends.Ends.new.Goals as goal

pub places_of-requires : goal.places_of-requires
places_of-requires c = are_good c.args.contexts.now c.requires.0 c.args.spreads.now c.requires.1.0

pub invariant_of-result : goal.invariant_of-result
invariant_of-result c =
    let files : c.in_ok-files.files.items ≡ program_files c.in_ok-places.places.items c.args.lines.now = c.in_ok-files.ensures.files ∙ ap (λ (ps : List (Option Placed)). program_files ps c.args.lines.now) c.deref.ensures.value in
    well_made c.args.contexts.now c.args.spreads.now c.args.lines.now c.requires.0.ranks c.in_ok-names.names.items c.in_ok-places.places.items c.in_ok-files.files.items c.in_ok-prints.prints.items c.in_ok-names.ensures c.in_ok-places.ensures files c.in_ok-prints.ensures c.in_ok-files.ensures.few c.requires.1.1
