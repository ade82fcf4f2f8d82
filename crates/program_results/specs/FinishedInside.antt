-- The results of a program after its run as the code holds them.
use Rattle.std.specs.Prelude.{map}
use Rattle.pack_words.specs.GridState.{arrays_held}
use Rattle.program_results.specs.EndsView.{FinishedView}
use Rattle.program_results.specs.Standing.{Fits}
use Rattle.program_results.specs.declared.finished.Finished.TheInside.{Inside}

abbrev pub finished_view : Inside → FinishedView
finished_view f = record { ends = f.ends; arrays = map arrays_held f.nodes.items }

abbrev pub IsFinished : Inside → Type 0
IsFinished f = Fits f.ends (map arrays_held f.nodes.items)
