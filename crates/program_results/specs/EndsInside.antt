-- The results of a program as the code holds them.
use Rattle.program_results.specs.EndsView.{EndsView}
use Rattle.program_results.specs.Standing.{IsEnds}
use Rattle.program_results.specs.declared.ends.Ends.TheInside.{Inside}

abbrev pub ends_view : Inside → EndsView
ends_view e = record { names = e.names.items; places = e.places.items; files = e.files.items; prints = e.prints.items }

abbrev pub IsWell : Inside → Type 0
IsWell e = IsEnds (ends_view e)
