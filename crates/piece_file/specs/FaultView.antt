-- A fault of a piece as the code holds it.
use Rattle.piece_grammar.specs.Faults as piece
use Rattle.mm_reader.specs.Views.{fault_of}
use Rattle.piece_file.specs.declared.fault.PieceFault.{PieceFault}
use Rattle.piece_file.specs.declared.fault.PieceFault.TheVariants.{DescLine, DescEntry, WrongPlace, Disagree, Shape, TooLarge, Mm}

abbrev pub fault_view : PieceFault → piece.Fault
fault_view DescLine = piece.DescLine
fault_view (DescEntry info) = piece.DescEntry info
fault_view WrongPlace = piece.WrongPlace
fault_view Disagree = piece.Disagree
fault_view (Shape rows columns lld wanted) = piece.Shape rows columns lld wanted
fault_view (TooLarge words) = piece.TooLarge words
fault_view (Mm fault) = piece.Mm (fault_of fault)
