-- The laws.
use Rattle.move_numbers.proofs.MoveCounts.{messages_are, copies_are, words_are, operations_are}
use Rattle.move_numbers.proofs.laws.numbers_by_elements.Goals as goal

pub returns : goal.returns
returns c = record { messages = messages_are; copies = copies_are; words = words_are; operations = operations_are }
