-- The words of the usage text and words beside them, computed.
use Rattle.std.proofs.Common.{◌≡◌, [], ◌∷◌, Option, Some, None, refl}
use Rattle.std.specs.Prelude.{codes}
use Rattle.line_text.specs.Numbers.{digits_number}
use Rattle.tool_words.specs.CommandNames.{every_command, name_of}
use Rattle.tool_words.specs.Given.{kind_of, sorted_from}
use Rattle.tool_words.specs.CommandWords.{asked, split_of, run_of, load_of, target_of, number_within}
use Rattle.tool_words.specs.declared.asked.How.TheVariants.{Seed}
use Rattle.tool_words.specs.declared.asked.Asked.{Asked}
use Rattle.tool_words.specs.declared.asked.Asked.TheVariants.{Split, Run, Load}

abbrev one_block : Option Asked
one_block = Some (Split (codes "a.mtx") (codes "x") 1 1 2 2)

split_asked : asked (codes "split" ∷ codes "a.mtx" ∷ codes "x" ∷ codes "1" ∷ codes "1" ∷ codes "2" ∷ codes "2" ∷ []) ≡ one_block
unfolding asked every_command name_of kind_of sorted_from split_of target_of number_within digits_number
split_asked = refl

dashes_dropped : asked (codes "split" ∷ codes "--" ∷ codes "a.mtx" ∷ codes "x" ∷ codes "1" ∷ codes "1" ∷ codes "2" ∷ codes "2" ∷ []) ≡ one_block
unfolding asked every_command name_of kind_of sorted_from split_of target_of number_within digits_number
dashes_dropped = refl

seed_behind : asked (codes "run" ∷ codes "p.txt" ∷ codes "--seed" ∷ codes "5" ∷ []) ≡ Some (Run (codes "p.txt") (Seed 5))
unfolding asked every_command name_of kind_of sorted_from run_of number_within digits_number
seed_behind = refl

seed_within : asked (codes "run" ∷ codes "--seed=5" ∷ codes "p.txt" ∷ []) ≡ Some (Run (codes "p.txt") (Seed 5))
unfolding asked every_command name_of kind_of sorted_from run_of number_within digits_number
seed_within = refl

both_refused : asked (codes "run" ∷ codes "p.txt" ∷ codes "--seed" ∷ codes "5" ∷ codes "--threads" ∷ []) ≡ None
unfolding asked every_command name_of kind_of sorted_from run_of number_within digits_number
both_refused = refl

value_refused : asked (codes "run" ∷ codes "p.txt" ∷ codes "--threads=" ∷ []) ≡ None
unfolding asked every_command name_of kind_of sorted_from run_of number_within digits_number
value_refused = refl

help_refused : asked (codes "split" ∷ codes "--help" ∷ []) ≡ None
unfolding asked every_command name_of kind_of sorted_from split_of
help_refused = refl

loads : asked (codes "load" ∷ codes "007" ∷ codes "2000" ∷ []) ≡ Some (Load 7 2000)
unfolding asked every_command name_of kind_of sorted_from load_of number_within digits_number
loads = refl
