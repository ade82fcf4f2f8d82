-- What `clap` is told of the command line.
use Rattle.std.specs.Borrow.{Bor}
use Rattle.std.specs.Prelude.{Bool, Option, true, false, List, [], ◌∷◌, map, Some, None, codes}
use Rattle.clap.specs.Walk.{Rule, Text}
use Rattle.clap.specs.Simple.{App, Shape, new_rule, new_shape}
use Rattle.clap.specs.declared.builder.action.ArgAction.TheVariants.{Append, SetTrue}
use Rattle.tool_words.specs.CommandNames.{name_of}
use Rattle.tool_words.specs.declared.command.Command.{Command}

-- the positional words of a command, any number of them
abbrev pub places_rule : Rule
places_rule = record (new_rule (codes "words")) { action = Some Append }

abbrev pub threads_rule : Rule
threads_rule = record (new_rule (codes "threads")) { long = Some (codes "threads"); action = Some SetTrue }

abbrev pub seed_rule : Rule
seed_rule = record (new_rule (codes "seed")) { long = Some (codes "seed"); action = Some Append }

unfoldable pub shape_named : Text → Shape
shape_named name = record (new_shape name) { rules = places_rule ∷ threads_rule ∷ seed_rule ∷ [] }

-- no program's name before the words, no help and no version
unfoldable pub bare_line : App
bare_line = record { top = record (new_shape (codes "gridtool")) { no_binary_name = true; disable_help_flag = true; disable_help_subcommand = true; disable_version_flag = true }; subs = [] }

-- the line with these commands below it
abbrev pub no_commands : List Command → Bool
no_commands [] = true
no_commands (c ∷ cs) = false

abbrev pub line_of : List Command → App
line_of commands = record { top = record bare_line.top { is_leaf = no_commands commands }; subs = map (λ c. shape_named (name_of c)) commands }

-- the texts that are lent, if any are
abbrev pub lent_texts : Option (Bor (List (Bor Text))) → List Text
lent_texts None = []
lent_texts (Some s) = map (λ v. v.now) s.now
