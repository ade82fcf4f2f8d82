-- The commands of the tool and the words that name them.
use Rattle.std.specs.Prelude.{ℕ, List, [], ◌∷◌, codes}
use Rattle.tool_words.specs.declared.command.Command.{Command}
use Rattle.tool_words.specs.declared.command.Command.TheVariants.{Split, Join, Move, Check, Run, Load}

unfoldable pub every_command : List Command
every_command = Split ∷ Join ∷ Move ∷ Check ∷ Run ∷ Load ∷ []

unfoldable pub name_of : Command → List ℕ
name_of Split = codes "split"
name_of Join = codes "join"
name_of Move = codes "move"
name_of Check = codes "check"
name_of Run = codes "run"
name_of Load = codes "load"
