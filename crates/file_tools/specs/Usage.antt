-- How the tool is used.
use Rattle.std.specs.Prelude.{ℕ, List, ◌++◌, codes}
use Rattle.line_text.specs.Lines.{ended}

-- the usage of all commands
unfoldable pub usage : List ℕ
usage =
    ended (codes "usage: gridtool split IN OUT P Q MB NB") ++ ended (codes "       gridtool join PREFIX OUT")
    ++ ended (codes "       gridtool move PREFIX OUT P Q MB NB [--threads | --seed S]")
    ++ ended (codes "       gridtool check PROGRAM") ++ ended (codes "       gridtool run PROGRAM [--threads | --seed S]")
    ++ ended (codes "       gridtool load SEED SIZE")
