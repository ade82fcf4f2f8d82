-- What the tool does: the walk of its words.
use Rattle.std.specs.Prelude.{ℕ, ◌*◌, List, [], ◌∷◌, Option, Some, None}
use Rattle.tool_words.specs.CommandWords.{asked}
use Rattle.tool_words.specs.declared.asked.Asked.{Asked}
use Rattle.tool_words.specs.declared.asked.Asked.TheVariants as asks
use Rattle.file_tools.specs.Lists.{names_by}
use Rattle.file_tools.specs.Usage.{usage}
use Rattle.command_walks.specs.Walk.{Walk, Refuses}
use Rattle.file_tools.specs.SplitWalk.{split_walk}
use Rattle.file_tools.specs.JoinWalk.{join_walk}
use Rattle.file_tools.specs.MoveWalk.{move_walk}
use Rattle.file_tools.specs.LoadWalk.{load_walk}
use Rattle.program_walks.specs.ProgramWalks.{check_walk, run_walk}
use Rattle.command_walks.specs.declared.status.Status.TheVariants as status

-- words that ask for none of them
unfoldable pub usage_walk : Walk
usage_walk = Refuses usage status.Words

abbrev pub asked_walk : Option Asked → Walk
asked_walk (Some (asks.Split input output p q mb nb)) = split_walk input (record { prefix = output; nprow = p; npcol = q; mb = mb; nb = nb })
asked_walk (Some (asks.Join prefix output)) = join_walk prefix output
asked_walk (Some (asks.Move prefix output p q mb nb how)) = move_walk prefix (record { prefix = output; nprow = p; npcol = q; mb = mb; nb = nb })
asked_walk (Some (asks.Check program)) = check_walk program
asked_walk (Some (asks.Run program how)) = run_walk program
asked_walk (Some (asks.Load seed size)) = load_walk seed size
asked_walk None = usage_walk

-- the names of the files that the words ask to be saved, in their order, where the words alone tell them
abbrev pub names_asked : Option Asked → Option (List (List ℕ))
names_asked (Some (asks.Split input output p q mb nb)) = Some (names_by output q (p * q))
names_asked (Some (asks.Join prefix output)) = Some (output ∷ [])
names_asked (Some (asks.Move prefix output p q mb nb how)) = Some (names_by output q (p * q))
names_asked (Some (asks.Check program)) = Some []
names_asked (Some (asks.Run program how)) = None
names_asked (Some (asks.Load seed size)) = Some []
names_asked None = Some []

-- The walk of these words, and the names of what it saves.
unfoldable pub walk_of : List (List ℕ) → Walk
walk_of words = asked_walk (asked words)

unfoldable pub saved_names : List (List ℕ) → Option (List (List ℕ))
saved_names words = names_asked (asked words)
