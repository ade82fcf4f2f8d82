-- What the words of the command line ask for.
use Rattle.std.specs.Prelude.{ℕ, zero, suc, ◌*◌, ◌^◌, ◌-◌, ◌&&◌, List, [], ◌∷◌, length, find, Option, Some, None, option_and_then, nat_le, if◌then◌else◌}
use Rattle.std.specs.Option.{option_map}
use Rattle.std.specs.Str.{bytes_eq}
use Rattle.line_text.specs.Numbers.{digits_number}
use Rattle.tool_words.specs.CommandNames.{every_command, name_of}
use Rattle.tool_words.specs.FileName.{is_name}
use Rattle.tool_words.specs.Given.{Text, Given, sorted}
use Rattle.tool_words.specs.declared.command.Command.{Command}
use Rattle.tool_words.specs.declared.command.Command.TheVariants as command
use Rattle.tool_words.specs.declared.target.Target.{Target}
use Rattle.tool_words.specs.declared.asked.How.{How}
use Rattle.tool_words.specs.declared.asked.How.TheVariants.{Plain, Threads, Seed}
use Rattle.tool_words.specs.declared.asked.Asked.{Asked}
use Rattle.tool_words.specs.declared.asked.Asked.TheVariants.{Split, Join, Move, Check, Run, Load}

-- a number of 1 to 20 digits without a sign, within these bounds
unfoldable pub number_within : (low high : ℕ) → Text → Option ℕ
number_within low high text = if nat_le (length text) 20 then within (digits_number text) else None
  where
    within : Option ℕ → Option ℕ
    within None = None
    within (Some n) = if nat_le low n && nat_le n high then Some n else None

-- How a command runs, by how often `--threads` stands among its words and by the values of `--seed`: an option stands once
-- at most, and not beside the other one.
abbrev pub how_by : (threads : ℕ) → (seeds : List Text) → Option How
how_by zero [] = Some Plain
how_by (suc zero) [] = Some Threads
how_by (suc (suc n)) [] = None
how_by zero (s ∷ []) = option_map Seed (number_within 0 (2 ^ 64 - 1) s)
how_by (suc n) (s ∷ []) = None
how_by threads (s ∷ t ∷ seeds) = None

abbrev pub how_of : Given → Option How
how_of g = how_by g.threads g.seeds

-- a grid has 64 processes at most
abbrev pub with_grid : Target → Option Target
with_grid t = if nat_le (t.p * t.q) 64 then Some t else None

abbrev pub with_numbers : (p q mb nb : Option ℕ) → Option Target
with_numbers (Some p) (Some q) (Some mb) (Some nb) = with_grid (record { p = p; q = q; mb = mb; nb = nb })
with_numbers (Some p) (Some q) (Some mb) None = None
with_numbers (Some p) (Some q) None nb = None
with_numbers (Some p) None mb nb = None
with_numbers None q mb nb = None

-- `P Q MB NB`
unfoldable pub target_of : (p q mb nb : Text) → Option Target
target_of p q mb nb = with_numbers (number_within 1 64 p) (number_within 1 64 q) (number_within 1 (2 ^ 24) mb) (number_within 1 (2 ^ 24) nb)

-- `IN OUT P Q MB NB`
unfoldable pub split_of : List Text → Option Asked
split_of (input ∷ output ∷ p ∷ q ∷ mb ∷ nb ∷ []) =
    if is_name input && is_name output then option_map (λ t. Split input output t.p t.q t.mb t.nb) (target_of p q mb nb) else None
split_of places = None

-- `PREFIX OUT`
unfoldable pub join_of : List Text → Option Asked
join_of (prefix ∷ output ∷ []) = if is_name prefix && is_name output then Some (Join prefix output) else None
join_of places = None

-- `PREFIX OUT P Q MB NB`
unfoldable pub move_of : List Text → How → Option Asked
move_of (prefix ∷ output ∷ p ∷ q ∷ mb ∷ nb ∷ []) how =
    if is_name prefix && is_name output then option_map (λ t. Move prefix output t.p t.q t.mb t.nb how) (target_of p q mb nb) else None
move_of places how = None

-- `PROGRAM`
unfoldable pub check_of : List Text → Option Asked
check_of (program ∷ []) = if is_name program then Some (Check program) else None
check_of places = None

unfoldable pub run_of : List Text → How → Option Asked
run_of (program ∷ []) how = if is_name program then Some (Run program how) else None
run_of places how = None

-- `SEED SIZE`
unfoldable pub load_of : List Text → Option Asked
load_of (seed ∷ size ∷ []) = with_size (number_within 0 (2 ^ 64 - 1) seed) (number_within 1 2000 size)
  where
    with_size : Option ℕ → Option ℕ → Option Asked
    with_size (Some seed) (Some size) = Some (Load seed size)
    with_size (Some seed) None = None
    with_size None size = None
load_of places = None

-- The table: a command with its positional words. `move` and `run` have options, the other commands none.
abbrev pub asked_by : Command → List Text → How → Option Asked
asked_by command.Split places Plain = split_of places
asked_by command.Join places Plain = join_of places
asked_by command.Move places how = move_of places how
asked_by command.Check places Plain = check_of places
asked_by command.Run places how = run_of places how
asked_by command.Load places Plain = load_of places
asked_by command places how = None

abbrev pub asked_of : Command → Given → Option Asked
asked_of c g = option_and_then (asked_by c g.places) (how_of g)

-- the one of these commands that a word names, case as written
abbrev pub command_named : List Command → Text → Option Command
command_named commands word = find (λ c. bytes_eq (name_of c) word) commands

-- What the words ask for. They are in the table exactly where they ask for something.
unfoldable pub asked : (words : List Text) → Option Asked
asked [] = None
asked (first ∷ others) = option_and_then (λ c. option_and_then (asked_of c) (sorted others)) (command_named every_command first)
