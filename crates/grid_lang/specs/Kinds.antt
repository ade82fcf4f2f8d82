-- The kinds of words of the table of lines, how many words each takes, and what is read of them.
use Rattle.std.specs.Prelude.{ℕ, zero, suc, ◌+◌, Bool, ◌==◌, ℤ, pos, negsuc, List, [], ◌∷◌, map, Option, Some, None, Result, Ok, Err}
use Rattle.std.specs.List.{list_any, flat_map}
use Rattle.line_text.specs.Formats.{and_then}
use Rattle.proc_grid.specs.declared.world.Order.{Order}
use Rattle.proc_grid.specs.declared.scope.Scope.{Scope}
use Rattle.route_tree.specs.declared.top.Top.{Top}
use Rattle.grid_lang.specs.declared.fault.LangFault.{LangFault}
use Rattle.grid_lang.specs.declared.fault.LangFault.TheVariants.{Words, Number}
use Rattle.grid_lang.specs.declared.line.Area.{Area}
use Rattle.grid_lang.specs.declared.line.Line.{Line}
use Rattle.pack_words.specs.declared.uplo.Uplo.{Uplo}
use Rattle.pack_words.specs.declared.diag.Diag.{Diag}
use Rattle.grid_lang.specs.Names.{Declared}
use Rattle.grid_lang.specs.WordKinds.{Word, integer, number, rank_below, new_name, grid, array, matrix, either, any_word, order, topology, uplo, diag, character, scope, pieces}

pub data Kind : Type 0 where
  -- n, z, and a rank below RANKS
  ANumber : Kind
  AnInteger : Kind
  ARank : Kind
  -- name, G, X, V, Y
  ANewName : Kind
  AGrid : Kind
  AnArray : Kind
  AMatrix : Kind
  AnEither : Kind
  -- single words
  AnOrder : Kind
  AScope : Kind
  ATopology : Kind
  ACharacter : Kind
  AFile : Kind
  ThePieces : Kind
  -- `Y i j M N`
  AnArea : Kind
  -- `rdest cdest`
  ADestination : Kind
  -- at the end of a line: optionally LLD, UPLO and DIAG, RA and CA; and all numbers n that are left
  PerhapsLead : Kind
  PerhapsTriangle : Kind
  PerhapsPlaces : Kind
  AllNumbers : Kind

-- what is read of words of a kind
abbrev pub Meaning : Kind → Type 0
Meaning ANumber = ℕ
Meaning AnInteger = ℤ
Meaning ARank = ℕ
Meaning ANewName = Word
Meaning AGrid = ℕ
Meaning AnArray = ℕ
Meaning AMatrix = ℕ
Meaning AnEither = ℕ
Meaning AnOrder = Order
Meaning AScope = Scope
Meaning ATopology = Top
Meaning ACharacter = ℕ
Meaning AFile = Word
Meaning ThePieces = Unit {0}
Meaning AnArea = Area
Meaning ADestination = Option (ℕ × ℕ)
Meaning PerhapsLead = Option ℤ
Meaning PerhapsTriangle = Option (Uplo × Diag)
Meaning PerhapsPlaces = Option (ℕ × ℕ)
Meaning AllNumbers = List ℕ

-- how many words a kind may take; of AllNumbers it isn't said here
abbrev pub widths : Kind → List ℕ
widths AnArea = 5 ∷ []
widths ADestination = 2 ∷ []
widths PerhapsLead = 0 ∷ 1 ∷ []
widths PerhapsTriangle = 0 ∷ 2 ∷ []
widths PerhapsPlaces = 0 ∷ 2 ∷ []
widths other = 1 ∷ []

abbrev pub sizes : List Kind → List ℕ
sizes [] = 0 ∷ []
sizes (kind ∷ kinds) = flat_map (λ w. map (λ n. w + n) (sizes kinds)) (widths kind)

-- words of these kinds can be so many
abbrev pub has_size : List Kind → ℕ → Bool
has_size kinds n = list_any (λ k. n == k) (sizes kinds)

-- what is read of the words in front, and the words after them
abbrev pub Taken : Type 0 → Type 0
Taken A = Result (A × List Word) LangFault

-- of the first word
abbrev pub first : {A : Type 0} → (Word → Result A LangFault) → List Word → Taken A
first reads [] = Err Words
first reads (word ∷ ws) = and_then (reads word) (λ a. Ok (a, ws))

-- `Y i j M N`
unfoldable pub area : Declared → List Word → Taken Area
area d ws =
    and_then (first (either d) ws) (λ y. and_then (first number y.1) (λ i. and_then (first number i.1) (λ j. and_then (first number j.1) (λ m. and_then (first number m.1) (λ n.
    Ok (record { array = y.0; i = i.0; j = j.0; m = m.0; n = n.0 }, n.1))))))

-- `rdest cdest`: -1 and any number, or two numbers n
abbrev pub column_of : ℤ → List Word → Taken (Option (ℕ × ℕ))
column_of (pos r) ws = and_then (first number ws) (λ c. Ok (Some (r, c.0), c.1))
column_of (negsuc zero) ws = and_then (first integer ws) (λ c. Ok (None, c.1))
column_of (negsuc (suc k)) ws = Err Number

unfoldable pub destination : List Word → Taken (Option (ℕ × ℕ))
destination ws = and_then (first integer ws) (λ r. column_of r.0 r.1)

-- the rest of a line
unfoldable pub lead : List Word → Taken (Option ℤ)
lead [] = Ok (None, [])
lead (word ∷ ws) = and_then (integer word) (λ v. Ok (Some v, ws))

unfoldable pub triangle : List Word → Taken (Option (Uplo × Diag))
triangle [] = Ok (None, [])
triangle (word ∷ ws) = and_then (uplo word) (λ u. and_then (first diag ws) (λ d. Ok (Some (u, d.0), d.1)))

unfoldable pub places : Declared → List Word → Taken (Option (ℕ × ℕ))
places d [] = Ok (None, [])
places d (word ∷ ws) = and_then (either d word) (λ r. and_then (first (either d) ws) (λ c. Ok (Some (r, c.0), c.1)))

unfoldable pub numbers : List Word → Result (List ℕ) LangFault
numbers [] = Ok []
numbers (word ∷ ws) = and_then (number word) (λ n. and_then (numbers ws) (λ ns. Ok (n ∷ ns)))

-- of words of a kind
abbrev pub read : Declared → (kind : Kind) → List Word → Taken (Meaning kind)
read d ANumber ws = first number ws
read d AnInteger ws = first integer ws
read d ARank ws = first (rank_below d.ranks) ws
read d ANewName ws = first (new_name d) ws
read d AGrid ws = first (grid d) ws
read d AnArray ws = first (array d) ws
read d AMatrix ws = first (matrix d) ws
read d AnEither ws = first (either d) ws
read d AnOrder ws = first order ws
read d AScope ws = first scope ws
read d ATopology ws = first topology ws
read d ACharacter ws = first character ws
read d AFile ws = first any_word ws
read d ThePieces ws = first pieces ws
read d AnArea ws = area d ws
read d ADestination ws = destination ws
read d PerhapsLead ws = lead ws
read d PerhapsTriangle ws = triangle ws
read d PerhapsPlaces ws = places d ws
read d AllNumbers ws = and_then (numbers ws) (λ ns. Ok (ns, []))

-- what makes a line of what is read
abbrev pub Makes : List Kind → Type 0
Makes [] = Line
Makes (kind ∷ kinds) = Meaning kind → Makes kinds

-- the line of words of these kinds, of which there are as many as there have to be; the first bad word from the left decides
abbrev pub read_as : Declared → (kinds : List Kind) → Makes kinds → List Word → Result Line LangFault
read_as d [] line ws = Ok line
read_as d (kind ∷ kinds) makes ws = and_then (read d kind ws) (λ found. read_as d kinds (makes found.0) found.1)
