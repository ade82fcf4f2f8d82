-- What a word of a line can be.
use Rattle.std.specs.Prelude.{ℕ, ◌^◌, Bool, false, ◌&&◌, ◌||◌, ◌==◌, ℤ, pos, negsuc, List, [], ◌∷◌, length, Option, Some, None, Result, Ok, Err, codes, nat_le, nat_lt, if◌then◌else◌}
use Rattle.std.specs.List.{list_all}
use Rattle.std.specs.Option.{option_map}
use Rattle.std.specs.Char.{is_ascii_alphabetic, is_ascii_alphanumeric}
use Rattle.std.specs.Str.{str_eq_ignore_ascii_case}
use Rattle.line_text.specs.Numbers.{digits_number, signed_number}
use Rattle.line_text.specs.Integers.{in_32_bits}
use Rattle.proc_grid.specs.declared.world.Order.{Order}
use Rattle.proc_grid.specs.declared.scope.Scope.{Scope}
use Rattle.proc_grid.specs.declared.scope.Scope.TheVariants.{Row, Column, All}
use Rattle.proc_grid.specs.Refusals.{order_of}
use Rattle.route_tree.specs.declared.top.Top.{Top}
use Rattle.route_tree.specs.Letters.{top_of}
use Rattle.grid_lang.specs.declared.fault.LangFault.{LangFault}
use Rattle.grid_lang.specs.declared.fault.LangFault.TheVariants.{Unknown, Number, Name, Twice}
use Rattle.pack_words.specs.declared.uplo.Uplo.{Uplo}
use Rattle.pack_words.specs.declared.uplo.Uplo.TheVariants.{Upper, Lower}
use Rattle.pack_words.specs.declared.diag.Diag.{Diag}
use Rattle.pack_words.specs.declared.diag.Diag.TheVariants.{N, U}
use Rattle.grid_lang.specs.declared.named.Named.{Named}
use Rattle.grid_lang.specs.declared.named.Named.TheVariants.{Grid, Array, Matrix}
use Rattle.grid_lang.specs.Names.{Declared}

abbrev pub Word : Type 0
Word = List ℕ

-- what is there, or else the fault
abbrev pub or_fault : {A : Type 0} → LangFault → Option A → Result A LangFault
or_fault fault (Some a) = Ok a
or_fault fault None = Err fault

-- z: an optional sign and one or more digits, in the range of 32 bits
unfoldable pub integer : Word → Result ℤ LangFault
integer word = or_fault Number (in_32_bits (signed_number word))

-- n: such a number of at least 0
abbrev pub at_least_0 : Result ℤ LangFault → Result ℕ LangFault
at_least_0 (Ok (pos n)) = Ok n
at_least_0 (Ok (negsuc n)) = Err Number
at_least_0 (Err fault) = Err fault

unfoldable pub number : Word → Result ℕ LangFault
number word = at_least_0 (integer word)

-- a rank of the world
abbrev pub rank_or_fault : ℕ → Result ℕ LangFault → Result ℕ LangFault
rank_or_fault ranks (Ok n) = if nat_lt n ranks then Ok n else Err Number
rank_or_fault ranks (Err fault) = Err fault

unfoldable pub rank_below : ℕ → Word → Result ℕ LangFault
rank_below ranks word = rank_or_fault ranks (number word)

-- a name: a letter and at most 31 further letters, digits and `_` (95)
abbrev pub is_name_byte : ℕ → Bool
is_name_byte b = is_ascii_alphanumeric b || b == 95

unfoldable pub is_name : Word → Bool
is_name [] = false
is_name (b ∷ bs) = is_ascii_alphabetic b && nat_le (length bs) 31 && list_all is_name_byte bs

-- a name that is declared here
abbrev pub unless_named : Word → Option Named → Result Word LangFault
unless_named word None = Ok word
unless_named word (Some what) = Err Twice

unfoldable pub new_name : Declared → Word → Result Word LangFault
new_name d word = if is_name word then unless_named word (d.names word) else Err Name

-- G, X, V, Y: a declared grid, ARRAY, MATRIX, and either of the two
abbrev pub grid_of : Option Named → Result ℕ LangFault
grid_of (Some (Grid k)) = Ok k
grid_of (Some (Array k)) = Err Name
grid_of (Some (Matrix k)) = Err Name
grid_of None = Err Name

abbrev pub array_of : Option Named → Result ℕ LangFault
array_of (Some (Grid k)) = Err Name
array_of (Some (Array k)) = Ok k
array_of (Some (Matrix k)) = Err Name
array_of None = Err Name

abbrev pub matrix_of : Option Named → Result ℕ LangFault
matrix_of (Some (Grid k)) = Err Name
matrix_of (Some (Array k)) = Err Name
matrix_of (Some (Matrix k)) = Ok k
matrix_of None = Err Name

abbrev pub either_of : Option Named → Result ℕ LangFault
either_of (Some (Grid k)) = Err Name
either_of (Some (Array k)) = Ok k
either_of (Some (Matrix k)) = Ok k
either_of None = Err Name

-- a word of one character
abbrev pub only_character : Word → Option ℕ
only_character [] = None
only_character (c ∷ []) = Some c
only_character (c ∷ d ∷ more) = None

-- what a word of one character stands for, if it stands for something
abbrev pub named_by : {A : Type 0} → (ℕ → Option A) → Option ℕ → Option A
named_by meaning None = None
named_by meaning (Some c) = meaning c

unfoldable pub order : Word → Result Order LangFault
order word = or_fault Unknown (named_by order_of (only_character word))

-- a topology is a character, and `-` (45) stands for the blank (32)
abbrev pub topology_of : ℕ → Option Top
topology_of c = if c == 45 then top_of 32 else top_of c

unfoldable pub topology : Word → Result Top LangFault
topology word = or_fault Unknown (named_by topology_of (only_character word))

abbrev pub uplo_of : ℕ → Option Uplo
uplo_of c = if c == 85 || c == 117 then Some Upper else if c == 76 || c == 108 then Some Lower else None

unfoldable pub uplo : Word → Result Uplo LangFault
uplo word = or_fault Unknown (named_by uplo_of (only_character word))

abbrev pub diag_of : ℕ → Option Diag
diag_of c = if c == 78 || c == 110 then Some N else if c == 85 || c == 117 then Some U else None

unfoldable pub diag : Word → Result Diag LangFault
diag word = or_fault Unknown (named_by diag_of (only_character word))

-- any word of one character
unfoldable pub character : Word → Result ℕ LangFault
character word = or_fault Unknown (only_character word)

abbrev pub whole_grid : List ℕ → Option Scope
whole_grid [] = Some All
whole_grid (b ∷ bs) = None

-- a scope: `A`, or `R` or `C` directly followed by one or more digits whose number is in the range of 32 bits
abbrev pub small_number : Option ℕ → Option ℕ
small_number None = None
small_number (Some n) = if nat_lt n (2 ^ 31) then Some n else None

unfoldable pub scope_of : Word → Option Scope
scope_of [] = None
scope_of (c ∷ digits) =
    if c == 65 || c == 97 then whole_grid digits
    else if c == 82 || c == 114 then option_map (λ p. Row p) (small_number (digits_number digits))
    else if c == 67 || c == 99 then option_map (λ q. Column q) (small_number (digits_number digits))
    else None

unfoldable pub scope : Word → Result Scope LangFault
scope word = or_fault Unknown (scope_of word)

-- the word PIECES
unfoldable pub pieces : Word → Result (Unit {0}) LangFault
pieces word = if str_eq_ignore_ascii_case word (codes "PIECES") then Ok tt else Err Unknown

-- a declared grid, ARRAY, MATRIX, and either of the two
unfoldable pub grid : Declared → Word → Result ℕ LangFault
grid d word = grid_of (d.names word)

unfoldable pub array : Declared → Word → Result ℕ LangFault
array d word = array_of (d.names word)

unfoldable pub matrix : Declared → Word → Result ℕ LangFault
matrix d word = matrix_of (d.names word)

unfoldable pub either : Declared → Word → Result ℕ LangFault
either d word = either_of (d.names word)

-- any word
unfoldable pub any_word : Word → Result Word LangFault
any_word word = Ok word
