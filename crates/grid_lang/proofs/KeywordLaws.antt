-- The line of a keyword is of its part.
use Rattle.std.proofs.Common.{◌≡◌, Bool, true, false, cond, List, [], ◌∷◌, length, Option, Some, None, Result, Ok, Err, refl, subst}
use Rattle.std.specs.Prelude.{◌==◌}
use Rattle.line_text.specs.Formats.{and_then}
use Rattle.grid_lang.specs.declared.fault.LangFault.{LangFault}
use Rattle.grid_lang.specs.declared.fault.LangFault.TheVariants.{Words}
use Rattle.grid_lang.specs.declared.keyword.Keyword.{Keyword}
use Rattle.grid_lang.specs.declared.keyword.Keyword.TheVariants as key
use Rattle.grid_lang.specs.declared.named.Named.{Named}
use Rattle.grid_lang.specs.declared.named.Named.TheVariants as names
use Rattle.grid_lang.specs.declared.part.Part.{Part}
use Rattle.grid_lang.specs.declared.line.Line.{Line}
use Rattle.grid_lang.specs.Names.{Declared}
use Rattle.grid_lang.specs.WordKinds.{Word}
use Rattle.grid_lang.specs.Kinds.{Kind, Meaning, Taken, Makes, has_size, read, read_as}
use Rattle.grid_lang.specs.Table.{Form, ranks_form, grid_form, map_form, array_form, matrix_form, load_form, fill_form, send_form, recv_form, bcast_form, sum_form, amx_form, amn_form, barrier_form, gemr2d_form, trmr2d_form, save_pieces_form, save_form, print_array_form, print_matrix_form, part_of, has_map_size, sized, print_form, line_of}
use Rattle.grid_lang.specs.ProgramParts.{part_of_line}

-- each line that can be made is of the part
abbrev AllMake : (kinds : List Kind) → Makes kinds → Part → Type 0
AllMake [] line part = part_of_line line ≡ part
AllMake (kind ∷ kinds) makes part = (x : Meaning kind) → AllMake kinds (makes x) part

same_line : {E : Type 0} (a b : Line) → (let x : Result Line E = Ok a in x ≡ Ok b) → a ≡ b
same_line a b e = cc

on_read : (d : Declared) (kind : Kind) (kinds : List Kind) (makes : Makes (kind ∷ kinds)) (r : Taken (Meaning kind)) (line : Line) (part : Part)
    → ((x : Meaning kind) (ws : List Word) → read_as d kinds (makes x) ws ≡ Ok line → part_of_line line ≡ part) → and_then r (λ found. read_as d kinds (makes found.0) found.1) ≡ Ok line → part_of_line line ≡ part
on_read d kind kinds makes (Ok found) line part next e = next found.0 found.1 e
on_read d kind kinds makes (Err fault) line part next e = absurd cc

of_read : (d : Declared) (kinds : List Kind) (makes : Makes kinds) (ws : List Word) (line : Line) (part : Part) → AllMake kinds makes part → read_as d kinds makes ws ≡ Ok line → part_of_line line ≡ part
of_read d [] made ws line part all e = subst (λ (l : Line). part_of_line l ≡ part) (same_line {E = LangFault} made line e) all
of_read d (kind ∷ kinds) makes ws line part all e = on_read d kind kinds makes (read d kind ws) line part (λ x us f. of_read d kinds (makes x) us line part (all x) f) e

chosen : (t : Bool) (form : Form) (d : Declared) (ws : List Word) (line : Line) (part : Part) → AllMake form.kinds form.makes part
    → and_then (cond t (Ok form) (Err Words)) (λ f. read_as d f.kinds f.makes ws) ≡ Ok line → part_of_line line ≡ part
chosen true form d ws line part all e = of_read d form.kinds form.makes ws line part all e
chosen false form d ws line part all e = absurd cc

saved : (t : Bool) (d : Declared) (ws : List Word) (line : Line) → and_then (cond t (Ok save_pieces_form) (sized save_form ws)) (λ f. read_as d f.kinds f.makes ws) ≡ Ok line → part_of_line line ≡ part_of key.Save
saved true d ws line e = of_read d save_pieces_form.kinds save_pieces_form.makes ws line (part_of key.Save) (λ a b c. refl) e
saved false d ws line e = chosen (has_size save_form.kinds (length ws)) save_form d ws line (part_of key.Save) (λ a b. refl) e

printed : (what : Option Named) (d : Declared) (ws : List Word) (line : Line) → and_then (print_form what ws) (λ f. read_as d f.kinds f.makes ws) ≡ Ok line → part_of_line line ≡ part_of key.Print
printed (Some (names.Array k)) d ws line e = chosen (has_size print_array_form.kinds (length ws)) print_array_form d ws line (part_of key.Print) (λ a. refl) e
printed (Some (names.Matrix k)) d ws line e = chosen (has_size print_matrix_form.kinds (length ws)) print_matrix_form d ws line (part_of key.Print) (λ a b. refl) e
printed (Some (names.Grid k)) d ws line e = absurd cc
printed None d ws line e = absurd cc

pub of_keyword : (keyword : Keyword) (d : Declared) (ws : List Word) (line : Line) → line_of keyword d ws ≡ Ok line → part_of_line line ≡ part_of keyword
unfolding line_of
of_keyword key.Ranks d ws line e = chosen (has_size ranks_form.kinds (length ws)) ranks_form d ws line (part_of key.Ranks) (λ a. refl) e
of_keyword key.Grid d ws line e = chosen (has_size grid_form.kinds (length ws)) grid_form d ws line (part_of key.Grid) (λ a b c d. refl) e
of_keyword key.Map d ws line e = chosen (has_map_size ws) map_form d ws line (part_of key.Map) (λ a b c d. refl) e
of_keyword key.Array d ws line e = chosen (has_size array_form.kinds (length ws)) array_form d ws line (part_of key.Array) (λ a b c d e f g h i. refl) e
of_keyword key.Matrix d ws line e = chosen (has_size matrix_form.kinds (length ws)) matrix_form d ws line (part_of key.Matrix) (λ a b c. refl) e
of_keyword key.Load d ws line e = chosen (has_size load_form.kinds (length ws)) load_form d ws line (part_of key.Load) (λ a b. refl) e
of_keyword key.Fill d ws line e = chosen (has_size fill_form.kinds (length ws)) fill_form d ws line (part_of key.Fill) (λ a b c d e. refl) e
of_keyword key.Send d ws line e = chosen (has_size send_form.kinds (length ws)) send_form d ws line (part_of key.Send) (λ a b c d e f g. refl) e
of_keyword key.Recv d ws line e = chosen (has_size recv_form.kinds (length ws)) recv_form d ws line (part_of key.Recv) (λ a b c d e f g. refl) e
of_keyword key.Bcast d ws line e = chosen (has_size bcast_form.kinds (length ws)) bcast_form d ws line (part_of key.Bcast) (λ a b c d e f g. refl) e
of_keyword key.Sum d ws line e = chosen (has_size sum_form.kinds (length ws)) sum_form d ws line (part_of key.Sum) (λ a b c d e. refl) e
of_keyword key.Amx d ws line e = chosen (has_size amx_form.kinds (length ws)) amx_form d ws line (part_of key.Amx) (λ a b c d e f. refl) e
of_keyword key.Amn d ws line e = chosen (has_size amn_form.kinds (length ws)) amn_form d ws line (part_of key.Amn) (λ a b c d e f. refl) e
of_keyword key.Barrier d ws line e = chosen (has_size barrier_form.kinds (length ws)) barrier_form d ws line (part_of key.Barrier) (λ a b. refl) e
of_keyword key.Gemr2d d ws line e = chosen (has_size gemr2d_form.kinds (length ws)) gemr2d_form d ws line (part_of key.Gemr2d) (λ a b c d e f g h i. refl) e
of_keyword key.Trmr2d d ws line e = chosen (has_size trmr2d_form.kinds (length ws)) trmr2d_form d ws line (part_of key.Trmr2d) (λ a b c d e f g h i j k. refl) e
of_keyword key.Save d ws line e = saved (length ws == 3) d ws line e
of_keyword key.Print d [] line e = absurd cc
of_keyword key.Print d (word ∷ ws) line e = printed (d.names word) d (word ∷ ws) line e
