-- The values of a piece are read as those of its array's file.
use Rattle.std.proofs.Common.{◌≡◌, ℕ, suc, Bool, true, false, cond, ℤ, List, [], ◌∷◌, ◌++◌, Result, Ok, Err, refl, sym, ap, subst, ◌∙◌}
use Rattle.line_text.specs.Words.{words}
use Rattle.mm_grammar.specs.Width.{width32}
use Rattle.mm_grammar.specs.Matrix.{Matrix}
use Rattle.mm_grammar.specs.Faults.{Fault as MatrixFault, Refusal as MatrixRefusal, TooMany}
use Rattle.mm_grammar.specs.FileLines.{Line}
use Rattle.mm_grammar.specs.Symmetry.{General}
use Rattle.mm_grammar.specs.Expansion.{expanded}
use Rattle.mm_grammar.specs.Parts.{Header, wanted, value_words}
use Rattle.mm_grammar.specs.MatrixText.{matrix_of}
use Rattle.mm_grammar.specs.Place as at
use Rattle.line_text.specs.Formats as formats
use Rattle.mm_grammar.specs.Reading as matrix
use Rattle.mm_grammar.proofs.Steps as matrix_steps
use Rattle.store_io.specs.Outside.{Outside}
use Rattle.text_io.specs.Halting.{Leaves}
use Rattle.text_io.specs.declared.halt.Halt.{Halt}
use Rattle.text_io.specs.declared.halt.Halt.TheVariants as halt
use Rattle.mm_reader.specs.Halting as matrix_halts
use Rattle.mm_reader.specs.Views.{refusal_of}
use Rattle.mm_reader.specs.declared.fault.MmErr.{MmErr}
use Rattle.piece_file.specs.Halting.{Halts, halt_in}
use Rattle.piece_grammar.specs.Head.{Head, Piece}
use Rattle.piece_grammar.specs.Faults.{Mm, Refusal}
use Rattle.piece_grammar.specs.Turn.{Turn}
use Rattle.piece_grammar.specs.Place.{Behind}
use Rattle.piece_grammar.specs.PieceReading.{passed, ended_array, step, at_end, refused_at, and_then, read_on}

-- what reading the array's file gives the piece
abbrev pub as_piece : Head → Result Matrix MatrixRefusal → Result Piece Refusal
as_piece head (Ok m) = Ok (record { head = head; words = m.values })
as_piece head (Err r) = Err (record { line = r.line; fault = Mm r.fault })

abbrev next : at.Place → Result at.Place MatrixFault
next p = Ok p

place_is : (p q : at.Place) → next p ≡ next q → q ≡ p
place_is p q e = let s : p ≡ q = cc in sym s

-- after a value line come values
value_next : (header : Header) (stored : List ℤ) (ws : List (List ℕ)) (blank full : Bool) (q : at.Place)
    → cond blank (Ok (at.AtValues header stored)) (cond full (Err (TooMany (wanted header))) (matrix.then_at (λ v. at.AtValues header (stored ++ v ∷ [])) (value_words width32 header.symmetry ws))) ≡ Ok q
    → (more : List ℤ) × (q ≡ at.AtValues header more)
value_next header stored ws true full q e = (stored, place_is (at.AtValues header stored) q e)
value_next header stored ws false true q e = absurd cc
value_next header stored ws false false q e =
    let k = matrix_steps.then_ok (λ (v : ℤ). at.AtValues header (stored ++ v ∷ [])) (value_words width32 header.symmetry ws) q e in
    (stored ++ k.0 ∷ [], k.2)

values_next : (header : Header) (stored : List ℤ) (line : Line) (q : at.Place) → matrix.step width32 (at.AtValues header stored) line ≡ Ok q → (more : List ℤ) × (q ≡ at.AtValues header more)
unfolding matrix.step
values_next header stored line q e = let p = matrix_steps.unless_ok _ _ q e in value_next header stored (words line.text) _ _ q p.1

end_as : (head : Head) (n : ℕ) (r : Result Matrix MatrixFault) → refused_at n (ended_array head r) ≡ as_piece head (refused_at n r)
end_as head n (Ok m) = refl
end_as head n (Err fault) = refl

pub values_as : (turn : Turn) (head : Head) (header : Header) (lines : List Line) (n : ℕ) (stored : List ℤ)
    → read_on turn n (Behind head (at.AtValues header stored)) lines ≡ as_piece head (matrix.read_on width32 n (at.AtValues header stored) lines)
unfolding formats.read_on step at_end
values_as turn head header [] n stored = end_as head n (matrix.at_end (at.AtValues header stored))
values_as turn head header (line ∷ lines) n stored =
    elim (matrix.step width32 (at.AtValues header stored) line) as (λ (r : Result at.Place MatrixFault). matrix.step width32 (at.AtValues header stored) line ≡ r
    → and_then (refused_at n (passed [] (Behind head) r)) (λ p. read_on turn (suc n) p lines) ≡ as_piece head (and_then (refused_at n r) (λ p. matrix.read_on width32 (suc n) p lines))) [
      | Ok q ↦ λ e. (let m = values_next header stored line q e in
          subst (λ (p : at.Place). read_on turn (suc n) (Behind head p) lines ≡ as_piece head (matrix.read_on width32 (suc n) p lines)) (sym m.1) (values_as turn head header lines (suc n) m.0))
      | Err fault ↦ λ e. refl
    ] refl

-- all values were read, or reading was refused
pub values_given : (turn : Turn) (head : Head) (header : Header) (lines : List Line) (n : ℕ) (values : List ℤ) → header.symmetry ≡ General → matrix.read_on width32 n (at.AtValues header []) lines ≡ Ok (matrix_of header values)
    → read_on turn n (Behind head (at.AtValues header [])) lines ≡ Ok (record { head = head; words = values })
unfolding expanded
values_given turn head header lines n values kind e =
    values_as turn head header lines n []
    ∙ ap (as_piece head) e
    ∙ ap (λ k. Ok (record { head = head; words = expanded k header.columns values })) kind

values_refused : (turn : Turn) (head : Head) (header : Header) (lines : List Line) (n : ℕ) (r : MatrixRefusal) → matrix.read_on width32 n (at.AtValues header []) lines ≡ Err r
    → read_on turn n (Behind head (at.AtValues header [])) lines ≡ Err (record { line = r.line; fault = Mm r.fault })
values_refused turn head header lines n r e = values_as turn head header lines n [] ∙ ap (as_piece head) e

-- ---- why reading them halts

pub halts_in : (halt : Halt MmErr) (turn : Turn) (head : Head) (header : Header) (n : ℕ) (lines : List Line) → matrix_halts.Halts halt n (at.AtValues header []) lines → Halts (halt_in halt) turn n (Behind head (at.AtValues header [])) lines
halts_in (halt.Bad e) turn head header n lines is = values_refused turn head header lines n (refusal_of e) is
halts_in halt.Failed turn head header n lines is = tt
halts_in halt.Memory turn head header n lines is = tt

pub leaves_in : (halt : Halt MmErr) (old new : Outside) → Leaves halt old new → Leaves (halt_in halt) old new
leaves_in (halt.Bad e) old new is = is
leaves_in halt.Failed old new is = is
leaves_in halt.Memory old new is = is
