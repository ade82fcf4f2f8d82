-- The second line of a piece: `%DESC P Q p q M N MB NB RSRC CSRC LLD`.
use Rattle.std.specs.Prelude.{◌≡◌, ℕ, ◌*◌, ◌-◌, ◌||◌, ◌&&◌, ◌==◌, Bool, false, not, ℤ, pos, negsuc, List, [], ◌∷◌, Option, Some, None, codes, bytes_eq, nat_lt, if◌then◌else◌}
use Rattle.line_text.specs.Words.{words}
use Rattle.line_text.specs.Numbers.{signed_number}
pub use Rattle.line_text.specs.Integers.{in_32_bits}
use Rattle.mm_grammar.specs.Parts.{starts_blank}
use Rattle.proc_grid.specs.Refusals.{dealt_grid, dealt_rank}
use Rattle.proc_grid.specs.declared.world.Order.TheVariants.{R}
use Rattle.descriptor.specs.Bounds.{is_outside, part}
use Rattle.descriptor.specs.InfoOf.{info_of}
use Rattle.descriptor.specs.Entries.{descinit_entries}
use Rattle.descriptor.specs.declared.info.Info.{Info}
use Rattle.piece_grammar.specs.Head.{Head, IsHead}

-- the eleven numbers as they stand there
pub record Desc : Type 0 where
  pub nprow : ℤ
  pub npcol : ℤ
  pub prow : ℤ
  pub pcol : ℤ
  pub m : ℤ
  pub n : ℤ
  pub mb : ℤ
  pub nb : ℤ
  pub rsrc : ℤ
  pub csrc : ℤ
  pub lld : ℤ

unfoldable pub desc_word : List ℕ
desc_word = codes "%DESC"

abbrev pub before_numbers : Option ℤ → Option (List ℤ) → Option (List ℤ)
before_numbers None more = None
before_numbers (Some v) None = None
before_numbers (Some v) (Some more) = Some (v ∷ more)

-- the numbers that the words write: each an optional sign and one or more digits, in the range of 32 bits
unfoldable pub numbers_of : List (List ℕ) → Option (List ℤ)
numbers_of [] = Some []
numbers_of (word ∷ words) = before_numbers (in_32_bits (signed_number word)) (numbers_of words)

-- eleven numbers
unfoldable pub desc_numbered : List ℤ → Option Desc
desc_numbered (nprow ∷ npcol ∷ prow ∷ pcol ∷ m ∷ n ∷ mb ∷ nb ∷ rsrc ∷ csrc ∷ lld ∷ []) = Some (record {
  nprow = nprow;
  npcol = npcol;
  prow = prow;
  pcol = pcol;
  m = m;
  n = n;
  mb = mb;
  nb = nb;
  rsrc = rsrc;
  csrc = csrc;
  lld = lld;
})
desc_numbered other = None

abbrev pub desc_if_all : Option (List ℤ) → Option Desc
desc_if_all None = None
desc_if_all (Some numbers) = desc_numbered numbers

-- twelve words, the first of them the mark of such lines, the others numbers
unfoldable pub desc_words : List (List ℕ) → Option Desc
desc_words [] = None
desc_words (mark ∷ words) = if bytes_eq mark desc_word then desc_if_all (numbers_of words) else None

-- what a line says that starts at its first byte and has this form
abbrev pub desc_of : List ℕ → Option Desc
desc_of text = if starts_blank text then None else desc_words (words text)

-- P or Q is outside 1 to 64, or there are more than 64 processes, or p or q is no row or column of the grid
abbrev pub is_off_grid : Desc → Bool
is_off_grid d =
    is_outside d.nprow 1 64 || is_outside d.npcol 1 64 || nat_lt 64 (part d.nprow * part d.npcol)
    || is_outside d.prow 0 (part d.nprow - 1) || is_outside d.pcol 0 (part d.npcol - 1)

-- what `descinit` answers to M, N, MB, NB, RSRC, CSRC and LLD for the process (p, q) of a P by Q grid that is dealt out by rows
abbrev pub desc_info : Desc → Option Info
desc_info d =
    info_of (descinit_entries (dealt_grid R (part d.nprow) (part d.npcol) ∷ []) d.m d.n d.mb d.nb d.rsrc d.csrc (pos 0) d.lld
    (dealt_rank R (part d.nprow) (part d.npcol) (part d.prow) (part d.pcol)))

-- the numbers of a head as they stand in a line, and the head of numbers that are all at least 0
abbrev pub desc_of_head : Head → Desc
desc_of_head h = record {
  nprow = pos h.nprow;
  npcol = pos h.npcol;
  prow = pos h.prow;
  pcol = pos h.pcol;
  m = pos h.m;
  n = pos h.n;
  mb = pos h.mb;
  nb = pos h.nb;
  rsrc = pos h.rsrc;
  csrc = pos h.csrc;
  lld = pos h.lld;
}

abbrev pub head_of : Desc → Head
head_of d = record {
  nprow = part d.nprow;
  npcol = part d.npcol;
  prow = part d.prow;
  pcol = part d.pcol;
  m = part d.m;
  n = part d.n;
  mb = part d.mb;
  nb = part d.nb;
  rsrc = part d.rsrc;
  csrc = part d.csrc;
  lld = part d.lld;
}

-- the number is this one
abbrev pub is_number : ℤ → ℕ → Bool
is_number (pos n) k = n == k
is_number (negsuc n) k = false

-- one of P, Q, M, N, MB, NB, RSRC, CSRC differs from the head's
abbrev pub differs_from : Desc → Head → Bool
differs_from d h =
    not (is_number d.nprow h.nprow && is_number d.npcol h.npcol && is_number d.m h.m && is_number d.n h.n && is_number d.mb h.mb && is_number d.nb h.nb
    && is_number d.rsrc h.rsrc && is_number d.csrc h.csrc)

-- The tests of a line pass exactly the heads that a piece may have.
pub record AreHeadsTested : Type 0 where
  pub passes : (h : Head) → IsHead h → (is_off_grid (desc_of_head h) ≡ false) × (desc_info (desc_of_head h) ≡ None)
  pub passed : (d : Desc) → is_off_grid d ≡ false → desc_info d ≡ None → IsHead (head_of d) × (d ≡ desc_of_head (head_of d))
