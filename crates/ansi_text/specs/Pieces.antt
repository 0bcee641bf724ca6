-- A line divided into sequences, dropped pieces and stretches.
use Rattle.std.specs.Prelude.{ℕ, zero, suc, ◌≡◌, ◌==◌, Bool, true, List, [], ◌∷◌, length, Option, Some, None, if◌then◌else◌}
use Rattle.std.specs.Char.{is_ascii_alphabetic}
use Rattle.ansi_text.specs.declared.item.Item.{Item}
use Rattle.ansi_text.specs.Sequences.{Sequence, sequence}

-- an SGR sequence, what is dropped at an escape byte that begins none, or the bytes up to the next escape byte
pub data Piece : Type 0 where
  sgr : List Item → Piece
  cut : Piece
  stretch : List ℕ → Piece

-- the piece at an escape byte, and what follows it
pub record Escape : Type 0 where
  pub piece : Piece
  pub rest : List ℕ

-- an ASCII letter
abbrev pub is_letter : ℕ → Bool
is_letter b = is_ascii_alphabetic b

-- BEL
abbrev pub is_bell : ℕ → Bool
is_bell b = b == 7

-- what follows the first byte that passes, nothing where none does
unfoldable pub beyond : (ℕ → Bool) → List ℕ → List ℕ
beyond test [] = []
beyond test (b ∷ bs) = if test b then bs else beyond test bs

-- after ESC: `[` is dropped with everything up to and with the next letter, `]` with everything up to and with BEL
abbrev pub after_dropped : List ℕ → List ℕ
after_dropped [] = []
after_dropped (b ∷ bs) = if b == 91 then beyond is_letter bs else if b == 93 then beyond is_bell bs else b ∷ bs

abbrev pub escape_of : Option Sequence → List ℕ → Escape
escape_of None bs = record { piece = cut; rest = after_dropped bs }
escape_of (Some s) bs = record { piece = sgr s.items; rest = s.rest }

-- after ESC: a sequence where one matches, else what is dropped
abbrev pub escape : List ℕ → Escape
escape bs = escape_of (sequence bs) bs

-- a byte in front of the pieces goes to the stretch that they begin with
abbrev pub in_stretch : ℕ → List Piece → List Piece
in_stretch b [] = stretch (b ∷ []) ∷ []
in_stretch b (stretch text ∷ pieces) = stretch (b ∷ text) ∷ pieces
in_stretch b (sgr items ∷ pieces) = stretch (b ∷ []) ∷ sgr items ∷ pieces
in_stretch b (cut ∷ pieces) = stretch (b ∷ []) ∷ cut ∷ pieces

-- the pieces of a line, in at most n steps
unfoldable pub pieces_within : ℕ → List ℕ → List Piece
pieces_within zero bs = []
pieces_within (suc n) [] = []
pieces_within (suc n) (b ∷ bs) =
    if b == 27 then (escape bs).piece ∷ pieces_within n (escape bs).rest else in_stretch b (pieces_within n bs)

-- the pieces of a line; each step takes a byte
abbrev pub pieces : List ℕ → List Piece
pieces bs = pieces_within (length bs) bs

-- how many bytes stand before the first escape byte
unfoldable pub first_escape : List ℕ → ℕ
first_escape [] = 0
first_escape (b ∷ bs) = if b == 27 then 0 else suc (first_escape bs)

-- nothing is left, or an escape byte stands in front
abbrev pub AtEscape : List ℕ → Type 0
AtEscape [] = Unit {0}
AtEscape (b ∷ bs) = (b == 27) ≡ true
