-- Control bytes of printed text.
use Rattle.std.specs.Prelude.{ℕ, ◌≡◌, ◌==◌, ◌||◌, nat_le, Bool, true, List, ◌∷◌, ◌++◌}
use Rattle.std.specs.List.{list_all}
use Rattle.term_core.specs.Cells.{CellView}
use Rattle.term_core.specs.Visited.{visited}
use Rattle.term_ansi.specs.declared.look.Look.{Look}
use Rattle.term_ansi.specs.Sgr.{sequence_text}

-- no byte of the symbol is a control byte below 32
abbrev pub is_clean_cell : CellView → Bool
is_clean_cell c = list_all (λ b. nat_le 32 b) c.symbol

-- so for each visited cell of a row
abbrev pub is_clean_row : List CellView → Bool
is_clean_row row = list_all is_clean_cell (visited row)

-- no control byte below 32 but ESC and LF
abbrev pub is_printed_byte : ℕ → Bool
is_printed_byte b = nat_le 32 b || (b == 27 || b == 10)

-- the sequence of a look stands in front
pub record BeginsSequence (text : List ℕ) : Type 0 where
  pub look : Look
  pub rest : List ℕ
  pub is : text ≡ sequence_text look ++ rest

-- at each ESC of the text the sequence of a look begins
abbrev pub OwnEscapes : List ℕ → Type 0
OwnEscapes text = (before after : List ℕ) → text ≡ before ++ (27 ∷ after) → BeginsSequence (27 ∷ after)

-- each byte may be printed, and at each ESC a sequence of a look begins
pub record HasOwnControls (text : List ℕ) : Type 0 where
  pub bytes : list_all is_printed_byte text ≡ true
  pub escapes : OwnEscapes text
