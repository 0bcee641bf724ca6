-- Texts of plain characters, which Unicode's tables need not be asked about.
use Rattle.std.specs.Prelude.{◌≡◌, ℕ, Bool, true, ◌||◌, ◌==◌, List, [], ◌∷◌, chars, encode_utf8, if◌then◌else◌}
use Rattle.std.specs.Int.{is_in_range}
use Rattle.std.specs.List.{list_all}
use Rattle.ucd_table.specs.Rows.{Range, in_ranges}
use Rattle.term_text.specs.declared.style.Style.{Style}
use Rattle.term_text.specs.Graph.{Grapheme}

-- a printable ASCII character
abbrev pub is_printable : ℕ → Bool
is_printable c = is_in_range 0x20 0x7E c

-- Latin, Greek and Cyrillic characters, punctuation, currencies, arrows, operators, lines and blocks
abbrev pub narrow_ranges : List Range
narrow_ranges =
    (0x20, 0x7E) ∷ (0xA1, 0xA8) ∷ (0xAA, 0xAC) ∷ (0xAF, 0x2FF) ∷ (0x370, 0x482) ∷ (0x48A, 0x52F) ∷ (0x1E00, 0x1FFF)
    ∷ (0x2010, 0x2027) ∷ (0x2030, 0x203B) ∷ (0x20A0, 0x20BF) ∷ (0x2190, 0x2193) ∷ (0x2200, 0x22FF) ∷ (0x2500, 0x25A9) ∷ []

-- ideographs and their punctuation, kana, and full-width forms
abbrev pub wide_ranges : List Range
wide_ranges = (0x3001, 0x3029) ∷ (0x3041, 0x3096) ∷ (0x309B, 0x30FF) ∷ (0x3400, 0x4DBF) ∷ (0x4E00, 0x9FFF) ∷ (0xFF01, 0xFF60) ∷ []

-- a character that is a grapheme of one column
abbrev pub is_narrow : ℕ → Bool
is_narrow c = in_ranges narrow_ranges c

-- a character that is a grapheme of two columns
abbrev pub is_wide : ℕ → Bool
is_wide c = in_ranges wide_ranges c

abbrev pub is_plain : ℕ → Bool
is_plain c = is_narrow c || is_wide c

-- each character of the text is plain
abbrev pub IsPlain : List ℕ → Type 0
IsPlain text = list_all is_plain (chars text) ≡ true

-- each byte of the text is printable ASCII
abbrev pub IsPrintable : List ℕ → Type 0
IsPrintable text = list_all is_printable text ≡ true

-- the columns of a plain character
abbrev pub plain_width : ℕ → ℕ
plain_width c = if is_narrow c then 1 else 2

-- a plain character as a grapheme, which is blank if it is a space
abbrev pub plain_grapheme : Style → ℕ → Grapheme
plain_grapheme style c = record { symbol = encode_utf8 c; style = style; width = plain_width c; blank = c == 32 }

-- a printable byte as a grapheme
abbrev pub byte_grapheme : Style → ℕ → Grapheme
byte_grapheme style b = record { symbol = b ∷ []; style = style; width = 1; blank = b == 32 }
