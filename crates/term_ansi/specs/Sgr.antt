-- The SGR sequence of a look.
use Rattle.std.specs.Prelude.{ℕ, ◌+◌, ◌==◌, List, [], ◌∷◌, ◌++◌, Some, if◌then◌else◌}
use Rattle.std.specs.Int.RustNames.{bit_and}
use Rattle.term_text.specs.declared.style.Color.{Color}
use Rattle.term_text.specs.declared.style.Color.TheVariants.{Reset, Black, Red, Green, Yellow, Blue, Magenta, Cyan, Gray, DarkGray, LightRed, LightGreen, LightYellow, LightBlue, LightMagenta, LightCyan, White, Rgb, Indexed}
use Rattle.ansi_text.specs.declared.item.Item.{Item}
use Rattle.ansi_text.specs.Written.{code, written_others}
use Rattle.term_ansi.specs.declared.look.Look.{Look}

-- a colour: the first of eight dark ones has the code that is given, the first light one the code 60 further,
-- and one by its parts or its number stands behind the code 8 further; the terminal's own has none
abbrev pub color_items : ℕ → Color → List Item
color_items first Reset = []
color_items first Black = code first ∷ []
color_items first Red = code (first + 1) ∷ []
color_items first Green = code (first + 2) ∷ []
color_items first Yellow = code (first + 3) ∷ []
color_items first Blue = code (first + 4) ∷ []
color_items first Magenta = code (first + 5) ∷ []
color_items first Cyan = code (first + 6) ∷ []
color_items first Gray = code (first + 7) ∷ []
color_items first DarkGray = code (first + 60) ∷ []
color_items first LightRed = code (first + 61) ∷ []
color_items first LightGreen = code (first + 62) ∷ []
color_items first LightYellow = code (first + 63) ∷ []
color_items first LightBlue = code (first + 64) ∷ []
color_items first LightMagenta = code (first + 65) ∷ []
color_items first LightCyan = code (first + 66) ∷ []
color_items first White = code (first + 67) ∷ []
color_items first (Rgb r g b) = record { code = first + 8; color = Some (Rgb r g b) } ∷ []
color_items first (Indexed n) = record { code = first + 8; color = Some (Indexed n) } ∷ []

-- a modifier of a set, by its bit and its code
abbrev pub modifier_item : ℕ → ℕ → ℕ → List Item
modifier_item set bit n = if bit_and set bit == bit then code n ∷ [] else []

-- the modifiers of a set: bold, dim, italic, underlined, slow blink, rapid blink, reversed, hidden, crossed out
abbrev pub modifier_items : ℕ → List Item
modifier_items set =
    modifier_item set 1 1 ++ (modifier_item set 2 2 ++ (modifier_item set 4 3 ++ (modifier_item set 8 4 ++ (modifier_item set 16 5
    ++ (modifier_item set 32 6 ++ (modifier_item set 64 7 ++ (modifier_item set 128 8 ++ modifier_item set 256 9)))))))

-- modifiers, foreground, background
abbrev pub look_items : Look → List Item
look_items l = modifier_items l.modifier.0 ++ (color_items 30 l.fg ++ color_items 40 l.bg)

-- ESC, `[0`, each item with `;` before it, `m`
unfoldable pub sequence_text : Look → List ℕ
sequence_text l = 27 ∷ 91 ∷ 48 ∷ (written_others (look_items l) ++ 109 ∷ [])
