-- The items of an SGR sequence written as text.
use Rattle.std.specs.Prelude.{ℕ, nat_le, Bool, true, false, ◌&&◌, List, [], ◌∷◌, ◌++◌, Option, Some, None}
use Rattle.std.specs.Fmt.{decimal}
use Rattle.term_text.specs.declared.style.Color.{Color}
use Rattle.term_text.specs.declared.style.Color.TheVariants.{Rgb, Indexed}
use Rattle.ansi_text.specs.declared.item.Item.{Item}
use Rattle.ansi_text.specs.Items.{takes_color}

-- a code alone
abbrev pub code : ℕ → Item
code n = record { code = n; color = None }

-- a number of 0 to 255
abbrev pub fits_byte : ℕ → Bool
fits_byte n = nat_le n 255

-- a colour that can stand in an item
abbrev pub is_color : Color → Bool
is_color (Rgb r g b) = fits_byte r && (fits_byte g && fits_byte b)
is_color (Indexed n) = fits_byte n
is_color _ = false

-- a colour stands behind the codes that take one, and behind no other
abbrev pub color_fits : Bool → Option Color → Bool
color_fits false None = true
color_fits false (Some c) = false
color_fits true None = false
color_fits true (Some c) = is_color c

-- an item that can be written
abbrev pub is_item : Item → Bool
is_item i = fits_byte i.code && color_fits (takes_color i.code) i.color

-- `2;R;G;B` or `5;N`
abbrev pub written_color : Color → List ℕ
written_color (Rgb r g b) = 50 ∷ 59 ∷ (decimal r ++ (59 ∷ (decimal g ++ (59 ∷ decimal b))))
written_color (Indexed n) = 53 ∷ 59 ∷ decimal n
written_color _ = []

-- `;` and the colour
abbrev pub written_behind : Option Color → List ℕ
written_behind None = []
written_behind (Some c) = 59 ∷ written_color c

abbrev pub written_item : Item → List ℕ
written_item i = decimal i.code ++ written_behind i.color

-- items behind another, each with `;` before it
abbrev pub written_others : List Item → List ℕ
written_others [] = []
written_others (i ∷ is) = 59 ∷ (written_item i ++ written_others is)

-- items with `;` between
abbrev pub written : List Item → List ℕ
written [] = []
written (i ∷ is) = written_item i ++ written_others is
