-- The mascot: its picture and the pairs of its dots.
use Rattle.std.specs.Prelude.{ℕ, ◌+◌, ◌*◌, Bool, ◌&&◌, ◌||◌, ◌==◌, List, [], Option, Some, None, chars, map, slice_get, unwrap_or, if◌then◌else◌}
use Rattle.term_text.specs.declared.style.Color.{Color}
use Rattle.term_text.specs.declared.style.Color.TheVariants.{Indexed}
use Rattle.term_core.specs.declared.paint.Paint.{Paint}
use Rattle.term_core.specs.Cells.{CellView}
use Rattle.term_core.specs.Paint.{painted}
use Rattle.term_widgets.specs.declared.mascot.MascotEyeColor.{MascotEyeColor}
use Rattle.term_widgets.specs.declared.mascot.MascotEyeColor.TheVariants.{Default, Red}
use Rattle.term_widgets.specs.declared.picture.TheConstants.{PICTURE}

-- ---- the picture

-- the dots of a line of a picture, of which there are none behind the last
abbrev pub dots_in : List (List ℕ) → ℕ → List ℕ
dots_in lines line = unwrap_or (slice_get (map chars lines) line) []

-- the lines of the mascot's picture
abbrev pub picture : List (List ℕ)
picture = map (λ line. line.now) PICTURE

abbrev pub dots_of : ℕ → List ℕ
dots_of line = dots_in picture line

abbrev pub both : Option ℕ → Option ℕ → Option (ℕ × ℕ)
both None b = None
both (Some a) None = None
both (Some a) (Some b) = Some (a, b)

-- the upper and the lower dot of the cell in column x and row y, up to the end of the shorter of the two lines
abbrev pub pair_at : ℕ → ℕ → Option (ℕ × ℕ)
pair_at x y = both (slice_get (dots_of (2 * y)) x) (slice_get (dots_of (2 * y + 1)) x)

-- ---- the pairs

abbrev pub eye_color : MascotEyeColor → Color
eye_color Default = Indexed 236
eye_color Red = Indexed 196

-- rat, hat, eye, screen, case, and what the screen shows
abbrev pub dot_color : MascotEyeColor → ℕ → Color
dot_color eye dot =
    if dot == 0x2588 then Indexed 252
    else if dot == 0x68 then Indexed 231
    else if dot == 0x65 then eye_color eye
    else if dot == 0x2591 then Indexed 232
    else if dot == 0x2592 then Indexed 237
    else Indexed 248

abbrev pub upper_half : Color → Option Color → Paint
upper_half fg bg = record { symbol = 0x2580; fg = Some fg; bg = bg }

abbrev pub lower_half : Color → Option Color → Paint
lower_half fg bg = record { symbol = 0x2584; fg = Some fg; bg = bg }

abbrev pub full : ℕ → Color → Color → Paint
full symbol fg bg = record { symbol = symbol; fg = Some fg; bg = Some bg }

-- what a cell is painted with that has the upper dot a in the colour up and the lower dot b in the colour low: the first line
-- that fits, and where both dots are blank, nothing
abbrev pub paint_of : ℕ → ℕ → Color → Color → Option Paint
paint_of a b up low =
    if (a == 0x20) && (b == 0x20) then None
    else if (a == 0x2591) && (b == 0x2591) then Some (full 0x20 up low)
    else if b == 0x20 then Some (upper_half up None)
    else if a == 0x20 then Some (lower_half low None)
    else if b == 0x2591 then Some (upper_half up (Some low))
    else if a == 0x2591 then Some (lower_half low (Some up))
    else if a == b then Some (full 0x2588 up low)
    else Some (upper_half up (Some low))

abbrev pub pair_paint : MascotEyeColor → ℕ → ℕ → Option Paint
pair_paint eye a b = paint_of a b (dot_color eye a) (dot_color eye b)

abbrev pub with_paint : Option Paint → CellView → CellView
with_paint None c = c
with_paint (Some paint) c = painted paint c

-- ---- the mascot

abbrev pub pair_cell : MascotEyeColor → Option (ℕ × ℕ) → CellView → CellView
pair_cell eye None c = c
pair_cell eye (Some pair) c = with_paint (pair_paint eye pair.0 pair.1) c

-- what the mascot makes of the cell in column x and row y of its area
abbrev pub mascot_cell : MascotEyeColor → ℕ → ℕ → CellView → CellView
mascot_cell eye x y c = pair_cell eye (pair_at x y) c

-- ---- what a cell displays

-- the colours of the upper and the lower half of a cell with the symbol ▀, ▄, █ or a space
abbrev pub halves : ℕ → Color → Color → Option (Color × Color)
halves symbol fg bg =
    if symbol == 0x2580 then Some (fg, bg)
    else if symbol == 0x2584 then Some (bg, fg)
    else if symbol == 0x2588 then Some (fg, fg)
    else if symbol == 0x20 then Some (bg, bg)
    else None

-- the colour of a dot over a background: where the dot is blank, the background
abbrev pub over : MascotEyeColor → ℕ → Color → Color
over eye dot bg = if dot == 0x20 then bg else dot_color eye dot

-- whether a dot has a colour, or is blank
abbrev pub is_dot : ℕ → Bool
is_dot dot =
    ((dot == 0x20) || (dot == 0x2588)) || ((dot == 0x68) || (dot == 0x65)) || ((dot == 0x2591) || (dot == 0x2592)) || (dot == 0x2593)

-- whether a cell of the mascot has the eye
abbrev pub has_eye : ℕ → ℕ → Bool
has_eye x y = ((x == 21) || (x == 22)) && (y == 5)
