-- Runs of cells of one look.
use Rattle.std.specs.Prelude.{ℕ, map, Bool, true, not, List, [], ◌∷◌, ◌++◌, ◌&&◌, nat_lt, if◌then◌else◌}
use Rattle.std.specs.List.{list_all}
use Rattle.term_core.specs.Cells.{CellView, blank_cell, with_style}
use Rattle.term_core.specs.Visited.{visited}
use Rattle.term_text.specs.Text.{SpanView, LineView}
use Rattle.term_text.specs.declared.style.Color.{Color}
use Rattle.term_text.specs.declared.style.Color.TheVariants.{Rgb, Indexed}
use Rattle.ansi_text.specs.Written.{fits_byte}
use Rattle.term_ansi.specs.declared.look.Look.{Look}
use Rattle.term_ansi.specs.Looks.{look_of, same_look}

-- cells of one look, by their joined symbols
pub record Run : Type 0 where
  pub look : Look
  pub text : List ℕ

abbrev pub run_of : CellView → Run
run_of c = record { look = look_of c; text = c.symbol }

-- a cell before runs: it joins the first if that has its look
abbrev pub before_runs : CellView → List Run → List Run
before_runs c [] = run_of c ∷ []
before_runs c (r ∷ rs) = if same_look (look_of c) r.look then record { look = r.look; text = c.symbol ++ r.text } ∷ rs else run_of c ∷ r ∷ rs

-- the maximal runs of equal look
unfoldable pub runs : List CellView → List Run
runs [] = []
runs (c ∷ cs) = before_runs c (runs cs)

-- the first of the runs has another look
abbrev pub begins_anew : Look → List Run → Bool
begins_anew l [] = true
begins_anew l (r ∷ rs) = not (same_look l r.look)

-- neighbours have different looks
abbrev pub neighbours_differ : List Run → Bool
neighbours_differ [] = true
neighbours_differ (r ∷ rs) = begins_anew r.look rs && neighbours_differ rs

-- a piece of a line that was read: the look that its style gives a blank cell, and its text
abbrev pub run_read : SpanView → Run
run_read s = record { look = look_of (with_style blank_cell s.style); text = s.text }

abbrev pub runs_read : LineView → List Run
runs_read line = map run_read line.spans

-- the parts of a colour are bytes
abbrev pub is_byte_color : Color → Bool
is_byte_color (Rgb r g b) = fits_byte r && (fits_byte g && fits_byte b)
is_byte_color (Indexed n) = fits_byte n
is_byte_color _ = true

-- the parts of both colours of a look are bytes
abbrev pub is_byte_look : Look → Bool
is_byte_look l = is_byte_color l.fg && is_byte_color l.bg

-- the parts of both colours are bytes, and the modifiers are among the nine
abbrev pub is_known : Look → Bool
is_known l = is_byte_color l.fg && (is_byte_color l.bg && nat_lt l.modifier.0 512)

abbrev pub is_known_cell : CellView → Bool
is_known_cell c = is_known (look_of c)

-- so for each visited cell of a row
abbrev pub is_known_row : List CellView → Bool
is_known_row row = list_all is_known_cell (visited row)

-- the parts of both colours of a cell are bytes, and its modifiers are among the nine
abbrev pub is_byte_cell : CellView → Bool
is_byte_cell c = is_byte_look (look_of c)

abbrev pub is_nine_cell : CellView → Bool
is_nine_cell c = nat_lt c.modifier.0 512

abbrev pub is_byte_row : List CellView → Bool
is_byte_row row = list_all is_byte_cell (visited row)

abbrev pub is_nine_row : List CellView → Bool
is_nine_row row = list_all is_nine_cell (visited row)
