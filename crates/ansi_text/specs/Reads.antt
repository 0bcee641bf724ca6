-- What the readers of a sequence's parts answer.
use Rattle.std.specs.Prelude.{ℕ, min, List, [], ◌∷◌}
use Rattle.ansi_text.specs.declared.number.Numeral.{Numeral}
use Rattle.ansi_text.specs.declared.items.Coloring.{Coloring}
use Rattle.ansi_text.specs.declared.items.Reading.{Reading}
use Rattle.ansi_text.specs.Numbers.{NumberRead}
use Rattle.ansi_text.specs.declared.sequence.Restyled.{Restyled}
use Rattle.ansi_text.specs.Items.{ColorRead, ItemRead}
use Rattle.ansi_text.specs.Sequences.{Sequence}
use Rattle.ansi_text.specs.Pieces.{Escape, escape}
use Rattle.ansi_text.specs.Ansi.{after_items, after_sequence, after_piece}
use Rattle.term_text.specs.declared.style.Style.{Style}

abbrev pub number_read : Numeral → NumberRead
number_read n = record { value = n.value; rest = n.rest.now }

-- a number as it is kept: a greater one than 1000 as 1000
abbrev pub capped : NumberRead → NumberRead
capped n = record { value = min n.value 1000; rest = n.rest }

abbrev pub color_read : Coloring → ColorRead
color_read c = record { color = c.color; rest = c.rest.now }

abbrev pub item_read : Reading → ItemRead
item_read r = record { item = r.item; rest = r.rest.now }

-- a style, and what follows
pub record StyleRead : Type 0 where
  pub style : Style
  pub rest : List ℕ

abbrev pub style_read : Restyled → StyleRead
style_read r = record { style = r.style; rest = r.rest.now }

-- the style after the items alone, and after the sequence that they are
abbrev pub with_items : Style → Sequence → StyleRead
with_items style s = record { style = after_items style s.items; rest = s.rest }

abbrev pub with_sequence : Style → Sequence → StyleRead
with_sequence style s = record { style = after_sequence style s.items; rest = s.rest }

-- the style after the escape byte in front and what belongs to it
abbrev pub with_escape : Style → Escape → StyleRead
with_escape style e = record { style = after_piece style e.piece; rest = e.rest }

abbrev pub past_escape : Style → List ℕ → StyleRead
past_escape style [] = record { style = style; rest = [] }
past_escape style (b ∷ bs) = with_escape style (escape bs)
