-- Styles: two optional colours, and two sets of modifiers as numbers of nine bits.
use Rattle.std.specs.Prelude.{Option, Some, None}
use Rattle.std.specs.Int.RustNames.{bit_or}
use Rattle.bitflags.specs.Sets.{without}
use Rattle.term_text.specs.declared.style.Color.{Color}
use Rattle.term_text.specs.declared.style.Color.TheVariants.{Reset}
use Rattle.term_text.specs.declared.style.Modifier.{Modifier}
use Rattle.term_text.specs.declared.style.Style.{Style}

-- the modifiers of a that are not in b, and those of either
abbrev pub less : Modifier → Modifier → Modifier
less a b = record { 0 = without 16 a.0 b.0 }

abbrev pub with_all : Modifier → Modifier → Modifier
with_all a b = record { 0 = bit_or a.0 b.0 }

abbrev pub or_else : Option Color → Option Color → Option Color
or_else (Some c) d = Some c
or_else None d = d

-- the style a with the style b over it
abbrev pub patch : Style → Style → Style
patch a b =
    record {
      fg = or_else b.fg a.fg;
      bg = or_else b.bg a.bg;
      add = with_all (less a.add b.sub) b.add;
      sub = with_all (less a.sub b.add) b.sub;
    }

abbrev pub no_style : Style
no_style = record { fg = None; bg = None; add = record { 0 = 0 }; sub = record { 0 = 0 } }

abbrev pub reset_style : Style
reset_style = record { fg = Some Reset; bg = Some Reset; add = record { 0 = 0 }; sub = record { 0 = 511 } }

abbrev pub with_modifier : Style → Modifier → Style
with_modifier s m = record s { add = with_all s.add m; sub = less s.sub m }

abbrev pub without_modifier : Style → Modifier → Style
without_modifier s m = record s { add = less s.add m; sub = with_all s.sub m }
