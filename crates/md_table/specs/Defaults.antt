-- The answers of the default sheet, a row for each.
use Rattle.std.specs.Prelude.{ℕ, List, codes, encode_utf8_all, Some, if◌then◌else◌, ◌==◌}
use Rattle.term_text.specs.declared.style.Color.{Color}
use Rattle.term_text.specs.declared.style.Color.TheVariants as color
use Rattle.term_text.specs.declared.style.Style.{Style}
use Rattle.term_text.specs.Style.{no_style, with_modifier}
use Rattle.md_table.specs.declared.alert.AlertKind.{AlertKind}
use Rattle.md_table.specs.declared.alert.AlertKind.TheVariants.{Note, Tip, Important, Warning, Caution}
use Rattle.md_table.specs.AlertKind.{label}
use Rattle.md_table.specs.Sheet.{Sheet}

-- a style that sets this colour for the text, or behind it
abbrev pub in_color : Color → Style
in_color c = record no_style { fg = Some c }

abbrev pub on_color : Color → Style → Style
on_color c style = record style { bg = Some c }

-- the style with one modifier more
abbrev pub bold : Style → Style
bold style = with_modifier style (record { 0 = 1 })

abbrev pub dim : Style → Style
dim style = with_modifier style (record { 0 = 2 })

abbrev pub italic : Style → Style
italic style = with_modifier style (record { 0 = 4 })

abbrev pub underlined : Style → Style
underlined style = with_modifier style (record { 0 = 8 })

abbrev pub default_heading : ℕ → Style
default_heading level =
    if level == 1 then underlined (bold (on_color color.Cyan no_style))
    else if level == 2 then bold (in_color color.Cyan)
    else if level == 3 then italic (bold (in_color color.Cyan))
    else italic (in_color color.LightCyan)

abbrev pub default_marker : ℕ → List ℕ
default_marker level =
    if level == 1 then codes "#"
    else if level == 2 then codes "##"
    else if level == 3 then codes "###"
    else if level == 4 then codes "####"
    else if level == 5 then codes "#####"
    else codes "######"

abbrev pub default_alert : AlertKind → Style
default_alert Note = in_color color.Blue
default_alert Tip = in_color color.Green
default_alert Important = in_color color.Magenta
default_alert Warning = in_color color.Yellow
default_alert Caution = in_color color.Red

-- in UTF-8 the characters U+2139 U+FE0F, U+1F4A1, U+2757, U+26A0 U+FE0F and U+1F534
abbrev pub default_icon : AlertKind → List ℕ
default_icon Note = encode_utf8_all (codes "ℹ\u{fe0f}")
default_icon Tip = encode_utf8_all (codes "💡")
default_icon Important = encode_utf8_all (codes "❗")
default_icon Warning = encode_utf8_all (codes "⚠\u{fe0f}")
default_icon Caution = encode_utf8_all (codes "🔴")

abbrev pub default_sheet : Sheet
default_sheet =
    record {
      heading = default_heading;
      heading_marker = default_marker;
      alert = default_alert;
      alert_icon = default_icon;
      alert_label = label;
      code_block_fence = codes "```";
      code = on_color color.Black (in_color color.White);
      link = underlined (in_color color.Blue);
      blockquote = in_color color.Green;
      heading_meta = dim no_style;
      metadata_block = in_color color.LightYellow;
      html = dim no_style;
      math_inline = italic (in_color color.Magenta);
      math_display = in_color color.Magenta;
      footnote_ref = italic (dim no_style);
      footnote_def = dim no_style;
      definition_term = bold no_style;
      definition_description = no_style;
      table_header = bold (in_color color.Cyan);
      table_cell = no_style;
      table_border = in_color color.DarkGray;
      list_marker = in_color color.LightBlue;
      image_alt = italic (dim no_style);
    }
