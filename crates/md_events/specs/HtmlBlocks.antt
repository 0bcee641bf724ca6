-- HTML blocks.
use Rattle.std.specs.Prelude.{List, ◌∷◌, take}
use Rattle.md_tree.specs.declared.event.Tag.TheVariants as tag
use Rattle.md_lines.specs.Lines.{LineText}
use Rattle.md_rules.specs.declared.html.HtmlEnd.{HtmlEnd}
use Rattle.md_rules.specs.Html.{html_more}
use Rattle.md_events.specs.declared.kept.Kept.TheVariants.{Html}
use Rattle.md_events.specs.Kept.{kept_lines}
use Rattle.md_events.specs.Node.{Block, Element}

-- the lines up to its end, whole
abbrev pub html_block : HtmlEnd → LineText → List LineText → Block
html_block end line later =
    record {
      node = Element tag.HtmlBlock (kept_lines Html 0 (line ∷ take (html_more end line later) later));
      more = html_more end line later;
    }
