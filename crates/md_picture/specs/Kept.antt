-- What a picture keeps of a cell.
use Rattle.std.specs.Prelude.{ℕ, List, map}
use Rattle.term_text.specs.Graph.{Grapheme, spans_graphs}
use Rattle.term_text.specs.Lists.{joined}
use Rattle.term_text.specs.Style.{no_style, patch}
use Rattle.term_text.specs.Text.{LineView}
use Rattle.term_text.specs.declared.style.Style.{Style}
use Rattle.md_picture.specs.Cells.{cell_rows}
use Rattle.md_picture.specs.Picture.{cell_spans}

-- a grapheme in its style patched by another
abbrev pub restyle : Style → Grapheme → Grapheme
restyle style g = record g { style = patch g.style style }

abbrev pub restyled : Style → List Grapheme → List Grapheme
restyled style gs = map (λ g. restyle style g) gs

-- the visible graphemes of a cell's parts in the lines of a picture, joined
abbrev pub parts_graphs : Style → ℕ → LineView → List Grapheme
parts_graphs style width cell = joined (map (λ spans. spans_graphs no_style (cell_spans style spans)) (cell_rows width cell))
