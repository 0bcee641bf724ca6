-- The pieces of a text's layout, and the page that is drawn of the text behind some bytes.
use Rattle.std.proofs.Common.{◌≡◌, ◌<◌, ◌^◌, ℕ, List, length, false, ap, sym, subst, ◌∙◌}
use Rattle.term_core.specs.BufferRows.{area_rows}
use Rattle.term_core.specs.Buffers.{BufferView, cell_at, cell_put}
use Rattle.term_core.specs.Cells.{view}
use Rattle.term_core.specs.Lists.{joined}
use Rattle.term_core.specs.declared.rect.Rect.{Rect}
use Rattle.term_widgets.specs.Page.{PageView, page_rows}
use Rattle.md_page.specs.Shown.{IsDrawn, rows, too_wide}
use Rattle.md_events.specs.Blocks.{tree}
use Rattle.md_events.proofs.GoodBlocks.{tree-good}
use Rattle.md_text.specs.Environment.{first_environment, first_spacing}
use Rattle.md_text.specs.Look.{Look}
use Rattle.md_text.specs.Layout.{document_layout, document_lines}
use Rattle.md_text.specs.Pieces.{puts, document_pieces}
use Rattle.md_text.specs.Framed.{HoldsPieces}
use Rattle.md_text.proofs.Pieces.{puts-layout}
use Rattle.md_text.proofs.Frames.{document-holds}

-- the spans that a text's layout puts are the pieces of its tree
pub puts_are_pieces : (look : Look) (text : List ℕ) → puts (document_layout look (tree text)).marks ≡ document_pieces look (tree text)
puts_are_pieces look text = puts-layout look (tree text) first_environment first_spacing

-- and they are what the lines hold, since the tree of a text is good
pub lines_hold_pieces : (look : Look) (text : List ℕ) → length text < 2 ^ 64 →
    HoldsPieces (document_lines look (tree text)) (document_pieces look (tree text))
lines_hold_pieces look text small = document-holds look (tree text) (tree-good text small)

-- the page that is drawn of a text is that of equal bytes, and so it is where it is too narrow
pub drawn_of : (look : Look) (t text : List ℕ) (cut : Rect) (scroll : ℕ) (page : PageView) (old new : BufferView) → t ≡ text
    → IsDrawn look t cut scroll page old new → IsDrawn look text cut scroll page old new
drawn_of look t text cut scroll page old new e drawn = subst (λ s. IsDrawn look s cut scroll page old new) e drawn

-- a page at an area's width that was drawn on it
pub drawn_on : (look : Look) (text : List ℕ) (cut : Rect) (w scroll : ℕ) (page : PageView) (old new : BufferView) → w ≡ cut.width
    → page ≡ record { width = w; lines = document_lines look (tree text) } → too_wide look text w ≡ false
    → ((x y : ℕ) → cell_at new x y ≡ cell_put cut (joined (view (page_rows page) cut.width cut.height scroll)) old x y)
    → area_rows new cut ≡ view (page_rows page) cut.width cut.height scroll → IsDrawn look text cut scroll page old new
drawn_on look text cut w scroll page old new e is fits cells shown =
    let here : page ≡ record { width = cut.width; lines = document_lines look (tree text) } =
    is ∙ ap (λ n. record { width = n; lines = document_lines look (tree text) }) e in
    let all : page_rows page ≡ rows look text cut.width = ap (λ (p : PageView). page_rows p) here in
    record {
      page = here;
      fits = ap (too_wide look text) (sym e) ∙ fits;
      cells = λ x y. cells x y ∙ ap (λ rs. cell_put cut (joined (view rs cut.width cut.height scroll)) old x y) all;
      rows = shown ∙ ap (λ rs. view rs cut.width cut.height scroll) all;
    }
