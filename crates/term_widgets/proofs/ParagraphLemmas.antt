-- Paragraphs: a text drawn before its block.
use Rattle.std.proofs.Common.{◌≡◌, ℕ, Bool, true, false, cond, List, Option, Some, None, refl, sym, ap, ◌∙◌, subst}
use Rattle.std.specs.Prelude.{option_map}
use Rattle.term_core.specs.declared.rect.Rect.{Rect}
use Rattle.term_core.specs.Buffers.{BufferView, cell_at, cell_put, IsWithin}
use Rattle.term_core.specs.Cells.{CellView, view}
use Rattle.term_core.specs.Lists.{joined}
use Rattle.term_core.specs.Rect.{has_place, is_empty, intersection}
use Rattle.term_core.specs.Text.{LineView}
use Rattle.term_widgets.specs.Block.{block_cell, inner_of}
use Rattle.term_widgets.specs.Page.{PageView, page_rows, rows_of}
use Rattle.term_widgets.specs.Paragraph.{ParagraphView, page_cell, paragraph_cell}
use Rattle.term_widgets.proofs.AreaLemmas.{intersection-within}
use Rattle.term_widgets.proofs.BlockLemmas.{block_cell-inner, IsWithin-inner}

-- the page of a text, drawn on an area that the buffer has
pub page-drawn : (r s : Rect) (page : PageView) (w : ℕ) (text : List LineView) (scroll : ℕ) (old new : BufferView) → is_empty r ≡ false → IsWithin r s
    → page ≡ record { width = w; lines = text } → w ≡ r.width
    → ((x y : ℕ) → cell_at new x y
    ≡ cell_put (intersection r s) (joined (view (page_rows page) (intersection r s).width (intersection r s).height scroll)) old x y)
    → (x y : ℕ) → cell_at new x y ≡ cond (has_place r x y) (page_cell text scroll r x y) (cell_at old x y)
page-drawn r s page w text scroll old new some within is ew cells x y =
    cells x y
    ∙ ap (λ (t : Rect). cell_put t (joined (view (page_rows page) t.width t.height scroll)) old x y) (intersection-within r s some within)
    ∙ ap (λ (p : PageView). cell_put r (joined (view (page_rows p) r.width r.height scroll)) old x y) is
    ∙ ap (λ n. cell_put r (joined (view (rows_of n text) r.width r.height scroll)) old x y) ew

-- a block leaves what stands in its inner area
inner-stays : (p : ParagraphView) (r : Rect) (x y : ℕ) → has_place (inner_of p.block r) x y ≡ true → (o : Option CellView)
    → option_map (block_cell p.block r x y) o ≡ o
inner-stays p r x y h None = refl
inner-stays p r x y h (Some c) = ap (λ (d : CellView). Some d) (block_cell-inner p.block r x y c h)

pub paragraph-drawn : (p : ParagraphView) (r : Rect) (old mid new : BufferView)
    → ((x y : ℕ) → cell_at mid x y ≡ cond (has_place (inner_of p.block r) x y) (page_cell p.text p.scroll (inner_of p.block r) x y) (cell_at old x y))
    → ((x y : ℕ) → cell_at new x y ≡ cond (has_place r x y) (option_map (block_cell p.block r x y) (cell_at mid x y)) (cell_at mid x y))
    → (x y : ℕ) → cell_at new x y ≡ cond (has_place r x y) (paragraph_cell p r x y (cell_at old x y)) (cell_at old x y)
paragraph-drawn p r old mid new text block x y = block x y ∙ go (has_place (inner_of p.block r) x y) refl (text x y)
  where
    go : (d : Bool) → has_place (inner_of p.block r) x y ≡ d → cell_at mid x y ≡ cond d (page_cell p.text p.scroll (inner_of p.block r) x y) (cell_at old x y)
        → cond (has_place r x y) (option_map (block_cell p.block r x y) (cell_at mid x y)) (cell_at mid x y)
        ≡ cond (has_place r x y)
        (cond d (page_cell p.text p.scroll (inner_of p.block r) x y) (option_map (block_cell p.block r x y) (cell_at old x y))) (cell_at old x y)
    go true e i =
        let inside : has_place r x y ≡ true = IsWithin-inner p.block r x y e in
        ap (λ m. cond (has_place r x y) (option_map (block_cell p.block r x y) m) m) i
        ∙ ap (λ t. cond t (option_map (block_cell p.block r x y) (page_cell p.text p.scroll (inner_of p.block r) x y)) (page_cell p.text p.scroll (inner_of p.block r) x y)) inside
        ∙ inner-stays p r x y e (page_cell p.text p.scroll (inner_of p.block r) x y)
        ∙ sym (ap (λ t. cond t (page_cell p.text p.scroll (inner_of p.block r) x y) (cell_at old x y)) inside)
    go false e i = ap (λ m. cond (has_place r x y) (option_map (block_cell p.block r x y) m) m) i

-- the same on the part of an area that the buffer has
pub paragraph-rendered : (p : ParagraphView) (r s cut inner : Rect) (old mid new : BufferView) → cut ≡ intersection r s → inner ≡ inner_of p.block cut
    → ((x y : ℕ) → cell_at mid x y ≡ cond (has_place inner x y) (page_cell p.text p.scroll inner x y) (cell_at old x y))
    → ((x y : ℕ) → cell_at new x y ≡ cond (has_place cut x y) (option_map (block_cell p.block cut x y) (cell_at mid x y)) (cell_at mid x y))
    → (x y : ℕ) → cell_at new x y
    ≡ cond (has_place (intersection r s) x y) (paragraph_cell p (intersection r s) x y (cell_at old x y)) (cell_at old x y)
paragraph-rendered p r s cut inner old mid new ec ei text block =
    subst (λ (t : Rect). (x y : ℕ) → cell_at new x y ≡ cond (has_place t x y) (paragraph_cell p t x y (cell_at old x y)) (cell_at old x y)) ec
    (paragraph-drawn p cut old mid new
    (subst (λ (t : Rect). (x y : ℕ) → cell_at mid x y ≡ cond (has_place t x y) (page_cell p.text p.scroll t x y) (cell_at old x y)) ei text) block)
