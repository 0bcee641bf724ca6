-- A row has as many cells as columns.
use Rattle.std.proofs.Common.{◌≡◌, ℕ, ◌-◌, ◌≤◌, List, [], ◌∷◌, length, replicate, refl, arith, length-append}
use Rattle.std.proofs.lemmas.List.{length-replicate}
use Rattle.term_text.specs.Graph.{Grapheme, columns}
use Rattle.term_text.proofs.CutLemmas.{AllShown}
use Rattle.term_text.proofs.CutLemmas.{columns-cons}
use Rattle.term_core.specs.Cells.{row_cells, cells, blank_cell}

-- a row has as many cells as columns
pub length-row_cells : (gs : List Grapheme) → AllShown gs → length (row_cells gs) ≡ columns gs
unfolding row_cells
length-row_cells [] h = refl
length-row_cells (g ∷ gs) h =
    let some : 1 ≤ g.width = h.0 in
    let rest = length-row_cells gs h.1 in
    omega (arith, columns-cons g gs, length-append (replicate (g.width - 1) blank_cell) (row_cells gs), length-replicate (g.width - 1) blank_cell)

pub length-cells : (gs : List Grapheme) (w : ℕ) → AllShown gs → columns gs ≤ w → length (cells gs w) ≡ w
length-cells gs w shown fits =
    omega (arith, length-append (row_cells gs) (replicate (w - length (row_cells gs)) blank_cell), length-replicate (w - length (row_cells gs)) blank_cell, length-row_cells gs shown)
