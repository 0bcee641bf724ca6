-- The cells and the parts at a place.
use Rattle.std.proofs.Common.{◌≡◌, ℕ, zero, suc, ◌+◌, ◌<◌, List, [], ◌∷◌, ◌++◌, append_assoc, drop, get_or, length, refl, sym, ap, subst, ◌∙◌, arith}
use Rattle.std.proofs.Math.Seq.{drop-cons}
use Rattle.term_text.specs.Text.{SpanView, LineView}
use Rattle.term_text.specs.declared.style.Style.{Style}
use Rattle.md_picture.specs.declared.columns.Column.{Column}
use Rattle.md_picture.specs.Cells.{cell_rows}
use Rattle.md_picture.specs.Picture.{first_cell, other_cells, row_parts, with_cells}
use Rattle.md_picture.specs.Fits.{RowFits}

other_cells-suc : (at : ℕ) (cells : List LineView) → other_cells (drop at cells) ≡ drop (suc at) cells
other_cells-suc zero [] = refl
other_cells-suc zero (cell ∷ cells) = refl
other_cells-suc (suc at) [] = refl
other_cells-suc (suc at) (cell ∷ cells) = other_cells-suc at cells

pub other_cells-drop : (at : ℕ) (cells : List LineView) → other_cells (drop at cells) ≡ drop (at + 1) cells
other_cells-drop at cells = let next : suc at ≡ at + 1 = omega arith in other_cells-suc at cells ∙ ap (λ n. drop n cells) next

pub with_cells-none : (border style : Style) (columns : List Column) (lines : List LineView) → with_cells border style columns [] lines ≡ lines
unfolding with_cells
with_cells-none border style [] lines = refl
with_cells-none border style (column ∷ columns) lines = refl

pub parts-turn : (at : ℕ) (columns : List Column) (d : Column) (cells : List LineView) (parts more all : List (List (List SpanView))) → at < length columns → RowFits (drop at columns) (drop at cells) → more ≡ parts ++ cell_rows (get_or columns at d).width (first_cell (drop at cells)) ∷ [] → parts ++ row_parts (drop at columns) (drop at cells) ≡ all → RowFits (drop (at + 1) columns) (drop (at + 1) cells) × (more ++ row_parts (drop (at + 1) columns) (drop (at + 1) cells) ≡ all)
unfolding row_parts
parts-turn at columns d cells parts more all lt fits is sofar =
    let column = get_or columns at d in
    let next : suc at ≡ at + 1 = omega arith in
    let turn : drop at columns ≡ column ∷ drop (at + 1) columns =
    drop-cons columns at d lt ∙ ap (λ n. column ∷ drop n columns) next in
    let fit : RowFits (column ∷ drop (at + 1) columns) (drop at cells) = subst (λ cs. RowFits cs (drop at cells)) turn fits in (
      subst (λ cs. RowFits (drop (at + 1) columns) cs) (other_cells-drop at cells) fit.1,
      ap (λ m. m ++ row_parts (drop (at + 1) columns) (drop (at + 1) cells)) is
          ∙ append_assoc parts (cell_rows column.width (first_cell (drop at cells)) ∷ []) _
          ∙ ap (λ cs. parts ++ cell_rows column.width (first_cell (drop at cells)) ∷ row_parts (drop (at + 1) columns) cs) (sym (other_cells-drop at cells))
          ∙ ap (λ cs. parts ++ row_parts cs (drop at cells)) (sym turn)
          ∙ sofar,
    )
