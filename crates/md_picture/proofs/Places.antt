-- Where the rows of a table stand in its picture.
use Rattle.std.proofs.Common.{◌≡◌, ℕ, zero, suc, ◌+◌, ◌<◌, ◌≤◌, Bool, true, false, cond, List, [], ◌∷◌, ◌++◌, length, take, drop, get_or, refl, sym, ap, ◌∙◌, arith, append_assoc}
use Rattle.std.proofs.Math.Seq.{take-append_seam, drop-append-add}
use Rattle.std.proofs.lemmas.List.Sums.{sum_by-cons}
use Rattle.term_text.specs.Text.{LineView}
use Rattle.md_picture.specs.declared.styles.Styles.{Styles}
use Rattle.md_picture.specs.declared.columns.Column.{Column}
use Rattle.md_picture.specs.declared.border.Edge.TheVariants.{Top, Middle, Bottom}
use Rattle.md_picture.specs.Picture.{TableView, body_lines, border_line, divider, picture_of, row_lines}
use Rattle.md_picture.specs.Shown.{lines_at, lines_taken, row_cells, row_height, row_style}
use Rattle.md_picture.proofs.Greatest.{length-row_lines}

taken_here : {A : Type 0} (n : ℕ) (xs ys : List A) → length xs ≡ n → take n (xs ++ ys) ≡ xs
taken_here n xs ys e = ap (λ m. take m (xs ++ ys)) (sym e) ∙ take-append_seam xs ys

passed : {A : Type 0} (n m : ℕ) (xs ys : List A) → n ≡ length xs + m → drop n (xs ++ ys) ≡ drop m ys
passed n m xs ys e = ap (λ k. drop k (xs ++ ys)) e ∙ drop-append-add xs ys m

length-divider : (dividers : Bool) (line : LineView) (rows : List (List LineView)) → 0 < length rows → length (divider dividers line rows) ≡ cond dividers 1 0
length-divider dividers line [] some = absurd (omega (arith, some))
length-divider true line (row ∷ rows) some = refl
length-divider false line (row ∷ rows) some = refl

body-place : (styles : Styles) (dividers : Bool) (cs : List Column) (rows : List (List LineView)) (rest : List LineView) (at : ℕ) → at < length rows → take (row_height cs (get_or rows at [])) (drop (lines_taken dividers cs (take at rows)) (body_lines styles dividers cs rows ++ rest)) ≡ row_lines styles.border styles.cell cs (get_or rows at [])
unfolding body_lines
body-place styles dividers cs [] rest at lt = absurd (omega (arith, lt))
body-place styles dividers cs (row ∷ rows) rest zero lt =
    let lines = row_lines styles.border styles.cell cs row in
    let more = divider dividers (border_line styles.border Middle cs) rows ++ body_lines styles dividers cs rows in
    ap (take (row_height cs row)) (append_assoc lines more rest)
    ∙ taken_here (row_height cs row) lines (more ++ rest) (length-row_lines styles.border styles.cell cs row)
body-place styles dividers cs (row ∷ rows) rest (suc at) lt =
    let lines = row_lines styles.border styles.cell cs row in
    let line = divider dividers (border_line styles.border Middle cs) rows in
    let more = body_lines styles dividers cs rows in
    let n = lines_taken dividers cs (row ∷ take at rows) in
    let m = lines_taken dividers cs (take at rows) in
    let heights : length lines ≡ row_height cs row = length-row_lines styles.border styles.cell cs row in
    let many : length line ≡ cond dividers 1 0 = length-divider dividers (border_line styles.border Middle cs) rows (omega (arith, lt)) in
    let counted : n ≡ row_height cs row + cond dividers 1 0 + m = sum_by-cons (λ (r : List LineView). row_height cs r + cond dividers 1 0) row (take at rows) in
    ap (λ ls. take (row_height cs (get_or rows at [])) (drop n ls)) (append_assoc lines (line ++ more) rest ∙ ap (λ ls. lines ++ ls) (append_assoc line more rest))
    ∙ ap (take (row_height cs (get_or rows at [])))
    (passed n (length line + m) lines (line ++ (more ++ rest)) (omega (arith, heights, many, counted)) ∙ drop-append-add line (more ++ rest) m)
    ∙ body-place styles dividers cs rows rest at (omega (arith, lt))

pub row-place : (styles : Styles) (dividers : Bool) (table : TableView) (cs : List Column) (at : ℕ) → at ≤ length table.rows → 0 < length cs → lines_at dividers cs table at (picture_of styles dividers cs table) ≡ row_lines styles.border (row_style styles at) cs (row_cells table at)
row-place styles dividers table [] at le some = absurd (omega (arith, some))
row-place styles dividers table (column ∷ cs) zero le some =
    taken_here (row_height (column ∷ cs) table.header) (row_lines styles.border styles.header (column ∷ cs) table.header) _
    (length-row_lines styles.border styles.header (column ∷ cs) table.header)
row-place styles dividers table (column ∷ cs) (suc at) le some =
    let all = column ∷ cs in
    let header = border_line styles.border Top all ∷ row_lines styles.border styles.header all table.header in
    let middle = border_line styles.border Middle all ∷ [] in
    let body = body_lines styles dividers all table.rows ++ (border_line styles.border Bottom all ∷ []) in
    let m = lines_taken dividers all (take at table.rows) in
    let heights = length-row_lines styles.border styles.header all table.header in
    ap (take (row_height all (get_or table.rows at [])))
    (passed (1 + row_height all table.header + 1 + m) (1 + m) header (middle ++ body) (omega (arith, heights)) ∙ passed (1 + m) m middle body (omega arith))
    ∙ body-place styles dividers all table.rows (border_line styles.border Bottom all ∷ []) at (omega (arith, le))
