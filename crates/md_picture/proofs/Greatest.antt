-- A row of a picture is as high as its highest cell, and one line at least.
use Rattle.std.proofs.Common.{◌≡◌, ℕ, ◌≤◌, ◌⊎◌, inl, inr, Bool, true, false, nat_le, List, [], ◌∷◌, length, refl, sym, subst, ◌∙◌, arith}
use Rattle.std.proofs.lemmas.List.{length-replicate}
use Rattle.std.proofs.lemmas.List.Elements.{All-from_recursion, Contains-append_right}
use Rattle.std.specs.List.{AllByRecursion, Contains}
use Rattle.term_text.specs.Style.{no_style}
use Rattle.term_text.specs.Text.{SpanView, LineView}
use Rattle.term_text.specs.declared.style.Style.{Style}
use Rattle.term_text.proofs.CutLemmas.{le_of_test, lt_of_test}
use Rattle.md_picture.specs.declared.columns.Column.{Column}
use Rattle.md_picture.specs.Picture.{bar, height_of, row_lines, row_parts, with_cells, with_parts}
use Rattle.md_picture.specs.Shown.{IsGreatest, row_counts, row_height}
use Rattle.md_picture.proofs.Heights.{height-one}

-- ---- lines

pub length-with_parts : (border style : Style) (column : Column) (lines : List LineView) (rows : List (List SpanView)) → length (with_parts border style column lines rows) ≡ length lines
unfolding with_parts
length-with_parts border style column [] rows = refl
length-with_parts border style column (line ∷ lines) rows = omega (arith, length-with_parts border style column lines)

length-with_cells : (border style : Style) (cs : List Column) (parts : List (List (List SpanView))) (lines : List LineView) → length (with_cells border style cs parts lines) ≡ length lines
unfolding with_cells
length-with_cells border style [] parts lines = refl
length-with_cells border style (column ∷ cs) [] lines = refl
length-with_cells border style (column ∷ cs) (rows ∷ parts) lines =
    length-with_cells border style cs parts (with_parts border style column lines rows) ∙ length-with_parts border style column lines rows

pub length-row_lines : (border style : Style) (cs : List Column) (cells : List LineView) → length (row_lines border style cs cells) ≡ row_height cs cells
length-row_lines border style cs cells =
    length-with_cells border style cs (row_parts cs cells) _ ∙ length-replicate (row_height cs cells) (record { spans = bar border ∷ []; style = no_style })

-- ---- the greatest count

within-height : (most : ℕ) (parts : List (List (List SpanView))) → height_of parts ≤ most → AllByRecursion (λ count. count ≤ most) (row_counts parts)
unfolding height_of
within-height most [] h = tt
within-height most (rows ∷ parts) h = (omega (arith, h), within-height most parts (omega (arith, h)))

abbrev Reached : ℕ → List ℕ → Type 0
Reached most counts = (most ≡ 1) ⊎ Contains counts most

reached-others : (most count : ℕ) (counts : List ℕ) → Reached most counts → Reached most (count ∷ counts)
reached-others most count counts (inl one) = inl one
reached-others most count counts (inr found) = inr (Contains-append_right (count ∷ []) counts most found)

reached-height : (parts : List (List (List SpanView))) → Reached (height_of parts) (row_counts parts)
unfolding height_of
reached-height [] = inl refl
reached-height (rows ∷ parts) = go (nat_le (length rows) (height_of parts)) refl (reached-height parts)
  where
    go : (b : Bool) → nat_le (length rows) (height_of parts) ≡ b → Reached (height_of parts) (row_counts parts) → Reached (height_of (rows ∷ parts)) (row_counts (rows ∷ parts))
    go true e k =
        let same : height_of parts ≡ height_of (rows ∷ parts) = omega (arith, le_of_test (length rows) (height_of parts) e) in
        subst (λ n. Reached n (row_counts (rows ∷ parts))) same (reached-others (height_of parts) (length rows) (row_counts parts) k)
    go false e k =
        let same : length rows ≡ height_of (rows ∷ parts) = omega (arith, lt_of_test (length rows) (height_of parts) e) in
        subst (λ n. Reached n (row_counts (rows ∷ parts))) same (inr (0, omega arith, refl))

pub height-greatest : (parts : List (List (List SpanView))) → IsGreatest (height_of parts) (row_counts parts)
height-greatest parts =
    (height-one parts, All-from_recursion (λ (count : ℕ). count ≤ height_of parts) (row_counts parts) (within-height (height_of parts) parts (omega arith)), reached-height parts)

pub row-greatest : (border style : Style) (cs : List Column) (cells : List LineView) → IsGreatest (length (row_lines border style cs cells)) (row_counts (row_parts cs cells))
row-greatest border style cs cells =
    subst (λ n. IsGreatest n (row_counts (row_parts cs cells))) (sym (length-row_lines border style cs cells)) (height-greatest (row_parts cs cells))
