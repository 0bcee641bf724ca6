-- Cells as plain text.
use Rattle.std.specs.Prelude.{ℕ, ◌==◌, List, [], ◌∷◌, ◌++◌, codes, if◌then◌else◌}
use Rattle.std.specs.Fmt.{decimal}
use Rattle.term_core.specs.Cells.{CellView}
use Rattle.term_core.specs.Visited.{visited}

-- the symbols of cells, joined
unfoldable pub symbols : List CellView → List ℕ
symbols [] = []
symbols (c ∷ cs) = c.symbol ++ symbols cs

-- a byte before what is left of those after it: a space before nothing goes
abbrev pub before_trimmed : ℕ → List ℕ → List ℕ
before_trimmed b [] = if b == 32 then [] else b ∷ []
before_trimmed b (c ∷ cs) = b ∷ c ∷ cs

-- a text without the spaces at its end
unfoldable pub trimmed : List ℕ → List ℕ
trimmed [] = []
trimmed (b ∷ bs) = before_trimmed b (trimmed bs)

-- the text of a row: the symbols of its visited cells, without the spaces at the end
abbrev pub row_text : List CellView → List ℕ
row_text row = trimmed (symbols (visited row))

-- each row as a line
unfoldable pub lines_of : List (List CellView) → List ℕ
lines_of [] = []
lines_of (row ∷ rows) = (row_text row ++ 10 ∷ []) ++ lines_of rows

-- the rows as lines, and a line with the count n
abbrev pub print : List (List CellView) → ℕ → List ℕ
print rows n = lines_of rows ++ (codes "rows " ++ (decimal n ++ 10 ∷ []))
