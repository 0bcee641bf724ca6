-- The cells of a row that are shown.
use Rattle.std.specs.Prelude.{ℕ, zero, suc, ◌-◌, List, [], ◌∷◌}
use Rattle.term_text.specs.Graph.{width_of}
use Rattle.term_core.specs.Cells.{CellView}

-- the cells that are visited after n more are skipped
unfoldable pub visited_after : ℕ → List CellView → List CellView
visited_after n [] = []
visited_after zero (c ∷ cs) = c ∷ visited_after (width_of c.symbol - 1) cs
visited_after (suc n) (c ∷ cs) = visited_after n cs

-- the visited cells of a row: from the left each cell, then skipping as many as its symbol's width exceeds 1
abbrev pub visited : List CellView → List CellView
visited cs = visited_after 0 cs
