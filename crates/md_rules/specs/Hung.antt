-- Lines that hang below a line.
use Rattle.std.specs.Prelude.{ℕ, List, ◌∷◌, map}
use Rattle.md_lines.specs.Lines.{LineText}
use Rattle.md_rules.specs.Quotes.{less}

-- a line, and those that hang below it, which lose so many columns
abbrev pub hung : ℕ → LineText → List LineText → List LineText
hung column first own = first ∷ map (less column) own
