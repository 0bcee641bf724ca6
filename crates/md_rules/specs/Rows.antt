-- The rows of a table.
use Rattle.std.specs.Prelude.{ℕ, suc, Bool, not, ◌&&◌, List, [], ◌∷◌, if◌then◌else◌}
use Rattle.md_lines.specs.Lines.{LineText}
use Rattle.md_rules.specs.declared.rule.Rule.TheVariants as rule
use Rattle.md_rules.specs.declared.start.Items.TheVariants.{All}
use Rattle.md_rules.specs.Tables.{has_cells}
use Rattle.md_rules.specs.Starts.{block_start, is_among, rule_of}

-- a row goes on with a table: no other block begins there, where containers may stand or not
abbrev pub is_row : Bool → LineText → Bool
is_row nests line = has_cells line && not (is_among rule.Fence rule.Html (rule_of (block_start nests All line [])))

-- how many rows the lines begin with
unfoldable pub row_count : Bool → List LineText → ℕ
row_count nests [] = 0
row_count nests (line ∷ lines) = if is_row nests line then suc (row_count nests lines) else 0
