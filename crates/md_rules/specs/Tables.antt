-- Tables: rows of cells between bars.
use Rattle.std.specs.Prelude.{ℕ, ◌==◌, Bool, true, false, not, ◌&&◌, ◌||◌, List, [], ◌∷◌, drop, length, map, if◌then◌else◌}
use Rattle.std.specs.List.{list_all, prefix_len}
use Rattle.term_text.specs.LineEnds.{in_front}
use Rattle.term_text.specs.declared.alignment.Alignment.{Alignment}
use Rattle.term_text.specs.declared.alignment.Alignment.TheVariants as align
use Rattle.md_lines.specs.Lines.{LineText, is_nothing}
use Rattle.md_rules.specs.Shallow.{is_shallow}
use Rattle.md_rules.specs.Texts.{begins_with, trimmed}

-- ---- cells

-- a bar that does not stand directly behind a backslash
abbrev pub is_bar : Bool → ℕ → Bool
is_bar escaped b = b == 124 && not escaped

-- a byte is escaped by a backslash before it
abbrev pub escapes : ℕ → Bool
escapes b = b == 92

-- a bar stands in these bytes, the first of which may be escaped
unfoldable pub has_bar : Bool → List ℕ → Bool
has_bar escaped [] = false
has_bar escaped (b ∷ bs) = is_bar escaped b || has_bar (escapes b) bs

-- the parts between the bars
unfoldable pub parts : Bool → List ℕ → List (List ℕ)
parts escaped [] = [] ∷ []
parts escaped (b ∷ bs) = if is_bar escaped b then [] ∷ parts false bs else in_front b (parts (escapes b) bs)

-- the bytes without a bar at their start
abbrev pub without_start_bar : List ℕ → List ℕ
without_start_bar bs = if begins_with 124 bs then drop 1 bs else bs

-- the bytes without a bar at their end
unfoldable pub without_end_bar : Bool → List ℕ → List ℕ
without_end_bar escaped [] = []
without_end_bar escaped (b ∷ bs) = if is_bar escaped b && is_nothing bs then [] else b ∷ without_end_bar (escapes b) bs

-- what stands between the bars at both ends of a line
abbrev pub inner : LineText → List ℕ
inner line = without_end_bar false (without_start_bar (trimmed line.body))

-- the cells of a line
abbrev pub cells : LineText → List (List ℕ)
cells line = map trimmed (parts false (inner line))

-- a line that may be one of a table's
abbrev pub has_cells : LineText → Bool
has_cells line = is_shallow line && has_bar false line.body

-- ---- the line below the header

-- the cell without the colon that it may begin with
abbrev pub dashes : List ℕ → List ℕ
dashes cell = if begins_with 58 cell then drop 1 cell else cell

-- what stands behind the dashes
abbrev pub behind_dashes : List ℕ → List ℕ
behind_dashes cell = drop (prefix_len (λ b. b == 45) (dashes cell)) (dashes cell)

-- nothing or a colon
abbrev pub ends_marks : List ℕ → Bool
ends_marks [] = true
ends_marks (b ∷ bs) = b == 58 && is_nothing bs

-- dashes, once or more, with a colon before, behind or at both sides
abbrev pub is_delimiter : List ℕ → Bool
is_delimiter cell = begins_with 45 (dashes cell) && ends_marks (behind_dashes cell)

abbrev pub side_of : Bool → Bool → Alignment
side_of false false = align.None
side_of true false = align.Left
side_of false true = align.Right
side_of true true = align.Center

-- the side that a column keeps to: that of its colon
abbrev pub alignment_of : List ℕ → Alignment
alignment_of cell = side_of (begins_with 58 cell) (begins_with 58 (behind_dashes cell))

abbrev pub alignments : LineText → List Alignment
alignments line = map alignment_of (cells line)

-- ---- the lines of a table

-- a table begins at a line before this one: both have bars and equally many cells, and the second has delimiters alone
abbrev pub begins_table : LineText → LineText → Bool
begins_table line next =
    has_cells line && has_cells next && length (cells line) == length (cells next) && list_all is_delimiter (cells next)

abbrev pub starts_table : LineText → List LineText → Bool
starts_table line [] = false
starts_table line (next ∷ later) = begins_table line next
