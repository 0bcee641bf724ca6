-- Thematic breaks: lines across the page.
use Rattle.std.specs.Prelude.{ℕ, ◌==◌, nat_le, Bool, ◌&&◌, ◌||◌, List, count_by}
use Rattle.std.specs.List.{list_all}
use Rattle.md_lines.specs.Blanks.{is_blank}
use Rattle.md_lines.specs.Lines.{LineText}
use Rattle.md_rules.specs.Shallow.{is_shallow}

-- at least three of this mark, with any blanks between and after
abbrev pub is_thematic_break_of : ℕ → List ℕ → Bool
is_thematic_break_of mark body = list_all (λ b. b == mark || is_blank b) body && nat_le 3 (count_by (λ b. b == mark) body)

-- a thematic break of `-`, `*` or `_`
abbrev pub is_thematic_break : LineText → Bool
is_thematic_break line = is_shallow line && (is_thematic_break_of 45 line.body || is_thematic_break_of 42 line.body || is_thematic_break_of 95 line.body)
