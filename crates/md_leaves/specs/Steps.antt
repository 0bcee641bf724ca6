-- How text is passed over.
use Rattle.std.specs.Prelude.{ℕ, ◌+◌, ◌==◌, nat_lt, Bool, not, ◌&&◌, ◌||◌, is_some, if◌then◌else◌, List, [], ◌∷◌}
use Rattle.std.specs.List.{prefix_len, slice_index}
use Rattle.term_text.specs.LineEnds.{ends_line}
use Rattle.md_lines.specs.Blanks.{is_blank}
use Rattle.md_leaves.specs.Angles.{angle}
use Rattle.md_leaves.specs.Code.{is_tick}
use Rattle.md_leaves.specs.Math.{is_dollar}
use Rattle.md_leaves.specs.Runs.{mark_of}
use Rattle.md_leaves.specs.Leaves.{escape, opener}

-- the bytes behind `[` to `` ` `` other than `~`, which are text wherever they stand
abbrev pub is_letter : ℕ → Bool
is_letter b = nat_lt 96 b && not (b == 126)

-- how many bytes in front are seen at once to be text; none where a rule fits
abbrev pub text_step : List ℕ → ℕ
text_step [] = 0
text_step (b ∷ bs) =
    let n = prefix_len is_blank (b ∷ bs) in
    if is_blank b then (if ends_line (slice_index (b ∷ bs) n) then 0 else n)
    else if b == 92 then (if is_some (escape (b ∷ bs)) then 0 else 1)
    else if b == 33 then (if is_some (opener (b ∷ bs)) then 0 else 1)
    else if b == 60 then (if is_some (angle (b ∷ bs)) then 0 else 1)
    else if ((ends_line b || is_tick b) || is_dollar b) || ((b == 91 || b == 93) || is_some (mark_of b)) then 0
    else 1 + prefix_len is_letter bs
