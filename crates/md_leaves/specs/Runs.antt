-- Runs of one of `* _ ~ ^`, and their neighbours.
use Rattle.std.specs.Prelude.{ℕ, ◌-◌, ◌==◌, Bool, true, not, ◌&&◌, ◌||◌, if◌then◌else◌, Option, Some, None, List, drop, take, reverse, slice_index_or}
use Rattle.std.specs.List.{prefix_len, slice_index}
use Rattle.std.specs.Str.{chars}
use Rattle.std.specs.Char.{is_ascii, is_ascii_alphanumeric, is_whitespace}
use Rattle.term_text.specs.LineEnds.{ends_line}
use Rattle.md_lines.specs.Blanks.{is_blank}
use Rattle.md_leaves.specs.declared.leaf.Mark.{Mark}
use Rattle.md_leaves.specs.declared.leaf.Mark.TheVariants as mark
use Rattle.md_leaves.specs.declared.leaf.Kind.TheVariants as kind
use Rattle.md_leaves.specs.declared.cut.Cut.{Cut}

abbrev pub mark_of : ℕ → Option Mark
mark_of b =
    if b == 42 then Some mark.Star
    else if b == 95 then Some mark.Underscore
    else if b == 126 then Some mark.Tilde
    else if b == 94 then Some mark.Caret
    else None

-- the characters beside a place; a line end where none is
abbrev pub char_after : List ℕ → ℕ
char_after bs = slice_index_or (chars bs) 0 10

abbrev pub char_before : List ℕ → ℕ
char_before bs = slice_index_or (reverse (chars bs)) 0 10

-- a blank; a line's start or end counts as one
abbrev pub is_gap : ℕ → Bool
is_gap c = is_blank c || ends_line c

-- a word character: an ASCII letter or digit, or a character past ASCII that is not whitespace
abbrev pub is_word : ℕ → Bool
is_word c = is_ascii_alphanumeric c || (not (is_ascii c) && not (is_whitespace c))

-- beyond a run of `_` no word character may stand
abbrev pub is_free : Mark → ℕ → Bool
is_free mark.Underscore beyond = not (is_word beyond)
is_free mark.Star beyond = true
is_free mark.Tilde beyond = true
is_free mark.Caret beyond = true

-- a run may open if no blank follows, and close if it follows no blank; what stands at the other side is beyond it then
abbrev pub run_between : Mark → ℕ → ℕ → ℕ → Cut
run_between mark n before after = record {
  kind = kind.Run mark (not (is_gap after) && is_free mark before) (not (is_gap before) && is_free mark after);
  more = n - 1;
}

-- a maximal run of so many marks at a place
abbrev pub run_of : List ℕ → ℕ → List ℕ → ℕ → Option Mark → Option Cut
run_of source at bs n None = None
run_of source at bs n (Some mark) = Some (run_between mark n (char_before (take at source)) (char_after (drop n bs)))

abbrev pub run : List ℕ → ℕ → List ℕ → Option Cut
run source at bs = run_of source at bs (prefix_len (λ b. b == slice_index bs 0) bs) (mark_of (slice_index bs 0))
