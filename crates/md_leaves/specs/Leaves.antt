-- Leaves: what a source is cut into, from left to right.
use Rattle.std.specs.Prelude.{ℕ, zero, suc, ◌+◌, ◌==◌, nat_le, nat_lt, Bool, false, true, not, ◌&&◌, ◌||◌, is_some, if◌then◌else◌, Option, None, Some, List, [], ◌∷◌, drop}
use Rattle.std.specs.List.{prefix_len, slice_index}
use Rattle.std.specs.Option.{option_or}
use Rattle.std.specs.Char.{is_ascii_punctuation}
use Rattle.term_text.specs.LineEnds.{ends_line}
use Rattle.md_lines.specs.Blanks.{is_blank}
use Rattle.md_leaves.specs.declared.leaf.Kind.{Kind}
use Rattle.md_leaves.specs.declared.leaf.Kind.TheVariants as kind
use Rattle.md_leaves.specs.declared.leaf.Lone.TheVariants as lone
use Rattle.md_leaves.specs.declared.leaf.Leaf.{Leaf}
use Rattle.md_leaves.specs.declared.cut.Cut.{Cut}
use Rattle.md_leaves.specs.Angles.{angle}
use Rattle.md_leaves.specs.Code.{code}
use Rattle.md_leaves.specs.Math.{math}
use Rattle.md_leaves.specs.Closers.{closer}
use Rattle.md_leaves.specs.Runs.{run}

-- A source is the bodies of its lines with a line end between each two, without the blanks at the end of the last line.
-- So a line end in it is always that of a line which is not the last.

-- A rule answers what it cuts in front of bytes, where it fits: the leaf's kind, and how many bytes it has after its first.

-- A backslash and an ASCII punctuation character are that character as text. A backslash and the end of a line that is
-- not the last are a hard break.
abbrev pub escape : List ℕ → Option Cut
escape bs =
    if not (slice_index bs 0 == 92) then None
    else if is_ascii_punctuation (slice_index bs 1) then Some (record { kind = kind.Lone lone.Escape; more = 1 })
    else if ends_line (slice_index bs 1) then Some (record { kind = kind.Lone lone.HardBreak; more = 1 })
    else None

-- the end of a line with so many blanks before it: a hard break with at least two, else a soft break
abbrev pub break_of : ℕ → Kind
break_of blanks = if nat_le 2 blanks then (kind.Lone lone.HardBreak) else (kind.Lone lone.SoftBreak)

-- the end of a line that is not the last, with the blanks before it
abbrev pub line_end : List ℕ → Option Cut
line_end bs =
    let n = prefix_len is_blank bs in
    if ends_line (slice_index bs n) then Some (record { kind = break_of n; more = n }) else None

abbrev pub is_in_label : ℕ → Bool
is_in_label b = not (((b == 91 || b == 93) || is_blank b) || ends_line b)

-- `[^`, a label, which is one or more characters other than brackets, blanks and line ends, and `]` refer to a footnote
abbrev pub reference : List ℕ → Option Cut
reference bs =
    let n = prefix_len is_in_label (drop 2 bs) in
    if (slice_index bs 0 == 91 && slice_index bs 1 == 94) && (nat_lt 0 n && slice_index bs (n + 2) == 93)
    then Some (record { kind = kind.Lone lone.FootnoteReference; more = n + 2 })
    else None

-- `![` is an image's opener, and `[` a link's
abbrev pub opener : List ℕ → Option Cut
opener bs =
    if slice_index bs 0 == 33 && slice_index bs 1 == 91 then Some (record { kind = kind.Opener true; more = 1 })
    else if slice_index bs 0 == 91 then Some (record { kind = kind.Opener false; more = 0 })
    else None

-- the leaf at a place of the source by the first rule that fits, where one does; text is what is left
abbrev pub marked : List ℕ → ℕ → List ℕ → Option Cut
marked source at bs =
    option_or (escape bs)
    (option_or (line_end bs)
    (option_or (code bs)
    (option_or (math bs)
    (option_or (angle bs)
    (option_or (reference bs) (option_or (opener bs) (option_or (closer at bs) (run source at bs))))))))

-- how many bytes of text follow: those up to the first place at which a rule fits
unfoldable pub text_length : List ℕ → ℕ → List ℕ → ℕ
text_length source at [] = 0
text_length source at (b ∷ bs) = if is_some (marked source at (b ∷ bs)) then 0 else suc (text_length source (at + 1) bs)

-- Any other character is text. A text takes all characters up to the next leaf of another kind: no rule but that of runs
-- looks at what stands before its place, and that one at the source, so a leaf for each character would be cut at the same
-- places, and these leaves would touch. Texts that touch are one text.
abbrev pub or_text : Option Cut → ℕ → Cut
or_text (Some cut) n = cut
or_text None n = record { kind = kind.Lone lone.Text; more = n }

-- the leaf at a place, in front of b and then bs
abbrev pub cut_at : List ℕ → ℕ → ℕ → List ℕ → Cut
cut_at source at b bs = or_text (marked source at (b ∷ bs)) (text_length source (at + 1) bs)

abbrev pub first_cut : List ℕ → ℕ → List ℕ → Cut
first_cut source at [] = record { kind = kind.Lone lone.Text; more = 0 }
first_cut source at (b ∷ bs) = cut_at source at b bs

-- the leaf that is cut at a place
abbrev pub leaf : ℕ → Cut → Leaf
leaf at cut = record { kind = cut.kind; from = at; to = at + 1 + cut.more }

-- the leaves of the bytes from a place of the source on, after the first so many of them
unfoldable pub leaves_after : List ℕ → ℕ → ℕ → List ℕ → List Leaf
leaves_after source at n [] = []
leaves_after source at (suc n) (b ∷ bs) = leaves_after source (at + 1) n bs
leaves_after source at zero (b ∷ bs) = leaf at (cut_at source at b bs) ∷ leaves_after source (at + 1) (cut_at source at b bs).more bs

-- the leaves of a source
abbrev pub leaves : List ℕ → List Leaf
leaves source = leaves_after source 0 0 source
