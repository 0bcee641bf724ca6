-- Headings.
use Rattle.std.specs.Prelude.{ℕ, ◌-◌, ◌==◌, Bool, ◌&&◌, ◌||◌, Option, None, Some, List, length, take, drop, slice_index_or, if◌then◌else◌}
use Rattle.std.specs.List.{prefix_len, suffix_len}
use Rattle.md_tree.specs.declared.event.HeadingLevel.{HeadingLevel}
use Rattle.md_tree.specs.declared.event.HeadingLevel.TheVariants.{H1, H2, H3, H4, H5, H6}
use Rattle.md_lines.specs.Blanks.{is_blank}
use Rattle.md_lines.specs.Lines.{LineText, is_nothing}
use Rattle.md_rules.specs.Texts.{trimmed, words, ends_word}
use Rattle.md_rules.specs.Attributes.{Braced, braced, attributes_in, no_attributes}
use Rattle.md_rules.specs.declared.attributes.Attributes.{Attributes}
use Rattle.md_rules.specs.declared.heading.Heading.{Heading}
use Rattle.md_rules.specs.Shallow.{is_shallow}

abbrev pub is_hash : ℕ → Bool
is_hash b = b == 35

abbrev pub level_by : ℕ → Option HeadingLevel
level_by n =
    if n == 1 then Some H1
    else if n == 2 then Some H2
    else if n == 3 then Some H3
    else if n == 4 then Some H4
    else if n == 5 then Some H5
    else if n == 6 then Some H6
    else None

-- how many `#` begin a text
abbrev pub hashes : List ℕ → ℕ
hashes bs = prefix_len is_hash bs

-- one to six `#`, then a blank or the end
abbrev pub heading_level : LineText → Option HeadingLevel
heading_level line =
    if is_shallow line && ends_word (drop (hashes line.body) line.body) then level_by (hashes line.body) else None

-- nothing stands here, or a blank stands last
abbrev pub ends_blank : List ℕ → Bool
ends_blank bs = is_nothing bs || is_blank (slice_index_or bs (length bs - 1) 0)

-- the text without the run of `#` at its end
abbrev pub without_hashes : List ℕ → List ℕ
without_hashes text = take (length text - suffix_len is_hash text) text

-- a run of `#` at the end is taken off if it follows a blank or is the whole text
abbrev pub without_closing : List ℕ → List ℕ
without_closing text = if ends_blank (without_hashes text) then without_hashes text else text

-- the content is one line
abbrev pub content_of : List ℕ → LineText
content_of text = record { indent = 0; body = trimmed (without_closing text) }

abbrev pub with_content : HeadingLevel → Attributes → List ℕ → Heading
with_content level a text =
    record { level = level; id = a.id; classes = a.classes; attrs = a.attrs; content = content_of text }

abbrev pub heading_by : HeadingLevel → List ℕ → List ℕ → Option Attributes → Heading
heading_by level text before (Some a) = with_content level a (trimmed before)
heading_by level text before None = with_content level no_attributes text

abbrev pub heading_braced : HeadingLevel → List ℕ → Option Braced → Heading
heading_braced level text (Some b) = heading_by level text b.before (attributes_in (words b.inside))
heading_braced level text None = with_content level no_attributes text

-- what the `#` are followed by
abbrev pub heading_text : List ℕ → List ℕ
heading_text body = trimmed (drop (hashes body) body)

abbrev pub heading_with : HeadingLevel → List ℕ → Heading
heading_with level text = heading_braced level text (braced text)

-- the heading of this level that a line is, with its attributes and its content
abbrev pub heading_at : HeadingLevel → LineText → Heading
heading_at level line = heading_with level (heading_text line.body)
