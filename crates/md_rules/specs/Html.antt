-- HTML blocks.
use Rattle.std.specs.Prelude.{ℕ, suc, ◌==◌, nat_le, Bool, false, ◌&&◌, ◌||◌, Option, None, Some, List, [], ◌∷◌, length, take, drop, codes, if◌then◌else◌}
use Rattle.std.specs.List.{list_any, prefix_len}
use Rattle.std.specs.Char.{is_ascii_alphanumeric}
use Rattle.md_lines.specs.Lines.{LineText, is_empty}
use Rattle.md_rules.specs.Shallow.{is_shallow}
use Rattle.md_rules.specs.Texts.{begins_with, ends_word}
use Rattle.md_rules.specs.Quotes.{is_same}
use Rattle.md_rules.specs.declared.html.TheConstants.{ELEMENTS, RAW_ELEMENTS, RAW_ENDS, COMMENT_ENDS}
use Rattle.md_rules.specs.declared.html.HtmlEnd.{HtmlEnd}
use Rattle.md_rules.specs.declared.html.HtmlEnd.TheVariants.{RawElement, Comment, EmptyLine}

-- ---- where one begins

-- the name in front: ASCII letters and digits
abbrev pub name_length : List ℕ → ℕ
name_length bs = prefix_len is_ascii_alphanumeric bs

-- a name is one of the tables', ASCII case aside
abbrev pub is_raw_element : List ℕ → Bool
is_raw_element name = list_any (λ n. is_same name n.now) RAW_ELEMENTS

abbrev pub is_element : List ℕ → Bool
is_element name = list_any (λ n. is_same name n.now) ELEMENTS

-- behind a name a blank, `>` or the end stands
abbrev pub ends_raw : List ℕ → Bool
ends_raw bs = ends_word bs || begins_with 62 bs

-- `/>` stands in front
abbrev pub closes_tag : List ℕ → Bool
closes_tag [] = false
closes_tag (b ∷ bs) = b == 47 && begins_with 62 bs

-- behind an element's name `/>` may stand too
abbrev pub ends_element : List ℕ → Bool
ends_element bs = ends_raw bs || closes_tag bs

-- these bytes behind `<` begin an element of raw text
abbrev pub begins_raw : List ℕ → Bool
begins_raw bs = is_raw_element (take (name_length bs) bs) && ends_raw (drop (name_length bs) bs)

-- they begin an element of a page, or end one
abbrev pub begins_element : List ℕ → Bool
begins_element bs = is_element (take (name_length bs) bs) && ends_element (drop (name_length bs) bs)

abbrev pub without_slash : List ℕ → List ℕ
without_slash bs = if begins_with 47 bs then drop 1 bs else bs

-- this text stands in front, ASCII case aside
abbrev pub begins_same : List ℕ → List ℕ → Bool
begins_same part bs = nat_le (length part) (length bs) && is_same part (take (length part) bs)

-- what ends the block that begins with `<` and these bytes
abbrev pub html_in : List ℕ → Option HtmlEnd
html_in bs =
    if begins_raw bs then Some RawElement
    else if begins_same (codes "!--") bs then Some Comment
    else if begins_element (without_slash bs) then Some EmptyLine
    else None

-- what ends the HTML block that begins at a line
abbrev pub html_end : LineText → Option HtmlEnd
html_end line = if is_shallow line && begins_with 60 line.body then html_in (drop 1 line.body) else None

-- ---- where it ends

-- behind `<`, the end of an element of raw text, whichever, stands in front
abbrev pub ends_raw_element : List ℕ → Bool
ends_raw_element bs = list_any (λ part. begins_same part.now bs) RAW_ENDS

-- behind `-`, what ends a comment stands in front
abbrev pub ends_comment : List ℕ → Bool
ends_comment bs = list_any (λ part. begins_same part.now bs) COMMENT_ENDS

-- somewhere the mark stands, and what stands behind it fits
unfoldable pub contains : ℕ → (List ℕ → Bool) → List ℕ → Bool
contains mark fits [] = false
contains mark fits (b ∷ bs) = (b == mark && fits bs) || contains mark fits bs

-- the block ends with this line
abbrev pub ends_with : HtmlEnd → LineText → Bool
ends_with RawElement line = contains 60 ends_raw_element line.body
ends_with Comment line = contains 45 ends_comment line.body
ends_with EmptyLine line = false

-- the block ends before this line
abbrev pub ends_before : HtmlEnd → LineText → Bool
ends_before EmptyLine line = is_empty line
ends_before _ line = false

-- how many lines behind its first the block takes, where that does not end it
unfoldable pub html_rest : HtmlEnd → List LineText → ℕ
html_rest end [] = 0
html_rest end (line ∷ lines) =
    if ends_before end line then 0
    else if ends_with end line then 1
    else suc (html_rest end lines)

-- how many further lines the block takes
abbrev pub html_more : HtmlEnd → LineText → List LineText → ℕ
html_more end line later = if ends_with end line then 0 else html_rest end later
