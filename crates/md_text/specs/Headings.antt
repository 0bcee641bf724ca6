-- What headings lay out: their mark, and their attributes.
use Rattle.std.specs.Prelude.{ℕ, ◌==◌, if◌then◌else◌, List, [], ◌∷◌, ◌++◌, map, Option, None, Some, codes, length, true, false}
use Rattle.term_text.specs.Style.{patch}
use Rattle.md_tree.specs.declared.event.HeadingLevel.{HeadingLevel}
use Rattle.md_tree.specs.declared.event.HeadingLevel.TheVariants.{H1, H2, H3, H4, H5, H6}
use Rattle.md_table.specs.Sheet.{Sheet}
use Rattle.md_text.specs.declared.environment.Environment.{Environment}
use Rattle.md_text.specs.declared.environment.Spacing.{Spacing}
use Rattle.md_text.specs.Marks.{plain_span, styled_span}
use Rattle.md_text.specs.Laid.{Laid, nothing_laid, then_laid, open_styled, gap_laid, put_laid, with_due}

abbrev pub level_number : HeadingLevel → ℕ
level_number H1 = 1
level_number H2 = 2
level_number H3 = 3
level_number H4 = 4
level_number H5 = 5
level_number H6 = 6

-- the mark and a blank, if there is a mark
abbrev pub with_blank : List ℕ → List ℕ
with_blank marker = if length marker == 0 then [] else marker ++ codes " "

-- Heading: Gap, a line of the level's style patched by the line style, the mark and a blank, plain, and none is due
abbrev pub heading : Sheet → Environment → Spacing → HeadingLevel → Laid
heading sheet env spacing level =
    let number = level_number level in
    then_laid (gap_laid env spacing) (λ gapped.
    then_laid (open_styled env.quotes (patch (sheet.heading number) env.line_style) gapped) (λ opened.
    then_laid (put_laid opened (plain_span (with_blank (sheet.heading_marker number)))) (λ marked.
    nothing_laid (with_due false marked))))

abbrev pub id_words : Option (List ℕ) → List (List ℕ)
id_words None = []
id_words (Some id) = (codes "#" ++ id) ∷ []

abbrev pub class_word : List ℕ → List ℕ
class_word class = codes "." ++ class

abbrev pub attribute_word : (List ℕ × Option (List ℕ)) → List ℕ
attribute_word (key, None) = key
attribute_word (key, Some value) = key ++ codes "=" ++ value

-- a heading's attributes: #id, .class for each class, and key=value or key for each other
abbrev pub attribute_words : Option (List ℕ) → List (List ℕ) → List (List ℕ × Option (List ℕ)) → List (List ℕ)
attribute_words id classes attrs = id_words id ++ (map class_word classes ++ map attribute_word attrs)

-- each word behind a blank
abbrev pub behind_blanks : List (List ℕ) → List ℕ
behind_blanks [] = []
behind_blanks (word ∷ words) = codes " " ++ (word ++ behind_blanks words)

-- a blank, and the words in braces with blanks between them; nothing without words
abbrev pub in_braces : List (List ℕ) → List ℕ
in_braces [] = []
in_braces (word ∷ words) = codes " {" ++ (word ++ (behind_blanks words ++ codes "}"))

abbrev pub attribute_suffix : Option (List ℕ) → List (List ℕ) → List (List ℕ × Option (List ℕ)) → List ℕ
attribute_suffix id classes attrs = in_braces (attribute_words id classes attrs)

-- behind a heading's inlines: its attributes, and a line is due
abbrev pub heading_end : Sheet → Spacing → Option (List ℕ) → List (List ℕ) → List (List ℕ × Option (List ℕ)) → Laid
heading_end sheet spacing id classes attrs =
    then_laid (put_laid spacing (styled_span (attribute_suffix id classes attrs) sheet.heading_meta)) (λ behind.
    nothing_laid (with_due true behind))
