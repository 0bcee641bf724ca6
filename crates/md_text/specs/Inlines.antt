-- What inlines lay out.
use Rattle.std.specs.Prelude.{ℕ, if◌then◌else◌, Bool, true, false, List, [], ◌∷◌, ◌++◌, codes}
use Rattle.std.specs.Str.Lines.{lines}
use Rattle.term_text.specs.Text.{SpanView}
use Rattle.term_text.specs.declared.style.Style.{Style}
use Rattle.term_text.specs.Style.{patch}
use Rattle.md_tree.specs.declared.event.Event.{Event}
use Rattle.md_tree.specs.declared.event.Event.TheVariants as event
use Rattle.md_table.specs.Sheet.{Sheet}
use Rattle.md_text.specs.declared.environment.Environment.{Environment}
use Rattle.md_text.specs.declared.environment.Spacing.{Spacing}
use Rattle.md_text.specs.Marks.{Put, plain_span, styled_span}
use Rattle.md_text.specs.Laid.{Laid, nothing_laid, then_laid, open_laid, gap_laid, join_laid, put_laid, put_all, with_due}

-- a text's first line joins, and each later one opens a line
abbrev pub begin_line : Bool → Environment → Spacing → Laid
begin_line true env spacing = join_laid env spacing
begin_line false env spacing = open_laid env spacing

abbrev pub text_line : Bool → Environment → Spacing → List ℕ → Laid
text_line is_first env spacing line =
    then_laid (begin_line is_first env spacing) (λ begun. put_laid begun (styled_span line env.inline_style))

abbrev pub text_lines : Bool → Environment → Spacing → List (List ℕ) → Laid
text_lines is_first env spacing [] = nothing_laid spacing
text_lines is_first env spacing (line ∷ others) =
    then_laid (text_line is_first env spacing line) (λ behind. text_lines false env behind others)

-- Text: its lines, each put in the inline style; an empty text has none
abbrev pub text : Environment → Spacing → List ℕ → Laid
text env spacing bytes = text_lines true env spacing (lines bytes)

-- Soft break: Put one blank, plain; in metadata Open
abbrev pub soft_break : Environment → Spacing → Laid
soft_break env spacing = if env.in_metadata then open_laid env spacing else put_laid spacing (plain_span (codes " "))

-- Hard break: Open
abbrev pub hard_break : Environment → Spacing → Laid
hard_break env spacing = open_laid env spacing

-- Task mark: Put a box and a blank, plain; a fresh marker stays fresh
abbrev pub task_mark : Spacing → Bool → Laid
task_mark spacing is_done =
    record { marks = Put (plain_span (if is_done then codes "[x] " else codes "[ ] ")) ∷ []; after = spacing }

-- Join, and Put in a style
abbrev pub joined_text : Environment → Spacing → List ℕ → Style → Laid
joined_text env spacing bytes style = then_laid (join_laid env spacing) (λ joined. put_laid joined (styled_span bytes style))

-- Code: in the style of code alone
abbrev pub code : Sheet → Environment → Spacing → List ℕ → Laid
code sheet env spacing bytes = joined_text env spacing bytes sheet.code

-- HTML, inline math and footnote references: as they are written, in their styles over the inline style
abbrev pub html : Sheet → Environment → Spacing → List ℕ → Laid
html sheet env spacing bytes = joined_text env spacing bytes (patch env.inline_style sheet.html)

abbrev pub inline_math : List ℕ → List ℕ
inline_math bytes = codes "$" ++ (bytes ++ codes "$")

abbrev pub math : Sheet → Environment → Spacing → List ℕ → Laid
math sheet env spacing bytes = joined_text env spacing (inline_math bytes) (patch env.inline_style sheet.math_inline)

abbrev pub reference : List ℕ → List ℕ
reference label = codes "[" ++ (label ++ codes "]")

abbrev pub footnote_reference : Sheet → Environment → Spacing → List ℕ → Laid
footnote_reference sheet env spacing label = joined_text env spacing (reference label) (patch env.inline_style sheet.footnote_ref)

-- Display math: its lines as those of a text, in its own style; a line is due behind it
abbrev pub display_math : List ℕ → List ℕ
display_math bytes = codes "$$" ++ (bytes ++ codes "$$")

abbrev pub math_environment : Sheet → Environment → Environment
math_environment sheet env = record env { inline_style = sheet.math_display }

abbrev pub display : Sheet → Environment → Spacing → List ℕ → Laid
display sheet env spacing bytes =
    then_laid (text_lines true (math_environment sheet env) spacing (lines (display_math bytes))) (λ behind.
    nothing_laid (with_due true behind))

-- behind a link's inlines: the destination in the style of links alone, in plain parentheses behind a blank
abbrev pub link_spans : Sheet → List ℕ → List SpanView
link_spans sheet dest = plain_span (codes " (") ∷ styled_span dest sheet.link ∷ plain_span (codes ")") ∷ []

abbrev pub link_end : Sheet → Spacing → List ℕ → Laid
link_end sheet spacing dest = put_all spacing (link_spans sheet dest)

-- Rule: Gap, Open, three dashes, plain, and a line is due
abbrev pub rule : Environment → Spacing → Laid
rule env spacing =
    then_laid (gap_laid env spacing) (λ gapped.
    then_laid (open_laid env gapped) (λ opened.
    then_laid (put_laid opened (plain_span (codes "---"))) (λ ruled. nothing_laid (with_due true ruled))))

-- a leaf; the lines of an HTML block are laid out with it
abbrev pub leaf : Sheet → Environment → Spacing → Event → Laid
leaf sheet env spacing (event.Text bytes) = text env spacing bytes
leaf sheet env spacing (event.Code bytes) = code sheet env spacing bytes
leaf sheet env spacing (event.InlineHtml bytes) = html sheet env spacing bytes
leaf sheet env spacing (event.InlineMath bytes) = math sheet env spacing bytes
leaf sheet env spacing (event.DisplayMath bytes) = display sheet env spacing bytes
leaf sheet env spacing (event.FootnoteReference label) = footnote_reference sheet env spacing label
leaf sheet env spacing event.SoftBreak = soft_break env spacing
leaf sheet env spacing event.HardBreak = hard_break env spacing
leaf sheet env spacing event.Rule = rule env spacing
leaf sheet env spacing (event.TaskListMarker is_done) = task_mark spacing is_done
leaf sheet env spacing _ = nothing_laid spacing
