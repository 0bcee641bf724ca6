-- What blocks of code lay out.
use Rattle.std.specs.Prelude.{ℕ, ◌==◌, if◌then◌else◌, Bool, true, false, List, [], ◌++◌, length}
use Rattle.std.specs.Str.Lines.{lines}
use Rattle.term_text.specs.Style.{no_style}
use Rattle.term_text.specs.Text.{LineView}
use Rattle.md_tree.specs.declared.event.CodeBlockKind.{CodeBlockKind}
use Rattle.md_tree.specs.declared.event.CodeBlockKind.TheVariants.{Indented, Fenced}
use Rattle.ansi_text.specs.Ansi.{ansi}
use Rattle.md_table.specs.Sheet.{Sheet}
use Rattle.md_text.specs.declared.environment.Environment.{Environment}
use Rattle.md_text.specs.declared.environment.Spacing.{Spacing}
use Rattle.md_text.specs.Marks.{plain_span}
use Rattle.md_text.specs.Laid.{Laid, nothing_laid, then_laid, open_styled, open_laid, put_laid, put_all, each_laid, with_due}
use Rattle.md_text.specs.Look.{Look}
use Rattle.md_text.specs.Inlines.{text_lines}

-- the info text; code that is indented has none
abbrev pub info : CodeBlockKind → List ℕ
info Indented = []
info (Fenced bytes) = bytes

-- fenced code whose info text the highlighter knows is recognised; indented code never is
abbrev pub recognised : (List ℕ → Bool) → CodeBlockKind → Bool
recognised known Indented = false
recognised known (Fenced bytes) = known bytes

-- inside code that is not recognised the line style is that of code
abbrev pub code_environment : Look → Environment → CodeBlockKind → Environment
code_environment look env kind = if recognised look.known kind then env else record env { line_style = look.sheet.code }

-- the fence and a text behind it, plain, on a line of their own; nothing if the sheet has no fence
abbrev pub fence : Sheet → Environment → Spacing → List ℕ → Laid
fence sheet env spacing bytes =
    if length sheet.code_block_fence == 0 then nothing_laid spacing
    else then_laid (open_laid env spacing) (λ opened. put_laid opened (plain_span (sheet.code_block_fence ++ bytes)))

-- a line with colours stands behind no quote marks, in no line style
abbrev pub coloured_line : Spacing → LineView → Laid
coloured_line spacing line = then_laid (open_styled 0 no_style spacing) (λ opened. put_all opened line.spans)

-- the lines of a text with ANSI colours
abbrev pub coloured_text : Spacing → List ℕ → Laid
coloured_text spacing bytes = each_laid coloured_line spacing (ansi bytes)

-- what the highlighter answers for a line of code
abbrev pub answered_line : (List ℕ → List ℕ → List ℕ) → List ℕ → Spacing → List ℕ → Laid
answered_line answer lang spacing line = coloured_text spacing (answer lang line)

-- the lines of code: coloured if it is recognised, else each put in the inline style on a line of its own
abbrev pub code_lines : (List ℕ → Bool) → (List ℕ → List ℕ → List ℕ) → Environment → Spacing → CodeBlockKind → List (List ℕ) → Laid
code_lines known answer env spacing kind all =
    if recognised known kind then each_laid (answered_line answer (info kind)) spacing all
    else text_lines false env spacing all

-- the fence with the info text, the lines, and the fence
abbrev pub fenced_lines : Look → Environment → Spacing → CodeBlockKind → List ℕ → Laid
fenced_lines look env spacing kind bytes =
    then_laid (fence look.sheet env spacing (info kind)) (λ begun.
    then_laid (code_lines look.known look.answer env begun kind (lines bytes)) (λ behind. fence look.sheet env behind []))

-- if any line stands above, Open
abbrev pub apart : Environment → Spacing → Laid
apart env spacing = if spacing.any_line then open_laid env spacing else nothing_laid spacing

-- Code: if any line exists, Open; the fenced lines; a line is due
abbrev pub code_block : Look → Environment → Spacing → CodeBlockKind → List ℕ → Laid
code_block look env spacing kind bytes =
    then_laid (apart env spacing) (λ begun.
    then_laid (fenced_lines look (code_environment look env kind) begun kind bytes) (λ behind.
    nothing_laid (with_due true behind)))
