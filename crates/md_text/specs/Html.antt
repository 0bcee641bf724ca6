-- What HTML blocks lay out.
use Rattle.std.specs.Prelude.{ℕ, true, false, List}
use Rattle.std.specs.Str.Lines.{lines}
use Rattle.md_table.specs.Sheet.{Sheet}
use Rattle.md_text.specs.declared.environment.Environment.{Environment}
use Rattle.md_text.specs.declared.environment.Spacing.{Spacing}
use Rattle.md_text.specs.Laid.{Laid, nothing_laid, then_laid, open_laid, gap_laid, with_due}
use Rattle.md_text.specs.Inlines.{text_lines}

-- in an HTML block texts and lines have its style
abbrev pub html_environment : Sheet → Environment → Environment
html_environment sheet env = record env { line_style = sheet.html; inline_style = sheet.html }

-- HTML block: Gap, Open; its first line is put there, in its style, and each later one on a line of it; a line is due
abbrev pub html_block : Sheet → Environment → Spacing → List ℕ → Laid
html_block sheet env spacing bytes =
    then_laid (gap_laid env spacing) (λ gapped.
    then_laid (open_laid env gapped) (λ opened.
    then_laid (text_lines true (html_environment sheet env) (with_due false opened) (lines bytes)) (λ behind.
    nothing_laid (with_due true behind))))
