-- What footnote definitions, the entries of definition lists and metadata lay out.
use Rattle.std.specs.Prelude.{ℕ, true, false, List, ◌++◌, codes}
use Rattle.term_text.specs.Text.{SpanView}
use Rattle.md_table.specs.Sheet.{Sheet}
use Rattle.md_text.specs.declared.environment.Environment.{Environment}
use Rattle.md_text.specs.declared.environment.Spacing.{Spacing}
use Rattle.md_text.specs.declared.environment.Fresh.TheVariants.{Prefix}
use Rattle.md_text.specs.Marks.{plain_span, styled_span}
use Rattle.md_text.specs.Laid.{Laid, nothing_laid, then_laid, open_styled, open_laid, gap_laid, put_laid, with_due}

-- a prefix is put; it is fresh then, and no line is due
abbrev pub prefix : Spacing → SpanView → Laid
prefix spacing span =
    then_laid (put_laid spacing span) (λ put. nothing_laid (record { due = false; fresh = Prefix; any_line = put.any_line }))

-- the label of a footnote before its text
abbrev pub label : List ℕ → List ℕ
label bytes = codes "[" ++ (bytes ++ codes "]: ")

-- Footnote definition: Gap, and a line of its own style with the label in it
abbrev pub footnote : Sheet → Environment → Spacing → List ℕ → Laid
footnote sheet env spacing bytes =
    then_laid (gap_laid env spacing) (λ gapped.
    then_laid (open_styled env.quotes sheet.footnote_def gapped) (λ opened.
    prefix opened (styled_span (label bytes) sheet.footnote_def)))

-- Description: Open, and a colon and a blank in its style
abbrev pub description : Sheet → Environment → Spacing → Laid
description sheet env spacing =
    then_laid (open_laid env spacing) (λ opened. prefix opened (styled_span (codes ": ") sheet.definition_description))

-- three dashes, plain, on a line of metadata
abbrev pub dashes : Sheet → Environment → Spacing → Laid
dashes sheet env spacing =
    then_laid (open_styled env.quotes sheet.metadata_block spacing) (λ opened. put_laid opened (plain_span (codes "---")))

-- Metadata: Gap, dashes, and the first line; whether a line is due stays as it is
abbrev pub metadata : Sheet → Environment → Spacing → Laid
metadata sheet env spacing =
    then_laid (gap_laid env spacing) (λ gapped.
    then_laid (dashes sheet env gapped) (λ begun. open_styled env.quotes sheet.metadata_block begun))

-- behind its content: dashes, and a line is due
abbrev pub metadata_end : Sheet → Environment → Spacing → Laid
metadata_end sheet env spacing = then_laid (dashes sheet env spacing) (λ ended. nothing_laid (with_due true ended))
