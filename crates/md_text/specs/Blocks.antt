-- What elements lay out before and behind what is inside them.
use Rattle.std.specs.Prelude.{if◌then◌else◌, Bool, true, false, not, ◌&&◌}
use Rattle.md_tree.specs.declared.event.Tag.{Tag}
use Rattle.md_tree.specs.declared.event.Tag.TheVariants as tag
use Rattle.md_table.specs.Sheet.{Sheet}
use Rattle.md_text.specs.declared.environment.Environment.{Environment}
use Rattle.md_text.specs.declared.environment.Spacing.{Spacing}
use Rattle.md_text.specs.declared.environment.Fresh.{Fresh}
use Rattle.md_text.specs.declared.environment.Fresh.TheVariants as fresh
use Rattle.md_text.specs.Laid.{Laid, nothing_laid, then_laid, open_laid, gap_laid, join_laid, with_due}
use Rattle.md_text.specs.Headings.{heading, heading_end}
use Rattle.md_text.specs.Inlines.{link_end}
use Rattle.md_text.specs.Containers.{quote, list, item}
use Rattle.md_text.specs.Notes.{description, footnote, metadata, metadata_end}

abbrev pub is_fresh : Fresh → Bool
is_fresh fresh.No = false
is_fresh fresh.Marker = true
is_fresh fresh.Prefix = true

-- Paragraph: behind a fresh marker or prefix, where no line is due, nothing; else Gap, Open, and none is due
abbrev pub paragraph : Environment → Spacing → Laid
paragraph env spacing =
    if is_fresh spacing.fresh && not spacing.due then nothing_laid spacing
    else then_laid (gap_laid env spacing) (λ gapped.
    then_laid (open_laid env gapped) (λ opened. nothing_laid (with_due false opened)))

-- before what is inside; elements without a row here have nothing before it
abbrev pub enter : Sheet → Environment → Spacing → Tag → Laid
enter sheet env spacing tag.Paragraph = paragraph env spacing
enter sheet env spacing (tag.Heading level id classes attrs) = heading sheet env spacing level
enter sheet env spacing (tag.BlockQuote kind) = quote sheet env spacing kind
enter sheet env spacing (tag.List start) = list env spacing
enter sheet env spacing tag.Item = item sheet env spacing
enter sheet env spacing (tag.FootnoteDefinition label) = footnote sheet env spacing label
enter sheet env spacing tag.DefinitionList = join_laid env spacing
enter sheet env spacing tag.DefinitionListTitle = open_laid env spacing
enter sheet env spacing tag.DefinitionListDefinition = description sheet env spacing
enter sheet env spacing tag.MetadataBlock = metadata sheet env spacing
enter sheet env spacing _ = nothing_laid spacing

-- behind what is inside: a line is due behind a block, and none behind a title and a description
abbrev pub leave : Sheet → Environment → Spacing → Tag → Laid
leave sheet env spacing tag.Paragraph = nothing_laid (with_due true spacing)
leave sheet env spacing (tag.Heading level id classes attrs) = heading_end sheet spacing id classes attrs
leave sheet env spacing (tag.BlockQuote kind) = nothing_laid (with_due true spacing)
leave sheet env spacing (tag.List start) = nothing_laid (with_due true spacing)
leave sheet env spacing (tag.FootnoteDefinition label) = nothing_laid (with_due true spacing)
leave sheet env spacing tag.DefinitionList = nothing_laid (with_due true spacing)
leave sheet env spacing tag.DefinitionListTitle = nothing_laid (with_due false spacing)
leave sheet env spacing tag.DefinitionListDefinition = nothing_laid (with_due false spacing)
leave sheet env spacing tag.MetadataBlock = metadata_end sheet env spacing
leave sheet env spacing (tag.Link dest) = link_end sheet spacing dest
leave sheet env spacing _ = nothing_laid spacing
