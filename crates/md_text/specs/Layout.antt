-- The layout of a tree.
use Rattle.std.specs.Prelude.{List, []}
use Rattle.term_text.specs.Text.{LineView}
use Rattle.md_tree.specs.declared.event.Tag.{Tag}
use Rattle.md_tree.specs.declared.event.Tag.TheVariants as tag
use Rattle.md_tree.specs.Tree.{Nodes, Empty, Leaf, Branch}
use Rattle.md_text.specs.declared.environment.Environment.{Environment}
use Rattle.md_text.specs.declared.environment.Spacing.{Spacing}
use Rattle.md_text.specs.Marks.{draws}
use Rattle.md_text.specs.Laid.{Laid, nothing_laid, then_laid, join_all}
use Rattle.md_text.specs.Look.{Look}
use Rattle.md_text.specs.Environment.{first_environment, first_spacing, environment_inside, environment_after}
use Rattle.md_text.specs.Texts.{texts}
use Rattle.md_text.specs.Blocks.{enter, leave}
use Rattle.md_text.specs.Inlines.{leaf}
use Rattle.md_text.specs.Code.{code_block}
use Rattle.md_text.specs.Flat.{flat, image_in}
use Rattle.md_text.specs.Html.{html_block}
use Rattle.md_text.specs.Tables.{table, table_of}

-- An element with these nodes: a block of code or HTML, a table and an image are laid out as a whole, and of others, what stands before, in and
-- behind them.
abbrev pub branch : Look → Environment → Spacing → Tag → Nodes → (Spacing → Laid) → Laid
branch look env spacing (tag.CodeBlock kind) nodes inside = code_block look env spacing kind (texts nodes)
branch look env spacing tag.HtmlBlock nodes inside = html_block look.sheet env spacing (texts nodes)
branch look env spacing (tag.Table alignments) nodes inside = table look env spacing (table_of look env alignments nodes)
branch look env spacing (tag.Image dest) nodes inside =
    join_all env spacing (image_in look env dest (flat look (environment_inside look.sheet env (tag.Image dest) nodes) nodes))
branch look env spacing tag nodes inside =
    then_laid (enter look.sheet env spacing tag) (λ entered.
    then_laid (inside entered) (λ behind. leave look.sheet env behind tag))

-- the environment is only handed down: what follows an element has the environment from before it, with a list's next number
abbrev pub layout : Look → Environment → Spacing → Nodes → Laid
layout look env spacing Empty = nothing_laid spacing
layout look env spacing (Leaf e rest) = then_laid (leaf look.sheet env spacing e) (λ behind. layout look env behind rest)
layout look env spacing (Branch tag inside rest) =
    then_laid (branch look env spacing tag inside (λ entered. layout look (environment_inside look.sheet env tag inside) entered inside))
    (λ behind. layout look (environment_after env tag) behind rest)

-- the layout of a document
abbrev pub document_layout : Look → Nodes → Laid
document_layout look tree = layout look first_environment first_spacing tree

-- the lines of a document
abbrev pub document_lines : Look → Nodes → List LineView
document_lines look tree = draws [] (document_layout look tree).marks
