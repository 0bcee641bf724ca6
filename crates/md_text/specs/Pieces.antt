-- The spans of a tree, without lines and spacing.
use Rattle.std.specs.Prelude.{ℕ, Option, None, Some, ◌==◌, if◌then◌else◌, List, [], ◌∷◌, ◌++◌, length, codes}
use Rattle.std.specs.Str.Lines.{lines}
use Rattle.term_text.specs.Style.{patch}
use Rattle.term_text.specs.Text.{SpanView, LineView}
use Rattle.md_tree.specs.declared.event.BlockQuoteKind.{BlockQuoteKind}
use Rattle.md_tree.specs.declared.event.CodeBlockKind.{CodeBlockKind}
use Rattle.md_tree.specs.declared.event.Event.{Event}
use Rattle.md_tree.specs.declared.event.Event.TheVariants as event
use Rattle.md_tree.specs.declared.event.Tag.{Tag}
use Rattle.md_tree.specs.declared.event.Tag.TheVariants as tag
use Rattle.md_tree.specs.Tree.{Nodes, Empty, Leaf, Branch}
use Rattle.ansi_text.specs.Ansi.{ansi}
use Rattle.md_picture.specs.Picture.{TableView}
use Rattle.md_table.specs.Defaults.{bold}
use Rattle.md_table.specs.Sheet.{Sheet}
use Rattle.md_text.specs.declared.environment.Environment.{Environment}
use Rattle.md_text.specs.Marks.{Mark, Put, plain_span, styled_span}
use Rattle.md_text.specs.Spans.{piece, each_pieces, pieces_of}
use Rattle.md_text.specs.Look.{Look}
use Rattle.md_text.specs.Environment.{first_environment, environment_inside, environment_after}
use Rattle.md_text.specs.Headings.{level_number, with_blank, attribute_suffix}
use Rattle.md_text.specs.Flat.{flat, image_in}
use Rattle.md_text.specs.Html.{html_environment}
use Rattle.md_text.specs.Inlines.{display_math, inline_math, link_spans, math_environment, reference}
use Rattle.md_text.specs.Notes.{label}
use Rattle.md_text.specs.Code.{info, recognised}
use Rattle.md_text.specs.Texts.{texts}
use Rattle.md_text.specs.Alerts.{alert_of}
use Rattle.md_text.specs.Containers.{alert_title}
use Rattle.md_text.specs.Markers.{marker}
use Rattle.md_text.specs.Tables.{table_of, table_picture}

-- the spans that marks put
abbrev pub puts : List Mark → List SpanView
puts [] = []
puts (Put span ∷ marks) = span ∷ puts marks
puts (_ ∷ marks) = puts marks

abbrev pub line_pieces : Environment → List (List ℕ) → List SpanView
line_pieces env all = each_pieces (λ line. piece (styled_span line env.inline_style)) all

-- a text's pieces are its lines, and so are those of display math; code, HTML, inline math and a footnote reference are one, a
-- soft break's is a blank, but in metadata it has none, a rule's is three dashes, and a task mark's is a box
abbrev pub leaf_pieces : Sheet → Environment → Event → List SpanView
leaf_pieces sheet env (event.Text bytes) = line_pieces env (lines bytes)
leaf_pieces sheet env (event.Code bytes) = piece (styled_span bytes sheet.code)
leaf_pieces sheet env (event.InlineHtml bytes) = piece (styled_span bytes (patch env.inline_style sheet.html))
leaf_pieces sheet env (event.InlineMath bytes) = piece (styled_span (inline_math bytes) (patch env.inline_style sheet.math_inline))
leaf_pieces sheet env (event.DisplayMath bytes) = line_pieces (math_environment sheet env) (lines (display_math bytes))
leaf_pieces sheet env (event.FootnoteReference label) = piece (styled_span (reference label) (patch env.inline_style sheet.footnote_ref))
leaf_pieces sheet env event.SoftBreak = if env.in_metadata then [] else plain_span (codes " ") ∷ []
leaf_pieces sheet env event.Rule = plain_span (codes "---") ∷ []
leaf_pieces sheet env (event.TaskListMarker is_done) = plain_span (if is_done then codes "[x] " else codes "[ ] ") ∷ []
leaf_pieces sheet env _ = []

-- a fence is one piece with the text behind it
abbrev pub fence_pieces : Sheet → List ℕ → List SpanView
fence_pieces sheet bytes =
    if length sheet.code_block_fence == 0 then [] else piece (plain_span (sheet.code_block_fence ++ bytes))

-- the pieces of a text with ANSI colours are the spans of its lines
abbrev pub coloured_pieces : List ℕ → List SpanView
coloured_pieces bytes = each_pieces (λ (line : LineView). pieces_of line.spans) (ansi bytes)

abbrev pub code_line_pieces : Look → Environment → CodeBlockKind → List (List ℕ) → List SpanView
code_line_pieces look env kind all =
    if recognised look.known kind then each_pieces (λ line. coloured_pieces (look.answer (info kind) line)) all
    else line_pieces env all

-- a block of code: its fence with the info text, its lines, and its fence
abbrev pub code_pieces : Look → Environment → CodeBlockKind → List ℕ → List SpanView
code_pieces look env kind content =
    fence_pieces look.sheet (info kind) ++ (code_line_pieces look env kind (lines content) ++ fence_pieces look.sheet [])

-- a quote has none, and an alert has its icon and label
abbrev pub quote_pieces : Sheet → Option BlockQuoteKind → List SpanView
quote_pieces sheet None = []
quote_pieces sheet (Some kind) =
    let alert = alert_of kind in piece (styled_span (alert_title sheet alert) (bold (sheet.alert alert)))

-- before what is inside: a heading's mark, an alert's icon and label, an item's marker, a footnote's label, a description's
-- colon, and dashes before metadata
abbrev pub pieces_before : Sheet → Environment → Tag → List SpanView
pieces_before sheet env (tag.Heading level id classes attrs) =
    piece (plain_span (with_blank (sheet.heading_marker (level_number level))))
pieces_before sheet env (tag.BlockQuote kind) = quote_pieces sheet kind
pieces_before sheet env tag.Item = piece (marker sheet env.depth env.number)
pieces_before sheet env (tag.FootnoteDefinition bytes) = piece (styled_span (label bytes) sheet.footnote_def)
pieces_before sheet env tag.DefinitionListDefinition = piece (styled_span (codes ": ") sheet.definition_description)
pieces_before sheet env tag.MetadataBlock = plain_span (codes "---") ∷ []
pieces_before sheet env _ = []

-- the pieces of a table are the spans of its picture
abbrev pub table_pieces : Look → Environment → TableView → List SpanView
table_pieces look env view = each_pieces (λ (line : LineView). pieces_of line.spans) (table_picture look env view)

-- behind what is inside: a heading's attributes, a link's destination, and dashes behind metadata
abbrev pub pieces_behind : Sheet → Tag → List SpanView
pieces_behind sheet (tag.Heading level id classes attrs) = piece (styled_span (attribute_suffix id classes attrs) sheet.heading_meta)
pieces_behind sheet tag.MetadataBlock = plain_span (codes "---") ∷ []
pieces_behind sheet (tag.Link dest) = pieces_of (link_spans sheet dest)
pieces_behind sheet _ = []

-- the pieces of an element with these nodes, those of the nodes being given: of a block of code or HTML, of a table and of an
-- image as a whole, and of others, what stands before, in and behind them
abbrev pub branch_pieces : Look → Environment → Tag → Nodes → List SpanView → List SpanView
branch_pieces look env (tag.CodeBlock kind) nodes inside = code_pieces look env kind (texts nodes)
branch_pieces look env tag.HtmlBlock nodes inside = line_pieces (html_environment look.sheet env) (lines (texts nodes))
branch_pieces look env (tag.Table alignments) nodes inside = table_pieces look env (table_of look env alignments nodes)
branch_pieces look env (tag.Image dest) nodes inside =
    pieces_of (image_in look env dest (flat look (environment_inside look.sheet env (tag.Image dest) nodes) nodes))
branch_pieces look env tag nodes inside = pieces_before look.sheet env tag ++ (inside ++ pieces_behind look.sheet tag)

-- the pieces of nodes, in order
abbrev pub pieces : Look → Environment → Nodes → List SpanView
pieces look env Empty = []
pieces look env (Leaf e rest) = leaf_pieces look.sheet env e ++ pieces look env rest
pieces look env (Branch tag inside rest) =
    branch_pieces look env tag inside (pieces look (environment_inside look.sheet env tag inside) inside)
    ++ pieces look (environment_after env tag) rest

abbrev pub document_pieces : Look → Nodes → List SpanView
document_pieces look tree = pieces look first_environment tree
