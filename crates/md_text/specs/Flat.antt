-- The pieces of inlines in a cell or an image.
use Rattle.std.specs.Prelude.{ℕ, if◌then◌else◌, Bool, true, false, List, [], ◌∷◌, ◌++◌, codes}
use Rattle.std.specs.Str.Lines.{lines}
use Rattle.term_text.specs.declared.style.Style.{Style}
use Rattle.term_text.specs.Style.{patch}
use Rattle.term_text.specs.Text.{SpanView}
use Rattle.md_tree.specs.declared.event.Event.{Event}
use Rattle.md_tree.specs.declared.event.Event.TheVariants as event
use Rattle.md_tree.specs.declared.event.Tag.{Tag}
use Rattle.md_tree.specs.declared.event.Tag.TheVariants as tag
use Rattle.md_tree.specs.Tree.{Nodes, Empty, Leaf, Branch}
use Rattle.md_table.specs.Sheet.{Sheet}
use Rattle.md_text.specs.declared.environment.Environment.{Environment}
use Rattle.md_text.specs.declared.environment.Within.{Within}
use Rattle.md_text.specs.declared.environment.Within.TheVariants.{Image}
use Rattle.md_text.specs.Marks.{plain_span, styled_span}
use Rattle.md_text.specs.Look.{Look}
use Rattle.md_text.specs.Spans.{piece, each_pieces, pieces_of}
use Rattle.md_text.specs.Environment.{environment_inside}
use Rattle.md_text.specs.Images.{image}
use Rattle.md_text.specs.Inlines.{display_math, inline_math, link_spans, reference}

-- each line is a piece
abbrev pub flat_lines : Style → List (List ℕ) → List SpanView
flat_lines style all = each_pieces (λ line. piece (styled_span line style)) all

abbrev pub is_image : Within → Bool
is_image Image = true
is_image _ = false

-- code is in its own style alone, and in an image in that over the image's
abbrev pub code_style : Sheet → Environment → Style
code_style sheet env = if is_image env.within then patch env.inline_style sheet.code else sheet.code

-- a break is a blank, which is plain, and in an image in the style there
abbrev pub blank : Environment → SpanView
blank env = if is_image env.within then styled_span (codes " ") env.inline_style else plain_span (codes " ")

-- A leaf in a cell or an image: a text is one piece, whatever line ends it has, code is one, display math has one for each
-- line, and a break is a blank.
abbrev pub flat_leaf : Sheet → Environment → Event → List SpanView
flat_leaf sheet env (event.Text bytes) = piece (styled_span bytes env.inline_style)
flat_leaf sheet env (event.Code bytes) = piece (styled_span bytes (code_style sheet env))
flat_leaf sheet env (event.InlineHtml bytes) = piece (styled_span bytes (patch env.inline_style sheet.html))
flat_leaf sheet env (event.InlineMath bytes) = piece (styled_span (inline_math bytes) (patch env.inline_style sheet.math_inline))
flat_leaf sheet env (event.DisplayMath bytes) = flat_lines sheet.math_display (lines (display_math bytes))
flat_leaf sheet env (event.FootnoteReference label) = piece (styled_span (reference label) (patch env.inline_style sheet.footnote_ref))
flat_leaf sheet env event.SoftBreak = piece (blank env)
flat_leaf sheet env event.HardBreak = piece (blank env)
flat_leaf sheet env _ = []

-- behind the inlines in an element: a link's destination
abbrev pub flat_behind : Sheet → Tag → List SpanView
flat_behind sheet (tag.Link dest) = pieces_of (link_spans sheet dest)
flat_behind sheet _ = []

-- an image in this environment, from the pieces of its description
abbrev pub image_in : Look → Environment → List ℕ → List SpanView → List SpanView
image_in look env dest description = image look.image_fallback (patch env.inline_style look.sheet.image_alt) dest description

-- the pieces of inlines, in order
abbrev pub flat : Look → Environment → Nodes → List SpanView
flat look env Empty = []
flat look env (Leaf e rest) = flat_leaf look.sheet env e ++ flat look env rest
flat look env (Branch (tag.Image dest) inside rest) =
    image_in look env dest (flat look (environment_inside look.sheet env (tag.Image dest) inside) inside) ++ flat look env rest
flat look env (Branch tag inside rest) =
    (flat look (environment_inside look.sheet env tag inside) inside ++ flat_behind look.sheet tag) ++ flat look env rest
