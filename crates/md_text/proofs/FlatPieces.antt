-- The pieces of inlines in a cell or an image have a text each.
use Rattle.std.proofs.Common.{◌≡◌, ℕ, List, [], ◌∷◌, ◌++◌, true, not, codes, refl, ap, ◌∙◌}
use Rattle.std.specs.Str.Lines.{lines}
use Rattle.term_text.specs.declared.style.Style.{Style}
use Rattle.term_text.specs.Style.{patch}
use Rattle.term_text.specs.Text.{SpanView}
use Rattle.md_tree.specs.declared.event.Event.{Event}
use Rattle.md_tree.specs.declared.event.Event.TheVariants as event
use Rattle.md_tree.specs.declared.event.Tag.{Tag}
use Rattle.md_tree.specs.declared.event.Tag.TheVariants as tag
use Rattle.md_tree.specs.Tree.{Nodes, Empty, Leaf, Branch}
use Rattle.md_table.specs.Sheet.{Sheet}
use Rattle.md_text.specs.declared.environment.Environment.{Environment}
use Rattle.md_text.specs.declared.options.ImageFallback.{ImageFallback}
use Rattle.md_text.specs.declared.options.ImageFallback.TheVariants.{AltText, Url, AltTextAndUrl}
use Rattle.md_text.specs.Marks.{styled_span}
use Rattle.md_text.specs.Spans.{piece, pieces_of}
use Rattle.md_text.specs.Look.{Look}
use Rattle.md_text.specs.Environment.{environment_inside}
use Rattle.md_text.specs.Images.{content, image, in_parentheses, is_empty, marker_before}
use Rattle.md_text.specs.Inlines.{display_math, inline_math, link_spans, reference}
use Rattle.md_text.specs.Flat.{blank, code_style, flat_leaf, flat_lines, flat_behind, flat}
use Rattle.md_text.proofs.PieceSpans.{pieces_of-append, pieces_of-piece, pieces_of-pieces}

flat_lines-pieces : (style : Style) (all : List (List ℕ)) → pieces_of (flat_lines style all) ≡ flat_lines style all
flat_lines-pieces style [] = refl
flat_lines-pieces style (line ∷ others) =
    pieces_of-append (piece (styled_span line style)) (flat_lines style others)
    ∙ rw (pieces_of-piece (styled_span line style), flat_lines-pieces style others) refl

flat_leaf-pieces : (sheet : Sheet) (env : Environment) (e : Event) → pieces_of (flat_leaf sheet env e) ≡ flat_leaf sheet env e
flat_leaf-pieces sheet env (event.Text bytes) = pieces_of-piece (styled_span bytes env.inline_style)
flat_leaf-pieces sheet env (event.Code bytes) = pieces_of-piece (styled_span bytes (code_style sheet env))
flat_leaf-pieces sheet env (event.InlineHtml bytes) = pieces_of-piece (styled_span bytes (patch env.inline_style sheet.html))
flat_leaf-pieces sheet env (event.InlineMath bytes) = pieces_of-piece (styled_span (inline_math bytes) (patch env.inline_style sheet.math_inline))
flat_leaf-pieces sheet env (event.DisplayMath bytes) = flat_lines-pieces sheet.math_display (lines (display_math bytes))
flat_leaf-pieces sheet env (event.FootnoteReference label) = pieces_of-piece (styled_span (reference label) (patch env.inline_style sheet.footnote_ref))
flat_leaf-pieces sheet env event.SoftBreak = pieces_of-piece (blank env)
flat_leaf-pieces sheet env event.HardBreak = pieces_of-piece (blank env)
flat_leaf-pieces sheet env e = refl

flat_behind-pieces : (sheet : Sheet) (t : Tag) → pieces_of (flat_behind sheet t) ≡ flat_behind sheet t
flat_behind-pieces sheet (tag.Link dest) = pieces_of-pieces (link_spans sheet dest)
flat_behind-pieces sheet t = refl

-- two parts
pieces2 : (a b : List SpanView) → pieces_of a ≡ a → pieces_of b ≡ b → pieces_of (a ++ b) ≡ a ++ b
pieces2 a b h k = pieces_of-append a b ∙ rw (h, k) refl

content-pieces : (fallback : ImageFallback) (style : Style) (dest : List ℕ) (description : List SpanView) → pieces_of description ≡ description
    → pieces_of (content fallback style dest description) ≡ content fallback style dest description
content-pieces AltText style dest [] h = pieces_of-piece (styled_span dest style)
content-pieces AltText style dest (span ∷ spans) h = h
content-pieces Url style dest description h = pieces_of-piece (styled_span dest style)
content-pieces AltTextAndUrl style dest [] h = pieces_of-piece (styled_span dest style)
content-pieces AltTextAndUrl style [] (span ∷ spans) h = pieces2 (span ∷ spans) [] h refl
content-pieces AltTextAndUrl style (b ∷ bs) (span ∷ spans) h = pieces2 (span ∷ spans) (in_parentheses style (b ∷ bs)) h
    (pieces_of-piece (styled_span (codes " (" ++ ((b ∷ bs) ++ codes ")")) style))

pub image-pieces : (fallback : ImageFallback) (style : Style) (dest : List ℕ) (description : List SpanView) → pieces_of description ≡ description
    → pieces_of (image fallback style dest description) ≡ image fallback style dest description
image-pieces fallback style dest description h = by_case (content fallback style dest description) (content-pieces fallback style dest description h)
  where
    by_case : (shown : List SpanView) → pieces_of shown ≡ shown
        → pieces_of (marker_before style (not (is_empty shown)) ∷ shown) ≡ marker_before style (not (is_empty shown)) ∷ shown
    by_case [] e = refl
    by_case (span ∷ spans) e = ap (λ (z : List SpanView). marker_before style true ∷ z) e

pub flat-pieces : (look : Look) (env : Environment) (t : Nodes) → pieces_of (flat look env t) ≡ flat look env t
flat-pieces look env Empty = refl
flat-pieces look env (Leaf e rest) = pieces2 _ _ (flat_leaf-pieces look.sheet env e) (flat-pieces look env rest)
flat-pieces look env (Branch (tag.Image dest) inside rest) =
    let env_in = environment_inside look.sheet env (tag.Image dest) inside in
    pieces2 _ _ (image-pieces look.image_fallback (patch env.inline_style look.sheet.image_alt) dest (flat look env_in inside) (flat-pieces look env_in inside))
    (flat-pieces look env rest)
flat-pieces look env (Branch t inside rest) =
    pieces2 _ _ (pieces2 _ _ (flat-pieces look (environment_inside look.sheet env t inside) inside) (flat_behind-pieces look.sheet t))
    (flat-pieces look env rest)
