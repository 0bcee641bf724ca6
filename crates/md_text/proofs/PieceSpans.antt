-- Spans with a text, and cells that get spans.
use Rattle.std.proofs.Common.{◌≡◌, List, [], ◌∷◌, ◌++◌, Bool, true, false, ◌==◌, if◌then◌else◌, length, fold, refl, ap, sym, ◌∙◌, append_assoc}
use Rattle.std.proofs.lemmas.List.{append-nil}
use Rattle.std.proofs.lemmas.List.Sums.{fold-append}
use Rattle.term_text.specs.Text.{SpanView, LineView}
use Rattle.md_table.specs.Builder.{BuilderView, with_span}
use Rattle.md_text.specs.Spans.{piece, pieces_of}
use Rattle.md_text.specs.State.{with_spans}

-- ---- pieces

pub pieces_of-append : (a b : List SpanView) → pieces_of (a ++ b) ≡ pieces_of a ++ pieces_of b
pieces_of-append [] b = refl
pieces_of-append (span ∷ a) b = ap (λ (z : List SpanView). piece span ++ z) (pieces_of-append a b) ∙ sym (append_assoc (piece span) (pieces_of a) (pieces_of b))

-- a piece is its own only piece
pub pieces_of-piece : (span : SpanView) → pieces_of (piece span) ≡ piece span
pieces_of-piece span = by_test (length span.text == 0) refl
  where
    by_test : (b : Bool) → (length span.text == 0) ≡ b → pieces_of (if b then [] else span ∷ []) ≡ (if b then [] else span ∷ [])
    by_test true t = refl
    by_test false t = rw t refl

pub pieces_of-pieces : (spans : List SpanView) → pieces_of (pieces_of spans) ≡ pieces_of spans
pieces_of-pieces [] = refl
pieces_of-pieces (span ∷ spans) =
    pieces_of-append (piece span) (pieces_of spans) ∙ rw (pieces_of-piece span, pieces_of-pieces spans) refl

-- ---- cells

with_span-piece : (cell : LineView) (span : SpanView) → with_span cell span ≡ record cell { spans = cell.spans ++ piece span }
with_span-piece cell span = by_test (length span.text == 0)
  where
    by_test : (b : Bool) → (if b then cell else record cell { spans = cell.spans ++ span ∷ [] }) ≡ record cell { spans = cell.spans ++ (if b then [] else span ∷ []) }
    by_test true = ap (λ (z : List SpanView). record cell { spans = z }) (sym (append-nil cell.spans))
    by_test false = refl

-- spans that are added to a cell stand behind its own, each that has a text
pub cell-spans : (cell : LineView) (spans : List SpanView) →
    fold (λ cell span. with_span cell span) cell spans ≡ record cell { spans = cell.spans ++ pieces_of spans }
cell-spans cell [] = ap (λ (z : List SpanView). record cell { spans = z }) (sym (append-nil cell.spans))
cell-spans cell (span ∷ spans) =
    ap (λ (z : LineView). fold (λ cell span. with_span cell span) z spans) (with_span-piece cell span)
    ∙ cell-spans (record cell { spans = cell.spans ++ piece span }) spans
    ∙ ap (λ (z : List SpanView). record cell { spans = z }) (append_assoc cell.spans (piece span) (pieces_of spans))

pub with_spans-append : (builder : BuilderView) (a b : List SpanView) →
    with_spans builder (a ++ b) ≡ with_spans (with_spans builder a) b
with_spans-append builder a b =
    ap (λ (z : LineView). record builder { cell = z }) (fold-append (λ cell span. with_span cell span) builder.cell a b)

-- spans without a text add nothing
pub with_spans-pieces : (builder : BuilderView) (spans : List SpanView) → with_spans builder (pieces_of spans) ≡ with_spans builder spans
with_spans-pieces builder spans =
    ap (λ (z : LineView). record builder { cell = z })
    (cell-spans builder.cell (pieces_of spans)
    ∙ ap (λ (z : List SpanView). record builder.cell { spans = builder.cell.spans ++ z }) (pieces_of-pieces spans)
    ∙ sym (cell-spans builder.cell spans))
