-- A run over the inlines in a cell adds their pieces to it.
use Rattle.std.proofs.Common.{◌≡◌, ℕ, List, [], ◌∷◌, ◌++◌, Bool, true, cond, refl, ap, sym, ◌∙◌}
use Rattle.term_text.specs.Text.{SpanView, LineView}
use Rattle.md_tree.specs.declared.event.Event.{Event}
use Rattle.md_tree.specs.declared.event.Event.TheVariants as event
use Rattle.md_tree.specs.declared.event.Tag.TheVariants as tag
use Rattle.md_tree.specs.Tree.{Nodes, Empty, Leaf, Branch, events_then, end_of}
use Rattle.md_tree.specs.Good.{good_at, place_inside, among_inlines}
use Rattle.md_table.specs.Builder.{BuilderView}
use Rattle.md_text.specs.declared.environment.Environment.{Environment}
use Rattle.md_text.specs.declared.environment.Spacing.{Spacing}
use Rattle.md_text.specs.Marks.{plain_span}
use Rattle.md_text.specs.Look.{Look}
use Rattle.md_text.specs.Environment.{environment_inside}
use Rattle.md_text.specs.Flat.{flat_leaf, flat_behind, flat, image_in}
use Rattle.md_text.specs.State.{Begun, with_spans, run}
use Rattle.md_text.proofs.States.{within_cell, cell_state}
use Rattle.md_text.proofs.GoodNodes.{good-behind_leaf, good-inside, good-behind}
use Rattle.md_text.proofs.PieceSpans.{with_spans-append}
use Rattle.md_text.proofs.ImageRuns.{has-place, run-image}

-- ---- runs

join3 : (builder : BuilderView) (a b c : List SpanView) →
    with_spans (with_spans (with_spans builder a) b) c ≡ with_spans builder ((a ++ b) ++ c)
join3 builder a b c =
    sym (with_spans-append builder (a ++ b) c ∙ ap (λ (z : BuilderView). with_spans z c) (with_spans-append builder a b))

pub run-flat : (look : Look) (t : Nodes) (es : List Event) (elements : List Begun) (env : Environment) (spacing : Spacing) (builder : BuilderView) (lines : List LineView) (in_link : Bool) →
    good_at (among_inlines in_link) t ≡ true →
    run look (events_then t es) (cell_state elements env spacing builder lines)
    ≡ run look es (cell_state elements env spacing (with_spans builder (flat look (within_cell env) t)) lines)
run-flat look Empty es elements env spacing builder lines in_link g = refl
run-flat look (Leaf (event.Start t) rest) es elements env spacing builder lines in_link g = cc
run-flat look (Leaf (event.End e) rest) es elements env spacing builder lines in_link g = cc
run-flat look (Leaf (event.TaskListMarker is_done) rest) es elements env spacing builder lines in_link g = cc
run-flat look (Leaf e rest) es elements env spacing builder lines in_link g =
    let pieces = flat_leaf look.sheet (within_cell env) e in
    run-flat look rest es elements env spacing (with_spans builder pieces) lines in_link (good-behind_leaf (among_inlines in_link) e rest g)
    ∙ ap (λ (b : BuilderView). run look es (cell_state elements env spacing b lines))
    (sym (with_spans-append builder pieces (flat look (within_cell env) rest)))
run-flat look (Branch tag.Paragraph inside rest) es elements env spacing builder lines in_link g = cc
run-flat look (Branch (tag.Heading level id classes attrs) inside rest) es elements env spacing builder lines in_link g = cc
run-flat look (Branch (tag.BlockQuote kind) inside rest) es elements env spacing builder lines in_link g = cc
run-flat look (Branch (tag.CodeBlock kind) inside rest) es elements env spacing builder lines in_link g = cc
run-flat look (Branch tag.HtmlBlock inside rest) es elements env spacing builder lines in_link g = cc
run-flat look (Branch (tag.List start) inside rest) es elements env spacing builder lines in_link g = cc
run-flat look (Branch tag.Item inside rest) es elements env spacing builder lines in_link g = cc
run-flat look (Branch (tag.FootnoteDefinition label) inside rest) es elements env spacing builder lines in_link g = cc
run-flat look (Branch tag.DefinitionList inside rest) es elements env spacing builder lines in_link g = cc
run-flat look (Branch tag.DefinitionListTitle inside rest) es elements env spacing builder lines in_link g = cc
run-flat look (Branch tag.DefinitionListDefinition inside rest) es elements env spacing builder lines in_link g = cc
run-flat look (Branch (tag.Table alignments) inside rest) es elements env spacing builder lines in_link g = cc
run-flat look (Branch tag.TableHead inside rest) es elements env spacing builder lines in_link g = cc
run-flat look (Branch tag.TableRow inside rest) es elements env spacing builder lines in_link g = cc
run-flat look (Branch tag.TableCell inside rest) es elements env spacing builder lines in_link g = cc
run-flat look (Branch tag.MetadataBlock inside rest) es elements env spacing builder lines in_link g = cc
run-flat look (Branch (tag.Image dest) inside rest) es elements env spacing builder lines in_link g =
    let place = among_inlines in_link in
    let env_in = environment_inside look.sheet (within_cell env) (tag.Image dest) inside in
    let description = flat look env_in inside in
    let shown = image_in look (within_cell env) dest description in
    let begun : Begun = record { tag = tag.Image dest; environment = within_cell env; start = 0 } in
    run-image look inside (event.End (end_of (tag.Image dest)) ∷ events_then rest es) (begun ∷ elements) env_in spacing builder (plain_span [] ∷ []) lines
    (place_inside place (tag.Image dest)).in_link (good-inside place (tag.Image dest) inside rest g)
    ∙ ap (λ (some : Bool). run look (events_then rest es) (cond some (cell_state elements env spacing (with_spans builder shown) lines)
    (record (cell_state elements env spacing builder lines) { pieces = plain_span [] ∷ description }))) (has-place [] description (plain_span []))
    ∙ run-flat look rest es elements env spacing (with_spans builder shown) lines in_link (good-behind place (tag.Image dest) inside rest g)
    ∙ ap (λ (b : BuilderView). run look es (cell_state elements env spacing b lines))
    (sym (with_spans-append builder shown (flat look (within_cell env) rest)))
run-flat look (Branch t inside rest) es elements env spacing builder lines in_link g =
    let place = among_inlines in_link in
    let env_in = environment_inside look.sheet env t Empty in
    let first = flat look (within_cell env_in) inside in
    let behind = flat_behind look.sheet t in
    let begun : Begun = record { tag = t; environment = within_cell env; start = 0 } in
    run-flat look inside (event.End (end_of t) ∷ events_then rest es) (begun ∷ elements) env_in spacing builder lines
    (place_inside place t).in_link (good-inside place t inside rest g)
    ∙ run-flat look rest es elements env spacing (with_spans (with_spans builder first) behind) lines in_link (good-behind place t inside rest g)
    ∙ ap (λ (b : BuilderView). run look es (cell_state elements env spacing b lines))
    (join3 builder first behind (flat look (within_cell env) rest))
