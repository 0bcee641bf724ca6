-- A run over the inlines in an image adds their pieces to its own.
use Rattle.std.proofs.Common.{◌≡◌, ℕ, zero, suc, ◌+◌, List, [], ◌∷◌, ◌++◌, Bool, true, false, nat_lt, cond, drop, length, take, refl, ap, sym, ◌∙◌, append_assoc, arith}
use Rattle.std.proofs.lemmas.Bool.Decides.{nat_tests}
use Rattle.std.proofs.lemmas.List.{append-nil, length-append}
use Rattle.std.proofs.Math.Seq.{drop-append-add, take-append_seam}
use Rattle.term_text.specs.Text.{SpanView, LineView}
use Rattle.md_tree.specs.declared.event.Event.{Event}
use Rattle.md_tree.specs.declared.event.Event.TheVariants as event
use Rattle.md_tree.specs.declared.event.Tag.{Tag}
use Rattle.md_tree.specs.declared.event.Tag.TheVariants as tag
use Rattle.md_tree.specs.Tree.{Nodes, Empty, Leaf, Branch, events_then, end_of}
use Rattle.md_tree.specs.Good.{good_at, place_inside, among_inlines}
use Rattle.md_table.specs.Builder.{BuilderView}
use Rattle.md_text.specs.declared.environment.Environment.{Environment}
use Rattle.md_text.specs.declared.environment.Spacing.{Spacing}
use Rattle.md_text.specs.declared.environment.Within.TheVariants.{Image}
use Rattle.md_text.specs.Marks.{plain_span}
use Rattle.md_text.specs.Look.{Look}
use Rattle.md_text.specs.Environment.{environment_inside}
use Rattle.md_text.specs.Flat.{flat_leaf, flat_behind, flat, image_in}
use Rattle.md_text.specs.State.{Begun, State, ended_within, image_put, run}
use Rattle.md_text.proofs.States.{within_image, image_state}
use Rattle.md_text.proofs.GoodNodes.{good-behind_leaf, good-inside, good-behind}

-- the pieces behind some others and a place
pub behind-place : (before description : List SpanView) (place : SpanView) → drop (length before + 1) ((before ++ place ∷ []) ++ description) ≡ description
behind-place before description place =
    ap (drop (length before + 1)) (append_assoc before (place ∷ []) description) ∙ drop-append-add before (place ∷ description) 1

pub before-place : (before description : List SpanView) (place : SpanView) → take (length before) ((before ++ place ∷ []) ++ description) ≡ before
before-place before description place =
    ap (take (length before)) (append_assoc before (place ∷ []) description) ∙ take-append_seam before (place ∷ description)

pub has-place : (before description : List SpanView) (place : SpanView) → nat_lt (length before) (length ((before ++ place ∷ []) ++ description)) ≡ true
has-place before description place =
    let more : length ((before ++ place ∷ []) ++ description) ≡ length before + 1 + length description =
    length-append (before ++ place ∷ []) description ∙ ap (λ n. n + length description) (length-append before (place ∷ [])) in
    grind (arith, nat_tests, more)

-- behind the inlines in an element: a link's destination
end-image : (look : Look) (t : Tag) (elements : List Begun) (env : Environment) (spacing : Spacing) (builder : BuilderView) (held : List SpanView) (lines : List LineView) →
    ended_within Image look (image_state elements env spacing builder held lines) t
    ≡ image_state elements env spacing builder (held ++ flat_behind look.sheet t) lines
end-image look (tag.Link dest) elements env spacing builder held lines = refl
end-image look t elements env spacing builder held lines =
    ap (λ (z : List SpanView). image_state elements env spacing builder z lines) (sym (append-nil held))

three : (a b c d : List SpanView) → ((a ++ b) ++ c) ++ d ≡ a ++ ((b ++ c) ++ d)
three a b c d = simp append_assoc

pub run-image : (look : Look) (t : Nodes) (es : List Event) (elements : List Begun) (env : Environment) (spacing : Spacing) (builder : BuilderView) (pieces : List SpanView) (lines : List LineView) (in_link : Bool) →
    good_at (among_inlines in_link) t ≡ true →
    run look (events_then t es) (image_state elements env spacing builder pieces lines)
    ≡ run look es (image_state elements env spacing builder (pieces ++ flat look (within_image env) t) lines)
run-image look Empty es elements env spacing builder pieces lines in_link g =
    ap (λ (z : List SpanView). run look es (image_state elements env spacing builder z lines)) (sym (append-nil pieces))
run-image look (Leaf (event.Start t) rest) es elements env spacing builder pieces lines in_link g = cc
run-image look (Leaf (event.End e) rest) es elements env spacing builder pieces lines in_link g = cc
run-image look (Leaf (event.TaskListMarker is_done) rest) es elements env spacing builder pieces lines in_link g = cc
run-image look (Leaf e rest) es elements env spacing builder pieces lines in_link g =
    let first = flat_leaf look.sheet (within_image env) e in
    run-image look rest es elements env spacing builder (pieces ++ first) lines in_link (good-behind_leaf (among_inlines in_link) e rest g)
    ∙ ap (λ (z : List SpanView). run look es (image_state elements env spacing builder z lines)) (append_assoc pieces first (flat look (within_image env) rest))
run-image look (Branch tag.Paragraph inside rest) es elements env spacing builder pieces lines in_link g = cc
run-image look (Branch (tag.Heading level id classes attrs) inside rest) es elements env spacing builder pieces lines in_link g = cc
run-image look (Branch (tag.BlockQuote kind) inside rest) es elements env spacing builder pieces lines in_link g = cc
run-image look (Branch (tag.CodeBlock kind) inside rest) es elements env spacing builder pieces lines in_link g = cc
run-image look (Branch tag.HtmlBlock inside rest) es elements env spacing builder pieces lines in_link g = cc
run-image look (Branch (tag.List start) inside rest) es elements env spacing builder pieces lines in_link g = cc
run-image look (Branch tag.Item inside rest) es elements env spacing builder pieces lines in_link g = cc
run-image look (Branch (tag.FootnoteDefinition label) inside rest) es elements env spacing builder pieces lines in_link g = cc
run-image look (Branch tag.DefinitionList inside rest) es elements env spacing builder pieces lines in_link g = cc
run-image look (Branch tag.DefinitionListTitle inside rest) es elements env spacing builder pieces lines in_link g = cc
run-image look (Branch tag.DefinitionListDefinition inside rest) es elements env spacing builder pieces lines in_link g = cc
run-image look (Branch (tag.Table alignments) inside rest) es elements env spacing builder pieces lines in_link g = cc
run-image look (Branch tag.TableHead inside rest) es elements env spacing builder pieces lines in_link g = cc
run-image look (Branch tag.TableRow inside rest) es elements env spacing builder pieces lines in_link g = cc
run-image look (Branch tag.TableCell inside rest) es elements env spacing builder pieces lines in_link g = cc
run-image look (Branch tag.MetadataBlock inside rest) es elements env spacing builder pieces lines in_link g = cc
run-image look (Branch (tag.Image dest) inside rest) es elements env spacing builder pieces lines in_link g =
    let place = among_inlines in_link in
    let env_in = environment_inside look.sheet (within_image env) (tag.Image dest) inside in
    let description = flat look env_in inside in
    let shown = image_in look (within_image env) dest description in
    let held = (pieces ++ plain_span [] ∷ []) ++ description in
    let begun : Begun = record { tag = tag.Image dest; environment = within_image env; start = length pieces } in
    run-image look inside (event.End (end_of (tag.Image dest)) ∷ events_then rest es) (begun ∷ elements) env_in spacing builder (pieces ++ plain_span [] ∷ []) lines
    (place_inside place (tag.Image dest)).in_link (good-inside place (tag.Image dest) inside rest g)
    ∙ ap (λ (some : Bool). run look (events_then rest es) (cond some
    (image_put (within_image env).within (record (image_state elements env spacing builder held lines) { pieces = take (length pieces) held })
    (image_in look (within_image env) dest (drop (length pieces + 1) held)))
    (image_state elements env spacing builder held lines))) (has-place pieces description (plain_span []))
    ∙ ap (λ (z : List SpanView). run look (events_then rest es) (image_state elements env spacing builder (z ++ image_in look (within_image env) dest (drop (length pieces + 1) held)) lines))
    (before-place pieces description (plain_span []))
    ∙ ap (λ (z : List SpanView). run look (events_then rest es) (image_state elements env spacing builder (pieces ++ image_in look (within_image env) dest z) lines))
    (behind-place pieces description (plain_span []))
    ∙ run-image look rest es elements env spacing builder (pieces ++ shown) lines in_link (good-behind place (tag.Image dest) inside rest g)
    ∙ ap (λ (z : List SpanView). run look es (image_state elements env spacing builder z lines)) (append_assoc pieces shown (flat look (within_image env) rest))
run-image look (Branch t inside rest) es elements env spacing builder pieces lines in_link g =
    let place = among_inlines in_link in
    let env_in = environment_inside look.sheet env t Empty in
    let first = flat look (within_image env_in) inside in
    let behind = flat_behind look.sheet t in
    let begun : Begun = record { tag = t; environment = within_image env; start = length pieces } in
    run-image look inside (event.End (end_of t) ∷ events_then rest es) (begun ∷ elements) env_in spacing builder pieces lines
    (place_inside place t).in_link (good-inside place t inside rest g)
    ∙ ap (λ (s : State). run look (events_then rest es) s) (end-image look t elements env spacing builder (pieces ++ first) lines)
    ∙ run-image look rest es elements env spacing builder ((pieces ++ first) ++ behind) lines in_link (good-behind place t inside rest g)
    ∙ ap (λ (z : List SpanView). run look es (image_state elements env spacing builder z lines))
    (three pieces first behind (flat look (within_image env) rest))
