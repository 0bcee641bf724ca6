-- A run over a tree's events draws the tree's layout.
use Rattle.std.proofs.Common.{◌≡◌, ℕ, List, [], ◌∷◌, ◌++◌, Bool, true, false, cond, refl, ap, sym, ◌∙◌}
use Rattle.term_text.specs.Text.{LineView}
use Rattle.md_tree.specs.declared.event.Event.{Event}
use Rattle.md_tree.specs.declared.event.Event.TheVariants as event
use Rattle.md_tree.specs.declared.event.Tag.TheVariants as tag
use Rattle.md_tree.specs.declared.place.Holds.TheVariants as level
use Rattle.md_tree.specs.declared.place.Place.{Place}
use Rattle.md_tree.specs.Tree.{Nodes, Empty, Leaf, Branch, events, events_then, end_of}
use Rattle.md_tree.specs.Good.{good, good_at, place_inside, place_after, place_after_leaf, document_place}
use Rattle.md_text.specs.declared.environment.Environment.{Environment}
use Rattle.md_text.specs.declared.environment.Spacing.{Spacing}
use Rattle.md_text.specs.Marks.{Mark, draws, plain_span}
use Rattle.md_text.specs.Laid.{join_all}
use Rattle.md_text.specs.Look.{Look}
use Rattle.md_text.specs.Environment.{first_environment, first_spacing, environment_inside, environment_after}
use Rattle.md_text.specs.Blocks.{paragraph, enter, leave}
use Rattle.md_text.specs.Inlines.{task_mark, leaf}
use Rattle.md_text.specs.Texts.{texts}
use Rattle.md_text.specs.Code.{code_block}
use Rattle.md_text.specs.Html.{html_block}
use Rattle.md_text.specs.Flat.{flat, image_in}
use Rattle.md_text.specs.Tables.{table, table_of}
use Rattle.md_text.specs.Layout.{layout, document_lines}
use Rattle.md_text.specs.State.{Begun, State, environment_behind, new_builder, run, first_state}
use Rattle.md_text.proofs.States.{within_lines, lines_state}
use Rattle.md_text.proofs.GoodNodes.{good-behind_leaf, good-inside, good-behind}
use Rattle.md_text.proofs.CodeInside.{element-in-code, element-in-html, run-texts}
use Rattle.md_text.proofs.ImageRuns.{has-place, run-image}
use Rattle.md_text.proofs.TableRuns.{run-table}
use Rattle.md_text.proofs.Widths.{ahead, no-task, ahead-none}
use Rattle.md_text.proofs.Draws.{draws-append}

-- the environment behind nodes: a list's next number is told by the items before it
abbrev pub environment_of : Environment → Nodes → Environment
environment_of env Empty = env
environment_of env (Leaf e rest) = environment_of env rest
environment_of env (Branch t inside rest) = environment_of (environment_after env t) rest

-- the state behind nodes
abbrev pub state_behind : Look → List Begun → Environment → Spacing → List LineView → Nodes → State
state_behind look elements env spacing lines t =
    let new = layout look (within_lines env) spacing t in
    lines_state elements (environment_of env t) new.after (draws lines new.marks)

-- behind nodes that begin with no task mark
behind-later : (look : Look) (t : Nodes) (es : List Event) (elements : List Begun) (env : Environment) (spacing : Spacing) (lines : List LineView) (p : Place) →
    p.task_mark ≡ false → good_at p t ≡ true →
    run look es (state_behind look elements (ahead env t) spacing lines t) ≡ run look es (state_behind look elements env spacing lines t)
behind-later look t es elements env spacing lines p m g =
    ap (λ (e : Environment). run look es (state_behind look elements e spacing lines t)) (ahead-none t env (no-task t p m g))

join2 : (look : Look) (es : List Event) (elements : List Begun) (env : Environment) (spacing : Spacing) (lines : List LineView) (a b : List Mark) →
    run look es (lines_state elements env spacing (draws (draws lines a) b)) ≡ run look es (lines_state elements env spacing (draws lines (a ++ b)))
join2 look es elements env spacing lines a b = ap (λ (z : List LineView). run look es (lines_state elements env spacing z)) (sym (draws-append lines a b))

join4 : (look : Look) (es : List Event) (elements : List Begun) (env : Environment) (spacing : Spacing) (lines : List LineView) (a b c d : List Mark) →
    run look es (lines_state elements env spacing (draws (draws (draws (draws lines a) b) c) d)) ≡ run look es (lines_state elements env spacing (draws lines ((a ++ (b ++ c)) ++ d)))
join4 look es elements env spacing lines a b c d = ap (λ (z : List LineView). run look es (lines_state elements env spacing z)) (simp draws-append)

-- items that pass change the number alone, and not the width
width-behind : (t : Nodes) (env : Environment) → (environment_of env t).item_width ≡ env.item_width
width-behind Empty env = refl
width-behind (Leaf e rest) env = width-behind rest env
width-behind (Branch tag.Item inside rest) env = width-behind rest (environment_after env tag.Item)
width-behind (Branch t inside rest) env = width-behind rest env

-- a run over nodes in lines: a task mark ahead is not known yet, and makes the item wider when it comes
pub run-events_then : (look : Look) (t : Nodes) (es : List Event) (elements : List Begun) (env : Environment) (spacing : Spacing) (lines : List LineView) (p : Place) →
    good_at p t ≡ true →
    run look (events_then t es) (lines_state elements env spacing lines) ≡ run look es (state_behind look elements (ahead env t) spacing lines t)
run-events_then look Empty es elements env spacing lines p g = refl
run-events_then look (Leaf (event.Start t) rest) es elements env spacing lines p g = cc
run-events_then look (Leaf (event.End e) rest) es elements env spacing lines p g = cc
run-events_then look (Leaf (event.TaskListMarker is_done) rest) es elements env spacing lines p g =
    let wide = environment_behind env (event.TaskListMarker is_done) in
    let a = task_mark spacing is_done in
    let d = layout look (within_lines wide) spacing rest in
    run-events_then look rest es elements wide spacing (draws lines a.marks) (place_after_leaf p) (good-behind_leaf p (event.TaskListMarker is_done) rest g)
    ∙ behind-later look rest es elements wide spacing (draws lines a.marks) (place_after_leaf p) refl (good-behind_leaf p (event.TaskListMarker is_done) rest g)
    ∙ join2 look es elements (environment_of wide rest) d.after lines a.marks d.marks
run-events_then look (Leaf e rest) es elements env spacing lines p g =
    let a = leaf look.sheet (within_lines env) spacing e in
    let d = layout look (within_lines env) a.after rest in
    run-events_then look rest es elements env a.after (draws lines a.marks) (place_after_leaf p) (good-behind_leaf p e rest g)
    ∙ behind-later look rest es elements env a.after (draws lines a.marks) (place_after_leaf p) refl (good-behind_leaf p e rest g)
    ∙ join2 look es elements (environment_of env rest) d.after lines a.marks d.marks
run-events_then look (Branch tag.Paragraph inside rest) es elements env spacing lines p g =
    let env_in = ahead env inside in
    let a = paragraph (within_lines env) spacing in
    let b = layout look (within_lines env_in) a.after inside in
    let c = leave look.sheet (within_lines env) b.after tag.Paragraph in
    let d = layout look (within_lines env_in) c.after rest in
    let lines_in = draws (draws lines a.marks) b.marks in
    let begun : Begun = record { tag = tag.Paragraph; environment = within_lines env; start = 0 } in
    run-events_then look inside (event.End (end_of tag.Paragraph) ∷ events_then rest es) (begun ∷ elements)
    env a.after (draws lines a.marks) (place_inside p tag.Paragraph) (good-inside p tag.Paragraph inside rest g)
    ∙ ap (λ (width : ℕ). run look (events_then rest es) (lines_state elements (record env { item_width = width }) c.after (draws lines_in c.marks))) (width-behind inside env_in)
    ∙ run-events_then look rest es elements env_in c.after (draws lines_in c.marks) (place_after p tag.Paragraph) (good-behind p tag.Paragraph inside rest g)
    ∙ behind-later look rest es elements env_in c.after (draws lines_in c.marks) (place_after p tag.Paragraph) refl (good-behind p tag.Paragraph inside rest g)
    ∙ join4 look es elements (environment_of env_in rest) d.after lines a.marks b.marks c.marks d.marks
run-events_then look (Branch (tag.CodeBlock kind) inside rest) es elements env spacing lines p g =
    let block = code_block look (within_lines env) spacing kind (texts inside) in
    let d = layout look (within_lines env) block.after rest in
    let begun : Begun = record { tag = tag.CodeBlock kind; environment = within_lines env; start = 0 } in
    run-texts level.CodeTexts element-in-code look inside (event.End (end_of (tag.CodeBlock kind)) ∷ events_then rest es) (begun ∷ elements)
    env spacing [] lines (good-inside p (tag.CodeBlock kind) inside rest g)
    ∙ run-events_then look rest es elements env block.after (draws lines block.marks) (place_after p (tag.CodeBlock kind)) (good-behind p (tag.CodeBlock kind) inside rest g)
    ∙ behind-later look rest es elements env block.after (draws lines block.marks) (place_after p (tag.CodeBlock kind)) refl (good-behind p (tag.CodeBlock kind) inside rest g)
    ∙ join2 look es elements (environment_of env rest) d.after lines block.marks d.marks
run-events_then look (Branch tag.HtmlBlock inside rest) es elements env spacing lines p g =
    let block = html_block look.sheet (within_lines env) spacing (texts inside) in
    let d = layout look (within_lines env) block.after rest in
    let begun : Begun = record { tag = tag.HtmlBlock; environment = within_lines env; start = 0 } in
    run-texts level.HtmlTexts element-in-html look inside (event.End (end_of tag.HtmlBlock) ∷ events_then rest es) (begun ∷ elements)
    env spacing [] lines (good-inside p tag.HtmlBlock inside rest g)
    ∙ run-events_then look rest es elements env block.after (draws lines block.marks) (place_after p tag.HtmlBlock) (good-behind p tag.HtmlBlock inside rest g)
    ∙ behind-later look rest es elements env block.after (draws lines block.marks) (place_after p tag.HtmlBlock) refl (good-behind p tag.HtmlBlock inside rest g)
    ∙ join2 look es elements (environment_of env rest) d.after lines block.marks d.marks
run-events_then look (Branch (tag.Table alignments) inside rest) es elements env spacing lines p g =
    let block = table look (within_lines env) spacing (table_of look (within_lines env) alignments inside) in
    let d = layout look (within_lines env) block.after rest in
    let begun : Begun = record { tag = tag.Table alignments; environment = within_lines env; start = 0 } in
    run-table look inside (event.End (end_of (tag.Table alignments)) ∷ events_then rest es) (begun ∷ elements)
    env spacing alignments lines (good-inside p (tag.Table alignments) inside rest g)
    ∙ run-events_then look rest es elements env block.after (draws lines block.marks) (place_after p (tag.Table alignments)) (good-behind p (tag.Table alignments) inside rest g)
    ∙ behind-later look rest es elements env block.after (draws lines block.marks) (place_after p (tag.Table alignments)) refl (good-behind p (tag.Table alignments) inside rest g)
    ∙ join2 look es elements (environment_of env rest) d.after lines block.marks d.marks
run-events_then look (Branch (tag.Image dest) inside rest) es elements env spacing lines p g =
    let env_in = environment_inside look.sheet (within_lines env) (tag.Image dest) inside in
    let description = flat look env_in inside in
    let block = join_all (within_lines env) spacing (image_in look (within_lines env) dest description) in
    let d = layout look (within_lines env) block.after rest in
    let begun : Begun = record { tag = tag.Image dest; environment = within_lines env; start = 0 } in
    let ends = event.End (end_of (tag.Image dest)) ∷ events_then rest es in
    run-image look inside ends (begun ∷ elements) env_in spacing (new_builder []) (plain_span [] ∷ []) lines (place_inside p (tag.Image dest)).in_link
    (good-inside p (tag.Image dest) inside rest g)
    ∙ ap (λ (some : Bool). run look (events_then rest es) (cond some (lines_state elements env block.after (draws lines block.marks))
    (record (lines_state elements env spacing lines) { pieces = plain_span [] ∷ description }))) (has-place [] description (plain_span []))
    ∙ run-events_then look rest es elements env block.after (draws lines block.marks) (place_after p (tag.Image dest)) (good-behind p (tag.Image dest) inside rest g)
    ∙ behind-later look rest es elements env block.after (draws lines block.marks) (place_after p (tag.Image dest)) refl (good-behind p (tag.Image dest) inside rest g)
    ∙ join2 look es elements (environment_of env rest) d.after lines block.marks d.marks
run-events_then look (Branch tag.Item inside rest) es elements env spacing lines p g =
    let env_in = environment_inside look.sheet env tag.Item inside in
    let env_after = environment_after env tag.Item in
    let a = enter look.sheet (within_lines env) spacing tag.Item in
    let b = layout look (within_lines env_in) a.after inside in
    let d = layout look (within_lines env_after) b.after rest in
    let lines_in = draws (draws lines a.marks) b.marks in
    let begun : Begun = record { tag = tag.Item; environment = within_lines env; start = 0 } in
    run-events_then look inside (event.End (end_of tag.Item) ∷ events_then rest es) (begun ∷ elements)
    (environment_inside look.sheet env tag.Item Empty) a.after (draws lines a.marks) (place_inside p tag.Item) (good-inside p tag.Item inside rest g)
    ∙ run-events_then look rest es elements env_after b.after lines_in (place_after p tag.Item) (good-behind p tag.Item inside rest g)
    ∙ behind-later look rest es elements env_after b.after lines_in (place_after p tag.Item) refl (good-behind p tag.Item inside rest g)
    ∙ join4 look es elements (environment_of env_after rest) d.after lines a.marks b.marks [] d.marks
run-events_then look (Branch t inside rest) es elements env spacing lines p g =
    let env_in = environment_inside look.sheet env t Empty in
    let a = enter look.sheet (within_lines env) spacing t in
    let b = layout look (within_lines env_in) a.after inside in
    let c = leave look.sheet (within_lines env) b.after t in
    let d = layout look (within_lines env) c.after rest in
    let ends = event.End (end_of t) ∷ events_then rest es in
    let begun : Begun = record { tag = t; environment = within_lines env; start = 0 } in
    let lines_in = draws (draws lines a.marks) b.marks in
    run-events_then look inside ends (begun ∷ elements) env_in a.after (draws lines a.marks) (place_inside p t) (good-inside p t inside rest g)
    ∙ behind-later look inside ends (begun ∷ elements) env_in a.after (draws lines a.marks) (place_inside p t) refl (good-inside p t inside rest g)
    ∙ run-events_then look rest es elements env c.after (draws lines_in c.marks) (place_after p t) (good-behind p t inside rest g)
    ∙ behind-later look rest es elements env c.after (draws lines_in c.marks) (place_after p t) refl (good-behind p t inside rest g)
    ∙ join4 look es elements (environment_of env rest) d.after lines a.marks b.marks c.marks d.marks

-- a run over a document's events draws the document's lines
pub run-events : (look : Look) (t : Nodes) → good t ≡ true → (run look (events t) first_state).lines ≡ document_lines look t
run-events look t g =
    ap (λ (state : State). state.lines) (run-events_then look t [] [] first_environment first_spacing [] document_place g
    ∙ behind-later look t [] [] first_environment first_spacing [] document_place refl g)
