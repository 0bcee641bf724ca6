-- What stands in a block of code is kept as its content.
use Rattle.std.proofs.Common.{◌≡◌, ℕ, List, ◌++◌, true, false, ap, sym, ◌∙◌, append_assoc}
use Rattle.std.proofs.lemmas.List.{append-nil}
use Rattle.term_text.specs.Text.{LineView}
use Rattle.md_tree.specs.declared.event.Event.{Event}
use Rattle.md_tree.specs.declared.event.Event.TheVariants as event
use Rattle.md_tree.specs.declared.event.Tag.{Tag}
use Rattle.md_tree.specs.declared.event.Tag.TheVariants as tag
use Rattle.md_tree.specs.declared.place.Holds.{Holds}
use Rattle.md_tree.specs.declared.place.Holds.TheVariants as level
use Rattle.md_tree.proofs.Nodes.{and_left, and_right}
use Rattle.md_tree.specs.Tree.{Nodes, Empty, Leaf, Branch, events_then}
use Rattle.md_tree.specs.Good.{good_at, holds_inlines, may_stand, level_of}
use Rattle.md_text.specs.declared.environment.Environment.{Environment}
use Rattle.md_text.specs.declared.environment.Spacing.{Spacing}
use Rattle.md_text.specs.Look.{Look}
use Rattle.md_text.specs.Texts.{leaf_text, texts}
use Rattle.md_text.specs.State.{Begun, run}
use Rattle.md_text.proofs.GoodNodes.{good-behind_leaf, good-tag}
use Rattle.md_text.proofs.States.{code_state}

-- no element stands in a block of code, and none in one of HTML
pub element-in-code : (t : Tag) → may_stand (level_of level.CodeTexts) t ≡ true → ⊥
element-in-code tag.Paragraph g = cc
element-in-code t g = cc

pub element-in-html : (t : Tag) → may_stand (level_of level.HtmlTexts) t ≡ true → ⊥
element-in-html tag.Paragraph g = cc
element-in-html t g = cc

-- a run over the texts where no element stands keeps them as content
pub run-texts : (h : Holds) → ((t : Tag) → may_stand (level_of h) t ≡ true → ⊥) → (look : Look) (t : Nodes) (es : List Event) (elements : List Begun) (env : Environment) (spacing : Spacing) (content : List ℕ) (lines : List LineView) →
    good_at (level_of h) t ≡ true →
    run look (events_then t es) (code_state elements env spacing content lines)
    ≡ run look es (code_state elements env spacing (content ++ texts t) lines)
run-texts h none look Empty es elements env spacing content lines g =
    ap (λ (c : List ℕ). run look es (code_state elements env spacing c lines)) (sym (append-nil content))
run-texts h none look (Leaf (event.Start t) rest) es elements env spacing content lines g = cc
run-texts h none look (Leaf (event.End e) rest) es elements env spacing content lines g = cc
run-texts h none look (Leaf (event.TaskListMarker is_done) rest) es elements env spacing content lines g =
    let may : false ≡ true = and_right (holds_inlines h) false (and_left _ _ g) in cc
run-texts h none look (Leaf e rest) es elements env spacing content lines g =
    run-texts h none look rest es elements env spacing (content ++ leaf_text e) lines (good-behind_leaf (level_of h) e rest g)
    ∙ ap (λ (c : List ℕ). run look es (code_state elements env spacing c lines)) (append_assoc content (leaf_text e) (texts rest))
run-texts h none look (Branch t inside rest) es elements env spacing content lines g = absurd (none t (good-tag (level_of h) t inside rest g))
