use Rattle.std.proofs.Common.{◌≡◌, ◌∙◌, List, Option, Some, None, Bool, true, is_some, refl, ap, sym}
use Rattle.std.specs.Option.{option_map}
use Rattle.term_text.specs.Text.{LineView}
use Rattle.md_tree.specs.declared.event.Event.{Event}
use Rattle.md_tree.specs.Tree.{Nodes}
use Rattle.md_tree.specs.Parse.{tree_of}
use Rattle.md_tree.proofs.Trees.{events-tree_of}
use Rattle.md_text.specs.Look.{Look, look_of}
use Rattle.md_text.specs.Layout.{document_lines}
use Rattle.md_text.specs.State.{run, first_state}
use Rattle.md_text.proofs.Runs.{run-events}
use Rattle.md_text.proofs.render.from_events.Goals as goal

-- what the machine lays out are the lines of the tree that has the events
tree_laid : (look : Look) (es : List Event) (o : Option Nodes) (lines : List LineView) → tree_of es ≡ o → is_some o ≡ true
    → lines ≡ (run look es first_state).lines → Some lines ≡ option_map (document_lines look) o
tree_laid look es None lines e some l = absurd (cc)
tree_laid look es (Some t) lines e some l =
    let of = events-tree_of es t e in
    ap Some (l ∙ ap (λ (es : List Event). (run look es first_state).lines) (sym of.1) ∙ run-events look t of.0)

pub returns-clause-lines : goal.returns-clause-lines
returns-clause-lines g c =
    let look = look_of c.args.options.now g.S.StyleSheet.sheet (g.H.Highlighter.known c.args.highlighter.now) (g.H.Highlighter.answer c.args.highlighter.now) in
    tree_laid look c.args.events.now (tree_of c.args.events.now) c.in_ok-text.text refl
    (sym c.in_ok-well_formed.ensures ∙ c.if-not-branch.false) c.in_ok-text.ensures
