-- What the writers of definition lists keep.
use Rattle.std.proofs.Common.{List, [], ◌∷◌, ◌++◌, length, drop, take, get_or, ◌≡◌, ◌≤◌, ◌<◌, ◌+◌, ℕ, zero, suc, refl, sym, ap, ◌∙◌, Bool, true, false, not, Some, None, append_assoc, append-nil}
use Rattle.std.proofs.lemmas.List.{drop_more}
use Rattle.std.proofs.Math.ListN.{drop_of_length-le}
use Rattle.md_tree.specs.declared.event.Event.{Event}
use Rattle.md_tree.specs.declared.event.Event.TheVariants.{Start, End}
use Rattle.md_tree.specs.declared.event.Tag.TheVariants as tag
use Rattle.md_tree.specs.declared.event.TagEnd.TheVariants as end
use Rattle.md_tree.specs.Tree.{Nodes, Empty, Branch, events}
use Rattle.md_tree.proofs.Nodes.{events_then-events}
use Rattle.md_lines.specs.Lines.{LineText, is_empty}
use Rattle.md_rules.specs.declared.entry.Entry.{Entry}
use Rattle.md_rules.specs.Definitions.{description_lines}
use Rattle.md_rules.specs.Entries.{entry_more, next_entry}
use Rattle.md_rules.specs.Lists.{is_loose}
use Rattle.md_rules.proofs.Slices.{drop-drop}
use Rattle.md_events.specs.Node.{block_events}
use Rattle.md_events.specs.Blocks.{blocks}
use Rattle.md_events.specs.Definitions.{definitions, entries, entry_tag, entry_then, in_description, in_entry, in_title}
use Rattle.md_events.proofs.Steps.{branch-turn, element-written}

entries-skip : (read : Bool → List LineText → Nodes) (n : ℕ) (lines : List LineText) → entries read n lines ≡ entries read 0 (drop n lines)
unfolding entries
entries-skip read zero lines = refl
entries-skip read (suc n) [] = refl
entries-skip read (suc n) (line ∷ later) = entries-skip read n later

entries-empty : (read : Bool → List LineText → Nodes) (line : LineText) (later : List LineText) → is_empty line ≡ true → entries read 0 (line ∷ later) ≡ entries read 0 later
unfolding entries
entries-empty read line later e = rw e refl

entries-entry : (read : Bool → List LineText → Nodes) (line : LineText) (later : List LineText) (entry : Entry) → is_empty line ≡ false → next_entry line later ≡ Some entry → entries read 0 (line ∷ later) ≡ Branch (entry_tag entry) (in_entry read entry line (take (entry_more entry line later) later)) (entries read 0 (drop (entry_more entry line later) later))
unfolding entries
entries-entry read line later entry e f =
    rw e
    (ap (λ m. entry_then m (λ x. in_entry read x line (take (entry_more x line later) later)) (λ x. entries read (entry_more x line later) later)) f
    ∙ ap (Branch (entry_tag entry) (in_entry read entry line (take (entry_more entry line later) later))) (entries-skip read (entry_more entry line later) later))

entries-none : (read : Bool → List LineText → Nodes) (line : LineText) (later : List LineText) → is_empty line ≡ false → next_entry line later ≡ None → entries read 0 (line ∷ later) ≡ Empty
unfolding entries
entries-none read line later e f =
    rw e (ap (λ m. entry_then m (λ x. in_entry read x line (take (entry_more x line later) later)) (λ x. entries read (entry_more x line later) later)) f)

-- one turn of the writer of entries at an empty line
pub entries-empty-turn : (read : Bool → List LineText → Nodes) (lines : List LineText) (at : ℕ) (d : LineText) (old out : List Event) → at < length lines → is_empty (get_or lines at d) ≡ true → out ++ events (entries read 0 (drop at lines)) ≡ old → out ++ events (entries read 0 (drop (at + 1) lines)) ≡ old
entries-empty-turn read lines at d old out lt e h =
    ap (λ x. out ++ events x) (sym (ap (entries read 0) (drop_more lines at d lt) ∙ entries-empty read (get_or lines at d) (drop (at + 1) lines) e)) ∙ h

-- a line and those behind it
pub line-here : (lines later : List LineText) (at : ℕ) (line : LineText) → at < length lines → line ≡ get_or lines at line → later ≡ drop (at + 1) lines → drop at lines ≡ line ∷ later
line-here lines later at line lt e l = drop_more lines at line lt ∙ (ap (λ x. x ∷ drop (at + 1) lines) (sym e) ∙ ap (λ x. line ∷ x) (sym l))

-- and at an entry
pub entry-turn : (read : Bool → List LineText → Nodes) (lines later : List LineText) (at own : ℕ) (line : LineText) (entry : Entry) (old out new : List Event) → at < length lines → line ≡ get_or lines at line → later ≡ drop (at + 1) lines → is_empty line ≡ false → next_entry line later ≡ Some entry → own ≡ entry_more entry line later → new ≡ out ++ events (Branch (entry_tag entry) (in_entry read entry line (take own later)) Empty) → out ++ events (entries read 0 (drop at lines)) ≡ old → new ++ events (entries read 0 (drop (at + 1 + own) lines)) ≡ old
entry-turn read lines later at own line entry old out new lt e l f g o w h =
    let inside : Nodes = in_entry read entry line (take own later) in
    let rest : Nodes = entries read 0 (drop own later) in
    let found : entries read 0 (drop at lines) ≡ Branch (entry_tag entry) inside rest = ap (entries read 0) (line-here lines later at line lt e l) ∙ (entries-entry read line later entry f g ∙ ap (λ n. Branch (entry_tag entry) (in_entry read entry line (take n later)) (entries read 0 (drop n later))) (sym o)) in
    let behind : drop (at + 1 + own) lines ≡ drop own later = drop-drop own (at + 1) lines ∙ ap (drop own) (sym l) in
    ap (λ x. new ++ events (entries read 0 x)) behind ∙ branch-turn (entry_tag entry) inside rest old out new w (ap (λ x. out ++ events x) (sym found) ∙ h)

pub entries-stop : (read : Bool → List LineText → Nodes) (lines later : List LineText) (at : ℕ) (line : LineText) (old out : List Event) → at < length lines → line ≡ get_or lines at line → later ≡ drop (at + 1) lines → is_empty line ≡ false → next_entry line later ≡ None → out ++ events (entries read 0 (drop at lines)) ≡ old → out ≡ old
entries-stop read lines later at line old out lt e l f g h =
    sym (append-nil out) ∙ (ap (λ x. out ++ events x) (sym (ap (entries read 0) (line-here lines later at line lt e l) ∙ entries-none read line later f g)) ∙ h)

pub entries-end : (read : Bool → List LineText → Nodes) (lines : List LineText) (at : ℕ) (old out : List Event) → length lines ≤ at → out ++ events (entries read 0 (drop at lines)) ≡ old → out ≡ old
unfolding entries
entries-end read lines at old out le h =
    let none : drop at lines ≡ [] = drop_of_length-le lines le in
    sym (append-nil out) ∙ (ap (λ x. out ++ events (entries read 0 x)) (sym none) ∙ h)

-- what the writer of a description ensures
pub description-written : (n : ℕ) (line : LineText) (own inside : List LineText) (tight : Bool) (old new : List Event) → inside ≡ description_lines line own → tight ≡ not (is_loose own) → new ≡ ((old ++ Start tag.DefinitionListDefinition ∷ []) ++ events (blocks n tight inside)) ++ End end.DefinitionListDefinition ∷ [] → new ≡ old ++ events (Branch tag.DefinitionListDefinition (in_description (blocks n) line own) Empty)
description-written n line own inside tight old new i t w =
    let nodes : blocks n tight inside ≡ in_description (blocks n) line own = ap (λ v. blocks n v inside) t ∙ ap (blocks n (not (is_loose own))) i in
    element-written tag.DefinitionListDefinition end.DefinitionListDefinition (in_description (blocks n) line own) old new refl
    (w ∙ ap (λ x. ((old ++ Start tag.DefinitionListDefinition ∷ []) ++ events x) ++ End end.DefinitionListDefinition ∷ []) nodes)

-- and that of a definition list
pub definitions-written : (n : ℕ) (line : LineText) (later : List LineText) (old new : List Event) → new ≡ (((old ++ Start tag.DefinitionList ∷ []) ++ events (Branch tag.DefinitionListTitle (in_title line) Empty)) ++ events (entries (blocks n) 0 later)) ++ End end.DefinitionList ∷ [] → new ≡ old ++ block_events false (definitions (blocks n) line later)
definitions-written n line later old new w =
    let title : Nodes = Branch tag.DefinitionListTitle (in_title line) Empty in
    let others : Nodes = entries (blocks n) 0 later in
    let parts : events (Branch tag.DefinitionListTitle (in_title line) others) ≡ events title ++ events others = events_then-events title (events others) in
    element-written tag.DefinitionList end.DefinitionList (Branch tag.DefinitionListTitle (in_title line) others) old new refl
    (w ∙ ap (λ x. x ++ End end.DefinitionList ∷ []) (append_assoc (old ++ Start tag.DefinitionList ∷ []) (events title) (events others) ∙ ap (λ x. (old ++ Start tag.DefinitionList ∷ []) ++ x) (sym parts)))
