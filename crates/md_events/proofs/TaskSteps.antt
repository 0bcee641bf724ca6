-- The task mark of an item among its blocks.
use Rattle.std.proofs.Common.{List, [], ◌∷◌, ◌++◌, drop, take, ◌≡◌, ◌+◌, ℕ, suc, refl, sym, ap, ◌∙◌, arith, Bool, true, false, cond, map, subst, append_assoc, Some, None}
use Rattle.std.specs.Bool.{⊤}
use Rattle.md_tree.specs.declared.event.Event.{Event}
use Rattle.md_tree.specs.declared.event.Event.TheVariants as event
use Rattle.md_tree.specs.declared.event.Tag.TheVariants as tag
use Rattle.md_tree.specs.Tree.{Nodes, Empty, Leaf, Branch, events}
use Rattle.md_lines.specs.Lines.{LineText, body_of, is_empty}
use Rattle.md_inline.specs.Inlines.{inlines}
use Rattle.md_rules.specs.declared.start.BlockStart.{BlockStart}
use Rattle.md_rules.specs.declared.start.BlockStart.TheVariants as start
use Rattle.md_rules.specs.declared.start.Items.TheVariants.{All}
use Rattle.md_rules.specs.Starts.{block_start}
use Rattle.md_events.specs.Node.{node_then}
use Rattle.md_events.specs.Containers.{mark_then, with_task}
use Rattle.md_events.specs.Blocks.{block_by, blocks, paragraph_more}
use Rattle.md_events.specs.Written.{empty_front, front_paragraph, lines_by, marked, nests, reader}
use Rattle.md_events.proofs.Steps.{branch-turn, blocks-block, blocks-empty, blocks-none}

-- the empty lines in front make no block
pub front-blocks : (n : ℕ) (tight : Bool) (lines : List LineText) → blocks n tight (drop (empty_front lines) lines) ≡ blocks n tight lines
front-blocks n tight [] = refl
front-blocks n tight (line ∷ later) = go (is_empty line) refl (front-blocks n tight later)
  where
    go : (v : Bool) → is_empty line ≡ v → blocks n tight (drop (empty_front later) later) ≡ blocks n tight later → blocks n tight (drop (cond v (1 + empty_front later) 0) (line ∷ later)) ≡ blocks n tight (line ∷ later)
    go true e more = let one : 1 + empty_front later ≡ suc (empty_front later) = omega arith in ap (λ k. blocks n tight (drop k (line ∷ later))) one ∙ (more ∙ sym (blocks-empty n tight line later e))
    go false e more = refl

-- the first line is not empty, if there is one
abbrev pub FirstIsText : List LineText → Type 0
FirstIsText [] = ⊤
FirstIsText (line ∷ later) = is_empty line ≡ false

pub front-text : (lines : List LineText) → FirstIsText (drop (empty_front lines) lines)
front-text [] = tt
front-text (line ∷ later) = go (is_empty line) refl (front-text later)
  where
    go : (v : Bool) → is_empty line ≡ v → FirstIsText (drop (empty_front later) later) → FirstIsText (drop (cond v (1 + empty_front later) 0) (line ∷ later))
    go true e more = let one : 1 + empty_front later ≡ suc (empty_front later) = omega arith in subst (λ (k : ℕ). FirstIsText (drop k (line ∷ later))) (sym one) more
    go false e more = e

-- a mark before blocks that begin with no paragraph
mark-before : (n : ℕ) (done : Bool) (line : LineText) (later : List LineText) (s : BlockStart) (rest : Nodes) → lines_by (nests n) later s ≡ None → mark_then done (node_then false (block_by (nests n) (reader n) line later s).node rest) ≡ Leaf (event.TaskListMarker done) (node_then false (block_by (nests n) (reader n) line later s).node rest)
mark-before n done line later start.Code rest e = refl
mark-before n done line later (start.Fence fence) rest e = refl
mark-before n done line later start.ThematicBreak rest e = refl
mark-before n done line later (start.Heading level) rest e = refl
mark-before n done line later start.Quote rest e = refl
mark-before n done line later (start.Footnote label) rest e = refl
mark-before n done line later (start.Item marker) rest e = refl
mark-before n done line later (start.Html end) rest e = refl
mark-before n done line later start.Table rest e = refl
mark-before n done line later start.Definitions rest e = refl
mark-before n done line later start.Paragraph rest e = cc

pub task-none : (n : ℕ) (tight done : Bool) (lines : List LineText) → FirstIsText lines → front_paragraph tight (nests n) lines ≡ None → with_task tight (Some done) (blocks n tight lines) ≡ Leaf (event.TaskListMarker done) (blocks n tight lines)
task-none n true done lines text e = refl
task-none n false done [] text e = ap (mark_then done) (blocks-none n false) ∙ ap (Leaf (event.TaskListMarker done)) (sym (blocks-none n false))
task-none n false done (line ∷ later) text e =
    let found = blocks-block n false line later text in
    ap (mark_then done) found ∙ (mark-before n done line later (block_start (nests n) All line later) _ e ∙ ap (Leaf (event.TaskListMarker done)) (sym found))

mark-inside : (n : ℕ) (done : Bool) (line : LineText) (later : List LineText) (s : BlockStart) (k : ℕ) → lines_by (nests n) later s ≡ Some k → mark_then done (node_then false (block_by (nests n) (reader n) line later s).node (blocks n false (drop (block_by (nests n) (reader n) line later s).more later))) ≡ Branch tag.Paragraph (marked (Some done) (inlines (map body_of (take k (line ∷ later))))) (blocks n false (drop k (line ∷ later)))
mark-inside n done line later start.Code k e = cc
mark-inside n done line later (start.Fence fence) k e = cc
mark-inside n done line later start.ThematicBreak k e = cc
mark-inside n done line later (start.Heading level) k e = cc
mark-inside n done line later start.Quote k e = cc
mark-inside n done line later (start.Footnote label) k e = cc
mark-inside n done line later (start.Item marker) k e = cc
mark-inside n done line later (start.Html end) k e = cc
mark-inside n done line later start.Table k e = cc
mark-inside n done line later start.Definitions k e = cc
mark-inside n done line later start.Paragraph k e =
    let same : k ≡ suc (paragraph_more (nests n) later) = let counted : paragraph_more (nests n) later + 1 ≡ k = cc in omega (arith, counted) in
    ap (λ m. Branch tag.Paragraph (marked (Some done) (inlines (map body_of (take m (line ∷ later))))) (blocks n false (drop m (line ∷ later)))) (sym same)

pub task-some : (n : ℕ) (tight done : Bool) (lines : List LineText) (k : ℕ) → FirstIsText lines → front_paragraph tight (nests n) lines ≡ Some k → with_task tight (Some done) (blocks n tight lines) ≡ Branch tag.Paragraph (marked (Some done) (inlines (map body_of (take k lines)))) (blocks n tight (drop k lines))
task-some n true done lines k text e = cc
task-some n false done [] k text e = cc
task-some n false done (line ∷ later) k text e =
    ap (mark_then done) (blocks-block n false line later text) ∙ mark-inside n done line later (block_start (nests n) All line later) k e

-- a mark in the paragraph that the blocks begin with
pub marked-blocks : (n : ℕ) (tight done : Bool) (lines front rest : List LineText) (k : ℕ) (old new : List Event) → front ≡ drop (empty_front lines) lines → front_paragraph tight (nests n) front ≡ Some k → rest ≡ drop k front → new ≡ old ++ events (Branch tag.Paragraph (marked (Some done) (inlines (map body_of (take k front)))) Empty) → new ++ events (blocks n tight rest) ≡ old ++ events (with_task tight (Some done) (blocks n tight lines))
marked-blocks n tight done lines front rest k old new f e r w =
    let text : FirstIsText front = subst FirstIsText (sym f) (front-text lines) in
    let here : blocks n tight lines ≡ blocks n tight front = sym (front-blocks n tight lines) ∙ ap (blocks n tight) (sym f) in
    let whole = ap (with_task tight (Some done)) here ∙ task-some n tight done front k text e in
    ap (λ x. new ++ events (blocks n tight x)) r
    ∙ branch-turn tag.Paragraph (marked (Some done) (inlines (map body_of (take k front)))) (blocks n tight (drop k front)) (old ++ events (with_task tight (Some done) (blocks n tight lines))) old new w (ap (λ x. old ++ events x) (sym whole))

-- a mark before the blocks
pub mark-first : (n : ℕ) (tight done : Bool) (lines front : List LineText) (old new : List Event) → front ≡ drop (empty_front lines) lines → front_paragraph tight (nests n) front ≡ None → new ≡ old ++ event.TaskListMarker done ∷ [] → new ++ events (blocks n tight front) ≡ old ++ events (with_task tight (Some done) (blocks n tight lines))
mark-first n tight done lines front old new f e w =
    let text : FirstIsText front = subst FirstIsText (sym f) (front-text lines) in
    let here : blocks n tight lines ≡ blocks n tight front = sym (front-blocks n tight lines) ∙ ap (blocks n tight) (sym f) in
    let whole = ap (with_task tight (Some done)) here ∙ task-none n tight done front text e in
    ap (λ x. x ++ events (blocks n tight front)) w
    ∙ (append_assoc old (event.TaskListMarker done ∷ []) (events (blocks n tight front)) ∙ ap (λ x. old ++ events x) (sym whole))
