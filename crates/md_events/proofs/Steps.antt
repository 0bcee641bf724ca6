-- Blocks after the first lines, and what the writers of blocks keep.
use Rattle.std.proofs.Common.{List, [], ◌∷◌, ◌++◌, length, drop, take, get_or, ◌≡◌, ◌≤◌, ◌<◌, ◌+◌, ◌-◌, ℕ, zero, suc, refl, sym, ap, ◌∙◌, arith, Bool, true, false, append_assoc, append-nil, Option, Some, None}
use Rattle.std.proofs.lemmas.List.{drop_more}
use Rattle.std.proofs.Math.ListN.{drop_of_length-le}
use Rattle.md_tree.specs.declared.event.Event.{Event}
use Rattle.md_tree.specs.declared.event.Event.TheVariants.{Start, End}
use Rattle.md_tree.specs.declared.event.Tag.{Tag}
use Rattle.md_tree.specs.declared.event.Tag.TheVariants.{Paragraph}
use Rattle.md_tree.specs.declared.event.TagEnd.{TagEnd}
use Rattle.md_tree.specs.Tree.{Nodes, Empty, Branch, end_of, events, events_then}
use Rattle.md_tree.proofs.Nodes.{events-nodes_then, events_then-events, nodes_then-empty}
use Rattle.md_lines.specs.Lines.{LineText, is_empty}
use Rattle.md_rules.proofs.Slices.{drop-drop, slice-rest}
use Rattle.md_events.specs.Node.{Node, Single, Element, Run, node_then, block_events}
use Rattle.md_events.specs.Blocks.{blocks_after, blocks}
use Rattle.md_events.specs.Written.{first_block, marked, nests, reader}

-- the blocks of lines, by how the lines of containers are read
blocks-reader : (n : ℕ) (tight : Bool) (lines : List LineText) → blocks n tight lines ≡ blocks_after (nests n) (reader n) tight 0 lines
unfolding blocks
blocks-reader zero tight lines = refl
blocks-reader (suc n) tight lines = refl

pub blocks-none : (n : ℕ) (tight : Bool) → blocks n tight [] ≡ Empty
unfolding blocks_after
blocks-none n tight = blocks-reader n tight []

-- an empty line is passed over
pub blocks-empty : (n : ℕ) (tight : Bool) (line : LineText) (later : List LineText) → is_empty line ≡ true → blocks n tight (line ∷ later) ≡ blocks n tight later
unfolding blocks_after
blocks-empty n tight line later e = blocks-reader n tight (line ∷ later) ∙ rw e (sym (blocks-reader n tight later))

blocks_after-skip : (nests : Bool) (read : Bool → List LineText → Nodes) (tight : Bool) (n : ℕ) (lines : List LineText) → blocks_after nests read tight n lines ≡ blocks_after nests read tight 0 (drop n lines)
unfolding blocks_after
blocks_after-skip nests read tight zero lines = refl
blocks_after-skip nests read tight (suc n) [] = refl
blocks_after-skip nests read tight (suc n) (line ∷ later) = blocks_after-skip nests read tight n later

-- at a nonempty line there is a block, and the others follow it
pub blocks-block : (n : ℕ) (tight : Bool) (line : LineText) (later : List LineText) → is_empty line ≡ false → blocks n tight (line ∷ later) ≡ node_then tight (first_block n (line ∷ later)).node (blocks n tight (drop (first_block n (line ∷ later)).more later))
unfolding blocks_after
blocks-block n tight line later e =
    let more : ℕ = (first_block n (line ∷ later)).more in
    blocks-reader n tight (line ∷ later)
    ∙ rw e (ap (node_then tight (first_block n (line ∷ later)).node) (blocks_after-skip (nests n) (reader n) tight more later ∙ sym (blocks-reader n tight (drop more later))))

-- the events of a node and then others
events-node_then : (tight : Bool) (node : Node) (rest : Nodes) → events (node_then tight node rest) ≡ events (node_then tight node Empty) ++ events rest
events-node_then tight (Single e) rest = refl
events-node_then tight (Element t inside) rest = events_then-events (Branch t inside Empty) (events rest)
events-node_then true (Run inside) rest = events-nodes_then inside rest ∙ ap (λ t. events t ++ events rest) (sym (nodes_then-empty inside))
events-node_then false (Run inside) rest = events_then-events (Branch Paragraph inside Empty) (events rest)

-- an element written by its start, its inside and its end
pub element-written : (t : Tag) (e : TagEnd) (inside : Nodes) (old new : List Event) → e ≡ end_of t → new ≡ ((old ++ Start t ∷ []) ++ events inside) ++ End e ∷ [] → new ≡ old ++ events (Branch t inside Empty)
element-written t e inside old new same w =
    let whole : events_then inside (End (end_of t) ∷ []) ≡ events inside ++ End (end_of t) ∷ [] = events_then-events inside (End (end_of t) ∷ []) in
    w ∙ rw same (simp append_assoc (ap (λ x. old ++ Start t ∷ x) (sym whole)))

-- a mark stands before the inlines
pub events-marked : (mark : Option Bool) (inside : Nodes) → events (marked mark inside) ≡ events (marked mark Empty) ++ events inside
events-marked None inside = refl
events-marked (Some done) inside = refl

-- one element more is written of several
pub branch-turn : (t : Tag) (inside rest : Nodes) (old out new : List Event) → new ≡ out ++ events (Branch t inside Empty) → out ++ events (Branch t inside rest) ≡ old → new ++ events rest ≡ old
branch-turn t inside rest old out new w h =
    let parts : events (Branch t inside rest) ≡ events (Branch t inside Empty) ++ events rest = events_then-events (Branch t inside Empty) (events rest) in
    ap (λ x. x ++ events rest) w ∙ (append_assoc out (events (Branch t inside Empty)) (events rest) ∙ (ap (λ x. out ++ x) (sym parts) ∙ h))

-- one turn of the writer of blocks at an empty line
pub empty-turn : (n : ℕ) (tight : Bool) (lines : List LineText) (at : ℕ) (d : LineText) (old out : List Event) → at < length lines → is_empty (get_or lines at d) ≡ true → out ++ events (blocks n tight (drop at lines)) ≡ old → out ++ events (blocks n tight (drop (at + 1) lines)) ≡ old
empty-turn n tight lines at d old out lt e h =
    ap (λ x. out ++ events x) (sym (ap (blocks n tight) (drop_more lines at d lt) ∙ blocks-empty n tight (get_or lines at d) (drop (at + 1) lines) e)) ∙ h

block-turn-at : (n : ℕ) (tight : Bool) (line : LineText) (rest behind : List LineText) (old out new : List Event) → is_empty line ≡ false → new ≡ out ++ block_events tight (first_block n (line ∷ rest)) → behind ≡ drop (first_block n (line ∷ rest)).more rest → out ++ events (blocks n tight (line ∷ rest)) ≡ old → new ++ events (blocks n tight behind) ≡ old
block-turn-at n tight line rest behind old out new e w y h =
    let node : Node = (first_block n (line ∷ rest)).node in
    let more : Nodes = blocks n tight (drop (first_block n (line ∷ rest)).more rest) in
    let parts : events (blocks n tight (line ∷ rest)) ≡ events (node_then tight node Empty) ++ events more = ap events (blocks-block n tight line rest e) ∙ events-node_then tight node more in
    ap (λ x. x ++ events (blocks n tight behind)) w ∙ (ap (λ x. (out ++ events (node_then tight node Empty)) ++ events (blocks n tight x)) y ∙ (append_assoc out (events (node_then tight node Empty)) (events more) ∙ (ap (λ x. out ++ x) (sym parts) ∙ h)))

-- one turn at a block
pub block-turn : (n : ℕ) (tight : Bool) (lines : List LineText) (at k : ℕ) (d : LineText) (old out new : List Event) → at < length lines → is_empty (get_or lines at d) ≡ false → new ≡ out ++ block_events tight (first_block n (take (length lines - at) (drop at lines))) → k ≡ (first_block n (take (length lines - at) (drop at lines))).more → out ++ events (blocks n tight (drop at lines)) ≡ old → new ++ events (blocks n tight (drop (at + (1 + k)) lines)) ≡ old
block-turn n tight lines at k d old out new lt e w c h =
    let line : LineText = get_or lines at d in
    let rest : List LineText = drop (at + 1) lines in
    let s : take (length lines - at) (drop at lines) ≡ line ∷ rest = slice-rest at lines ∙ drop_more lines at d lt in
    let more : ℕ = (first_block n (line ∷ rest)).more in
    let count : k ≡ more = c ∙ ap (λ x. (first_block n x).more) s in
    let place : at + (1 + k) ≡ (at + 1) + more = omega (arith, count) in
    let y : drop (at + (1 + k)) lines ≡ drop more rest = ap (λ x. drop x lines) place ∙ drop-drop more (at + 1) lines in
    block-turn-at n tight line rest (drop (at + (1 + k)) lines) old out new e (w ∙ ap (λ x. out ++ block_events tight (first_block n x)) s) y (ap (λ x. out ++ events (blocks n tight x)) (sym (drop_more lines at d lt)) ∙ h)

pub blocks-end : (n : ℕ) (tight : Bool) (lines : List LineText) (at : ℕ) (old out : List Event) → length lines ≤ at → out ++ events (blocks n tight (drop at lines)) ≡ old → out ≡ old
blocks-end n tight lines at old out le h =
    let none : drop at lines ≡ [] = drop_of_length-le lines le in
    sym (append-nil out) ∙ (ap (λ x. out ++ events x) (sym (ap (blocks n tight) none ∙ blocks-none n tight)) ∙ h)
