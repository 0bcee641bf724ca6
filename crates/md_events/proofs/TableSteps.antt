-- What the writers of tables keep.
use Rattle.std.proofs.Common.{List, [], ◌∷◌, ◌++◌, length, drop, take, get_or, ◌≡◌, ◌≤◌, ◌<◌, ◌+◌, ℕ, refl, sym, ap, ◌∙◌, arith, Bool, true, false, append_assoc, append-nil}
use Rattle.std.proofs.lemmas.Bool.{false≢true}
use Rattle.std.proofs.lemmas.List.{drop_more}
use Rattle.std.proofs.Math.ListN.{drop_of_length-le}
use Rattle.term_text.specs.declared.alignment.Alignment.{Alignment}
use Rattle.md_tree.specs.declared.event.Event.{Event}
use Rattle.md_tree.specs.declared.event.Event.TheVariants.{Start, End}
use Rattle.md_tree.specs.declared.event.Tag.TheVariants as tag
use Rattle.md_tree.specs.declared.event.TagEnd.TheVariants as end
use Rattle.md_tree.specs.Tree.{Nodes, Empty, Branch, events}
use Rattle.md_tree.proofs.Nodes.{events_then-events}
use Rattle.md_lines.specs.Lines.{LineText}
use Rattle.md_inline.specs.Inlines.{inlines}
use Rattle.md_rules.specs.Rows.{row_count}
use Rattle.md_rules.specs.Tables.{alignments, cells, starts_table}
use Rattle.md_events.specs.Node.{block_events}
use Rattle.md_events.specs.Tables.{cell_nodes, row_nodes, sides, table}
use Rattle.md_events.proofs.Steps.{branch-turn, element-written}

-- one cell more is written
pub cell-turn : (texts later : List (List ℕ)) (cell : List ℕ) (old out new : List Event) → texts ≡ cell ∷ later → new ≡ out ++ events (Branch tag.TableCell (inlines (cell ∷ [])) Empty) → out ++ events (cell_nodes texts) ≡ old → new ++ events (cell_nodes later) ≡ old
cell-turn texts later cell old out new e w h =
    branch-turn tag.TableCell (inlines (cell ∷ [])) (cell_nodes later) old out new w (ap (λ x. out ++ events (cell_nodes x)) (sym e) ∙ h)

-- one row more is written
pub row-turn : (lines : List LineText) (at : ℕ) (line : LineText) (old out new : List Event) → at < length lines → line ≡ get_or lines at line → new ≡ out ++ events (Branch tag.TableRow (cell_nodes (cells line)) Empty) → out ++ events (row_nodes (drop at lines)) ≡ old → new ++ events (row_nodes (drop (at + 1) lines)) ≡ old
row-turn lines at line old out new lt e w h =
    let rest : List LineText = drop (at + 1) lines in
    let here : drop at lines ≡ line ∷ rest = drop_more lines at line lt ∙ ap (λ l. l ∷ rest) (sym e) in
    branch-turn tag.TableRow (cell_nodes (cells line)) (row_nodes rest) old out new w (ap (λ x. out ++ events (row_nodes x)) (sym here) ∙ h)

pub rows-end : (lines : List LineText) (at : ℕ) (old out : List Event) → length lines ≤ at → out ++ events (row_nodes (drop at lines)) ≡ old → out ≡ old
rows-end lines at old out le h =
    let none : drop at lines ≡ [] = drop_of_length-le lines le in
    sym (append-nil out) ∙ (ap (λ x. out ++ events (row_nodes x)) (sym none) ∙ h)

-- a table starts before a line
pub starts-some : (line : LineText) (later : List LineText) → starts_table line later ≡ true → 0 < length later
starts-some line [] e = absurd (false≢true e)
starts-some line (next ∷ rest) e = omega arith

pub sides-next : (later : List LineText) (next : LineText) → 0 < length later → next ≡ get_or later 0 next → alignments next ≡ sides later
sides-next [] next lt e = absurd (omega arith)
sides-next (first ∷ rest) next lt e = ap alignments e

-- what the writer of a table ensures
pub table-written : (nests : Bool) (line next : LineText) (later behind taken : List LineText) (columns : List Alignment) (old new : List Event) → 0 < length later → next ≡ get_or later 0 next → behind ≡ drop 1 later → taken ≡ take (row_count nests behind) behind → columns ≡ alignments next → new ≡ (((old ++ Start (tag.Table columns) ∷ []) ++ events (Branch tag.TableHead (cell_nodes (cells line)) Empty)) ++ events (row_nodes taken)) ++ End end.Table ∷ [] → new ≡ old ++ block_events false (table nests line later)
table-written nests line next later behind taken columns old new lt e b r s w =
    let head : Nodes = Branch tag.TableHead (cell_nodes (cells line)) Empty in
    let inside : List LineText → Nodes = λ ls. Branch tag.TableHead (cell_nodes (cells line)) (row_nodes ls) in
    let parts : events (inside taken) ≡ events head ++ events (row_nodes taken) = events_then-events head (events (row_nodes taken)) in
    element-written (tag.Table columns) end.Table (inside taken) old new refl
    (w ∙ ap (λ x. x ++ End end.Table ∷ []) (append_assoc (old ++ Start (tag.Table columns) ∷ []) (events head) (events (row_nodes taken)) ∙ ap (λ x. (old ++ Start (tag.Table columns) ∷ []) ++ x) (sym parts)))
    ∙ (ap (λ x. old ++ events (Branch (tag.Table x) (inside taken) Empty)) (s ∙ sides-next later next lt e)
    ∙ ap (λ x. old ++ events (Branch (tag.Table (sides later)) (inside x) Empty)) (r ∙ ap (λ x. take (row_count nests x) x) b))
