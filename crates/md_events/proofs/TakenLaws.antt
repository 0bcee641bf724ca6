-- The blocks of lines take all of them.
use Rattle.std.proofs.Common.{List, [], ◌∷◌, ◌++◌, length, drop, take, ◌≡◌, ◌≤◌, ◌+◌, ℕ, zero, suc, refl, sym, ap, subst, ◌∙◌, arith, Bool, true, false, cond, ◌||◌, nat_le, Option, Some, None}
use Rattle.std.proofs.Math.Nat.{min-le_right}
use Rattle.std.proofs.lemmas.List.{length-take-le, take-append-drop}
use Rattle.md_tree.specs.Tree.{Nodes}
use Rattle.md_lines.specs.Lines.{LineText, is_empty}
use Rattle.md_rules.specs.declared.item.Marker.{Marker}
use Rattle.md_rules.specs.declared.start.Items.TheVariants.{All}
use Rattle.md_rules.specs.Code.{hanging, if_more}
use Rattle.md_rules.specs.Fences.{fenced}
use Rattle.md_rules.specs.Html.{ends_before, ends_with, html_more, html_rest}
use Rattle.md_rules.specs.declared.html.HtmlEnd.{HtmlEnd}
use Rattle.md_rules.specs.Items.{item_more}
use Rattle.md_rules.specs.declared.entry.Entry.{Entry}
use Rattle.md_rules.specs.declared.entry.Entry.TheVariants.{Title, Description}
use Rattle.md_rules.specs.Entries.{entries_more, entry_more, next_entry, with_entry}
use Rattle.md_rules.specs.Lists.{list_more, next_item, with_item}
use Rattle.md_rules.specs.Rows.{is_row, row_count}
use Rattle.md_rules.specs.Starts.{interrupts}
use Rattle.md_rules.specs.Tables.{starts_table}
use Rattle.md_rules.proofs.StartLemmas.{each-start}
use Rattle.md_events.specs.Node.{node_then}
use Rattle.md_events.specs.Blocks.{block, block_by, blocks_after, paragraph_more}
use Rattle.md_events.specs.Taken.{TakesAll, Over, Passed, Taken}
use Rattle.md_events.proofs.ContainerSteps.{quoted-within}
use Rattle.md_events.proofs.TableSteps.{starts-some}

if_more-within : (n m : ℕ) → n ≤ m → if_more n ≤ suc m
if_more-within zero m le = omega arith
if_more-within (suc n) m le = omega arith

hanging-within : (column : ℕ) (lines : List LineText) → hanging column lines ≤ length lines
unfolding hanging
hanging-within column [] = omega arith
hanging-within column (line ∷ lines) = go (is_empty line) (nat_le column line.indent) (hanging-within column lines)
  where
    go : (e d : Bool) → hanging column lines ≤ length lines → cond e (if_more (hanging column lines)) (cond d (suc (hanging column lines)) 0) ≤ suc (length lines)
    go true d le = if_more-within (hanging column lines) (length lines) le
    go false true le = omega arith
    go false false le = omega arith

entry_more-within : (entry : Entry) (line : LineText) (later : List LineText) → entry_more entry line later ≤ length later
entry_more-within Title line later = omega arith
entry_more-within Description line later = hanging-within _ later

list_more-within : (kind n : ℕ) (lines : List LineText) → n ≤ length lines → list_more kind n lines ≤ length lines
unfolding list_more
list_more-within kind n [] le = omega arith
list_more-within kind (suc n) (line ∷ later) le = let more = list_more-within kind n later (omega arith) in omega (arith, more)
list_more-within kind zero (line ∷ later) le = go (is_empty line) (next_item kind line) (list_more-within kind 0 later (omega arith)) (λ m. list_more-within kind (item_more m line later) later (hanging-within _ later))
  where
    go : (e : Bool) (found : Option Marker) → list_more kind 0 later ≤ length later → ((m : Marker) → list_more kind (item_more m line later) later ≤ length later) → cond e (if_more (list_more kind 0 later)) (with_item found (λ marker. list_more kind (item_more marker line later) later)) ≤ suc (length later)
    go true found none some = if_more-within (list_more kind 0 later) (length later) none
    go false None none some = omega arith
    go false (Some m) none some = let more = some m in omega (arith, more)

entries_more-within : (n : ℕ) (lines : List LineText) → n ≤ length lines → entries_more n lines ≤ length lines
unfolding entries_more
entries_more-within n [] le = omega arith
entries_more-within (suc n) (line ∷ later) le = let more = entries_more-within n later (omega arith) in omega (arith, more)
entries_more-within zero (line ∷ later) le = go (is_empty line) (next_entry line later) (entries_more-within 0 later (omega arith)) (λ e. entries_more-within (entry_more e line later) later (entry_more-within e line later))
  where
    go : (e : Bool) (found : Option Entry) → entries_more 0 later ≤ length later → ((entry : Entry) → entries_more (entry_more entry line later) later ≤ length later) → cond e (if_more (entries_more 0 later)) (with_entry found (λ entry. entries_more (entry_more entry line later) later)) ≤ suc (length later)
    go true found none some = if_more-within (entries_more 0 later) (length later) none
    go false None none some = omega arith
    go false (Some e) none some = let more = some e in omega (arith, more)

row_count-within : (nests : Bool) (lines : List LineText) → row_count nests lines ≤ length lines
unfolding row_count
row_count-within nests [] = omega arith
row_count-within nests (line ∷ lines) = go (is_row nests line) (row_count-within nests lines)
  where
    go : (v : Bool) → row_count nests lines ≤ length lines → cond v (suc (row_count nests lines)) 0 ≤ suc (length lines)
    go true le = omega arith
    go false le = omega arith

paragraph_more-within : (nests : Bool) (lines : List LineText) → paragraph_more nests lines ≤ length lines
unfolding paragraph_more
paragraph_more-within nests [] = omega arith
paragraph_more-within nests (line ∷ lines) = go (is_empty line || interrupts nests line lines) (paragraph_more-within nests lines)
  where
    go : (v : Bool) → paragraph_more nests lines ≤ length lines → cond v 0 (suc (paragraph_more nests lines)) ≤ suc (length lines)
    go true le = omega arith
    go false le = omega arith

html_rest-within : (end : HtmlEnd) (lines : List LineText) → html_rest end lines ≤ length lines
unfolding html_rest
html_rest-within end [] = omega arith
html_rest-within end (line ∷ lines) = go (ends_before end line) (ends_with end line) (html_rest-within end lines)
  where
    go : (v w : Bool) → html_rest end lines ≤ length lines → cond v 0 (cond w 1 (suc (html_rest end lines))) ≤ suc (length lines)
    go true w le = omega arith
    go false true le = omega arith
    go false false le = omega arith

html_more-within : (end : HtmlEnd) (line : LineText) (later : List LineText) → html_more end line later ≤ length later
html_more-within end line later = go (ends_with end line) (html_rest-within end later)
  where
    go : (v : Bool) → html_rest end later ≤ length later → cond v 0 (html_rest end later) ≤ length later
    go true le = omega arith
    go false le = le

table-within : (nests : Bool) (line : LineText) (later : List LineText) → starts_table line later ≡ true → suc (row_count nests (drop 1 later)) ≤ length later
table-within nests line [] e = let some = starts-some line [] e in absurd (omega (arith, some))
table-within nests line (next ∷ rest) e = let rows = row_count-within nests rest in omega (arith, rows)

-- a block takes lines that are there
pub block-within : (nests : Bool) (read : Bool → List LineText → Nodes) (line : LineText) (later : List LineText) → (block nests read line later).more ≤ length later
block-within nests read line later =
    each-start (λ s. (block_by nests read line later s).more ≤ length later) nests All line later
    (record {
      code = λ e. hanging-within 4 later;
      fence = λ fence c e. min-le_right (fenced fence later + 1) (length later);
      thematic_break = λ c f e. omega arith;
      heading = λ level c f b e. omega arith;
      quote = λ text n q. quoted-within later;
      footnote = λ label text n q e. hanging-within 4 later;
      item = λ marker text n q f e. list_more-within marker.kind (item_more marker line later) later (hanging-within _ later);
      html = λ end text none e. html_more-within end line later;
      table = λ text none w e. table-within nests line later e;
      definitions = λ text none w t e. entries_more-within 0 later (omega arith);
      paragraph = λ text none w t e. paragraph_more-within nests later;
    })

-- one block and those behind it
take-block : (nests : Bool) (read : Bool → List LineText → Nodes) (tight : Bool) (line : LineText) (later : List LineText) (more : ℕ) (nodes : Nodes) → is_empty line ≡ false → more ≡ (block nests read line later).more → more ≤ length later → TakesAll nests read tight (drop more later) nodes → TakesAll nests read tight (line ∷ later) (node_then tight (block nests read line later).node nodes)
take-block nests read tight line later more nodes e m le rest =
    let own : List LineText = take more later in
    let whole : own ++ drop more later ≡ later = take-append-drop more later in
    let count : length own ≡ (block nests read line (own ++ drop more later)).more = length-take-le more later le ∙ (m ∙ ap (λ ls. (block nests read line ls).more) (sym whole)) in
    subst (λ (ls : List LineText). TakesAll nests read tight (line ∷ ls) (node_then tight (block nests read line ls).node nodes)) whole
    (Taken line own (drop more later) nodes e count rest)

pub takes-all : (nests : Bool) (read : Bool → List LineText → Nodes) (tight : Bool) (n : ℕ) (lines : List LineText) → n ≤ length lines → TakesAll nests read tight (drop n lines) (blocks_after nests read tight n lines)
unfolding blocks_after
takes-all nests read tight zero [] le = Over
takes-all nests read tight (suc n) [] le = absurd (omega arith)
takes-all nests read tight (suc n) (line ∷ later) le = takes-all nests read tight n later (omega arith)
takes-all nests read tight zero (line ∷ later) le =
    go (is_empty line) refl (takes-all nests read tight zero later (omega arith))
    (takes-all nests read tight (block nests read line later).more later (block-within nests read line later))
  where
    go : (v : Bool) → is_empty line ≡ v → TakesAll nests read tight later (blocks_after nests read tight zero later) → TakesAll nests read tight (drop (block nests read line later).more later) (blocks_after nests read tight (block nests read line later).more later) → TakesAll nests read tight (line ∷ later) (cond v (blocks_after nests read tight zero later) (node_then tight (block nests read line later).node (blocks_after nests read tight (block nests read line later).more later)))
    go true e passed taken = Passed line later _ e passed
    go false e passed taken = take-block nests read tight line later (block nests read line later).more _ e refl (block-within nests read line later) taken

pub all-taken : (nests : Bool) (read : Bool → List LineText → Nodes) (tight : Bool) (lines : List LineText) → TakesAll nests read tight lines (blocks_after nests read tight 0 lines)
all-taken nests read tight lines = takes-all nests read tight 0 lines (omega arith)
