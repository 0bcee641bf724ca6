-- The blocks of lines are good.
use Rattle.std.proofs.Common.{List, [], ◌∷◌, ◌≡◌, ◌≤◌, ◌<◌, ◌+◌, ◌-◌, ◌^◌, ◌==◌, length, ℕ, zero, suc, refl, sym, arith, true, false, Bool, cond, not, ◌&&◌, map, drop, take, Option, None, Some}
use Rattle.std.proofs.lemmas.Bool.{eqb-true, false≢true}
use Rattle.md_tree.specs.declared.event.Tag.TheVariants as tag
use Rattle.md_tree.specs.declared.place.Holds.{Holds}
use Rattle.md_tree.specs.declared.place.Holds.TheVariants as level
use Rattle.md_tree.specs.declared.place.Numbers.{Numbers}
use Rattle.md_tree.specs.declared.place.Numbers.TheVariants.{Free, Next, Full}
use Rattle.md_tree.specs.declared.place.Place.{Place}
use Rattle.md_tree.specs.Tree.{Nodes, Empty, Branch}
use Rattle.md_tree.specs.Tree as nodes
use Rattle.md_tree.specs.Good.{good_at, holds_blocks, level_of, numbers_after, numbers_from}
use Rattle.md_tree.proofs.Nodes.{and_both, good_at-level}
use Rattle.md_lines.specs.Lines.{LineText, body_of, is_empty, lines_of}
use Rattle.md_inline.specs.Inlines.{inlines}
use Rattle.md_inline.proofs.GoodInlines.{inlines-good}
use Rattle.md_rules.specs.declared.item.Marker.{Marker}
use Rattle.md_rules.specs.Code.{hanging, text_from}
use Rattle.md_rules.specs.Fences.{fenced}
use Rattle.md_rules.specs.Footnotes.{footnote_label, footnote_lines, footnote_more}
use Rattle.md_rules.specs.Headings.{heading_at}
use Rattle.md_rules.specs.Html.{html_more}
use Rattle.md_rules.specs.Items.{item_column, item_line, item_lines, item_more, marker_of, task_of}
use Rattle.md_rules.specs.Lists.{is_loose, next_item}
use Rattle.md_rules.specs.Quotes.{first_alert, quoted}
use Rattle.md_rules.specs.Tables.{cells}
use Rattle.md_rules.specs.declared.entry.Entry.{Entry}
use Rattle.md_rules.specs.declared.entry.Entry.TheVariants.{Title, Description}
use Rattle.md_rules.specs.Definitions.{description_lines, title_of}
use Rattle.md_rules.specs.Entries.{entry_more, next_entry}
use Rattle.md_rules.proofs.Filled.{filled, filled-description, filled-drop, filled-first, filled-footnote, filled-item, filled-later, filled-lines_of, filled-quoted, filled-take, filled-without_kind}
use Rattle.md_rules.specs.declared.start.Items.TheVariants.{All}
use Rattle.md_rules.proofs.ItemLemmas.{marker-small}
use Rattle.md_rules.proofs.StartLemmas.{each-start, item_start-marker}
use Rattle.md_events.specs.Node.{Node, Run, node_then}
use Rattle.md_events.specs.declared.kept.Kept.{Kept}
use Rattle.md_events.specs.declared.kept.Kept.TheVariants.{Html, Text}
use Rattle.md_events.specs.Kept.{kept_lines, kept_then, leaf_of}
use Rattle.md_events.specs.Containers.{in_item, inside_quote, item_then, items, list_lines}
use Rattle.md_events.specs.Definitions.{entries, entry_tag, entry_then, in_entry, in_title}
use Rattle.md_rules.specs.Metadata.{metadata_in, metadata_lines}
use Rattle.md_events.specs.Metadata.{further_texts, metadata_texts, metadata_then}
use Rattle.md_events.specs.Tables.{cell_nodes, row_nodes, rows}
use Rattle.md_events.specs.Blocks.{block, block_by, blocks, blocks_after, document, paragraph_more, tree}
use Rattle.md_events.proofs.GoodPlaces.{inlines-mixed, with_task-good}

-- the most nonempty lines of a text whose length fits 64 bits
abbrev most : ℕ
most = 2 ^ 63

-- paragraphs are runs of inlines in items alone
abbrev MayRead : Holds → Bool → Type 0
MayRead level.Blocks tight = tight ≡ false
MayRead level.Mixed tight = Unit {0}
MayRead _ tight = ⊥

-- a reader of containers gives good nodes
abbrev ReadsGood : (Bool → List LineText → Nodes) → Type 0
ReadsGood read = (h : Holds) (tight : Bool) → MayRead h tight → (lines : List LineText) → filled lines ≤ most → good_at (level_of h) (read tight lines) ≡ true

-- a node keeps good nodes behind it good
abbrev KeepsGood : Holds → Bool → Node → Type 0
KeepsGood h tight node = (rest : Nodes) → good_at (level_of h) rest ≡ true → good_at (level_of h) (node_then tight node rest) ≡ true

-- what holds lines that are kept so
abbrev holder : Kept → Holds
holder Text = level.CodeTexts
holder Html = level.HtmlTexts

kept_then-good : (k : Kept) (text : List ℕ) (rest : Nodes) → good_at (level_of (holder k)) rest ≡ true → good_at (level_of (holder k)) (kept_then k text rest) ≡ true
kept_then-good k [] rest good = good
kept_then-good Text (b ∷ bs) rest good = good
kept_then-good Html (b ∷ bs) rest good = good

line_end-good : (k : Kept) (rest : Nodes) → good_at (level_of (holder k)) rest ≡ true → good_at (level_of (holder k)) (nodes.Leaf (leaf_of k (10 ∷ [])) rest) ≡ true
line_end-good Text rest good = good
line_end-good Html rest good = good

kept_lines-good : (k : Kept) (column : ℕ) (lines : List LineText) → good_at (level_of (holder k)) (kept_lines k column lines) ≡ true
unfolding kept_lines
kept_lines-good Text column [] = refl
kept_lines-good Html column [] = refl
kept_lines-good k column (line ∷ lines) =
    kept_then-good k (text_from column line) (nodes.Leaf (leaf_of k (10 ∷ [])) (kept_lines k column lines)) (line_end-good k (kept_lines k column lines) (kept_lines-good k column lines))

cell_nodes-good : (texts : List (List ℕ)) → good_at (level_of level.Cells) (cell_nodes texts) ≡ true
cell_nodes-good [] = refl
cell_nodes-good (text ∷ others) = and_both _ _ (inlines-good (text ∷ [])) (cell_nodes-good others)

row_nodes-good : (lines : List LineText) → good_at (level_of level.Rows) (row_nodes lines) ≡ true
row_nodes-good [] = refl
row_nodes-good (line ∷ lines) = and_both _ _ (cell_nodes-good (cells line)) (row_nodes-good lines)

-- the numbers from this one on are enough for so many items
abbrev Fits : Numbers → ℕ → Type 0
Fits Free k = Unit {0}
Fits (Next n) k = n + k ≤ 2 ^ 64
Fits Full k = k ≡ 0

Fits-less : (numbers : Numbers) (k m : ℕ) → m ≤ k → Fits numbers k → Fits numbers m
Fits-less Free k m le fits = tt
Fits-less (Next n) k m le fits = omega arith
Fits-less Full k m le fits = omega arith

Fits-after : (numbers : Numbers) (k : ℕ) → Fits numbers (suc k) → Fits (numbers_after numbers) k
Fits-after Free k fits = tt
Fits-after Full k fits = absurd (omega arith)
Fits-after (Next n) k fits = go (n == 2 ^ 64 - 1) refl
  where
    go : (v : Bool) → (n == 2 ^ 64 - 1) ≡ v → Fits (cond v Full (Next (n + 1))) k
    go true e = let last : n ≡ 2 ^ 64 - 1 = eqb-true n (2 ^ 64 - 1) e in omega arith
    go false e = omega arith

abbrev among_items : Numbers → Place
among_items numbers = record { holds = level.Items; in_link = false; numbers = numbers; task_mark = false }

-- an item before good items
item-good : (numbers : Numbers) (k : ℕ) (inside rest : Nodes) → Fits numbers (suc k) → good_at (record { holds = level.Mixed; in_link = false; numbers = Free; task_mark = true }) inside ≡ true → good_at (among_items (numbers_after numbers)) rest ≡ true → good_at (among_items numbers) (Branch tag.Item inside rest) ≡ true
item-good Free k inside rest fits g h = and_both _ _ g h
item-good (Next n) k inside rest fits g h = and_both _ _ g h
item-good Full k inside rest fits g h = absurd (omega arith)

in_item-good : (read : Bool → List LineText → Nodes) → ReadsGood read → (tight : Bool) (marker : Marker) (line : LineText) (later : List LineText) (n : ℕ) → is_empty line ≡ false → filled (line ∷ later) ≤ most → good_at (record { holds = level.Mixed; in_link = false; numbers = Free; task_mark = true }) (in_item read tight marker line (take n later)) ≡ true
in_item-good read good tight marker line later n e small =
    let lines : List LineText = item_lines (item_column marker line) (item_line marker line) (take n later) in
    let le : filled lines ≤ most = omega (arith, filled-item (item_column marker line) (item_line marker line) (take n later), filled-take n later, filled-first line later e) in
    with_task-good tight (task_of (item_line marker line)) (read tight lines) (good level.Mixed tight tt lines le)

items-good : (read : Bool → List LineText → Nodes) → ReadsGood read → (tight : Bool) (kind n : ℕ) (lines : List LineText) (numbers : Numbers) → Fits numbers (filled lines) → filled lines ≤ most → good_at (among_items numbers) (items read tight kind n lines) ≡ true
unfolding items
items-good read good tight kind n [] numbers fits small = refl
items-good read good tight kind (suc n) (line ∷ later) numbers fits small =
    items-good read good tight kind n later numbers (Fits-less numbers (filled (line ∷ later)) (filled later) (filled-later line later) fits) (omega (arith, filled-later line later))
items-good read good tight kind zero (line ∷ later) numbers fits small =
    go (is_empty line) refl
    (items-good read good tight kind zero later numbers (Fits-less numbers (filled (line ∷ later)) (filled later) (filled-later line later) fits) (omega (arith, filled-later line later)))
    (λ m next fit. items-good read good tight kind m later next fit (omega (arith, filled-later line later)))
  where
    found : Option Marker → Nodes
    found m = item_then m (λ marker. in_item read tight marker line (take (item_more marker line later) later)) (λ marker. items read tight kind (item_more marker line later) later)

    at : (m : Option Marker) → is_empty line ≡ false → ((k : ℕ) (next : Numbers) → Fits next (filled later) → good_at (among_items next) (items read tight kind k later) ≡ true) → good_at (among_items numbers) (found m) ≡ true
    at None e more = refl
    at (Some marker) e more =
        let fit : Fits numbers (suc (filled later)) = Fits-less numbers (filled (line ∷ later)) (suc (filled later)) (omega (arith, filled-first line later e)) fits in
        item-good numbers (filled later) (in_item read tight marker line (take (item_more marker line later) later)) (items read tight kind (item_more marker line later) later) fit
        (in_item-good read good tight marker line later (item_more marker line later) e small)
        (more (item_more marker line later) (numbers_after numbers) (Fits-after numbers (filled later) fit))

    go : (v : Bool) → is_empty line ≡ v → good_at (among_items numbers) (items read tight kind 0 later) ≡ true → ((k : ℕ) (next : Numbers) → Fits next (filled later) → good_at (among_items next) (items read tight kind k later) ≡ true) → good_at (among_items numbers) (cond v (items read tight kind 0 later) (found (next_item kind line))) ≡ true
    go true e passed more = passed
    go false e passed more = at (next_item kind line) e more

in_entry-good : (read : Bool → List LineText → Nodes) → ReadsGood read → (entry : Entry) (line : LineText) (later : List LineText) (n : ℕ) (rest : Nodes) → is_empty line ≡ false → filled (line ∷ later) ≤ most → good_at (level_of level.Entries) rest ≡ true → good_at (level_of level.Entries) (Branch (entry_tag entry) (in_entry read entry line (take n later)) rest) ≡ true
in_entry-good read good Title line later n rest e small g = and_both _ _ (inlines-good ((title_of line).body ∷ [])) g
in_entry-good read good Description line later n rest e small g =
    let lines : List LineText = description_lines line (take n later) in
    let le : filled lines ≤ most = omega (arith, filled-description line (take n later), filled-take n later, filled-first line later e) in
    and_both _ _ (good level.Mixed (not (is_loose (take n later))) tt lines le) g

entries-good : (read : Bool → List LineText → Nodes) → ReadsGood read → (n : ℕ) (lines : List LineText) → filled lines ≤ most → good_at (level_of level.Entries) (entries read n lines) ≡ true
unfolding entries
entries-good read good n [] small = refl
entries-good read good (suc n) (line ∷ later) small = entries-good read good n later (omega (arith, filled-later line later))
entries-good read good zero (line ∷ later) small = go (is_empty line) refl (λ k. entries-good read good k later (omega (arith, filled-later line later)))
  where
    found : Option Entry → Nodes
    found m = entry_then m (λ entry. in_entry read entry line (take (entry_more entry line later) later)) (λ entry. entries read (entry_more entry line later) later)

    at : (m : Option Entry) → is_empty line ≡ false → ((k : ℕ) → good_at (level_of level.Entries) (entries read k later) ≡ true) → good_at (level_of level.Entries) (found m) ≡ true
    at None e more = refl
    at (Some entry) e more = in_entry-good read good entry line later (entry_more entry line later) (entries read (entry_more entry line later) later) e small (more (entry_more entry line later))

    go : (v : Bool) → is_empty line ≡ v → ((k : ℕ) → good_at (level_of level.Entries) (entries read k later) ≡ true) → good_at (level_of level.Entries) (cond v (entries read 0 later) (found (next_entry line later))) ≡ true
    go true e more = more 0
    go false e more = at (next_entry line later) e more

-- a title before good entries
definitions-good : (read : Bool → List LineText → Nodes) → ReadsGood read → (line : LineText) (later : List LineText) → filled (line ∷ later) ≤ most → good_at (level_of level.Entries) (Branch tag.DefinitionListTitle (in_title line) (entries read 0 later)) ≡ true
definitions-good read good line later small =
    and_both _ _ (inlines-good ((title_of line).body ∷ [])) (entries-good read good 0 later (omega (arith, filled-later line later)))

first-fits : (line : LineText) (marker : Marker) (k : ℕ) → marker_of line ≡ Some marker → k ≤ most → Fits (numbers_from marker.number) k
first-fits line marker k e le = go marker.number refl
  where
    go : (number : Option ℕ) → marker.number ≡ number → Fits (numbers_from number) k
    go None f = tt
    go (Some v) f = omega (arith, marker-small line marker v e f)

-- what stands between good nodes
three : (a b c : Bool) → a ≡ true → b ≡ true → c ≡ true → (a && (b && c)) ≡ true
three a b c p q r = rw (p, q, r) refl

run-good : (h : Holds) (tight : Bool) → MayRead h tight → holds_blocks h ≡ true → (bodies : List (List ℕ)) → KeepsGood h tight (Run (inlines bodies))
run-good h false may stands bodies = λ rest good. three (holds_blocks h) _ _ stands (inlines-good bodies) good
run-good level.Mixed true may stands bodies = λ rest good. good_at-level level.Mixed (inlines bodies) rest refl (inlines-mixed (inlines bodies) (inlines-good bodies)) good
run-good level.Blocks true may stands bodies = absurd (false≢true (sym may))
run-good level.Items true may stands bodies = absurd may
run-good level.Entries true may stands bodies = absurd may
run-good level.Head true may stands bodies = absurd may
run-good level.Rows true may stands bodies = absurd may
run-good level.Cells true may stands bodies = absurd may
run-good level.Inlines true may stands bodies = absurd may
run-good level.CodeTexts true may stands bodies = absurd may
run-good level.HtmlTexts true may stands bodies = absurd may
run-good level.MetadataTexts true may stands bodies = absurd may

block-good : (h : Holds) (tight nests : Bool) (read : Bool → List LineText → Nodes) → MayRead h tight → holds_blocks h ≡ true → ReadsGood read → (line : LineText) (later : List LineText) → filled (line ∷ later) ≤ most → KeepsGood h tight (block nests read line later).node
block-good h tight nests read may stands good line later small =
    each-start (λ s. KeepsGood h tight (block_by nests read line later s).node) nests All line later
    (record {
      code = λ e. code 4 (line ∷ take (hanging 4 later) later);
      fence = λ fence c e. code fence.indent (take (fenced fence later) later);
      thematic_break = λ c f e rest g. and_both (holds_blocks h) _ stands g;
      heading = λ level c f b e rest g. three (holds_blocks h) _ _ stands (inlines-good ((heading_at level line).content.body ∷ [])) g;
      quote = λ text n q rest g. three (holds_blocks h) _ _ stands (quote_inside (quoted (line ∷ later)) (omega (arith, filled-quoted (line ∷ later)))) g;
      footnote = λ label text n q e rest g. three (holds_blocks h) _ _ stands (footnote_inside label e) g;
      item = λ marker text n q f e rest g. three (holds_blocks h) _ _ stands
          (items-good read good (not (is_loose (take (list_lines marker line later) later))) marker.kind 0 (line ∷ later) (numbers_from marker.number) (first-fits line marker (filled (line ∷ later)) (item_start-marker All line marker e) small) small) g;
      html = λ end text none e rest g. three (holds_blocks h) _ _ stands (kept_lines-good Html 0 (line ∷ take (html_more end line later) later)) g;
      table = λ text none w e rest g. three (holds_blocks h) _ _ stands (and_both _ _ (cell_nodes-good (cells line)) (row_nodes-good (rows nests later))) g;
      definitions = λ text none w t e rest g. three (holds_blocks h) _ _ stands (definitions-good read good line later small) g;
      paragraph = λ text none w t e. run-good h tight may stands (map body_of (line ∷ take (paragraph_more nests later) later));
    })
  where
    code : (column : ℕ) (lines : List LineText) (rest : Nodes) → good_at (level_of h) rest ≡ true → (holds_blocks h && (good_at (level_of level.CodeTexts) (kept_lines Text column lines) && good_at (level_of h) rest)) ≡ true
    code column lines = λ rest g. three (holds_blocks h) _ _ stands (kept_lines-good Text column lines) g

    footnote_inside : (label : List ℕ) → footnote_label line ≡ Some label → good_at (level_of level.Blocks) (read false (footnote_lines label line (take (footnote_more later) later))) ≡ true
    footnote_inside label e =
        good level.Blocks false refl (footnote_lines label line (take (footnote_more later) later)) (omega (arith, filled-footnote label line (footnote_more later) later e))

    quote_inside : (lines : List LineText) → filled lines ≤ most → good_at (level_of level.Blocks) (read false (inside_quote lines)) ≡ true
    quote_inside lines le = good level.Blocks false refl (inside_quote lines) (omega (arith, filled-without_kind (first_alert lines) lines))

blocks_after-good : (h : Holds) (tight nests : Bool) (read : Bool → List LineText → Nodes) → MayRead h tight → holds_blocks h ≡ true → good_at (level_of h) Empty ≡ true → ReadsGood read → (n : ℕ) (lines : List LineText) → filled lines ≤ most → good_at (level_of h) (blocks_after nests read tight n lines) ≡ true
unfolding blocks_after
blocks_after-good h tight nests read may stands ends good n [] small = ends
blocks_after-good h tight nests read may stands ends good (suc n) (line ∷ later) small =
    blocks_after-good h tight nests read may stands ends good n later (omega (arith, filled-later line later))
blocks_after-good h tight nests read may stands ends good zero (line ∷ later) small =
    let le : filled later ≤ most = omega (arith, filled-later line later) in
    let more : ℕ = (block nests read line later).more in
    let passed = blocks_after-good h tight nests read may stands ends good zero later le in
    let here = block-good h tight nests read may stands good line later small (blocks_after nests read tight more later) (blocks_after-good h tight nests read may stands ends good more later le) in
    elim (is_empty line) as (λ v. good_at (level_of h) (cond v (blocks_after nests read tight zero later) (node_then tight (block nests read line later).node (blocks_after nests read tight more later))) ≡ true) [ true ↦ passed | false ↦ here ]

may-stand : (h : Holds) (tight : Bool) → MayRead h tight → holds_blocks h ≡ true
may-stand level.Blocks tight may = refl
may-stand level.Mixed tight may = refl
may-stand level.Items tight may = absurd may
may-stand level.Entries tight may = absurd may
may-stand level.Head tight may = absurd may
may-stand level.Rows tight may = absurd may
may-stand level.Cells tight may = absurd may
may-stand level.Inlines tight may = absurd may
may-stand level.CodeTexts tight may = absurd may
may-stand level.HtmlTexts tight may = absurd may
may-stand level.MetadataTexts tight may = absurd may

may-end : (h : Holds) (tight : Bool) → MayRead h tight → good_at (level_of h) Empty ≡ true
may-end level.Head tight may = absurd may
may-end h tight may = refl

empty-good : ReadsGood (λ tight lines. Empty)
empty-good = λ h tight may lines small. may-end h tight may

blocks-good : (n : ℕ) → ReadsGood (blocks n)
unfolding blocks
blocks-good zero = λ h tight may lines small. blocks_after-good h tight false (λ t ls. Empty) may (may-stand h tight may) (may-end h tight may) empty-good 0 lines small
blocks-good (suc n) = λ h tight may lines small. blocks_after-good h tight true (λ t ls. blocks n t ls) may (may-stand h tight may) (may-end h tight may) (blocks-good n) 0 lines small

metadata_text-good : (text : List ℕ) (rest : Nodes) → good_at (level_of level.MetadataTexts) rest ≡ true → good_at (level_of level.MetadataTexts) (kept_then Text text rest) ≡ true
metadata_text-good [] rest good = good
metadata_text-good (b ∷ bs) rest good = good

further_texts-good : (lines : List LineText) → good_at (level_of level.MetadataTexts) (further_texts lines) ≡ true
unfolding further_texts
further_texts-good [] = refl
further_texts-good (line ∷ lines) = metadata_text-good (text_from 0 line) (further_texts lines) (further_texts-good lines)

metadata_texts-good : (lines : List LineText) → good_at (level_of level.MetadataTexts) (metadata_texts lines) ≡ true
metadata_texts-good [] = refl
metadata_texts-good (line ∷ lines) = metadata_text-good (text_from 0 line) (further_texts lines) (further_texts-good lines)

metadata_then-good : (m : Option ℕ) (lines : List LineText) (rest : Nodes) → good_at (level_of level.Blocks) rest ≡ true → good_at (level_of level.Blocks) (metadata_then m lines rest) ≡ true
metadata_then-good None lines rest good = good
metadata_then-good (Some n) lines rest good = and_both _ _ (metadata_texts-good (take n (drop 1 lines))) good

document-good : (lines : List LineText) → filled lines ≤ most → good_at (level_of level.Blocks) (document lines) ≡ true
document-good lines small =
    let k : ℕ = metadata_lines (metadata_in lines) in
    metadata_then-good (metadata_in lines) lines (blocks 32 false (drop k lines)) (blocks-good 32 level.Blocks false refl (drop k lines) (omega (arith, filled-drop k lines)))

-- the tree of a text whose length fits 64 bits is good
pub tree-good : (text : List ℕ) → length text < 2 ^ 64 → good_at (level_of level.Blocks) (tree text) ≡ true
tree-good text small = document-good (lines_of text) (omega (arith, filled-lines_of text))
