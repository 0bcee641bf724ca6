-- What the writers of quotes, footnote definitions, lists and items keep.
use Rattle.std.proofs.Common.{List, [], ◌∷◌, ◌++◌, length, drop, take, get_or, ◌≡◌, ◌≤◌, ◌<◌, ◌+◌, ◌-◌, ℕ, zero, suc, refl, sym, ap, ◌∙◌, arith, Bool, true, false, cond, not, Option, Some, None, append-nil}
use Rattle.std.specs.Option.{is_some}
use Rattle.std.proofs.lemmas.Bool.{false≢true}
use Rattle.std.proofs.lemmas.List.{drop_more}
use Rattle.std.proofs.Math.ListN.{drop_of_length-le}
use Rattle.md_tree.specs.declared.event.BlockQuoteKind.{BlockQuoteKind}
use Rattle.md_tree.specs.declared.event.Event.{Event}
use Rattle.md_tree.specs.declared.event.Event.TheVariants.{Start, End}
use Rattle.md_tree.specs.declared.event.Tag.TheVariants as tag
use Rattle.md_tree.specs.declared.event.TagEnd.TheVariants as end
use Rattle.md_tree.specs.Tree.{Nodes, Empty, Branch, events, has_number}
use Rattle.md_lines.specs.Lines.{LineText, is_empty}
use Rattle.md_rules.specs.declared.item.Marker.{Marker}
use Rattle.md_rules.specs.Quotes.{first_alert, quoted, quotes, unquoted, without_kind}
use Rattle.md_rules.specs.Footnotes.{footnote_lines, footnote_more}
use Rattle.md_rules.specs.Items.{item_column, item_line, item_lines, item_more, task_of}
use Rattle.md_rules.specs.Lists.{is_loose, next_item}
use Rattle.md_rules.proofs.Slices.{drop-drop}
use Rattle.md_events.specs.Node.{block_events}
use Rattle.md_events.specs.Containers.{footnote, in_item, inside_quote, item_then, items, list_lines, with_task}
use Rattle.md_events.specs.Blocks.{blocks}
use Rattle.md_events.specs.Written.{begins_quote, first_list, first_marker, first_quote}
use Rattle.md_events.proofs.Steps.{branch-turn, element-written}

pub quote-written : (n : ℕ) (lines inner rest : List LineText) (kind : Option BlockQuoteKind) (old new : List Event) → begins_quote lines ≡ true → inner ≡ quoted lines → kind ≡ first_alert inner → rest ≡ without_kind kind inner → new ≡ ((old ++ Start (tag.BlockQuote kind) ∷ []) ++ events (blocks n false rest)) ++ End (end.BlockQuote kind) ∷ [] → new ≡ old ++ block_events false (first_quote n lines)
quote-written n [] inner rest kind old new b e k r w = absurd (false≢true b)
quote-written n (line ∷ later) inner rest kind old new b e k r w =
    element-written (tag.BlockQuote kind) (end.BlockQuote kind) (blocks n false rest) old new refl w
    ∙ (ap (λ ls. old ++ events (Branch (tag.BlockQuote kind) (blocks n false ls) Empty)) r
    ∙ (ap (λ x. old ++ events (Branch (tag.BlockQuote x) (blocks n false (without_kind x inner)) Empty)) k
    ∙ ap (λ ls. old ++ events (Branch (tag.BlockQuote (first_alert ls)) (blocks n false (inside_quote ls)) Empty)) e))

-- a quote takes its first line
pub quote-lines : (n : ℕ) (lines inner : List LineText) → begins_quote lines ≡ true → inner ≡ quoted lines → length inner ≡ (first_quote n lines).more + 1
unfolding quoted
quote-lines n [] inner b e = absurd (false≢true b)
quote-lines n (line ∷ later) inner b e =
    ap length (e ∙ ap (λ v. cond v (unquoted line ∷ quoted later) []) b) ∙ (omega arith)

pub quoted-within : (lines : List LineText) → length (quoted lines) ≤ length lines
unfolding quoted
quoted-within [] = omega arith
quoted-within (line ∷ later) = go (quotes line) (quoted-within later)
  where
    go : (v : Bool) → length (quoted later) ≤ length later → length (cond v (unquoted line ∷ quoted later) []) ≤ length (line ∷ later)
    go true le = omega arith
    go false le = omega arith

pub quote-within : (n : ℕ) (lines inner : List LineText) → begins_quote lines ≡ true → inner ≡ quoted lines → length inner - 1 < length lines
quote-within n lines inner b e = omega (arith, ap length e, quoted-within lines, quote-lines n lines inner b e)

pub footnote-written : (n : ℕ) (label : List ℕ) (line : LineText) (later inside : List LineText) (more : ℕ) (old new : List Event) → more ≡ footnote_more later → inside ≡ footnote_lines label line (take more later) → new ≡ ((old ++ Start (tag.FootnoteDefinition label) ∷ []) ++ events (blocks n false inside)) ++ End end.FootnoteDefinition ∷ [] → new ≡ old ++ block_events false (footnote (blocks n) label line later)
footnote-written n label line later inside more old new m i w =
    element-written (tag.FootnoteDefinition label) end.FootnoteDefinition (blocks n false inside) old new refl w
    ∙ ap (λ ls. old ++ events (Branch (tag.FootnoteDefinition label) (blocks n false ls) Empty)) (i ∙ ap (λ k. footnote_lines label line (take k later)) m)

is_some-number : (number : Option ℕ) → is_some number ≡ has_number number
is_some-number None = refl
is_some-number (Some n) = refl

pub list-written : (n : ℕ) (marker : Marker) (lines later : List LineText) (first : LineText) (more : ℕ) (tight numbered : Bool) (old new : List Event) → 0 < length lines → later ≡ drop 1 lines → first ≡ get_or lines 0 first → more ≡ list_lines marker first later → tight ≡ not (is_loose (take more later)) → numbered ≡ is_some marker.number → new ≡ ((old ++ Start (tag.List marker.number) ∷ []) ++ events (items (blocks n) tight marker.kind 0 lines)) ++ End (end.List numbered) ∷ [] → new ≡ old ++ block_events false (first_list n marker lines)
list-written n marker [] later first more tight numbered old new lt l f m t k w = absurd (omega arith)
list-written n marker (line ∷ rest) later first more tight numbered old new lt l f m t k w =
    let count : more ≡ list_lines marker line rest = m ∙ (ap (λ x. list_lines marker x later) f ∙ ap (list_lines marker line) l) in
    let loose : tight ≡ not (is_loose (take (list_lines marker line rest) rest)) = t ∙ (ap (λ x. not (is_loose (take x later))) count ∙ ap (λ x. not (is_loose (take (list_lines marker line rest) x))) l) in
    element-written (tag.List marker.number) (end.List numbered) (items (blocks n) tight marker.kind 0 (line ∷ rest)) old new (ap end.List (k ∙ is_some-number marker.number)) w
    ∙ ap (λ x. old ++ events (Branch (tag.List marker.number) (items (blocks n) x marker.kind 0 (line ∷ rest)) Empty)) loose

-- an item stands on a line
pub first_marker-some : (lines : List LineText) (marker : Marker) → first_marker lines ≡ Some marker → 0 < length lines
first_marker-some [] marker e = cc
first_marker-some (line ∷ later) marker e = omega arith

items-skip : (read : Bool → List LineText → Nodes) (tight : Bool) (kind n : ℕ) (lines : List LineText) → items read tight kind n lines ≡ items read tight kind 0 (drop n lines)
unfolding items
items-skip read tight kind zero lines = refl
items-skip read tight kind (suc n) [] = refl
items-skip read tight kind (suc n) (line ∷ later) = items-skip read tight kind n later

items-empty : (read : Bool → List LineText → Nodes) (tight : Bool) (kind : ℕ) (line : LineText) (later : List LineText) → is_empty line ≡ true → items read tight kind 0 (line ∷ later) ≡ items read tight kind 0 later
unfolding items
items-empty read tight kind line later e = rw e refl

items-item : (read : Bool → List LineText → Nodes) (tight : Bool) (kind : ℕ) (line : LineText) (later : List LineText) (marker : Marker) → is_empty line ≡ false → next_item kind line ≡ Some marker → items read tight kind 0 (line ∷ later) ≡ Branch tag.Item (in_item read tight marker line (take (item_more marker line later) later)) (items read tight kind 0 (drop (item_more marker line later) later))
unfolding items
items-item read tight kind line later marker e f =
    rw e
    (ap (λ m. item_then m (λ x. in_item read tight x line (take (item_more x line later) later)) (λ x. items read tight kind (item_more x line later) later)) f
    ∙ ap (Branch tag.Item (in_item read tight marker line (take (item_more marker line later) later))) (items-skip read tight kind (item_more marker line later) later))

items-none : (read : Bool → List LineText → Nodes) (tight : Bool) (kind : ℕ) (line : LineText) (later : List LineText) → is_empty line ≡ false → next_item kind line ≡ None → items read tight kind 0 (line ∷ later) ≡ Empty
unfolding items
items-none read tight kind line later e f =
    rw e (ap (λ m. item_then m (λ x. in_item read tight x line (take (item_more x line later) later)) (λ x. items read tight kind (item_more x line later) later)) f)

-- one turn of the writer of items at an empty line
pub items-empty-turn : (read : Bool → List LineText → Nodes) (tight : Bool) (kind : ℕ) (lines : List LineText) (at : ℕ) (d : LineText) (old out : List Event) → at < length lines → is_empty (get_or lines at d) ≡ true → out ++ events (items read tight kind 0 (drop at lines)) ≡ old → out ++ events (items read tight kind 0 (drop (at + 1) lines)) ≡ old
items-empty-turn read tight kind lines at d old out lt e h =
    ap (λ x. out ++ events x) (sym (ap (items read tight kind 0) (drop_more lines at d lt) ∙ items-empty read tight kind (get_or lines at d) (drop (at + 1) lines) e)) ∙ h

-- and at an item
pub item-turn : (read : Bool → List LineText → Nodes) (tight : Bool) (kind : ℕ) (lines later : List LineText) (at own : ℕ) (line : LineText) (marker : Marker) (old out new : List Event) → at < length lines → line ≡ get_or lines at line → later ≡ drop (at + 1) lines → is_empty line ≡ false → next_item kind line ≡ Some marker → own ≡ item_more marker line later → new ≡ out ++ events (Branch tag.Item (in_item read tight marker line (take own later)) Empty) → out ++ events (items read tight kind 0 (drop at lines)) ≡ old → new ++ events (items read tight kind 0 (drop (at + 1 + own) lines)) ≡ old
item-turn read tight kind lines later at own line marker old out new lt e l f g o w h =
    let item : Nodes = in_item read tight marker line (take own later) in
    let rest : Nodes = items read tight kind 0 (drop own later) in
    let here : drop at lines ≡ line ∷ later = drop_more lines at line lt ∙ (ap (λ x. x ∷ drop (at + 1) lines) (sym e) ∙ ap (λ x. line ∷ x) (sym l)) in
    let found : items read tight kind 0 (drop at lines) ≡ Branch tag.Item item rest = ap (items read tight kind 0) here ∙ (items-item read tight kind line later marker f g ∙ ap (λ n. Branch tag.Item (in_item read tight marker line (take n later)) (items read tight kind 0 (drop n later))) (sym o)) in
    let behind : drop (at + 1 + own) lines ≡ drop own later = drop-drop own (at + 1) lines ∙ ap (drop own) (sym l) in
    ap (λ x. new ++ events (items read tight kind 0 x)) behind ∙ branch-turn tag.Item item rest old out new w (ap (λ x. out ++ events x) (sym found) ∙ h)

pub items-stop : (read : Bool → List LineText → Nodes) (tight : Bool) (kind : ℕ) (lines : List LineText) (at : ℕ) (d : LineText) (old out : List Event) → at < length lines → is_empty (get_or lines at d) ≡ false → next_item kind (get_or lines at d) ≡ None → out ++ events (items read tight kind 0 (drop at lines)) ≡ old → out ≡ old
items-stop read tight kind lines at d old out lt e f h =
    sym (append-nil out) ∙ (ap (λ x. out ++ events x) (sym (ap (items read tight kind 0) (drop_more lines at d lt) ∙ items-none read tight kind (get_or lines at d) (drop (at + 1) lines) e f)) ∙ h)

pub items-end : (read : Bool → List LineText → Nodes) (tight : Bool) (kind : ℕ) (lines : List LineText) (at : ℕ) (old out : List Event) → length lines ≤ at → out ++ events (items read tight kind 0 (drop at lines)) ≡ old → out ≡ old
unfolding items
items-end read tight kind lines at old out le h =
    let none : drop at lines ≡ [] = drop_of_length-le lines le in
    sym (append-nil out) ∙ (ap (λ x. out ++ events (items read tight kind 0 x)) (sym none) ∙ h)

-- what the writer of an item ensures
pub item-written : (read : Bool → List LineText → Nodes) (tight : Bool) (marker : Marker) (line first : LineText) (own inside : List LineText) (task : Option Bool) (column : ℕ) (old new : List Event) → first ≡ item_line marker line → task ≡ task_of first → column ≡ item_column marker line → inside ≡ item_lines column first own → new ≡ ((old ++ Start tag.Item ∷ []) ++ events (with_task tight task (read tight inside))) ++ End end.Item ∷ [] → new ≡ old ++ events (Branch tag.Item (in_item read tight marker line own) Empty)
item-written read tight marker line first own inside task column old new f t c i w =
    let lines : inside ≡ item_lines (item_column marker line) (item_line marker line) own = i ∙ (ap (λ x. item_lines x first own) c ∙ ap (λ x. item_lines (item_column marker line) x own) f) in
    let mark : task ≡ task_of (item_line marker line) = t ∙ ap task_of f in
    let nodes : with_task tight task (read tight inside) ≡ in_item read tight marker line own = ap (λ x. with_task tight x (read tight inside)) mark ∙ ap (λ x. with_task tight (task_of (item_line marker line)) (read tight x)) lines in
    element-written tag.Item end.Item (in_item read tight marker line own) old new refl (w ∙ ap (λ x. ((old ++ Start tag.Item ∷ []) ++ events x) ++ End end.Item ∷ []) nodes)
