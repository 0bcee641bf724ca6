-- The lines of a list, item by item.
use Rattle.std.proofs.Common.{List, [], ◌∷◌, length, drop, get_or, ◌≡◌, ◌≤◌, ◌<◌, ◌+◌, ◌==◌, ℕ, zero, suc, refl, sym, ap, ◌∙◌, arith, true, false, Bool, cond, Option, Some, None}
use Rattle.std.proofs.lemmas.List.{drop_more}
use Rattle.std.proofs.Math.ListN.{drop_of_length-le}
use Rattle.md_lines.specs.Lines.{LineText, is_empty}
use Rattle.md_rules.specs.Code.{if_more}
use Rattle.md_rules.specs.Items.{item_more, marker_of}
use Rattle.md_rules.specs.Lists.{list_more, marker_at, next_item, of_kind, with_item}
use Rattle.md_rules.specs.Starts.{block_start}
use Rattle.md_rules.specs.declared.start.Items.TheVariants.{All}
use Rattle.md_rules.proofs.StartLemmas.{start-item}
use Rattle.md_rules.specs.declared.item.Marker.{Marker}
use Rattle.md_rules.proofs.Slices.{drop-drop}
use Rattle.md_rules.proofs.CodeLemmas.{with_taken, with_taken-empty}

of_kind-marker : (kind : ℕ) (found : Option Marker) (m : Marker) → of_kind kind found ≡ Some m → found ≡ Some m
of_kind-marker kind None m h = cc
of_kind-marker kind (Some x) m h = go (x.kind == kind) h
  where
    go : (v : Bool) → cond v (Some x) None ≡ Some m → Some x ≡ Some m
    go true h = h
    go false h = cc

-- an item of a list is an item
pub next_item-marker : (kind : ℕ) (line : LineText) (m : Marker) → next_item kind line ≡ Some m → marker_of line ≡ Some m
next_item-marker kind line m h = start-item true All line [] m (of_kind-marker kind (marker_at (block_start true All line [])) m h)

-- the lines of the item before come first
pub list_more-skip : (kind n : ℕ) (lines : List LineText) → n ≤ length lines → list_more kind n lines ≡ n + list_more kind 0 (drop n lines)
unfolding list_more
list_more-skip kind zero lines le = omega arith
list_more-skip kind (suc n) [] le = absurd (omega arith)
list_more-skip kind (suc n) (line ∷ later) le = let h = list_more-skip kind n later (omega arith) in omega arith

list_more-empty : (kind : ℕ) (line : LineText) (later : List LineText) → is_empty line ≡ true → list_more kind 0 (line ∷ later) ≡ if_more (list_more kind 0 later)
unfolding list_more
list_more-empty kind line later e = rw e refl

list_more-item : (kind : ℕ) (line : LineText) (later : List LineText) (m : Marker) → is_empty line ≡ false → next_item kind line ≡ Some m → list_more kind 0 (line ∷ later) ≡ suc (list_more kind (item_more m line later) later)
unfolding list_more
list_more-item kind line later m e f = rw e (ap (λ x. with_item x (λ marker. list_more kind (item_more marker line later) later)) f)

list_more-none : (kind : ℕ) (line : LineText) (later : List LineText) → is_empty line ≡ false → next_item kind line ≡ None → list_more kind 0 (line ∷ later) ≡ 0
unfolding list_more
list_more-none kind line later e f = rw e (ap (λ x. with_item x (λ marker. list_more kind (item_more marker line later) later)) f)

-- an empty line is passed over
pub empty-step : (kind : ℕ) (lines : List LineText) (taken at : ℕ) (d : LineText) (all : ℕ) → at < length lines → is_empty (get_or lines at d) ≡ true → with_taken taken at (list_more kind 0 (drop at lines)) ≡ all → with_taken taken (at + 1) (list_more kind 0 (drop (at + 1) lines)) ≡ all
empty-step kind lines taken at d all lt e h =
    let here : list_more kind 0 (drop at lines) ≡ if_more (list_more kind 0 (drop (at + 1) lines)) = ap (list_more kind 0) (drop_more lines at d lt) ∙ list_more-empty kind (get_or lines at d) (drop (at + 1) lines) e in
    sym (with_taken-empty taken at (list_more kind 0 (drop (at + 1) lines))) ∙ (ap (with_taken taken at) (sym here) ∙ h)

pub with_taken-same : (at n : ℕ) → with_taken at at n ≡ at + n
with_taken-same at zero = omega arith
with_taken-same at (suc n) = refl

pub list-start : (kind own : ℕ) (lines : List LineText) → own ≤ length lines → with_taken own own (list_more kind 0 (drop own lines)) ≡ list_more kind own lines
list-start kind own lines le = with_taken-same own (list_more kind 0 (drop own lines)) ∙ sym (list_more-skip kind own lines le)

pub with_taken-item : (taken at m n : ℕ) → with_taken taken at (suc (m + n)) ≡ with_taken (at + 1 + m) (at + 1 + m) n
with_taken-item taken at m n = let h = with_taken-same (at + 1 + m) n in omega arith

-- an item is taken with its further lines
pub item-step : (kind : ℕ) (lines later : List LineText) (taken at own : ℕ) (line : LineText) (m : Marker) (all : ℕ) → at < length lines → line ≡ get_or lines at line → later ≡ drop (at + 1) lines → is_empty line ≡ false → next_item kind line ≡ Some m → own ≡ item_more m line later → own ≤ length later → with_taken taken at (list_more kind 0 (drop at lines)) ≡ all → with_taken (at + 1 + own) (at + 1 + own) (list_more kind 0 (drop (at + 1 + own) lines)) ≡ all
item-step kind lines later taken at own line m all lt e l f g o le h =
    let here : drop at lines ≡ line ∷ later = drop_more lines at line lt ∙ (ap (λ x. x ∷ drop (at + 1) lines) (sym e) ∙ ap (λ x. line ∷ x) (sym l)) in
    let count : list_more kind 0 (drop at lines) ≡ suc (own + list_more kind 0 (drop own later)) = ap (list_more kind 0) here ∙ (list_more-item kind line later m f g ∙ (ap (λ n. suc (list_more kind n later)) (sym o) ∙ ap suc (list_more-skip kind own later le))) in
    let rest : drop (at + 1 + own) lines ≡ drop own later = drop-drop own (at + 1) lines ∙ ap (drop own) (sym l) in
    ap (λ x. with_taken (at + 1 + own) (at + 1 + own) (list_more kind 0 x)) rest
    ∙ (sym (with_taken-item taken at own (list_more kind 0 (drop own later))) ∙ (ap (with_taken taken at) (sym count) ∙ h))

pub other-stop : (kind : ℕ) (lines : List LineText) (taken at : ℕ) (d : LineText) (all : ℕ) → at < length lines → is_empty (get_or lines at d) ≡ false → next_item kind (get_or lines at d) ≡ None → with_taken taken at (list_more kind 0 (drop at lines)) ≡ all → taken ≡ all
other-stop kind lines taken at d all lt e f h =
    let here : list_more kind 0 (drop at lines) ≡ 0 = ap (list_more kind 0) (drop_more lines at d lt) ∙ list_more-none kind (get_or lines at d) (drop (at + 1) lines) e f in
    ap (with_taken taken at) (sym here) ∙ h

pub end-stop : (kind : ℕ) (lines : List LineText) (taken at : ℕ) (all : ℕ) → length lines ≤ at → with_taken taken at (list_more kind 0 (drop at lines)) ≡ all → taken ≡ all
unfolding list_more
end-stop kind lines taken at all le h =
    let none : drop at lines ≡ [] = drop_of_length-le lines le in
    ap (λ x. with_taken taken at (list_more kind 0 x)) (sym none) ∙ h
