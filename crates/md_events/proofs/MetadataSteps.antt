-- What the writers of metadata keep.
use Rattle.std.proofs.Common.{List, [], ◌∷◌, ◌++◌, length, drop, take, get_or, ◌≡◌, ◌≤◌, ◌<◌, ◌+◌, ℕ, false, refl, sym, ap, ◌∙◌, Option, Some, None, append_assoc, append-nil}
use Rattle.std.proofs.lemmas.List.{drop_more}
use Rattle.std.proofs.Math.ListN.{drop_of_length-le}
use Rattle.md_tree.specs.declared.event.Event.{Event}
use Rattle.md_tree.specs.declared.event.Event.TheVariants as event
use Rattle.md_tree.specs.declared.event.Tag.TheVariants.{MetadataBlock}
use Rattle.md_tree.specs.declared.event.TagEnd.TheVariants as end
use Rattle.md_tree.specs.Tree.{Nodes, Empty, Branch, events}
use Rattle.md_tree.proofs.Nodes.{events_then-events}
use Rattle.md_lines.specs.Lines.{LineText}
use Rattle.md_rules.specs.Code.{text_from}
use Rattle.md_rules.specs.Metadata.{metadata_in, metadata_lines}
use Rattle.md_events.specs.declared.kept.Kept.TheVariants.{Text}
use Rattle.md_events.specs.Kept.{kept_then}
use Rattle.md_events.specs.Blocks.{blocks, document}
use Rattle.md_events.specs.Metadata.{further_texts, metadata_texts, metadata_then}
use Rattle.md_events.proofs.KeptSteps.{events-kept_then}
use Rattle.md_events.proofs.Steps.{element-written}

further-line : (line : LineText) (rest : List LineText) → events (further_texts (line ∷ rest)) ≡ event.SoftBreak ∷ (events (kept_then Text (text_from 0 line) Empty) ++ events (further_texts rest))
unfolding further_texts
further-line line rest = ap (λ x. event.SoftBreak ∷ x) (events-kept_then Text (text_from 0 line) (further_texts rest))

-- one line more is written
pub further-turn : (lines : List LineText) (at : ℕ) (line : LineText) (old out mid new : List Event) → at < length lines → line ≡ get_or lines at line → mid ≡ out ++ event.SoftBreak ∷ [] → new ≡ mid ++ events (kept_then Text (text_from 0 line) Empty) → out ++ events (further_texts (drop at lines)) ≡ old → new ++ events (further_texts (drop (at + 1) lines)) ≡ old
further-turn lines at line old out mid new lt e b w h =
    let rest : List LineText = drop (at + 1) lines in
    let text : List Event = events (kept_then Text (text_from 0 line) Empty) in
    let others : List Event = events (further_texts rest) in
    let here : drop at lines ≡ line ∷ rest = drop_more lines at line lt ∙ ap (λ l. l ∷ rest) (sym e) in
    ap (λ x. x ++ others) (w ∙ ap (λ x. x ++ text) b)
    ∙ (append_assoc (out ++ event.SoftBreak ∷ []) text others
    ∙ (append_assoc out (event.SoftBreak ∷ []) (text ++ others)
    ∙ (ap (λ x. out ++ x) (sym (ap (λ x. events (further_texts x)) here ∙ further-line line rest)) ∙ h)))

pub further-end : (lines : List LineText) (at : ℕ) (old out : List Event) → length lines ≤ at → out ++ events (further_texts (drop at lines)) ≡ old → out ≡ old
unfolding further_texts
further-end lines at old out le h =
    let none : drop at lines ≡ [] = drop_of_length-le lines le in
    sym (append-nil out) ∙ (ap (λ x. out ++ events (further_texts x)) (sym none) ∙ h)

-- the first line of content and the further ones
pub texts-written : (line : LineText) (lines further : List LineText) (old out : List Event) → lines ≡ line ∷ further → out ≡ old ++ events (kept_then Text (text_from 0 line) Empty) → out ++ events (further_texts further) ≡ old ++ events (metadata_texts lines)
texts-written line lines further old out e w =
    ap (λ x. x ++ events (further_texts further)) w
    ∙ (append_assoc old (events (kept_then Text (text_from 0 line) Empty)) (events (further_texts further))
    ∙ ap (λ x. old ++ x) (sym (ap (λ x. events (metadata_texts x)) e ∙ events-kept_then Text (text_from 0 line) (further_texts further))))

-- what the writer of metadata ensures
pub metadata-written : (lines inside : List LineText) (n : ℕ) (old new : List Event) → metadata_in lines ≡ Some n → inside ≡ take n (drop 1 lines) → new ≡ ((old ++ event.Start MetadataBlock ∷ []) ++ events (metadata_texts inside)) ++ event.End end.MetadataBlock ∷ [] → new ≡ old ++ events (metadata_then (metadata_in lines) lines Empty)
metadata-written lines inside n old new e i w =
    element-written MetadataBlock end.MetadataBlock (metadata_texts inside) old new refl w
    ∙ (ap (λ x. old ++ events (Branch MetadataBlock (metadata_texts x) Empty)) i ∙ ap (λ m. old ++ events (metadata_then m lines Empty)) (sym e))

pub no-metadata : (lines : List LineText) (old : List Event) → metadata_in lines ≡ None → old ≡ old ++ events (metadata_then (metadata_in lines) lines Empty)
no-metadata lines old e = sym (append-nil old) ∙ ap (λ m. old ++ events (metadata_then m lines Empty)) (sym e)

events-metadata_then : (m : Option ℕ) (lines : List LineText) (rest : Nodes) → events (metadata_then m lines rest) ≡ events (metadata_then m lines Empty) ++ events rest
events-metadata_then None lines rest = refl
events-metadata_then (Some n) lines rest = events_then-events (Branch MetadataBlock (metadata_texts (take n (drop 1 lines))) Empty) (events rest)

-- and the reader
pub document-written : (lines behind : List LineText) (n : ℕ) (out new : List Event) → n ≡ metadata_lines (metadata_in lines) → behind ≡ drop n lines → out ≡ [] ++ events (metadata_then (metadata_in lines) lines Empty) → new ≡ out ++ events (blocks 32 false behind) → new ≡ events (document lines)
document-written lines behind n out new e b o w =
    let front : List Event = events (metadata_then (metadata_in lines) lines Empty) in
    w ∙ (ap (λ x. x ++ events (blocks 32 false behind)) o
    ∙ (ap (λ x. front ++ events (blocks 32 false x)) (b ∙ ap (λ k. drop k lines) e)
    ∙ sym (events-metadata_then (metadata_in lines) lines (blocks 32 false (drop (metadata_lines (metadata_in lines)) lines)))))
