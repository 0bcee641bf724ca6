-- What the writers of kept lines keep.
use Rattle.std.proofs.Common.{List, [], ◌∷◌, ◌++◌, length, drop, get_or, ◌≡◌, ◌≤◌, ◌<◌, ◌+◌, ℕ, refl, sym, ap, ◌∙◌, append_assoc, append-nil}
use Rattle.std.proofs.lemmas.List.{drop_more}
use Rattle.std.proofs.Math.ListN.{drop_of_length-le}
use Rattle.md_tree.specs.declared.event.Event.{Event}
use Rattle.md_tree.specs.Tree.{Nodes, Empty, Leaf, events}
use Rattle.md_lines.specs.Lines.{LineText}
use Rattle.md_rules.specs.Code.{text_from}
use Rattle.md_events.specs.declared.kept.Kept.{Kept}
use Rattle.md_events.specs.Kept.{kept_line, kept_lines, kept_then, leaf_of}

pub events-kept_then : (k : Kept) (text : List ℕ) (rest : Nodes) → events (kept_then k text rest) ≡ events (kept_then k text Empty) ++ events rest
events-kept_then k [] rest = refl
events-kept_then k (b ∷ bs) rest = refl

events-kept_line : (k : Kept) (text : List ℕ) (rest : Nodes) → events (kept_then k text (Leaf (leaf_of k (10 ∷ [])) rest)) ≡ events (kept_then k text (Leaf (leaf_of k (10 ∷ [])) Empty)) ++ events rest
events-kept_line k [] rest = refl
events-kept_line k (b ∷ bs) rest = refl

-- a text and a line end
pub kept_line-written : (k : Kept) (column : ℕ) (line : LineText) (old out new : List Event) → out ≡ old ++ events (kept_then k (text_from column line) Empty) → new ≡ out ++ leaf_of k (10 ∷ []) ∷ [] → new ≡ old ++ events (kept_line k column line Empty)
kept_line-written k column line old out new t w =
    w ∙ (ap (λ x. x ++ leaf_of k (10 ∷ []) ∷ []) t
    ∙ (append_assoc old (events (kept_then k (text_from column line) Empty)) (leaf_of k (10 ∷ []) ∷ []) ∙ ap (λ x. old ++ x) (sym (events-kept_then k (text_from column line) (Leaf (leaf_of k (10 ∷ [])) Empty)))))

kept_lines-line : (k : Kept) (column : ℕ) (line : LineText) (lines : List LineText) → events (kept_lines k column (line ∷ lines)) ≡ events (kept_line k column line Empty) ++ events (kept_lines k column lines)
unfolding kept_lines
kept_lines-line k column line lines = events-kept_line k (text_from column line) (kept_lines k column lines)

-- one line more is written
pub kept-step : (k : Kept) (column : ℕ) (lines : List LineText) (at : ℕ) (line : LineText) (old out new : List Event) → at < length lines → line ≡ get_or lines at line → new ≡ out ++ events (kept_line k column line Empty) → out ++ events (kept_lines k column (drop at lines)) ≡ old → new ++ events (kept_lines k column (drop (at + 1) lines)) ≡ old
kept-step k column lines at line old out new lt e w h =
    let rest : List LineText = drop (at + 1) lines in
    let here : drop at lines ≡ line ∷ rest = drop_more lines at line lt ∙ ap (λ l. l ∷ rest) (sym e) in
    ap (λ x. x ++ events (kept_lines k column rest)) w
    ∙ (append_assoc out (events (kept_line k column line Empty)) (events (kept_lines k column rest))
    ∙ (ap (λ x. out ++ x) (sym (ap (λ x. events (kept_lines k column x)) here ∙ kept_lines-line k column line rest)) ∙ h))

pub kept-end : (k : Kept) (column : ℕ) (lines : List LineText) (at : ℕ) (old out : List Event) → length lines ≤ at → out ++ events (kept_lines k column (drop at lines)) ≡ old → out ≡ old
unfolding kept_lines
kept-end k column lines at old out le h =
    let none : drop at lines ≡ [] = drop_of_length-le lines le in
    sym (append-nil out) ∙ (ap (λ x. out ++ events (kept_lines k column x)) (sym none) ∙ h)
