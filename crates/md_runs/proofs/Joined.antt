-- The steps of inlines are the events of their nodes.
use Rattle.std.proofs.Common.{List, [], ◌∷◌, ◌++◌, ◌≡◌, ℕ, refl, ap, ◌∙◌, true, false, cond, Option, Some, None, append_assoc}
use Rattle.md_tree.specs.declared.event.Event.{Event}
use Rattle.md_tree.specs.declared.event.Event.TheVariants as event
use Rattle.md_tree.specs.declared.event.Tag.{Tag}
use Rattle.md_tree.specs.Tree.{end_of, events_then, events}
use Rattle.md_tree.specs.Tree as nodes
use Rattle.md_runs.specs.declared.pen.Place.{Place}
use Rattle.md_runs.specs.Nest.{Inlines, Empty, Text, Leaf, Branch}
use Rattle.md_runs.specs.Texts.{bytes_at, touch, both, spelled}
use Rattle.md_runs.specs.Marks.{Step, An, steps, text_first, joined}

branch-joined : (source : List ℕ) (t : Tag) (inside rest : Inlines) (ss : List Step) (es : List Event) → ((f : Event) (rs : List Step) → joined source None (steps inside ++ An f ∷ rs) ≡ events_then (spelled source None inside) (f ∷ joined source None rs)) → joined source None (steps rest ++ ss) ≡ events_then (spelled source None rest) es → joined source None ((steps inside ++ An (event.End (end_of t)) ∷ steps rest) ++ ss) ≡ events_then (spelled source None inside) (event.End (end_of t) ∷ events_then (spelled source None rest) es)
branch-joined source t inside rest ss es first second =
    ap (joined source None) (append_assoc (steps inside) (An (event.End (end_of t)) ∷ steps rest) ss)
    ∙ (first (event.End (end_of t)) (steps rest ++ ss)
    ∙ ap (λ x. events_then (spelled source None inside) (event.End (end_of t) ∷ x)) second)

-- the events of inlines, before an event and further steps
joined-steps : (source : List ℕ) (p : Option Place) (t : Inlines) (e : Event) (ss : List Step) → joined source p (steps t ++ An e ∷ ss) ≡ events_then (spelled source p t) (e ∷ joined source None ss)
unfolding joined steps spelled
joined-steps source None Empty e ss = refl
joined-steps source (Some p) Empty e ss = refl
joined-steps source None (Text q rest) e ss = joined-steps source (Some q) rest e ss
joined-steps source (Some p) (Text q rest) e ss =
    let one = joined-steps source (Some (both p q)) rest e ss in
    let two = ap (λ x. event.Text (bytes_at source p) ∷ x) (joined-steps source (Some q) rest e ss) in
    elim (touch p q) as (λ v. cond v (joined source (Some (both p q)) (steps rest ++ An e ∷ ss)) (event.Text (bytes_at source p) ∷ joined source (Some q) (steps rest ++ An e ∷ ss)) ≡ events_then (cond v (spelled source (Some (both p q)) rest) (nodes.Leaf (event.Text (bytes_at source p)) (spelled source (Some q) rest))) (e ∷ joined source None ss)) [ true ↦ one | false ↦ two ]
joined-steps source None (Leaf f rest) e ss = ap (λ x. f ∷ x) (joined-steps source None rest e ss)
joined-steps source (Some p) (Leaf f rest) e ss = ap (λ x. event.Text (bytes_at source p) ∷ f ∷ x) (joined-steps source None rest e ss)
joined-steps source None (Branch t inside rest) e ss = ap (λ x. event.Start t ∷ x) (branch-joined source t inside rest (An e ∷ ss) (e ∷ joined source None ss) (λ f rs. joined-steps source None inside f rs) (joined-steps source None rest e ss))
joined-steps source (Some p) (Branch t inside rest) e ss = ap (λ x. event.Text (bytes_at source p) ∷ event.Start t ∷ x) (branch-joined source t inside rest (An e ∷ ss) (e ∷ joined source None ss) (λ f rs. joined-steps source None inside f rs) (joined-steps source None rest e ss))

-- the events of inlines
pub joined-all : (source : List ℕ) (p : Option Place) (t : Inlines) → joined source p (steps t) ≡ events (spelled source p t)
unfolding joined steps spelled
joined-all source None Empty = refl
joined-all source (Some p) Empty = refl
joined-all source None (Text q rest) = joined-all source (Some q) rest
joined-all source (Some p) (Text q rest) =
    let one = joined-all source (Some (both p q)) rest in
    let two = ap (λ x. event.Text (bytes_at source p) ∷ x) (joined-all source (Some q) rest) in
    elim (touch p q) as (λ v. cond v (joined source (Some (both p q)) (steps rest)) (event.Text (bytes_at source p) ∷ joined source (Some q) (steps rest)) ≡ events_then (cond v (spelled source (Some (both p q)) rest) (nodes.Leaf (event.Text (bytes_at source p)) (spelled source (Some q) rest))) []) [ true ↦ one | false ↦ two ]
joined-all source None (Leaf f rest) = ap (λ x. f ∷ x) (joined-all source None rest)
joined-all source (Some p) (Leaf f rest) = ap (λ x. event.Text (bytes_at source p) ∷ f ∷ x) (joined-all source None rest)
joined-all source None (Branch t inside rest) = ap (λ x. event.Start t ∷ x) (joined-steps source None inside (event.End (end_of t)) (steps rest) ∙ ap (λ x. events_then (spelled source None inside) (event.End (end_of t) ∷ x)) (joined-all source None rest))
joined-all source (Some p) (Branch t inside rest) = ap (λ x. event.Text (bytes_at source p) ∷ event.Start t ∷ x) (joined-steps source None inside (event.End (end_of t)) (steps rest) ∙ ap (λ x. events_then (spelled source None inside) (event.End (end_of t) ∷ x)) (joined-all source None rest))

pub joined-none : (source : List ℕ) (p : Option Place) → joined source p [] ≡ text_first source p []
unfolding joined
joined-none source p = refl
