-- The nodes of leaves are good among inlines, and stand no deeper than they may.
use Rattle.std.proofs.Common.{List, ◌≡◌, ◌≤◌, ◌-◌, ◌&&◌, ◌||◌, ℕ, refl, ap, ◌∙◌, arith, Bool, true, false, not, cond, Option, Some, None}
use Rattle.std.specs.Prelude.{nat_lt}
use Rattle.std.proofs.lemmas.Bool.Decides.{nat_tests}
use Rattle.md_tree.specs.declared.event.Event.TheVariants as event
use Rattle.md_tree.specs.declared.event.Tag.{Tag}
use Rattle.md_tree.specs.Tree as nodes
use Rattle.md_tree.specs.Good.{good_at, may_hold, may_stand, place_inside, place_after, among_inlines}
use Rattle.md_tree.proofs.Nodes.{and_both}
use Rattle.md_leaves.specs.declared.leaf.Leaf as cut
use Rattle.md_runs.specs.declared.pen.Place.{Place}
use Rattle.md_runs.specs.Nest.{Inlines, Empty, Text, Leaf, Branch, nest}
use Rattle.md_runs.specs.Texts.{bytes_at, touch, both, text_then, spelled, inlines_of}
use Rattle.md_runs.specs.Levels.{is_address, is_group, groups_within, styles_within}
use Rattle.md_runs.proofs.Fits.{Fits, IsElement, HasRoom, inside_link, nest-fits}

-- a test of nodes that a text in front passes
abbrev PassesText : (nodes.Nodes → Bool) → Type 0
PassesText test = (e : List ℕ) (rest : nodes.Nodes) → test rest ≡ true → test (nodes.Leaf (event.Text e) rest) ≡ true

text-passes : (test : nodes.Nodes → Bool) → PassesText test → (source : List ℕ) (p : Option Place) (rest : nodes.Nodes) → test rest ≡ true → test (text_then source p rest) ≡ true
text-passes test passes source None rest h = h
text-passes test passes source (Some p) rest h = passes (bytes_at source p) rest h

branch-good : (l : Bool) (t : Tag) (inside rest : nodes.Nodes) → IsElement l t → good_at (among_inlines (inside_link l t)) inside ≡ true → good_at (among_inlines l) rest ≡ true → good_at (among_inlines l) (nodes.Branch t inside rest) ≡ true
branch-good l t inside rest e f g =
    and_both (may_stand (among_inlines l) t) (good_at (place_inside (among_inlines l) t) inside && good_at (place_after (among_inlines l) t) rest) e.stands
    (and_both (good_at (place_inside (among_inlines l) t) inside) (good_at (place_after (among_inlines l) t) rest)
    (ap (λ p. good_at p inside) e.inside ∙ f) (ap (λ p. good_at p rest) e.after ∙ g))

spelled-good : (source : List ℕ) (d v : ℕ) (l : Bool) (p : Option Place) (t : Inlines) → Fits source d v l t → good_at (among_inlines l) (spelled source p t) ≡ true
unfolding spelled
spelled-good source d v l p Empty h = text-passes (good_at (among_inlines l)) (λ e rest g. g) source p nodes.Empty refl
spelled-good source d v l None (Text q rest) h = spelled-good source d v l (Some q) rest h
spelled-good source d v l (Some p) (Text q rest) h =
    let one = spelled-good source d v l (Some (both p q)) rest h in
    let two = spelled-good source d v l (Some q) rest h in
    elim (touch p q) as (λ v. good_at (among_inlines l) (cond v (spelled source (Some (both p q)) rest) (nodes.Leaf (event.Text (bytes_at source p)) (spelled source (Some q) rest))) ≡ true) [ true ↦ one | false ↦ two ]
spelled-good source d v l p (Leaf e rest) h =
    text-passes (good_at (among_inlines l)) (λ e rest g. g) source p (nodes.Leaf e (spelled source None rest))
    (and_both (may_hold (among_inlines l) e) (good_at (among_inlines l) (spelled source None rest)) h.0 (spelled-good source d v l None rest h.1))
spelled-good source d v l p (Branch t inside rest) h =
    text-passes (good_at (among_inlines l)) (λ e rest g. g) source p (nodes.Branch t (spelled source None inside) (spelled source None rest))
    (branch-good l t (spelled source None inside) (spelled source None rest) h.0 (spelled-good source (cond (is_group t) (d - 1) d) (v - 1) (inside_link l t) None inside h.1.1.0) (spelled-good source d v l None rest h.1.1.1))

some : (n : ℕ) → 1 ≤ n → nat_lt 0 n ≡ true
some n le = grind (arith, nat_tests)

group-room : (source : List ℕ) (d v : ℕ) (t : Tag) (inside : Inlines) → HasRoom source d v t inside
    → ((is_address t (spelled source None inside) || not (is_group t)) || nat_lt 0 d) ≡ true
group-room source d v t inside h = go (is_address t (spelled source None inside)) refl (is_group t) refl
  where
    go : (a : Bool) → is_address t (spelled source None inside) ≡ a → (b : Bool) → is_group t ≡ b → ((a || not b) || nat_lt 0 d) ≡ true
    go true n b e = refl
    go false n true e = some d (h.group n e)
    go false n false e = refl

style-room : (source : List ℕ) (d v : ℕ) (t : Tag) (inside : Inlines) → HasRoom source d v t inside → (is_group t || nat_lt 0 v) ≡ true
style-room source d v t inside h = go (is_group t) refl
  where
    go : (b : Bool) → is_group t ≡ b → (b || nat_lt 0 v) ≡ true
    go true e = refl
    go false e = some v (h.style e)

spelled-groups : (source : List ℕ) (d v : ℕ) (l : Bool) (p : Option Place) (t : Inlines) → Fits source d v l t → groups_within d (spelled source p t) ≡ true
unfolding spelled
spelled-groups source d v l p Empty h = text-passes (groups_within d) (λ e rest g. g) source p nodes.Empty refl
spelled-groups source d v l None (Text q rest) h = spelled-groups source d v l (Some q) rest h
spelled-groups source d v l (Some p) (Text q rest) h =
    let one = spelled-groups source d v l (Some (both p q)) rest h in
    let two = spelled-groups source d v l (Some q) rest h in
    elim (touch p q) as (λ v. groups_within d (cond v (spelled source (Some (both p q)) rest) (nodes.Leaf (event.Text (bytes_at source p)) (spelled source (Some q) rest))) ≡ true) [ true ↦ one | false ↦ two ]
spelled-groups source d v l p (Leaf e rest) h =
    text-passes (groups_within d) (λ e rest g. g) source p (nodes.Leaf e (spelled source None rest)) (spelled-groups source d v l None rest h.1)
spelled-groups source d v l p (Branch t inside rest) h =
    let deep : ℕ = cond (is_group t) (d - 1) d in
    text-passes (groups_within d) (λ e rest g. g) source p (nodes.Branch t (spelled source None inside) (spelled source None rest))
    (and_both (((is_address t (spelled source None inside) || not (is_group t)) || nat_lt 0 d) && groups_within deep (spelled source None inside)) (groups_within d (spelled source None rest))
    (and_both ((is_address t (spelled source None inside) || not (is_group t)) || nat_lt 0 d) (groups_within deep (spelled source None inside)) (group-room source d v t inside h.1.0) (spelled-groups source deep (v - 1) (inside_link l t) None inside h.1.1.0))
    (spelled-groups source d v l None rest h.1.1.1))

spelled-styles : (source : List ℕ) (d v : ℕ) (l : Bool) (p : Option Place) (t : Inlines) → Fits source d v l t → styles_within v (spelled source p t) ≡ true
unfolding spelled
spelled-styles source d v l p Empty h = text-passes (styles_within v) (λ e rest g. g) source p nodes.Empty refl
spelled-styles source d v l None (Text q rest) h = spelled-styles source d v l (Some q) rest h
spelled-styles source d v l (Some p) (Text q rest) h =
    let one = spelled-styles source d v l (Some (both p q)) rest h in
    let two = spelled-styles source d v l (Some q) rest h in
    elim (touch p q) as (λ w. styles_within v (cond w (spelled source (Some (both p q)) rest) (nodes.Leaf (event.Text (bytes_at source p)) (spelled source (Some q) rest))) ≡ true) [ true ↦ one | false ↦ two ]
spelled-styles source d v l p (Leaf e rest) h =
    text-passes (styles_within v) (λ e rest g. g) source p (nodes.Leaf e (spelled source None rest)) (spelled-styles source d v l None rest h.1)
spelled-styles source d v l p (Branch t inside rest) h =
    text-passes (styles_within v) (λ e rest g. g) source p (nodes.Branch t (spelled source None inside) (spelled source None rest))
    (and_both ((is_group t || nat_lt 0 v) && styles_within (v - 1) (spelled source None inside)) (styles_within v (spelled source None rest))
    (and_both (is_group t || nat_lt 0 v) (styles_within (v - 1) (spelled source None inside)) (style-room source d v t inside h.1.0) (spelled-styles source (cond (is_group t) (d - 1) d) (v - 1) (inside_link l t) None inside h.1.1.0))
    (spelled-styles source d v l None rest h.1.1.1))

pub inlines_of-good : (source : List ℕ) (ls : List cut.Leaf) → good_at (among_inlines false) (inlines_of source ls) ≡ true
inlines_of-good source ls = spelled-good source 32 32 false None (nest source 32 32 false ls) (nest-fits source 32 32 false ls)

pub inlines_of-groups : (source : List ℕ) (ls : List cut.Leaf) → groups_within 32 (inlines_of source ls) ≡ true
inlines_of-groups source ls = spelled-groups source 32 32 false None (nest source 32 32 false ls) (nest-fits source 32 32 false ls)

pub inlines_of-styles : (source : List ℕ) (ls : List cut.Leaf) → styles_within 32 (inlines_of source ls) ≡ true
inlines_of-styles source ls = spelled-styles source 32 32 false None (nest source 32 32 false ls) (nest-fits source 32 32 false ls)
