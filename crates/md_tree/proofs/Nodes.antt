-- Nodes behind nodes: their events, and whether they are good.
use Rattle.std.proofs.Common.{◌≡◌, Bool, true, false, ◌&&◌, List, [], ◌∷◌, ◌++◌, refl, ap, ◌∙◌}
use Rattle.md_tree.specs.declared.event.Event.{Event}
use Rattle.md_tree.specs.declared.event.Event.TheVariants as event
use Rattle.md_tree.specs.declared.event.Tag.{Tag}
use Rattle.md_tree.specs.declared.event.Tag.TheVariants as tag
use Rattle.md_tree.specs.declared.place.Holds.{Holds}
use Rattle.md_tree.specs.declared.place.Holds.TheVariants as level
use Rattle.md_tree.specs.declared.place.Numbers.{Numbers}
use Rattle.md_tree.specs.declared.place.Place.{Place}
use Rattle.md_tree.specs.Tree.{Nodes, Empty, Leaf, Branch, end_of, events_then, events, nodes_then}
use Rattle.md_tree.specs.Good.{good_at, may_stand, place_after, level_of}

pub and_left : (a b : Bool) → (a && b) ≡ true → a ≡ true
and_left true b h = refl
and_left false b h = h

pub and_right : (a b : Bool) → (a && b) ≡ true → b ≡ true
and_right true b h = h
and_right false b h = cc

pub and_both : (a b : Bool) → a ≡ true → b ≡ true → (a && b) ≡ true
and_both true b h k = k
and_both false b h k = h

pub and_assoc : (a b c : Bool) → ((a && b) && c) ≡ (a && (b && c))
and_assoc true b c = refl
and_assoc false b c = refl

pub and_false : (a : Bool) → (a && false) ≡ false
and_false true = refl
and_false false = refl

pub and_true : (a : Bool) → (a && true) ≡ a
and_true true = refl
and_true false = refl

pub nodes_then-empty : (t : Nodes) → nodes_then t Empty ≡ t
nodes_then-empty Empty = refl
nodes_then-empty (Leaf e rest) = ap (λ r. Leaf e r) (nodes_then-empty rest)
nodes_then-empty (Branch t inside rest) = ap (λ r. Branch t inside r) (nodes_then-empty rest)

-- events in front of others are one list
pub events_then-append : (t : Nodes) (es fs : List Event) → events_then t (es ++ fs) ≡ events_then t es ++ fs
events_then-append Empty es fs = refl
events_then-append (Leaf e rest) es fs = ap (λ (x : List Event). e ∷ x) (events_then-append rest es fs)
events_then-append (Branch t inside rest) es fs =
    ap (λ (x : List Event). event.Start t ∷ events_then inside (event.End (end_of t) ∷ x)) (events_then-append rest es fs)
    ∙ ap (λ (x : List Event). event.Start t ∷ x) (events_then-append inside (event.End (end_of t) ∷ events_then rest es) fs)

pub events_then-events : (t : Nodes) (es : List Event) → events_then t es ≡ events t ++ es
events_then-events t es = events_then-append t [] es

-- the events of nodes and then others
pub events_then-nodes_then : (t u : Nodes) (es : List Event) → events_then (nodes_then t u) es ≡ events_then t (events_then u es)
events_then-nodes_then Empty u es = refl
events_then-nodes_then (Leaf e rest) u es = ap (λ (x : List Event). e ∷ x) (events_then-nodes_then rest u es)
events_then-nodes_then (Branch t inside rest) u es =
    ap (λ (x : List Event). event.Start t ∷ events_then inside (event.End (end_of t) ∷ x)) (events_then-nodes_then rest u es)

pub events-nodes_then : (t u : Nodes) → events (nodes_then t u) ≡ events t ++ events u
events-nodes_then t u = events_then-nodes_then t u [] ∙ events_then-events t (events u)

-- levels along which the place stays: neither items nor a table, and no task mark
abbrev pub stays : Holds → Bool
stays level.Items = false
stays level.Head = false
stays _ = true

abbrev steady : Holds → Bool → Numbers → Place
steady h in_link numbers = record { holds = h; in_link = in_link; numbers = numbers; task_mark = false }

steady-after : (h : Holds) (l : Bool) (n : Numbers) (t : Tag) → stays h ≡ true → may_stand (steady h l n) t ≡ true →
    place_after (steady h l n) t ≡ steady h l n
steady-after level.Items l n t s g = cc
steady-after level.Head l n t s g = cc
steady-after level.Blocks l n tag.Item s g = cc
steady-after level.Blocks l n tag.TableHead s g = cc
steady-after level.Mixed l n tag.Item s g = cc
steady-after level.Mixed l n tag.TableHead s g = cc
steady-after level.Entries l n tag.Item s g = cc
steady-after level.Entries l n tag.TableHead s g = cc
steady-after level.Rows l n tag.Item s g = cc
steady-after level.Rows l n tag.TableHead s g = cc
steady-after level.Cells l n tag.Item s g = cc
steady-after level.Cells l n tag.TableHead s g = cc
steady-after level.Inlines l n tag.Item s g = cc
steady-after level.Inlines l n tag.TableHead s g = cc
steady-after level.CodeTexts l n tag.Item s g = cc
steady-after level.CodeTexts l n tag.TableHead s g = cc
steady-after level.HtmlTexts l n tag.Item s g = cc
steady-after level.HtmlTexts l n tag.TableHead s g = cc
steady-after level.MetadataTexts l n tag.Item s g = cc
steady-after level.MetadataTexts l n tag.TableHead s g = cc
steady-after h l n t s g = refl

-- at such a level good nodes behind good nodes are good
steady-good : (t u : Nodes) (h : Holds) (l : Bool) (n : Numbers) → stays h ≡ true →
    good_at (steady h l n) t ≡ true → good_at (steady h l n) u ≡ true → good_at (steady h l n) (nodes_then t u) ≡ true
steady-good Empty u h l n s g k = k
steady-good (Leaf e rest) u h l n s g k =
    and_both _ _ (and_left _ _ g) (steady-good rest u h l n s (and_right _ _ g) k)
steady-good (Branch t inside rest) u h l n s g k =
    let same : place_after (steady h l n) t ≡ steady h l n = steady-after h l n t s (and_left _ _ g) in
    let behind : good_at (place_after (steady h l n) t) rest ≡ true = and_right _ _ (and_right _ _ g) in
    let good_rest : good_at (steady h l n) rest ≡ true = rw same at behind in
    let both : good_at (place_after (steady h l n) t) (nodes_then rest u) ≡ true = rw same (steady-good rest u h l n s good_rest k) in
    and_both _ _ (and_left _ _ g) (and_both _ _ (and_left _ _ (and_right _ _ g)) both)

-- good nodes behind good nodes, at a level that stays as it is
pub good_at-level : (h : Holds) (t u : Nodes) → stays h ≡ true →
    good_at (level_of h) t ≡ true → good_at (level_of h) u ≡ true → good_at (level_of h) (nodes_then t u) ≡ true
good_at-level h t u s g k = steady-good t u h false _ s g k
