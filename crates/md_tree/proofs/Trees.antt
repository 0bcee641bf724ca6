-- A good tree and its events determine each other.
use Rattle.std.proofs.Common.{◌≡◌, ℕ, ◌==◌, Bool, true, false, List, [], ◌∷◌, Option, None, Some, refl, ap, sym, ◌∙◌, subst, get_or, arith}
use Rattle.std.proofs.lemmas.Bool.{eqb-true}
use Rattle.md_tree.specs.declared.event.HeadingLevel.TheVariants.{H1, H2, H3, H4, H5, H6}
use Rattle.md_tree.specs.declared.event.BlockQuoteKind.TheVariants as alert
use Rattle.md_tree.specs.declared.event.Event.{Event}
use Rattle.md_tree.specs.declared.event.Event.TheVariants as event
use Rattle.md_tree.specs.declared.event.Tag.{Tag}
use Rattle.md_tree.specs.declared.event.TagEnd.{TagEnd}
use Rattle.md_tree.specs.declared.event.TagEnd.TheVariants as tag_end
use Rattle.md_tree.specs.declared.place.Place.{Place}
use Rattle.md_tree.specs.Tree.{Nodes, Empty, Leaf, Branch, end_of, events_then, events, nodes_then}
use Rattle.md_tree.specs.Good.{good_at, good, place_inside, place_after, place_after_leaf, document_place}
use Rattle.md_tree.specs.Parse.{Level, Ahead, parse, behind_start, behind_end, behind_leaf, with_branch, same_end, end_number, tree_of, tree_in, whole}
use Rattle.md_tree.proofs.Nodes.{nodes_then-empty, and_left, and_right}

-- the ends in the order of their numbers
abbrev ends : List TagEnd
ends =
    tag_end.Paragraph ∷ tag_end.CodeBlock ∷ tag_end.HtmlBlock ∷ tag_end.Item ∷ tag_end.FootnoteDefinition
    ∷ tag_end.DefinitionList ∷ tag_end.DefinitionListTitle ∷ tag_end.DefinitionListDefinition
    ∷ tag_end.Table ∷ tag_end.TableHead ∷ tag_end.TableRow ∷ tag_end.TableCell
    ∷ tag_end.Emphasis ∷ tag_end.Strong ∷ tag_end.Strikethrough ∷ tag_end.Superscript ∷ tag_end.Subscript
    ∷ tag_end.Link ∷ tag_end.Image ∷ tag_end.MetadataBlock ∷ tag_end.List false ∷ tag_end.List true
    ∷ tag_end.Heading H1 ∷ tag_end.Heading H2 ∷ tag_end.Heading H3
    ∷ tag_end.Heading H4 ∷ tag_end.Heading H5 ∷ tag_end.Heading H6
    ∷ tag_end.BlockQuote None ∷ tag_end.BlockQuote (Some alert.Note) ∷ tag_end.BlockQuote (Some alert.Tip)
    ∷ tag_end.BlockQuote (Some alert.Important) ∷ tag_end.BlockQuote (Some alert.Warning)
    ∷ tag_end.BlockQuote (Some alert.Caution) ∷ []

abbrev end_at : ℕ → TagEnd
end_at n = get_or ends n tag_end.Paragraph

end_at-number : (e : TagEnd) → end_at (end_number e) ≡ e
end_at-number (tag_end.List false) = refl
end_at-number (tag_end.List true) = refl
end_at-number (tag_end.Heading H1) = refl
end_at-number (tag_end.Heading H2) = refl
end_at-number (tag_end.Heading H3) = refl
end_at-number (tag_end.Heading H4) = refl
end_at-number (tag_end.Heading H5) = refl
end_at-number (tag_end.Heading H6) = refl
end_at-number (tag_end.BlockQuote None) = refl
end_at-number (tag_end.BlockQuote (Some alert.Note)) = refl
end_at-number (tag_end.BlockQuote (Some alert.Tip)) = refl
end_at-number (tag_end.BlockQuote (Some alert.Important)) = refl
end_at-number (tag_end.BlockQuote (Some alert.Warning)) = refl
end_at-number (tag_end.BlockQuote (Some alert.Caution)) = refl
end_at-number e = refl

-- equal ends are one end
pub same_end-≡ : (a b : TagEnd) → same_end a b ≡ true → a ≡ b
same_end-≡ a b h = sym (end_at-number a) ∙ ap end_at (eqb-true _ _ h) ∙ end_at-number b

same_number : (n : ℕ) → (n == n) ≡ true
same_number n = grind arith

pub same_end-self : (e : TagEnd) → same_end e e ≡ true
same_end-self e = same_number (end_number e)

-- nodes in front of what stands ahead
abbrev pub in_front : Nodes → Option Ahead → Option Ahead
in_front t None = None
in_front t (Some a) = Some (record { nodes = nodes_then t a.nodes; outer = a.outer })

in_front-empty : (a : Option Ahead) → a ≡ in_front Empty a
in_front-empty None = refl
in_front-empty (Some a) = refl

in_front-leaf : (e : Event) (t : Nodes) (a : Option Ahead) → behind_leaf e (in_front t a) ≡ in_front (Leaf e t) a
in_front-leaf e t None = refl
in_front-leaf e t (Some a) = refl

in_front-branch : (t : Tag) (inside rest : Nodes) (a : Option Ahead) →
    behind_start t (in_front inside (behind_end (end_of t) (in_front rest a))) ≡ in_front (Branch t inside rest) a
in_front-branch t inside rest None = refl
in_front-branch t inside rest (Some a) = rw same_end-self (rw nodes_then-empty refl)

-- what stands ahead of a good tree's events begins with it
pub parse-events_then : (t : Nodes) (es : List Event) (p : Place) → good_at p t ≡ true →
    parse (events_then t es) ≡ in_front t (parse es)
parse-events_then Empty es p g = in_front-empty (parse es)
parse-events_then (Leaf (event.Start t) rest) es p g = cc
parse-events_then (Leaf (event.End e) rest) es p g = cc
parse-events_then (Leaf e rest) es p g =
    ap (behind_leaf e) (parse-events_then rest es (place_after_leaf p) (and_right _ _ g)) ∙ in_front-leaf e rest (parse es)
parse-events_then (Branch t inside rest) es p g =
    ap (behind_start t) (parse-events_then inside (event.End (end_of t) ∷ events_then rest es) (place_inside p t) (and_left _ _ (and_right _ _ g))
    ∙ ap (λ a. in_front inside (behind_end (end_of t) a)) (parse-events_then rest es (place_after p t) (and_right _ _ (and_right _ _ g))))
    ∙ in_front-branch t inside rest (parse es)

-- a good tree is the tree of its events
pub tree_of-events : (t : Nodes) → good t ≡ true → tree_of (events t) ≡ Some t
tree_of-events t g = ap tree_in (parse-events_then t [] document_place g) ∙ rw nodes_then-empty (rw g refl)

-- the events of outer levels
abbrev pub levels_events : List Level → List Event
levels_events [] = []
levels_events (l ∷ ls) = event.End l.ends ∷ events_then l.nodes (levels_events ls)

-- what stands ahead has these events
abbrev pub Says : List Event → Option Ahead → Type 0
Says es o = (a : Ahead) → o ≡ Some a → es ≡ events_then a.nodes (levels_events a.outer)

branch_says : (t : Tag) (inside : Nodes) (ls : List Level) (es : List Event) → es ≡ events_then inside (levels_events ls) →
    Says (event.Start t ∷ es) (with_branch t inside ls)
branch_says t inside [] es e a h = cc
branch_says t inside (l ∷ ls) es e a h = by_test (same_end (end_of t) l.ends) refl
  where
    by_test : (b : Bool) → same_end (end_of t) l.ends ≡ b →
        event.Start t ∷ es ≡ events_then a.nodes (levels_events a.outer)
    by_test false f = let g : None ≡ Some a = rw f at h in cc
    by_test true f =
        let g : Some (record { nodes = Branch t inside l.nodes; outer = ls }) ≡ Some a = rw f at h in
        let k : record { nodes = Branch t inside l.nodes; outer = ls } ≡ a = cc in
        subst (λ (z : Ahead). event.Start t ∷ es ≡ events_then z.nodes (levels_events z.outer)) k
        (ap (λ (x : List Event). event.Start t ∷ x) e
        ∙ ap (λ (x : TagEnd). event.Start t ∷ events_then inside (event.End x ∷ events_then l.nodes (levels_events ls))) (sym (same_end-≡ _ _ f)))

start_says : (t : Tag) (es : List Event) (o : Option Ahead) → Says es o → Says (event.Start t ∷ es) (behind_start t o)
start_says t es None ih a h = cc
start_says t es (Some b) ih a h = branch_says t b.nodes b.outer es (ih b refl) a h

end_says : (x : TagEnd) (es : List Event) (o : Option Ahead) → Says es o → Says (event.End x ∷ es) (behind_end x o)
end_says x es None ih a h = cc
end_says x es (Some b) ih a h =
    let k : record { nodes = Empty; outer = (record { ends = x; nodes = b.nodes }) ∷ b.outer } ≡ a = cc in
    subst (λ (z : Ahead). event.End x ∷ es ≡ events_then z.nodes (levels_events z.outer)) k
    (ap (λ (y : List Event). event.End x ∷ y) (ih b refl))

leaf_says : (x : Event) (es : List Event) (o : Option Ahead) → Says es o → Says (x ∷ es) (behind_leaf x o)
leaf_says x es None ih a h = cc
leaf_says x es (Some b) ih a h =
    let k : record { nodes = Leaf x b.nodes; outer = b.outer } ≡ a = cc in
    subst (λ (z : Ahead). x ∷ es ≡ events_then z.nodes (levels_events z.outer)) k
    (ap (λ (y : List Event). x ∷ y) (ih b refl))

nil_says : Says [] (parse [])
nil_says a h =
    let k : record { nodes = Empty; outer = [] } ≡ a = cc in
    subst (λ (z : Ahead). [] ≡ events_then z.nodes (levels_events z.outer)) k refl

-- reading loses no event
pub events-parse : (es : List Event) → Says es (parse es)
events-parse [] = nil_says
events-parse (event.Start t ∷ es) = start_says t es (parse es) (events-parse es)
events-parse (event.End x ∷ es) = end_says x es (parse es) (events-parse es)
events-parse (e ∷ es) = leaf_says e es (parse es) (events-parse es)

whole_says : (t u : Nodes) (ls : List Level) (es : List Event) → es ≡ events_then t (levels_events ls) → whole t ls ≡ Some u →
    (good u ≡ true) × (events u ≡ es)
whole_says t u (l ∷ ls) es e h = cc
whole_says t u [] es e h = by_test (good t) refl
  where
    by_test : (b : Bool) → good t ≡ b → (good u ≡ true) × (events u ≡ es)
    by_test false f = let k : None ≡ Some u = rw f at h in cc
    by_test true f =
        let k : Some t ≡ Some u = rw f at h in
        let j : t ≡ u = cc in
        subst (λ (z : Nodes). (good z ≡ true) × (events z ≡ es)) j (f, sym e)

tree_says : (es : List Event) (t : Nodes) (o : Option Ahead) → Says es o → tree_in o ≡ Some t → (good t ≡ true) × (events t ≡ es)
tree_says es t None ih h = cc
tree_says es t (Some a) ih h = whole_says a.nodes t a.outer es (ih a refl) h

-- the tree of some events is good, and has these events
pub events-tree_of : (es : List Event) (t : Nodes) → tree_of es ≡ Some t → (good t ≡ true) × (events t ≡ es)
events-tree_of es t h = tree_says es t (parse es) (events-parse es) h

-- equal events give equal good trees
pub events-injective : (t u : Nodes) → good t ≡ true → good u ≡ true → events t ≡ events u → t ≡ u
events-injective t u g h e =
    let k : Some t ≡ Some u = sym (tree_of-events t g) ∙ ap tree_of e ∙ tree_of-events u h in cc
