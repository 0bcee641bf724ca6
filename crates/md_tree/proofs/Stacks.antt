-- The test of events by a stack of open levels.
use Rattle.std.proofs.Common.{◌≡◌, Bool, true, false, ◌&&◌, List, [], ◌∷◌, Option, None, Some, refl, ap, sym, ◌∙◌, if◌then◌else◌, is_some}
use Rattle.md_tree.specs.declared.event.Event.{Event}
use Rattle.md_tree.specs.declared.event.Event.TheVariants as event
use Rattle.md_tree.specs.declared.event.Tag.{Tag}
use Rattle.md_tree.specs.declared.event.TagEnd.{TagEnd}
use Rattle.md_tree.specs.declared.place.Place.{Place}
use Rattle.md_tree.specs.declared.check.Open.{Open}
use Rattle.md_tree.specs.Tree.{Nodes, end_of}
use Rattle.md_tree.specs.Good.{good_at, good, may_hold, may_stand, may_end, place_inside, place_after, place_after_leaf, document_place}
use Rattle.md_tree.specs.Parse.{Level, Ahead, parse, behind_start, behind_end, behind_leaf, with_branch, same_end, tree_of, tree_in, whole}
use Rattle.md_tree.proofs.Nodes.{and_false, and_true, and_assoc}

-- the answer of a test that goes on from a place, inside these open levels
abbrev pub check : List Open → Place → List Event → Bool
check [] p [] = may_end p
check (f ∷ fs) p [] = false
check fs p (event.Start t ∷ es) =
    may_stand p t && check ((record { end = end_of t; after = place_after p t }) ∷ fs) (place_inside p t) es
check [] p (event.End e ∷ es) = false
check (f ∷ fs) p (event.End e ∷ es) = may_end p && (same_end f.end e && check fs f.after es)
check fs p (e ∷ es) = may_hold p e && check fs (place_after_leaf p) es

-- the outer levels are those that are open, and good
abbrev pub fit : List Open → List Level → Bool
fit [] [] = true
fit [] (l ∷ ls) = false
fit (f ∷ fs) [] = false
fit (f ∷ fs) (l ∷ ls) = same_end f.end l.ends && (good_at f.after l.nodes && fit fs ls)

abbrev pub fits : List Open → Place → Option Ahead → Bool
fits fs p None = false
fits fs p (Some a) = good_at p a.nodes && fit fs a.outer

start_step : (fs : List Open) (p : Place) (t : Tag) (a : Option Ahead) →
    (may_stand p t && fits ((record { end = end_of t; after = place_after p t }) ∷ fs) (place_inside p t) a) ≡ fits fs p (behind_start t a)
start_step fs p t None = and_false _
start_step fs p t (Some a) = levels a.nodes a.outer
  where
    levels : (u : Nodes) (ls : List Level) →
        (may_stand p t && (good_at (place_inside p t) u && fit ((record { end = end_of t; after = place_after p t }) ∷ fs) ls)) ≡ fits fs p (with_branch t u ls)
    levels u [] = rw and_false (and_false _)
    levels u (l ∷ ls) = by_test (same_end (end_of t) l.ends) refl
      where
        by_test : (b : Bool) → same_end (end_of t) l.ends ≡ b →
            (may_stand p t && (good_at (place_inside p t) u && fit ((record { end = end_of t; after = place_after p t }) ∷ fs) (l ∷ ls))) ≡ fits fs p (with_branch t u (l ∷ ls))
        by_test true e = rw e (simp and_assoc)
        by_test false e = rw e (rw and_false (and_false _))

end_step : (f : Open) (fs : List Open) (p : Place) (e : TagEnd) (a : Option Ahead) →
    (may_end p && (same_end f.end e && fits fs f.after a)) ≡ fits (f ∷ fs) p (behind_end e a)
end_step f fs p e None = rw and_false (and_false _)
end_step f fs p e (Some a) = refl

end_none : (p : Place) (e : TagEnd) (a : Option Ahead) → false ≡ fits [] p (behind_end e a)
end_none p e None = refl
end_none p e (Some a) = sym (and_false _)

leaf_step : (fs : List Open) (p : Place) (e : Event) (a : Option Ahead) →
    (may_hold p e && fits fs (place_after_leaf p) a) ≡ fits fs p (behind_leaf e a)
leaf_step fs p e None = and_false _
leaf_step fs p e (Some a) = sym (and_assoc (may_hold p e) (good_at (place_after_leaf p) a.nodes) (fit fs a.outer))

pub check-parse : (fs : List Open) (p : Place) (es : List Event) → check fs p es ≡ fits fs p (parse es)
check-parse [] p [] = sym (and_true _)
check-parse (f ∷ fs) p [] = sym (and_false _)
check-parse fs p (event.Start t ∷ es) = ap (λ b. may_stand p t && b) (check-parse _ _ es) ∙ start_step fs p t (parse es)
check-parse [] p (event.End e ∷ es) = end_none p e (parse es)
check-parse (f ∷ fs) p (event.End e ∷ es) =
    ap (λ b. may_end p && (same_end f.end e && b)) (check-parse fs f.after es) ∙ end_step f fs p e (parse es)
check-parse fs p (e ∷ es) = ap (λ b. may_hold p e && b) (check-parse fs (place_after_leaf p) es) ∙ leaf_step fs p e (parse es)

whole_fits : (t : Nodes) (ls : List Level) → (good t && fit [] ls) ≡ is_some (whole t ls)
whole_fits t [] = by_test (good t)
  where
    by_test : (b : Bool) → (b && true) ≡ is_some (if b then Some t else None)
    by_test true = refl
    by_test false = refl
whole_fits t (l ∷ ls) = and_false _

tree_fits : (o : Option Ahead) → fits [] document_place o ≡ is_some (tree_in o)
tree_fits None = refl
tree_fits (Some a) = whole_fits a.nodes a.outer

-- the test from a document's first place on says whether the events have a tree
pub check-tree_of : (es : List Event) → check [] document_place es ≡ is_some (tree_of es)
check-tree_of es = check-parse [] document_place es ∙ tree_fits (parse es)
