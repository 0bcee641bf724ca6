-- Parts of a source: what is known of them is known of the parts inside a pair.
use Rattle.std.proofs.Common.{List, [], ◌∷◌, ◌++◌, length, drop, take, get_or, ◌≡◌, ◌≤◌, ◌<◌, ◌+◌, ◌-◌, ◌==◌, ◌&&◌, ◌||◌, ℕ, zero, suc, refl, sym, subst, arith, Bool, true, false, not, cond, Option, Some, None}
use Rattle.std.specs.Prelude.{nat_lt}
use Rattle.std.proofs.lemmas.Bool.{false≢true}
use Rattle.std.proofs.lemmas.Bool.Decides.{nat_tests}
use Rattle.std.proofs.lemmas.List.{drop_more}
use Rattle.std.proofs.lemmas.List.Quantifiers.{position-Some}
use Rattle.md_leaves.specs.Cuts.{IsText, IsCut, AreLeaves}
use Rattle.md_leaves.specs.declared.leaf.Kind.{Kind}
use Rattle.md_leaves.specs.declared.leaf.Kind.TheVariants as kind
use Rattle.md_leaves.specs.declared.leaf.Leaf.{Leaf}
use Rattle.md_leaves.specs.declared.leaf.Mark.{Mark}
use Rattle.md_leaves.specs.declared.leaf.Mark.TheVariants as mark
use Rattle.md_leaves.specs.declared.leaf.Target.{Target}
use Rattle.md_runs.specs.declared.part.Group.{Group}
use Rattle.md_runs.specs.Brackets.{Part, Single, Grouped, balance, target_of, first_target, with_target, group_of, group_at, by_group, parts_after, singles}
use Rattle.md_runs.specs.Pairs.{size, same_mark, is_script, size_fits, ends_search, part_ends_search, search, left_over, between}
use Rattle.md_runs.specs.Nest.{parts_of}
use Rattle.md_runs.specs.Facts.{IsPart, AreParts}
use Rattle.md_runs.proofs.Lists.{both-true}

pub AreLeaves-take : (source : List ℕ) (n : ℕ) (ls : List Leaf) → AreLeaves source ls → AreLeaves source (take n ls)
AreLeaves-take source zero ls h = tt
AreLeaves-take source (suc n) [] h = tt
AreLeaves-take source (suc n) (l ∷ ls) h = (h.0, AreLeaves-take source n ls h.1)

pub AreParts-drop : (source : List ℕ) (n : ℕ) (ps : List Part) → AreParts source ps → AreParts source (drop n ps)
AreParts-drop source zero ps h = h
AreParts-drop source (suc n) [] h = h
AreParts-drop source (suc n) (p ∷ ps) h = AreParts-drop source n ps h.1

AreParts-take : (source : List ℕ) (n : ℕ) (ps : List Part) → AreParts source ps → AreParts source (take n ps)
AreParts-take source zero ps h = tt
AreParts-take source (suc n) [] h = tt
AreParts-take source (suc n) (p ∷ ps) h = (h.0, AreParts-take source n ps h.1)

AreParts-append : (source : List ℕ) (ps qs : List Part) → AreParts source ps → AreParts source qs → AreParts source (ps ++ qs)
AreParts-append source [] qs g h = h
AreParts-append source (p ∷ ps) qs g h = (g.0, AreParts-append source ps qs g.1 h)

pub AreParts-get : (source : List ℕ) (n : ℕ) (ps : List Part) (d : Part) → n < length ps → AreParts source ps → IsPart source (get_or ps n d)
AreParts-get source n [] d lt h = absurd (omega arith)
AreParts-get source zero (p ∷ ps) d lt h = h.0
AreParts-get source (suc n) (p ∷ ps) d lt h = AreParts-get source n ps d (omega arith) h.1

AreParts-singles : (source : List ℕ) (ls : List Leaf) → AreLeaves source ls → AreParts source (singles ls)
AreParts-singles source [] h = tt
AreParts-singles source (l ∷ ls) h = (h.0, AreParts-singles source ls h.1)

-- the destination of a closer among the leaves
target-text : (source : List ℕ) (kind : Kind) (from to : ℕ) (t : Target) → target_of kind ≡ Some t → IsCut source kind from to → IsText source t.from t.to
target-text source (kind.Lone lone) from to t e h = cc
target-text source (kind.Opener is_image) from to t e h = cc
target-text source (kind.Run m opens closes) from to t e h = cc
target-text source (kind.Closer None) from to t e h = cc
target-text source (kind.Closer (Some u)) from to t e h = let same : u ≡ t = cc in subst (λ (x : Target). IsText source x.from x.to) same h.1

first-text : (source : List ℕ) (k : ℕ) (ls : List Leaf) (t : Target) → first_target (drop k ls) ≡ Some t → AreLeaves source ls → IsText source t.from t.to
first-text source k [] t e h = cc (none k)
  where
    none : (k : ℕ) → drop k (let none : List Leaf = [] in none) ≡ []
    none zero = refl
    none (suc k) = refl
first-text source zero (l ∷ ls) t e h = target-text source l.kind l.from l.to t e h.0
first-text source (suc k) (l ∷ ls) t e h = first-text source k ls t e h.1

group-text : (source : List ℕ) (is_image : Bool) (k : ℕ) (ls : List Leaf) (o : Option Target) (g : Group) → first_target (drop k ls) ≡ o → with_target is_image k o ≡ Some g → AreLeaves source ls → IsText source g.target.from g.target.to
group-text source is_image k ls None g f e h = cc
group-text source is_image k ls (Some t) g f e h =
    let made : Group = record { is_image = is_image; target = t; more = k } in
    let same : made ≡ g = cc in
    subst (λ (x : Group). IsText source x.target.from x.target.to) same (first-text source k ls t f h)

group-target : (source : List ℕ) (in_link : Bool) (kind : Kind) (c : Option ℕ) (ls : List Leaf) (g : Group) → group_of in_link kind c ls ≡ Some g → AreLeaves source ls → IsText source g.target.from g.target.to
group-target source in_link (kind.Lone lone) c ls g e h = cc
group-target source in_link (kind.Closer target) c ls g e h = cc
group-target source in_link (kind.Run m opens closes) c ls g e h = cc
group-target source in_link (kind.Opener is_image) None ls g e h = cc
group-target source in_link (kind.Opener is_image) (Some k) ls g e h = go (in_link && not is_image) e
  where
    go : (v : Bool) → cond v None (with_target is_image k (first_target (drop k ls))) ≡ Some g → IsText source g.target.from g.target.to
    go true e = cc
    go false e = group-text source is_image k ls (first_target (drop k ls)) g refl e h

AreParts-after : (source : List ℕ) (in_link : Bool) (n : ℕ) (ls : List Leaf) → AreLeaves source ls → AreParts source (parts_after in_link n ls)
unfolding parts_after
AreParts-after source in_link n [] h = tt
AreParts-after source in_link (suc n) (l ∷ ls) h = AreParts-after source in_link n ls h.1
AreParts-after source in_link zero (l ∷ ls) h = go (group_at in_link l ls) refl (AreParts-after source in_link zero ls h.1) (λ n. AreParts-after source in_link (suc n) ls h.1)
  where
    go : (o : Option Group) → group_at in_link l ls ≡ o → AreParts source (parts_after in_link zero ls) → ((n : ℕ) → AreParts source (parts_after in_link (suc n) ls)) → AreParts source (by_group o (Single l ∷ parts_after in_link zero ls) (λ g. Grouped g.is_image g.target (take g.more ls) ∷ parts_after in_link (suc g.more) ls))
    go None e a b = (h.0, a)
    go (Some g) e a b = ((group-target source in_link l.kind (balance 0 ls) ls g e h.1, AreLeaves-take source g.more ls h.1), b g.more)

pub AreParts-parts_of : (source : List ℕ) (depth : ℕ) (in_link : Bool) (ls : List Leaf) → AreLeaves source ls → AreParts source (parts_of depth in_link ls)
AreParts-parts_of source zero in_link ls h = AreParts-singles source ls h
AreParts-parts_of source (suc depth) in_link ls h = AreParts-after source in_link 0 ls h

size-fits : (m : Mark) (n k : ℕ) → size_fits m n k ≡ true → n ≤ k
size-fits mark.Star n k e = stress n k e
  where
    stress : (n k : ℕ) → (k == n || (k == 3 && nat_lt n 3)) ≡ true → n ≤ k
    stress n k e = grind (arith, nat_tests)
size-fits mark.Underscore n k e = stress n k e
  where
    stress : (n k : ℕ) → (k == n || (k == 3 && nat_lt n 3)) ≡ true → n ≤ k
    stress n k e = grind (arith, nat_tests)
size-fits mark.Tilde n k e = same n k e
  where
    same : (n k : ℕ) → (k == n) ≡ true → n ≤ k
    same n k e = grind (arith, nat_tests)
size-fits mark.Caret n k e = same n k e
  where
    same : (n k : ℕ) → (k == n) ≡ true → n ≤ k
    same n k e = grind (arith, nat_tests)

-- what is left of a run may be cut as the run
shorter : (source : List ℕ) (m : Mark) (n : ℕ) (kind : Kind) (from to : ℕ) → ends_search m n kind (to - from) ≡ true → IsCut source kind from to → IsCut source kind from (to - n)
shorter source m n (kind.Lone lone) from to e h = absurd (false≢true e)
shorter source m n (kind.Opener is_image) from to e h = absurd (false≢true e)
shorter source m n (kind.Closer target) from to e h = absurd (false≢true e)
shorter source m n (kind.Run other opens closes) from to e h =
    let b = both-true (same_mark m other && size_fits m n (to - from)) (closes || is_script m n) e in
    let c = both-true (same_mark m other) (size_fits m n (to - from)) b.0 in
    let le = size-fits m n (to - from) c.1 in
    λ k less. subst (λ t. IsText source from t) (same to n k) (h (n + k) (omega arith))
  where
    same : (to n k : ℕ) → to - (n + k) ≡ to - n - k
    same to n k = omega arith

left-part : (source : List ℕ) (m : Mark) (n : ℕ) (p : Part) (ps : List Part) → part_ends_search m n p ≡ true → IsPart source p → AreParts source (left_over n (p ∷ ps))
left-part source m n (Grouped is_image target ls) ps e h = tt
left-part source m n (Single l) ps e h =
    let kept = shorter source m n l.kind l.from l.to e h in
    elim (size l == n) as (λ v. AreParts source (cond v [] (Single (record { kind = l.kind; from = l.from; to = l.to - n }) ∷ []))) [ true ↦ tt | false ↦ (kept, tt) ]

pub search-within : (m : Mark) (n k : ℕ) (ps : List Part) (d : Part) → search m n ps ≡ Some k → k < length ps
search-within m n k ps d e = (position-Some (λ p. part_ends_search m n p) ps k d e).0

pub AreParts-between : (source : List ℕ) (m : Mark) (n k : ℕ) (ps : List Part) (d : Part) → search m n ps ≡ Some k → AreParts source ps → AreParts source (between n k ps)
AreParts-between source m n k ps d e h =
    let p = position-Some (λ p. part_ends_search m n p) ps k d e in
    AreParts-append source (take k ps) (left_over n (drop k ps)) (AreParts-take source k ps h)
    (subst (λ (x : List Part). AreParts source (left_over n x)) (sym (drop_more ps k d p.0)) (left-part source m n (get_or ps k d) (drop (k + 1) ps) p.1 (AreParts-get source k ps d p.0 h)))
