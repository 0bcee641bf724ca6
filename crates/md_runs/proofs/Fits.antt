-- Inlines stand where they may, and no deeper than they may.
use Rattle.std.proofs.Common.{List, [], ◌∷◌, ◌++◌, drop, take, ◌≡◌, ◌≤◌, ◌+◌, ◌-◌, ◌==◌, ◌&&◌, ◌||◌, ℕ, zero, suc, refl, sym, ap, subst, ◌∙◌, arith, Bool, true, false, not, cond, Option, Some, None}
use Rattle.std.specs.Prelude.{nat_lt}
use Rattle.std.specs.List.{slice_range}
use Rattle.std.specs.Str.{bytes_eq}
use Rattle.std.proofs.lemmas.Bool.{false≢true}
use Rattle.std.proofs.lemmas.Bool.Decides.{nat_tests}
use Rattle.md_tree.specs.declared.event.Tag.{Tag}
use Rattle.md_tree.specs.declared.event.Tag.TheVariants as tag
use Rattle.md_tree.specs.Good.{may_hold, may_stand, place_inside, place_after, among_inlines}
use Rattle.md_leaves.specs.declared.leaf.Kind.{Kind}
use Rattle.md_leaves.specs.declared.leaf.Kind.TheVariants as kind
use Rattle.md_leaves.specs.declared.leaf.Lone.{Lone}
use Rattle.md_leaves.specs.declared.leaf.Lone.TheVariants as lone
use Rattle.md_leaves.specs.declared.leaf.Leaf as cut
use Rattle.md_leaves.specs.declared.leaf.Mark as run
use Rattle.md_leaves.specs.declared.leaf.Mark.TheVariants as mark
use Rattle.md_leaves.specs.declared.leaf.Target.{Target}
use Rattle.md_runs.specs.declared.part.Group.{Group}
use Rattle.md_runs.specs.declared.pair.Pair.{Pair}
use Rattle.md_runs.specs.Brackets.{Part, Single, Grouped, balance, first_target, with_target, group_of, group_at, by_group, parts_after, parts, singles}
use Rattle.md_runs.specs.Pairs.{size, has_style, cost, pair_at, left_over, between}
use Rattle.md_runs.specs.Nest.{Inlines, Empty, Text, Leaf, Branch, styled, address, alone, group_tag, lone_inline, unpaired, by_pair, pairs_after, pairs, nest}
use Rattle.md_runs.specs.Levels.{is_address, is_group}
use Rattle.md_runs.specs.Texts.{spelled}
use Rattle.md_runs.proofs.PairSteps.{paired}

-- whether the inside of an element is in a link
abbrev pub inside_link : Bool → Tag → Bool
inside_link l (tag.Link dest) = true
inside_link l _ = l

-- an element that may stand among inlines and holds inlines
pub record IsElement (l : Bool) (t : Tag) : Type 0 where
  pub stands : may_stand (among_inlines l) t ≡ true
  pub inside : place_inside (among_inlines l) t ≡ among_inlines (inside_link l t)
  pub after : place_after (among_inlines l) t ≡ among_inlines l

-- levels enough are left for an element; an address needs none
pub record HasRoom (source : List ℕ) (d v : ℕ) (t : Tag) (inside : Inlines) : Type 0 where
  pub group : is_address t (spelled source None inside) ≡ false → is_group t ≡ true → 1 ≤ d
  pub style : is_group t ≡ false → 1 ≤ v

-- inlines in a link or not, where links and images may stand so many deep, and styled inlines in so many levels
abbrev pub Fits : List ℕ → ℕ → ℕ → Bool → Inlines → Type 0
Fits source d v l Empty = Unit {0}
Fits source d v l (Text p rest) = Fits source d v l rest
Fits source d v l (Leaf e rest) = (may_hold (among_inlines l) e ≡ true) × Fits source d v l rest
Fits source d v l (Branch t inside rest) = IsElement l t × (HasRoom source d v t inside × (Fits source (cond (is_group t) (d - 1) d) (v - 1) (inside_link l t) inside × Fits source d v l rest))

-- links and images stand only where they may
abbrev AreGroups : ℕ → Bool → List Part → Type 0
AreGroups d l [] = Unit {0}
AreGroups d l (Single leaf ∷ ps) = AreGroups d l ps
AreGroups d l (Grouped i target ls ∷ ps) = ((1 ≤ d) × ((l && not i) ≡ false)) × AreGroups d l ps

room : (source : List ℕ) (d v : ℕ) (t : Tag) (inside : Inlines) → is_group t ≡ false → 1 ≤ v → HasRoom source d v t inside
room source d v t inside e some = record { group = λ a g. absurd (false≢true (sym e ∙ g)); style = λ g. some }

styled-fits : (source : List ℕ) (d v : ℕ) (l : Bool) (m : run.Mark) (n : ℕ) (inside rest : Inlines) → has_style m n ≡ true → cost n ≤ v → Fits source d (v - cost n) l inside → Fits source d v l rest → Fits source d v l (styled m n inside rest)
styled-fits source d v l mark.Star zero inside rest e le f g = absurd (false≢true e)
styled-fits source d v l mark.Star (suc zero) inside rest e le f g = (record { stands = refl; inside = refl; after = refl }, (room source d v tag.Emphasis _ refl le, (f, g)))
styled-fits source d v l mark.Star (suc (suc zero)) inside rest e le f g = (record { stands = refl; inside = refl; after = refl }, (room source d v tag.Strong _ refl le, (f, g)))
styled-fits source d v l mark.Star (suc (suc (suc zero))) inside rest e le f g =
    let deep : v - 2 ≡ v - 1 - 1 = omega arith in (
      record { stands = refl; inside = refl; after = refl },
      (
        room source d v tag.Strong _ refl (omega arith),
        ((record { stands = refl; inside = refl; after = refl }, (room source d (v - 1) tag.Emphasis _ refl (omega arith), (subst (λ k. Fits source d k l inside) deep f, tt))), g),
      ),
    )
styled-fits source d v l mark.Star (suc (suc (suc (suc n)))) inside rest e le f g = absurd (large n e)
  where
    large : (n : ℕ) → (nat_lt 0 (suc (suc (suc (suc n)))) && nat_lt (suc (suc (suc (suc n)))) 4) ≡ true → ⊥
    large n e = grind (arith, nat_tests)
styled-fits source d v l mark.Underscore zero inside rest e le f g = absurd (false≢true e)
styled-fits source d v l mark.Underscore (suc zero) inside rest e le f g = (record { stands = refl; inside = refl; after = refl }, (room source d v tag.Emphasis _ refl le, (f, g)))
styled-fits source d v l mark.Underscore (suc (suc zero)) inside rest e le f g = (record { stands = refl; inside = refl; after = refl }, (room source d v tag.Strong _ refl le, (f, g)))
styled-fits source d v l mark.Underscore (suc (suc (suc zero))) inside rest e le f g =
    let deep : v - 2 ≡ v - 1 - 1 = omega arith in (
      record { stands = refl; inside = refl; after = refl },
      (
        room source d v tag.Strong _ refl (omega arith),
        ((record { stands = refl; inside = refl; after = refl }, (room source d (v - 1) tag.Emphasis _ refl (omega arith), (subst (λ k. Fits source d k l inside) deep f, tt))), g),
      ),
    )
styled-fits source d v l mark.Underscore (suc (suc (suc (suc n)))) inside rest e le f g = absurd (large n e)
  where
    large : (n : ℕ) → (nat_lt 0 (suc (suc (suc (suc n)))) && nat_lt (suc (suc (suc (suc n)))) 4) ≡ true → ⊥
    large n e = grind (arith, nat_tests)
styled-fits source d v l mark.Tilde zero inside rest e le f g = absurd (false≢true e)
styled-fits source d v l mark.Tilde (suc zero) inside rest e le f g = (record { stands = refl; inside = refl; after = refl }, (room source d v tag.Subscript _ refl le, (f, g)))
styled-fits source d v l mark.Tilde (suc (suc zero)) inside rest e le f g = (record { stands = refl; inside = refl; after = refl }, (room source d v tag.Strikethrough _ refl le, (f, g)))
styled-fits source d v l mark.Tilde (suc (suc (suc n))) inside rest e le f g = absurd (large n e)
  where
    large : (n : ℕ) → (suc (suc (suc n)) == 1 || suc (suc (suc n)) == 2) ≡ true → ⊥
    large n e = grind (arith, nat_tests)
styled-fits source d v l mark.Caret zero inside rest e le f g = absurd (false≢true e)
styled-fits source d v l mark.Caret (suc zero) inside rest e le f g = (record { stands = refl; inside = refl; after = refl }, (room source d v tag.Superscript _ refl le, (f, g)))
styled-fits source d v l mark.Caret (suc (suc n)) inside rest e le f g = absurd (large n e)
  where
    large : (n : ℕ) → (suc (suc n) == 1) ≡ true → ⊥
    large n e = grind (arith, nat_tests)

bytes_eq-same : (bs : List ℕ) → bytes_eq bs bs ≡ true
bytes_eq-same [] = refl
bytes_eq-same (b ∷ bs) = ap (λ v. v && bytes_eq bs bs) (let h : (b == b) ≡ true = grind (arith, nat_tests) in h) ∙ bytes_eq-same bs

address-fits : (source : List ℕ) (d v from to : ℕ) (rest : Inlines) → Fits source d v false rest → Fits source d v false (address source from to rest)
unfolding spelled
address-fits source d v from to rest g =
    let text : List ℕ = slice_range source from to in (
      record { stands = refl; inside = refl; after = refl },
      (
        record { group = λ e some. absurd (false≢true (sym e ∙ bytes_eq-same text)); style = λ e. absurd (false≢true (sym e)) },
        (tt, g),
      ),
    )

lone-fits : (source : List ℕ) (d v : ℕ) (l : Bool) (k : Lone) (from to : ℕ) (rest : Inlines) → Fits source d v l rest → Fits source d v l (lone_inline source l k from to rest)
lone-fits source d v l lone.Text from to rest g = g
lone-fits source d v l lone.Escape from to rest g = g
lone-fits source d v l lone.SoftBreak from to rest g = (refl, g)
lone-fits source d v l lone.HardBreak from to rest g = (refl, g)
lone-fits source d v l (lone.Code ticks) from to rest g = (refl, g)
lone-fits source d v l lone.DisplayMath from to rest g = (refl, g)
lone-fits source d v l lone.InlineMath from to rest g = (refl, g)
lone-fits source d v true lone.Address from to rest g = g
lone-fits source d v false lone.Address from to rest g = address-fits source d v (from + 1) (to - 1) rest g
lone-fits source d v l lone.Html from to rest g = (refl, g)
lone-fits source d v l lone.FootnoteReference from to rest g = (refl, g)

alone-fits : (source : List ℕ) (d v : ℕ) (l : Bool) (k : Kind) (from to : ℕ) (rest : Inlines) → Fits source d v l rest → Fits source d v l (alone source l k from to rest)
alone-fits source d v l (kind.Lone k) from to rest g = lone-fits source d v l k from to rest g
alone-fits source d v l (kind.Opener is_image) from to rest g = g
alone-fits source d v l (kind.Closer target) from to rest g = g
alone-fits source d v l (kind.Run m opens closes) from to rest g = g

group-fits : (source : List ℕ) (d v : ℕ) (l i : Bool) (dest : List ℕ) (inside rest : Inlines) → 1 ≤ d → (l && not i) ≡ false → Fits source (d - 1) (v - 1) (l || not i) inside → Fits source d v l rest → Fits source d v l (Branch (group_tag i dest) inside rest)
group-fits source d v true true dest inside rest some may f g = (record { stands = refl; inside = refl; after = refl }, (record { group = λ a e. some; style = λ e. absurd (false≢true (sym e)) }, (f, g)))
group-fits source d v false true dest inside rest some may f g = (record { stands = refl; inside = refl; after = refl }, (record { group = λ a e. some; style = λ e. absurd (false≢true (sym e)) }, (f, g)))
group-fits source d v true false dest inside rest some may f g = absurd (false≢true (sym may))
group-fits source d v false false dest inside rest some may f g = (record { stands = refl; inside = refl; after = refl }, (record { group = λ a e. some; style = λ e. absurd (false≢true (sym e)) }, (f, g)))

-- what inner reads inside a link or an image
abbrev Reads : List ℕ → ℕ → ℕ → Bool → (Bool → List cut.Leaf → Inlines) → Type 0
Reads source d v l inner = (i : Bool) (ls : List cut.Leaf) → 1 ≤ d → (l && not i) ≡ false → Fits source (d - 1) (v - 1) (l || not i) (inner i ls)

part-fits : (source : List ℕ) (d v : ℕ) (l : Bool) (inner : Bool → List cut.Leaf → Inlines) (p : Part) (ps : List Part) (rest : Inlines) → Reads source d v l inner → AreGroups d l (p ∷ ps) → Fits source d v l rest → Fits source d v l (unpaired source l inner p rest)
part-fits source d v l inner (Single leaf) ps rest r h g = alone-fits source d v l leaf.kind leaf.from leaf.to rest g
part-fits source d v l inner (Grouped i target ls) ps rest r h g =
    group-fits source d v l i (slice_range source target.from target.to) (inner i ls) rest h.0.0 h.0.1 (r i ls h.0.0 h.0.1) g

AreGroups-tail : (d : ℕ) (l : Bool) (p : Part) (ps : List Part) → AreGroups d l (p ∷ ps) → AreGroups d l ps
AreGroups-tail d l (Single leaf) ps h = h
AreGroups-tail d l (Grouped i target ls) ps h = h.1

AreGroups-take : (d : ℕ) (l : Bool) (n : ℕ) (ps : List Part) → AreGroups d l ps → AreGroups d l (take n ps)
AreGroups-take d l zero ps h = tt
AreGroups-take d l (suc n) [] h = tt
AreGroups-take d l (suc n) (Single leaf ∷ ps) h = AreGroups-take d l n ps h
AreGroups-take d l (suc n) (Grouped i target ls ∷ ps) h = (h.0, AreGroups-take d l n ps h.1)

AreGroups-append : (d : ℕ) (l : Bool) (ps qs : List Part) → AreGroups d l ps → AreGroups d l qs → AreGroups d l (ps ++ qs)
AreGroups-append d l [] qs g h = h
AreGroups-append d l (Single leaf ∷ ps) qs g h = AreGroups-append d l ps qs g h
AreGroups-append d l (Grouped i target ls ∷ ps) qs g h = (g.0, AreGroups-append d l ps qs g.1 h)

AreGroups-left : (d : ℕ) (l : Bool) (n : ℕ) (ps : List Part) → AreGroups d l (left_over n ps)
AreGroups-left d l n [] = tt
AreGroups-left d l n (Grouped i target ls ∷ ps) = tt
AreGroups-left d l n (Single leaf ∷ ps) = elim (size leaf == n) as (λ v. AreGroups d l (cond v [] (Single (record { kind = leaf.kind; from = leaf.from; to = leaf.to - n }) ∷ []))) [ true ↦ tt | false ↦ tt ]

AreGroups-between : (d : ℕ) (l : Bool) (n k : ℕ) (ps : List Part) → AreGroups d l ps → AreGroups d l (between n k ps)
AreGroups-between d l n k ps h = AreGroups-append d l (take k ps) (left_over n (drop k ps)) (AreGroups-take d l k ps h) (AreGroups-left d l n (drop k ps))

AreGroups-singles : (d : ℕ) (l : Bool) (ls : List cut.Leaf) → AreGroups d l (singles ls)
AreGroups-singles d l [] = tt
AreGroups-singles d l (leaf ∷ ls) = AreGroups-singles d l ls

with_target-image : (i : Bool) (k : ℕ) (o : Option Target) (g : Group) → with_target i k o ≡ Some g → g.is_image ≡ i
with_target-image i k None g e = cc
with_target-image i k (Some t) g e = let made : Group = record { is_image = i; target = t; more = k } in let same : made ≡ g = cc in ap (λ (x : Group). x.is_image) (sym same)

group-may : (l : Bool) (k : Kind) (c : Option ℕ) (ls : List cut.Leaf) (g : Group) → group_of l k c ls ≡ Some g → (l && not g.is_image) ≡ false
group-may l (kind.Lone lone) c ls g e = cc
group-may l (kind.Closer target) c ls g e = cc
group-may l (kind.Run m opens closes) c ls g e = cc
group-may l (kind.Opener i) None ls g e = cc
group-may l (kind.Opener i) (Some k) ls g e = go (l && not i) refl e
  where
    go : (v : Bool) → (l && not i) ≡ v → cond v None (with_target i k (first_target (drop k ls))) ≡ Some g → (l && not g.is_image) ≡ false
    go true f e = cc
    go false f e = ap (λ x. l && not x) (with_target-image i k (first_target (drop k ls)) g e) ∙ f

AreGroups-after : (d : ℕ) (l : Bool) (n : ℕ) (ls : List cut.Leaf) → 1 ≤ d → AreGroups d l (parts_after l n ls)
unfolding parts_after
AreGroups-after d l n [] some = tt
AreGroups-after d l (suc n) (leaf ∷ ls) some = AreGroups-after d l n ls some
AreGroups-after d l zero (leaf ∷ ls) some = go (group_at l leaf ls) refl (AreGroups-after d l zero ls some) (λ n. AreGroups-after d l (suc n) ls some)
  where
    go : (o : Option Group) → group_at l leaf ls ≡ o → AreGroups d l (parts_after l zero ls) → ((n : ℕ) → AreGroups d l (parts_after l (suc n) ls)) → AreGroups d l (by_group o (Single leaf ∷ parts_after l zero ls) (λ g. Grouped g.is_image g.target (take g.more ls) ∷ parts_after l (suc g.more) ls))
    go None e a b = a
    go (Some g) e a b = ((some, group-may l leaf.kind (balance 0 ls) ls g e), b g.more)

after-fits : (source : List ℕ) (d v : ℕ) (l : Bool) (inner : Bool → List cut.Leaf → Inlines) (inside : ℕ → List Part → Inlines) → Reads source d v l inner → ((n : ℕ) (qs : List Part) → 1 ≤ cost n → cost n ≤ v → AreGroups d l qs → Fits source d (v - cost n) l (inside n qs)) → (k : ℕ) (ps : List Part) → AreGroups d l ps → Fits source d v l (pairs_after source l v inner inside k ps)
unfolding pairs_after
after-fits source d v l inner inside r i k [] h = tt
after-fits source d v l inner inside r i (suc k) (p ∷ ps) h = after-fits source d v l inner inside r i k ps (AreGroups-tail d l p ps h)
after-fits source d v l inner inside r i zero (p ∷ ps) h =
    let tail = AreGroups-tail d l p ps h in
    go (pair_at source v p ps) refl (after-fits source d v l inner inside r i zero ps tail) (λ k. after-fits source d v l inner inside r i (suc k) ps tail)
  where
    go : (o : Option Pair) → pair_at source v p ps ≡ o → Fits source d v l (pairs_after source l v inner inside zero ps) → ((k : ℕ) → Fits source d v l (pairs_after source l v inner inside (suc k) ps)) → Fits source d v l (by_pair o (unpaired source l inner p (pairs_after source l v inner inside zero ps)) (λ q. styled q.mark q.size (inside q.size (between q.size q.more ps)) (pairs_after source l v inner inside (suc q.more) ps)))
    go None e a b = part-fits source d v l inner p ps _ r h a
    go (Some q) e a b =
        let f = paired source v p ps q e in
        styled-fits source d v l q.mark q.size _ _ f.style f.enough (i q.size (between q.size q.more ps) f.some f.enough (AreGroups-between d l q.size q.more ps (AreGroups-tail d l p ps h))) (b q.more)

pairs-fits : (source : List ℕ) (d : ℕ) (l : Bool) (inner : ℕ → Bool → List cut.Leaf → Inlines) → ((v : ℕ) (i : Bool) (ls : List cut.Leaf) → 1 ≤ d → (l && not i) ≡ false → Fits source (d - 1) v (l || not i) (inner v i ls)) → (v : ℕ) (ps : List Part) → AreGroups d l ps → Fits source d v l (pairs source l inner v ps)
unfolding pairs
pairs-fits source d l inner r zero ps h =
    let none : 0 ≡ 0 - 1 = omega arith in
    after-fits source d 0 l (λ i ls. inner 0 i ls) (λ n qs. Empty) (λ i ls some may. subst (λ k. Fits source (d - 1) k (l || not i) (inner 0 i ls)) none (r 0 i ls some may)) (λ n qs some le g. tt) 0 ps h
pairs-fits source d l inner r (suc zero) ps h =
    let less : 0 ≡ 1 - 1 = omega arith in
    after-fits source d 1 l (λ i ls. inner 0 i ls) (λ n qs. pairs source l inner zero qs)
    (λ i ls some may. subst (λ k. Fits source (d - 1) k (l || not i) (inner 0 i ls)) less (r 0 i ls some may))
    (λ n qs some le g. let none : 0 ≡ 1 - cost n = omega arith in subst (λ k. Fits source d k l (pairs source l inner zero qs)) none (pairs-fits source d l inner r zero qs g)) 0 ps h
pairs-fits source d l inner r (suc (suc m)) ps h =
    let less : suc m ≡ suc (suc m) - 1 = omega arith in
    after-fits source d (suc (suc m)) l (λ i ls. inner (suc m) i ls) (λ n qs. cond (n == 3) (pairs source l inner m qs) (pairs source l inner (suc m) qs))
    (λ i ls some may. subst (λ k. Fits source (d - 1) k (l || not i) (inner (suc m) i ls)) less (r (suc m) i ls some may))
    (λ n qs some le g.
    let a = pairs-fits source d l inner r m qs g in
    let b = pairs-fits source d l inner r (suc m) qs g in
    let two : m ≡ suc (suc m) - 2 = omega arith in
    elim (n == 3) as (λ v. Fits source d (suc (suc m) - cond v 2 1) l (cond v (pairs source l inner m qs) (pairs source l inner (suc m) qs))) [
      | true ↦ subst (λ k. Fits source d k l (pairs source l inner m qs)) two a
      | false ↦ subst (λ k. Fits source d k l (pairs source l inner (suc m) qs)) less b
    ]) 0 ps h

-- the inlines of leaves fit where they are read
pub nest-fits : (source : List ℕ) (d v : ℕ) (l : Bool) (ls : List cut.Leaf) → Fits source d v l (nest source d v l ls)
unfolding nest
nest-fits source zero v l ls = pairs-fits source 0 l (λ v i qs. Empty) (λ v i qs some may. tt) v (singles ls) (AreGroups-singles 0 l ls)
nest-fits source (suc d) v l ls =
    let less : d ≡ suc d - 1 = omega arith in
    pairs-fits source (suc d) l (λ v i qs. nest source d v (l || not i) qs)
    (λ v i qs some may. subst (λ k. Fits source k v (l || not i) (nest source d v (l || not i) qs)) less (nest-fits source d v (l || not i) qs))
    v (parts l ls) (AreGroups-after (suc d) l 0 ls (omega arith))
