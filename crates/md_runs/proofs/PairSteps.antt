-- Pairs one after another, and the steps that they are written in.
use Rattle.std.proofs.Common.{append-nil, List, [], ◌∷◌, ◌++◌, drop, ◌≡◌, ◌≤◌, ◌-◌, ◌==◌, ◌&&◌, ℕ, zero, suc, refl, sym, ap, subst, ◌∙◌, arith, Bool, true, false, cond, Option, Some, None, append_assoc}
use Rattle.std.specs.Prelude.{nat_le}
use Rattle.std.specs.List.{slice_range}
use Rattle.std.proofs.lemmas.Bool.Decides.{nat_tests}
use Rattle.md_tree.specs.declared.event.Event.{Event}
use Rattle.md_tree.specs.declared.event.Event.TheVariants as event
use Rattle.md_tree.specs.declared.event.Tag.TheVariants as tag
use Rattle.md_tree.specs.declared.event.TagEnd.TheVariants as tag_end
use Rattle.md_tree.specs.Tree.{end_of}
use Rattle.md_leaves.specs.declared.leaf.Kind.{Kind}
use Rattle.md_leaves.specs.declared.leaf.Kind.TheVariants as kind
use Rattle.md_leaves.specs.declared.leaf.Lone.{Lone}
use Rattle.md_leaves.specs.declared.leaf.Lone.TheVariants as lone
use Rattle.md_leaves.specs.declared.leaf.Leaf as cut
use Rattle.md_leaves.specs.declared.leaf.Mark as run
use Rattle.md_leaves.specs.declared.leaf.Mark.TheVariants as mark
use Rattle.md_runs.specs.declared.pair.Pair.{Pair}
use Rattle.md_runs.specs.Brackets.{Part, Single, Grouped}
use Rattle.md_runs.specs.Pairs.{size, has_style, search, is_taken, pair_with, cost, pair_of, pair_at, between}
use Rattle.md_runs.specs.Nest.{Inlines, Empty, Branch, stressed, styled, alone, group_tag, lone_inline, unpaired, pairs_after, pairs, inner, nest, parts_of}
use Rattle.md_runs.specs.Marks.{Step, An, steps, stress_opened, opened, stress_closed, closed, alone_steps, lone_steps}
use Rattle.md_runs.proofs.Lists.{both-true}

pub nest-parts : (source : List ℕ) (depth levels : ℕ) (in_link : Bool) (ls : List cut.Leaf) → nest source depth levels in_link ls ≡ pairs source in_link (inner source depth in_link) levels (parts_of depth in_link ls)
unfolding nest
nest-parts source zero levels in_link ls = refl
nest-parts source (suc depth) levels in_link ls = refl

pub pairs-none : (source : List ℕ) (in_link : Bool) (inner : ℕ → Bool → List cut.Leaf → Inlines) (n : ℕ) → pairs source in_link inner n [] ≡ Empty
unfolding pairs pairs_after
pairs-none source in_link inner zero = refl
pairs-none source in_link inner (suc zero) = refl
pairs-none source in_link inner (suc (suc m)) = refl

-- a part that begins no pair
pub pairs-unpaired : (source : List ℕ) (in_link : Bool) (inner : ℕ → Bool → List cut.Leaf → Inlines) (n : ℕ) (p : Part) (ps : List Part) → pair_at source n p ps ≡ None → pairs source in_link inner n (p ∷ ps) ≡ unpaired source in_link (inner (n - 1)) p (pairs source in_link inner n ps)
unfolding pairs pairs_after
pairs-unpaired source in_link inner zero p ps e = rw e (ap (λ k. unpaired source in_link (inner k) p (pairs source in_link inner zero ps)) (let z : 0 ≡ 0 - 1 = omega arith in z))
pairs-unpaired source in_link inner (suc zero) p ps e = rw e (ap (λ k. unpaired source in_link (inner k) p (pairs source in_link inner 1 ps)) (let z : 0 ≡ 1 - 1 = omega arith in z))
pairs-unpaired source in_link inner (suc (suc m)) p ps e = rw e (ap (λ k. unpaired source in_link (inner k) p (pairs source in_link inner (suc (suc m)) ps)) (let z : suc m ≡ suc (suc m) - 1 = omega arith in z))

after-skip : (source : List ℕ) (in_link : Bool) (n : ℕ) (inner : Bool → List cut.Leaf → Inlines) (inside : ℕ → List Part → Inlines) (k : ℕ) (ps : List Part) → pairs_after source in_link n inner inside k ps ≡ pairs_after source in_link n inner inside 0 (drop k ps)
unfolding pairs_after
after-skip source in_link n inner inside zero ps = refl
after-skip source in_link n inner inside (suc k) [] = refl
after-skip source in_link n inner inside (suc k) (p ∷ ps) = after-skip source in_link n inner inside k ps

cost-positive : (n : ℕ) → 1 ≤ cost n
cost-positive n = elim (n == 3) as (λ v. 1 ≤ cond v 2 1) [ true ↦ omega arith | false ↦ omega arith ]

-- what a pair says
pub record Paired (source : List ℕ) (levels : ℕ) (ps : List Part) (q : Pair) : Type 0 where
  pub enough : cost q.size ≤ levels
  pub some : 1 ≤ cost q.size
  pub found : search q.mark q.size ps ≡ Some q.more
  pub from : ℕ
  pub style : has_style q.mark q.size ≡ true
  pub taken : is_taken source q.mark q.size from (drop q.more ps) ≡ true

chosen : (b : Bool) (x : Option Pair) (q : Pair) → cond b x None ≡ Some q → (b ≡ true) × (x ≡ Some q)
chosen true x q e = (refl, e)
chosen false x q e = cc

paired-with : (source : List ℕ) (levels : ℕ) (m : run.Mark) (n from : ℕ) (o : Option ℕ) (ps : List Part) (q : Pair) → cost n ≤ levels → has_style m n ≡ true → search m n ps ≡ o → pair_with source m n from o ps ≡ Some q → Paired source levels ps q
paired-with source levels m n from None ps q le s f e = cc
paired-with source levels m n from (Some k) ps q le s f e = go (is_taken source m n from (drop k ps)) refl e
  where
    go : (v : Bool) → is_taken source m n from (drop k ps) ≡ v → cond v (Some (record { mark = m; size = n; more = k })) None ≡ Some q → Paired source levels ps q
    go true t e =
        let here : Paired source levels ps (record { mark = m; size = n; more = k }) = record { enough = le; some = cost-positive n; found = f; from = from; style = s; taken = t } in
        let r : Pair = record { mark = m; size = n; more = k } in
        let same : r ≡ q = cc in
        subst (Paired source levels ps) same here
    go false t e = cc

paired-of : (source : List ℕ) (levels : ℕ) (kind : Kind) (n to : ℕ) (ps : List Part) (q : Pair) → pair_of source levels kind n to ps ≡ Some q → Paired source levels ps q
paired-of source levels (kind.Lone lone) n to ps q e = cc
paired-of source levels (kind.Opener is_image) n to ps q e = cc
paired-of source levels (kind.Closer target) n to ps q e = cc
paired-of source levels (kind.Run m opens closes) n to ps q e =
    let c = chosen ((opens && has_style m n) && nat_le (cost n) levels) (pair_with source m n to (search m n ps) ps) q e in
    let b = both-true (opens && has_style m n) (nat_le (cost n) levels) c.0 in
    paired-with source levels m n to (search m n ps) ps q (le (cost n) levels b.1) (both-true opens (has_style m n) b.0).1 refl c.1
  where
    le : (m n : ℕ) → nat_le m n ≡ true → m ≤ n
    le m n e = grind (arith, nat_tests)

pub paired : (source : List ℕ) (levels : ℕ) (p : Part) (ps : List Part) (q : Pair) → pair_at source levels p ps ≡ Some q → Paired source levels ps q
paired source levels (Single l) ps q e = paired-of source levels l.kind (size l) l.to ps q e
paired source levels (Grouped is_image target ls) ps q e = cc

-- a part and its partner are a pair
pub pairs-pair : (source : List ℕ) (in_link : Bool) (inner : ℕ → Bool → List cut.Leaf → Inlines) (n : ℕ) (p : Part) (ps : List Part) (q : Pair) → pair_at source n p ps ≡ Some q → pairs source in_link inner n (p ∷ ps) ≡ styled q.mark q.size (pairs source in_link inner (n - cost q.size) (between q.size q.more ps)) (pairs source in_link inner n (drop (suc q.more) ps))
unfolding pairs pairs_after
pairs-pair source in_link inner zero p ps q e = let d = paired source zero p ps q e in let l = d.enough in let c = d.some in absurd (omega arith)
pairs-pair source in_link inner (suc zero) p ps q e =
    let d = paired source 1 p ps q e in
    let l = d.enough in
    let c = d.some in
    let z : 0 ≡ 1 - cost q.size = omega arith in
    rw e (ap (λ x. styled q.mark q.size (pairs source in_link inner 0 (between q.size q.more ps)) x) (after-skip source in_link 1 (λ i ls. inner 0 i ls) (λ n qs. pairs source in_link inner zero qs) (suc q.more) ps) ∙ ap (λ j. styled q.mark q.size (pairs source in_link inner j (between q.size q.more ps)) (pairs source in_link inner 1 (drop (suc q.more) ps))) z)
pairs-pair source in_link inner (suc (suc m)) p ps q e =
    let X : List Part = between q.size q.more ps in
    let inside : cond (q.size == 3) (pairs source in_link inner m X) (pairs source in_link inner (suc m) X) ≡ pairs source in_link inner (suc (suc m) - cost q.size) X =
    elim (q.size == 3) as (λ v. cond v (pairs source in_link inner m X) (pairs source in_link inner (suc m) X) ≡ pairs source in_link inner (suc (suc m) - cond v 2 1) X) [ true ↦ ap (λ j. pairs source in_link inner j X) (less_two m) | false ↦ ap (λ j. pairs source in_link inner j X) (less_one m) ] in
    rw e (ap (λ x. styled q.mark q.size (cond (q.size == 3) (pairs source in_link inner m X) (pairs source in_link inner (suc m) X)) x) (after-skip source in_link (suc (suc m)) (λ i ls. inner (suc m) i ls) (λ n qs. cond (n == 3) (pairs source in_link inner m qs) (pairs source in_link inner (suc m) qs)) (suc q.more) ps) ∙ ap (λ y. styled q.mark q.size y (pairs source in_link inner (suc (suc m)) (drop (suc q.more) ps))) inside)
  where
    less_two : (m : ℕ) → m ≡ suc (suc m) - 2
    less_two m = omega arith

    less_one : (m : ℕ) → suc m ≡ suc (suc m) - 1
    less_one m = omega arith

-- what stands behind a part is written behind it
lone-rest : (source : List ℕ) (in_link : Bool) (l : Lone) (from to : ℕ) (rest : Inlines)
    → steps (lone_inline source in_link l from to rest) ≡ lone_steps source in_link l from to ++ steps rest
unfolding steps
lone-rest source in_link lone.Text from to rest = refl
lone-rest source in_link lone.Escape from to rest = refl
lone-rest source in_link lone.SoftBreak from to rest = refl
lone-rest source in_link lone.HardBreak from to rest = refl
lone-rest source in_link (lone.Code ticks) from to rest = refl
lone-rest source in_link lone.DisplayMath from to rest = refl
lone-rest source in_link lone.InlineMath from to rest = refl
lone-rest source true lone.Address from to rest = refl
lone-rest source false lone.Address from to rest = refl
lone-rest source in_link lone.Html from to rest = refl
lone-rest source in_link lone.FootnoteReference from to rest = refl

alone-rest : (source : List ℕ) (in_link : Bool) (k : Kind) (from to : ℕ) (rest : Inlines)
    → steps (alone source in_link k from to rest) ≡ alone_steps source in_link k from to ++ steps rest
unfolding steps
alone-rest source in_link (kind.Lone l) from to rest = lone-rest source in_link l from to rest
alone-rest source in_link (kind.Opener is_image) from to rest = refl
alone-rest source in_link (kind.Closer target) from to rest = refl
alone-rest source in_link (kind.Run m opens closes) from to rest = refl

pub steps-alone : (source : List ℕ) (in_link : Bool) (inner : Bool → List cut.Leaf → Inlines) (l : cut.Leaf)
    → steps (unpaired source in_link inner (Single l) Empty) ≡ alone_steps source in_link l.kind l.from l.to
unfolding steps
steps-alone source in_link inner l =
    alone-rest source in_link l.kind l.from l.to Empty ∙ append-nil (alone_steps source in_link l.kind l.from l.to)

branch-rest : (t : tag.the_data) (inside rest : Inlines) → steps (Branch t inside rest) ≡ steps (Branch t inside Empty) ++ steps rest
unfolding steps
branch-rest t inside rest = ap (λ x. An (event.Start t) ∷ x) (sym (append_assoc (steps inside) (An (event.End (end_of t)) ∷ []) (steps rest)))

pub unpaired-rest : (source : List ℕ) (in_link : Bool) (inner : Bool → List cut.Leaf → Inlines) (p : Part) (rest : Inlines) → steps (unpaired source in_link inner p rest) ≡ steps (unpaired source in_link inner p Empty) ++ steps rest
unfolding steps
unpaired-rest source in_link inner (Single l) rest = alone-rest source in_link l.kind l.from l.to rest ∙ ap (λ x. x ++ steps rest) (sym (steps-alone source in_link inner l))
unpaired-rest source in_link inner (Grouped is_image target ls) rest = branch-rest (group_tag is_image (slice_range source target.from target.to)) (inner is_image ls) rest

stressed-rest : (n : ℕ) (inside rest : Inlines) → steps (stressed n inside rest) ≡ steps (stressed n inside Empty) ++ steps rest
stressed-rest n inside rest =
    let A = branch-rest tag.Emphasis inside rest in
    let B = branch-rest tag.Strong inside rest in
    let C = branch-rest tag.Strong (Branch tag.Emphasis inside Empty) rest in
    elim (n == 1) as (λ v. steps (cond v (Branch tag.Emphasis inside rest) (cond (n == 2) (Branch tag.Strong inside rest) (Branch tag.Strong (Branch tag.Emphasis inside Empty) rest))) ≡ steps (cond v (Branch tag.Emphasis inside Empty) (cond (n == 2) (Branch tag.Strong inside Empty) (Branch tag.Strong (Branch tag.Emphasis inside Empty) Empty))) ++ steps rest) [
      | true ↦ A
      | false ↦ elim (n == 2) as (λ v. steps (cond v (Branch tag.Strong inside rest) (Branch tag.Strong (Branch tag.Emphasis inside Empty) rest)) ≡ steps (cond v (Branch tag.Strong inside Empty) (Branch tag.Strong (Branch tag.Emphasis inside Empty) Empty)) ++ steps rest) [ true ↦ B | false ↦ C ]
    ]

pub styled-rest : (m : run.Mark) (n : ℕ) (inside rest : Inlines) → steps (styled m n inside rest) ≡ steps (styled m n inside Empty) ++ steps rest
styled-rest mark.Star n inside rest = stressed-rest n inside rest
styled-rest mark.Underscore n inside rest = stressed-rest n inside rest
styled-rest mark.Caret n inside rest = branch-rest tag.Superscript inside rest
styled-rest mark.Tilde n inside rest =
    let A = branch-rest tag.Subscript inside rest in
    let B = branch-rest tag.Strikethrough inside rest in
    elim (n == 1) as (λ v. steps (cond v (Branch tag.Subscript inside rest) (Branch tag.Strikethrough inside rest)) ≡ steps (cond v (Branch tag.Subscript inside Empty) (Branch tag.Strikethrough inside Empty)) ++ steps rest) [ true ↦ A | false ↦ B ]

steps-stressed : (n : ℕ) (inside : Inlines) → steps (stressed n inside Empty) ≡ stress_opened n ++ (steps inside ++ stress_closed n)
unfolding steps
steps-stressed n inside =
    let s_e : Step = An (event.Start tag.Emphasis) in
    let s_s : Step = An (event.Start tag.Strong) in
    let e_e : Step = An (event.End tag_end.Emphasis) in
    let e_s : Step = An (event.End tag_end.Strong) in
    elim (n == 1) as (λ v. steps (cond v (Branch tag.Emphasis inside Empty) (cond (n == 2) (Branch tag.Strong inside Empty) (Branch tag.Strong (Branch tag.Emphasis inside Empty) Empty))) ≡ cond v (s_e ∷ []) (cond (n == 2) (s_s ∷ []) (s_s ∷ s_e ∷ [])) ++ (steps inside ++ cond v (e_e ∷ []) (cond (n == 2) (e_s ∷ []) (e_e ∷ e_s ∷ [])))) [
      | true ↦ refl
      | false ↦ elim (n == 2) as (λ v. steps (cond v (Branch tag.Strong inside Empty) (Branch tag.Strong (Branch tag.Emphasis inside Empty) Empty)) ≡ cond v (s_s ∷ []) (s_s ∷ s_e ∷ []) ++ (steps inside ++ cond v (e_s ∷ []) (e_e ∷ e_s ∷ []))) [
        | true ↦ refl
        | false ↦ ap (λ x. s_s ∷ s_e ∷ x) (append_assoc (steps inside) (e_e ∷ []) (e_s ∷ []))
      ]
    ]

pub steps-styled : (m : run.Mark) (n : ℕ) (inside : Inlines) → steps (styled m n inside Empty) ≡ opened m n ++ (steps inside ++ closed m n)
unfolding steps
steps-styled mark.Star n inside = steps-stressed n inside
steps-styled mark.Underscore n inside = steps-stressed n inside
steps-styled mark.Caret n inside = refl
steps-styled mark.Tilde n inside =
    let s_b : Step = An (event.Start tag.Subscript) in
    let s_k : Step = An (event.Start tag.Strikethrough) in
    let e_b : Step = An (event.End tag_end.Subscript) in
    let e_k : Step = An (event.End tag_end.Strikethrough) in
    elim (n == 1) as (λ v. steps (cond v (Branch tag.Subscript inside Empty) (Branch tag.Strikethrough inside Empty)) ≡ cond v (s_b ∷ []) (s_k ∷ []) ++ (steps inside ++ cond v (e_b ∷ []) (e_k ∷ []))) [ true ↦ refl | false ↦ refl ]

-- a link or an image
pub steps-group : (source : List ℕ) (is_image : Bool) (dest : List ℕ) (inside : Inlines) → steps (Branch (group_tag is_image dest) inside Empty) ≡ (An (event.Start (group_tag is_image dest)) ∷ []) ++ (steps inside ++ An (event.End (end_of (group_tag is_image []))) ∷ [])
unfolding steps
steps-group source true dest inside = refl
steps-group source false dest inside = refl

-- where no link or image may stand, none is read
pub inner-none : (source : List ℕ) (depth : ℕ) (in_link : Bool) (levels : ℕ) (is_image : Bool) (ls : List cut.Leaf) → depth ≡ 0 → steps (inner source depth in_link levels is_image ls) ≡ []
unfolding steps
inner-none source zero in_link levels is_image ls e = refl
inner-none source (suc depth) in_link levels is_image ls e = absurd (omega arith)

-- steps written one after another
pub turn : (F0 F1 F : List Step → List Event) (first all here there : List Step) → here ≡ first ++ there → ((ss : List Step) → F1 ss ≡ F0 (first ++ ss)) → ((ss : List Step) → F0 (here ++ ss) ≡ F (all ++ ss)) → (ss : List Step) → F1 (there ++ ss) ≡ F (all ++ ss)
turn F0 F1 F first all here there e w h ss =
    w (there ++ ss) ∙ (ap F0 (sym (append_assoc first there ss) ∙ ap (λ x. x ++ ss) (sym e)) ∙ h ss)

pub three-turns : (F0 F1 F2 F3 : List Step → List Event) (a b c all : List Step) → all ≡ a ++ (b ++ c) → ((ss : List Step) → F1 ss ≡ F0 (a ++ ss)) → ((ss : List Step) → F2 ss ≡ F1 (b ++ ss)) → ((ss : List Step) → F3 ss ≡ F2 (c ++ ss)) → (ss : List Step) → F3 ss ≡ F0 (all ++ ss)
three-turns F0 F1 F2 F3 a b c all e p q r ss =
    r ss ∙ (q (c ++ ss) ∙ (p (b ++ (c ++ ss)) ∙ ap F0 (sym (ap (λ x. x ++ ss) e ∙ (append_assoc a (b ++ c) ss ∙ ap (λ x. a ++ x) (append_assoc b c ss))))))
