-- Leaves among which no element begins are written one by one.
use Rattle.std.proofs.Common.{List, [], ◌∷◌, ◌++◌, length, drop, get_or, ◌≡◌, ◌<◌, ◌+◌, ◌-◌, ◌||◌, ℕ, zero, suc, refl, ap, ◌∙◌, arith, Bool, true, false, Option, None}
use Rattle.std.specs.List.{list_any}
use Rattle.std.proofs.lemmas.List.{drop_more}
use Rattle.md_leaves.specs.declared.leaf.Kind.{Kind}
use Rattle.md_leaves.specs.declared.leaf.Kind.TheVariants as kind
use Rattle.md_leaves.specs.declared.leaf.Leaf as cut
use Rattle.md_leaves.specs.Cuts.{IsLeaf, AreLeaves}
use Rattle.md_runs.specs.Brackets.{Part, Single, is_opener, balance, group_of, parts, singles}
use Rattle.md_runs.specs.Pairs.{size, pair_of}
use Rattle.md_runs.specs.Nest.{Inlines, pairs, inner, nest, parts_of}
use Rattle.md_runs.specs.Marks.{steps, alone_steps}
use Rattle.md_runs.specs.Plain.{begins_element, leaf_begins_element, leaf_is_opener, plain_steps}
use Rattle.md_runs.proofs.PartSteps.{parts-none, parts-single}
use Rattle.md_runs.proofs.PairSteps.{nest-parts, pairs-none, pairs-unpaired, unpaired-rest, steps-alone}

neither : (a b : Bool) → (a || b) ≡ false → (a ≡ false) × (b ≡ false)
neither true b e = cc
neither false b e = (refl, e)

no-group : (l : Bool) (k : Kind) (c : Option ℕ) (ls : List cut.Leaf) → is_opener k ≡ false → group_of l k c ls ≡ None
no-group l (kind.Lone lone) c ls e = refl
no-group l (kind.Opener i) c ls e = cc
no-group l (kind.Closer target) c ls e = refl
no-group l (kind.Run m opens closes) c ls e = refl

no-pair : (source : List ℕ) (v : ℕ) (k : Kind) (n to : ℕ) (ps : List Part) → begins_element k ≡ false → pair_of source v k n to ps ≡ None
no-pair source v (kind.Lone lone) n to ps e = refl
no-pair source v (kind.Opener i) n to ps e = refl
no-pair source v (kind.Closer target) n to ps e = refl
no-pair source v (kind.Run m opens closes) n to ps e = rw e refl

parts-plain : (l : Bool) (ls : List cut.Leaf) → list_any leaf_is_opener ls ≡ false → parts l ls ≡ singles ls
parts-plain l [] e = parts-none l
parts-plain l (leaf ∷ ls) e =
    let n = neither (is_opener leaf.kind) (list_any leaf_is_opener ls) e in
    parts-single l leaf ls (no-group l leaf.kind (balance 0 ls) ls n.0) ∙ ap (λ ps. Single leaf ∷ ps) (parts-plain l ls n.1)

pub parts_of-plain : (d : ℕ) (l : Bool) (ls : List cut.Leaf) → list_any leaf_is_opener ls ≡ false → parts_of d l ls ≡ singles ls
parts_of-plain zero l ls e = refl
parts_of-plain (suc d) l ls e = parts-plain l ls e

no-opener : (k : Kind) → begins_element k ≡ false → is_opener k ≡ false
no-opener (kind.Lone lone) e = refl
no-opener (kind.Opener i) e = cc
no-opener (kind.Closer target) e = refl
no-opener (kind.Run m opens closes) e = refl

no-openers : (ls : List cut.Leaf) → list_any leaf_begins_element ls ≡ false → list_any leaf_is_opener ls ≡ false
no-openers [] e = refl
no-openers (leaf ∷ ls) e =
    let n = neither (begins_element leaf.kind) (list_any leaf_begins_element ls) e in
    rw (no-opener leaf.kind n.0) (no-openers ls n.1)

pairs-plain : (source : List ℕ) (l : Bool) (inner : ℕ → Bool → List cut.Leaf → Inlines) (v : ℕ) (ls : List cut.Leaf) → list_any leaf_begins_element ls ≡ false → steps (pairs source l inner v (singles ls)) ≡ plain_steps source l ls
unfolding steps plain_steps
pairs-plain source l inner v [] e = ap steps (pairs-none source l inner v)
pairs-plain source l inner v (leaf ∷ ls) e =
    let n = neither (begins_element leaf.kind) (list_any leaf_begins_element ls) e in
    ap steps (pairs-unpaired source l inner v (Single leaf) (singles ls) (no-pair source v leaf.kind (size leaf) leaf.to (singles ls) n.0))
    ∙ (unpaired-rest source l (inner (v - 1)) (Single leaf) (pairs source l inner v (singles ls))
    ∙ (ap (λ x. x ++ steps (pairs source l inner v (singles ls))) (steps-alone source l (inner (v - 1)) leaf)
    ∙ ap (λ x. alone_steps source l leaf.kind leaf.from leaf.to ++ x) (pairs-plain source l inner v ls n.1)))

pub steps-plain : (source : List ℕ) (d v : ℕ) (l : Bool) (ls : List cut.Leaf) → list_any leaf_begins_element ls ≡ false → steps (nest source d v l ls) ≡ plain_steps source l ls
steps-plain source d v l ls e =
    ap steps (nest-parts source d v l ls) ∙ (ap (λ ps. steps (pairs source l (inner source d l) v ps)) (parts_of-plain d l ls (no-openers ls e)) ∙ pairs-plain source l (inner source d l) v ls e)

pub AreLeaves-get : (source : List ℕ) (n : ℕ) (ls : List cut.Leaf) (d : cut.Leaf) → n < length ls → AreLeaves source ls → IsLeaf source (get_or ls n d)
AreLeaves-get source n [] d lt h = absurd (omega arith)
AreLeaves-get source zero (leaf ∷ ls) d lt h = h.0
AreLeaves-get source (suc n) (leaf ∷ ls) d lt h = AreLeaves-get source n ls d (omega arith) h.1

pub plain-step : (source : List ℕ) (l : Bool) (at : ℕ) (ls : List cut.Leaf) (d : cut.Leaf) → at < length ls
    → plain_steps source l (drop at ls)
    ≡ alone_steps source l (get_or ls at d).kind (get_or ls at d).from (get_or ls at d).to ++ plain_steps source l (drop (at + 1) ls)
unfolding plain_steps
plain-step source l at ls d lt = ap (plain_steps source l) (drop_more ls at d lt)
