-- The turns of the loop over the parts of a level.
use Rattle.std.proofs.Common.{List, [], ◌∷◌, ◌++◌, length, drop, take, get_or, ◌≡◌, ◌≤◌, ◌<◌, ◌+◌, ◌-◌, ℕ, suc, sym, ap, ◌∙◌, arith, Bool, Some, None, length-drop}
use Rattle.std.proofs.lemmas.List.{drop_more}
use Rattle.std.proofs.Math.ListN.{drop_of_length-le}
use Rattle.md_leaves.specs.declared.leaf.Leaf as cut
use Rattle.md_runs.specs.declared.pair.Pair.{Pair}
use Rattle.md_runs.specs.Brackets.{Part}
use Rattle.md_runs.specs.Pairs.{cost, pair_at, first_pair, between}
use Rattle.md_runs.specs.Nest.{Inlines, Empty, styled, unpaired, pairs}
use Rattle.md_runs.specs.Marks.{steps}
use Rattle.md_runs.specs.Facts.{AreParts}
use Rattle.md_runs.proofs.Lists.{drop-drop, slice-rest}
use Rattle.md_runs.proofs.PairSteps.{pairs-none, pairs-unpaired, pairs-pair, paired, unpaired-rest, styled-rest}
use Rattle.md_runs.proofs.PartFacts.{search-within, AreParts-between}

-- what is known of the pair that the first of the parts begins
pub record Begins (source : List ℕ) (n : ℕ) (ps : List Part) (q : Pair) : Type 0 where
  pub enough : cost q.size ≤ n
  pub some : 1 ≤ cost q.size
  pub within : q.more + 2 ≤ length ps
  pub inside : AreParts source ps → AreParts source (between q.size q.more (drop 1 ps))

pub begins : (source : List ℕ) (n : ℕ) (ps : List Part) (q : Pair) → first_pair source n ps ≡ Some q → Begins source n ps q
begins source n [] q e = cc
begins source n (p ∷ ps) q e =
    let h = paired source n p ps q e in
    let lt = search-within q.mark q.size q.more ps p h.found in
    record {
      enough = h.enough;
      some = h.some;
      within = omega arith;
      inside = λ a. AreParts-between source q.mark q.size q.more ps p h.found a.1;
    }

pair-steps : (source : List ℕ) (in_link : Bool) (inner : ℕ → Bool → List cut.Leaf → Inlines) (n : ℕ) (ps : List Part) (q : Pair) → first_pair source n ps ≡ Some q → steps (pairs source in_link inner n ps) ≡ steps (styled q.mark q.size (pairs source in_link inner (n - cost q.size) (between q.size q.more (drop 1 ps))) Empty) ++ steps (pairs source in_link inner n (drop (q.more + 2) ps))
pair-steps source in_link inner n [] q e = cc
pair-steps source in_link inner n (p ∷ ps) q e =
    let inside : Inlines = pairs source in_link inner (n - cost q.size) (between q.size q.more ps) in
    ap steps (pairs-pair source in_link inner n p ps q e)
    ∙ (styled-rest q.mark q.size inside (pairs source in_link inner n (drop (suc q.more) ps))
    ∙ ap (λ k. steps (styled q.mark q.size inside Empty) ++ steps (pairs source in_link inner n (drop k (p ∷ ps)))) (let e : suc (suc q.more) ≡ q.more + 2 = omega arith in e))

-- the pair at a place
pub pair-turn : (source : List ℕ) (in_link : Bool) (inner : ℕ → Bool → List cut.Leaf → Inlines) (n at : ℕ) (ps : List Part) (q : Pair) → first_pair source n (take (length ps - at) (drop at ps)) ≡ Some q → steps (pairs source in_link inner n (drop at ps)) ≡ steps (styled q.mark q.size (pairs source in_link inner (n - cost q.size) (between q.size q.more (drop 1 (take (length ps - at) (drop at ps))))) Empty) ++ steps (pairs source in_link inner n (drop (at + (q.more + 2)) ps))
pair-turn source in_link inner n at ps q e =
    let rest = slice-rest at ps in
    ap (λ x. steps (pairs source in_link inner n x)) (sym rest)
    ∙ (pair-steps source in_link inner n (take (length ps - at) (drop at ps)) q e
    ∙ ap (λ x. steps (styled q.mark q.size (pairs source in_link inner (n - cost q.size) (between q.size q.more (drop 1 (take (length ps - at) (drop at ps))))) Empty) ++ steps (pairs source in_link inner n x)) (ap (drop (q.more + 2)) rest ∙ sym (drop-drop (q.more + 2) at ps)))

pub pair-within : (source : List ℕ) (n at : ℕ) (ps : List Part) (q : Pair) → at ≤ length ps → first_pair source n (take (length ps - at) (drop at ps)) ≡ Some q → at + (q.more + 2) ≤ length ps
pair-within source n at ps q le e =
    let w = (begins source n (take (length ps - at) (drop at ps)) q e).within in
    let len : length (take (length ps - at) (drop at ps)) ≡ length ps - at = ap length (slice-rest at ps) ∙ length-drop at ps in
    omega arith

-- the part at a place that is in no pair
pub part-turn : (source : List ℕ) (in_link : Bool) (inner : ℕ → Bool → List cut.Leaf → Inlines) (n at : ℕ) (ps : List Part) (p : Part) → at < length ps → p ≡ get_or ps at p → first_pair source n (take (length ps - at) (drop at ps)) ≡ None → steps (pairs source in_link inner n (drop at ps)) ≡ steps (unpaired source in_link (inner (n - 1)) p Empty) ++ steps (pairs source in_link inner n (drop (at + 1) ps))
part-turn source in_link inner n at ps p lt g e =
    let here : drop at ps ≡ p ∷ drop (at + 1) ps = drop_more ps at p lt ∙ ap (λ x. x ∷ drop (at + 1) ps) (sym g) in
    let none : pair_at source n p (drop (at + 1) ps) ≡ None = ap (first_pair source n) (sym (slice-rest at ps ∙ here)) ∙ e in
    ap (λ x. steps (pairs source in_link inner n x)) here
    ∙ (ap steps (pairs-unpaired source in_link inner n p (drop (at + 1) ps) none) ∙ unpaired-rest source in_link (inner (n - 1)) p (pairs source in_link inner n (drop (at + 1) ps)))

pub no-turn : (source : List ℕ) (in_link : Bool) (inner : ℕ → Bool → List cut.Leaf → Inlines) (n at : ℕ) (ps : List Part) → length ps ≤ at → steps (pairs source in_link inner n (drop at ps)) ≡ []
unfolding steps
no-turn source in_link inner n at ps le = ap (λ x. steps (pairs source in_link inner n x)) (drop_of_length-le ps le) ∙ ap steps (pairs-none source in_link inner n)
