-- The parts of leaves, one after another.
use Rattle.std.proofs.Common.{not, ◌&&◌, List, [], ◌∷◌, ◌++◌, length, drop, take, get_or, ◌≡◌, ◌≤◌, ◌<◌, ◌+◌, ◌-◌, ℕ, zero, suc, refl, sym, ap, ◌∙◌, arith, Bool, true, false, cond, Option, Some, None}
use Rattle.std.proofs.lemmas.List.{drop_more}
use Rattle.std.proofs.Common.{append_assoc, length-drop}
use Rattle.md_leaves.specs.declared.leaf.Kind.{Kind}
use Rattle.md_leaves.specs.declared.leaf.Kind.TheVariants as kind
use Rattle.md_leaves.specs.declared.leaf.Leaf.{Leaf}
use Rattle.md_leaves.specs.declared.leaf.Target.{Target}
use Rattle.md_runs.specs.declared.part.Group.{Group}
use Rattle.md_runs.specs.Brackets.{Part, Single, Grouped, balance, first_target, with_target, group_of, group_at, parts, parts_after}
use Rattle.md_runs.specs.Partners.{balances}
use Rattle.md_runs.proofs.Balance.{balances-get}
use Rattle.md_runs.proofs.Lists.{drop-drop, slice-rest}

-- leaves that are passed over
parts_after-skip : (in_link : Bool) (n : ℕ) (ls : List Leaf) → parts_after in_link n ls ≡ parts in_link (drop n ls)
unfolding parts_after
parts_after-skip in_link zero ls = refl
parts_after-skip in_link (suc n) [] = refl
parts_after-skip in_link (suc n) (l ∷ ls) = parts_after-skip in_link n ls

pub parts-none : (in_link : Bool) → parts in_link [] ≡ []
unfolding parts_after
parts-none in_link = refl

pub parts-single : (in_link : Bool) (l : Leaf) (ls : List Leaf) → group_at in_link l ls ≡ None → parts in_link (l ∷ ls) ≡ Single l ∷ parts in_link ls
unfolding parts_after
parts-single in_link l ls e = rw e refl

pub parts-group : (in_link : Bool) (l : Leaf) (ls : List Leaf) (g : Group) → group_at in_link l ls ≡ Some g → parts in_link (l ∷ ls) ≡ Grouped g.is_image g.target (take g.more ls) ∷ parts in_link (drop (suc g.more) ls)
unfolding parts_after
parts-group in_link l ls g e = rw e (ap (λ ps. Grouped g.is_image g.target (take g.more ls) ∷ ps) (parts_after-skip in_link (suc g.more) ls))

-- the closer of a group stands among the leaves
targeted : (is_image : Bool) (k : ℕ) (o : Option Target) (g : Group) → with_target is_image k o ≡ Some g → (g.more ≡ k) × (o ≡ None → ⊥)
targeted is_image k None g e = cc
targeted is_image k (Some t) g e = (ap_more k (record { is_image = is_image; target = t; more = k }) g e refl, λ n. cc)
  where
    ap_more : (k : ℕ) (h g : Group) → Some h ≡ Some g → h.more ≡ k → g.more ≡ k
    ap_more k h g e f = let same : h ≡ g = cc in ap (λ (x : Group). x.more) (sym same) ∙ f

pub group-within : (in_link : Bool) (kind : Kind) (c : Option ℕ) (ls : List Leaf) (g : Group) → group_of in_link kind c ls ≡ Some g → g.more < length ls
group-within in_link (kind.Lone lone) c ls g e = cc
group-within in_link (kind.Closer target) c ls g e = cc
group-within in_link (kind.Run mark opens closes) c ls g e = cc
group-within in_link (kind.Opener is_image) None ls g e = cc
group-within in_link (kind.Opener is_image) (Some k) ls g e = go (in_link && not is_image) e
  where
    inside : (k : ℕ) (ls : List Leaf) → (first_target (drop k ls) ≡ None → ⊥) → k < length ls
    inside zero [] h = absurd (h refl)
    inside zero (l ∷ ls) h = omega arith
    inside (suc k) [] h = absurd (h refl)
    inside (suc k) (l ∷ ls) h = let lt = inside k ls h in omega arith

    go : (v : Bool) → cond v None (with_target is_image k (first_target (drop k ls))) ≡ Some g → g.more < length ls
    go true e = cc
    go false e =
        let t = targeted is_image k (first_target (drop k ls)) g e in
        let lt = inside k ls t.1 in
        omega (arith, t.0)

-- a turn of the loop over leaves: the part at a place, and so many leaves that it takes
pub record Turn (in_link : Bool) (leaves : List Leaf) (at n : ℕ) (p : Part) : Type 0 where
  pub within : at + n ≤ length leaves
  pub part : parts in_link (drop at leaves) ≡ p ∷ parts in_link (drop (at + n) leaves)

pub group-turn : (in_link : Bool) (leaves : List Leaf) (at : ℕ) (d : Leaf) (closers : List (Option ℕ)) (e : Option ℕ) (g : Group) → at < length leaves → closers ≡ balances leaves → group_of in_link (get_or leaves at d).kind (get_or closers at e) (take (length leaves - (at + 1)) (drop (at + 1) leaves)) ≡ Some g → Turn in_link leaves at (g.more + 2) (Grouped g.is_image g.target (take g.more (take (length leaves - (at + 1)) (drop (at + 1) leaves))))
group-turn in_link leaves at d closers e g lt c h =
    let l : Leaf = get_or leaves at d in
    let rest : List Leaf = drop (at + 1) leaves in
    let closer : get_or closers at e ≡ balance 0 rest = ap (λ x. get_or x at e) c ∙ balances-get at leaves e lt in
    let here : group_at in_link l rest ≡ Some g = ap (λ o. group_of in_link l.kind o rest) (sym closer) ∙ (ap (group_of in_link l.kind (get_or closers at e)) (sym (slice-rest (at + 1) leaves)) ∙ h) in
    let w = group-within in_link l.kind (balance 0 rest) rest g here in
    let len = length-drop (at + 1) leaves in
    let past : drop (suc g.more) rest ≡ drop (at + (g.more + 2)) leaves = sym (drop-drop (suc g.more) (at + 1) leaves) ∙ ap (λ n. drop n leaves) (omega arith) in
    record {
      within = omega arith;
      part =
          ap (parts in_link) (drop_more leaves at d lt) ∙ (parts-group in_link l rest g here
          ∙ (ap (λ x. Grouped g.is_image g.target (take g.more x) ∷ parts in_link (drop (suc g.more) rest)) (sym (slice-rest (at + 1) leaves))
          ∙ ap (λ x. Grouped g.is_image g.target (take g.more (take (length leaves - (at + 1)) (drop (at + 1) leaves))) ∷ parts in_link x) past));
    }

pub single-turn : (in_link : Bool) (leaves : List Leaf) (at : ℕ) (d : Leaf) (closers : List (Option ℕ)) (e : Option ℕ) → at < length leaves → closers ≡ balances leaves → group_of in_link (get_or leaves at d).kind (get_or closers at e) (take (length leaves - (at + 1)) (drop (at + 1) leaves)) ≡ None → Turn in_link leaves at 1 (Single (get_or leaves at d))
single-turn in_link leaves at d closers e lt c h =
    let l : Leaf = get_or leaves at d in
    let rest : List Leaf = drop (at + 1) leaves in
    let closer : get_or closers at e ≡ balance 0 rest = ap (λ x. get_or x at e) c ∙ balances-get at leaves e lt in
    let here : group_at in_link l rest ≡ None = ap (λ o. group_of in_link l.kind o rest) (sym closer) ∙ (ap (group_of in_link l.kind (get_or closers at e)) (sym (slice-rest (at + 1) leaves)) ∙ h) in
    record {
      within = omega arith;
      part = ap (parts in_link) (drop_more leaves at d lt) ∙ parts-single in_link l rest here;
    }

-- one part more is written
pub so_far-step : (in_link : Bool) (leaves : List Leaf) (at n : ℕ) (p : Part) (before after : List Part) → after ≡ before ++ p ∷ [] → Turn in_link leaves at n p → before ++ parts in_link (drop at leaves) ≡ parts in_link leaves → after ++ parts in_link (drop (at + n) leaves) ≡ parts in_link leaves
so_far-step in_link leaves at n p before after e t h =
    ap (λ x. x ++ parts in_link (drop (at + n) leaves)) e
    ∙ (append_assoc before (p ∷ []) (parts in_link (drop (at + n) leaves))
    ∙ (ap (λ x. before ++ x) (sym t.part) ∙ h))
