-- The leaves of a source from a place on.
use Rattle.std.proofs.Common.{List, [], ◌∷◌, ◌++◌, length, drop, get_or, ◌≡◌, ◌≤◌, ◌<◌, ◌+◌, ◌-◌, ℕ, zero, suc, refl, sym, ap, ◌∙◌, arith, Bool, true, false, Option, Some, None, is_some, add-zero, append_assoc, append-nil}
use Rattle.std.proofs.lemmas.Bool.{false≢true}
use Rattle.std.proofs.lemmas.List.{drop_more, drop_all, drop-drop}
use Rattle.md_leaves.specs.declared.leaf.Leaf.{Leaf}
use Rattle.md_leaves.specs.declared.cut.Cut.{Cut}
use Rattle.md_leaves.specs.Leaves.{cut_at, first_cut, leaf, leaves, leaves_after, marked, or_text, text_length}
use Rattle.md_leaves.proofs.TextLemmas.{text_length-marked}

pub leaves_after-none : (source : List ℕ) (at : ℕ) → leaves_after source at 0 [] ≡ []
unfolding leaves_after
leaves_after-none source at = refl

-- bytes that are passed over
pub leaves_after-skip : (source : List ℕ) (at n : ℕ) (bs : List ℕ) → leaves_after source at n bs ≡ leaves_after source (at + n) 0 (drop n bs)
unfolding leaves_after
leaves_after-skip source at zero bs = ap (λ k. leaves_after source k 0 bs) (sym (add-zero at))
leaves_after-skip source at (suc n) [] = refl
leaves_after-skip source at (suc n) (b ∷ bs) = leaves_after-skip source (at + 1) n bs ∙ ap (λ k. leaves_after source k 0 (drop n bs)) (let e : at + 1 + n ≡ at + suc n = omega arith in e)

-- the leaf at a place, and those after it
pub leaves_after-cut : (source : List ℕ) (at : ℕ) (cut : Cut) → at < length source → cut ≡ first_cut source at (drop at source) → leaves_after source at 0 (drop at source) ≡ leaf at cut ∷ leaves_after source (at + 1 + cut.more) 0 (drop (at + 1 + cut.more) source)
unfolding leaves_after
leaves_after-cut source at cut lt is =
    let e = drop_more source at 0 lt in
    let b : ℕ = get_or source at 0 in
    let bs : List ℕ = drop (at + 1) source in
    let same : cut_at source at b bs ≡ cut = sym (is ∙ ap (first_cut source at) e) in
    ap (leaves_after source at 0) e
    ∙ (ap (λ (c : Cut). leaf at c ∷ leaves_after source (at + 1) c.more bs) same
    ∙ ap (λ ls. leaf at cut ∷ ls) (leaves_after-skip source (at + 1) cut.more bs ∙ ap (leaves_after source (at + 1 + cut.more) 0) (drop-drop cut.more (at + 1) source)))

-- how many leaves are cut off: the first ones, up to a place
pub record Cuts (source : List ℕ) (at : ℕ) (so_far : List Leaf) : Type 0 where
  pub within : at ≤ length source
  pub whole : so_far ++ leaves_after source at 0 (drop at source) ≡ leaves source

pub Cuts-step : (source : List ℕ) (at : ℕ) (so_far : List Leaf) (cut : Cut) → at + cut.more < length source → cut ≡ first_cut source at (drop at source) → Cuts source at so_far → Cuts source (at + 1 + cut.more) (so_far ++ leaf at cut ∷ [])
Cuts-step source at so_far cut lt is c = record {
  within = omega arith;
  whole =
      append_assoc so_far (leaf at cut ∷ []) (leaves_after source (at + 1 + cut.more) 0 (drop (at + 1 + cut.more) source))
      ∙ (ap (λ ls. so_far ++ ls) (sym (leaves_after-cut source at cut (omega arith) is)) ∙ c.whole);
}

pub Cuts-all : (source : List ℕ) (at : ℕ) (so_far : List Leaf) → length source ≤ at → Cuts source at so_far → so_far ≡ leaves source
Cuts-all source at so_far le c =
    sym (append-nil so_far)
    ∙ (ap (λ ls. so_far ++ ls) (sym (ap (leaves_after source at 0) (drop_all at source le) ∙ leaves_after-none source at)) ∙ c.whole)

fits : (o : Option Cut) (m n : ℕ) → is_some o ≡ true → or_text o m ≡ or_text o n
fits None m n e = absurd (false≢true e)
fits (Some cut) m n e = refl

not_fits : (o : Option Cut) (m : ℕ) → is_some o ≡ false → or_text None m ≡ or_text o m
not_fits None m e = refl
not_fits (Some cut) m e = absurd (false≢true (sym e))

-- text at a place
pub text-cut : (source : List ℕ) (at n : ℕ) → at < length source → n ≡ text_length source at (drop at source) → 0 < n → or_text None (n - 1) ≡ first_cut source at (drop at source)
text-cut source at n lt is some =
    let e = drop_more source at 0 lt in
    go (is_some (marked source at (get_or source at 0 ∷ drop (at + 1) source))) refl (is ∙ ap (text_length source at) e) ∙ ap (first_cut source at) (sym e)
  where
    go : (v : Bool) → is_some (marked source at (get_or source at 0 ∷ drop (at + 1) source)) ≡ v → n ≡ text_length source at (get_or source at 0 ∷ drop (at + 1) source) → or_text None (n - 1) ≡ cut_at source at (get_or source at 0) (drop (at + 1) source)
    go true fit count = absurd (let none : n ≡ 0 = count ∙ text_length-marked source (drop (at + 1) source) at (get_or source at 0) true fit in omega arith)
    go false fit count =
        let more : n ≡ suc (text_length source (at + 1) (drop (at + 1) source)) = count ∙ text_length-marked source (drop (at + 1) source) at (get_or source at 0) false fit in
        ap (or_text None) (let m : n - 1 ≡ text_length source (at + 1) (drop (at + 1) source) = omega arith in m)
        ∙ not_fits (marked source at (get_or source at 0 ∷ drop (at + 1) source)) (text_length source (at + 1) (drop (at + 1) source)) fit

-- and where there is none, a rule fits
pub marked-cut : (source : List ℕ) (at : ℕ) → at < length source → 0 ≡ text_length source at (drop at source) → or_text (marked source at (drop at source)) 0 ≡ first_cut source at (drop at source)
marked-cut source at lt is =
    let e = drop_more source at 0 lt in
    ap (λ x. or_text (marked source at x) 0) e
    ∙ (go (is_some (marked source at (get_or source at 0 ∷ drop (at + 1) source))) refl (is ∙ ap (text_length source at) e) ∙ ap (first_cut source at) (sym e))
  where
    go : (v : Bool) → is_some (marked source at (get_or source at 0 ∷ drop (at + 1) source)) ≡ v → 0 ≡ text_length source at (get_or source at 0 ∷ drop (at + 1) source) → or_text (marked source at (get_or source at 0 ∷ drop (at + 1) source)) 0 ≡ cut_at source at (get_or source at 0) (drop (at + 1) source)
    go true fit count = fits (marked source at (get_or source at 0 ∷ drop (at + 1) source)) 0 (text_length source (at + 1) (drop (at + 1) source)) fit
    go false fit count = absurd (let more : 0 ≡ suc (text_length source (at + 1) (drop (at + 1) source)) = count ∙ text_length-marked source (drop (at + 1) source) at (get_or source at 0) false fit in omega arith)
