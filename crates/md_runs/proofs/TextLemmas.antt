-- Texts that touch are one.
use Rattle.std.proofs.Common.{List, [], ◌∷◌, ◌++◌, take, drop, ◌≡◌, ◌≤◌, ◌+◌, ◌-◌, ◌==◌, ℕ, zero, suc, refl, sym, ap, subst, ◌∙◌, arith, true, false, Bool, cond, Option, None, Some, eqb-true}
use Rattle.std.specs.List.{slice_range}
use Rattle.std.proofs.lemmas.List.Folds.{list_all-append}
use Rattle.term_text.specs.LineEnds.{is_one_line}
use Rattle.md_tree.specs.declared.event.Event.TheVariants as event
use Rattle.md_leaves.specs.Cuts.{IsText}
use Rattle.md_runs.specs.declared.pen.Place.{Place}
use Rattle.md_runs.specs.Texts.{bytes_at, touch, both, longer}
use Rattle.md_runs.specs.Marks.{Step, At, text_first, joined}
use Rattle.md_runs.specs.Facts.{IsPending}
use Rattle.md_runs.proofs.Lists.{drop-drop, take-nil}

pub joined-longer : (source : List ℕ) (p : Option Place) (q r : Place) (ss : List Step) → longer p q ≡ Some r → joined source (Some r) ss ≡ joined source p (At q ∷ ss)
unfolding joined
joined-longer source None q r ss e = cc
joined-longer source (Some p) q r ss e = go (touch p q) refl e
  where
    go : (v : Bool) → touch p q ≡ v → cond v (Some (both p q)) None ≡ Some r → joined source (Some r) ss ≡ joined source (Some p) (At q ∷ ss)
    go true t e = let same : both p q ≡ r = cc in rw t (ap (λ x. joined source (Some x) ss) (sym same))
    go false t e = cc

pub joined-next : (source : List ℕ) (p : Option Place) (q : Place) (ss : List Step) → longer p q ≡ None → text_first source p (joined source (Some q) ss) ≡ joined source p (At q ∷ ss)
unfolding joined
joined-next source None q ss e = refl
joined-next source (Some p) q ss e = go (touch p q) refl e
  where
    go : (v : Bool) → touch p q ≡ v → cond v (Some (both p q)) None ≡ None → event.Text (bytes_at source p) ∷ joined source (Some q) ss ≡ joined source (Some p) (At q ∷ ss)
    go true t e = cc
    go false t e = rw t refl

-- two parts, one behind the other
slice-both : (xs : List ℕ) (a b c : ℕ) → a ≤ b → b ≤ c → slice_range xs a c ≡ slice_range xs a b ++ slice_range xs b c
slice-both xs a b c p q =
    let n : c - a ≡ (b - a) + (c - b) = omega arith in
    let m : a + (b - a) ≡ b = omega arith in
    ap (λ k. take k (drop a xs)) n
    ∙ (split (b - a) (c - b) (drop a xs)
    ∙ ap (λ x. take (b - a) (drop a xs) ++ take (c - b) x) (sym (drop-drop (b - a) a xs) ∙ ap (λ k. drop k xs) m))
  where
    split : (m n : ℕ) (ys : List ℕ) → take (m + n) ys ≡ take m ys ++ take n (drop m ys)
    split zero n ys = ap (λ k. take k ys) (let e : 0 + n ≡ n = omega arith in e)
    split (suc m) n [] = take-nil (suc m + n) ∙ sym (take-nil n)
    split (suc m) n (y ∷ ys) = ap (λ k. take k (y ∷ ys)) (let e : suc m + n ≡ suc (m + n) = omega arith in e) ∙ ap (λ x. y ∷ x) (split m n ys)

pub IsText-both : (source : List ℕ) (a b c : ℕ) → IsText source a b → IsText source b c → IsText source a c
IsText-both source a b c p q =
    let m = p.place.order in
    let n = q.place.order in
    record {
      place = record { order = omega arith; start = p.place.start; stop = q.place.stop };
      one_line =
          ap is_one_line (slice-both source a b c m n)
          ∙ (list_all-append (λ (x : ℕ). _) (slice_range source a b) (slice_range source b c) ∙ rw (p.one_line, q.one_line) refl);
    }

pub IsPending-longer : (source : List ℕ) (p : Option Place) (q r : Place) → longer p q ≡ Some r → IsPending source p → IsText source q.from q.to → IsText source r.from r.to
IsPending-longer source None q r e h t = cc
IsPending-longer source (Some p) q r e h t = go (p.to == q.from) refl e
  where
    go : (v : Bool) → (p.to == q.from) ≡ v → cond v (Some (both p q)) None ≡ Some r → IsText source r.from r.to
    go true w e =
        let same : both p q ≡ r = cc in
        let meet : p.to ≡ q.from = eqb-true p.to q.from w in
        subst (λ (x : Place). IsText source x.from x.to) same (IsText-both source p.from p.to q.to h (subst (λ n. IsText source n q.to) (sym meet) t))
    go false w e = cc
