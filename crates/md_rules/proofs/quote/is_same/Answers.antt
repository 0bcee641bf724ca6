use Rattle.std.proofs.Common.{◌≡◌, ◌∷◌, [], List, ℕ, Bool, true, false, map, refl, ap, sym, ◌∙◌, ◌==◌, ◌&&◌, arith}
use Rattle.std.specs.Char.{eq_ignore_ascii_case, to_ascii_lowercase}
use Rattle.std.proofs.lemmas.Bool.{false≢true, eqb-true}
use Rattle.std.proofs.lemmas.Bool.Decides.{nat_tests}
use Rattle.md_rules.specs.Quotes.{is_same}
use Rattle.md_rules.proofs.quote.is_same.Goals as goal

same-maps : (xs ys : List ℕ) → is_same xs ys ≡ true → map to_ascii_lowercase xs ≡ map to_ascii_lowercase ys
same-maps [] [] h = refl
same-maps [] (y ∷ ys) h = absurd (false≢true h)
same-maps (x ∷ xs) [] h = absurd (false≢true h)
same-maps (x ∷ xs) (y ∷ ys) h = go (eq_ignore_ascii_case x y) refl h (same-maps xs ys)
  where
    go : (v : Bool) → eq_ignore_ascii_case x y ≡ v → (v && is_same xs ys) ≡ true → (is_same xs ys ≡ true → map to_ascii_lowercase xs ≡ map to_ascii_lowercase ys) → map to_ascii_lowercase (x ∷ xs) ≡ map to_ascii_lowercase (y ∷ ys)
    go true e h more = let first = eqb-true (to_ascii_lowercase x) (to_ascii_lowercase y) e in let rest = more h in cc
    go false e h more = absurd (false≢true h)

same_number : (a b : ℕ) → a ≡ b → (a == b) ≡ true
same_number a b e = grind (arith, nat_tests)

maps-same : (xs ys : List ℕ) → map to_ascii_lowercase xs ≡ map to_ascii_lowercase ys → is_same xs ys ≡ true
maps-same [] [] h = refl
maps-same [] (y ∷ ys) h = cc
maps-same (x ∷ xs) [] h = cc
maps-same (x ∷ xs) (y ∷ ys) h =
    let first : to_ascii_lowercase x ≡ to_ascii_lowercase y = cc in
    let rest : map to_ascii_lowercase xs ≡ map to_ascii_lowercase ys = cc in
    ap (λ v. v && is_same xs ys) (same_number (to_ascii_lowercase x) (to_ascii_lowercase y) first) ∙ maps-same xs ys rest

same : (v : Bool) (xs ys : List ℕ) → (v ≡ true → map to_ascii_lowercase xs ≡ map to_ascii_lowercase ys) → (map to_ascii_lowercase xs ≡ map to_ascii_lowercase ys → v ≡ true) → v ≡ is_same xs ys
same true xs ys there back = sym (maps-same xs ys (there refl))
same false xs ys there back = go (is_same xs ys) refl
  where
    go : (w : Bool) → is_same xs ys ≡ w → false ≡ w
    go true e = absurd (false≢true (back (same-maps xs ys e)))
    go false e = refl

pub returns : goal.returns
returns c = same c.eq_ignore_ascii_case.result c.args.text.now c.args.other.now c.eq_ignore_ascii_case.ensures.test.0 c.eq_ignore_ascii_case.ensures.test.1
