-- A walk that takes plain characters at once.
use Rattle.std.proofs.Common.{◌≡◌, ℕ, zero, suc, ◌+◌, ◌-◌, ◌≤◌, ◌==◌, Bool, true, false, List, [], ◌∷◌, ◌++◌, cond, not, map, length, refl, sym, ap, ap₂, ◌∙◌, subst, arith}
use Rattle.std.proofs.lemmas.Bool.{and_parts}
use Rattle.std.proofs.lemmas.Bool.Decides.{nat_tests}
use Rattle.term_text.specs.declared.style.Style.{Style}
use Rattle.term_text.specs.Cut.{cut_from, mark_of}
use Rattle.term_text.specs.Graph.{Grapheme}
use Rattle.term_text.specs.Plain.{is_narrow, plain_width, byte_grapheme, plain_grapheme}
use Rattle.term_text.specs.Solid.{AreSolid, SolidFront, is_solid}
use Rattle.term_text.proofs.CutLemmas.{cut_from-go}

from_not : (b : Bool) → not b ≡ true → b ≡ false
from_not true h = sym h
from_not false h = refl

-- the plain characters in front, with what stands behind them
solid-front : (style : Style) (n : ℕ) (cs ds : List ℕ) (shown : List Grapheme) → SolidFront n cs ds
    → AreSolid n (map (plain_grapheme style) cs ++ shown) (map (plain_grapheme style) ds ++ shown)
unfolding SolidFront AreSolid
solid-front style zero cs ds shown h = ap (λ (xs : List ℕ). map (plain_grapheme style) xs ++ shown) h
solid-front style (suc n) [] ds shown h = absurd h
solid-front style (suc n) (c ∷ cs) ds shown h = (one_column c h.0, no_space c h.0, solid-front style n cs ds shown h.1)
  where
    one_column : (c : ℕ) → is_solid c ≡ true → plain_width c ≡ 1
    one_column c h = ap (λ b. cond b 1 2) (and_parts (is_narrow c) (not (c == 32)) h).0

    no_space : (c : ℕ) → is_solid c ≡ true → (c == 32) ≡ false
    no_space c h = from_not (c == 32) (and_parts (is_narrow c) (not (c == 32)) h).1

-- behind no printable bytes
pub AreSolid-plain : (style : Style) (bs cs ds : List ℕ) (shown : List Grapheme) (n : ℕ) → bs ≡ [] → SolidFront n cs ds
    → AreSolid n (map (byte_grapheme style) bs ++ (map (plain_grapheme style) cs ++ shown)) (map (byte_grapheme style) bs ++ (map (plain_grapheme style) ds ++ shown))
AreSolid-plain style bs cs ds shown n none h =
    subst (λ (xs : List ℕ). AreSolid n (map (byte_grapheme style) xs ++ (map (plain_grapheme style) cs ++ shown)) (map (byte_grapheme style) xs ++ (map (plain_grapheme style) ds ++ shown))) (sym none)
    (solid-front style n cs ds shown h)

-- none are passed
pub AreSolid-none : (n : ℕ) (gs rest : List Grapheme) → n ≡ 0 → AreSolid n gs rest → rest ≡ gs
unfolding AreSolid
AreSolid-none zero gs rest none h = sym h
AreSolid-none (suc n) gs rest none h = absurd (omega (arith, none))

SolidFront-suc : (n : ℕ) (cs ds : List ℕ) (c : ℕ) → SolidFront n cs (c ∷ ds) → is_solid c ≡ true → SolidFront (suc n) cs ds
unfolding SolidFront
SolidFront-suc zero cs ds c h solid = subst (λ (xs : List ℕ). SolidFront 1 xs ds) (sym h) (solid, refl)
SolidFront-suc (suc n) [] ds c h solid = absurd h
SolidFront-suc (suc n) (x ∷ cs) ds c h solid = (h.0, SolidFront-suc n cs ds c h.1 solid)

-- one more
pub SolidFront-more : (n : ℕ) (cs ds : List ℕ) (c : ℕ) → SolidFront n cs (c ∷ ds) → is_solid c ≡ true → SolidFront (n + 1) cs ds
SolidFront-more n cs ds c h solid = subst (λ (k : ℕ). SolidFront k cs ds) one (SolidFront-suc n cs ds c h solid)
  where
    one : suc n ≡ n + 1
    one = omega arith

pub AreSolid-append : (n : ℕ) (gs rest more : List Grapheme) → AreSolid n gs rest → AreSolid n (gs ++ more) (rest ++ more)
unfolding AreSolid
AreSolid-append zero gs rest more h = ap (λ (xs : List Grapheme). xs ++ more) h
AreSolid-append (suc n) [] rest more h = absurd h
AreSolid-append (suc n) (g ∷ gs) rest more h = (h.0, h.1, AreSolid-append n gs rest more h.2)

pub AreSolid-length : (n : ℕ) (gs rest : List Grapheme) → AreSolid n gs rest → length gs ≡ n + length rest
unfolding AreSolid
AreSolid-length zero gs rest h = omega (arith, ap length h)
AreSolid-length (suc n) [] rest h = absurd h
AreSolid-length (suc n) (g ∷ gs) rest h = omega (arith, AreSolid-length n gs rest h.2)

-- they all fit
pub cut_from-solid : (n : ℕ) (gs rest : List Grapheme) (room count mark : ℕ) → n ≤ room → AreSolid n gs rest
    → cut_from room count mark gs ≡ cut_from (room - n) (count + n) mark rest
unfolding AreSolid
cut_from-solid zero gs rest room count mark le h =
    ap (cut_from room count mark) h ∙ ap₂ (λ (r c : ℕ). cut_from r c mark rest) (omega arith) (omega arith)
cut_from-solid (suc n) [] rest room count mark le h = absurd h
cut_from-solid (suc n) (g ∷ gs) rest room count mark le h =
    let one : g.width ≡ 1 = h.0 in
    cut_from-go room count mark g gs (omega arith)
    ∙ ap₂ (λ (w : ℕ) (b : Bool). cut_from (room - w) (count + 1) (mark_of b count mark) gs) one h.1
    ∙ ap (λ (m : ℕ). cut_from (room - 1) (count + 1) m gs) (unmarked count mark)
    ∙ cut_from-solid n gs rest (room - 1) (count + 1) mark (omega arith) h.2
    ∙ ap₂ (λ (r c : ℕ). cut_from r c mark rest) (omega arith) (omega arith)
  where
    unmarked : (count mark : ℕ) → mark_of false count mark ≡ mark
    unmarked count mark = grind (arith, nat_tests)
