-- The content of an image, put in the place of its description.
use Rattle.std.proofs.Common.{◌≡◌, ℕ, zero, suc, ◌+◌, ◌<◌, ◌≤◌, List, [], ◌∷◌, ◌++◌, not, nat_lt, drop, length, take, refl, ap, sym, ◌∙◌, append_assoc, arith}
use Rattle.std.specs.Prelude.{slice_set}
use Rattle.std.proofs.lemmas.Bool.Decides.{nat_tests}
use Rattle.std.proofs.lemmas.List.{take-append-drop, length-append, length-drop, length-take-le}
use Rattle.term_text.specs.declared.style.Style.{Style}
use Rattle.term_text.specs.Text.{SpanView}
use Rattle.md_text.specs.declared.options.ImageFallback.TheVariants.{AltText, AltTextAndUrl}
use Rattle.md_text.specs.Images.{content, in_parentheses, is_empty}

alt-some : (style : Style) (dest : List ℕ) (description : List SpanView) → 0 < length description → content AltText style dest description ≡ description
alt-some style dest [] some = absurd (omega (arith, some))
alt-some style dest (span ∷ spans) some = refl

both-some : (style : Style) (dest : List ℕ) (description : List SpanView) → 0 < length description →
    content AltTextAndUrl style dest description ≡ description ++ in_parentheses style dest
both-some style dest [] some = absurd (omega (arith, some))
both-some style dest (span ∷ spans) some = refl

pub below : (count n : ℕ) → count ≤ n → (n ≡ count → ⊥) → count < n
below count n le other = grind (arith, nat_tests)

pub fill-alt : (style : Style) (dest : List ℕ) (all : List SpanView) (count : ℕ) → count < length all →
    all ≡ take count all ++ content AltText style dest (drop count all)
fill-alt style dest all count lt =
    sym (ap (λ (z : List SpanView). take count all ++ z) (alt-some style dest (drop count all) (omega (arith, length-drop count all, lt)))
    ∙ take-append-drop count all)

pub fill-both : (style : Style) (dest : List ℕ) (all : List SpanView) (count : ℕ) → count < length all →
    all ++ in_parentheses style dest ≡ take count all ++ content AltTextAndUrl style dest (drop count all)
fill-both style dest all count lt =
    sym (ap (λ (z : List SpanView). take count all ++ z) (both-some style dest (drop count all) (omega (arith, length-drop count all, lt)))
    ∙ sym (append_assoc (take count all) (drop count all) (in_parentheses style dest))
    ∙ ap (λ (z : List SpanView). z ++ in_parentheses style dest) (take-append-drop count all))

-- the marker is put at its place
pub mended : (all shown : List SpanView) (start : ℕ) (marker : SpanView) → start < length all →
    slice_set (take (start + 1) all ++ shown) start marker ≡ take start all ++ marker ∷ shown
mended [] shown start marker lt = absurd (omega arith)
mended (x ∷ xs) shown zero marker lt = refl
mended (x ∷ xs) shown (suc start) marker lt =
    ap (λ (k : ℕ). slice_set (take k (x ∷ xs) ++ shown) (suc start) marker) (let e : suc start + 1 ≡ suc (start + 1) = omega arith in e)
    ∙ ap (λ (z : List SpanView). x ∷ z) (mended xs shown start marker (omega arith))

-- something follows the marker if pieces stand behind its place
pub follows : (all shown : List SpanView) (count n : ℕ) → count ≤ length all → n ≡ length (take count all ++ shown) →
    nat_lt count n ≡ not (is_empty shown)
follows all [] count n le e =
    let count_is : n ≡ count + 0 = e ∙ length-append (take count all) [] ∙ ap (λ (k : ℕ). k + 0) (length-take-le count all le) in
    grind (arith, nat_tests, count_is)
follows all (span ∷ spans) count n le e =
    let count_is : n ≡ count + suc (length spans) =
    e ∙ length-append (take count all) (span ∷ spans) ∙ ap (λ (k : ℕ). k + suc (length spans)) (length-take-le count all le) in
    grind (arith, nat_tests, count_is)
