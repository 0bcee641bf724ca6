-- Numbers that are written digit by digit.
use Rattle.std.proofs.Common.{◌≡◌, ◌<◌, ◌≤◌, ◌+◌, ◌/◌, ◌%◌, ◌^◌, ℕ, List, [], ◌∷◌, ◌++◌, ap, sym, ◌∙◌, arith, append_assoc}
use Rattle.std.proofs.lemmas.Fmt.{decimal_digit, decimal_step}
use Rattle.std.specs.Fmt.{decimal}

-- one more digit behind the digits of a tenth
more_digit : (was mid now : List ℕ) (n : ℕ) → 10 ≤ n → n < 2 ^ 64 → mid ≡ was ++ 59 ∷ decimal (n / 10) → now ≡ mid ++ (48 + n % 10) ∷ []
    → now ≡ was ++ 59 ∷ decimal n
more_digit was mid now n ge lt e f =
    f ∙ ap (λ (t : List ℕ). t ++ (48 + n % 10) ∷ []) e ∙ append_assoc was (59 ∷ decimal (n / 10)) ((48 + n % 10) ∷ [])
    ∙ ap (λ (ds : List ℕ). was ++ 59 ∷ ds) (sym (decimal_step n ge lt))

pub one_digit : (was first now : List ℕ) (n : ℕ) → n < 10 → first ≡ was ++ 59 ∷ [] → now ≡ first ++ (48 + n) ∷ [] → now ≡ was ++ 59 ∷ decimal n
one_digit was first now n lt e f =
    f ∙ ap (λ (t : List ℕ). t ++ (48 + n) ∷ []) e ∙ append_assoc was (59 ∷ []) ((48 + n) ∷ [])
    ∙ ap (λ (ds : List ℕ). was ++ 59 ∷ ds) (sym (decimal_digit n lt))

pub two_digits : (was first second now : List ℕ) (n : ℕ) → 10 ≤ n → n < 100 → first ≡ was ++ 59 ∷ [] → second ≡ first ++ (48 + n / 10) ∷ []
    → now ≡ second ++ (48 + n % 10) ∷ [] → now ≡ was ++ 59 ∷ decimal n
two_digits was first second now n ge lt e f g =
    more_digit was second now n ge (omega (arith, lt)) (one_digit was first second (n / 10) (omega (arith, lt)) e f) g

pub three_digits : (was first second third now : List ℕ) (n : ℕ) → 100 ≤ n → n < 256 → first ≡ was ++ 59 ∷ [] → second ≡ first ++ (48 + n / 10 / 10) ∷ []
    → third ≡ second ++ (48 + n / 10 % 10) ∷ [] → now ≡ third ++ (48 + n % 10) ∷ [] → now ≡ was ++ 59 ∷ decimal n
three_digits was first second third now n ge lt e f g h =
    more_digit was third now n (omega (arith, ge)) (omega (arith, lt))
    (two_digits was first second third (n / 10) (omega (arith, ge)) (omega (arith, lt)) e f g) h

-- ---- texts behind one another

then_text : (was mid now first second : List ℕ) → mid ≡ was ++ first → now ≡ mid ++ second → now ≡ was ++ (first ++ second)
then_text was mid now first second e f = f ∙ ap (λ (t : List ℕ). t ++ second) e ∙ append_assoc was first second

pub opening : (o o1 o2 o3 : List ℕ) → o1 ≡ o ++ 27 ∷ [] → o2 ≡ o1 ++ 91 ∷ [] → o3 ≡ o2 ++ 48 ∷ [] → o3 ≡ o ++ 27 ∷ 91 ∷ 48 ∷ []
opening o o1 o2 o3 e1 e2 e3 = then_text o o1 o3 (27 ∷ []) (91 ∷ 48 ∷ []) e1 (then_text o1 o2 o3 (91 ∷ []) (48 ∷ []) e2 e3)

pub indexed_parts : (o o1 o2 o3 : List ℕ) (code n : ℕ) → o1 ≡ o ++ 59 ∷ decimal code → o2 ≡ o1 ++ 59 ∷ decimal 5 → o3 ≡ o2 ++ 59 ∷ decimal n
    → o3 ≡ o ++ 59 ∷ (decimal code ++ 59 ∷ 53 ∷ 59 ∷ decimal n)
indexed_parts o o1 o2 o3 code n e1 e2 e3 =
    then_text o o1 o3 (59 ∷ decimal code) (59 ∷ 53 ∷ 59 ∷ decimal n) e1
    (then_text o1 o2 o3 (59 ∷ 53 ∷ []) (59 ∷ decimal n) (e2 ∙ ap (λ (ds : List ℕ). o1 ++ 59 ∷ ds) (decimal_digit 5 (omega arith))) e3)

pub rgb_parts : (o o1 o2 o3 o4 o5 : List ℕ) (code r g b : ℕ) → o1 ≡ o ++ 59 ∷ decimal code → o2 ≡ o1 ++ 59 ∷ decimal 2 → o3 ≡ o2 ++ 59 ∷ decimal r
    → o4 ≡ o3 ++ 59 ∷ decimal g → o5 ≡ o4 ++ 59 ∷ decimal b
    → o5 ≡ o ++ 59 ∷ (decimal code ++ 59 ∷ 50 ∷ 59 ∷ (decimal r ++ 59 ∷ (decimal g ++ 59 ∷ decimal b)))
rgb_parts o o1 o2 o3 o4 o5 code r g b e1 e2 e3 e4 e5 =
    let blue = then_text o3 o4 o5 (59 ∷ decimal g) (59 ∷ decimal b) e4 e5 in
    let green = then_text o2 o3 o5 (59 ∷ decimal r) (59 ∷ (decimal g ++ 59 ∷ decimal b)) e3 blue in
    let kind = then_text o1 o2 o5 (59 ∷ 50 ∷ []) (59 ∷ (decimal r ++ 59 ∷ (decimal g ++ 59 ∷ decimal b)))
    (e2 ∙ ap (λ (ds : List ℕ). o1 ++ 59 ∷ ds) (decimal_digit 2 (omega arith))) green in
    then_text o o1 o5 (59 ∷ decimal code) (59 ∷ 50 ∷ 59 ∷ (decimal r ++ 59 ∷ (decimal g ++ 59 ∷ decimal b))) e1 kind
