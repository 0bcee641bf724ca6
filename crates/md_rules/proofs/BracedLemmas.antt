-- What stands between braces at the end of a text.
use Rattle.std.proofs.Common.{List, length, take, drop, get_or, ◌≡◌, ◌≤◌, ◌<◌, ◌-◌, ◌+◌, ◌==◌, ℕ, sym, ap, subst, ◌∙◌, arith, true, cond, not, Some, None}
use Rattle.std.specs.List.{slice_range, suffix_len}
use Rattle.std.proofs.lemmas.List.{drop-take, get_or-take, length-take-le, take-take}
use Rattle.md_rules.specs.Attributes.{Braced, braced, braced_at, ends_with, is_brace, to_last_brace}

-- before the `{`, and between it and the `}` at the end
braced-is : (text before inside : List ℕ) (end : ℕ) → 0 < length text → get_or text (length text - 1) 0 ≡ 125 → end ≡ length text - 1 - suffix_len (λ b. not (is_brace b)) (take (length text - 1) text) → 0 < end → get_or text (end - 1) 0 ≡ 123 → before ≡ take (end - 1) text → inside ≡ take (length text - 1 - end) (drop end text) → braced text ≡ Some (record { before = before; inside = inside })
braced-is text before inside end some last e positive brace b i =
    let n : ℕ = length text - 1 in
    let whole : List ℕ = take n text in
    let long : length whole ≡ n = length-take-le n text (omega arith) in
    let le : end ≤ n = omega arith in
    let front : to_last_brace whole ≡ take end whole = ap (λ k. take (k - suffix_len (λ b. not (is_brace b)) whole) whole) long ∙ ap (λ k. take k whole) (sym e) in
    let flat : take end whole ≡ take end text = take-take end n text le in
    let size : length (take end text) ≡ end = length-take-le end text (omega arith) in
    let first : ends_with 125 text ≡ true = ap (λ k. k == 125) last in
    let opens : ends_with 123 (take end text) ≡ true = ap (λ k. get_or (take end text) (k - 1) 0 == 123) size ∙ (ap (λ k. k == 123) (get_or-take end text (end - 1) 0 (omega arith)) ∙ ap (λ k. k == 123) brace) in
    let left : take (length (take end text) - 1) (take end text) ≡ before = ap (λ k. take (k - 1) (take end text)) size ∙ (take-take (end - 1) end text (omega arith) ∙ sym b) in
    let sum : n ≡ end + (n - end) = omega arith in
    let right : drop (length (take end text)) whole ≡ inside = ap (λ k. drop k whole) size ∙ (ap (λ k. drop end (take k text)) sum ∙ (drop-take end (n - end) text ∙ sym i)) in
    ap (λ v. cond v (braced_at (to_last_brace whole) whole) None) first
    ∙ (ap (λ f. braced_at f whole) (front ∙ flat)
    ∙ (ap (λ v. cond v (Some (let r : Braced = record { before = take (length (take end text) - 1) (take end text); inside = drop (length (take end text)) whole } in r)) None) opens
    ∙ (ap (λ x. Some (let r : Braced = record { before = x; inside = drop (length (take end text)) whole } in r)) left
    ∙ ap (λ x. Some (let r : Braced = record { before = before; inside = x } in r)) right)))

braced-slices : (text before inside : List ℕ) (behind : ℕ) → 0 < length text → get_or text (length text - 1) 0 ≡ 125 → behind ≡ suffix_len (λ b. not (is_brace b)) (take (length text - 1) text) → 0 < length text - 1 - behind → get_or text (length text - 1 - behind - 1) 0 ≡ 123 → before ≡ slice_range text 0 (length text - 1 - behind - 1) → inside ≡ slice_range text (length text - 1 - behind) (length text - 1) → braced text ≡ Some (record { before = before; inside = inside })
braced-slices text before inside behind some last e positive brace b i =
    let front : length text - 1 - behind - 1 - 0 ≡ length text - 1 - behind - 1 = omega arith in
    braced-is text before inside (length text - 1 - behind) some last (ap (λ k. length text - 1 - k) e) positive brace (b ∙ ap (λ k. take k text) front) i

-- the text as it is cut by its bytes
pub braced-cut : (text bytes before inside : List ℕ) (behind : ℕ) → bytes ≡ text → 0 < length bytes → get_or bytes (length bytes - 1) 0 ≡ 125 → behind ≡ suffix_len (λ b. not (is_brace b)) (take (length bytes - 1) bytes) → 0 < length bytes - 1 - behind → get_or bytes (length bytes - 1 - behind - 1) 0 ≡ 123 → before ≡ slice_range text 0 (length bytes - 1 - behind - 1) → inside ≡ slice_range text (length bytes - 1 - behind) (length bytes - 1) → braced text ≡ Some (record { before = before; inside = inside })
braced-cut text bytes before inside behind same some last e positive brace =
    subst (λ (t : List ℕ). before ≡ slice_range t 0 (length bytes - 1 - behind - 1) → inside ≡ slice_range t (length bytes - 1 - behind) (length bytes - 1) → braced t ≡ Some (let r : Braced = record { before = before; inside = inside } in r)) same (braced-slices bytes before inside behind some last e positive brace)
