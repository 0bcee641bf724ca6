-- Where the label of a footnote definition ends.
use Rattle.std.proofs.Common.{List, [], ◌∷◌, length, drop, take, get_or, ◌≡◌, ◌<◌, ◌≤◌, ◌+◌, ◌==◌, ℕ, refl, sym, ap, subst, length-drop, ◌∙◌, arith, Bool, true, false, cond, ◌&&◌, nat_lt, Some, None}
use Rattle.std.specs.Str.{IsCharBoundary, IsUtf8}
use Rattle.std.proofs.lemmas.Bool.{eqb-true, false≢true}
use Rattle.std.proofs.lemmas.List.{get_or-drop, length-take-le}
use Rattle.std.proofs.lemmas.List.Sums.{prefix_len-le-length}
use Rattle.std.proofs.lemmas.Str.{IsCharBoundary-after_ascii}
use Rattle.md_tree.proofs.Nodes.{and_right}
use Rattle.md_lines.specs.Lines.{LineText}
use Rattle.md_rules.specs.Shallow.{is_shallow}
use Rattle.md_rules.specs.Footnotes.{closed_label, closes_label, footnote_label, label_in, label_length, opens_label}

-- `[^` are two characters of ASCII
pub opens-two : (body : List ℕ) → opens_label body ≡ true → (1 < length body) × (get_or body 1 0 ≡ 94)
opens-two [] e = absurd (false≢true e)
opens-two (a ∷ []) e = absurd (false≢true (and_right (a == 91) false e))
opens-two (a ∷ b ∷ rest) e = (omega arith, eqb-true b 94 (and_right (a == 91) (b == 94) e))

-- and so are `]:`
closes-two : (bs : List ℕ) → closes_label bs ≡ true → (1 < length bs) × (get_or bs 1 0 ≡ 58)
closes-two [] e = absurd (false≢true e)
closes-two (a ∷ []) e = absurd (false≢true (and_right (a == 93) false e))
closes-two (a ∷ b ∷ rest) e = (omega arith, eqb-true b 58 (and_right (a == 93) (b == 58) e))

-- a colon stands behind a label and its bracket
closed-colon : (bs label : List ℕ) → closed_label bs ≡ Some label → (length label + 1 < length bs) × (get_or bs (length label + 1) 0 ≡ 58)
closed-colon bs label h = go (nat_lt 0 (label_length bs) && closes_label (drop (label_length bs) bs)) refl h
  where
    n : ℕ
    n = label_length bs

    go : (v : Bool) → (nat_lt 0 (label_length bs) && closes_label (drop (label_length bs) bs)) ≡ v → cond v (Some (take (label_length bs) bs)) None ≡ Some label → (length label + 1 < length bs) × (get_or bs (length label + 1) 0 ≡ 58)
    go true e f =
        let same : take n bs ≡ label = cc in
        let le : n ≤ length bs = prefix_len-le-length _ bs in
        let count : length label ≡ n = sym (ap length same) ∙ length-take-le n bs le in
        let two = closes-two (drop n bs) (and_right (nat_lt 0 n) (closes_label (drop n bs)) e) in (
          omega (arith, two.0, length-drop n bs, count),
          ap (λ k. get_or bs (k + 1) 0) count ∙ (sym (get_or-drop n bs 1 0) ∙ two.1),
        )
    go false e f = cc

label-colon : (body label : List ℕ) → label_in body ≡ Some label → (length label + 3 < length body) × (get_or body (length label + 3) 0 ≡ 58)
label-colon body label h = go (opens_label body) refl h
  where
    go : (v : Bool) → opens_label body ≡ v → cond v (closed_label (drop 2 body)) None ≡ Some label → (length label + 3 < length body) × (get_or body (length label + 3) 0 ≡ 58)
    go true e f =
        let found = closed-colon (drop 2 body) label f in
        let place : length label + 3 ≡ 2 + (length label + 1) = omega arith in (
          omega (arith, found.0, length-drop 2 body),
          ap (λ k. get_or body k 0) place ∙ (sym (get_or-drop 2 body (length label + 1) 0) ∙ found.1),
        )
    go false e f = cc

-- what stands behind the colon may be cut off
pub label-boundary : (line : LineText) (label : List ℕ) → IsUtf8 line.body → footnote_label line ≡ Some label → (length label + 4 ≤ length line.body) × IsCharBoundary line.body (length label + 4)
label-boundary line label utf8 h = go (is_shallow line) h
  where
    go : (v : Bool) → cond v (label_in line.body) None ≡ Some label → (length label + 4 ≤ length line.body) × IsCharBoundary line.body (length label + 4)
    go true f =
        let found = label-colon line.body label f in
        let next : length label + 3 + 1 ≡ length label + 4 = omega arith in (
          omega (arith, found.0),
          subst (λ (n : ℕ). IsCharBoundary line.body n) next (IsCharBoundary-after_ascii line.body (length label + 3) utf8 found.0 (omega (arith, found.1))),
        )
    go false f = cc
