-- Where a line may be cut behind a marker or a task mark.
use Rattle.std.proofs.Common.{rules, ◌^◌, List, [], ◌∷◌, length, drop, take, get_or, ◌≡◌, ◌≤◌, ◌<◌, ◌+◌, ◌==◌, ℕ, zero, suc, refl, ap, subst, ◌∙◌, arith, true, false, Bool, cond, ◌&&◌, ◌||◌, nat_le, Some, None}
use Rattle.std.specs.Str.{IsCharBoundary, IsUtf8}
use Rattle.std.specs.Str.Parse.{digits_value}
use Rattle.std.proofs.lemmas.Bool.{false≢true}
use Rattle.std.proofs.lemmas.Bool.Decides.{nat_tests}
use Rattle.std.specs.Char.{is_ascii_digit}
use Rattle.std.specs.List.{list_all, prefix_len}
use Rattle.std.proofs.lemmas.List.{length-take-le}
use Rattle.std.proofs.lemmas.List.Sums.{prefix_len-le-length}
use Rattle.std.proofs.lemmas.Str.Parse.{IsNumeralModel, digits_value_short, numerals_by_value}
use Rattle.std.proofs.lemmas.Str.{IsCharBoundary-after_ascii}
use Rattle.md_tree.proofs.Nodes.{and_left, and_right}
use Rattle.md_lines.specs.Lines.{LineText}
use Rattle.md_rules.specs.Shallow.{is_shallow}
use Rattle.md_rules.specs.Texts.{ends_word}
use Rattle.md_rules.specs.Items.{digits, ends_number, has_number, is_bullet, marker_in, marker_of, numbered}
use Rattle.md_rules.specs.declared.item.Marker.{Marker}

le_nine : (n : ℕ) → (nat_le 1 n && nat_le n 9) ≡ true → n ≤ 9
le_nine n h = grind (arith, nat_tests)

bullet-ascii : (b : ℕ) → is_bullet b ≡ true → b < 128
bullet-ascii b e = grind (arith, nat_tests)

delimiter-ascii : (b : ℕ) → (b == 46 || b == 41) ≡ true → b < 128
delimiter-ascii b e = grind (arith, nat_tests)

ends_number-place : (n : ℕ) (body : List ℕ) → ends_number (drop n body) ≡ true → (n < length body) × (get_or body n 0 < 128)
ends_number-place zero [] h = absurd (false≢true h)
ends_number-place (suc n) [] h = absurd (false≢true h)
ends_number-place zero (b ∷ bs) h = (omega arith, delimiter-ascii b (and_left (b == 46 || b == 41) (ends_word bs) h))
ends_number-place (suc n) (b ∷ bs) h = let p = ends_number-place n bs h in (omega (arith, p.0), p.1)

behind-byte : (body : List ℕ) (n k : ℕ) → IsUtf8 body → n < length body → get_or body n 0 < 128 → n + 1 ≡ k → IsCharBoundary body k
behind-byte body n k utf8 within ascii e = subst (λ (i : ℕ). IsCharBoundary body i) e (IsCharBoundary-after_ascii body n utf8 within ascii)

marker-same : (r m : Marker) → Some r ≡ Some m → r.length ≡ m.length
marker-same r m e = let same : r ≡ m = cc in ap (λ (x : Marker). x.length) same

numbered-boundary : (body : List ℕ) (n : ℕ) (m : Marker) → IsUtf8 body → numbered n body ≡ Some m → IsCharBoundary body m.length
numbered-boundary body n m utf8 h = go (has_number n body) refl h
  where
    found : Marker
    found = record { kind = get_or body n 0; length = n + 1; number = Some (digits_value 10 (take n body)) }

    go : (v : Bool) → has_number n body ≡ v → cond v (Some found) None ≡ Some m → IsCharBoundary body m.length
    go true e h =
        let p = ends_number-place n body (and_right (nat_le 1 n && nat_le n 9) (ends_number (drop n body)) e) in
        behind-byte body n m.length utf8 p.0 p.1 (marker-same found m h)
    go false e h = cc

marker_in-boundary : (body : List ℕ) (m : Marker) → IsUtf8 body → marker_in body ≡ Some m → IsCharBoundary body m.length
marker_in-boundary [] m utf8 h = cc
marker_in-boundary (b ∷ bs) m utf8 h = go (is_bullet b && ends_word bs) refl h
  where
    bullet : Marker
    bullet = record { kind = b; length = 1; number = None }

    go : (v : Bool) → (is_bullet b && ends_word bs) ≡ v → cond v (Some bullet) (numbered (digits (b ∷ bs)) (b ∷ bs)) ≡ Some m → IsCharBoundary (b ∷ bs) m.length
    go true e h = behind-byte (b ∷ bs) 0 m.length utf8 (omega arith) (bullet-ascii b (and_left (is_bullet b) (ends_word bs) e)) (marker-same bullet m h)
    go false e h = numbered-boundary (b ∷ bs) (digits (b ∷ bs)) m utf8 h

pub marker-boundary : (line : LineText) (m : Marker) → IsUtf8 line.body → marker_of line ≡ Some m → IsCharBoundary line.body m.length
marker-boundary line m utf8 h = go (is_shallow line) h
  where
    go : (v : Bool) → cond v (marker_in line.body) None ≡ Some m → IsCharBoundary line.body m.length
    go true h = marker_in-boundary line.body m utf8 h
    go false h = cc

-- the value of ASCII digits
pub own : IsNumeralModel (λ ds. list_all is_ascii_digit ds ≡ true) (digits_value 10)
own = numerals_by_value _ (search rules)

-- each of the bytes in front that are counted passes
pub front-all : (p : ℕ → Bool) (xs : List ℕ) → list_all p (take (prefix_len p xs) xs) ≡ true
front-all p [] = refl
front-all p (x ∷ xs) = go (p x) refl (front-all p xs)
  where
    go : (v : Bool) → p x ≡ v → list_all p (take (prefix_len p xs) xs) ≡ true → list_all p (take (cond v (1 + prefix_len p xs) 0) (x ∷ xs)) ≡ true
    go true e h = let next : 1 + prefix_len p xs ≡ suc (prefix_len p xs) = omega arith in ap (λ n. list_all p (take n (x ∷ xs))) next ∙ rw (e, h) refl
    go false e h = refl

numbered-small : (body : List ℕ) (m : Marker) (v : ℕ) → numbered (digits body) body ≡ Some m → m.number ≡ Some v → v < 10 ^ 9
numbered-small body m v h n = go (has_number (digits body) body) refl h
  where
    found : Marker
    found = record { kind = get_or body (digits body) 0; length = digits body + 1; number = Some (digits_value 10 (take (digits body) body)) }

    short : has_number (digits body) body ≡ true → digits body ≤ 9
    short e = le_nine (digits body) (and_left (nat_le 1 (digits body) && nat_le (digits body) 9) (ends_number (drop (digits body) body)) e)

    value : has_number (digits body) body ≡ true → digits_value 10 (take (digits body) body) < 10 ^ 9
    value e =
        digits_value_short own (take (digits body) body) 9 (front-all is_ascii_digit body) (omega (arith, length-take-le (digits body) body (prefix_len-le-length is_ascii_digit body), short e))

    go : (w : Bool) → has_number (digits body) body ≡ w → cond w (Some found) None ≡ Some m → v < 10 ^ 9
    go true e h =
        let same : found ≡ m = cc in
        let number : Some (digits_value 10 (take (digits body) body)) ≡ Some v = ap (λ (x : Marker). x.number) same ∙ n in
        let is : digits_value 10 (take (digits body) body) ≡ v = cc in
        omega (arith, is, value e)
    go false e h = cc

marker_in-small : (body : List ℕ) (m : Marker) (v : ℕ) → marker_in body ≡ Some m → m.number ≡ Some v → v < 10 ^ 9
marker_in-small [] m v h n = cc
marker_in-small (b ∷ bs) m v h n = go (is_bullet b && ends_word bs) h
  where
    bullet : Marker
    bullet = record { kind = b; length = 1; number = None }

    go : (w : Bool) → cond w (Some bullet) (numbered (digits (b ∷ bs)) (b ∷ bs)) ≡ Some m → v < 10 ^ 9
    go true h =
        let same : bullet ≡ m = cc in
        let number : None ≡ Some v = ap (λ (x : Marker). x.number) same ∙ n in
        cc
    go false h = numbered-small (b ∷ bs) m v h n

-- the number of an item has at most nine digits
pub marker-small : (line : LineText) (m : Marker) (v : ℕ) → marker_of line ≡ Some m → m.number ≡ Some v → v < 10 ^ 9
marker-small line m v h n = go (is_shallow line) h
  where
    go : (w : Bool) → cond w (marker_in line.body) None ≡ Some m → v < 10 ^ 9
    go true h = marker_in-small line.body m v h n
    go false h = cc
