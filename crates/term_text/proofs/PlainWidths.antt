-- The widths of plain characters.
use Rattle.std.proofs.Common.{◌≡◌, ℕ, ◌+◌, ◌≤◌, Bool, true, false, ◌&&◌, ◌||◌, ◌==◌, nat_lt, nat_le, drop, refl, sym, ap, ◌∙◌, arith, ⊎_elim, [], ◌∷◌, cond, unwrap_or, Some, None}
use Rattle.std.specs.Int.{is_in_range}
use Rattle.std.proofs.lemmas.List.Sums.{sum_by-cons}
use Rattle.std.proofs.lemmas.Bool.Decides.{nat_tests}
use Rattle.ucd_table.specs.Rows.{in_ranges}
use Rattle.ucd_table.proofs.Computing.{tables}
use Rattle.unicode_width.specs.Kind.{kind, kind_number, number_of_kind}
use Rattle.unicode_width.specs.declared.kind.Kind.{Kind}
use Rattle.unicode_width.specs.declared.kind.Kind.TheVariants as kinds
use Rattle.unicode_width.specs.Width.{str_width, alone, of_kind, char_width}
use Rattle.unicode_width.proofs.KindLemmas.{kind_number_stepped}
use Rattle.unicode_width.proofs.Rules.{is_simple, is_simple_kind, width_or_zero, str_width-simple}
use Rattle.term_text.specs.Plain.{narrow_ranges, is_narrow, is_wide, is_plain, plain_width}
use Rattle.term_text.proofs.PlainTables.{narrow_stepped, wide_stepped, where_passes, plain_cases}

-- narrow or ambiguous
abbrev is_one : ℕ → Bool
is_one n = n == 1 || n == 3

narrow_kind : (c : ℕ) → is_narrow c ≡ true → is_one (number_of_kind (kind c)) ≡ true
unfolding tables kind_number kind_number_stepped narrow_stepped
narrow_kind = where_passes is_narrow kind_number narrow_stepped kind_number_stepped is_one refl

wide_kind : (c : ℕ) → is_wide c ≡ true → (number_of_kind (kind c) == 2) ≡ true
unfolding tables kind_number kind_number_stepped wide_stepped
wide_kind = where_passes is_wide kind_number wide_stepped kind_number_stepped (λ n. n == 2) refl

-- what a kind's number says of it
record IsKindOf (k : Kind) (w : ℕ) : Type 0 where
  simple : is_simple_kind k ≡ true
  width : (c : ℕ) → (of_kind false c k).0 ≡ w

of_one : (k : Kind) → is_one (number_of_kind k) ≡ true → IsKindOf k 1
of_one kinds.Zero h = cc
of_one kinds.Narrow h = record { simple = refl; width = λ c. refl }
of_one kinds.Wide h = cc
of_one kinds.Ambiguous h = record { simple = refl; width = λ c. refl }
of_one kinds.Alef h = cc
of_one kinds.KhmerLetter h = cc
of_one kinds.TifinaghConsonant h = cc
of_one kinds.LisuTone h = cc
of_one kinds.RegionalIndicator h = cc
of_one kinds.EmojiModifier h = cc
of_one kinds.Emoji h = cc
of_one kinds.Single h = cc

of_two : (k : Kind) → (number_of_kind k == 2) ≡ true → IsKindOf k 2
of_two kinds.Zero h = cc
of_two kinds.Narrow h = cc
of_two kinds.Wide h = record { simple = refl; width = λ c. refl }
of_two kinds.Ambiguous h = cc
of_two kinds.Alef h = cc
of_two kinds.KhmerLetter h = cc
of_two kinds.TifinaghConsonant h = cc
of_two kinds.LisuTone h = cc
of_two kinds.RegionalIndicator h = cc
of_two kinds.EmojiModifier h = cc
of_two kinds.Emoji h = cc
of_two kinds.Single h = cc

kind_of-plain : (c : ℕ) → is_plain c ≡ true → IsKindOf (kind c) (plain_width c)
kind_of-plain c h = go (is_narrow c) refl h
  where
    go : (b : Bool) → is_narrow c ≡ b → (b || is_wide c) ≡ true → IsKindOf (kind c) (cond b 1 2)
    go true e h = of_one (kind c) (narrow_kind c e)
    go false e h = of_two (kind c) (wide_kind c h)

plain_simple : (c : ℕ) → is_plain c ≡ true → is_simple c ≡ true
plain_simple c h =
    ⊎_elim (λ r. low c (is_simple_kind (kind c)) r.0 r.1) (λ r. high c (is_simple_kind (kind c)) r (kind_of-plain c h).simple) (plain_cases c h)
  where
    low : (c : ℕ) (k : Bool) → 0x20 ≤ c → c ≤ 0x7E → (is_in_range 0x20 0x7E c || (nat_lt 0xA0 c && k)) ≡ true
    low c k lo hi = grind (arith, nat_tests)

    high : (c : ℕ) (k : Bool) → 0xA1 ≤ c → k ≡ true → (is_in_range 0x20 0x7E c || (nat_lt 0xA0 c && k)) ≡ true
    high c k lo is = grind (arith, nat_tests)

-- printable ASCII is narrow
pub ascii_narrow : (c : ℕ) → 0x20 ≤ c → c ≤ 0x7E → is_narrow c ≡ true
unfolding in_ranges
ascii_narrow c lo hi = ap (λ b. b || in_ranges (drop 1 narrow_ranges) c) (both c lo hi)
  where
    both : (c : ℕ) → 0x20 ≤ c → c ≤ 0x7E → (nat_le 0x20 c && nat_le c 0x7E) ≡ true
    both c lo hi = grind (arith, nat_tests)

ascii_width : (c : ℕ) → 0x20 ≤ c → c ≤ 0x7E → plain_width c ≡ 1
ascii_width c lo hi = ap (λ b. cond b 1 2) (ascii_narrow c lo hi)

plain_width-is : (c : ℕ) → is_plain c ≡ true → width_or_zero false c ≡ plain_width c
unfolding char_width alone
plain_width-is c h =
    ⊎_elim (λ r. low c (alone false c).0 r.0 r.1 ∙ sym (ascii_width c r.0 r.1))
    (λ r. high c (of_kind false c (kind c)).0 (plain_width c) r ((kind_of-plain c h).width c)) (plain_cases c h)
  where
    low : (c w : ℕ) → 0x20 ≤ c → c ≤ 0x7E → unwrap_or (cond (nat_lt c 0x7F) (cond (nat_le 0x20 c) (Some 1) None) (cond (nat_le 0xA0 c) (Some w) None)) 0 ≡ 1
    low c w lo hi = grind (arith, nat_tests)

    high : (c w v : ℕ) → 0xA1 ≤ c → w ≡ v → unwrap_or (cond (nat_lt c 0x7F) (cond (nat_le 0x20 c) (Some 1) None) (cond (nat_le 0xA0 c) (Some w) None)) 0 ≡ v
    high c w v lo is = grind (arith, nat_tests)

pub str_width-plain : (c : ℕ) → is_plain c ≡ true → str_width false (c ∷ []) ≡ plain_width c
str_width-plain c h =
    str_width-simple false (c ∷ []) (ap (λ b. b && true) (plain_simple c h))
    ∙ sum_by-cons (width_or_zero false) c [] ∙ ap (λ n. n + 0) (plain_width-is c h) ∙ add_zero (plain_width c)
  where
    add_zero : (n : ℕ) → n + 0 ≡ n
    add_zero n = omega arith
