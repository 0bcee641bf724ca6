-- What Unicode's tables give on plain characters.
use Rattle.std.proofs.Common.{◌≡◌, ℕ, ◌≤◌, ◌<◌, ◌⊎◌, Bool, true, false, not, ◌||◌, ◌&&◌, ◌==◌, List, [], ◌∷◌, refl, sym, arith, ⊎_elim, eqb-true}
use Rattle.std.proofs.lemmas.Bool.{cases_lt}
use Rattle.std.proofs.lemmas.Bool.Decides.{nat_tests}
use Rattle.std.specs.Bool.{beq}
use Rattle.std.specs.Char.{is_whitespace, is_control, IsScalar}
use Rattle.ucd_table.specs.Rows.{Range, in_ranges}
use Rattle.ucd_table.proofs.Stepped.{Stepped, of_ranges, zip_stepped}
use Rattle.ucd_table.proofs.Facts.{always, ends_by, Stepped-below, Stepped-everywhere, same_from_beq}
use Rattle.ucd_table.proofs.Computing.{tables}
use Rattle.ucd_breaks.specs.GraphemeClusterBreak.{grapheme_cluster_break, grapheme_cluster_break_number}
use Rattle.ucd_breaks.specs.declared.GraphemeClusterBreak.TheVariants.{Other}
use Rattle.ucd_breaks.proofs.GraphemeClusterBreakLemmas.{grapheme_cluster_break_stepped, grapheme_cluster_break_number_injective}
use Rattle.ucd_breaks.proofs.Computing.{ucd_breaks}
use Rattle.ucd_derived.specs.IndicConjunctBreak.{indic_conjunct_break}
use Rattle.ucd_derived.proofs.IndicConjunctBreakLemmas.{indic_conjunct_break_stepped}
use Rattle.ucd_derived.proofs.Computing.{ucd_derived}
use Rattle.ucd_emoji.specs.Binary.{is_extended_pictographic}
use Rattle.ucd_emoji.proofs.BinaryLemmas.{is_extended_pictographic_stepped}
use Rattle.ucd_emoji.proofs.Computing.{ucd_emoji}
use Rattle.unicode_segmentation.specs.Grapheme.{is_consonant}
use Rattle.term_text.specs.Plain.{narrow_ranges, wide_ranges, is_narrow, is_wide, is_plain}

unfoldable pub narrow_stepped : Stepped is_narrow
unfolding tables
narrow_stepped = of_ranges narrow_ranges refl

unfoldable pub wide_stepped : Stepped is_wide
unfolding tables
wide_stepped = of_ranges wide_ranges refl

unfoldable pub plain_stepped : Stepped is_plain
unfolding narrow_stepped wide_stepped
plain_stepped = zip_stepped ◌||◌ is_narrow is_wide narrow_stepped wide_stepped

-- a character does not pass p, or f's value passes the test
abbrev pub unless : {V : Type 0} → (V → Bool) → Bool → V → Bool
unless test passed v = not passed || test v

-- a test that passes at each number, as a computation over its steps
abbrev everywhere : (p : ℕ → Bool) → Stepped p → Bool
everywhere p s = always p s && (ends_by 0x11_0000 s.steps && s.default)

-- the test passes on each character that passes p
abbrev pub passes_where : {V : Type 0} (p : ℕ → Bool) (f : ℕ → V) → Stepped p → Stepped f → (V → Bool) → Bool
passes_where p f sp s test = everywhere (λ c. unless test (p c) (f c)) (zip_stepped (unless test) p f sp s)

pub where_passes : {V : Type 0} (p : ℕ → Bool) (f : ℕ → V) (sp : Stepped p) (s : Stepped f) (test : V → Bool) → passes_where p f sp s test ≡ true
    → (c : ℕ) → p c ≡ true → test (f c) ≡ true
where_passes p f sp s test ok c h =
    let either : (not (p c) || test (f c)) ≡ true = Stepped-everywhere (λ c. unless test (p c) (f c)) (zip_stepped (unless test) p f sp s) ok c in
    rw h at either

pub grapheme_cluster_break-plain : (c : ℕ) → is_plain c ≡ true → grapheme_cluster_break c ≡ Other
unfolding tables ucd_breaks plain_stepped
grapheme_cluster_break-plain c h =
    grapheme_cluster_break_number_injective _ _
    (eqb-true _ _ (where_passes is_plain grapheme_cluster_break plain_stepped grapheme_cluster_break_stepped (λ v. grapheme_cluster_break_number v == grapheme_cluster_break_number Other) refl c h))

from_not : (b : Bool) → not b ≡ true → b ≡ false
from_not true h = sym h
from_not false h = refl

pub is_consonant-plain : (c : ℕ) → is_plain c ≡ true → is_consonant (indic_conjunct_break c) ≡ false
unfolding tables ucd_derived plain_stepped
is_consonant-plain c h = from_not _ (where_passes is_plain indic_conjunct_break plain_stepped indic_conjunct_break_stepped (λ v. not (is_consonant v)) refl c h)

pub is_extended_pictographic-plain : (c : ℕ) → is_plain c ≡ true → is_extended_pictographic c ≡ false
unfolding tables ucd_emoji plain_stepped
is_extended_pictographic-plain c h = from_not _ (where_passes is_plain is_extended_pictographic plain_stepped is_extended_pictographic_stepped (λ v. not v) refl c h)

-- ---- where they stand

-- printable ASCII, and all characters past the controls
abbrev shown_ranges : List Range
shown_ranges = (0x20, 0x7E) ∷ (0xA1, 0xD7FF) ∷ (0xE000, 0x10_FFFF) ∷ []

plain_shown : (c : ℕ) → is_plain c ≡ true → in_ranges shown_ranges c ≡ true
unfolding tables plain_stepped
plain_shown = where_passes is_plain (in_ranges shown_ranges) plain_stepped (of_ranges shown_ranges refl) (λ b. b) refl

pub plain_cases : (c : ℕ) → is_plain c ≡ true → ((0x20 ≤ c) × (c ≤ 0x7E)) ⊎ (0xA1 ≤ c)
unfolding in_ranges
plain_cases c h = grind (arith, nat_tests, plain_shown c h)

pub IsScalar-plain : (c : ℕ) → is_plain c ≡ true → IsScalar c
unfolding in_ranges
IsScalar-plain c h = grind (arith, nat_tests, plain_shown c h)

pub is_control-plain : (c : ℕ) → is_plain c ≡ true → is_control c ≡ false
unfolding in_ranges
is_control-plain c h = grind (arith, nat_tests, plain_shown c h)

low_whitespace : (c : ℕ) → is_plain c ≡ true → c < 0x3001 → is_whitespace c ≡ (c == 32)
unfolding tables plain_stepped
low_whitespace c h below =
    let either : (not (is_plain c) || beq (is_whitespace c) (c == 32)) ≡ true =
    Stepped-below is_plain plain_stepped (λ c p. not p || beq (is_whitespace c) (c == 32)) 0x3001 refl c below in
    same_from_beq _ _ (rw h at either)

high_whitespace : (c : ℕ) → 0x3001 ≤ c → is_whitespace c ≡ (c == 32)
high_whitespace c above = grind (arith, nat_tests)

-- no plain character but the space is white space
pub is_whitespace-plain : (c : ℕ) → is_plain c ≡ true → is_whitespace c ≡ (c == 32)
is_whitespace-plain c h = ⊎_elim (low_whitespace c h) (high_whitespace c) (cases_lt c 0x3001)
