-- The style that codes make holds all that they were given: the first style patched by it is it.
use Rattle.std.proofs.Common.{◌≡◌, ◌<◌, ◌≤◌, ◌+◌, ◌-◌, ◌^◌, ℕ, min, max, List, [], ◌∷◌, Option, Some, None, refl, ap, ap₂, ◌∙◌, arith, w16}
use Rattle.std.specs.Int.{bit_at}
use Rattle.std.specs.Int.RustNames.{bit_and, bit_or}
use Rattle.std.proofs.lemmas.Nat.{or_lt, and_le_l}
use Rattle.std.proofs.lemmas.Nat.Bits.{bit_at_and, bit_at_or, bit_at_not, bit_at-lt, bit_at_ones, same_from_bits_below}
use Rattle.term_text.specs.Style.{or_else, patch, reset_style, with_modifier, without_modifier}
use Rattle.term_text.specs.declared.style.Color.{Color}
use Rattle.term_text.specs.declared.style.Modifier.{Modifier}
use Rattle.term_text.specs.declared.style.Style.{Style}
use Rattle.term_text.specs.declared.style.TheConstants.Modifier.{BOLD, DIM, ITALIC, UNDERLINED, SLOW_BLINK, RAPID_BLINK, REVERSED, HIDDEN, CROSSED_OUT}
use Rattle.ansi_text.specs.declared.code.AnsiCode.{AnsiCode}
use Rattle.ansi_text.specs.declared.code.AnsiCode.TheVariants as code
use Rattle.ansi_text.specs.declared.item.Item.{Item}
use Rattle.ansi_text.specs.Codes.{acts, acts_if_listed, after_item, listed}
use Rattle.ansi_text.specs.Pieces.{Piece, sgr, cut, stretch}
use Rattle.ansi_text.specs.Ansi.{after_items, after_sequence, after_pieces}

-- a set of the nine modifiers
abbrev pub IsKnown : ℕ → Type 0
IsKnown m = m < 2 ^ 9

-- the bits of a without those of b
abbrev outside : ℕ → ℕ → ℕ
outside a b = bit_and a (2 ^ 16 - 1 - b)

-- what the second style is after the first: it has all colours, and each modifier in one of its sets
pub record Follows (first second : Style) : Type 0 where
  pub fg : or_else second.fg first.fg ≡ second.fg
  pub bg : or_else second.bg first.bg ≡ second.bg
  pub add_known : IsKnown second.add.0
  pub sub_known : IsKnown second.sub.0
  pub added : (i : ℕ) → i < 9 → bit_at first.add.0 i ≤ bit_at second.add.0 i + bit_at second.sub.0 i
  pub removed : (i : ℕ) → i < 9 → bit_at first.sub.0 i ≤ bit_at second.add.0 i + bit_at second.sub.0 i

or_else-same : (c : Option Color) → or_else c c ≡ c
or_else-same None = refl
or_else-same (Some c) = refl

pub Follows-start : (s : Style) → IsKnown s.add.0 → IsKnown s.sub.0 → Follows s s
Follows-start s a b = record {
  fg = or_else-same s.fg;
  bg = or_else-same s.bg;
  add_known = a;
  sub_known = b;
  added = λ i lt. omega arith;
  removed = λ i lt. omega arith;
}

bit_at-without : (a b i : ℕ) → IsKnown b → i < 9 → bit_at (outside a b) i ≡ min (bit_at a i) (1 - bit_at b i)
bit_at-without a b i known lt =
    bit_at_and a (2 ^ 16 - 1 - b) i ∙ ap (λ (x : ℕ). min (bit_at a i) x) (bit_at_not w16 b i (omega (arith, known)) (omega (arith, lt)))

without-known : (a b : ℕ) → IsKnown a → IsKnown (outside a b)
without-known a b known = omega (arith, known, and_le_l a (2 ^ 16 - 1 - b))

or-known : (a b : ℕ) → IsKnown a → IsKnown b → IsKnown (bit_or a b)
or-known a b h k = or_lt 9 a b h k

-- a bit of the two sets after a modifier was moved to one of them
moved : (x a b m a2 b2 : ℕ) → x ≤ a + b → x < 2 → m < 2 → a < 2 → b < 2 → a2 ≡ max a m → b2 ≡ min b (1 - m) → x ≤ a2 + b2
moved x a b m a2 b2 h lx lm la lb e f = omega (arith, h, lx, lm, la, lb, e, f)

moved_back : (x a b m a2 b2 : ℕ) → x ≤ a + b → x < 2 → m < 2 → a < 2 → b < 2 → a2 ≡ min a (1 - m) → b2 ≡ max b m → x ≤ a2 + b2
moved_back x a b m a2 b2 h lx lm la lb e f = omega (arith, h, lx, lm, la, lb, e, f)

Follows-with : (first second : Style) (m : Modifier) → IsKnown m.0 → Follows first second → Follows first (with_modifier second m)
Follows-with first second m known h = record {
  fg = h.fg;
  bg = h.bg;
  add_known = or-known second.add.0 m.0 h.add_known known;
  sub_known = without-known second.sub.0 m.0 h.sub_known;
  added = λ i lt. moved (bit_at first.add.0 i) (bit_at second.add.0 i) (bit_at second.sub.0 i) (bit_at m.0 i) _ _ (h.added i lt)
      (bit_at-lt first.add.0 i) (bit_at-lt m.0 i) (bit_at-lt second.add.0 i) (bit_at-lt second.sub.0 i)
      (bit_at_or second.add.0 m.0 i) (bit_at-without second.sub.0 m.0 i known lt);
  removed = λ i lt. moved (bit_at first.sub.0 i) (bit_at second.add.0 i) (bit_at second.sub.0 i) (bit_at m.0 i) _ _ (h.removed i lt)
      (bit_at-lt first.sub.0 i) (bit_at-lt m.0 i) (bit_at-lt second.add.0 i) (bit_at-lt second.sub.0 i)
      (bit_at_or second.add.0 m.0 i) (bit_at-without second.sub.0 m.0 i known lt);
}

Follows-without : (first second : Style) (m : Modifier) → IsKnown m.0 → Follows first second → Follows first (without_modifier second m)
Follows-without first second m known h = record {
  fg = h.fg;
  bg = h.bg;
  add_known = without-known second.add.0 m.0 h.add_known;
  sub_known = or-known second.sub.0 m.0 h.sub_known known;
  added = λ i lt. moved_back (bit_at first.add.0 i) (bit_at second.add.0 i) (bit_at second.sub.0 i) (bit_at m.0 i) _ _ (h.added i lt)
      (bit_at-lt first.add.0 i) (bit_at-lt m.0 i) (bit_at-lt second.add.0 i) (bit_at-lt second.sub.0 i)
      (bit_at-without second.add.0 m.0 i known lt) (bit_at_or second.sub.0 m.0 i);
  removed = λ i lt. moved_back (bit_at first.sub.0 i) (bit_at second.add.0 i) (bit_at second.sub.0 i) (bit_at m.0 i) _ _ (h.removed i lt)
      (bit_at-lt first.sub.0 i) (bit_at-lt m.0 i) (bit_at-lt second.add.0 i) (bit_at-lt second.sub.0 i)
      (bit_at-without second.add.0 m.0 i known lt) (bit_at_or second.sub.0 m.0 i);
}

Follows-reset : (first : Style) → Follows first reset_style
Follows-reset first = record {
  fg = refl;
  bg = refl;
  add_known = omega arith;
  sub_known = omega arith;
  added = λ i lt. omega (arith, bit_at-lt first.add.0 i, bit_at_ones 9 i lt);
  removed = λ i lt. omega (arith, bit_at-lt first.sub.0 i, bit_at_ones 9 i lt);
}

Follows-fg : (first second : Style) (c : Color) → Follows first second → Follows first (record second { fg = Some c })
Follows-fg first second c h = record { fg = refl; bg = h.bg; add_known = h.add_known; sub_known = h.sub_known; added = h.added; removed = h.removed }

Follows-bg : (first second : Style) (c : Color) → Follows first second → Follows first (record second { bg = Some c })
Follows-bg first second c h = record { fg = h.fg; bg = refl; add_known = h.add_known; sub_known = h.sub_known; added = h.added; removed = h.removed }

Follows-acts : (first second : Style) (k : AnsiCode) (c : Option Color) → Follows first second → Follows first (acts k c second)
Follows-acts first second code.Reset c h = Follows-reset first
Follows-acts first second code.Bold c h = Follows-with first second BOLD (omega arith) h
Follows-acts first second code.Faint c h = Follows-with first second DIM (omega arith) h
Follows-acts first second code.Italic c h = Follows-with first second ITALIC (omega arith) h
Follows-acts first second code.Underline c h = Follows-with first second UNDERLINED (omega arith) h
Follows-acts first second code.SlowBlink c h = Follows-with first second SLOW_BLINK (omega arith) h
Follows-acts first second code.RapidBlink c h = Follows-with first second RAPID_BLINK (omega arith) h
Follows-acts first second code.Reverse c h = Follows-with first second REVERSED (omega arith) h
Follows-acts first second code.Conceal c h = Follows-with first second HIDDEN (omega arith) h
Follows-acts first second code.CrossedOut c h = Follows-with first second CROSSED_OUT (omega arith) h
Follows-acts first second code.Normal c h = Follows-without first (without_modifier second BOLD) DIM (omega arith) (Follows-without first second BOLD (omega arith) h)
Follows-acts first second code.NotItalic c h = Follows-without first second ITALIC (omega arith) h
Follows-acts first second code.UnderlineOff c h = Follows-without first second UNDERLINED (omega arith) h
Follows-acts first second code.BlinkOff c h = Follows-without first (without_modifier second SLOW_BLINK) RAPID_BLINK (omega arith) (Follows-without first second SLOW_BLINK (omega arith) h)
Follows-acts first second code.InvertOff c h = Follows-without first second REVERSED (omega arith) h
Follows-acts first second code.Reveal c h = Follows-without first second HIDDEN (omega arith) h
Follows-acts first second code.CrossedOutOff c h = Follows-without first second CROSSED_OUT (omega arith) h
Follows-acts first second (code.ForegroundColor k) c h = Follows-fg first second k h
Follows-acts first second code.SetForegroundColor None h = h
Follows-acts first second code.SetForegroundColor (Some c) h = Follows-fg first second c h
Follows-acts first second code.DefaultForegroundColor c h = Follows-fg first second _ h
Follows-acts first second (code.BackgroundColor k) c h = Follows-bg first second k h
Follows-acts first second code.SetBackgroundColor None h = h
Follows-acts first second code.SetBackgroundColor (Some c) h = Follows-bg first second c h
Follows-acts first second code.DefaultBackgroundColor c h = Follows-bg first second _ h
Follows-acts first second code.PrimaryFont c h = h
Follows-acts first second code.AlternateFont c h = h
Follows-acts first second (code.AlternateFonts n) c h = h
Follows-acts first second code.Fraktur c h = h
Follows-acts first second code.BoldOff c h = h
Follows-acts first second (code.Code bytes) c h = h

Follows-item : (first second : Style) (i : Item) → Follows first second → Follows first (after_item second i)
Follows-item first second i h = go (listed i.code)
  where
    go : (o : Option AnsiCode) → Follows first (acts_if_listed o i.color second)
    go None = h
    go (Some k) = Follows-acts first second k i.color h

Follows-items : (first second : Style) (is : List Item) → Follows first second → Follows first (after_items second is)
unfolding after_items
Follows-items first second [] h = h
Follows-items first second (i ∷ is) h = Follows-items first (after_item second i) is (Follows-item first second i h)

Follows-sequence : (first second : Style) (is : List Item) → Follows first second → Follows first (after_sequence second is)
Follows-sequence first second [] h = Follows-reset first
Follows-sequence first second (i ∷ is) h = Follows-items first second (i ∷ is) h

Follows-pieces : (first second : Style) (ps : List Piece) → Follows first second → Follows first (after_pieces second ps)
unfolding after_pieces
Follows-pieces first second [] h = h
Follows-pieces first second (sgr is ∷ ps) h = Follows-pieces first (after_sequence second is) ps (Follows-sequence first second is h)
Follows-pieces first second (cut ∷ ps) h = Follows-pieces first second ps h
Follows-pieces first second (stretch text ∷ ps) h = Follows-pieces first second ps h

-- a set under another that has all that is not taken out
kept_bit : (x a b r : ℕ) → x ≤ a + b → x < 2 → a < 2 → b < 2 → r ≡ max (min x (1 - b)) a → r ≡ a
kept_bit x a b r h lx la lb e = omega (arith, h, lx, la, lb, e)

same_set : (x a b : ℕ) → IsKnown x → IsKnown a → IsKnown b → ((i : ℕ) → i < 9 → bit_at x i ≤ bit_at a i + bit_at b i) → bit_or (outside x b) a ≡ a
same_set x a b hx ha hb h =
    same_from_bits_below 9 (bit_or (outside x b) a) a (or-known (outside x b) a (without-known x b hx) ha) ha
    (λ i lt. kept_bit (bit_at x i) (bit_at a i) (bit_at b i) (bit_at (bit_or (outside x b) a) i) (h i lt) (bit_at-lt x i) (bit_at-lt a i) (bit_at-lt b i)
    (bit_at_or (outside x b) a i ∙ ap (λ (y : ℕ). max y (bit_at a i)) (bit_at-without x b i hb lt)))

swapped : (x a b : ℕ) → x ≤ a + b → x ≤ b + a
swapped x a b h = omega (arith, h)

abbrev set_of : ℕ → Modifier
set_of n = record { 0 = n }

style_of : Option Color → Option Color → ℕ → ℕ → Style
style_of f b a s = record { fg = f; bg = b; add = record { 0 = a }; sub = record { 0 = s } }

Follows-patched : (first second : Style) → IsKnown first.add.0 → IsKnown first.sub.0 → Follows first second → patch first second ≡ second
unfolding style_of
Follows-patched first second ka ks h =
    ap₂ (λ (f : Option Color) (b : Option Color). record (patch first second) { fg = f; bg = b }) h.fg h.bg
    ∙ ap₂ (λ (a s : ℕ). record second { add = set_of a; sub = set_of s })
    (same_set first.add.0 second.add.0 second.sub.0 ka h.add_known h.sub_known h.added)
    (same_set first.sub.0 second.sub.0 second.add.0 ks h.sub_known h.add_known
    (λ i lt. swapped (bit_at first.sub.0 i) (bit_at second.add.0 i) (bit_at second.sub.0 i) (h.removed i lt)))

pub patch-after_pieces : (style : Style) (ps : List Piece) → IsKnown style.add.0 → IsKnown style.sub.0 → patch style (after_pieces style ps) ≡ after_pieces style ps
patch-after_pieces style ps a s = Follows-patched style (after_pieces style ps) a s (Follows-pieces style style ps (Follows-start style a s))
