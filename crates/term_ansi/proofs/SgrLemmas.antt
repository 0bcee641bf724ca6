-- A sequence is read back, and gives its look whatever the style before.
use Rattle.std.proofs.Common.{◌≡◌, ◌<◌, ◌≤◌, ◌+◌, ◌%◌, ◌^◌, ◌==◌, ◌&&◌, not, ℕ, zero, suc, Bool, true, false, cond, nat_lt, nat_le, List, [], ◌∷◌, ◌++◌, refl, ap, ap₂, sym, ◌∙◌, arith, append_assoc, append-nil, Option, Some, None}
use Rattle.std.proofs.lemmas.Bool.{false≢true, and_parts, eqb-true}
use Rattle.std.proofs.lemmas.Bool.Decides.{nat_tests}
use Rattle.std.proofs.lemmas.Fmt.{decimal_by_steps, decimal_digit}
use Rattle.std.proofs.lemmas.List.Folds.{list_all-append}
use Rattle.std.specs.Fmt.{decimal}
use Rattle.std.specs.Int.RustNames.{bit_and, bit_or}
use Rattle.std.specs.List.{list_all}
use Rattle.bitflags.specs.Sets.{without}
use Rattle.term_text.specs.LineEnds.{is_one_line, ends_line}
use Rattle.term_text.specs.Style.{reset_style, with_modifier}
use Rattle.term_text.specs.declared.style.Color.{Color}
use Rattle.term_text.specs.declared.style.Color.TheVariants.{Rgb, Indexed, Reset, Black, Red, Green, Yellow, Blue, Magenta, Cyan, Gray, DarkGray, LightRed, LightGreen, LightYellow, LightBlue, LightMagenta, LightCyan, White}
use Rattle.term_text.specs.declared.style.Style.{Style}
use Rattle.term_core.specs.Cells.{blank_cell, with_style}
use Rattle.ansi_text.specs.Codes.{after_item}
use Rattle.ansi_text.specs.Ansi.{after_items, after_sequence}
use Rattle.ansi_text.specs.Pieces.{sgr, pieces}
use Rattle.ansi_text.specs.Items.{takes_color}
use Rattle.ansi_text.specs.Written.{is_item, color_fits, is_color, fits_byte, code, written_color, written_behind, written_item, written_others, written}
use Rattle.ansi_text.proofs.LawLemmas.{pieces-written}
use Rattle.term_ansi.specs.declared.look.Look.{Look}
use Rattle.term_ansi.specs.Looks.{look_of}
use Rattle.ansi_text.specs.declared.item.Item.{Item}
use Rattle.term_ansi.specs.Sgr.{color_items, modifier_item, modifier_items, look_items, sequence_text}
use Rattle.term_ansi.specs.Runs.{is_known, is_byte_color, is_byte_look}

-- ---- the items can be written

all_modifier : (set bit n : ℕ) → is_item (code n) ≡ true → list_all is_item (modifier_item set bit n) ≡ true
all_modifier set bit n h =
    elim (bit_and set bit == bit) as (λ v. list_all is_item (cond v (code n ∷ []) []) ≡ true) [ true ↦ ap (λ v. v && true) h | false ↦ refl ]

joined_all : (xs ys : List Item) → list_all is_item xs ≡ true → list_all is_item ys ≡ true → list_all is_item (xs ++ ys) ≡ true
joined_all xs ys h k = list_all-append is_item xs ys ∙ ap₂ (λ a b. a && b) h k

then_modifier : (set bit n : ℕ) (rest : List Item) → is_item (code n) ≡ true → list_all is_item rest ≡ true → list_all is_item (modifier_item set bit n ++ rest) ≡ true
then_modifier set bit n rest h k = joined_all (modifier_item set bit n) rest (all_modifier set bit n h) k

abbrev from_8 : ℕ → List Item
from_8 set = modifier_item set 128 8 ++ modifier_item set 256 9

abbrev from_7 : ℕ → List Item
from_7 set = modifier_item set 64 7 ++ from_8 set

abbrev from_6 : ℕ → List Item
from_6 set = modifier_item set 32 6 ++ from_7 set

abbrev from_5 : ℕ → List Item
from_5 set = modifier_item set 16 5 ++ from_6 set

abbrev from_4 : ℕ → List Item
from_4 set = modifier_item set 8 4 ++ from_5 set

abbrev from_3 : ℕ → List Item
from_3 set = modifier_item set 4 3 ++ from_4 set

abbrev from_2 : ℕ → List Item
from_2 set = modifier_item set 2 2 ++ from_3 set

all_modifiers : (set : ℕ) → list_all is_item (modifier_items set) ≡ true
all_modifiers set =
    then_modifier set 1 1 (from_2 set) refl (then_modifier set 2 2 (from_3 set) refl (then_modifier set 4 3 (from_4 set) refl
    (then_modifier set 8 4 (from_5 set) refl (then_modifier set 16 5 (from_6 set) refl (then_modifier set 32 6 (from_7 set) refl
    (then_modifier set 64 7 (from_8 set) refl (then_modifier set 128 8 (modifier_item set 256 9) refl (all_modifier set 256 9 refl))))))))

all_foreground : (c : Color) → is_byte_color c ≡ true → list_all is_item (color_items 30 c) ≡ true
all_foreground Reset h = refl
all_foreground Black h = refl
all_foreground Red h = refl
all_foreground Green h = refl
all_foreground Yellow h = refl
all_foreground Blue h = refl
all_foreground Magenta h = refl
all_foreground Cyan h = refl
all_foreground Gray h = refl
all_foreground DarkGray h = refl
all_foreground LightRed h = refl
all_foreground LightGreen h = refl
all_foreground LightYellow h = refl
all_foreground LightBlue h = refl
all_foreground LightMagenta h = refl
all_foreground LightCyan h = refl
all_foreground White h = refl
all_foreground (Rgb r g b) h = ap (λ v. v && true) h
all_foreground (Indexed n) h = ap (λ v. v && true) h

all_background : (c : Color) → is_byte_color c ≡ true → list_all is_item (color_items 40 c) ≡ true
all_background Reset h = refl
all_background Black h = refl
all_background Red h = refl
all_background Green h = refl
all_background Yellow h = refl
all_background Blue h = refl
all_background Magenta h = refl
all_background Cyan h = refl
all_background Gray h = refl
all_background DarkGray h = refl
all_background LightRed h = refl
all_background LightGreen h = refl
all_background LightYellow h = refl
all_background LightBlue h = refl
all_background LightMagenta h = refl
all_background LightCyan h = refl
all_background White h = refl
all_background (Rgb r g b) h = ap (λ v. v && true) h
all_background (Indexed n) h = ap (λ v. v && true) h

all_items : (l : Look) → is_byte_look l ≡ true → list_all is_item (look_items l) ≡ true
all_items l h =
    let parts = and_parts _ _ h in
    joined_all (modifier_items l.modifier.0) (color_items 30 l.fg ++ color_items 40 l.bg) (all_modifiers l.modifier.0)
    (joined_all (color_items 30 l.fg) (color_items 40 l.bg) (all_foreground l.fg parts.0) (all_background l.bg parts.1))

-- a known look has bytes as the parts of its colours
pub bytes_from_known : (l : Look) → is_known l ≡ true → is_byte_look l ≡ true
bytes_from_known l h =
    let parts = and_parts (is_byte_color l.fg) (is_byte_color l.bg && nat_lt l.modifier.0 512) h in
    ap₂ (λ a b. a && b) parts.0 (and_parts (is_byte_color l.bg) (nat_lt l.modifier.0 512) parts.1).0

-- ---- a sequence in front

zero_written : (is : List Item) → written (code 0 ∷ is) ≡ 48 ∷ written_others is
zero_written is = ap (λ (ds : List ℕ). (ds ++ []) ++ written_others is) (decimal_digit 0 (omega arith))

pub pieces-sequence_text : (l : Look) (rest : List ℕ) → is_known l ≡ true → pieces (sequence_text l ++ rest) ≡ sgr (code 0 ∷ look_items l) ∷ pieces rest
unfolding sequence_text
pieces-sequence_text l rest h =
    ap (λ (t : List ℕ). pieces (27 ∷ 91 ∷ 48 ∷ t)) (append_assoc (written_others (look_items l)) (109 ∷ []) rest)
    ∙ ap (λ (t : List ℕ). pieces (27 ∷ 91 ∷ (t ++ (109 ∷ rest)))) (sym (zero_written (look_items l)))
    ∙ pieces-written (code 0 ∷ look_items l) rest (all_items l (bytes_from_known l h))

-- ---- the style behind it

abbrev styled_by : Color → Color → ℕ → ℕ → Style
styled_by f g a s = record { fg = Some f; bg = Some g; add = record { 0 = a }; sub = record { 0 = s } }

-- the two sets after a modifier
abbrev added : ℕ → ℕ → ℕ → ℕ
added set bit a = cond (bit_and set bit == bit) (bit_or a bit) a

abbrev taken : ℕ → ℕ → ℕ → ℕ
taken set bit s = cond (bit_and set bit == bit) (without 16 s bit) s

after-modifier : (set bit n : ℕ) → ((s : Style) → after_item s (code n) ≡ with_modifier s (record { 0 = bit })) → (rest : List Item) (f g : Color) (a s : ℕ)
    → after_items (styled_by f g a s) (modifier_item set bit n ++ rest) ≡ after_items (styled_by f g (added set bit a) (taken set bit s)) rest
unfolding after_items
after-modifier set bit n acts rest f g a s =
    elim (bit_and set bit == bit) as (λ v. after_items (styled_by f g a s) (cond v (code n ∷ []) [] ++ rest)
    ≡ after_items (styled_by f g (cond v (bit_or a bit) a) (cond v (without 16 s bit) s)) rest) [
      | true ↦ ap (λ (t : Style). after_items t rest) (acts (styled_by f g a s))
      | false ↦ refl
    ]

abbrev all_added : ℕ → ℕ
all_added m = added m 256 (added m 128 (added m 64 (added m 32 (added m 16 (added m 8 (added m 4 (added m 2 (added m 1 0))))))))

abbrev all_taken : ℕ → ℕ
all_taken m = taken m 256 (taken m 128 (taken m 64 (taken m 32 (taken m 16 (taken m 8 (taken m 4 (taken m 2 (taken m 1 511))))))))

after-append : (s : Style) (xs ys : List Item) → after_items s (xs ++ ys) ≡ after_items (after_items s xs) ys
unfolding after_items
after-append s [] ys = refl
after-append s (x ∷ xs) ys = after-append (after_item s x) xs ys

after-modifiers : (m : ℕ) → after_items reset_style (modifier_items m) ≡ styled_by Reset Reset (all_added m) (all_taken m)
unfolding after_items
after-modifiers m =
    after-modifier m 1 1 (λ s. refl) _ Reset Reset _ _ ∙ after-modifier m 2 2 (λ s. refl) _ Reset Reset _ _ ∙ after-modifier m 4 3 (λ s. refl) _ Reset Reset _ _
    ∙ after-modifier m 8 4 (λ s. refl) _ Reset Reset _ _ ∙ after-modifier m 16 5 (λ s. refl) _ Reset Reset _ _ ∙ after-modifier m 32 6 (λ s. refl) _ Reset Reset _ _
    ∙ after-modifier m 64 7 (λ s. refl) _ Reset Reset _ _ ∙ after-modifier m 128 8 (λ s. refl) _ Reset Reset _ _
    ∙ ap (after_items _) (sym (append-nil (modifier_item m 256 9))) ∙ after-modifier m 256 9 (λ s. refl) [] Reset Reset _ _

after-foreground : (c g : Color) (a s : ℕ) → after_items (styled_by Reset g a s) (color_items 30 c) ≡ styled_by c g a s
unfolding after_items
after-foreground Reset g a s = refl
after-foreground Black g a s = refl
after-foreground Red g a s = refl
after-foreground Green g a s = refl
after-foreground Yellow g a s = refl
after-foreground Blue g a s = refl
after-foreground Magenta g a s = refl
after-foreground Cyan g a s = refl
after-foreground Gray g a s = refl
after-foreground DarkGray g a s = refl
after-foreground LightRed g a s = refl
after-foreground LightGreen g a s = refl
after-foreground LightYellow g a s = refl
after-foreground LightBlue g a s = refl
after-foreground LightMagenta g a s = refl
after-foreground LightCyan g a s = refl
after-foreground White g a s = refl
after-foreground (Rgb x y z) g a s = refl
after-foreground (Indexed n) g a s = refl

after-background : (f c : Color) (a s : ℕ) → after_items (styled_by f Reset a s) (color_items 40 c) ≡ styled_by f c a s
unfolding after_items
after-background f Reset a s = refl
after-background f Black a s = refl
after-background f Red a s = refl
after-background f Green a s = refl
after-background f Yellow a s = refl
after-background f Blue a s = refl
after-background f Magenta a s = refl
after-background f Cyan a s = refl
after-background f Gray a s = refl
after-background f DarkGray a s = refl
after-background f LightRed a s = refl
after-background f LightGreen a s = refl
after-background f LightYellow a s = refl
after-background f LightBlue a s = refl
after-background f LightMagenta a s = refl
after-background f LightCyan a s = refl
after-background f White a s = refl
after-background f (Rgb x y z) a s = refl
after-background f (Indexed n) a s = refl

after-look : (l : Look) → after_items reset_style (look_items l) ≡ styled_by l.fg l.bg (all_added l.modifier.0) (all_taken l.modifier.0)
after-look l =
    after-append reset_style (modifier_items l.modifier.0) (color_items 30 l.fg ++ color_items 40 l.bg)
    ∙ ap (λ (s : Style). after_items s (color_items 30 l.fg ++ color_items 40 l.bg)) (after-modifiers l.modifier.0)
    ∙ after-append _ (color_items 30 l.fg) (color_items 40 l.bg)
    ∙ ap (λ (s : Style). after_items s (color_items 40 l.bg)) (after-foreground l.fg Reset _ _)
    ∙ after-background l.fg l.bg _ _

-- ---- what the two sets give a blank cell: checked for each of the 512 sets

agrees : ℕ → Bool
agrees m = without 16 (bit_or 0 (all_added m)) (all_taken m) == m

all_below : ℕ → Bool
all_below zero = true
all_below (suc n) = agrees n && all_below n

all_agree : all_below 512 ≡ true
unfolding agrees all_below
all_agree = refl

agrees-below : (n m : ℕ) → m < n → all_below n ≡ true → agrees m ≡ true
unfolding all_below
agrees-below zero m lt h = absurd (omega (arith, lt))
agrees-below (suc n) m lt h = go (m == n) refl (λ k. agrees-below n m k (and_parts _ _ h).1)
  where
    lower : (m n : ℕ) → m < suc n → (m == n) ≡ false → m < n
    lower m n lt e = grind (arith, nat_tests)

    go : (v : Bool) → (m == n) ≡ v → (m < n → agrees m ≡ true) → agrees m ≡ true
    go true e k = ap agrees (eqb-true m n e) ∙ (and_parts _ _ h).0
    go false e k = k (lower m n lt e)

modifiers-shown : (m : ℕ) → nat_lt m 512 ≡ true → without 16 (bit_or 0 (all_added m)) (all_taken m) ≡ m
unfolding agrees
modifiers-shown m h = eqb-true _ m (agrees-below 512 m (test m h) all_agree)
  where
    test : (m : ℕ) → nat_lt m 512 ≡ true → m < 512
    test m h = grind (arith, nat_tests)

-- the look that a style gives a blank cell
abbrev pub look_given : Style → Look
look_given s = look_of (with_style blank_cell s)

pub look-sequence : (s : Style) (l : Look) → is_known l ≡ true → look_given (after_sequence s (code 0 ∷ look_items l)) ≡ l
unfolding after_items
look-sequence s l h =
    let parts = and_parts _ _ h in
    let more = and_parts _ _ parts.1 in
    ap look_given (after-look l)
    ∙ ap (λ (m : ℕ). record l { modifier = record { 0 = m } }) (modifiers-shown l.modifier.0 more.1)

-- ---- the bytes of a sequence behind its escape byte: digits, `;`, `[` and `m`

abbrev pub is_code_byte : ℕ → Bool
is_code_byte b = nat_le 48 b && nat_le b 109

codes-append : (xs ys : List ℕ) → list_all is_code_byte xs ≡ true → list_all is_code_byte ys ≡ true → list_all is_code_byte (xs ++ ys) ≡ true
codes-append xs ys h k = list_all-append is_code_byte xs ys ∙ ap₂ (λ a b. a && b) h k

codes-digit : (n : ℕ) → n < 10 → list_all is_code_byte ((48 + n) ∷ []) ≡ true
codes-digit n lt = ap (λ v. v && true) (test n lt)
  where
    test : (n : ℕ) → n < 10 → is_code_byte (48 + n) ≡ true
    test n lt = grind (arith, nat_tests)

abbrev of_codes : ℕ → List ℕ → Type 0
of_codes n ds = list_all is_code_byte ds ≡ true

codes-decimal : (n : ℕ) → fits_byte n ≡ true → list_all is_code_byte (decimal n) ≡ true
codes-decimal n h =
    decimal_by_steps of_codes codes-digit (λ n ds le k. codes-append ds ((48 + n % 10) ∷ []) k (codes-digit (n % 10) (omega arith))) n (small n h)
  where
    small : (n : ℕ) → fits_byte n ≡ true → n < 2 ^ 64
    small n h = let le : n ≤ 255 = grind (arith, nat_tests) in omega (arith, le)

codes-color : (c : Color) → is_color c ≡ true → list_all is_code_byte (written_color c) ≡ true
codes-color (Rgb r g b) h =
    let parts = and_parts _ _ h in
    let more = and_parts _ _ parts.1 in
    codes-append (decimal r) (59 ∷ (decimal g ++ (59 ∷ decimal b))) (codes-decimal r parts.0)
    (codes-append (decimal g) (59 ∷ decimal b) (codes-decimal g more.0) (codes-decimal b more.1))
codes-color (Indexed n) h = codes-decimal n h
codes-color Reset h = refl
codes-color Black h = refl
codes-color Red h = refl
codes-color Green h = refl
codes-color Yellow h = refl
codes-color Blue h = refl
codes-color Magenta h = refl
codes-color Cyan h = refl
codes-color Gray h = refl
codes-color DarkGray h = refl
codes-color LightRed h = refl
codes-color LightGreen h = refl
codes-color LightYellow h = refl
codes-color LightBlue h = refl
codes-color LightMagenta h = refl
codes-color LightCyan h = refl
codes-color White h = refl

codes-item : (i : Item) → is_item i ≡ true → list_all is_code_byte (written_item i) ≡ true
codes-item i h =
    let parts = and_parts _ _ h in
    codes-append (decimal i.code) (written_behind i.color) (codes-decimal i.code parts.0) (behind (takes_color i.code) i.color parts.1)
  where
    behind : (v : Bool) (c : Option Color) → color_fits v c ≡ true → list_all is_code_byte (written_behind c) ≡ true
    behind v None h = refl
    behind true (Some c) h = codes-color c h
    behind false (Some c) h = absurd (false≢true h)

codes-others : (is : List Item) → list_all is_item is ≡ true → list_all is_code_byte (written_others is) ≡ true
codes-others [] h = refl
codes-others (i ∷ is) h =
    let parts = and_parts _ _ h in
    codes-append (written_item i) (written_others is) (codes-item i parts.0) (codes-others is parts.1)

-- a sequence without its escape byte
abbrev pub code_text : Look → List ℕ
code_text l = 91 ∷ 48 ∷ (written_others (look_items l) ++ 109 ∷ [])

pub codes-sequence : (l : Look) → is_byte_look l ≡ true → list_all is_code_byte (code_text l) ≡ true
codes-sequence l h = codes-append (written_others (look_items l)) (109 ∷ []) (codes-others (look_items l) (all_items l h)) refl

pub sequence_text-codes : (l : Look) → sequence_text l ≡ 27 ∷ code_text l
unfolding sequence_text
sequence_text-codes l = refl

-- what holds of each such byte holds of all
pub all-weaker : {A : Type 0} (p q : A → Bool) → ((x : A) → p x ≡ true → q x ≡ true) → (xs : List A) → list_all p xs ≡ true → list_all q xs ≡ true
all-weaker p q k [] h = refl
all-weaker p q k (x ∷ xs) h =
    let parts = and_parts _ _ h in
    ap₂ (λ a b. a && b) (k x parts.0) (all-weaker p q k xs parts.1)

pub one_line-sequence : (l : Look) → is_byte_look l ≡ true → is_one_line (sequence_text l) ≡ true
one_line-sequence l h =
    ap is_one_line (sequence_text-codes l) ∙ all-weaker is_code_byte (λ b. not (ends_line b)) test (code_text l) (codes-sequence l h)
  where
    test : (b : ℕ) → is_code_byte b ≡ true → not (ends_line b) ≡ true
    test b h = grind (arith, nat_tests)

-- ---- how the writer's parts come together

pub others-append : (xs ys : List Item) → written_others (xs ++ ys) ≡ written_others xs ++ written_others ys
others-append [] ys = refl
others-append (x ∷ xs) ys =
    ap (λ (t : List ℕ). 59 ∷ (written_item x ++ t)) (others-append xs ys)
    ∙ ap (λ (t : List ℕ). 59 ∷ t) (sym (append_assoc (written_item x) (written_others xs) (written_others ys)))

-- one more part behind what is there, and what is still to come
then_part : (was now : List ℕ) (xs rest : List Item) → now ≡ was ++ written_others xs → now ++ written_others rest ≡ was ++ written_others (xs ++ rest)
then_part was now xs rest e =
    ap (λ (t : List ℕ). t ++ written_others rest) e ∙ append_assoc was (written_others xs) (written_others rest)
    ∙ ap (λ (t : List ℕ). was ++ t) (sym (others-append xs rest))

pub nine_parts : (set : ℕ) (o o1 o2 o3 o4 o5 o6 o7 o8 o9 : List ℕ)
    → o1 ≡ o ++ written_others (modifier_item set 1 1) → o2 ≡ o1 ++ written_others (modifier_item set 2 2)
    → o3 ≡ o2 ++ written_others (modifier_item set 4 3) → o4 ≡ o3 ++ written_others (modifier_item set 8 4)
    → o5 ≡ o4 ++ written_others (modifier_item set 16 5) → o6 ≡ o5 ++ written_others (modifier_item set 32 6)
    → o7 ≡ o6 ++ written_others (modifier_item set 64 7) → o8 ≡ o7 ++ written_others (modifier_item set 128 8)
    → o9 ≡ o8 ++ written_others (modifier_item set 256 9) → o9 ≡ o ++ written_others (modifier_items set)
nine_parts set o o1 o2 o3 o4 o5 o6 o7 o8 o9 e1 e2 e3 e4 e5 e6 e7 e8 e9 =
    e9 ∙ then_part o7 o8 (modifier_item set 128 8) (modifier_item set 256 9) e8 ∙ then_part o6 o7 (modifier_item set 64 7) (from_8 set) e7
    ∙ then_part o5 o6 (modifier_item set 32 6) (from_7 set) e6 ∙ then_part o4 o5 (modifier_item set 16 5) (from_6 set) e5
    ∙ then_part o3 o4 (modifier_item set 8 4) (from_5 set) e4 ∙ then_part o2 o3 (modifier_item set 4 3) (from_4 set) e3
    ∙ then_part o1 o2 (modifier_item set 2 2) (from_3 set) e2 ∙ then_part o o1 (modifier_item set 1 1) (from_2 set) e1

pub sequence_parts : (l : Look) (o o1 o2 o3 o4 o5 : List ℕ) → o1 ≡ o ++ (27 ∷ 91 ∷ 48 ∷ []) → o2 ≡ o1 ++ written_others (modifier_items l.modifier.0)
    → o3 ≡ o2 ++ written_others (color_items 30 l.fg) → o4 ≡ o3 ++ written_others (color_items 40 l.bg) → o5 ≡ o4 ++ (109 ∷ [])
    → o5 ≡ o ++ sequence_text l
unfolding sequence_text
sequence_parts l o o1 o2 o3 o4 o5 e1 e2 e3 e4 e5 =
    let all : o4 ≡ o1 ++ written_others (look_items l) =
    e4 ∙ then_part o2 o3 (color_items 30 l.fg) (color_items 40 l.bg) e3 ∙ then_part o1 o2 (modifier_items l.modifier.0) (color_items 30 l.fg ++ color_items 40 l.bg) e2 in
    e5 ∙ ap (λ (t : List ℕ). t ++ (109 ∷ [])) (all ∙ ap (λ (t : List ℕ). t ++ written_others (look_items l)) e1)
    ∙ append_assoc (o ++ (27 ∷ 91 ∷ 48 ∷ [])) (written_others (look_items l)) (109 ∷ [])
    ∙ append_assoc o (27 ∷ 91 ∷ 48 ∷ []) (written_others (look_items l) ++ (109 ∷ []))
