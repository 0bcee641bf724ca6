-- Laws of the definitions: numbers and items that are written are read back, and lines follow one another.
use Rattle.std.proofs.Common.{◌≡◌, ◌<◌, ◌≤◌, ◌+◌, ◌-◌, ◌*◌, ◌/◌, ◌%◌, ◌^◌, ◌==◌, ◌&&◌, not, ℕ, Bool, true, false, cond, List, [], ◌∷◌, ◌++◌, length, map, refl, ap, sym, ◌∙◌, arith, append_assoc, Option, Some, None, unwrap_or}
use Rattle.std.proofs.lemmas.Bool.{false≢true, and_parts}
use Rattle.std.proofs.lemmas.Bool.Decides.{nat_tests}
use Rattle.std.proofs.lemmas.Option.{none-some}
use Rattle.std.proofs.lemmas.Fmt.{decimal_by_steps}
use Rattle.std.specs.Fmt.{decimal}
use Rattle.std.specs.List.{list_all}
use Rattle.std.specs.Option.{option_map, option_and_then, is_some}
use Rattle.term_text.specs.LineEnds.{raw_lines, ends_line, in_front, ended, is_one_line}
use Rattle.term_text.specs.declared.style.Color.{Color}
use Rattle.term_text.specs.declared.style.Color.TheVariants.{Rgb, Indexed, Reset, Black, Red, Green, Yellow, Blue, Magenta, Cyan, Gray, DarkGray, LightRed, LightGreen, LightYellow, LightBlue, LightMagenta, LightCyan, White}
use Rattle.term_text.specs.declared.style.Style.{Style}
use Rattle.ansi_text.specs.declared.item.Item.{Item}
use Rattle.ansi_text.specs.Numbers.{NumberRead, is_digit, digit, with_digits, number, byte, unless_large, required, optional}
use Rattle.ansi_text.specs.Items.{ColorRead, ItemRead, indexed, rgb, green, blue, color, takes_color, item_of, item}
use Rattle.ansi_text.specs.Sequences.{Sequence, with_item, before, items, sequence}
use Rattle.ansi_text.specs.Pieces.{sgr, stretch, escape_of, pieces, in_stretch}
use Rattle.ansi_text.specs.Ansi.{styled, lines_of, ansi_line, ansi_from, after_lines, style_after_line, style_after}
use Rattle.ansi_text.specs.Written.{fits_byte, is_color, color_fits, is_item, written_color, written_behind, written_item, written_others, written}
use Rattle.ansi_text.proofs.NumberLemmas.{here, with_digits-Some, with_digits-None}
use Rattle.ansi_text.proofs.SequenceLemmas.{items-end, items-required}
use Rattle.ansi_text.proofs.PieceLemmas.{pieces-nil, pieces-byte, pieces-escape}

-- digits that are written of a number are read as it
is_digit-plus : (n : ℕ) → n < 10 → is_digit (48 + n) ≡ true
is_digit-plus n lt = grind (arith, nat_tests)

with_digits-plus : (m n : ℕ) (rest : List ℕ) → n < 10 → with_digits m ((48 + n) ∷ rest) ≡ with_digits (m * 10 + n) rest
with_digits-plus m n rest lt =
    with_digits-Some m ((48 + n) ∷ rest) (here ((48 + n) - 48) rest) (ap (λ v. cond v (Some (here ((48 + n) - 48) rest)) None) (is_digit-plus n lt))
    ∙ ap (λ (k : ℕ). with_digits (m * 10 + k) rest) (omega arith)

-- a text of digits, with this number
record Spells (n : ℕ) (ds : List ℕ) : Type 0 where
  pub value : (rest : List ℕ) → with_digits 0 (ds ++ rest) ≡ with_digits n rest
  pub begins : (rest : List ℕ) → is_some (digit (ds ++ rest)) ≡ true

spells-one : (n : ℕ) → n < 10 → Spells n ((48 + n) ∷ [])
spells-one n lt = record {
  value = λ rest. with_digits-plus 0 n rest lt ∙ ap (λ (k : ℕ). with_digits k rest) (omega arith);
  begins = λ rest. ap (λ v. is_some (cond v (Some (here ((48 + n) - 48) rest)) None)) (is_digit-plus n lt);
}

spells-more : (n : ℕ) (ds : List ℕ) → 10 ≤ n → Spells (n / 10) ds → Spells n (ds ++ ((48 + n % 10) ∷ []))
spells-more n ds le h = record {
  value = λ rest.
      ap (with_digits 0) (append_assoc ds ((48 + n % 10) ∷ []) rest) ∙ h.value ((48 + n % 10) ∷ rest)
      ∙ with_digits-plus (n / 10) (n % 10) rest (omega arith) ∙ ap (λ (k : ℕ). with_digits k rest) (omega arith);
  begins = λ rest. ap (λ (bs : List ℕ). is_some (digit bs)) (append_assoc ds ((48 + n % 10) ∷ []) rest) ∙ h.begins ((48 + n % 10) ∷ rest);
}

spells-decimal : (n : ℕ) → n < 2 ^ 64 → Spells n (decimal n)
spells-decimal n lt = decimal_by_steps Spells spells-one spells-more n lt

number-digits : (bs : List ℕ) → is_some (digit bs) ≡ true → number bs ≡ Some (with_digits 0 bs)
number-digits bs h = go (digit bs) refl h
  where
    go : (o : Option NumberRead) → digit bs ≡ o → is_some o ≡ true → option_map (λ (first : NumberRead). with_digits first.value first.rest) o ≡ Some (with_digits 0 bs)
    go None e s = absurd (false≢true s)
    go (Some d) e s = ap Some (sym (with_digits-Some 0 bs d e ∙ ap (λ (k : ℕ). with_digits k d.rest) (omega arith)))

pub number-decimal : (n : ℕ) (rest : List ℕ) → n < 2 ^ 64 → digit rest ≡ None → number (decimal n ++ rest) ≡ Some (here n rest)
number-decimal n rest lt none =
    let h = spells-decimal n lt in
    number-digits (decimal n ++ rest) (h.begins rest) ∙ ap Some (h.value rest ∙ with_digits-None n rest none)

fits : (n : ℕ) → fits_byte n ≡ true → n < 2 ^ 64
fits n h = let le : n ≤ 255 = grind (arith, nat_tests) in omega (arith, le)

byte-decimal : (n : ℕ) (rest : List ℕ) → fits_byte n ≡ true → digit rest ≡ None → byte (decimal n ++ rest) ≡ Some (here n rest)
byte-decimal n rest h none =
    ap (option_and_then unless_large) (number-decimal n rest (fits n h) none) ∙ ap (λ v. cond v (Some (here n rest)) None) h

-- a digit is no `;`, and no `m`
digit-required : (c : ℕ) (bs : List ℕ) → is_digit c ≡ false → is_some (digit bs) ≡ true → required c bs ≡ None
digit-required c [] other h = refl
digit-required c (b ∷ bs) other h = go (is_digit b) refl h
  where
    differ : (b c : ℕ) → is_digit b ≡ true → is_digit c ≡ false → (b == c) ≡ false
    differ b c p q = grind (arith, nat_tests)

    go : (v : Bool) → is_digit b ≡ v → is_some (cond v (Some (here (b - 48) bs)) None) ≡ true → cond (b == c) (Some bs) None ≡ None
    go true e s = ap (λ v. cond v (Some bs) None) (differ b c e other)
    go false e s = absurd (false≢true s)

optional-decimal : (n : ℕ) (rest : List ℕ) → fits_byte n ≡ true → optional 59 (decimal n ++ rest) ≡ decimal n ++ rest
optional-decimal n rest h =
    ap (λ (o : Option (List ℕ)). unwrap_or o (decimal n ++ rest))
    (digit-required 59 (decimal n ++ rest) refl ((spells-decimal n (fits n h)).begins rest))

-- colours that are written are read back
color-2 : (bs : List ℕ) → color (50 ∷ 59 ∷ bs) ≡ rgb (optional 59 bs)
unfolding with_digits
color-2 bs = refl

color-5 : (bs : List ℕ) → color (53 ∷ 59 ∷ bs) ≡ indexed (optional 59 bs)
unfolding with_digits
color-5 bs = refl

blue-written : (r g b : ℕ) (rest : List ℕ) → fits_byte b ≡ true → digit rest ≡ None → blue r g (59 ∷ (decimal b ++ rest)) ≡ Some (record { color = Rgb r g b; rest = rest })
blue-written r g b rest h none = ap (option_map (λ (n : NumberRead). record { color = Rgb r g n.value; rest = n.rest })) (byte-decimal b rest h none)

green-written : (r g b : ℕ) (rest : List ℕ) → fits_byte g ≡ true → fits_byte b ≡ true → digit rest ≡ None
    → green r (59 ∷ (decimal g ++ (59 ∷ (decimal b ++ rest)))) ≡ Some (record { color = Rgb r g b; rest = rest })
green-written r g b rest hg hb none =
    ap (option_and_then (λ (n : NumberRead). blue r n.value n.rest)) (byte-decimal g (59 ∷ (decimal b ++ rest)) hg refl) ∙ blue-written r g b rest hb none

rgb-written : (r g b : ℕ) (rest : List ℕ) → fits_byte r ≡ true → fits_byte g ≡ true → fits_byte b ≡ true → digit rest ≡ None
    → rgb (decimal r ++ (59 ∷ (decimal g ++ (59 ∷ (decimal b ++ rest))))) ≡ Some (record { color = Rgb r g b; rest = rest })
rgb-written r g b rest hr hg hb none =
    ap (option_and_then (λ (n : NumberRead). green n.value n.rest)) (byte-decimal r (59 ∷ (decimal g ++ (59 ∷ (decimal b ++ rest)))) hr refl)
    ∙ green-written r g b rest hg hb none

rgb_text : (r g b : ℕ) (rest : List ℕ) → (decimal r ++ (59 ∷ (decimal g ++ (59 ∷ decimal b)))) ++ rest ≡ decimal r ++ (59 ∷ (decimal g ++ (59 ∷ (decimal b ++ rest))))
rgb_text r g b rest =
    append_assoc (decimal r) (59 ∷ (decimal g ++ (59 ∷ decimal b))) rest
    ∙ ap (λ (xs : List ℕ). decimal r ++ (59 ∷ xs)) (append_assoc (decimal g) (59 ∷ decimal b) rest)

color-written : (c : Color) (rest : List ℕ) → is_color c ≡ true → digit rest ≡ None → color (written_color c ++ rest) ≡ Some (record { color = c; rest = rest })
color-written (Rgb r g b) rest h none =
    let parts = and_parts _ _ h in
    let more = and_parts _ _ parts.1 in
    color-2 ((decimal r ++ (59 ∷ (decimal g ++ (59 ∷ decimal b)))) ++ rest)
    ∙ ap (λ (xs : List ℕ). rgb (optional 59 xs)) (rgb_text r g b rest)
    ∙ ap rgb (optional-decimal r (59 ∷ (decimal g ++ (59 ∷ (decimal b ++ rest)))) parts.0)
    ∙ rgb-written r g b rest parts.0 more.0 more.1 none
color-written (Indexed n) rest h none =
    color-5 (decimal n ++ rest) ∙ ap indexed (optional-decimal n rest h)
    ∙ ap (option_map (λ (m : NumberRead). record { color = Indexed m.value; rest = m.rest })) (byte-decimal n rest h none)
color-written Reset rest h none = absurd (false≢true h)
color-written Black rest h none = absurd (false≢true h)
color-written Red rest h none = absurd (false≢true h)
color-written Green rest h none = absurd (false≢true h)
color-written Yellow rest h none = absurd (false≢true h)
color-written Blue rest h none = absurd (false≢true h)
color-written Magenta rest h none = absurd (false≢true h)
color-written Cyan rest h none = absurd (false≢true h)
color-written Gray rest h none = absurd (false≢true h)
color-written DarkGray rest h none = absurd (false≢true h)
color-written LightRed rest h none = absurd (false≢true h)
color-written LightGreen rest h none = absurd (false≢true h)
color-written LightYellow rest h none = absurd (false≢true h)
color-written LightBlue rest h none = absurd (false≢true h)
color-written LightMagenta rest h none = absurd (false≢true h)
color-written LightCyan rest h none = absurd (false≢true h)
color-written White rest h none = absurd (false≢true h)

-- items that are written are read back
abbrev item_at : ℕ → Option Color → List ℕ → Option ItemRead
item_at n c rest = Some (record { item = record { code = n; color = c }; rest = optional 59 rest })

abbrev colored_at : ℕ → List ℕ → Option ItemRead
colored_at n bs = option_map (λ (c : ColorRead). record { item = record { code = n; color = Some c.color }; rest = optional 59 c.rest }) (color bs)

item_of-written : (n : ℕ) (c : Option Color) (rest : List ℕ) → color_fits (takes_color n) c ≡ true → digit rest ≡ None
    → item_of (here n (written_behind c ++ rest)) ≡ item_at n c rest
item_of-written n None rest h none = go (takes_color n) h
  where
    go : (v : Bool) → color_fits v None ≡ true → cond v (colored_at n (optional 59 rest)) (item_at n None rest) ≡ item_at n None rest
    go true s = absurd (false≢true s)
    go false s = refl
item_of-written n (Some c) rest h none = go (takes_color n) h
  where
    go : (v : Bool) → color_fits v (Some c) ≡ true
        → cond v (colored_at n (written_color c ++ rest)) (item_at n None (59 ∷ (written_color c ++ rest))) ≡ item_at n (Some c) rest
    go true s = ap (option_map (λ (k : ColorRead). record { item = record { code = n; color = Some k.color }; rest = optional 59 k.rest })) (color-written c rest s none)
    go false s = absurd (false≢true s)

digit-behind : (c : Option Color) (rest : List ℕ) → digit rest ≡ None → digit (written_behind c ++ rest) ≡ None
digit-behind None rest none = none
digit-behind (Some c) rest none = refl

pub item-written : (i : Item) (rest : List ℕ) → is_item i ≡ true → digit rest ≡ None → item (written_item i ++ rest) ≡ item_at i.code i.color rest
item-written i rest h none =
    let parts = and_parts _ _ h in
    ap item (append_assoc (decimal i.code) (written_behind i.color) rest)
    ∙ ap (option_and_then item_of) (byte-decimal i.code (written_behind i.color ++ rest) parts.0 (digit-behind i.color rest none))
    ∙ item_of-written i.code i.color rest parts.1 none

digit-others : (is : List Item) (rest : List ℕ) → digit (written_others is ++ (109 ∷ rest)) ≡ None
digit-others [] rest = refl
digit-others (i ∷ is) rest = refl

optional-others : (is : List Item) (rest : List ℕ) → optional 59 (written_others is ++ (109 ∷ rest)) ≡ written is ++ (109 ∷ rest)
optional-others [] rest = refl
optional-others (i ∷ is) rest = refl

pub items-written : (is : List Item) (rest : List ℕ) → list_all is_item is ≡ true → items (written is ++ (109 ∷ rest)) ≡ Some (record { items = is; rest = rest })
items-written [] rest h = items-end rest
items-written (i ∷ is) rest h =
    let parts = and_parts _ _ h in
    let behind = written_others is ++ (109 ∷ rest) in
    let text = written_item i ++ behind in
    let code = and_parts _ _ parts.0 in
    let begins : is_some (digit text) ≡ true =
    ap (λ (bs : List ℕ). is_some (digit bs)) (append_assoc (decimal i.code) (written_behind i.color) behind)
    ∙ (spells-decimal i.code (fits i.code code.0)).begins (written_behind i.color ++ behind) in
    ap items (append_assoc (written_item i) (written_others is) (109 ∷ rest))
    ∙ items-required text (digit-required 109 text refl begins)
    ∙ ap (λ o. with_item o (λ bs. items bs)) (item-written i behind parts.0 (digit-others is rest))
    ∙ ap (λ (bs : List ℕ). before i (items bs)) (optional-others is rest)
    ∙ ap (before i) (items-written is rest parts.1)

-- a sequence in front
pub pieces-sequence : (bs : List ℕ) (s : Sequence) → sequence bs ≡ Some s → pieces (27 ∷ bs) ≡ sgr s.items ∷ pieces s.rest
pieces-sequence bs s e = pieces-escape bs ∙ ap (λ o. (escape_of o bs).piece ∷ pieces (escape_of o bs).rest) e

pub pieces-written : (is : List Item) (rest : List ℕ) → list_all is_item is ≡ true → pieces (27 ∷ 91 ∷ (written is ++ (109 ∷ rest))) ≡ sgr is ∷ pieces rest
pieces-written is rest h = pieces-sequence (91 ∷ (written is ++ (109 ∷ rest))) (record { items = is; rest = rest }) (items-written is rest h)

-- a line without an escape byte
pub pieces-plain : (b : ℕ) (bs : List ℕ) → list_all (λ c. not (c == 27)) (b ∷ bs) ≡ true → pieces (b ∷ bs) ≡ stretch (b ∷ bs) ∷ []
pieces-plain b [] h = pieces-byte b [] (not-true (b == 27) (and_parts _ _ h).0) ∙ ap (in_stretch b) pieces-nil
  where
    not-true : (v : Bool) → not v ≡ true → v ≡ false
    not-true true e = sym e
    not-true false e = refl
pieces-plain b (c ∷ cs) h = pieces-byte b (c ∷ cs) (not-true (b == 27) (and_parts _ _ h).0) ∙ ap (in_stretch b) (pieces-plain c cs (and_parts _ _ h).1)
  where
    not-true : (v : Bool) → not v ≡ true → v ≡ false
    not-true true e = sym e
    not-true false e = refl

-- a first line and its end
no_end : (v : Bool) → not v ≡ true → v ≡ false
no_end true e = sym e
no_end false e = refl

raw_lines-front : (a end : List ℕ) (lines : List (List ℕ)) → is_one_line a ≡ true → raw_lines end ≡ [] ∷ lines → raw_lines (a ++ end) ≡ a ∷ lines
unfolding raw_lines
raw_lines-front [] end lines h e = e
raw_lines-front (b ∷ a) end lines h e =
    let parts = and_parts _ _ h in
    ap (λ v. cond v (ended b (a ++ end) (raw_lines (a ++ end))) (in_front b (raw_lines (a ++ end)))) (no_end (ends_line b) parts.0)
    ∙ ap (in_front b) (raw_lines-front a end lines parts.1 e)

raw_lines-one : (b : ℕ) (bs : List ℕ) → is_one_line (b ∷ bs) ≡ true → raw_lines (b ∷ bs) ≡ (b ∷ bs) ∷ []
unfolding raw_lines
raw_lines-one b [] h = ap (λ v. cond v ([] ∷ []) ((b ∷ []) ∷ [])) (no_end (ends_line b) (and_parts _ _ h).0)
raw_lines-one b (c ∷ cs) h =
    ap (λ v. cond v (ended b (c ∷ cs) (raw_lines (c ∷ cs))) (in_front b (raw_lines (c ∷ cs)))) (no_end (ends_line b) (and_parts _ _ h).0)
    ∙ ap (in_front b) (raw_lines-one c cs (and_parts _ _ h).1)

raw_lines-lf : (bs : List ℕ) → raw_lines (10 ∷ bs) ≡ [] ∷ raw_lines bs
unfolding raw_lines
raw_lines-lf [] = refl
raw_lines-lf (b ∷ bs) = refl

raw_lines-crlf : (bs : List ℕ) → raw_lines (13 ∷ 10 ∷ bs) ≡ [] ∷ raw_lines bs
unfolding raw_lines
raw_lines-crlf bs = raw_lines-lf bs

raw_lines-cr : (bs : List ℕ) → required 10 bs ≡ None → raw_lines (13 ∷ bs) ≡ [] ∷ raw_lines bs
unfolding raw_lines
raw_lines-cr [] h = refl
raw_lines-cr (b ∷ bs) h = go (b == 10) h
  where
    go : (v : Bool) → cond v (Some bs) None ≡ None → cond v (raw_lines (b ∷ bs)) ([] ∷ raw_lines (b ∷ bs)) ≡ [] ∷ raw_lines (b ∷ bs)
    go true e = absurd (none-some bs (sym e))
    go false e = refl

lines_of-some : (bs : List ℕ) → 0 < length bs → lines_of bs ≡ raw_lines bs
lines_of-some [] lt = absurd (omega (arith, lt))
lines_of-some (b ∷ bs) lt = refl

some-front : (a : List ℕ) (c : ℕ) (bs : List ℕ) → 0 < length (a ++ (c ∷ bs))
some-front [] c bs = omega arith
some-front (b ∷ a) c bs = omega arith

-- any line end
first-line : (style : Style) (a : List ℕ) (c : ℕ) (end b : List ℕ) → is_one_line a ≡ true → raw_lines (c ∷ end) ≡ [] ∷ raw_lines b → 0 < length b
    → ansi_from style (a ++ (c ∷ end)) ≡ ansi_line style a ∷ ansi_from (style_after_line style a) b
unfolding styled
first-line style a c end b h e some =
    ap (λ (ls : List (List ℕ)). styled style (map pieces ls)) (lines_of-some (a ++ (c ∷ end)) (some-front a c end) ∙ raw_lines-front a (c ∷ end) (raw_lines b) h e)
    ∙ ap (λ (ls : List (List ℕ)). ansi_line style a ∷ styled (style_after_line style a) (map pieces ls)) (sym (lines_of-some b some))

pub first-line_lf : (style : Style) (a b : List ℕ) → is_one_line a ≡ true → 0 < length b
    → ansi_from style (a ++ (10 ∷ b)) ≡ ansi_line style a ∷ ansi_from (style_after_line style a) b
first-line_lf style a b h some = first-line style a 10 b b h (raw_lines-lf b) some

pub first-line_crlf : (style : Style) (a b : List ℕ) → is_one_line a ≡ true → 0 < length b
    → ansi_from style (a ++ (13 ∷ 10 ∷ b)) ≡ ansi_line style a ∷ ansi_from (style_after_line style a) b
first-line_crlf style a b h some = first-line style a 13 (10 ∷ b) b h (raw_lines-crlf b) some

pub first-line_cr : (style : Style) (a b : List ℕ) → is_one_line a ≡ true → 0 < length b → required 10 b ≡ None
    → ansi_from style (a ++ (13 ∷ b)) ≡ ansi_line style a ∷ ansi_from (style_after_line style a) b
first-line_cr style a b h some other = first-line style a 13 b b h (raw_lines-cr b other) some

-- one line, without an end and with one that closes the input
pub only-line : (style : Style) (a : List ℕ) → is_one_line a ≡ true → ansi_from style a ≡ ansi_line style a ∷ []
unfolding styled
only-line style [] h = refl
only-line style (b ∷ a) h = ap (λ (ls : List (List ℕ)). styled style (map pieces ls)) (raw_lines-one b a h)

closing : (style : Style) (a : List ℕ) (c : ℕ) (end : List ℕ) → is_one_line a ≡ true → raw_lines (c ∷ end) ≡ [] ∷ [] → ansi_from style (a ++ (c ∷ end)) ≡ ansi_line style a ∷ []
unfolding styled
closing style a c end h e =
    ap (λ (ls : List (List ℕ)). styled style (map pieces ls)) (lines_of-some (a ++ (c ∷ end)) (some-front a c end) ∙ raw_lines-front a (c ∷ end) [] h e)

pub closing_lf : (style : Style) (a : List ℕ) → is_one_line a ≡ true → ansi_from style (a ++ (10 ∷ [])) ≡ ansi_line style a ∷ []
unfolding raw_lines
closing_lf style a h = closing style a 10 [] h refl

pub closing_cr : (style : Style) (a : List ℕ) → is_one_line a ≡ true → ansi_from style (a ++ (13 ∷ [])) ≡ ansi_line style a ∷ []
unfolding raw_lines
closing_cr style a h = closing style a 13 [] h refl

pub closing_crlf : (style : Style) (a : List ℕ) → is_one_line a ≡ true → ansi_from style (a ++ (13 ∷ 10 ∷ [])) ≡ ansi_line style a ∷ []
unfolding raw_lines
closing_crlf style a h = closing style a 13 (10 ∷ []) h refl

-- the style after an input is the style after its lines in turn
after-first : (style : Style) (a : List ℕ) (c : ℕ) (end b : List ℕ) → is_one_line a ≡ true → raw_lines (c ∷ end) ≡ [] ∷ raw_lines b → 0 < length b
    → style_after style (a ++ (c ∷ end)) ≡ style_after (style_after_line style a) b
unfolding after_lines
after-first style a c end b h e some =
    ap (λ (ls : List (List ℕ)). after_lines style (map pieces ls)) (lines_of-some (a ++ (c ∷ end)) (some-front a c end) ∙ raw_lines-front a (c ∷ end) (raw_lines b) h e)
    ∙ ap (λ (ls : List (List ℕ)). after_lines (style_after_line style a) (map pieces ls)) (sym (lines_of-some b some))

pub after-first_lf : (style : Style) (a b : List ℕ) → is_one_line a ≡ true → 0 < length b → style_after style (a ++ (10 ∷ b)) ≡ style_after (style_after_line style a) b
after-first_lf style a b h some = after-first style a 10 b b h (raw_lines-lf b) some

pub after-first_crlf : (style : Style) (a b : List ℕ) → is_one_line a ≡ true → 0 < length b → style_after style (a ++ (13 ∷ 10 ∷ b)) ≡ style_after (style_after_line style a) b
after-first_crlf style a b h some = after-first style a 13 (10 ∷ b) b h (raw_lines-crlf b) some

pub after-first_cr : (style : Style) (a b : List ℕ) → is_one_line a ≡ true → 0 < length b → required 10 b ≡ None → style_after style (a ++ (13 ∷ b)) ≡ style_after (style_after_line style a) b
after-first_cr style a b h some other = after-first style a 13 b b h (raw_lines-cr b other) some

pub after-only : (style : Style) (a : List ℕ) → is_one_line a ≡ true → style_after style a ≡ style_after_line style a
unfolding after_lines
after-only style [] h = refl
after-only style (b ∷ a) h = ap (λ (ls : List (List ℕ)). after_lines style (map pieces ls)) (raw_lines-one b a h)

-- each line of an input has no end in it
one_line-in_front : (b : ℕ) (ls : List (List ℕ)) → ends_line b ≡ false → list_all is_one_line ls ≡ true → list_all is_one_line (in_front b ls) ≡ true
one_line-in_front b [] e h = ap (λ v. (not v && true) && true) e
one_line-in_front b (l ∷ ls) e h = ap (λ v. (not v && is_one_line l) && list_all is_one_line ls) e ∙ h

one_line-ended : (b : ℕ) (bs : List ℕ) (ls : List (List ℕ)) → list_all is_one_line ls ≡ true → list_all is_one_line (ended b bs ls) ≡ true
one_line-ended b [] ls h = h
one_line-ended b (c ∷ cs) ls h = elim (b == 13) as (λ v. list_all is_one_line (cond v (cond (c == 10) ls ([] ∷ ls)) ([] ∷ ls)) ≡ true) [
  | true ↦ elim (c == 10) as (λ v. list_all is_one_line (cond v ls ([] ∷ ls)) ≡ true) [ true ↦ h | false ↦ h ]
  | false ↦ h
]

pub one_line-raw_lines : (bs : List ℕ) → list_all is_one_line (raw_lines bs) ≡ true
unfolding raw_lines
one_line-raw_lines [] = refl
one_line-raw_lines (b ∷ bs) = go (ends_line b) refl (one_line-raw_lines bs)
  where
    go : (v : Bool) → ends_line b ≡ v → list_all is_one_line (raw_lines bs) ≡ true
        → list_all is_one_line (cond v (ended b bs (raw_lines bs)) (in_front b (raw_lines bs))) ≡ true
    go true e h = one_line-ended b bs (raw_lines bs) h
    go false e h = one_line-in_front b (raw_lines bs) e h

-- the lines of an input, cut off one by one
lines_of-cut : (bytes line after : List ℕ) → raw_lines bytes ≡ line ∷ raw_lines after → lines_of bytes ≡ line ∷ raw_lines after
unfolding raw_lines
lines_of-cut [] line after e = absurd (cons_none line (raw_lines after) e)
  where
    cons_none : (x : List ℕ) (xs : List (List ℕ)) → [] ≡ x ∷ xs → ⊥
    cons_none x xs h = cc
lines_of-cut (b ∷ bs) line after e = e

pub cut-line : (style : Style) (bytes line after : List ℕ) → raw_lines bytes ≡ line ∷ raw_lines after → 0 < length after
    → ansi_from style bytes ≡ ansi_line style line ∷ ansi_from (style_after_line style line) after
unfolding styled
cut-line style bytes line after e some =
    ap (λ (ls : List (List ℕ)). styled style (map pieces ls)) (lines_of-cut bytes line after e)
    ∙ ap (λ (ls : List (List ℕ)). ansi_line style line ∷ styled (style_after_line style line) (map pieces ls)) (sym (lines_of-some after some))

pub cut-last : (style : Style) (bytes line : List ℕ) → raw_lines bytes ≡ line ∷ raw_lines [] → ansi_from style bytes ≡ ansi_line style line ∷ []
unfolding styled raw_lines
cut-last style bytes line e = ap (λ (ls : List (List ℕ)). styled style (map pieces ls)) (lines_of-cut bytes line [] e)
