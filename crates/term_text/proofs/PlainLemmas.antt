-- A text of plain characters is cut into single characters, each visible and one or two columns wide.
use Rattle.std.proofs.Common.{◌≡◌, ℕ, ◌+◌, ◌<◌, Bool, true, false, not, cond, ◌&&◌, ◌||◌, ◌==◌, nat_le, List, [], ◌∷◌, map, length, unwrap_or, refl, ap, ap₂, ◌∙◌, arith, append-nil, zero, suc, lit<}
use Rattle.std.proofs.lemmas.Bool.{and_parts}
use Rattle.std.proofs.lemmas.Bool.Decides.{nat_tests}
use Rattle.std.proofs.lemmas.Str.{chars-IsAscii, IsUtf8-encode, encode_ascii}
use Rattle.std.proofs.lemmas.List.Sums.{sum_by-cons}
use Rattle.std.specs.Char.{is_whitespace, is_control}
use Rattle.std.specs.List.{list_all, list_any}
use Rattle.std.specs.Prelude.{encode_utf8, encode_utf8_all}
use Rattle.std.specs.Str.{chars, IsAscii}
use Rattle.ucd_breaks.specs.GraphemeClusterBreak.{grapheme_cluster_break}
use Rattle.ucd_breaks.specs.declared.GraphemeClusterBreak.TheVariants.{Other}
use Rattle.unicode_segmentation.specs.Segments.{cut, segments, prepend}
use Rattle.unicode_segmentation.specs.Grapheme.{is_grapheme_break, break_by_pair, joins_conjunct, joins_emoji, joins_flag, graphemes, is_regional, is_consonant}
use Rattle.ucd_derived.specs.IndicConjunctBreak.{indic_conjunct_break}
use Rattle.ucd_emoji.specs.Binary.{is_extended_pictographic}
use Rattle.unicode_width.specs.Width.{str_width}
use Rattle.unicode_segmentation.proofs.TextLemmas.{chars-encode_utf8}
use Rattle.term_text.specs.declared.style.Style.{Style}
use Rattle.term_text.specs.Graph.{Grapheme, width_of, is_visible, is_blank, grapheme_of, visible, columns}
use Rattle.term_text.specs.Plain.{is_printable, is_narrow, is_wide, is_plain, IsPlain, IsPrintable, plain_width, plain_grapheme, byte_grapheme}
use Rattle.term_text.proofs.PlainTables.{grapheme_cluster_break-plain, is_consonant-plain, is_extended_pictographic-plain, IsScalar-plain, is_control-plain, is_whitespace-plain}
use Rattle.term_text.proofs.PlainWidths.{ascii_narrow, str_width-plain}

-- ---- cutting

and_no : (a b : Bool) → b ≡ false → (a && b) ≡ false
and_no true b h = h
and_no false b h = refl

joins_emoji-plain : (before : List ℕ) (next : ℕ) → is_plain next ≡ true → joins_emoji before next ≡ false
joins_emoji-plain [] next h = refl
joins_emoji-plain (c ∷ before) next h = and_no _ (is_extended_pictographic next) (is_extended_pictographic-plain next h)

joins_flag-plain : (before : List ℕ) (next : ℕ) → is_plain next ≡ true → joins_flag before next ≡ false
joins_flag-plain before next h = and_no _ (is_regional (grapheme_cluster_break next)) (ap is_regional (grapheme_cluster_break-plain next h))

joins_conjunct-plain : (before : List ℕ) (next : ℕ) → is_plain next ≡ true → joins_conjunct before next ≡ false
joins_conjunct-plain before next h = and_no _ (is_consonant (indic_conjunct_break next)) (is_consonant-plain next h)

other_none : (joins : Bool) → joins ≡ false → unwrap_or (break_by_pair true Other Other) (not joins) ≡ true
other_none joins h = ap not h

none_of : (a b c : Bool) → a ≡ false → b ≡ false → c ≡ false → (a || b || c) ≡ false
none_of a b c p q r = grind (arith, nat_tests)

-- a text may be cut between two plain characters
is_grapheme_break-plain : (before after : List ℕ) (last : ℕ) → is_plain last ≡ true → list_all is_plain after ≡ true
    → is_grapheme_break true (last ∷ before) after ≡ true
unfolding is_grapheme_break
is_grapheme_break-plain before [] last h all = refl
is_grapheme_break-plain before (next ∷ after) last h all =
    let plain = (and_parts (is_plain next) (list_all is_plain after) all).0 in
    let joins : Bool = joins_conjunct (last ∷ before) next || joins_emoji (last ∷ before) next || joins_flag (last ∷ before) next in
    ap₂ (λ v w. unwrap_or (break_by_pair true v w) (not joins)) (grapheme_cluster_break-plain last h) (grapheme_cluster_break-plain next plain)
    ∙ other_none joins (none_of (joins_conjunct (last ∷ before) next) (joins_emoji (last ∷ before) next) (joins_flag (last ∷ before) next)
    (joins_conjunct-plain (last ∷ before) next plain) (joins_emoji-plain (last ∷ before) next plain) (joins_flag-plain (last ∷ before) next plain))

cut-plain : (before cs : List ℕ) → list_all is_plain cs ≡ true → cut (is_grapheme_break true) before cs [] ≡ map (λ c. c ∷ []) cs
unfolding cut
cut-plain before [] all = refl
cut-plain before (c ∷ cs) all =
    let parts = and_parts (is_plain c) (list_all is_plain cs) all in
    let rest : List (List ℕ) = cut (is_grapheme_break true) (c ∷ before) cs [] in
    ap₂ (λ after b. cond b ((c ∷ []) ∷ rest) (prepend (c ∷ []) rest)) (append-nil cs)
    (ap (is_grapheme_break true (c ∷ before)) (append-nil cs) ∙ is_grapheme_break-plain before cs c parts.0 parts.1)
    ∙ ap (λ pieces. (c ∷ []) ∷ pieces) (cut-plain (c ∷ before) cs parts.1)

encode-each : (cs : List ℕ) → map encode_utf8_all (map (λ c. c ∷ []) cs) ≡ map encode_utf8 cs
encode-each [] = refl
encode-each (c ∷ cs) = ap₂ ◌∷◌ (append-nil (encode_utf8 c)) (encode-each cs)

-- the graphemes of a plain text are its characters
pub graphemes-plain : (text : List ℕ) → IsPlain text → graphemes true text ≡ map encode_utf8 (chars text)
unfolding segments
graphemes-plain text h = ap (map encode_utf8_all) (cut-plain [] (chars text) h) ∙ encode-each (chars text)

-- ---- a plain character

chars-plain : (c : ℕ) → is_plain c ≡ true → chars (encode_utf8 c) ≡ c ∷ []
chars-plain c h = chars-encode_utf8 c (IsUtf8-encode c (IsScalar-plain c h))

pub width_of-plain : (c : ℕ) → is_plain c ≡ true → width_of (encode_utf8 c) ≡ plain_width c
width_of-plain c h = ap (str_width false) (chars-plain c h) ∙ str_width-plain c h

pub is_visible-plain : (c : ℕ) → is_plain c ≡ true → is_visible (encode_utf8 c) ≡ true
is_visible-plain c h =
    ap₂ (λ cs w. not (list_any is_control cs) && nat_le 1 w) (chars-plain c h) (width_of-plain c h)
    ∙ ap₂ (λ b v. not (b || false) && v) (is_control-plain c h) (shown (is_narrow c))
  where
    shown : (narrow : Bool) → nat_le 1 (cond narrow 1 2) ≡ true
    shown true = refl
    shown false = refl

pub is_blank-plain : (c : ℕ) → is_plain c ≡ true → is_blank (encode_utf8 c) ≡ (c == 32)
is_blank-plain c h = ap (list_all is_whitespace) (chars-plain c h) ∙ and_true (is_whitespace c) ∙ is_whitespace-plain c h
  where
    and_true : (b : Bool) → (b && true) ≡ b
    and_true true = refl
    and_true false = refl

grapheme_of-plain : (style : Style) (c : ℕ) → is_plain c ≡ true → grapheme_of style (encode_utf8 c) ≡ plain_grapheme style c
grapheme_of-plain style c h =
    let make = λ (w : ℕ) (b : Bool). let g : Grapheme = record { symbol = encode_utf8 c; style = style; width = w; blank = b } in g in
    ap₂ make (width_of-plain c h) (is_blank-plain c h)

visible-characters : (style : Style) (cs : List ℕ) → list_all is_plain cs ≡ true → visible style (map encode_utf8 cs) ≡ map (plain_grapheme style) cs
unfolding visible
visible-characters style [] h = refl
visible-characters style (c ∷ cs) h =
    let parts = and_parts (is_plain c) (list_all is_plain cs) h in
    let rest : List Grapheme = visible style (map encode_utf8 cs) in
    ap (λ b. cond b (grapheme_of style (encode_utf8 c) ∷ rest) rest) (is_visible-plain c parts.0)
    ∙ ap₂ ◌∷◌ (grapheme_of-plain style c parts.0) (visible-characters style cs parts.1)

-- the visible graphemes of a plain text
pub visible-plain : (style : Style) (text : List ℕ) → IsPlain text → visible style (graphemes true text) ≡ map (plain_grapheme style) (chars text)
visible-plain style text h = ap (visible style) (graphemes-plain text h) ∙ visible-characters style (chars text) h

narrow_one : (c : ℕ) → is_narrow c ≡ true → plain_width c ≡ 1
narrow_one c h = ap (λ b. cond b 1 2) h

-- those of one column are as many columns as characters
pub columns-narrow : (style : Style) (cs : List ℕ) → list_all is_narrow cs ≡ true → columns (map (plain_grapheme style) cs) ≡ length cs
columns-narrow style [] h = refl
columns-narrow style (c ∷ cs) h =
    let parts = and_parts (is_narrow c) (list_all is_narrow cs) h in
    sum_by-cons (λ (g : Grapheme). g.width) (plain_grapheme style c) (map (plain_grapheme style) cs)
    ∙ one (plain_width c) _ _ (narrow_one c parts.0) (columns-narrow style cs parts.1)
  where
    one : (w m n : ℕ) → w ≡ 1 → m ≡ n → w + m ≡ suc n
    one w m n is e = omega arith

-- and plain
pub plain_from_narrow : (cs : List ℕ) → list_all is_narrow cs ≡ true → list_all is_plain cs ≡ true
plain_from_narrow [] h = refl
plain_from_narrow (c ∷ cs) h =
    let parts = and_parts (is_narrow c) (list_all is_narrow cs) h in
    ap₂ (λ a b. (a || is_wide c) && b) parts.0 (plain_from_narrow cs parts.1)

-- ---- printable ASCII

printable_narrow : (b : ℕ) → is_printable b ≡ true → is_narrow b ≡ true
printable_narrow b h = ascii_narrow b (grind (arith, nat_tests, h)) (grind (arith, nat_tests, h))

printable_ascii : (b : ℕ) → is_printable b ≡ true → b < 128
printable_ascii b h = grind (arith, nat_tests)

pub IsAscii-printable : (text : List ℕ) → IsPrintable text → IsAscii text
IsAscii-printable [] h i = lit< tt
IsAscii-printable (b ∷ bs) h zero = printable_ascii b (and_parts (is_printable b) (list_all is_printable bs) h).0
IsAscii-printable (b ∷ bs) h (suc i) = IsAscii-printable bs (and_parts (is_printable b) (list_all is_printable bs) h).1 i

pub chars-printable : (text : List ℕ) → IsPrintable text → chars text ≡ text
chars-printable text h = chars-IsAscii text (IsAscii-printable text h)

plain_from_printable : (text : List ℕ) → IsPrintable text → list_all is_plain text ≡ true
plain_from_printable [] h = refl
plain_from_printable (b ∷ bs) h =
    let parts = and_parts (is_printable b) (list_all is_printable bs) h in
    ap₂ (λ a c. (a || is_wide b) && c) (printable_narrow b parts.0) (plain_from_printable bs parts.1)

-- a printable text is plain
pub IsPlain-printable : (text : List ℕ) → IsPrintable text → IsPlain text
IsPlain-printable text h = ap (list_all is_plain) (chars-printable text h) ∙ plain_from_printable text h

encode_utf8-printable : (b : ℕ) → is_printable b ≡ true → encode_utf8 b ≡ b ∷ []
encode_utf8-printable b h = encode_ascii b (printable_ascii b h)

bytes-characters : (style : Style) (bs : List ℕ) → IsPrintable bs → map (plain_grapheme style) bs ≡ map (byte_grapheme style) bs
bytes-characters style [] h = refl
bytes-characters style (b ∷ bs) h =
    let parts = and_parts (is_printable b) (list_all is_printable bs) h in
    let make = λ (symbol : List ℕ) (w : ℕ). let g : Grapheme = record { symbol = symbol; style = style; width = w; blank = b == 32 } in g in
    ap₂ ◌∷◌ (ap₂ make (encode_utf8-printable b parts.0) (narrow_one b (printable_narrow b parts.0))) (bytes-characters style bs parts.1)

-- the visible graphemes of printable ASCII are its bytes
pub visible-printable : (style : Style) (text : List ℕ) → IsPrintable text → visible style (graphemes true text) ≡ map (byte_grapheme style) text
visible-printable style text h =
    visible-plain style text (IsPlain-printable text h) ∙ ap (map (plain_grapheme style)) (chars-printable text h) ∙ bytes-characters style text h

pub columns-printable : (style : Style) (bs : List ℕ) → columns (map (byte_grapheme style) bs) ≡ length bs
columns-printable style [] = refl
columns-printable style (b ∷ bs) = sum_by-cons (λ (g : Grapheme). g.width) (byte_grapheme style b) (map (byte_grapheme style) bs) ∙ one _ _ (columns-printable style bs)
  where
    one : (m n : ℕ) → m ≡ n → 1 + m ≡ suc n
    one m n e = omega arith
