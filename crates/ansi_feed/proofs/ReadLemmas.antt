-- Lines that are read one by one, of which the last are kept.
use Rattle.std.proofs.Common.{◌≡◌, ◌<◌, ◌≤◌, ◌+◌, ◌-◌, ◌&&◌, ℕ, suc, true, false, List, [], ◌∷◌, ◌++◌, length, drop, map, refl, ap, ap₂, sym, ◌∙◌, arith, append_assoc, append-nil, length-append}
use Rattle.std.proofs.lemmas.Bool.{and_parts}
use Rattle.term_text.specs.LineEnds.{raw_lines, is_one_line}
use Rattle.term_text.specs.Text.{LineView}
use Rattle.term_text.specs.declared.style.Style.{Style}
use Rattle.ansi_text.specs.Pieces.{Piece, pieces}
use Rattle.ansi_text.specs.Ansi.{styled, after_lines, after_pieces, style_after, style_after_line, ansi_line, is_text, line_is_text}
use Rattle.ansi_text.proofs.LawLemmas.{one_line-raw_lines}
use Rattle.std.specs.List.{list_all}
use Rattle.ansi_feed.specs.Feed.{last_of, lines_from}
use Rattle.ansi_feed.specs.Answers.{Passes}
use Rattle.ansi_feed.proofs.FeedLemmas.{last_of-append, last_of-back, last_of-few, last_of-short, lines_from-raw, style_after-raw, style_after-nil}

-- the first line, and the others
pub lines_from-first : (style : Style) (rest line after : List ℕ) → raw_lines rest ≡ line ∷ raw_lines after
    → lines_from style rest ≡ ansi_line style line ∷ lines_from (style_after_line style line) after
unfolding styled
lines_from-first style rest line after e =
    lines_from-raw style rest
    ∙ ap (λ (ls : List (List ℕ)). styled style (map pieces ls)) e
    ∙ ap (λ (ls : List LineView). ansi_line style line ∷ ls) (sym (lines_from-raw (style_after_line style line) after))

style_after-first : (style : Style) (rest line after : List ℕ) → raw_lines rest ≡ line ∷ raw_lines after
    → style_after style rest ≡ style_after (style_after_line style line) after
unfolding after_lines
style_after-first style rest line after e =
    style_after-raw style rest
    ∙ ap (λ (ls : List (List ℕ)). after_lines style (map pieces ls)) e
    ∙ sym (style_after-raw (style_after_line style line) after)

pub one_line-first : (rest line after : List ℕ) → raw_lines rest ≡ line ∷ raw_lines after → is_one_line line ≡ true
one_line-first rest line after e = (and_parts _ _ (sym (ap (list_all is_one_line) e) ∙ one_line-raw_lines rest)).0

-- what was read of a text: its last lines so far, the style, and what is left
pub record Reads (bound : ℕ) (start : Style) (text : List ℕ) (lines : List LineView) (style : Style) (rest : List ℕ) : Type 0 where
  pub are_lines : last_of bound (lines ++ lines_from style rest) ≡ last_of bound (lines_from start text)
  pub is_style : style_after style rest ≡ style_after start text
  pub are_text : is_text (lines_from style rest) ≡ is_text (lines_from start text)
  pub few : length lines ≤ bound

pub Reads-start : (bound : ℕ) (start : Style) (text : List ℕ) (lines : List LineView) → lines ≡ [] → Reads bound start text lines start text
Reads-start bound start text lines none = record {
  are_lines = ap (λ (ls : List LineView). last_of bound (ls ++ lines_from start text)) none;
  is_style = refl;
  are_text = refl;
  few = rw none (omega arith);
}

pub Reads-step : (bound : ℕ) (start : Style) (text : List ℕ) (lines more : List LineView) (style next : Style) (rest line after : List ℕ) (view : LineView)
    → Reads bound start text lines style rest → raw_lines rest ≡ line ∷ raw_lines after → view ≡ ansi_line style line → next ≡ style_after_line style line
    → line_is_text (ansi_line style line) ≡ true → more ≡ last_of bound (lines ++ view ∷ []) → Reads bound start text more next after
Reads-step bound start text lines more style next rest line after view reads first view_is next_is is more_is = record {
  are_lines =
      ap₂ (λ (ls : List LineView) (s : Style). last_of bound (ls ++ lines_from s after)) (more_is ∙ ap (λ (v : LineView). last_of bound (lines ++ v ∷ [])) view_is) next_is
      ∙ last_of-append bound (lines ++ ansi_line style line ∷ []) (lines_from (style_after_line style line) after)
      ∙ ap (last_of bound) (append_assoc lines (ansi_line style line ∷ []) (lines_from (style_after_line style line) after)
      ∙ ap (λ (ls : List LineView). lines ++ ls) (sym (lines_from-first style rest line after first)))
      ∙ reads.are_lines;
  is_style = ap (λ (s : Style). style_after s after) next_is ∙ sym (style_after-first style rest line after first) ∙ reads.is_style;
  are_text =
      ap (λ (s : Style). is_text (lines_from s after)) next_is
      ∙ sym (ap is_text (lines_from-first style rest line after first) ∙ ap (λ v. v && is_text (lines_from (style_after_line style line) after)) is)
      ∙ reads.are_text;
  few = rw more_is (last_of-short bound (lines ++ view ∷ []));
}

pub Reads-bad : (bound : ℕ) (start : Style) (text : List ℕ) (lines : List LineView) (style : Style) (rest line after : List ℕ)
    → Reads bound start text lines style rest → raw_lines rest ≡ line ∷ raw_lines after → line_is_text (ansi_line style line) ≡ false → is_text (lines_from start text) ≡ false
Reads-bad bound start text lines style rest line after reads first bad =
    sym reads.are_text ∙ ap is_text (lines_from-first style rest line after first) ∙ ap (λ v. v && is_text (lines_from (style_after_line style line) after)) bad

pub Reads-end : (bound : ℕ) (start : Style) (text : List ℕ) (lines : List LineView) (style : Style) (rest : List ℕ) → Reads bound start text lines style rest → length rest ≡ 0
    → (lines ≡ last_of bound (lines_from start text)) × (style ≡ style_after start text) × (is_text (lines_from start text) ≡ true)
Reads-end bound start text lines style [] reads e = (
  sym (last_of-few bound lines reads.few) ∙ ap (last_of bound) (sym (append-nil lines)) ∙ reads.are_lines,
  sym (style_after-nil style) ∙ reads.is_style,
  sym reads.are_text,
)
Reads-end bound start text lines style (b ∷ rest) reads e = absurd (omega (arith, e))

-- the first item goes where there are too many
pub last_of-drop : {A : Type 0} (n : ℕ) (xs ys : List A) → 0 < length xs → n < length xs + length ys → last_of n (drop 1 xs ++ ys) ≡ last_of n (xs ++ ys)
last_of-drop n [] ys some many = absurd (omega arith)
last_of-drop n (x ∷ xs) ys some many =
    let more : length (x ∷ (xs ++ ys)) - n ≡ suc (length (xs ++ ys) - n) = omega (arith, length-append xs ys) in
    sym (ap (λ (k : ℕ). drop k (x ∷ (xs ++ ys))) more)

-- there are as many lines as the bytes are cut into
styled-length : (style : Style) (ls : List (List Piece)) → length (styled style ls) ≡ length ls
unfolding styled
styled-length style [] = refl
styled-length style (l ∷ ls) = ap suc (styled-length (after_pieces style l) ls)

map-length : {A B : Type 0} (f : A → B) (xs : List A) → length (map f xs) ≡ length xs
map-length f [] = refl
map-length f (x ∷ xs) = ap suc (map-length f xs)

lines_from-length : (style : Style) (bs : List ℕ) → length (lines_from style bs) ≡ length (raw_lines bs)
lines_from-length style bs = ap length (lines_from-raw style bs) ∙ styled-length style (map pieces (raw_lines bs)) ∙ map-length pieces (raw_lines bs)

-- one that is not among the last may be left out
last_of-pass : {A : Type 0} (n : ℕ) (xs ys : List A) (y : A) → n ≤ length ys → last_of n (xs ++ ys) ≡ last_of n (xs ++ y ∷ ys)
last_of-pass n xs ys y h =
    let more : length (y ∷ ys) - n ≡ suc (length ys - n) = omega arith in
    sym (last_of-back n xs ys) ∙ ap (λ (k : ℕ). last_of n (xs ++ drop k (y ∷ ys))) (sym more) ∙ last_of-back n xs (y ∷ ys)

pub Passes-step : (bound : ℕ) (begun : Style) (bytes : List ℕ) (style next : Style) (rest line after : List ℕ) → Passes bound begun bytes style rest
    → raw_lines rest ≡ line ∷ raw_lines after → bound ≤ length (raw_lines after) → next ≡ style_after_line style line
    → line_is_text (ansi_line style line) ≡ true → Passes bound begun bytes next after
Passes-step bound begun bytes style next rest line after passes first many next_is is = record {
  are_lines = λ lines.
      ap (λ (s : Style). last_of bound (lines ++ lines_from s after)) next_is
      ∙ last_of-pass bound lines (lines_from (style_after_line style line) after) (ansi_line style line)
      (omega (arith, lines_from-length (style_after_line style line) after, many))
      ∙ ap (λ (ls : List LineView). last_of bound (lines ++ ls)) (sym (lines_from-first style rest line after first))
      ∙ passes.are_lines lines;
  is_style = ap (λ (s : Style). style_after s after) next_is ∙ sym (style_after-first style rest line after first) ∙ passes.is_style;
  are_text =
      ap (λ (s : Style). is_text (lines_from s after)) next_is
      ∙ sym (ap is_text (lines_from-first style rest line after first) ∙ ap (λ v. v && is_text (lines_from (style_after_line style line) after)) is)
      ∙ passes.are_text;
}

pub Passes-bad : (bound : ℕ) (begun : Style) (bytes : List ℕ) (style : Style) (rest line after : List ℕ) → Passes bound begun bytes style rest
    → raw_lines rest ≡ line ∷ raw_lines after → line_is_text (ansi_line style line) ≡ false → is_text (lines_from begun bytes) ≡ false
Passes-bad bound begun bytes style rest line after passes first bad =
    sym passes.are_text ∙ ap is_text (lines_from-first style rest line after first)
    ∙ ap (λ v. v && is_text (lines_from (style_after_line style line) after)) bad

-- reading goes on behind lines that were passed over
pub Reads-pass : (bound : ℕ) (start : Style) (text : List ℕ) (lines : List LineView) (style next : Style) (rest after : List ℕ)
    → Reads bound start text lines style rest → Passes bound style rest next after → Reads bound start text lines next after
Reads-pass bound start text lines style next rest after reads passes = record {
  are_lines = passes.are_lines lines ∙ reads.are_lines;
  is_style = passes.is_style ∙ reads.is_style;
  are_text = passes.are_text ∙ reads.are_text;
  few = reads.few;
}

-- nothing has no lines
pub no_lines : (bs : List ℕ) → length bs ≡ 0 → length (raw_lines bs) ≡ 0
unfolding raw_lines
no_lines [] e = refl
no_lines (b ∷ bs) e = absurd (omega (arith, e))

pub some_bytes : (bs : List ℕ) → 0 < length (raw_lines bs) → 0 < length bs
unfolding raw_lines
some_bytes [] h = absurd (omega (arith, h))
some_bytes (b ∷ bs) h = omega arith
