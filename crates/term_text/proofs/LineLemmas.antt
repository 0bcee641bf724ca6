-- Steps over lists, for the iterators over a line.
use Rattle.std.proofs.Common.{◌≡◌, ℕ, zero, suc, ◌+◌, ◌<◌, ◌≤◌, true, false, cond, List, [], ◌∷◌, ◌++◌, length, drop, get_or, refl, sym, ap, ap₂, ◌∙◌, arith, add-one, drop-cons, map, append_assoc, Bool, length-append, ◌==◌}
use Rattle.std.proofs.lemmas.List.{length-map}
use Rattle.term_text.specs.declared.graphs.Graphemes.{Graphemes}
use Rattle.term_text.specs.declared.line_graphs.LineGraphemes.{LineGraphemes}
use Rattle.term_text.specs.Cut.{leading_spaces}
use Rattle.term_text.specs.Iter.{stretch_left, pieces_left, plain_left, graphs_left}
use Rattle.term_text.specs.LineIter.{line_left}
use Rattle.term_text.specs.Plain.{byte_grapheme}
use Rattle.term_text.proofs.GraphLemmas.{drop-front}
use Rattle.term_text.specs.declared.style.Style.{Style}
use Rattle.term_text.specs.Graph.{Grapheme, visible, span_graphs, spans_graphs}
use Rattle.term_text.specs.Text.{SpanView}
use Rattle.term_text.specs.Wrap.{skip_blanks}

pub append_step : {A : Type 0} (cur next rest whole : List A) (x : A) → cur ++ rest ≡ whole → cur ≡ x ∷ next → whole ≡ x ∷ (next ++ rest)
append_step cur next rest whole x e step = sym e ∙ ap (λ t. t ++ rest) step

pub spans_graphs-drop : (under : Style) (spans : List SpanView) (k : ℕ) (span : SpanView) → k < length spans → span ≡ get_or spans k span
    → spans_graphs under (drop k spans) ≡ span_graphs under span ++ spans_graphs under (drop (k + 1) spans)
unfolding spans_graphs
spans_graphs-drop under spans k span lt is =
    rw (add-one, drop-cons spans k span)
    (ap (λ s. span_graphs under s ++ spans_graphs under (drop (suc k) spans)) (sym is))

drop_suc : {A : Type 0} (i : ℕ) (xs rest : List A) (x : A) → drop i xs ≡ x ∷ rest → drop (suc i) xs ≡ rest
drop_suc zero [] rest x e = cc
drop_suc zero (y ∷ ys) rest x e = cc
drop_suc (suc i) [] rest x e = cc
drop_suc (suc i) (y ∷ ys) rest x e = drop_suc i ys rest x e

pub drop_step : {A : Type 0} (i : ℕ) (xs rest : List A) (x : A) → drop i xs ≡ x ∷ rest → drop (i + 1) xs ≡ rest
drop_step i xs rest x e = rw add-one (drop_suc i xs rest x e)

pub drop_done : {A : Type 0} (i n : ℕ) (xs : List A) → i ≤ n → drop i xs ≡ [] → drop n xs ≡ []
drop_done zero zero xs le e = e
drop_done zero (suc n) [] le e = refl
drop_done zero (suc n) (x ∷ xs) le e = cc
drop_done (suc i) zero xs le e = absurd (omega arith)
drop_done (suc i) (suc n) [] le e = refl
drop_done (suc i) (suc n) (x ∷ xs) le e = drop_done i n xs (omega arith) e

pub skip_blanks-stop : (gs rest : List Grapheme) (g : Grapheme) → gs ≡ g ∷ rest → g.blank ≡ false → skip_blanks gs ≡ gs
unfolding skip_blanks
skip_blanks-stop gs rest g e h = ap skip_blanks e ∙ ap (λ b. cond b (skip_blanks rest) (g ∷ rest)) h ∙ sym e

pub skip_blanks-blank : (gs rest : List Grapheme) (g : Grapheme) → gs ≡ g ∷ rest → g.blank ≡ true → skip_blanks gs ≡ skip_blanks rest
unfolding skip_blanks
skip_blanks-blank gs rest g e h = ap skip_blanks e ∙ ap (λ b. cond b (skip_blanks rest) (g ∷ rest)) h

pub skip_blanks-nil : (gs : List Grapheme) → gs ≡ [] → gs ≡ skip_blanks gs
unfolding skip_blanks
skip_blanks-nil gs e = e ∙ sym (ap skip_blanks e)

-- ---- printable bytes in front

-- n of the graphemes of the current span are passed
pub drop-current : (n : ℕ) (cur next rest : List Grapheme) → n ≤ length cur → next ≡ drop n cur → next ++ rest ≡ drop n (cur ++ rest)
drop-current n cur next rest h e = ap (λ gs. gs ++ rest) e ∙ sym (drop-front n cur rest h)

-- a line begins with the printable bytes in front
pub line_left-stretch : (s : LineGraphemes) → (rest : List Grapheme) × (line_left s ≡ map (byte_grapheme s.current.style) (stretch_left s.current) ++ rest)
unfolding line_left graphs_left
line_left-stretch s = (_, append_assoc (map (byte_grapheme s.current.style) (stretch_left s.current)) (plain_left s.current ++ visible s.current.style (pieces_left s.current)) (spans_graphs s.under (drop s.place s.spans.now)))

stretch_short : (s : Graphemes) → length (stretch_left s) ≤ length (graphs_left s)
unfolding graphs_left
stretch_short s = omega (arith, length-append (map (byte_grapheme s.style) (stretch_left s)) (plain_left s ++ visible s.style (pieces_left s)), length-map (stretch_left s) (byte_grapheme s.style))

pub within_stretch : (s : Graphemes) (n : ℕ) → n ≤ length (stretch_left s) → n ≤ length (graphs_left s)
within_stretch s n h = omega (arith, stretch_short s)

-- the spaces in front of the printable bytes are skipped
pub skip_blanks-spaces : (style : Style) (bs : List ℕ) (rest : List Grapheme)
    → skip_blanks (drop (leading_spaces bs) (map (byte_grapheme style) bs ++ rest)) ≡ skip_blanks (map (byte_grapheme style) bs ++ rest)
unfolding skip_blanks leading_spaces
skip_blanks-spaces style [] rest = refl
skip_blanks-spaces style (b ∷ bs) rest = go (b == 32) refl (skip_blanks-spaces style bs rest)
  where
    go : (v : Bool) → (b == 32) ≡ v → skip_blanks (drop (leading_spaces bs) (map (byte_grapheme style) bs ++ rest)) ≡ skip_blanks (map (byte_grapheme style) bs ++ rest)
        → skip_blanks (drop (cond v (suc (leading_spaces bs)) 0) (byte_grapheme style b ∷ (map (byte_grapheme style) bs ++ rest)))
        ≡ skip_blanks (byte_grapheme style b ∷ (map (byte_grapheme style) bs ++ rest))
    go true e ih = ih ∙ sym (ap (λ w. cond w (skip_blanks (map (byte_grapheme style) bs ++ rest)) (byte_grapheme style b ∷ (map (byte_grapheme style) bs ++ rest))) e)
    go false e ih = refl

-- a row's blanks end before a printable byte that is no space
pub skip_blanks-none : (style : Style) (bs : List ℕ) (rest : List Grapheme) → 0 < length bs → leading_spaces bs ≡ 0
    → skip_blanks (map (byte_grapheme style) bs ++ rest) ≡ map (byte_grapheme style) bs ++ rest
unfolding skip_blanks leading_spaces
skip_blanks-none style [] rest some none = absurd (omega arith)
skip_blanks-none style (b ∷ bs) rest some none = go (b == 32) none
  where
    go : (v : Bool) → cond v (suc (leading_spaces bs)) 0 ≡ 0
        → cond v (skip_blanks (map (byte_grapheme style) bs ++ rest)) (byte_grapheme style b ∷ (map (byte_grapheme style) bs ++ rest)) ≡ byte_grapheme style b ∷ (map (byte_grapheme style) bs ++ rest)
    go true e = absurd (omega arith)
    go false e = refl

pub line_left-some : (s : LineGraphemes) → 0 < length (stretch_left s.current) → 0 < length (line_left s)
unfolding line_left
line_left-some s some =
    omega (arith, within_stretch s.current 1 some, length-append (graphs_left s.current) (spans_graphs s.under (drop s.place s.spans.now)))

pub skip_blanks-line : (s : LineGraphemes) (n : ℕ) → n ≡ leading_spaces (stretch_left s.current) → skip_blanks (drop n (line_left s)) ≡ skip_blanks (line_left s)
skip_blanks-line s n is =
    let parts = line_left-stretch s in
    ap₂ (λ k gs. skip_blanks (drop k gs)) is parts.1 ∙ skip_blanks-spaces s.current.style (stretch_left s.current) parts.0 ∙ sym (ap skip_blanks parts.1)

pub skip_blanks-line_none : (s : LineGraphemes) → 0 < length (stretch_left s.current) → leading_spaces (stretch_left s.current) ≡ 0 → skip_blanks (line_left s) ≡ line_left s
skip_blanks-line_none s some none =
    let parts = line_left-stretch s in
    ap skip_blanks parts.1 ∙ skip_blanks-none s.current.style (stretch_left s.current) parts.0 some none ∙ sym parts.1
