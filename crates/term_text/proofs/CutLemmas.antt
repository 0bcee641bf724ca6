-- A walk along graphemes ends a row where `cut_of` says.
use Rattle.std.proofs.Common.{◌≡◌, ℕ, zero, suc, ◌+◌, ◌-◌, ◌<◌, ◌≤◌, Bool, true, false, cond, nat_le, nat_lt, ◌&&◌, List, [], ◌∷◌, ◌++◌, length, take, drop, map, refl, sym, ap, ap₂, subst, ◌∙◌, arith, append_assoc, length-append, append-nil, zero-add, ◌==◌}
use Rattle.std.proofs.lemmas.Bool.{and_parts}
use Rattle.std.proofs.lemmas.Bool.Decides.{nat_tests}
use Rattle.std.proofs.lemmas.List.Sums.{sum_by-cons}
use Rattle.std.specs.List.{AllByRecursion}
use Rattle.term_text.specs.declared.style.Style.{Style}
use Rattle.term_text.specs.declared.line_graphs.LineGraphemes.{LineGraphemes}
use Rattle.term_text.specs.Graph.{Grapheme, columns, visible, is_visible, width_of, grapheme_of, spans_graphs, pieces_of}
use Rattle.term_text.specs.Text.{SpanView}
use Rattle.std.specs.Str.{chars}
use Rattle.term_text.specs.Iter.{graphs_left, pieces_left, plain_left, stretch_left}
use Rattle.term_text.specs.Plain.{is_narrow, byte_grapheme, plain_grapheme}
use Rattle.term_text.specs.LineIter.{line_left}
use Rattle.term_text.specs.Wrap.{fitting, is_blank_at, last_blank, cut_of, unless_empty}
use Rattle.term_text.specs.Cut.{mark_of, len_of, cut_from}

-- ---- each grapheme takes a column

abbrev pub AllShown : List Grapheme → Type 0
AllShown gs = AllByRecursion (λ g. 1 ≤ g.width) gs

AllShown-append : (xs ys : List Grapheme) → AllShown xs → AllShown ys → AllShown (xs ++ ys)
AllShown-append [] ys p q = q
AllShown-append (x ∷ xs) ys p q = (p.0, AllShown-append xs ys p.1 q)

is_visible-width : (p : List ℕ) → is_visible p ≡ true → 1 ≤ width_of p
is_visible-width p h = test (width_of p) (and_parts _ _ h).1
  where
    test : (w : ℕ) → nat_le 1 w ≡ true → 1 ≤ w
    test w h = grind (arith, nat_tests)

AllShown-visible : (style : Style) (ps : List (List ℕ)) → AllShown (visible style ps)
unfolding visible
AllShown-visible style [] = tt
AllShown-visible style (p ∷ ps) = go (is_visible p) refl (AllShown-visible style ps)
  where
    go : (b : Bool) → is_visible p ≡ b → AllShown (visible style ps) → AllShown (cond b (grapheme_of style p ∷ visible style ps) (visible style ps))
    go true e k = (is_visible-width p e, k)
    go false e k = k

AllShown-stretch : (style : Style) (bs : List ℕ) → AllShown (map (byte_grapheme style) bs)
AllShown-stretch style [] = tt
AllShown-stretch style (b ∷ bs) = (omega arith, AllShown-stretch style bs)

AllShown-plain : (style : Style) (cs : List ℕ) → AllShown (map (plain_grapheme style) cs)
AllShown-plain style [] = tt
AllShown-plain style (c ∷ cs) = (shown (is_narrow c), AllShown-plain style cs)
  where
    shown : (narrow : Bool) → 0 < cond narrow 1 2
    shown true = omega arith
    shown false = omega arith

pub AllShown-spans : (under : Style) (spans : List SpanView) → AllShown (spans_graphs under spans)
unfolding spans_graphs
AllShown-spans under [] = tt
AllShown-spans under (span ∷ spans) = AllShown-append _ _ (AllShown-visible _ (pieces_of span)) (AllShown-spans under spans)

pub AllShown-line_left : (s : LineGraphemes) → AllShown (line_left s)
unfolding line_left graphs_left plain_left
AllShown-line_left s =
    AllShown-append _ _
    (AllShown-append _ _ (AllShown-stretch s.current.style (stretch_left s.current))
    (AllShown-append _ _ (AllShown-plain s.current.style (chars s.current.plain.now)) (AllShown-visible s.current.style (pieces_left s.current))))
    (AllShown-spans s.under (drop s.place s.spans.now))

pub width_some : (gs rest : List Grapheme) (g : Grapheme) → AllShown gs → gs ≡ g ∷ rest → 1 ≤ g.width
width_some gs rest g h e = (subst AllShown e h).0

-- ---- the walk

is_blank_at-append : (pre rest : List Grapheme) (g : Grapheme) → is_blank_at (pre ++ g ∷ rest) (length pre) ≡ g.blank
is_blank_at-append [] rest g = refl
is_blank_at-append (p ∷ ps) rest g = is_blank_at-append ps rest g

some : (n : ℕ) → nat_lt 0 (suc n) ≡ true
some n = grind (arith, nat_tests)

mark_of-some : (blank : Bool) (n mark : ℕ) → mark_of blank (suc n) mark ≡ cond blank (suc n) mark
mark_of-some blank n mark = ap (λ b. cond (b && blank) (suc n) mark) (some n)

len_of-some : (i d : ℕ) → len_of (suc i) d ≡ suc i
len_of-some i d = ap (λ b. cond b (suc i) d) (some i)

less_one : (n : ℕ) → suc n - 1 ≡ n
less_one n = omega arith

-- the mark is the last blank so far
last_blank-mark : (pre rest : List Grapheme) (g : Grapheme)
    → mark_of g.blank (length pre) (last_blank (pre ++ g ∷ rest) (length pre - 1) 0) ≡ last_blank (pre ++ g ∷ rest) (length pre) 0
unfolding last_blank
last_blank-mark [] rest g = refl
last_blank-mark (p ∷ ps) rest g =
    mark_of-some g.blank (length ps) _
    ∙ ap₂ (λ b n. cond b (suc (length ps)) (last_blank (p ∷ (ps ++ g ∷ rest)) n 0)) (sym (is_blank_at-append ps rest g)) (less_one (length ps))

last_blank-default : (gs : List Grapheme) (i d : ℕ) → len_of (last_blank gs i 0) d ≡ last_blank gs i d
unfolding last_blank
last_blank-default gs zero d = refl
last_blank-default gs (suc i) d = go (is_blank_at gs (suc i)) (last_blank-default gs i d)
  where
    go : (b : Bool) → len_of (last_blank gs i 0) d ≡ last_blank gs i d → len_of (cond b (suc i) (last_blank gs i 0)) d ≡ cond b (suc i) (last_blank gs i d)
    go true k = len_of-some i d
    go false k = k

-- what a walk answers that began with `all`, has passed `count` graphemes, and has `rest` before it
abbrev answer : List Grapheme → ℕ → ℕ → List Grapheme → ℕ × Bool
answer all room count rest =
    cond (nat_le (columns rest) room) (length all, true) (last_blank all (count + fitting room rest) (count + fitting room rest), false)

fitting-none : (room : ℕ) (g : Grapheme) (gs : List Grapheme) → nat_lt room g.width ≡ true → fitting room (g ∷ gs) ≡ 0
unfolding fitting
fitting-none room g gs h = grind (arith, nat_tests)

fitting-more : (room : ℕ) (g : Grapheme) (gs : List Grapheme) → nat_lt room g.width ≡ false → fitting room (g ∷ gs) ≡ suc (fitting (room - g.width) gs)
unfolding fitting
fitting-more room g gs h = grind (arith, nat_tests)

pub columns-cons : (g : Grapheme) (gs : List Grapheme) → columns (g ∷ gs) ≡ g.width + columns gs
columns-cons g gs = sum_by-cons (λ (x : Grapheme). x.width) g gs

over : (room w rest : ℕ) → nat_lt room w ≡ true → nat_le (w + rest) room ≡ false
over room w rest h = grind (arith, nat_tests)

within : (room w rest : ℕ) → nat_lt room w ≡ false → nat_le (w + rest) room ≡ nat_le rest (room - w)
within room w rest h = grind (arith, nat_tests)

pub cut_from-is : (rest pre : List Grapheme) (room : ℕ)
    → cut_from room (length pre) (last_blank (pre ++ rest) (length pre - 1) 0) rest ≡ answer (pre ++ rest) room (length pre) rest
unfolding cut_from
cut_from-is [] pre room = ap₂ (λ n b. cond b (n, true) (last_blank (pre ++ []) (length pre + fitting room []) (length pre + fitting room []), false)) (ap length (sym (append-nil pre))) (sym (test room))
  where
    test : (room : ℕ) → nat_le 0 room ≡ true
    test room = grind (arith, nat_tests)
cut_from-is (g ∷ gs) pre room = go (nat_lt room g.width) refl (cut_from-is gs (pre ++ g ∷ []) (room - g.width))
  where
    go : (b : Bool) → nat_lt room g.width ≡ b
        → cut_from (room - g.width) (length (pre ++ g ∷ [])) (last_blank ((pre ++ g ∷ []) ++ gs) (length (pre ++ g ∷ []) - 1) 0) gs
        ≡ answer ((pre ++ g ∷ []) ++ gs) (room - g.width) (length (pre ++ g ∷ [])) gs
        → cond b (len_of (mark_of g.blank (length pre) (last_blank (pre ++ g ∷ gs) (length pre - 1) 0)) (length pre), false)
        (cut_from (room - g.width) (length pre + 1) (mark_of g.blank (length pre) (last_blank (pre ++ g ∷ gs) (length pre - 1) 0)) gs)
        ≡ answer (pre ++ g ∷ gs) room (length pre) (g ∷ gs)
    go true h k =
        let all : List Grapheme = pre ++ g ∷ gs in
        let at : length pre + fitting room (g ∷ gs) ≡ length pre = omega (arith, fitting-none room g gs h) in
        let test : nat_le (columns (g ∷ gs)) room ≡ false = ap (λ n. nat_le n room) (columns-cons g gs) ∙ over room g.width (columns gs) h in
        ap (λ m. (len_of m (length pre), false)) (last_blank-mark pre gs g)
        ∙ ap (λ m. (m, false)) (last_blank-default all (length pre) (length pre))
        ∙ sym (ap₂ (λ b m. cond b (length all, true) (last_blank all m m, false)) test at)
    go false h k =
        let all : List Grapheme = pre ++ g ∷ gs in
        let longer : length (pre ++ g ∷ []) ≡ length pre + 1 = omega (arith, length-append pre (g ∷ [])) in
        let same : (pre ++ g ∷ []) ++ gs ≡ all = append_assoc pre (g ∷ []) gs in
        let before : length (pre ++ g ∷ []) - 1 ≡ length pre = omega arith in
        let at : (length pre + 1) + fitting (room - g.width) gs ≡ length pre + fitting room (g ∷ gs) = omega (arith, fitting-more room g gs h) in
        let test : nat_le (columns (g ∷ gs)) room ≡ nat_le (columns gs) (room - g.width) =
        ap (λ n. nat_le n room) (columns-cons g gs) ∙ within room g.width (columns gs) h in
        ap₂ (λ n m. cut_from (room - g.width) n m gs) (sym longer)
        (last_blank-mark pre gs g ∙ sym (ap₂ (λ l n. last_blank l n 0) same before))
        ∙ k
        ∙ ap₂ (λ l n. answer l (room - g.width) n gs) same longer
        ∙ ap₂ (λ b m. cond b (length all, true) (last_blank all m m, false)) (sym test) at

pub cut_from-whole : (w : ℕ) (gs : List Grapheme)
    → cut_from w 0 0 gs ≡ cond (nat_le (columns gs) w) (length gs, true) (cut_of w gs, false)
unfolding last_blank
cut_from-whole w gs =
    cut_from-is gs [] w ∙ ap (λ k. cond (nat_le (columns gs) w) (length gs, true) (last_blank gs k k, false)) (zero-add (fitting w gs))

pub cut_from-stop : (room count mark : ℕ) (g : Grapheme) (gs : List Grapheme) → room < g.width
    → cut_from room count mark (g ∷ gs) ≡ (len_of (mark_of g.blank count mark) count, false)
unfolding cut_from
cut_from-stop room count mark g gs h =
    ap (λ b. cond b (len_of (mark_of g.blank count mark) count, false) (cut_from (room - g.width) (count + 1) (mark_of g.blank count mark) gs)) (test room g.width h)
  where
    test : (a b : ℕ) → a < b → nat_lt a b ≡ true
    test a b h = grind (arith, nat_tests)

pub cut_from-go : (room count mark : ℕ) (g : Grapheme) (gs : List Grapheme) → g.width ≤ room
    → cut_from room count mark (g ∷ gs) ≡ cut_from (room - g.width) (count + 1) (mark_of g.blank count mark) gs
unfolding cut_from
cut_from-go room count mark g gs h =
    ap (λ b. cond b (len_of (mark_of g.blank count mark) count, false) (cut_from (room - g.width) (count + 1) (mark_of g.blank count mark) gs)) (test room g.width h)
  where
    test : (a b : ℕ) → b ≤ a → nat_lt a b ≡ false
    test a b h = grind (arith, nat_tests)

-- what the outcome of a cut says of the test
pub cut_last : (b : Bool) (r : ℕ × Bool) (n m : ℕ) → r ≡ cond b (n, true) (m, false) → r.1 ≡ true → (b ≡ true) × (r.0 ≡ n)
cut_last true r n m e h = (refl, ap (λ p. p.0) e)
cut_last false r n m e h = let f : true ≡ false = sym h ∙ ap (λ p. p.1) e in cc

pub cut_more : (b : Bool) (r : ℕ × Bool) (n m : ℕ) → r ≡ cond b (n, true) (m, false) → r.1 ≡ false → (b ≡ false) × (r.0 ≡ m)
cut_more false r n m e h = (refl, ap (λ p. p.0) e)
cut_more true r n m e h = let f : false ≡ true = sym h ∙ ap (λ p. p.1) e in cc

pub take_step : {A : Type 0} (n : ℕ) (xs rest : List A) (x : A) → 0 < n → xs ≡ x ∷ rest → take n xs ≡ x ∷ take (n - 1) rest
take_step zero xs rest x h e = absurd (omega arith)
take_step (suc n) xs rest x h e = ap (take (suc n)) e ∙ ap (λ k. x ∷ take k rest) (sym (less_one n))

pub take_none : {A : Type 0} (n : ℕ) (xs : List A) → xs ≡ [] → take n xs ≡ []
take_none zero xs e = refl
take_none (suc n) xs e = ap (take (suc n)) e

pub unless_empty-test : (rest : List Grapheme) (rows : List (List Grapheme)) → unless_empty rest rows ≡ cond (length rest == 0) [] rows
unless_empty-test [] rows = refl
unless_empty-test (g ∷ gs) rows = ap (λ b. cond b [] rows) (sym (never (length gs)))
  where
    never : (n : ℕ) → (suc n == 0) ≡ false
    never n = grind (arith, nat_tests)

pub le_of_test : (a b : ℕ) → nat_le a b ≡ true → a ≤ b
le_of_test a b h = grind (arith, nat_tests)

pub lt_of_test : (a b : ℕ) → nat_le a b ≡ false → b < a
lt_of_test a b h = grind (arith, nat_tests)
