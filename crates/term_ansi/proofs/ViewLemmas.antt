-- The symbols of a drawn view can be printed, and hold no control byte.
use Rattle.std.proofs.Common.{◌≡◌, ◌<◌, ◌+◌, ◌-◌, ◌==◌, ◌||◌, ◌&&◌, not, ℕ, zero, suc, Bool, true, false, cond, nat_le, List, [], ◌∷◌, ◌++◌, length, take, drop, get_or, replicate, refl, ap, ap₂, sym, ◌∙◌, arith}
use Rattle.std.proofs.lemmas.Bool.{false≢true, and_parts}
use Rattle.std.proofs.lemmas.Bool.Decides.{nat_tests}
use Rattle.std.proofs.lemmas.List.Folds.{list_all-append}
use Rattle.std.proofs.lemmas.Str.{IsUtf8-from_is_utf8, encodes-chars, NoCharPasses-byte}
use Rattle.std.specs.Prelude.{slice_get, unwrap_or}
use Rattle.std.specs.Char.{is_control}
use Rattle.std.specs.List.{list_all, list_any}
use Rattle.unicode_width.specs.Width.{str_width}
use Rattle.std.specs.Str.{chars, is_utf8, NonePass, NoCharPasses}
use Rattle.term_text.specs.Graph.{Grapheme, width_of, is_visible, grapheme_of, visible, pieces_of, spans_graphs, graphs, columns}
use Rattle.term_text.specs.Style.{patch}
use Rattle.term_text.specs.Text.{SpanView, LineView}
use Rattle.term_text.specs.Wrap.{cut_of, skip_blanks, rest_of, unless_empty, wrap_within, wrap}
use Rattle.term_text.specs.declared.style.Style.{Style}
use Rattle.term_text.proofs.PlainLemmas.{is_visible-plain}
use Rattle.term_core.specs.Cells.{CellView, blank_cell, row_cells, cells, view}
use Rattle.term_core.specs.Visited.{visited_after, visited}
use Rattle.term_widgets.specs.Page.{rows_of}
use Rattle.ucd_table.specs.Rows.{in_ranges}
use lib.Utf8.{encode}
use Rattle.term_ansi.specs.Printed.{is_bad_byte, is_bad_symbol}
use Rattle.term_ansi.specs.Texts.{is_text_cell, is_text_row, is_bad_text, has_bad_text}
use Rattle.term_ansi.specs.Clean.{is_clean_cell, is_clean_row}

-- ---- a visible symbol that is UTF-8

control_free : (s : List ℕ) → is_visible s ≡ true → list_any is_control (chars s) ≡ false
control_free s h = is_not (list_any is_control (chars s)) (and_parts _ _ h).0
  where
    is_not : (v : Bool) → not v ≡ true → v ≡ false
    is_not true e = sym e
    is_not false e = refl

none_pass : (cs : List ℕ) → list_any is_control cs ≡ false → NonePass is_control cs
none_pass [] h = tt
none_pass (c ∷ cs) h = go (is_control c) refl h (λ k. none_pass cs k)
  where
    go : (v : Bool) → is_control c ≡ v → (v || list_any is_control cs) ≡ false → (list_any is_control cs ≡ false → NonePass is_control cs)
        → NonePass is_control (c ∷ cs)
    go true e k later = absurd (false≢true (sym k))
    go false e k later = (e, later k)

at_least : (b : ℕ) → (b < 128 → is_control b ≡ false) → nat_le 32 b ≡ true
at_least b h = go (nat_le 32 b) refl
  where
    small : (b : ℕ) → nat_le 32 b ≡ false → b < 128
    small b e = grind (arith, nat_tests)

    control : (b : ℕ) → nat_le 32 b ≡ false → is_control b ≡ true
    control b e = grind (arith, nat_tests)

    go : (v : Bool) → nat_le 32 b ≡ v → nat_le 32 b ≡ true
    go true e = e
    go false e = absurd (false≢true (sym (h (small b e)) ∙ control b e))

by_index : (bs : List ℕ) → ((i : ℕ) → i < length bs → nat_le 32 (get_or bs i 0) ≡ true) → list_all (λ b. nat_le 32 b) bs ≡ true
by_index [] f = refl
by_index (b ∷ bs) f = ap₂ (λ x y. x && y) (f 0 (omega arith)) (by_index bs (λ i lt. f (suc i) (omega (arith, lt))))

clean-symbol : (s : List ℕ) → is_visible s ≡ true → is_utf8 s ≡ true → list_all (λ b. nat_le 32 b) s ≡ true
clean-symbol s h k =
    let passes : NoCharPasses is_control s = (chars s, encodes-chars s (IsUtf8-from_is_utf8 s k), none_pass (chars s) (control_free s h)) in
    by_index s (λ i lt. at_least (get_or s i 0) (λ small. NoCharPasses-byte is_control s i passes lt small))

no_bad_byte : (s : List ℕ) → list_all (λ b. nat_le 32 b) s ≡ true → list_any is_bad_byte s ≡ false
no_bad_byte [] h = refl
no_bad_byte (b ∷ bs) h = let parts = and_parts _ _ h in ap₂ (λ x y. x || y) (good b parts.0) (no_bad_byte bs parts.1)
  where
    good : (b : ℕ) → nat_le 32 b ≡ true → is_bad_byte b ≡ false
    good b h = grind (arith, nat_tests)

nothing_seen : is_visible [] ≡ false
unfolding chars str_width
nothing_seen = refl

good-symbol : (s : List ℕ) → is_visible s ≡ true → is_utf8 s ≡ true → is_bad_symbol s ≡ false
good-symbol [] h k = absurd (false≢true (sym nothing_seen ∙ h))
good-symbol (b ∷ bs) h k = ap₂ (λ x y. x || y) (some (length bs)) (no_bad_byte (b ∷ bs) (clean-symbol (b ∷ bs) h k))
  where
    some : (n : ℕ) → (suc n == 0) ≡ false
    some n = grind (arith, nat_tests)

-- ---- the graphemes of rows are visible

abbrev all_seen : List Grapheme → Bool
all_seen gs = list_all (λ (g : Grapheme). is_visible g.symbol) gs

seen-append : (xs ys : List Grapheme) → all_seen xs ≡ true → all_seen ys ≡ true → all_seen (xs ++ ys) ≡ true
seen-append xs ys h k = list_all-append (λ (g : Grapheme). is_visible g.symbol) xs ys ∙ ap₂ (λ a b. a && b) h k

seen-visible : (s : Style) (ps : List (List ℕ)) → all_seen (visible s ps) ≡ true
unfolding visible
seen-visible s [] = refl
seen-visible s (p ∷ ps) = go (is_visible p) refl (seen-visible s ps)
  where
    go : (v : Bool) → is_visible p ≡ v → all_seen (visible s ps) ≡ true → all_seen (cond v (grapheme_of s p ∷ visible s ps) (visible s ps)) ≡ true
    go true e k = ap₂ (λ a b. a && b) e k
    go false e k = k

seen-spans : (s : Style) (ss : List SpanView) → all_seen (spans_graphs s ss) ≡ true
unfolding spans_graphs
seen-spans s [] = refl
seen-spans s (span ∷ ss) = seen-append (visible (patch s span.style) (pieces_of span)) (spans_graphs s ss) (seen-visible (patch s span.style) (pieces_of span)) (seen-spans s ss)

seen-take : (n : ℕ) (gs : List Grapheme) → all_seen gs ≡ true → all_seen (take n gs) ≡ true
seen-take zero gs h = refl
seen-take (suc n) [] h = refl
seen-take (suc n) (g ∷ gs) h = let parts = and_parts _ _ h in ap₂ (λ a b. a && b) parts.0 (seen-take n gs parts.1)

seen-drop : (n : ℕ) (gs : List Grapheme) → all_seen gs ≡ true → all_seen (drop n gs) ≡ true
seen-drop zero gs h = h
seen-drop (suc n) [] h = refl
seen-drop (suc n) (g ∷ gs) h = seen-drop n gs (and_parts _ _ h).1

seen-skip : (gs : List Grapheme) → all_seen gs ≡ true → all_seen (skip_blanks gs) ≡ true
unfolding skip_blanks
seen-skip [] h = refl
seen-skip (g ∷ gs) h = go g.blank (seen-skip gs (and_parts _ _ h).1)
  where
    go : (b : Bool) → all_seen (skip_blanks gs) ≡ true → all_seen (cond b (skip_blanks gs) (g ∷ gs)) ≡ true
    go true k = k
    go false k = h

abbrev rows_seen : List (List Grapheme) → Bool
rows_seen rows = list_all all_seen rows

seen-unless : (rest : List Grapheme) (rows : List (List Grapheme)) → rows_seen rows ≡ true → rows_seen (unless_empty rest rows) ≡ true
seen-unless [] rows h = refl
seen-unless (g ∷ gs) rows h = h

seen-step : (b : Bool) (w : ℕ) (gs : List Grapheme) (rows : List (List Grapheme)) → all_seen gs ≡ true → rows_seen rows ≡ true
    → rows_seen (cond b (gs ∷ []) (take (cut_of w gs) gs ∷ unless_empty (rest_of w gs) rows)) ≡ true
seen-step true w gs rows h k = ap (λ v. v && true) h
seen-step false w gs rows h k = ap₂ (λ a b. a && b) (seen-take (cut_of w gs) gs h) (seen-unless (rest_of w gs) rows k)

seen-within : (n w : ℕ) (gs : List Grapheme) → all_seen gs ≡ true → rows_seen (wrap_within n w gs) ≡ true
unfolding wrap_within
seen-within zero w gs h = ap (λ v. v && true) h
seen-within (suc n) w gs h =
    seen-step (nat_le (columns gs) w) w gs (wrap_within n w (rest_of w gs)) h
    (seen-within n w (rest_of w gs) (seen-skip (drop (cut_of w gs) gs) (seen-drop (cut_of w gs) gs h)))

seen-wrap : (w : ℕ) (gs : List Grapheme) → all_seen gs ≡ true → rows_seen (wrap w gs) ≡ true
unfolding wrap
seen-wrap w gs h = seen-within (length gs) w gs h

seen-rows_of : (w : ℕ) (lines : List LineView) → rows_seen (rows_of w lines) ≡ true
unfolding rows_of
seen-rows_of w [] = refl
seen-rows_of w (line ∷ lines) =
    list_all-append all_seen (wrap w (graphs line)) (rows_of w lines)
    ∙ ap₂ (λ a b. a && b) (seen-wrap w (graphs line) (seen-spans line.style line.spans)) (seen-rows_of w lines)

-- ---- and so are the cells of a view

abbrev is_seen : CellView → Bool
is_seen c = is_visible c.symbol

abbrev cells_seen : List CellView → Bool
cells_seen cs = list_all is_seen cs

seen-blank : is_visible (32 ∷ []) ≡ true
unfolding in_ranges encode
seen-blank = is_visible-plain 32 refl

seen-blanks : (n : ℕ) → cells_seen (replicate n blank_cell) ≡ true
seen-blanks zero = refl
seen-blanks (suc n) = ap₂ (λ a b. a && b) seen-blank (seen-blanks n)

cells-append : (xs ys : List CellView) → cells_seen xs ≡ true → cells_seen ys ≡ true → cells_seen (xs ++ ys) ≡ true
cells-append xs ys h k = list_all-append is_seen xs ys ∙ ap₂ (λ a b. a && b) h k

seen-row_cells : (gs : List Grapheme) → all_seen gs ≡ true → cells_seen (row_cells gs) ≡ true
unfolding row_cells
seen-row_cells [] h = refl
seen-row_cells (g ∷ gs) h =
    let parts = and_parts _ _ h in
    ap₂ (λ a b. a && b) parts.0 (cells-append (replicate (g.width - 1) blank_cell) (row_cells gs) (seen-blanks (g.width - 1)) (seen-row_cells gs parts.1))

seen-cells : (gs : List Grapheme) (w : ℕ) → all_seen gs ≡ true → cells_seen (cells gs w) ≡ true
seen-cells gs w h = cells-append (row_cells gs) (replicate (w - length (row_cells gs)) blank_cell) (seen-row_cells gs h) (seen-blanks (w - length (row_cells gs)))

seen-at : (rows : List (List Grapheme)) (r : ℕ) → rows_seen rows ≡ true → all_seen (unwrap_or (slice_get rows r) []) ≡ true
seen-at [] zero h = refl
seen-at [] (suc r) h = refl
seen-at (row ∷ rows) zero h = (and_parts _ _ h).0
seen-at (row ∷ rows) (suc r) h = seen-at rows r (and_parts _ _ h).1

seen-view : (rows : List (List Grapheme)) (w h r : ℕ) → rows_seen rows ≡ true → list_all cells_seen (view rows w h r) ≡ true
unfolding view
seen-view rows w zero r k = refl
seen-view rows w (suc h) r k = ap₂ (λ a b. a && b) (seen-cells (unwrap_or (slice_get rows r) []) w (seen-at rows r k)) (seen-view rows w h (r + 1) k)

seen-visited : (n : ℕ) (cs : List CellView) → cells_seen cs ≡ true → cells_seen (visited_after n cs) ≡ true
unfolding visited_after
seen-visited zero [] h = refl
seen-visited (suc n) [] h = refl
seen-visited zero (c ∷ cs) h = let parts = and_parts _ _ h in ap₂ (λ a b. a && b) parts.0 (seen-visited (width_of c.symbol - 1) cs parts.1)
seen-visited (suc n) (c ∷ cs) h = seen-visited n cs (and_parts _ _ h).1

-- ---- so they can be printed

bad-cells : (cs : List CellView) → cells_seen cs ≡ true → list_any is_bad_text cs ≡ false
bad-cells [] h = refl
bad-cells (c ∷ cs) h = let parts = and_parts _ _ h in ap₂ (λ a b. a || b) (go (is_utf8 c.symbol) refl parts.0) (bad-cells cs parts.1)
  where
    go : (v : Bool) → is_utf8 c.symbol ≡ v → is_visible c.symbol ≡ true → (v && is_bad_symbol c.symbol) ≡ false
    go true e k = good-symbol c.symbol k e
    go false e k = refl

bad-rows : (rows : List (List CellView)) → list_all cells_seen rows ≡ true → has_bad_text rows ≡ false
bad-rows [] h = refl
bad-rows (row ∷ rows) h =
    let parts = and_parts _ _ h in
    ap₂ (λ a b. a || b) (bad-cells (visited row) (seen-visited 0 row parts.0)) (bad-rows rows parts.1)

clean-cells : (cs : List CellView) → cells_seen cs ≡ true → list_all is_text_cell cs ≡ true → list_all is_clean_cell cs ≡ true
clean-cells [] h k = refl
clean-cells (c ∷ cs) h k =
    let p = and_parts _ _ h in
    let q = and_parts _ _ k in
    ap₂ (λ a b. a && b) (clean-symbol c.symbol p.0 q.0) (clean-cells cs p.1 q.1)

clean-rows : (rows : List (List CellView)) → list_all cells_seen rows ≡ true → list_all is_text_row rows ≡ true → list_all is_clean_row rows ≡ true
clean-rows [] h k = refl
clean-rows (row ∷ rows) h k =
    let p = and_parts _ _ h in
    let q = and_parts _ _ k in
    ap₂ (λ a b. a && b) (clean-cells (visited row) (seen-visited 0 row p.0) q.0) (clean-rows rows p.1 q.1)

pub no-bad-view : (w : ℕ) (lines : List LineView) (width height scroll : ℕ) → has_bad_text (view (rows_of w lines) width height scroll) ≡ false
no-bad-view w lines width height scroll = bad-rows (view (rows_of w lines) width height scroll) (seen-view (rows_of w lines) width height scroll (seen-rows_of w lines))

pub clean-view : (w : ℕ) (lines : List LineView) (width height scroll : ℕ) → list_all is_text_row (view (rows_of w lines) width height scroll) ≡ true
    → list_all is_clean_row (view (rows_of w lines) width height scroll) ≡ true
clean-view w lines width height scroll k =
    clean-rows (view (rows_of w lines) width height scroll) (seen-view (rows_of w lines) width height scroll (seen-rows_of w lines)) k
