-- What is read of printed rows: the maximal runs of equal look.
use Rattle.std.proofs.Common.{◌≡◌, ◌<◌, ◌==◌, ◌&&◌, ◌||◌, not, ℕ, suc, Bool, true, false, cond, List, [], ◌∷◌, ◌++◌, length, take, drop, map, refl, ap, ap₂, sym, subst, ◌∙◌, arith, append_assoc}
use Rattle.std.proofs.lemmas.Bool.{false≢true, and_parts}
use Rattle.std.proofs.lemmas.List.Folds.{list_all-append}
use Rattle.std.specs.List.{list_all, list_any}
use Rattle.term_text.specs.LineEnds.{is_one_line, ends_line}
use Rattle.term_text.specs.Style.{no_style}
use Rattle.term_text.specs.declared.style.Style.{Style}
use Rattle.term_core.specs.Cells.{CellView}
use Rattle.term_core.specs.Visited.{visited}
use Rattle.ansi_text.specs.Ansi.{after_pieces, after_sequence, spans, ansi_from, ansi, style_after_line}
use Rattle.ansi_text.specs.Pieces.{Piece, stretch, pieces, first_escape, AtEscape}
use Rattle.ansi_text.proofs.PieceLemmas.{with_stretch, pieces-split, pieces-nil}
use Rattle.ansi_text.proofs.LawLemmas.{first-line_lf, closing_lf}
use Rattle.term_ansi.specs.declared.look.Look.{Look}
use Rattle.term_ansi.specs.Looks.{look_of, plain_look, same_look, is_blank}
use Rattle.ansi_text.specs.Written.{code}
use Rattle.term_ansi.specs.Sgr.{look_items, sequence_text}
use Rattle.term_ansi.specs.Printed.{before_kept, kept, printed_cells, change, cells_text, row_text, rows_text, is_bad_byte, is_bad_symbol, is_bad, is_bad_row, has_bad}
use Rattle.term_ansi.specs.Runs.{Run, run_of, before_runs, runs, run_read, runs_read, is_known, is_known_cell, is_known_row, is_byte_cell, is_nine_cell, is_byte_row, is_nine_row}
use Rattle.term_ansi.proofs.LookLemmas.{same_look-true}
use Rattle.term_ansi.proofs.SgrLemmas.{pieces-sequence_text, look_given, look-sequence, bytes_from_known, one_line-sequence}

-- ---- a text without an escape byte, before an escape byte or the end, is one stretch

abbrev no_escape : List ℕ → Bool
no_escape bs = list_all (λ b. not (b == 27)) bs

not-true : (v : Bool) → not v ≡ true → v ≡ false
not-true true e = sym e
not-true false e = refl

front-taken : (text rest : List ℕ) → no_escape text ≡ true → AtEscape rest → take (first_escape (text ++ rest)) (text ++ rest) ≡ text
unfolding first_escape
front-taken [] [] h e = refl
front-taken [] (b ∷ bs) h e = ap (λ v. take (cond v 0 (suc (first_escape bs))) (b ∷ bs)) e
front-taken (c ∷ cs) rest h e =
    let parts = and_parts _ _ h in
    ap (λ v. take (cond v 0 (suc (first_escape (cs ++ rest)))) (c ∷ (cs ++ rest))) (not-true (c == 27) parts.0)
    ∙ ap (λ (t : List ℕ). c ∷ t) (front-taken cs rest parts.1 e)

front-dropped : (text rest : List ℕ) → no_escape text ≡ true → AtEscape rest → drop (first_escape (text ++ rest)) (text ++ rest) ≡ rest
unfolding first_escape
front-dropped [] [] h e = refl
front-dropped [] (b ∷ bs) h e = ap (λ v. drop (cond v 0 (suc (first_escape bs))) (b ∷ bs)) e
front-dropped (c ∷ cs) rest h e =
    let parts = and_parts _ _ h in
    ap (λ v. drop (cond v 0 (suc (first_escape (cs ++ rest)))) (c ∷ (cs ++ rest))) (not-true (c == 27) parts.0)
    ∙ front-dropped cs rest parts.1 e

pub pieces-stretch : (text rest : List ℕ) → 0 < length text → no_escape text ≡ true → AtEscape rest → pieces (text ++ rest) ≡ stretch text ∷ pieces rest
pieces-stretch text rest some h e =
    pieces-split (text ++ rest)
    ∙ ap₂ (λ (t r : List ℕ). with_stretch t (pieces r)) (front-taken text rest h e) (front-dropped text rest h e)
    ∙ filled text some
  where
    filled : (t : List ℕ) → 0 < length t → with_stretch t (pieces rest) ≡ stretch t ∷ pieces rest
    filled [] lt = absurd (omega (arith, lt))
    filled (b ∷ bs) lt = refl

-- ---- the text of runs

abbrev runs_text : Look → List Run → List ℕ
runs_text l [] = change l plain_look
runs_text l (r ∷ rs) = change l r.look ++ (r.text ++ runs_text r.look rs)

same_change : (l m : Look) → same_look l m ≡ true → change l m ≡ []
same_change l m e = ap (λ v. cond v [] (sequence_text m)) e

before-text : (l : Look) (c : CellView) (rs : List Run) → change l (look_of c) ++ (c.symbol ++ runs_text (look_of c) rs) ≡ runs_text l (before_runs c rs)
before-text l c [] = refl
before-text l c (r ∷ rs) = go (same_look (look_of c) r.look) refl
  where
    go : (v : Bool) → same_look (look_of c) r.look ≡ v → change l (look_of c) ++ (c.symbol ++ runs_text (look_of c) (r ∷ rs))
        ≡ runs_text l (cond v (record { look = r.look; text = c.symbol ++ r.text } ∷ rs) (run_of c ∷ r ∷ rs))
    go true e =
        ap (λ (t : List ℕ). change l (look_of c) ++ (c.symbol ++ (t ++ (r.text ++ runs_text r.look rs)))) (same_change (look_of c) r.look e)
        ∙ ap (λ (m : Look). change l m ++ (c.symbol ++ (r.text ++ runs_text r.look rs))) (same_look-true (look_of c) r.look e)
        ∙ ap (λ (t : List ℕ). change l r.look ++ t) (sym (append_assoc c.symbol r.text (runs_text r.look rs)))
    go false e = refl

pub cells-runs : (l : Look) (cs : List CellView) → cells_text l cs ≡ runs_text l (runs cs)
unfolding cells_text runs
cells-runs l [] = refl
cells-runs l (c ∷ cs) =
    ap (λ (t : List ℕ). change l (look_of c) ++ (c.symbol ++ t)) (cells-runs (look_of c) cs) ∙ before-text l c (runs cs)

-- ---- what holds of the runs of cells that can be printed

record IsText (text : List ℕ) : Type 0 where
  pub some : 0 < length text
  pub no_escapes : no_escape text ≡ true
  pub one_line : is_one_line text ≡ true

-- the first of the runs has another look
abbrev Differs : Look → List Run → Type 0
Differs l [] = Unit {0}
Differs l (r ∷ rs) = same_look l r.look ≡ false

-- each run can be printed, and neighbours differ
abbrev AreRuns : List Run → Type 0
AreRuns [] = Unit {0}
AreRuns (r ∷ rs) = IsText r.text × (is_known r.look ≡ true) × Differs r.look rs × AreRuns rs

or_false : (a b : Bool) → (a || b) ≡ false → (a ≡ false) × (b ≡ false)
or_false true b e = absurd (false≢true (sym e))
or_false false b e = (refl, e)

no_bad-escape : (bs : List ℕ) → list_any is_bad_byte bs ≡ false → no_escape bs ≡ true
no_bad-escape [] h = refl
no_bad-escape (b ∷ bs) h =
    let parts = or_false (is_bad_byte b) (list_any is_bad_byte bs) h in
    let byte = or_false (b == 27) (b == 13 || b == 10) parts.0 in
    ap₂ (λ v w. not v && w) byte.0 (no_bad-escape bs parts.1)

no_bad-line : (bs : List ℕ) → list_any is_bad_byte bs ≡ false → is_one_line bs ≡ true
no_bad-line [] h = refl
no_bad-line (b ∷ bs) h =
    let parts = or_false (is_bad_byte b) (list_any is_bad_byte bs) h in
    let byte = or_false (b == 27) (b == 13 || b == 10) parts.0 in
    let ends = or_false (b == 13) (b == 10) byte.1 in
    ap₂ (λ v w. not v && w) (ap₂ (λ x y. x || y) ends.1 ends.0) (no_bad-line bs parts.1)

IsText-symbol : (s : List ℕ) → is_bad_symbol s ≡ false → IsText s
IsText-symbol [] h = absurd (false≢true (sym h))
IsText-symbol (b ∷ bs) h =
    record { some = omega arith; no_escapes = no_bad-escape (b ∷ bs) (or_false _ _ h).1; one_line = no_bad-line (b ∷ bs) (or_false _ _ h).1 }

one_line-append : (xs ys : List ℕ) → is_one_line xs ≡ true → is_one_line ys ≡ true → is_one_line (xs ++ ys) ≡ true
one_line-append xs ys h k = list_all-append (λ b. not (ends_line b)) xs ys ∙ ap₂ (λ a b. a && b) h k

IsText-append : (s t : List ℕ) → IsText s → IsText t → IsText (s ++ t)
IsText-append [] t p q = absurd (omega (arith, p.some))
IsText-append (b ∷ s) t p q =
    record {
      some = omega arith;
      no_escapes = list_all-append (λ b. not (b == 27)) (b ∷ s) t ∙ ap₂ (λ a b. a && b) p.no_escapes q.no_escapes;
      one_line = one_line-append (b ∷ s) t p.one_line q.one_line;
    }

AreRuns-before : (c : CellView) (rs : List Run) → IsText c.symbol → is_known_cell c ≡ true → AreRuns rs → AreRuns (before_runs c rs)
AreRuns-before c [] text known h = (text, known, tt, tt)
AreRuns-before c (r ∷ rs) text known h = go (same_look (look_of c) r.look) refl
  where
    go : (v : Bool) → same_look (look_of c) r.look ≡ v → AreRuns (cond v (record { look = r.look; text = c.symbol ++ r.text } ∷ rs) (run_of c ∷ r ∷ rs))
    go true e = (IsText-append c.symbol r.text text h.0, h.1, h.2, h.3)
    go false e = (text, known, e, h)

AreRuns-runs : (cs : List CellView) → list_any is_bad cs ≡ false → list_all is_known_cell cs ≡ true → AreRuns (runs cs)
unfolding runs
AreRuns-runs [] bad known = tt
AreRuns-runs (c ∷ cs) bad known =
    let parts = or_false (is_bad c) (list_any is_bad cs) bad in
    let more = and_parts _ _ known in
    AreRuns-before c (runs cs) (IsText-symbol c.symbol parts.0) more.0 (AreRuns-runs cs parts.1 more.1)

-- ---- the pieces of runs

plain_known : is_known plain_look ≡ true
plain_known = refl

AtEscape-runs : (l : Look) (rs : List Run) → Differs l rs → AtEscape (runs_text l rs)
unfolding sequence_text
AtEscape-runs l [] h = go (same_look l plain_look)
  where
    go : (v : Bool) → AtEscape (cond v [] (sequence_text plain_look))
    go true = tt
    go false = refl
AtEscape-runs l (r ∷ rs) h = go (same_look l r.look) h
  where
    go : (v : Bool) → v ≡ false → AtEscape (cond v [] (sequence_text r.look) ++ (r.text ++ runs_text r.look rs))
    go true e = absurd (false≢true (sym e))
    go false e = refl

-- a style gives a blank cell this look
abbrev pub Shows : Style → Look → Type 0
Shows s l = look_given s ≡ l

-- what is read of a text begun in a style: these runs, and a style behind them that gives the plain look
pub record Reads (s : Style) (text : List ℕ) (rs : List Run) : Type 0 where
  pub runs : map run_read (spans s (pieces text)) ≡ rs
  pub after : Shows (after_pieces s (pieces text)) plain_look

Reads-at : (s : Style) (text now : List ℕ) (rs : List Run) → now ≡ text → Reads s text rs → Reads s now rs
Reads-at s text now rs e h = subst (λ t. Reads s t rs) (sym e) h

Reads-nothing : (s : Style) → Shows s plain_look → Reads s [] []
unfolding spans after_pieces
Reads-nothing s h =
    record {
      runs = ap (λ (ps : List Piece). map run_read (spans s ps)) pieces-nil;
      after = ap (λ (ps : List Piece). look_given (after_pieces s ps)) pieces-nil ∙ h;
    }

Reads-sequence : (s : Style) (l : Look) (text : List ℕ) (rs : List Run) → is_known l ≡ true → Reads (after_sequence s (code 0 ∷ look_items l)) text rs → Reads s (sequence_text l ++ text) rs
unfolding spans after_pieces
Reads-sequence s l text rs known h =
    let same = pieces-sequence_text l text known in
    record {
      runs = ap (λ (ps : List Piece). map run_read (spans s ps)) same ∙ h.runs;
      after = ap (λ (ps : List Piece). look_given (after_pieces s ps)) same ∙ h.after;
    }

Reads-stretch : (s : Style) (r : Run) (text : List ℕ) (rs : List Run) → IsText r.text → Shows s r.look → AtEscape text → Reads s text rs → Reads s (r.text ++ text) (r ∷ rs)
unfolding spans after_pieces
Reads-stretch s r text rs is shows at h =
    let same = pieces-stretch r.text text is.some is.no_escapes at in
    record {
      runs = ap (λ (ps : List Piece). map run_read (spans s ps)) same
          ∙ ap₂ (λ (l : Look) (qs : List Run). record { look = l; text = r.text } ∷ qs) shows h.runs;
      after = ap (λ (ps : List Piece). look_given (after_pieces s ps)) same ∙ h.after;
    }

append-nothing : (xs : List ℕ) → xs ≡ xs ++ []
append-nothing [] = refl
append-nothing (x ∷ xs) = ap (λ (t : List ℕ). x ∷ t) (append-nothing xs)

Reads-runs : (s : Style) (l : Look) (rs : List Run) → Shows s l → AreRuns rs → Reads s (runs_text l rs) rs
Reads-runs s l [] shows h = go (same_look l plain_look) refl
  where
    go : (v : Bool) → same_look l plain_look ≡ v → Reads s (cond v [] (sequence_text plain_look)) []
    go true e = Reads-nothing s (shows ∙ same_look-true l plain_look e)
    go false e =
        Reads-at s (sequence_text plain_look ++ []) (sequence_text plain_look) [] (append-nothing (sequence_text plain_look))
        (Reads-sequence s plain_look [] [] plain_known (Reads-nothing _ (look-sequence s plain_look plain_known)))
Reads-runs s l (r ∷ rs) shows h = go (same_look l r.look) refl (λ t k. Reads-runs t r.look rs k h.3)
  where
    rest : (t : Style) → Shows t r.look → Reads t (runs_text r.look rs) rs → Reads t (r.text ++ runs_text r.look rs) (r ∷ rs)
    rest t k inner = Reads-stretch t r (runs_text r.look rs) rs h.0 k (AtEscape-runs r.look rs h.2) inner

    go : (v : Bool) → same_look l r.look ≡ v → ((t : Style) → Shows t r.look → Reads t (runs_text r.look rs) rs)
        → Reads s (cond v [] (sequence_text r.look) ++ (r.text ++ runs_text r.look rs)) (r ∷ rs)
    go true e later = let k = shows ∙ same_look-true l r.look e in rest s k (later s k)
    go false e later =
        let k = look-sequence s r.look h.1 in
        Reads-sequence s r.look (r.text ++ runs_text r.look rs) (r ∷ rs) h.1 (rest _ k (later _ k))

-- ---- a row is one line

one_line-change : (l m : Look) → is_known m ≡ true → is_one_line (change l m) ≡ true
one_line-change l m h = elim (same_look l m) as (λ v. is_one_line (cond v [] (sequence_text m)) ≡ true) [ true ↦ refl | false ↦ one_line-sequence m (bytes_from_known m h) ]

one_line-runs : (l : Look) (rs : List Run) → AreRuns rs → is_one_line (runs_text l rs) ≡ true
one_line-runs l [] h = one_line-change l plain_look plain_known
one_line-runs l (r ∷ rs) h =
    one_line-append (change l r.look) (r.text ++ runs_text r.look rs) (one_line-change l r.look h.1)
    (one_line-append r.text (runs_text r.look rs) h.0.one_line (one_line-runs r.look rs h.3))

-- ---- the cells that are kept

any-kept : (test : CellView → Bool) (cs : List CellView) → list_any test cs ≡ false → list_any test (kept cs) ≡ false
unfolding kept
any-kept test [] h = refl
any-kept test (c ∷ cs) h = go (kept cs) (any-kept test cs parts.1)
  where
    parts : (test c ≡ false) × (list_any test cs ≡ false)
    parts = or_false (test c) (list_any test cs) h

    go : (xs : List CellView) → list_any test xs ≡ false → list_any test (before_kept c xs) ≡ false
    go [] k = elim (is_blank c) as (λ v. list_any test (cond v [] (c ∷ [])) ≡ false) [ true ↦ refl | false ↦ ap (λ v. v || false) parts.0 ]
    go (d ∷ ds) k = ap₂ (λ v w. v || w) parts.0 k

pub all-kept : (test : CellView → Bool) (cs : List CellView) → list_all test cs ≡ true → list_all test (kept cs) ≡ true
unfolding kept
all-kept test [] h = refl
all-kept test (c ∷ cs) h = go (kept cs) (all-kept test cs parts.1)
  where
    parts : (test c ≡ true) × (list_all test cs ≡ true)
    parts = and_parts (test c) (list_all test cs) h

    go : (xs : List CellView) → list_all test xs ≡ true → list_all test (before_kept c xs) ≡ true
    go [] k = elim (is_blank c) as (λ v. list_all test (cond v [] (c ∷ [])) ≡ true) [ true ↦ refl | false ↦ ap (λ v. v && true) parts.0 ]
    go (d ∷ ds) k = ap₂ (λ v w. v && w) parts.0 k

-- ---- a row

runs_of_row : (row : List CellView) → is_bad_row row ≡ false → is_known_row row ≡ true → AreRuns (runs (printed_cells row))
runs_of_row row bad known = AreRuns-runs (printed_cells row) (any-kept is_bad (visited row) bad) (all-kept is_known_cell (visited row) known)

pub Reads-row : (s : Style) (row : List CellView) → Shows s plain_look → is_bad_row row ≡ false → is_known_row row ≡ true → Reads s (row_text row) (runs (printed_cells row))
Reads-row s row shows bad known =
    Reads-at s (runs_text plain_look (runs (printed_cells row))) (row_text row) (runs (printed_cells row)) (cells-runs plain_look (printed_cells row))
    (Reads-runs s plain_look (runs (printed_cells row)) shows (runs_of_row row bad known))

pub one_line-row : (row : List CellView) → is_bad_row row ≡ false → is_known_row row ≡ true → is_one_line (row_text row) ≡ true
one_line-row row bad known =
    ap is_one_line (cells-runs plain_look (printed_cells row)) ∙ one_line-runs plain_look (runs (printed_cells row)) (runs_of_row row bad known)

-- ---- a buffer

some-rows : (row : List CellView) (rows : List (List CellView)) → 0 < length (rows_text (row ∷ rows))
unfolding rows_text
some-rows row rows = go (row_text row)
  where
    go : (t : List ℕ) → 0 < length ((t ++ (10 ∷ [])) ++ rows_text rows)
    go [] = omega arith
    go (b ∷ t) = omega arith

pub read-rows : (s : Style) (row : List CellView) (rows : List (List CellView)) → Shows s plain_look → has_bad (row ∷ rows) ≡ false → list_all is_known_row (row ∷ rows) ≡ true
    → map runs_read (ansi_from s (rows_text (row ∷ rows))) ≡ map (λ r. runs (printed_cells r)) (row ∷ rows)
unfolding rows_text
read-rows s row [] shows bad known =
    let no_bad = or_false (is_bad_row row) false bad in
    let is_known = and_parts (is_known_row row) true known in
    let h = Reads-row s row shows no_bad.0 is_known.0 in
    ap (λ (t : List ℕ). map runs_read (ansi_from s t)) (sym (append-nothing (row_text row ++ (10 ∷ []))))
    ∙ ap (map runs_read) (closing_lf s (row_text row) (one_line-row row no_bad.0 is_known.0))
    ∙ ap (λ (rs : List Run). rs ∷ []) h.runs
read-rows s row (next ∷ rows) shows bad known =
    let no_bad = or_false (is_bad_row row) (has_bad (next ∷ rows)) bad in
    let is_known = and_parts (is_known_row row) (list_all is_known_row (next ∷ rows)) known in
    let h = Reads-row s row shows no_bad.0 is_known.0 in
    ap (λ (t : List ℕ). map runs_read (ansi_from s t)) (append_assoc (row_text row) (10 ∷ []) (rows_text (next ∷ rows)))
    ∙ ap (map runs_read) (first-line_lf s (row_text row) (rows_text (next ∷ rows)) (one_line-row row no_bad.0 is_known.0) (some-rows next rows))
    ∙ ap₂ (λ (rs : List Run) (ls : List (List Run)). rs ∷ ls) h.runs (read-rows (style_after_line s (row_text row)) next rows h.after no_bad.1 is_known.1)

pub read-buffer : (rows : List (List CellView)) → 0 < length rows → has_bad rows ≡ false → list_all is_known_row rows ≡ true
    → map runs_read (ansi (rows_text rows)) ≡ map (λ r. runs (printed_cells r)) rows
read-buffer [] some bad known = absurd (omega (arith, some))
read-buffer (row ∷ rows) some bad known = read-rows no_style row rows refl bad known

-- ---- colours by their types, and modifiers among the nine

known-cells : (cs : List CellView) → list_all is_byte_cell cs ≡ true → list_all is_nine_cell cs ≡ true → list_all is_known_cell cs ≡ true
known-cells [] h k = refl
known-cells (c ∷ cs) h k =
    let p = and_parts _ _ h in
    let q = and_parts _ _ k in
    let colors = and_parts _ _ p.0 in
    ap₂ (λ a b. a && b) (ap₂ (λ a b. a && b) colors.0 (ap₂ (λ a b. a && b) colors.1 q.0)) (known-cells cs p.1 q.1)

pub known-rows : (rows : List (List CellView)) → list_all is_byte_row rows ≡ true → list_all is_nine_row rows ≡ true → list_all is_known_row rows ≡ true
known-rows [] h k = refl
known-rows (row ∷ rows) h k =
    let p = and_parts _ _ h in
    let q = and_parts _ _ k in
    ap₂ (λ a b. a && b) (known-cells (visited row) p.0 q.0) (known-rows rows p.1 q.1)
