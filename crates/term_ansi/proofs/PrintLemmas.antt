-- Steps of a print.
use Rattle.std.proofs.Common.{◌≡◌, ℕ, zero, suc, ◌+◌, ◌-◌, ◌<◌, ◌≤◌, Bool, true, false, cond, ◌||◌, ◌&&◌, List, [], ◌∷◌, ◌++◌, length, refl, ap, ap₂, sym, ◌∙◌, arith, append_assoc, append-nil}
use Rattle.std.proofs.lemmas.Bool.{false≢true, and_parts}
use Rattle.std.proofs.lemmas.Str.{is_utf8-from_IsUtf8}
use Rattle.std.specs.Prelude.{replicate}
use Rattle.std.specs.List.{list_any, list_all}
use Rattle.std.specs.Str.{IsUtf8}
use Rattle.term_text.specs.Graph.{width_of}
use Rattle.term_core.specs.Visited.{visited_after, visited}
use Rattle.term_core.specs.Cells.{CellView, blank_cell}
use Rattle.term_ansi.specs.declared.look.Look.{Look}
use Rattle.term_ansi.specs.Looks.{look_of, plain_look, is_blank}
use Rattle.term_ansi.specs.Printed.{before_kept, kept, change, cells_text, row_text, rows_text, is_bad, is_bad_row, has_bad}
use Rattle.term_ansi.specs.Texts.{is_text_cell, is_text_row, is_bad_text, is_bad_text_row, has_bad_text}
use Rattle.term_ansi.specs.Runs.{is_byte_cell, is_byte_row}
use Rattle.term_ansi.proofs.LookLemmas.{is_blank-true}

-- ---- the blank cells at the end

kept-other : (c : CellView) (cs : List CellView) → is_blank c ≡ false → kept (c ∷ cs) ≡ c ∷ kept cs
unfolding kept
kept-other c cs e = go (kept cs)
  where
    go : (xs : List CellView) → before_kept c xs ≡ c ∷ xs
    go [] = ap (λ v. cond v [] (c ∷ [])) e
    go (d ∷ ds) = refl

-- blank cells before a cell that is none stay
kept-blanks : (n : ℕ) (c : CellView) (cs : List CellView) → is_blank c ≡ false → kept (replicate n blank_cell ++ (c ∷ cs)) ≡ replicate n blank_cell ++ (c ∷ kept cs)
unfolding kept
kept-blanks zero c cs e = kept-other c cs e
kept-blanks (suc n) c cs e = ap (before_kept blank_cell) (kept-blanks n c cs e) ∙ go n
  where
    go : (n : ℕ) → before_kept blank_cell (replicate n blank_cell ++ (c ∷ kept cs)) ≡ blank_cell ∷ (replicate n blank_cell ++ (c ∷ kept cs))
    go zero = refl
    go (suc n) = refl

kept-end : (n : ℕ) → kept (replicate n blank_cell ++ []) ≡ []
unfolding kept
kept-end zero = refl
kept-end (suc n) = ap (before_kept blank_cell) (kept-end n)

replicate-more : (n : ℕ) (cs : List CellView) → replicate n blank_cell ++ (blank_cell ∷ cs) ≡ replicate (n + 1) blank_cell ++ cs
replicate-more n cs = go n ∙ ap (λ (k : ℕ). replicate k blank_cell ++ cs) (one_more n)
  where
    one_more : (n : ℕ) → suc n ≡ n + 1
    one_more n = omega arith

    go : (n : ℕ) → replicate n blank_cell ++ (blank_cell ∷ cs) ≡ replicate (suc n) blank_cell ++ cs
    go zero = refl
    go (suc n) = ap (λ (xs : List CellView). blank_cell ∷ xs) (go n)

-- ---- the steps of a row: what is written, and what is still to come

abbrev pub row_left : List ℕ → Look → ℕ → List CellView → List ℕ
row_left out last blanks cs = out ++ cells_text last (kept (replicate blanks blank_cell ++ cs))

pub row-blank : (out : List ℕ) (last : Look) (n : ℕ) (c : CellView) (cs left : List CellView) → left ≡ c ∷ cs → is_blank c ≡ true
    → row_left out last (n + 1) cs ≡ row_left out last n left
row-blank out last n c cs left e h =
    sym (ap (λ (xs : List CellView). row_left out last n xs) (e ∙ ap (λ (d : CellView). d ∷ cs) (is_blank-true c h))
    ∙ ap (λ (xs : List CellView). out ++ cells_text last (kept xs)) (replicate-more n cs))

pub row-other : (out mid now : List ℕ) (last between : Look) (n : ℕ) (c : CellView) (cs left : List CellView) → left ≡ c ∷ cs → is_blank c ≡ false
    → ((xs : List CellView) → mid ++ cells_text between xs ≡ out ++ cells_text last (replicate n blank_cell ++ xs))
    → now ≡ mid ++ (change between (look_of c) ++ c.symbol)
    → row_left now (look_of c) 0 cs ≡ row_left out last n left
unfolding cells_text
row-other out mid now last between n c cs left e h blanks written =
    ap (λ (t : List ℕ). t ++ cells_text (look_of c) (kept cs)) written
    ∙ append_assoc mid (change between (look_of c) ++ c.symbol) (cells_text (look_of c) (kept cs))
    ∙ ap (λ (t : List ℕ). mid ++ t) (append_assoc (change between (look_of c)) c.symbol (cells_text (look_of c) (kept cs)))
    ∙ blanks (c ∷ kept cs)
    ∙ ap (λ (xs : List CellView). out ++ cells_text last xs) (sym (kept-blanks n c cs h))
    ∙ ap (λ (xs : List CellView). row_left out last n xs) (sym e)

pub row-end : (out now : List ℕ) (last : Look) (n : ℕ) (left : List CellView) → left ≡ [] → now ≡ out ++ change last plain_look → now ≡ row_left out last n left
unfolding cells_text
row-end out now last n left e written =
    written ∙ sym (ap (λ (xs : List CellView). row_left out last n xs) e ∙ ap (λ (xs : List CellView). out ++ cells_text last xs) (kept-end n))

-- one blank cell more behind one of a look
pub one_blank : (out now : List ℕ) (last : Look) (n m : ℕ) (cs : List CellView) → now ≡ out ++ (change last plain_look ++ (32 ∷ [])) → 0 < n → m ≡ n - 1
    → now ++ cells_text plain_look (replicate m blank_cell ++ cs) ≡ out ++ cells_text last (replicate n blank_cell ++ cs)
unfolding cells_text
one_blank out now last n m cs written some less =
    let rest = cells_text plain_look (replicate m blank_cell ++ cs) in
    let one : n ≡ suc m = omega (arith, some, less) in
    ap (λ (t : List ℕ). t ++ rest) written
    ∙ append_assoc out (change last plain_look ++ (32 ∷ [])) rest
    ∙ ap (λ (t : List ℕ). out ++ t) (append_assoc (change last plain_look) (32 ∷ []) rest)
    ∙ ap (λ (k : ℕ). out ++ cells_text last (replicate k blank_cell ++ cs)) (sym one)

-- ---- the steps of a buffer

pub rows_text-cons : (row : List CellView) (rows : List (List CellView)) → rows_text (row ∷ rows) ≡ (row_text row ++ 10 ∷ []) ++ rows_text rows
unfolding rows_text
rows_text-cons row rows = refl

pub rows_text-none : rows_text [] ≡ []
unfolding rows_text
rows_text-none = refl

pub then_row : (out mid now : List ℕ) (row : List CellView) (rows left : List (List CellView)) → left ≡ row ∷ rows → mid ≡ out ++ row_text row → now ≡ mid ++ (10 ∷ [])
    → now ++ rows_text rows ≡ out ++ rows_text left
then_row out mid now row rows left e first second =
    ap (λ (t : List ℕ). t ++ rows_text rows) (second ∙ ap (λ (t : List ℕ). t ++ (10 ∷ [])) first ∙ append_assoc out (row_text row) (10 ∷ []))
    ∙ append_assoc out (row_text row ++ (10 ∷ [])) (rows_text rows)
    ∙ ap (λ (t : List ℕ). out ++ t) (sym (rows_text-cons row rows))
    ∙ ap (λ (ls : List (List CellView)). out ++ rows_text ls) (sym e)

-- ---- symbols that cannot be printed

pub any-step : {A : Type 0} (test : A → Bool) (x : A) (xs left : List A) → left ≡ x ∷ xs → test x ≡ false → list_any test left ≡ list_any test xs
any-step test x xs left e h = ap (list_any test) e ∙ ap (λ v. v || list_any test xs) h

pub any-found : {A : Type 0} (test : A → Bool) (x : A) (xs left : List A) → left ≡ x ∷ xs → test x ≡ true → list_any test left ≡ true
any-found test x xs left e h = ap (list_any test) e ∙ ap (λ v. v || list_any test xs) h

pub all-step : {A : Type 0} (test : A → Bool) (x : A) (xs left : List A) → left ≡ x ∷ xs → test x ≡ true → list_all test left ≡ list_all test xs
all-step test x xs left e h = ap (list_all test) e ∙ ap (λ v. v && list_all test xs) h

-- ---- symbols that are UTF-8 and cannot be printed

any-weaker : {A : Type 0} (p q : A → Bool) → ((x : A) → p x ≡ true → q x ≡ true) → (xs : List A) → list_any p xs ≡ true → list_any q xs ≡ true
any-weaker p q k [] h = h
any-weaker p q k (x ∷ xs) h = go (p x) refl h (λ i. any-weaker p q k xs i)
  where
    or_right : (a b : Bool) → b ≡ true → (a || b) ≡ true
    or_right true b e = refl
    or_right false b e = e

    go : (v : Bool) → p x ≡ v → (v || list_any p xs) ≡ true → (list_any p xs ≡ true → list_any q xs ≡ true) → (q x || list_any q xs) ≡ true
    go true e i later = ap (λ v. v || list_any q xs) (k x e)
    go false e i later = or_right (q x) (list_any q xs) (later i)

bad-cell : (c : CellView) → is_bad_text c ≡ true → is_bad c ≡ true
bad-cell c h = (and_parts (is_text_cell c) (is_bad c) h).1

bad-row : (row : List CellView) → is_bad_text_row row ≡ true → is_bad_row row ≡ true
bad-row row h = any-weaker is_bad_text is_bad bad-cell (visited row) h

pub bad-rows : (rows : List (List CellView)) → has_bad_text rows ≡ true → has_bad rows ≡ true
bad-rows rows h = any-weaker is_bad_text_row is_bad_row bad-row rows h

pub good-row : (row : List CellView) → is_bad_row row ≡ false → is_bad_text_row row ≡ false
good-row row h = go (is_bad_text_row row) refl
  where
    go : (v : Bool) → is_bad_text_row row ≡ v → is_bad_text_row row ≡ false
    go true e = absurd (false≢true (sym h ∙ bad-row row e))
    go false e = e

pub good-cell : (c : CellView) → is_bad c ≡ false → is_bad_text c ≡ false
good-cell c h = and_false (is_text_cell c) (is_bad c) h
  where
    and_false : (a b : Bool) → b ≡ false → (a && b) ≡ false
    and_false true b e = e
    and_false false b e = refl

pub bad-here : (c : CellView) → IsUtf8 c.symbol → is_bad c ≡ true → is_bad_text c ≡ true
bad-here c u h = ap₂ (λ a b. a && b) (is_utf8-from_IsUtf8 c.symbol u) h

-- ---- no more cells are visited than a row has

pub length-visited : (n : ℕ) (cs : List CellView) → length (visited_after n cs) ≤ length cs
unfolding visited_after
length-visited zero [] = omega arith
length-visited (suc n) [] = omega arith
length-visited zero (c ∷ cs) = omega (arith, length-visited (width_of c.symbol - 1) cs)
length-visited (suc n) (c ∷ cs) = omega (arith, length-visited n cs)

-- a sequence and then a symbol
pub then_symbol : (out mid now : List ℕ) (last look : Look) (symbol : List ℕ) → mid ≡ out ++ change last look → now ≡ mid ++ symbol → now ≡ out ++ (change last look ++ symbol)
then_symbol out mid now last look symbol e f = f ∙ ap (λ (t : List ℕ). t ++ symbol) e ∙ append_assoc out (change last look) symbol

-- ---- what the cells that are still to come say of a row

pub record RowTests (row left : List CellView) : Type 0 where
  pub bad : list_any is_bad left ≡ is_bad_row row
  pub bytes : list_all is_byte_cell left ≡ is_byte_row row
  pub texts : list_all is_text_cell left ≡ is_text_row row
  pub bad_texts : list_any is_bad_text left ≡ is_bad_text_row row

pub RowTests-all : (row left : List CellView) → left ≡ visited row → RowTests row left
RowTests-all row left e =
    record { bad = ap (list_any is_bad) e; bytes = ap (list_all is_byte_cell) e; texts = ap (list_all is_text_cell) e; bad_texts = ap (list_any is_bad_text) e }

pub RowTests-step : (row : List CellView) (c : CellView) (cs left : List CellView) → left ≡ c ∷ cs → is_bad c ≡ false → is_byte_cell c ≡ true → IsUtf8 c.symbol
    → RowTests row left → RowTests row cs
RowTests-step row c cs left e good byte utf8 h =
    record {
      bad = sym (any-step is_bad c cs left e good) ∙ h.bad;
      bytes = sym (all-step is_byte_cell c cs left e byte) ∙ h.bytes;
      texts = sym (all-step is_text_cell c cs left e (is_utf8-from_IsUtf8 c.symbol utf8)) ∙ h.texts;
      bad_texts = sym (any-step is_bad_text c cs left e (good-cell c good)) ∙ h.bad_texts;
    }

pub RowTests-bad : (row : List CellView) (c : CellView) (cs left : List CellView) → left ≡ c ∷ cs → is_bad c ≡ true → IsUtf8 c.symbol → RowTests row left
    → is_bad_text_row row ≡ true
RowTests-bad row c cs left e bad utf8 h = sym h.bad_texts ∙ any-found is_bad_text c cs left e (bad-here c utf8 bad)

-- no row is still to come
pub rows_text-done : (out all : List ℕ) (left : List (List CellView)) → left ≡ [] → out ++ rows_text left ≡ all → out ≡ all
rows_text-done out all left none e = sym (append-nil out) ∙ sym (ap (λ (t : List ℕ). out ++ t) (ap rows_text none ∙ rows_text-none)) ∙ e
