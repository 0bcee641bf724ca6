-- The bytes of printed text: its control bytes, and that it is UTF-8.
use Rattle.std.proofs.Common.{◌≡◌, ◌<◌, ◌==◌, ◌||◌, ◌&&◌, not, ℕ, Bool, true, false, cond, nat_le, List, [], ◌∷◌, ◌++◌, refl, ap, ap₂, sym, subst, ◌∙◌, arith, append_assoc}
use Rattle.std.proofs.lemmas.Bool.{false≢true, and_parts}
use Rattle.std.proofs.lemmas.Bool.Decides.{nat_tests}
use Rattle.std.proofs.lemmas.List.Folds.{list_all-append}
use Rattle.std.proofs.lemmas.Str.{IsUtf8-append, IsUtf8-nil, IsUtf8-from_ascii, IsUtf8-from_is_utf8}
use Rattle.std.proofs.lemmas.Str.Ascii.{IsAscii-cons, IsAscii-nil}
use Rattle.std.specs.List.{list_all}
use Rattle.std.specs.Str.{IsUtf8, IsAscii}
use Rattle.term_core.specs.Cells.{CellView}
use Rattle.term_core.specs.Visited.{visited}
use Rattle.term_ansi.specs.declared.look.Look.{Look}
use Rattle.term_ansi.specs.Looks.{look_of, plain_look, same_look}
use Rattle.term_ansi.specs.Sgr.{sequence_text}
use Rattle.term_ansi.specs.Printed.{printed_cells, change, cells_text, row_text, rows_text}
use Rattle.term_ansi.specs.Runs.{is_byte_look, is_byte_cell, is_byte_row}
use Rattle.term_ansi.specs.Texts.{is_text_cell, is_text_row}
use Rattle.term_ansi.specs.Clean.{is_clean_cell, is_clean_row, is_printed_byte, BeginsSequence, OwnEscapes, HasOwnControls}
use Rattle.term_ansi.proofs.SgrLemmas.{is_code_byte, code_text, codes-sequence, sequence_text-codes, all-weaker}
use Rattle.term_ansi.proofs.ReadLemmas.{all-kept}

plain_bytes : is_byte_look plain_look ≡ true
plain_bytes = refl

-- ---- each escape byte begins a sequence

abbrev no_escape : List ℕ → Bool
no_escape bs = list_all (λ b. not (b == 27)) bs

tail_of : List ℕ → List ℕ
tail_of [] = []
tail_of (b ∷ bs) = bs

head_of : List ℕ → ℕ
head_of [] = 0
head_of (b ∷ bs) = b

own-at : (t u : List ℕ) → t ≡ u → OwnEscapes u → OwnEscapes t
own-at t u e h = λ before after is. h before after (sym e ∙ is)

own-nothing : OwnEscapes []
own-nothing = λ before after is. absurd (none before after is)
  where
    none : (before after : List ℕ) → [] ≡ before ++ (27 ∷ after) → ⊥
    none [] after e = cc
    none (b ∷ before) after e = cc

-- bytes that are none in front
own-stretch : (xs t : List ℕ) → no_escape xs ≡ true → OwnEscapes t → OwnEscapes (xs ++ t)
unfolding tail_of head_of
own-stretch [] t h own = own
own-stretch (x ∷ xs) t h own = λ before after is. go before after is (own-stretch xs t parts.1 own)
  where
    parts : (not (x == 27) ≡ true) × (no_escape xs ≡ true)
    parts = and_parts _ _ h

    go : (before after : List ℕ) → x ∷ (xs ++ t) ≡ before ++ (27 ∷ after) → OwnEscapes (xs ++ t) → BeginsSequence (27 ∷ after)
    go [] after e later = absurd (false≢true (sym (ap (λ b. not (b == 27)) (ap head_of e)) ∙ parts.0))
    go (y ∷ before) after e later = later before after (ap tail_of e)

no_escape-codes : (l : Look) → is_byte_look l ≡ true → no_escape (code_text l) ≡ true
no_escape-codes l h = all-weaker is_code_byte (λ b. not (b == 27)) test (code_text l) (codes-sequence l h)
  where
    test : (b : ℕ) → is_code_byte b ≡ true → not (b == 27) ≡ true
    test b h = grind (arith, nat_tests)

own-sequence : (l : Look) (t : List ℕ) → is_byte_look l ≡ true → OwnEscapes t → OwnEscapes (sequence_text l ++ t)
unfolding tail_of
own-sequence l t h own = λ before after is. go before after (sym (ap (λ (s : List ℕ). s ++ t) (sequence_text-codes l)) ∙ is)
  where
    go : (before after : List ℕ) → 27 ∷ (code_text l ++ t) ≡ before ++ (27 ∷ after) → BeginsSequence (27 ∷ after)
    go [] after e = record { look = l; rest = t; is = sym e ∙ sym (ap (λ (s : List ℕ). s ++ t) (sequence_text-codes l)) }
    go (y ∷ before) after e = own-stretch (code_text l) t (no_escape-codes l h) own before after (ap tail_of e)

own-change : (l m : Look) (t : List ℕ) → is_byte_look m ≡ true → OwnEscapes t → OwnEscapes (change l m ++ t)
own-change l m t h own = go (same_look l m)
  where
    go : (v : Bool) → OwnEscapes (cond v [] (sequence_text m) ++ t)
    go true = own
    go false = own-sequence m t h own

no_escape-clean : (s : List ℕ) → list_all (λ b. nat_le 32 b) s ≡ true → no_escape s ≡ true
no_escape-clean s h = all-weaker (λ b. nat_le 32 b) (λ b. not (b == 27)) test s h
  where
    test : (b : ℕ) → nat_le 32 b ≡ true → not (b == 27) ≡ true
    test b h = grind (arith, nat_tests)

own-cells : (l : Look) (cs : List CellView) (t : List ℕ) → list_all is_byte_cell cs ≡ true → list_all is_clean_cell cs ≡ true → OwnEscapes t
    → OwnEscapes (cells_text l cs ++ t)
unfolding cells_text
own-cells l [] t h k own = own-change l plain_look t plain_bytes own
own-cells l (c ∷ cs) t h k own =
    let p = and_parts _ _ h in
    let q = and_parts _ _ k in
    let rest = cells_text (look_of c) cs in
    own-at ((change l (look_of c) ++ (c.symbol ++ rest)) ++ t) (change l (look_of c) ++ (c.symbol ++ (rest ++ t)))
    (append_assoc (change l (look_of c)) (c.symbol ++ rest) t ∙ ap (λ (s : List ℕ). change l (look_of c) ++ s) (append_assoc c.symbol rest t))
    (own-change l (look_of c) (c.symbol ++ (rest ++ t)) p.0
    (own-stretch c.symbol (rest ++ t) (no_escape-clean c.symbol q.0) (own-cells (look_of c) cs t p.1 q.1 own)))

own-rows : (rows : List (List CellView)) → list_all is_byte_row rows ≡ true → list_all is_clean_row rows ≡ true → OwnEscapes (rows_text rows)
unfolding rows_text
own-rows [] h k = own-nothing
own-rows (row ∷ rows) h k =
    let p = and_parts _ _ h in
    let q = and_parts _ _ k in
    own-at ((row_text row ++ 10 ∷ []) ++ rows_text rows) (row_text row ++ (10 ∷ rows_text rows)) (append_assoc (row_text row) (10 ∷ []) (rows_text rows))
    (own-cells plain_look (printed_cells row) (10 ∷ rows_text rows) (all-kept is_byte_cell (visited row) p.0) (all-kept is_clean_cell (visited row) q.0)
    (own-stretch (10 ∷ []) (rows_text rows) refl (own-rows rows p.1 q.1)))

-- ---- bytes that pass a test, as those of sequences and of symbols do

module _ (test : ℕ → Bool) (escape : test 27 ≡ true) (line : test 10 ≡ true) (codes : (b : ℕ) → is_code_byte b ≡ true → test b ≡ true) where
  passes-append : (xs ys : List ℕ) → list_all test xs ≡ true → list_all test ys ≡ true → list_all test (xs ++ ys) ≡ true
  passes-append xs ys h k = list_all-append test xs ys ∙ ap₂ (λ a b. a && b) h k

  passes-change : (l m : Look) → is_byte_look m ≡ true → list_all test (change l m) ≡ true
  passes-change l m h = go (same_look l m)
    where
      go : (v : Bool) → list_all test (cond v [] (sequence_text m)) ≡ true
      go true = refl
      go false = ap (list_all test) (sequence_text-codes m) ∙ ap₂ (λ a b. a && b) escape (all-weaker is_code_byte test codes (code_text m) (codes-sequence m h))

  passes-cells : (l : Look) (cs : List CellView) → list_all is_byte_cell cs ≡ true → list_all (λ (c : CellView). list_all test c.symbol) cs ≡ true → list_all test (cells_text l cs) ≡ true
  unfolding cells_text
  passes-cells l [] h k = passes-change l plain_look plain_bytes
  passes-cells l (c ∷ cs) h k =
      let p = and_parts _ _ h in
      let q = and_parts _ _ k in
      passes-append (change l (look_of c)) (c.symbol ++ cells_text (look_of c) cs) (passes-change l (look_of c) p.0)
      (passes-append c.symbol (cells_text (look_of c) cs) q.0 (passes-cells (look_of c) cs p.1 q.1))

  pub passes-rows : (rows : List (List CellView)) → list_all is_byte_row rows ≡ true → list_all (λ row. list_all (λ (c : CellView). list_all test c.symbol) (visited row)) rows ≡ true
      → list_all test (rows_text rows) ≡ true
  unfolding rows_text
  passes-rows [] h k = refl
  passes-rows (row ∷ rows) h k =
      let p = and_parts _ _ h in
      let q = and_parts _ _ k in
      passes-append (row_text row ++ 10 ∷ []) (rows_text rows)
      (passes-append (row_text row) (10 ∷ []) (passes-cells plain_look (printed_cells row) (all-kept is_byte_cell (visited row) p.0)
      (all-kept (λ (c : CellView). list_all test c.symbol) (visited row) q.0)) (ap (λ v. v && true) line))
      (passes-rows rows p.1 q.1)

printed-clean : (rows : List (List CellView)) → list_all is_clean_row rows ≡ true
    → list_all (λ row. list_all (λ (c : CellView). list_all is_printed_byte c.symbol) (visited row)) rows ≡ true
printed-clean rows h =
    all-weaker is_clean_row (λ row. list_all (λ (c : CellView). list_all is_printed_byte c.symbol) (visited row))
    (λ row k. all-weaker is_clean_cell (λ (c : CellView). list_all is_printed_byte c.symbol)
    (λ c q. all-weaker (λ b. nat_le 32 b) is_printed_byte test c.symbol q) (visited row) k) rows h
  where
    test : (b : ℕ) → nat_le 32 b ≡ true → is_printed_byte b ≡ true
    test b h = ap (λ v. v || (b == 27 || b == 10)) h

-- the text of rows without control bytes has none but its own
pub own-controls : (rows : List (List CellView)) → list_all is_byte_row rows ≡ true → list_all is_clean_row rows ≡ true → HasOwnControls (rows_text rows)
own-controls rows h k = record { bytes = passes-rows is_printed_byte refl refl code rows h (printed-clean rows k); escapes = own-rows rows h k }
  where
    code : (b : ℕ) → is_code_byte b ≡ true → is_printed_byte b ≡ true
    code b h = grind (arith, nat_tests)

-- ---- the text of rows whose symbols are UTF-8

ascii-codes : (bs : List ℕ) → list_all is_code_byte bs ≡ true → IsAscii bs
ascii-codes [] h = IsAscii-nil
ascii-codes (b ∷ bs) h = let parts = and_parts _ _ h in IsAscii-cons b bs (small b parts.0) (ascii-codes bs parts.1)
  where
    small : (b : ℕ) → is_code_byte b ≡ true → b < 128
    small b h = grind (arith, nat_tests)

utf8-change : (l m : Look) → is_byte_look m ≡ true → IsUtf8 (change l m)
utf8-change l m h = go (same_look l m)
  where
    go : (v : Bool) → IsUtf8 (cond v [] (sequence_text m))
    go true = IsUtf8-nil
    go false = subst IsUtf8 (sym (sequence_text-codes m)) (IsUtf8-from_ascii (27 ∷ code_text m) (IsAscii-cons 27 (code_text m) (omega arith) (ascii-codes (code_text m) (codes-sequence m h))))

utf8-cells : (l : Look) (cs : List CellView) → list_all is_byte_cell cs ≡ true → list_all is_text_cell cs ≡ true → IsUtf8 (cells_text l cs)
unfolding cells_text
utf8-cells l [] h k = utf8-change l plain_look plain_bytes
utf8-cells l (c ∷ cs) h k =
    let p = and_parts _ _ h in
    let q = and_parts _ _ k in
    IsUtf8-append (change l (look_of c)) (c.symbol ++ cells_text (look_of c) cs) (utf8-change l (look_of c) p.0)
    (IsUtf8-append c.symbol (cells_text (look_of c) cs) (IsUtf8-from_is_utf8 c.symbol q.0) (utf8-cells (look_of c) cs p.1 q.1))

pub utf8-rows : (rows : List (List CellView)) → list_all is_byte_row rows ≡ true → list_all is_text_row rows ≡ true → IsUtf8 (rows_text rows)
unfolding rows_text
utf8-rows [] h k = IsUtf8-nil
utf8-rows (row ∷ rows) h k =
    let p = and_parts _ _ h in
    let q = and_parts _ _ k in
    IsUtf8-append (row_text row ++ 10 ∷ []) (rows_text rows)
    (IsUtf8-append (row_text row) (10 ∷ []) (utf8-cells plain_look (printed_cells row) (all-kept is_byte_cell (visited row) p.0) (all-kept is_text_cell (visited row) q.0))
    (IsUtf8-from_ascii (10 ∷ []) (IsAscii-cons 10 [] (omega arith) IsAscii-nil)))
    (utf8-rows rows p.1 q.1)
