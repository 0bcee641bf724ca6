-- Where a row stands in lines.
use Rattle.std.proofs.Common.{◌≡◌, ℕ, zero, suc, ◌+◌, ◌-◌, ◌<◌, ◌≤◌, Bool, true, false, nat_lt, cond, List, [], ◌∷◌, ◌++◌, length, take, drop, get_or, refl, sym, ap, subst, ◌∙◌, arith, length-append}
use Rattle.std.specs.List.{sum}
use Rattle.std.specs.Prelude.{min}
use Rattle.std.proofs.lemmas.Bool.Decides.{nat_tests}
use Rattle.std.proofs.lemmas.List.{length-map, map-append, take_more, drop_all}
use Rattle.std.proofs.lemmas.List.Sums.{sum_by-cons}
use Rattle.std.proofs.Math.Seq.{drop-append-add}
use Rattle.term_core.specs.Graph.{Grapheme, graphs}
use Rattle.term_core.specs.Text.{LineView}
use Rattle.term_core.specs.Wrap.{wrap}
use Rattle.term_widgets.specs.Cuts.{IsHalving}
use Rattle.term_widgets.specs.Page.{rows_of, row_counts}
use Rattle.term_widgets.specs.RowPlace.{line_of, rows_above}
use Rattle.term_widgets.proofs.LineLemmas.{rows_of-cons, rows_of-none}

pub sum-cons : (n : ℕ) (ns : List ℕ) → sum (n ∷ ns) ≡ n + sum ns
sum-cons n ns = sum_by-cons (λ (x : ℕ). x) n ns

test_of_lt : (m n : ℕ) → m < n → nat_lt m n ≡ true
test_of_lt m n e = grind (arith, nat_tests)

test_of_le : (m n : ℕ) → n ≤ m → nat_lt m n ≡ false
test_of_le m n e = grind (arith, nat_tests)

lt_of_test : (m n : ℕ) → nat_lt m n ≡ true → m < n
lt_of_test m n e = grind (arith, nat_tests)

le_of_test : (m n : ℕ) → nat_lt m n ≡ false → n ≤ m
le_of_test m n e = grind (arith, nat_tests)

-- ---- one line more in front

line_of-here : (n : ℕ) (counts : List ℕ) (r : ℕ) → r < n → line_of (n ∷ counts) r ≡ 0
unfolding line_of
line_of-here n counts r lt = ap (λ b. cond b 0 (suc (line_of counts (r - n)))) (test_of_lt r n lt)

line_of-later : (n : ℕ) (counts : List ℕ) (r : ℕ) → n ≤ r → line_of (n ∷ counts) r ≡ suc (line_of counts (r - n))
unfolding line_of
line_of-later n counts r le = ap (λ b. cond b 0 (suc (line_of counts (r - n)))) (test_of_le r n le)

rows_above-here : (n : ℕ) (counts : List ℕ) (r : ℕ) → r < n → rows_above (n ∷ counts) r ≡ r
unfolding rows_above
rows_above-here n counts r lt = ap (λ b. cond b r (rows_above counts (r - n))) (test_of_lt r n lt)

rows_above-later : (n : ℕ) (counts : List ℕ) (r : ℕ) → n ≤ r → rows_above (n ∷ counts) r ≡ rows_above counts (r - n)
unfolding rows_above
rows_above-later n counts r le = ap (λ b. cond b r (rows_above counts (r - n))) (test_of_le r n le)

-- ---- a row between the first of a line and the first of the next

pub line_of-at : (counts : List ℕ) (k r : ℕ) → sum (take k counts) ≤ r → r < sum (take (suc k) counts) → line_of counts r ≡ k
line_of-at [] zero r from to = absurd (omega arith)
line_of-at [] (suc k) r from to = absurd (omega arith)
line_of-at (n ∷ counts) zero r from to = line_of-here n counts r (omega (arith, sum-cons n []))
line_of-at (n ∷ counts) (suc k) r from to =
    let before = sum-cons n (take k counts) in
    let upto = sum-cons n (take (suc k) counts) in
    line_of-later n counts r (omega arith) ∙ ap suc (line_of-at counts k (r - n) (omega arith) (omega arith))

pub rows_above-at : (counts : List ℕ) (k r : ℕ) → sum (take k counts) ≤ r → r < sum (take (suc k) counts)
    → rows_above counts r ≡ r - sum (take k counts)
rows_above-at [] zero r from to = absurd (omega arith)
rows_above-at [] (suc k) r from to = absurd (omega arith)
rows_above-at (n ∷ counts) zero r from to = rows_above-here n counts r (omega (arith, sum-cons n [])) ∙ omega arith
rows_above-at (n ∷ counts) (suc k) r from to =
    let before = sum-cons n (take k counts) in
    let upto = sum-cons n (take (suc k) counts) in
    let rest = rows_above-at counts k (r - n) (omega arith) (omega arith) in
    rows_above-later n counts r (omega arith) ∙ rest ∙ omega arith

-- ---- past the last row

pub line_of-past : (counts : List ℕ) (r : ℕ) → sum counts ≤ r → line_of counts r ≡ length counts
unfolding line_of
line_of-past [] r le = refl
line_of-past (n ∷ counts) r le =
    let all = sum-cons n counts in
    line_of-later n counts r (omega arith) ∙ ap suc (line_of-past counts (r - n) (omega arith))

pub rows_above-past : (counts : List ℕ) (r : ℕ) → sum counts ≤ r → rows_above counts r ≡ 0
unfolding rows_above
rows_above-past [] r le = refl
rows_above-past (n ∷ counts) r le =
    let all = sum-cons n counts in
    rows_above-later n counts r (omega arith) ∙ rows_above-past counts (r - n) (omega arith)

-- ---- the counts of the lines of a page

pub sum-row_counts : (w : ℕ) (lines : List LineView) → sum (row_counts w lines) ≡ length (rows_of w lines)
sum-row_counts w [] = sym (ap length (rows_of-none w))
sum-row_counts w (line ∷ lines) =
    let rest = sum-row_counts w lines in
    omega (
      arith,
      sum-cons (length (wrap w (graphs line))) (row_counts w lines),
      ap length (rows_of-cons w line lines),
      length-append (wrap w (graphs line)) (rows_of w lines),
    )

pub length-row_counts : (w : ℕ) (lines : List LineView) → length (row_counts w lines) ≡ length lines
length-row_counts w lines = length-map lines (λ line. length (wrap w (graphs line)))

no_more : {A : Type 0} (k : ℕ) (xs : List A) → xs ≡ [] → drop k xs ≡ []
no_more k xs e = drop_all k xs (omega (arith, ap length e))

-- the counts of the lines that were walked, and of one more
pub row_counts-more : (w : ℕ) (lines : List LineView) (k : ℕ) (line : LineView) → k < length lines → line ≡ get_or lines k line
    → row_counts w (take (k + 1) lines) ≡ row_counts w (take k lines) ++ length (wrap w (graphs line)) ∷ []
row_counts-more w lines k line lt is =
    ap (row_counts w) (take_more lines k line lt ∙ ap (λ x. take k lines ++ x ∷ []) (sym is))
    ∙ map-append (λ l. length (wrap w (graphs l))) (take k lines) (line ∷ [])

-- the rows from the row r on are those of its line and the later ones, without those above it
pub rows_from-place : (w : ℕ) (lines : List LineView) (r : ℕ)
    → drop (rows_above (row_counts w lines) r) (rows_of w (drop (line_of (row_counts w lines) r) lines)) ≡ drop r (rows_of w lines)
rows_from-place w [] r =
    let none : rows_of w (drop (line_of (row_counts w []) r) []) ≡ [] =
    ap (rows_of w) (drop_all (line_of (row_counts w []) r) [] (omega arith)) ∙ rows_of-none w in
    no_more (rows_above (row_counts w []) r) (rows_of w (drop (line_of (row_counts w []) r) [])) none
    ∙ sym (no_more r (rows_of w []) (rows_of-none w))
rows_from-place w (line ∷ lines) r = go (nat_lt r n) refl (rows_from-place w lines (r - n))
  where
    n : ℕ
    n = length (wrap w (graphs line))

    counts : List ℕ
    counts = row_counts w lines

    go : (b : Bool) → nat_lt r n ≡ b
        → drop (rows_above counts (r - n)) (rows_of w (drop (line_of counts (r - n)) lines)) ≡ drop (r - n) (rows_of w lines)
        → drop (rows_above (n ∷ counts) r) (rows_of w (drop (line_of (n ∷ counts) r) (line ∷ lines))) ≡ drop r (rows_of w (line ∷ lines))
    go true e rest =
        ap (λ k. drop (rows_above (n ∷ counts) r) (rows_of w (drop k (line ∷ lines)))) (line_of-here n counts r (lt_of_test r n e))
        ∙ ap (λ k. drop k (rows_of w (line ∷ lines))) (rows_above-here n counts r (lt_of_test r n e))
    go false e rest =
        let le = le_of_test r n e in
        let whole : n + (r - n) ≡ r = omega arith in
        ap (λ k. drop (rows_above (n ∷ counts) r) (rows_of w (drop k (line ∷ lines)))) (line_of-later n counts r le)
        ∙ ap (λ k. drop k (rows_of w (drop (line_of counts (r - n)) lines))) (rows_above-later n counts r le)
        ∙ rest ∙ sym (drop-append-add (wrap w (graphs line)) (rows_of w lines) (r - n))
        ∙ ap (λ k. drop k (wrap w (graphs line) ++ rows_of w lines)) whole
        ∙ sym (ap (drop r) (rows_of-cons w line lines))

-- the line of a row has those above it
pub rows_above-within : (w : ℕ) (lines : List LineView) (r : ℕ)
    → rows_above (row_counts w lines) r ≤ length (rows_of w (drop (line_of (row_counts w lines) r) lines))
unfolding rows_above
rows_above-within w [] r = omega arith
rows_above-within w (line ∷ lines) r = go (nat_lt r n) refl (rows_above-within w lines (r - n))
  where
    n : ℕ
    n = length (wrap w (graphs line))

    counts : List ℕ
    counts = row_counts w lines

    go : (b : Bool) → nat_lt r n ≡ b → rows_above counts (r - n) ≤ length (rows_of w (drop (line_of counts (r - n)) lines))
        → rows_above (n ∷ counts) r ≤ length (rows_of w (drop (line_of (n ∷ counts) r) (line ∷ lines)))
    go true e rest =
        let lt = lt_of_test r n e in
        let above = rows_above-here n counts r lt in
        let here = ap (λ k. length (rows_of w (drop k (line ∷ lines)))) (line_of-here n counts r lt) in
        omega (arith, above, here, ap length (rows_of-cons w line lines), length-append (wrap w (graphs line)) (rows_of w lines))
    go false e rest =
        let le = le_of_test r n e in
        let above = rows_above-later n counts r le in
        let later = ap (λ k. length (rows_of w (drop k (line ∷ lines)))) (line_of-later n counts r le) in
        omega (arith, above, later, rest)

-- ---- what finding a line says, in words of the lines

-- the rows that are passed to come to the row r
pub notes_above : {S : Type 0} (noted : ℕ → S → S → Type 0) (old new : S) (w : ℕ) (lines : List LineView) (r a n : ℕ) (left : List (List Grapheme))
    → a ≡ rows_above (row_counts w lines) r → left ≡ rows_of w (drop (line_of (row_counts w lines) r) lines)
    → noted (min a (length left)) old new → noted (rows_above (row_counts w lines) r + min 0 n) old new
notes_above noted old new w lines r a n left above is notes =
    let same : min a (length left) ≡ rows_above (row_counts w lines) r + min 0 n =
    omega (arith, above, ap length is, rows_above-within w lines r) in
    subst (λ k. noted k old new) same notes

-- the probes of a row that is there
pub probes_of : {S : Type 0} (noted : ℕ → S → S → Type 0) (old new : S) (w : ℕ) (lines : List LineView) (counts : List ℕ) (r : ℕ)
    → counts ≡ row_counts w lines → (r < sum counts → IsHalving noted (length counts) old new)
    → r < length (rows_of w lines) → IsHalving noted (length lines) old new
probes_of noted old new w lines counts r is found lt =
    subst (λ n. IsHalving noted n old new) (ap length is ∙ length-row_counts w lines)
    (found (omega (arith, ap sum is, sum-row_counts w lines)))

-- and of one that is not
pub unprobed_of : {X : Type 0} (w : ℕ) (lines : List LineView) (counts : List ℕ) (r : ℕ) → counts ≡ row_counts w lines
    → (sum counts ≤ r → X) → length (rows_of w lines) ≤ r → X
unprobed_of w lines counts r is found le = found (omega (arith, ap sum is, sum-row_counts w lines))
