-- How many lines are not empty: containers never hold more of them than the lines that they take.
use Rattle.std.proofs.Common.{List, [], ◌∷◌, length, drop, take, map, ◌≡◌, ◌≤◌, ◌+◌, ◌*◌, ◌==◌, ℕ, zero, suc, refl, ap, arith, Bool, true, false, cond, ◌&&◌}
use Rattle.std.proofs.lemmas.Bool.{false≢true}
use Rattle.term_text.specs.LineEnds.{ended, ends_line, in_front, raw_lines}
use Rattle.md_lines.specs.Lines.{LineText, is_empty, is_nothing, line_of, lines_of}
use Rattle.md_rules.specs.Shallow.{is_shallow}
use Rattle.md_rules.specs.Texts.{begins_with}
use Rattle.md_rules.specs.Quotes.{less, quoted, quotes, unquoted, without_kind}
use Rattle.md_rules.specs.Hung.{hung}
use Rattle.md_rules.specs.Definitions.{description_column, description_lines}
use Rattle.md_rules.specs.Footnotes.{footnote_label, footnote_line, footnote_lines, label_in}
use Rattle.md_rules.specs.Items.{item_lines, task_of, without_task}
use Rattle.md_tree.specs.declared.event.BlockQuoteKind.{BlockQuoteKind}
use Rattle.std.specs.Prelude.{Option, Some, None}

abbrev pub filled : List LineText → ℕ
filled [] = 0
filled (line ∷ lines) = cond (is_empty line) (filled lines) (suc (filled lines))

pub filled-later : (line : LineText) (later : List LineText) → filled later ≤ filled (line ∷ later)
filled-later line later = elim (is_empty line) as (λ v. filled later ≤ cond v (filled later) (suc (filled later))) [ true ↦ omega arith | false ↦ omega arith ]

pub filled-first : (line : LineText) (later : List LineText) → is_empty line ≡ false → filled (line ∷ later) ≡ suc (filled later)
filled-first line later e = rw e refl

pub filled-most : (line : LineText) (later : List LineText) → filled (line ∷ later) ≤ suc (filled later)
filled-most line later = elim (is_empty line) as (λ v. cond v (filled later) (suc (filled later)) ≤ suc (filled later)) [ true ↦ omega arith | false ↦ omega arith ]

pub filled-take : (n : ℕ) (lines : List LineText) → filled (take n lines) ≤ filled lines
filled-take zero lines = omega arith
filled-take (suc n) [] = omega arith
filled-take (suc n) (line ∷ later) = go (is_empty line) (filled-take n later)
  where
    go : (v : Bool) → filled (take n later) ≤ filled later → cond v (filled (take n later)) (suc (filled (take n later))) ≤ cond v (filled later) (suc (filled later))
    go true le = le
    go false le = omega arith

pub filled-drop : (n : ℕ) (lines : List LineText) → filled (drop n lines) ≤ filled lines
filled-drop zero lines = omega arith
filled-drop (suc n) [] = omega arith
filled-drop (suc n) (line ∷ later) = omega (arith, filled-drop n later, filled-later line later)

filled-less : (column : ℕ) (lines : List LineText) → filled (map (less column) lines) ≡ filled lines
filled-less column [] = refl
filled-less column (line ∷ lines) = ap (λ n. cond (is_empty line) n (suc n)) (filled-less column lines)

quotes-filled : (line : LineText) → quotes line ≡ true → is_empty line ≡ false
quotes-filled line q = go line.body (is_shallow line) q
  where
    go : (body : List ℕ) (v : Bool) → (v && begins_with 62 body) ≡ true → is_nothing body ≡ false
    go [] true h = absurd (false≢true h)
    go [] false h = absurd (false≢true h)
    go (b ∷ bs) v h = refl

pub filled-quoted : (lines : List LineText) → filled (quoted lines) ≤ filled lines
unfolding quoted
filled-quoted [] = omega arith
filled-quoted (line ∷ later) = go (quotes line) refl (filled-quoted later)
  where
    go : (v : Bool) → quotes line ≡ v → filled (quoted later) ≤ filled later → filled (cond v (unquoted line ∷ quoted later) []) ≤ filled (line ∷ later)
    go true q le = omega (arith, filled-most (unquoted line) (quoted later), filled-first line later (quotes-filled line q))
    go false q le = omega arith

pub filled-without_kind : (kind : Option BlockQuoteKind) (lines : List LineText) → filled (without_kind kind lines) ≤ filled lines
filled-without_kind None lines = omega arith
filled-without_kind (Some kind) lines = filled-drop 1 lines

-- a line and those that hang below it
filled-hung : (column : ℕ) (first : LineText) (own : List LineText) → filled (hung column first own) ≤ suc (filled own)
filled-hung column first own = omega (arith, filled-most first (map (less column) own), filled-less column own)

pub filled-description : (line : LineText) (own : List LineText) → filled (description_lines line own) ≤ suc (filled own)
filled-description line own = filled-hung (description_column line) (less 1 (line_of (drop 1 line.body))) own

pub filled-item : (column : ℕ) (first : LineText) (own : List LineText) → filled (item_lines column first own) ≤ suc (filled own)
filled-item column first own = filled-hung column (without_task (task_of first) first) own

-- a footnote definition stands on a line that is not empty
labels-filled : (line : LineText) (label : List ℕ) → footnote_label line ≡ Some label → is_empty line ≡ false
labels-filled line label h = go line.body (is_shallow line) h
  where
    go : (body : List ℕ) (v : Bool) → cond v (label_in body) None ≡ Some label → is_nothing body ≡ false
    go [] true h = cc
    go [] false h = cc
    go (b ∷ bs) v h = refl

pub filled-footnote : (label : List ℕ) (line : LineText) (n : ℕ) (later : List LineText) → footnote_label line ≡ Some label → filled (footnote_lines label line (take n later)) ≤ filled (line ∷ later)
filled-footnote label line n later h = omega (arith, filled-hung 4 (footnote_line label line) (take n later), filled-take n later, filled-first line later (labels-filled line label h))

-- a line has a byte for its end, but for the last
abbrev weight : List (List ℕ) → ℕ
weight [] = 0
weight (line ∷ lines) = length line + 1 + weight lines

weight-in_front : (b : ℕ) (bs : List ℕ) (ls : List (List ℕ)) → weight ls ≤ length bs + 1 → weight (in_front b ls) ≤ length (b ∷ bs) + 1
weight-in_front b bs [] le = omega arith
weight-in_front b bs (l ∷ ls) le = omega arith

weight-ended : (b : ℕ) (bs : List ℕ) (ls : List (List ℕ)) → weight ls ≤ length bs + 1 → weight (ended b bs ls) ≤ length (b ∷ bs) + 1
weight-ended b [] ls le = omega arith
weight-ended b (c ∷ cs) ls le = go (b == 13) (c == 10)
  where
    go : (v w : Bool) → weight (cond v (cond w ls ([] ∷ ls)) ([] ∷ ls)) ≤ length (b ∷ c ∷ cs) + 1
    go true true = omega arith
    go true false = omega arith
    go false w = omega arith

weight-raw_lines : (bs : List ℕ) → weight (raw_lines bs) ≤ length bs + 1
unfolding raw_lines
weight-raw_lines [] = omega arith
weight-raw_lines (b ∷ bs) = go (ends_line b) (weight-raw_lines bs)
  where
    go : (v : Bool) → weight (raw_lines bs) ≤ length bs + 1 → weight (cond v (ended b bs (raw_lines bs)) (in_front b (raw_lines bs))) ≤ length (b ∷ bs) + 1
    go true le = weight-ended b bs (raw_lines bs) le
    go false le = weight-in_front b bs (raw_lines bs) le

filled-weight : (ls : List (List ℕ)) → 2 * filled (map line_of ls) ≤ weight ls
unfolding line_of
filled-weight [] = omega arith
filled-weight ([] ∷ ls) = omega (arith, filled-weight ls)
filled-weight ((b ∷ bs) ∷ ls) = omega (arith, filled-weight ls, filled-most (line_of (b ∷ bs)) (map line_of ls))

-- at most half of a text's bytes are lines that are not empty
pub filled-lines_of : (text : List ℕ) → 2 * filled (lines_of text) ≤ length text + 1
filled-lines_of text = omega (arith, filled-weight (raw_lines text), weight-raw_lines text)
