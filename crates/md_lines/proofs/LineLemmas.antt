-- How far a line is read, and what its lines are free of.
use Rattle.std.proofs.Common.{◌++◌, List, [], ◌∷◌, length, drop, get_or, ◌≡◌, ◌≤◌, ◌<◌, ◌+◌, ◌*◌, ◌==◌, ℕ, zero, suc, refl, sym, ap, subst, ◌∙◌, arith, true, false, Bool, cond, not, ◌&&◌, add_assoc, zero-add}
use Rattle.std.specs.Str.{IsCharBoundary, IsUtf8}
use Rattle.std.proofs.lemmas.Str.{IsCharBoundary-after_ascii, IsCharBoundary-start}
use Rattle.std.proofs.lemmas.List.{drop_more}
use Rattle.std.proofs.lemmas.List.Folds.{list_all-append}
use Rattle.std.proofs.lemmas.Bool.{false≢true}
use Rattle.term_text.specs.LineEnds.{raw_lines, ends_line, in_front, ended, is_one_line}
use Rattle.md_lines.specs.Lines.{LineText, line_of, lines_of, deeper}

-- how far the reader of a line has come
pub record Reads (text : List ℕ) (indent at : ℕ) : Type 0 where
  pub within : at ≤ length text
  pub small : indent ≤ 4 * at
  pub so_far : deeper indent (line_of (drop at text)) ≡ line_of text
  pub boundary : IsCharBoundary text at

pub Reads-start : (text : List ℕ) → IsUtf8 text → Reads text 0 0
Reads-start text utf8 = record {
  within = omega arith;
  small = omega arith;
  so_far = ap (λ (i : ℕ). let r : LineText = record { indent = i; body = (line_of text).body } in r) (zero-add (line_of text).indent);
  boundary = IsCharBoundary-start text utf8;
}

deeper-deeper : (m n : ℕ) (l : LineText) → deeper m (deeper n l) ≡ deeper (m + n) l
deeper-deeper m n l = ap (λ (i : ℕ). let r : LineText = record { indent = i; body = l.body } in r) (sym (add_assoc m n l.indent))

Reads-more : (text : List ℕ) (indent at b n : ℕ) → IsUtf8 text → at < length text → get_or text at 0 ≡ b → line_of (b ∷ drop (at + 1) text) ≡ deeper n (line_of (drop (at + 1) text)) → b < 128 → n ≤ 4 → Reads text indent at → Reads text (indent + n) (at + 1)
Reads-more text indent at b n utf8 lt e d ascii le r = record {
  within = omega arith;
  small = omega (arith, r.small);
  so_far = sym (deeper-deeper indent n _) ∙ (ap (deeper indent) (sym d ∙ ap line_of (ap (λ x. x ∷ drop (at + 1) text) (sym e) ∙ sym (drop_more text at 0 lt))) ∙ r.so_far);
  boundary = IsCharBoundary-after_ascii text at utf8 lt (omega arith);
}

pub blank_32 : (bs : List ℕ) → line_of (32 ∷ bs) ≡ deeper 1 (line_of bs)
unfolding line_of
blank_32 bs = refl

pub blank_9 : (bs : List ℕ) → line_of (9 ∷ bs) ≡ deeper 4 (line_of bs)
unfolding line_of
blank_9 bs = refl

-- one blank more is read
pub Reads-step : (text bytes : List ℕ) (indent more at b n : ℕ) → bytes ≡ text → IsUtf8 text → at < length bytes → get_or bytes at 0 ≡ b → more ≡ indent + n → line_of (b ∷ drop (at + 1) text) ≡ deeper n (line_of (drop (at + 1) text)) → b < 128 → n ≤ 4 → Reads text indent at → Reads text more (at + 1)
Reads-step text bytes indent more at b n p utf8 lt e q d ascii le r =
    let lt' : at < length text = subst (λ (x : List ℕ). at < length x) p lt in
    let e' : get_or text at 0 ≡ b = ap (λ (x : List ℕ). get_or x at 0) (sym p) ∙ e in
    subst (λ (i : ℕ). Reads text i (at + 1)) (sym q) (Reads-more text indent at b n utf8 lt' e' d ascii le r)

pub lines_of-empty : (xs : List ℕ) → length xs ≡ 0 → lines_of xs ≡ []
unfolding raw_lines
lines_of-empty [] e = refl
lines_of-empty (x ∷ xs) e = absurd (omega arith)

right-true : (a b : Bool) → (a && b) ≡ true → b ≡ true
right-true true b h = h
right-true false b h = absurd (false≢true h)

-- what follows a part of a line is on one line too
pub is_one_line-drop : (n : ℕ) (bs : List ℕ) → is_one_line bs ≡ true → is_one_line (drop n bs) ≡ true
is_one_line-drop zero bs h = h
is_one_line-drop (suc n) [] h = refl
is_one_line-drop (suc n) (b ∷ bs) h = is_one_line-drop n bs (right-true (not (ends_line b)) (is_one_line bs) h)

left-true : (a b : Bool) → (a && b) ≡ true → a ≡ true
left-true true b h = refl
left-true false b h = absurd (false≢true h)

-- the front of one line is on one line
pub is_one_line-front : (xs ys : List ℕ) → is_one_line (xs ++ ys) ≡ true → is_one_line xs ≡ true
is_one_line-front xs ys h =
    left-true (is_one_line xs) (is_one_line ys) (sym (list_all-append (λ (b : ℕ). not (ends_line b)) xs ys) ∙ h)

-- each line of a text is on one line
abbrev AreOneLine : List (List ℕ) → Type 0
AreOneLine [] = Unit {0}
AreOneLine (l ∷ ls) = (is_one_line l ≡ true) × AreOneLine ls

AreOneLine-ended : (b : ℕ) (bs : List ℕ) (ls : List (List ℕ)) → AreOneLine ls → AreOneLine (ended b bs ls)
AreOneLine-ended b [] ls h = (refl, h)
AreOneLine-ended b (c ∷ cs) ls h = go (b == 13) (c == 10)
  where
    go : (v w : Bool) → AreOneLine (cond v (cond w ls ([] ∷ ls)) ([] ∷ ls))
    go true true = h
    go true false = (refl, h)
    go false w = (refl, h)

AreOneLine-in_front : (b : ℕ) (ls : List (List ℕ)) → ends_line b ≡ false → AreOneLine ls → AreOneLine (in_front b ls)
AreOneLine-in_front b [] e h = (rw e refl, tt)
AreOneLine-in_front b (l ∷ ls) e h = (rw e h.0, h.1)

AreOneLine-raw_lines : (bs : List ℕ) → AreOneLine (raw_lines bs)
unfolding raw_lines
AreOneLine-raw_lines [] = tt
AreOneLine-raw_lines (b ∷ bs) = go (ends_line b) refl (AreOneLine-raw_lines bs)
  where
    go : (v : Bool) → ends_line b ≡ v → AreOneLine (raw_lines bs) → AreOneLine (cond v (ended b bs (raw_lines bs)) (in_front b (raw_lines bs)))
    go true e h = AreOneLine-ended b bs (raw_lines bs) h
    go false e h = AreOneLine-in_front b (raw_lines bs) e h

first-one_line : (ls : List (List ℕ)) (line : List ℕ) (rest : List (List ℕ)) → ls ≡ line ∷ rest → AreOneLine ls → is_one_line line ≡ true
first-one_line ls line rest e h = (subst AreOneLine e h).0

pub is_one_line-first : (text line after : List ℕ) → raw_lines text ≡ line ∷ raw_lines after → is_one_line line ≡ true
is_one_line-first text line after e = first-one_line (raw_lines text) line (raw_lines after) e (AreOneLine-raw_lines text)
