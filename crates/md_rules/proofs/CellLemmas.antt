-- The bars of a text, one by one.
use Rattle.std.proofs.Common.{List, [], ◌∷◌, ◌++◌, ◌≢◌, length, take, drop, get_or, ◌≡◌, ◌≤◌, ◌<◌, ◌==◌, ◌+◌, ◌-◌, ℕ, suc, refl, sym, ap, ◌∙◌, arith, true, false, Bool, cond, not, ◌&&◌, ◌||◌, nat_lt}
use Rattle.std.specs.Str.{IsCharBoundary, IsUtf8}
use Rattle.std.proofs.lemmas.Bool.{false≢true}
use Rattle.std.proofs.lemmas.List.{length-map}
use Rattle.std.proofs.lemmas.Bool.Decides.{nat_tests}
use Rattle.std.proofs.lemmas.Str.{IsCharBoundary-after_ascii, IsCharBoundary-before_ascii}
use Rattle.term_text.specs.LineEnds.{ends_line, in_front, is_one_line}
use Rattle.md_lines.specs.Lines.{LineText, is_nothing}
use Rattle.md_lines.proofs.LineLemmas.{is_one_line-drop}
use Rattle.md_rules.specs.Texts.{begins_with, trimmed}
use Rattle.md_rules.proofs.OneLine.{is_one_line-trimmed}
use Rattle.md_rules.specs.Tables.{cells, escapes, has_bar, inner, is_bar, parts, without_end_bar, without_start_bar}
use Rattle.md_rules.specs.Cells.{before_bar, escapes_behind}

is_bar-byte : (escaped : Bool) (b : ℕ) → is_bar escaped b ≡ true → b ≡ 124
is_bar-byte escaped b e = grind (arith, nat_tests)

-- a bar stands where one was looked for
pub before_bar-byte : (escaped : Bool) (bs : List ℕ) → before_bar escaped bs < length bs → get_or bs (before_bar escaped bs) 0 ≡ 124
unfolding before_bar
before_bar-byte escaped [] lt = absurd (omega arith)
before_bar-byte escaped (b ∷ bs) lt = go (is_bar escaped b) refl (before_bar-byte (escapes b) bs) lt
  where
    go : (v : Bool) → is_bar escaped b ≡ v → (before_bar (escapes b) bs < length bs → get_or bs (before_bar (escapes b) bs) 0 ≡ 124) → cond v 0 (suc (before_bar (escapes b) bs)) < suc (length bs) → get_or (b ∷ bs) (cond v 0 (suc (before_bar (escapes b) bs))) 0 ≡ 124
    go true e h lt = is_bar-byte escaped b e
    go false e h lt = h (omega arith)

nat_lt-some : (n : ℕ) → nat_lt 0 (suc n) ≡ true
nat_lt-some n = grind (arith, nat_tests)

nat_lt-suc : (m n : ℕ) → nat_lt (suc m) (suc n) ≡ nat_lt m n
nat_lt-suc m n = grind (arith, nat_tests)

pub has_bar-before : (escaped : Bool) (bs : List ℕ) → has_bar escaped bs ≡ nat_lt (before_bar escaped bs) (length bs)
unfolding has_bar before_bar
has_bar-before escaped [] = refl
has_bar-before escaped (b ∷ bs) = go (is_bar escaped b) (has_bar-before (escapes b) bs)
  where
    go : (v : Bool) → has_bar (escapes b) bs ≡ nat_lt (before_bar (escapes b) bs) (length bs) → (v || has_bar (escapes b) bs) ≡ nat_lt (cond v 0 (suc (before_bar (escapes b) bs))) (suc (length bs))
    go true h = sym (nat_lt-some (length bs))
    go false h = h ∙ sym (nat_lt-suc (before_bar (escapes b) bs) (length bs))

-- no bar cuts where none stands
pub has_bar-none : (escaped : Bool) (bs : List ℕ) → ((j : ℕ) → j < length bs → (get_or bs j 0 == 124) ≡ true → ⊥) → has_bar escaped bs ≡ false
unfolding has_bar
has_bar-none escaped [] none = refl
has_bar-none escaped (b ∷ bs) none = go (b == 124) refl (has_bar-none (escapes b) bs (λ j below is. none (suc j) (omega arith) is))
  where
    go : (v : Bool) → (b == 124) ≡ v → has_bar (escapes b) bs ≡ false → ((v && not escaped) || has_bar (escapes b) bs) ≡ false
    go true e h = absurd (none 0 (omega arith) e)
    go false e h = h

-- the part before the first bar, and those behind it
pub parts-first : (escaped : Bool) (bs : List ℕ) → before_bar escaped bs < length bs → parts escaped bs ≡ take (before_bar escaped bs) bs ∷ parts false (drop (before_bar escaped bs + 1) bs)
unfolding parts before_bar
parts-first escaped [] lt = absurd (omega arith)
parts-first escaped (b ∷ bs) lt = go (is_bar escaped b) (parts-first (escapes b) bs) lt
  where
    go : (v : Bool) → (before_bar (escapes b) bs < length bs → parts (escapes b) bs ≡ take (before_bar (escapes b) bs) bs ∷ parts false (drop (before_bar (escapes b) bs + 1) bs)) → cond v 0 (suc (before_bar (escapes b) bs)) < suc (length bs) → cond v ([] ∷ parts false bs) (in_front b (parts (escapes b) bs)) ≡ take (cond v 0 (suc (before_bar (escapes b) bs))) (b ∷ bs) ∷ parts false (drop (cond v 0 (suc (before_bar (escapes b) bs)) + 1) (b ∷ bs))
    go true h lt = refl
    go false h lt =
        let n : ℕ = before_bar (escapes b) bs in
        let next : suc n + 1 ≡ suc (n + 1) = omega arith in
        ap (in_front b) (h (omega arith)) ∙ ap (λ k. (b ∷ take n bs) ∷ parts false (drop k (b ∷ bs))) (sym next)

-- without a bar there is one part
pub parts-last : (escaped : Bool) (bs : List ℕ) → length bs ≤ before_bar escaped bs → parts escaped bs ≡ bs ∷ []
unfolding parts before_bar
parts-last escaped [] le = refl
parts-last escaped (b ∷ bs) le = go (is_bar escaped b) (parts-last (escapes b) bs) le
  where
    go : (v : Bool) → (length bs ≤ before_bar (escapes b) bs → parts (escapes b) bs ≡ bs ∷ []) → suc (length bs) ≤ cond v 0 (suc (before_bar (escapes b) bs)) → cond v ([] ∷ parts false bs) (in_front b (parts (escapes b) bs)) ≡ (b ∷ bs) ∷ []
    go true h le = absurd (omega arith)
    go false h le = ap (in_front b) (h (omega arith))

in_front-some : (b : ℕ) (ls : List (List ℕ)) → 0 < length (in_front b ls)
in_front-some b [] = omega arith
in_front-some b (l ∷ ls) = omega arith

parts-some : (escaped : Bool) (bs : List ℕ) → 0 < length (parts escaped bs)
unfolding parts
parts-some escaped [] = omega arith
parts-some escaped (b ∷ bs) = go (is_bar escaped b)
  where
    go : (v : Bool) → 0 < length (cond v ([] ∷ parts false bs) (in_front b (parts (escapes b) bs)))
    go true = omega arith
    go false = in_front-some b (parts (escapes b) bs)

-- each line has one cell at least
pub cells-some : (line : LineText) → 0 < length (cells line)
cells-some line = let count = length-map (parts false (inner line)) trimmed in omega (arith, count, parts-some false (inner line))

-- a text may be cut before a bar
pub boundary-bar : (text : List ℕ) → before_bar false text < length text → IsCharBoundary text (before_bar false text)
boundary-bar text lt = let byte = before_bar-byte false text lt in IsCharBoundary-before_ascii text (before_bar false text) lt (omega arith)

-- and behind it
pub boundary-behind_bar : (text : List ℕ) → IsUtf8 text → before_bar false text < length text → IsCharBoundary text (before_bar false text + 1)
boundary-behind_bar text utf8 lt = let byte = before_bar-byte false text lt in IsCharBoundary-after_ascii text (before_bar false text) utf8 lt (omega arith)

pub escapes_behind-last : (escaped : Bool) (bs : List ℕ) → 0 < length bs → escapes_behind escaped bs ≡ escapes (get_or bs (length bs - 1) 0)
unfolding escapes_behind
escapes_behind-last escaped [] some = absurd (omega arith)
escapes_behind-last escaped (b ∷ []) some = refl
escapes_behind-last escaped (b ∷ c ∷ cs) some =
    let place : length (b ∷ c ∷ cs) - 1 ≡ suc (length (c ∷ cs) - 1) = omega arith in
    escapes_behind-last (escapes b) (c ∷ cs) (omega arith) ∙ ap (λ n. escapes (get_or (b ∷ c ∷ cs) n 0)) (sym place)

pub escapes_behind-nothing : (bs : List ℕ) → length bs ≡ 0 → escapes_behind false bs ≡ false
unfolding escapes_behind
escapes_behind-nothing [] none = refl
escapes_behind-nothing (b ∷ bs) none = absurd (omega arith)

-- a bar at the end goes, if it cuts
pub without_end_bar-some : (escaped : Bool) (front : List ℕ) → without_end_bar escaped (front ++ 124 ∷ []) ≡ cond (escapes_behind escaped front) (front ++ 124 ∷ []) front
unfolding without_end_bar escapes_behind
without_end_bar-some true [] = refl
without_end_bar-some false [] = refl
without_end_bar-some escaped (b ∷ bs) = ap (λ v. cond v [] (b ∷ without_end_bar (escapes b) (bs ++ 124 ∷ []))) (not_last (is_bar escaped b) bs) ∙ (ap (λ x. b ∷ x) (without_end_bar-some (escapes b) bs) ∙ both (escapes_behind (escapes b) bs))
  where
    not_last : (v : Bool) (xs : List ℕ) → (v && is_nothing (xs ++ 124 ∷ [])) ≡ false
    not_last true [] = refl
    not_last true (x ∷ xs) = refl
    not_last false xs = refl

    both : (v : Bool) → b ∷ cond v (bs ++ 124 ∷ []) bs ≡ cond v (b ∷ bs ++ 124 ∷ []) (b ∷ bs)
    both true = refl
    both false = refl

-- and nothing goes where none stands there
pub without_end_bar-none : (escaped : Bool) (bs : List ℕ) → ((front : List ℕ) → bs ≢ front ++ 124 ∷ []) → without_end_bar escaped bs ≡ bs
unfolding without_end_bar
without_end_bar-none escaped [] none = refl
without_end_bar-none escaped (b ∷ []) none = go (is_bar escaped b) refl
  where
    go : (v : Bool) → is_bar escaped b ≡ v → cond (v && true) [] (b ∷ []) ≡ b ∷ []
    go true e = absurd (none [] (ap (λ x. x ∷ []) (is_bar-byte escaped b e)))
    go false e = refl
without_end_bar-none escaped (b ∷ c ∷ cs) none = go (is_bar escaped b) (without_end_bar-none (escapes b) (c ∷ cs) (λ front e. none (b ∷ front) (ap (λ x. b ∷ x) e)))
  where
    go : (v : Bool) → without_end_bar (escapes b) (c ∷ cs) ≡ c ∷ cs → cond (v && false) [] (b ∷ without_end_bar (escapes b) (c ∷ cs)) ≡ b ∷ c ∷ cs
    go true e = ap (λ x. b ∷ x) e
    go false e = ap (λ x. b ∷ x) e

is_one_line-first : (b : ℕ) (bs : List ℕ) → is_one_line (b ∷ bs) ≡ true → not (ends_line b) ≡ true
is_one_line-first b bs one = go (not (ends_line b)) one
  where
    go : (v : Bool) → (v && is_one_line bs) ≡ true → v ≡ true
    go true h = refl
    go false h = absurd (false≢true h)

is_one_line-without_start_bar : (bs : List ℕ) → is_one_line bs ≡ true → is_one_line (without_start_bar bs) ≡ true
is_one_line-without_start_bar bs one = go (begins_with 124 bs)
  where
    go : (v : Bool) → is_one_line (cond v (drop 1 bs) bs) ≡ true
    go true = is_one_line-drop 1 bs one
    go false = one

is_one_line-without_end_bar : (escaped : Bool) (bs : List ℕ) → is_one_line bs ≡ true → is_one_line (without_end_bar escaped bs) ≡ true
unfolding without_end_bar
is_one_line-without_end_bar escaped [] one = refl
is_one_line-without_end_bar escaped (b ∷ bs) one = go (is_bar escaped b && is_nothing bs) (is_one_line-without_end_bar (escapes b) bs (is_one_line-drop 1 (b ∷ bs) one))
  where
    go : (v : Bool) → is_one_line (without_end_bar (escapes b) bs) ≡ true → is_one_line (cond v [] (b ∷ without_end_bar (escapes b) bs)) ≡ true
    go true rest = refl
    go false rest = rw (is_one_line-first b bs one) rest

-- what stands between the outer bars of a line is on one line
pub is_one_line-inner : (body : List ℕ) → is_one_line body ≡ true → is_one_line (without_end_bar false (without_start_bar (trimmed body))) ≡ true
is_one_line-inner body one = is_one_line-without_end_bar false (without_start_bar (trimmed body)) (is_one_line-without_start_bar (trimmed body) (is_one_line-trimmed body one))
