-- The lines of a source, and a text on one of them.
use Rattle.std.proofs.Common.{List, [], ◌∷◌, ◌++◌, length, take, drop, get_or, map, ◌≡◌, ◌≤◌, ◌<◌, ◌+◌, ◌-◌, ℕ, zero, suc, refl, sym, ap, subst, ◌∙◌, arith, true, false, Bool, cond, not, ◌&&◌, length-append, length-drop, ◌⊎◌, inl, inr, add_assoc}
use Rattle.std.specs.Str.{IsCharBoundary}
use Rattle.std.specs.List.{slice_range, list_all, join_with_byte}
use Rattle.std.proofs.lemmas.Bool.{false≢true, cases_lt}
use Rattle.std.proofs.lemmas.Bool.Decides.{nat_tests}
use Rattle.std.proofs.lemmas.List.{append-nil, take-append-le, drop-append-le, get_or-drop, get_or_append_left, get_or-append-add, length-map}
use Rattle.std.proofs.lemmas.List.Folds.{list_all-append}
use Rattle.std.proofs.Math.Seq.{drop-append-add, drop-nil}
use Rattle.md_lines.specs.Lines.{LineText, body_of}
use Rattle.md_lines.specs.Blanks.{is_blank, without_end_blanks}
use Rattle.md_lines.proofs.BlankLemmas.{end_blanks, without_end_blanks-end_blanks, end_blanks-all}
use Rattle.term_text.specs.LineEnds.{is_one_line, ends_line}
use Rattle.md_leaves.specs.Cuts.{IsPlace, IsText}
use Rattle.md_runs.specs.Source.{source_of, line_start, body_at}
use Rattle.md_runs.specs.declared.source.Cursor.{Cursor}
use Rattle.md_runs.specs.Facts.{IsCursor}
use Rattle.md_runs.proofs.Lists.{drop-drop, take-nil}

without_end_blanks-line : (bs ys : List ℕ) → without_end_blanks (bs ++ 10 ∷ ys) ≡ bs ++ 10 ∷ without_end_blanks ys
unfolding without_end_blanks
without_end_blanks-line [] ys = refl
without_end_blanks-line (b ∷ bs) ys =
    let some : list_all is_blank (b ∷ bs ++ 10 ∷ ys) ≡ false = list_all-append is_blank (b ∷ bs) (10 ∷ ys) ∙ and-false (list_all is_blank (b ∷ bs)) in
    ap (λ v. cond v [] (b ∷ without_end_blanks (bs ++ 10 ∷ ys))) some ∙ ap (λ x. b ∷ x) (without_end_blanks-line bs ys)
  where
    and-false : (v : Bool) → (v && false) ≡ false
    and-false true = refl
    and-false false = refl

-- the source from a line on
source_of-line : (body next : List ℕ) (bodies : List (List ℕ)) → source_of (body ∷ next ∷ bodies) ≡ body ++ 10 ∷ source_of (next ∷ bodies)
source_of-line body next bodies = without_end_blanks-line body (join_with_byte 10 (next ∷ bodies))

pub line_start-step : (n : ℕ) (bodies : List (List ℕ)) → n < length bodies → line_start (n + 1) bodies ≡ line_start n bodies + (length (body_at n bodies) + 1)
line_start-step n [] lt = absurd (omega arith)
line_start-step zero (body ∷ bodies) lt = omega arith
line_start-step (suc n) (body ∷ bodies) lt =
    let e = line_start-step n bodies (omega arith) in
    ap (λ k. line_start k (body ∷ bodies)) (let s : suc n + 1 ≡ suc (n + 1) = omega arith in s) ∙ omega (arith, e)

-- what the source has from a line on
source-from : (n : ℕ) (bodies : List (List ℕ)) → n < length bodies → drop (line_start n bodies) (source_of bodies) ≡ source_of (drop n bodies)
source-from zero bodies lt = refl
source-from (suc n) [] lt = absurd (omega arith)
source-from (suc n) (body ∷ []) lt = absurd (omega arith)
source-from (suc n) (body ∷ next ∷ bodies) lt =
    let more : List (List ℕ) = next ∷ bodies in
    ap (drop (length body + 1 + line_start n more)) (source_of-line body next bodies)
    ∙ (ap (λ k. drop k (body ++ 10 ∷ source_of more)) (add_assoc (length body) 1 (line_start n more))
    ∙ (drop-append-add body (10 ∷ source_of more) (1 + line_start n more)
    ∙ (ap (λ k. drop k (10 ∷ source_of more)) (let s : 1 + line_start n more ≡ suc (line_start n more) = omega arith in s)
    ∙ source-from n more (omega arith))))

-- a text of the source on a line that begins at start is a part of that line
pub record InLine (source body : List ℕ) (start from to : ℕ) : Type 0 where
  pub place : IsPlace body (from - start) (to - start)
  pub value : slice_range body (from - start) (to - start) ≡ slice_range source from to

take-front : (front xs : List ℕ) (n f : ℕ) → f + n ≤ length front → take n (drop f (front ++ xs)) ≡ take n (drop f front)
take-front front xs n f le =
    let len = length-drop f front in
    ap (take n) (drop-append-le f front xs (omega arith)) ∙ take-append-le n (drop f front) xs (omega (arith, len))

boundary-in : (source body front back tail : List ℕ) (start at : ℕ) → drop start source ≡ front ++ back → front ++ tail ≡ body → (0 < length tail → get_or tail 0 0 < 128) → start ≤ at → at - start ≤ length front → IsCharBoundary source at → IsCharBoundary body (at - start)
boundary-in source body front back tail start at here whole ascii before within b =
    let k : ℕ = at - start in
    let place : start + k ≡ at = omega arith in
    let len : length body ≡ length front + length tail = ap length (sym whole) ∙ length-append front tail in
    (omega arith, λ inside high. go k place len within inside high (cases_lt k (length front)))
  where
    go : (k : ℕ) → start + k ≡ at → length body ≡ length front + length tail → k ≤ length front → k < length body → 128 ≤ get_or body k 0 → (k < length front) ⊎ (length front ≤ k) → 192 ≤ get_or body k 0
    go k place len within inside high (inl lt) =
        let same : get_or body k 0 ≡ get_or source at 0 =
        ap (λ x. get_or x k 0) (sym whole) ∙ (get_or_append_left front tail 0 k lt
        ∙ (sym (get_or_append_left front back 0 k lt) ∙ (ap (λ x. get_or x k 0) (sym here) ∙ (get_or-drop start source k 0 ∙ ap (λ n. get_or source n 0) place)))) in
        let some : length source - start ≡ length front + length back = sym (length-drop start source) ∙ (ap length here ∙ length-append front back) in
        let least = b.1 (omega arith) (subst (λ n. 128 ≤ n) same high) in
        subst (λ n. 192 ≤ n) (sym same) least
    go k place len within inside high (inr le) =
        let end : length front + 0 ≡ k = omega arith in
        let same : get_or body k 0 ≡ get_or tail 0 0 =
        ap (λ x. get_or x k 0) (sym whole) ∙ (ap (λ n. get_or (front ++ tail) n 0) (sym end) ∙ get_or-append-add front tail 0 0) in
        let low = ascii (omega arith) in
        absurd (omega (arith, low, same))

in-front : (source body front back tail : List ℕ) (start from to : ℕ) → drop start source ≡ front ++ back → front ++ tail ≡ body → (0 < length tail → get_or tail 0 0 < 128) → start ≤ from → to - start ≤ length front → IsPlace source from to → InLine source body start from to
in-front source body front back tail start from to here whole ascii before within p =
    let order = p.order in
    record {
      place = record {
        order = omega arith;
        start = boundary-in source body front back tail start from here whole ascii before (omega arith) p.start;
        stop = boundary-in source body front back tail start to here whole ascii (omega arith) within p.stop;
      };
      value =
          let n : to - start - (from - start) ≡ to - from = omega arith in
          let f : start + (from - start) ≡ from = omega arith in
          let le : (from - start) + (to - from) ≤ length front = omega arith in
          ap (λ x. slice_range x (from - start) (to - start)) (sym whole)
          ∙ (ap (λ k. take k (drop (from - start) (front ++ tail))) n
          ∙ (take-front front tail (to - from) (from - start) le
          ∙ (sym (take-front front back (to - from) (from - start) le)
          ∙ (ap (λ x. take (to - from) (drop (from - start) x)) (sym here)
          ∙ (ap (take (to - from)) (sym (drop-drop (from - start) start source)) ∙ ap (λ k. take (to - from) (drop k source)) f)))));
    }

-- a text that reaches past LF is not on one line
past-line : (xs ys : List ℕ) (n : ℕ) → length xs < n → is_one_line (take n (xs ++ 10 ∷ ys)) ≡ true → ⊥
past-line xs ys zero lt one = absurd (omega arith)
past-line [] ys (suc n) lt one = cc
past-line (x ∷ xs) ys (suc n) lt one = past-line xs ys n (omega arith) (and-right (not (ends_line x)) (is_one_line (take n (xs ++ 10 ∷ ys))) one)
  where
    and-right : (a b : Bool) → (a && b) ≡ true → b ≡ true
    and-right true b h = h
    and-right false b h = absurd (false≢true h)

in-line : (source body more : List ℕ) (start from to : ℕ) → drop start source ≡ body ++ 10 ∷ more → start ≤ from → from ≤ start + length body → IsText source from to → InLine source body start from to
in-line source body more start from to here before within t =
    let order = t.place.order in
    in-front source body body (10 ∷ more) [] start from to here (append-nil body) (λ some. absurd (omega arith)) before (go (cases_lt (length body) (to - start))) t.place
  where
    go : (length body < to - start) ⊎ (to - start ≤ length body) → to - start ≤ length body
    go (inr le) = le
    go (inl lt) =
        let f : ℕ = from - start in
        let n : ℕ = to - from in
        let order = t.place.order in
        let len = length-drop f body in
        let place : start + f ≡ from = omega arith in
        let rest : drop from source ≡ drop f body ++ 10 ∷ more =
        ap (λ k. drop k source) (sym place) ∙ (drop-drop f start source ∙ (ap (drop f) here ∙ drop-append-le f body (10 ∷ more) (omega arith))) in
        absurd (past-line (drop f body) more n (omega arith) (ap (λ x. is_one_line (take n x)) (sym rest) ∙ t.one_line))

first-blank : (tail : List ℕ) → list_all is_blank tail ≡ true → 0 < length tail → get_or tail 0 0 < 128
first-blank [] all some = absurd (omega arith)
first-blank (b ∷ bs) all some = low b (left (is_blank b) (list_all is_blank bs) all)
  where
    left : (a c : Bool) → (a && c) ≡ true → a ≡ true
    left true c h = refl
    left false c h = absurd (false≢true h)

    low : (b : ℕ) → is_blank b ≡ true → b < 128
    low b e = grind (arith, nat_tests)

in-last : (source body : List ℕ) (start from to : ℕ) → drop start source ≡ without_end_blanks body → start ≤ length source → start ≤ from → IsPlace source from to → InLine source body start from to
in-last source body start from to here known before p =
    let order = p.order in
    let stop = p.stop.0 in
    let len : length source - start ≡ length (without_end_blanks body) = sym (length-drop start source) ∙ ap length here in
    in-front source body (without_end_blanks body) [] (end_blanks body) start from to (here ∙ sym (append-nil (without_end_blanks body))) (without_end_blanks-end_blanks body) (first-blank (end_blanks body) (end_blanks-all body)) before (omega arith) p

last-start : (n : ℕ) (bodies : List (List ℕ)) → n < length bodies → line_start n bodies ≤ length (source_of bodies)
last-start zero bodies lt = omega arith
last-start (suc n) [] lt = absurd (omega arith)
last-start (suc n) (body ∷ []) lt = absurd (omega arith)
last-start (suc n) (body ∷ next ∷ bodies) lt =
    let ih = last-start n (next ∷ bodies) (omega arith) in
    let len : length (source_of (body ∷ next ∷ bodies)) ≡ length body + suc (length (source_of (next ∷ bodies))) = ap length (source_of-line body next bodies) ∙ length-append body (10 ∷ source_of (next ∷ bodies)) in
    omega (arith, ih, len)

drop-body : (n : ℕ) (bodies : List (List ℕ)) → n < length bodies → drop n bodies ≡ body_at n bodies ∷ drop (n + 1) bodies
drop-body n [] lt = absurd (omega arith)
drop-body zero (body ∷ bodies) lt = refl
drop-body (suc n) (body ∷ bodies) lt = drop-body n bodies (omega arith) ∙ ap (λ k. body_at n bodies ∷ drop k (body ∷ bodies)) (let e : suc (n + 1) ≡ suc n + 1 = omega arith in e)

-- a text of the source stands on the line that it begins on
pub text-in-line : (bodies : List (List ℕ)) (n from to : ℕ) → n < length bodies → line_start n bodies ≤ from → (n + 1 < length bodies → from ≤ line_start n bodies + length (body_at n bodies)) → IsText (source_of bodies) from to → InLine (source_of bodies) (body_at n bodies) (line_start n bodies) from to
text-in-line bodies n from to lt before within t = go (drop (n + 1) bodies) refl
  where
    go : (rest : List (List ℕ)) → drop (n + 1) bodies ≡ rest → InLine (source_of bodies) (body_at n bodies) (line_start n bodies) from to
    go [] e = in-last (source_of bodies) (body_at n bodies) (line_start n bodies) from to (source-from n bodies lt ∙ ap source_of (drop-body n bodies lt ∙ ap (λ x. body_at n bodies ∷ x) e)) (last-start n bodies lt) before t.place
    go (next ∷ rest) e =
        let len : length bodies - (n + 1) ≡ suc (length rest) = sym (length-drop (n + 1) bodies) ∙ ap length e in
        in-line (source_of bodies) (body_at n bodies) (source_of (next ∷ rest)) (line_start n bodies) from to
        (source-from n bodies lt ∙ (ap source_of (drop-body n bodies lt ∙ ap (λ x. body_at n bodies ∷ x) e) ∙ source_of-line (body_at n bodies) next rest)) before (within (omega arith)) t

-- a source without lines is empty
pub text-no-line : (bodies : List (List ℕ)) (from to : ℕ) → length bodies ≡ 0 → slice_range (source_of bodies) from to ≡ []
unfolding without_end_blanks
text-no-line [] from to none = ap (take (to - from)) (drop-nil from) ∙ take-nil (to - from)
text-no-line (body ∷ bodies) from to none = absurd (omega arith)

pub body_at-map : (n : ℕ) (lines : List LineText) (d : LineText) (body : List ℕ) → n < length lines → d ≡ get_or lines n d → d.body ≡ body → body_at n (map body_of lines) ≡ body
body_at-map n lines d body lt e f = go n lines lt ∙ (ap (λ (l : LineText). l.body) (sym e) ∙ f)
  where
    go : (n : ℕ) (lines : List LineText) → n < length lines → body_at n (map body_of lines) ≡ (get_or lines n d).body
    go n [] lt = absurd (omega arith)
    go zero (l ∷ ls) lt = refl
    go (suc n) (l ∷ ls) lt = go n ls (omega arith)

pub text-at-cursor : (text : List ℕ) (lines : List LineText) (body : List ℕ) (cursor : Cursor) (from to : ℕ) → text ≡ source_of (map body_of lines) → body_at cursor.line (map body_of lines) ≡ body → IsCursor (map body_of lines) cursor → cursor.line < length lines → cursor.start ≤ from → (cursor.line + 1 < length lines → from ≤ cursor.start + length (body_at cursor.line (map body_of lines))) → IsText text from to → InLine text body cursor.start from to
text-at-cursor text lines body cursor from to e b c lt before within t =
    let n : length (map body_of lines) ≡ length lines = length-map lines body_of in
    let start = c.start in
    let there : InLine (source_of (map body_of lines)) (body_at cursor.line (map body_of lines)) (line_start cursor.line (map body_of lines)) from to =
    text-in-line (map body_of lines) cursor.line from to (omega arith) (omega arith)
    (λ more. let w = within (omega arith) in omega arith) (subst (λ x. IsText x from to) e t) in
    subst (λ x. InLine x body cursor.start from to) (sym e)
    (subst (λ x. InLine (source_of (map body_of lines)) x cursor.start from to) b
    (subst (λ k. InLine (source_of (map body_of lines)) (body_at cursor.line (map body_of lines)) k from to) (sym start) there))

pub no-text-at-cursor : (text : List ℕ) (lines : List LineText) (cursor : Cursor) (from to : ℕ) → text ≡ source_of (map body_of lines) → IsCursor (map body_of lines) cursor → length lines ≤ cursor.line → [] ≡ slice_range text from to
no-text-at-cursor text lines cursor from to e c le =
    let n : length (map body_of lines) ≡ length lines = length-map lines body_of in
    let within = c.within in
    sym (ap (λ x. slice_range x from to) e ∙ text-no-line (map body_of lines) from to (omega arith))
