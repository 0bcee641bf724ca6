-- The text of code.
use Rattle.std.proofs.Common.{List, [], ◌∷◌, ◌++◌, length, take, drop, get_or, map, ◌≡◌, ◌≤◌, ◌<◌, ◌+◌, ◌-◌, ◌==◌, ◌⊎◌, inl, inr, ℕ, zero, suc, refl, sym, ap, subst, ◌∙◌, arith, true, false, Bool, cond, not, ◌&&◌, length-drop, append_assoc}
use Rattle.std.specs.Prelude.{slice_index}
use Rattle.std.specs.Str.{IsUtf8, IsCharBoundary}
use Rattle.std.specs.List.{slice_range, list_all}
use Rattle.std.proofs.Math.ListN.{get_or-map}
use Rattle.std.proofs.lemmas.Bool.{false≢true, cases_lt}
use Rattle.std.proofs.lemmas.Bool.Decides.{nat_tests}
use Rattle.std.proofs.lemmas.Str.{IsCharBoundary-start, IsCharBoundary-end, IsCharBoundary-before_ascii, IsCharBoundary-after_ascii}
use Rattle.std.proofs.lemmas.List.{append-nil, length-map, take_all, take-map, drop-map, drop-take, get_or-drop, get_or-take, length-take-le, take-append-drop}
use Rattle.std.proofs.lemmas.List.Folds.{list_all-map}
use Rattle.term_text.specs.LineEnds.{is_one_line, ends_line}
use Rattle.md_lines.proofs.LineLemmas.{is_one_line-drop, is_one_line-front}
use Rattle.md_leaves.specs.Cuts.{IsPlace, IsText}
use Rattle.md_runs.specs.Code.{spaced, is_space, counts_as_space, is_padded, padding, code_text, first_line_end}
use Rattle.md_runs.proofs.Lists.{both-true, drop-drop}

pub slice_index_spaced : (bs : List ℕ) (i : ℕ) → slice_index (map spaced bs) i ≡ spaced (slice_index bs i)
slice_index_spaced bs i = get_or-map spaced bs i 0

pub list_all_spaced : (bs : List ℕ) → list_all is_space (map spaced bs) ≡ list_all counts_as_space bs
list_all_spaced bs = list_all-map is_space spaced bs

-- a text up to its first line end, and behind it
pub spaced-line : (bs : List ℕ) → first_line_end bs < length bs → map spaced bs ≡ take (first_line_end bs) bs ++ 32 ∷ map spaced (drop (first_line_end bs + 1) bs)
unfolding first_line_end
spaced-line [] lt = absurd (omega arith)
spaced-line (b ∷ bs) lt = go (b == 10) refl (spaced-line bs) lt
  where
    go : (v : Bool) → (b == 10) ≡ v → (first_line_end bs < length bs → map spaced bs ≡ take (first_line_end bs) bs ++ 32 ∷ map spaced (drop (first_line_end bs + 1) bs)) → cond v 0 (suc (first_line_end bs)) < suc (length bs) → cond v 32 b ∷ map spaced bs ≡ take (cond v 0 (suc (first_line_end bs))) (b ∷ bs) ++ 32 ∷ map spaced (drop (cond v 0 (suc (first_line_end bs)) + 1) (b ∷ bs))
    go true e ih lt = refl
    go false e ih lt =
        ap (λ x. b ∷ x) (ih (omega arith) ∙ ap (λ k. take (first_line_end bs) bs ++ 32 ∷ map spaced (drop k (b ∷ bs))) (let s : suc (first_line_end bs + 1) ≡ suc (first_line_end bs) + 1 = omega arith in s))

pub spaced-last : (bs : List ℕ) → length bs ≤ first_line_end bs → map spaced bs ≡ bs
unfolding first_line_end
spaced-last [] le = refl
spaced-last (b ∷ bs) le = go (b == 10) refl (spaced-last bs) le
  where
    go : (v : Bool) → (b == 10) ≡ v → (length bs ≤ first_line_end bs → map spaced bs ≡ bs) → suc (length bs) ≤ cond v 0 (suc (first_line_end bs)) → cond v 32 b ∷ map spaced bs ≡ b ∷ bs
    go true e ih le = absurd (omega arith)
    go false e ih le = ap (λ x. b ∷ x) (ih (omega arith))

-- a line more is written, with a space for its end
pub spaced-step : (rest after old piece new text : List ℕ) (end : ℕ) → end ≡ first_line_end rest → end ≤ length rest → (end ≡ length rest → ⊥) → after ≡ drop (end + 1) rest → piece ≡ take end rest → new ≡ (old ++ piece) ++ 32 ∷ [] → old ++ map spaced rest ≡ text → new ++ map spaced after ≡ text
spaced-step rest after old piece new text end first within more a p n h =
    let line : map spaced rest ≡ take end rest ++ 32 ∷ map spaced (drop (end + 1) rest) =
    subst (λ e. map spaced rest ≡ take e rest ++ 32 ∷ map spaced (drop (e + 1) rest)) (sym first) (spaced-line rest (omega arith)) in
    ap (λ x. x ++ map spaced after) n
    ∙ (append_assoc (old ++ piece) (32 ∷ []) (map spaced after)
    ∙ (append_assoc old piece (32 ∷ map spaced after)
    ∙ (ap (λ x. old ++ (x ++ 32 ∷ map spaced after)) p
    ∙ (ap (λ x. old ++ (take end rest ++ 32 ∷ map spaced x)) a
    ∙ (ap (λ x. old ++ x) (sym line) ∙ h)))))

-- the last line is written
pub spaced-end : (rest old piece new text : List ℕ) (end : ℕ) → end ≡ first_line_end rest → end ≡ length rest → piece ≡ take end rest → new ≡ old ++ piece → old ++ map spaced rest ≡ text → new ≡ text
spaced-end rest old piece new text end first last p n h =
    let whole : take end rest ≡ rest = take_all end rest (omega arith) in
    n ∙ (ap (λ x. old ++ x) (p ∙ (whole ∙ sym (spaced-last rest (omega arith)))) ∙ h)

pub spaced-none : (rest old text : List ℕ) → length rest ≡ 0 → old ++ map spaced rest ≡ text → old ≡ text
spaced-none [] old text none h = sym (append-nil old) ∙ h
spaced-none (b ∷ bs) old text none h = absurd (omega arith)

-- without line ends nothing changes
spaced-one_line : (bs : List ℕ) → is_one_line bs ≡ true → map spaced bs ≡ bs
spaced-one_line [] one = refl
spaced-one_line (b ∷ bs) one = go (ends_line b) (b == 10) refl refl one (spaced-one_line bs)
  where
    go : (u v : Bool) → ends_line b ≡ u → (b == 10) ≡ v → (not u && is_one_line bs) ≡ true → (is_one_line bs ≡ true → map spaced bs ≡ bs) → cond v 32 b ∷ map spaced bs ≡ b ∷ bs
    go true v e f one ih = absurd (false≢true one)
    go false true e f one ih = absurd (never b e f)
      where
        never : (b : ℕ) → ends_line b ≡ false → (b == 10) ≡ true → ⊥
        never b e f = grind (arith, nat_tests)
    go false false e f one ih = ap (λ x. b ∷ x) (ih one)

space-ascii : (b : ℕ) → is_space (spaced b) ≡ true → b < 128
space-ascii b e = grind (arith, nat_tests)

-- a padded text has two bytes at least, and its first and its last are ASCII
record Padded (bs : List ℕ) : Type 0 where
  two : 2 ≤ length bs
  first : get_or bs 0 0 < 128
  last : get_or bs (length bs - 1) 0 < 128

padded : (bs : List ℕ) → is_padded (map spaced bs) ≡ true → Padded bs
padded bs e =
    let p = both-true (is_space (slice_index (map spaced bs) 0) && is_space (slice_index (map spaced bs) (length (map spaced bs) - 1))) (not (list_all is_space (map spaced bs))) e in
    let q = both-true (is_space (slice_index (map spaced bs) 0)) (is_space (slice_index (map spaced bs) (length (map spaced bs) - 1))) p.0 in
    record {
      two = go bs q.0 p.1;
      first = space-ascii (get_or bs 0 0) (ap is_space (sym (slice_index_spaced bs 0)) ∙ q.0);
      last = space-ascii (get_or bs (length bs - 1) 0) (ap is_space (sym (slice_index_spaced bs (length bs - 1))) ∙ (ap (λ n. is_space (slice_index (map spaced bs) (n - 1))) (sym (length-map bs spaced)) ∙ q.1));
    }
  where
    go : (bs : List ℕ) → is_space (slice_index (map spaced bs) 0) ≡ true → not (list_all is_space (map spaced bs)) ≡ true → 2 ≤ length bs
    go [] f h = absurd (false≢true h)
    go (b ∷ []) f h = absurd (false≢true (ap (λ v. not (v && true)) (sym f) ∙ h))
    go (b ∷ c ∷ cs) f h = omega arith

-- the bytes inside the padding
pub record Pads (bs : List ℕ) (pad : ℕ) : Type 0 where
  pub place : IsPlace bs pad (length bs - pad)
  pub value : code_text bs ≡ map spaced (slice_range bs pad (length bs - pad))

slice-whole : (bs : List ℕ) → slice_range bs 0 (length bs - 0) ≡ bs
slice-whole bs = take_all (length bs - 0 - 0) bs (omega arith)

pub pads : (bs : List ℕ) → IsUtf8 bs → Pads bs (padding bs)
pads bs utf8 = go (is_padded (map spaced bs)) refl
  where
    go : (v : Bool) → is_padded (map spaced bs) ≡ v → Pads bs (cond v 1 0)
    go false e = record {
      place = record {
        order = omega arith;
        start = IsCharBoundary-start bs utf8;
        stop = subst (IsCharBoundary bs) (let n : length bs ≡ length bs - 0 = omega arith in n) (IsCharBoundary-end bs);
      };
      value = ap (λ v. cond v (slice_range (map spaced bs) 1 (length (map spaced bs) - 1)) (map spaced bs)) e ∙ ap (map spaced) (sym (slice-whole bs));
    }
    go true e =
        let p = padded bs e in
        let two = p.two in
        record {
          place = record {
            order = omega arith;
            start = IsCharBoundary-after_ascii bs 0 utf8 (omega arith) p.first;
            stop = IsCharBoundary-before_ascii bs (length bs - 1) (omega arith) p.last;
          };
          value =
              ap (λ v. cond v (slice_range (map spaced bs) 1 (length (map spaced bs) - 1)) (map spaced bs)) e
              ∙ (ap (λ n. slice_range (map spaced bs) 1 (n - 1)) (length-map bs spaced)
              ∙ (ap (take (length bs - 1 - 1)) (drop-map spaced 1 bs) ∙ take-map spaced (length bs - 1 - 1) (drop 1 bs)));
        }

-- a part of a part
slice-slice : (xs : List ℕ) (from to a b : ℕ) → a ≤ b → from + b ≤ to → slice_range (slice_range xs from to) a b ≡ slice_range xs (from + a) (from + b)
slice-slice xs from to a b p q =
    let n : to - from ≡ a + (to - from - a) = omega arith in
    let m : (from + b) - (from + a) ≡ b - a = omega arith in
    ap (λ k. take (b - a) (drop a (take k (drop from xs)))) n
    ∙ (ap (take (b - a)) (drop-take a (to - from - a) (drop from xs))
    ∙ (less (b - a) (to - from - a) (drop a (drop from xs)) (omega arith)
    ∙ (ap (take (b - a)) (sym (drop-drop a from xs)) ∙ ap (λ k. take k (drop (from + a) xs)) (sym m))))
  where
    less : (j k : ℕ) (ys : List ℕ) → j ≤ k → take j (take k ys) ≡ take j ys
    less zero k ys le = refl
    less (suc j) zero ys le = absurd (omega arith)
    less (suc j) (suc k) [] le = refl
    less (suc j) (suc k) (y ∷ ys) le = ap (λ x. y ∷ x) (less j k ys (omega arith))

length-slice : (xs : List ℕ) (from to : ℕ) → to ≤ length xs → length (slice_range xs from to) ≡ to - from
length-slice xs from to le = length-take-le (to - from) (drop from xs) (let n = length-drop from xs in omega arith)

-- a boundary of a part is one of the whole
boundary-out : (xs : List ℕ) (from to i : ℕ) → IsPlace xs from to → i ≤ to - from → IsCharBoundary (slice_range xs from to) i → IsCharBoundary xs (from + i)
boundary-out xs from to i p le b = go (cases_lt i (to - from))
  where
    go : (i < to - from) ⊎ (to - from ≤ i) → IsCharBoundary xs (from + i)
    go (inl lt) =
        let order = p.order in
        let stop = p.stop.0 in
        let len = length-slice xs from to stop in
        let same : get_or (slice_range xs from to) i 0 ≡ get_or xs (from + i) 0 = get_or-take (to - from) (drop from xs) i 0 lt ∙ get_or-drop from xs i 0 in
        (omega arith, λ within high. subst (λ n. 192 ≤ n) same (b.1 (omega arith) (subst (λ n. 128 ≤ n) (sym same) high)))
    go (inr ge) =
        let order = p.order in
        let end : to ≡ from + i = omega arith in
        subst (IsCharBoundary xs) end p.stop

-- code on one line is a part of that line
pub code-line : (source : List ℕ) (from to : ℕ) → IsPlace source from to → IsUtf8 (slice_range source from to) → is_one_line (slice_range source from to) ≡ true → IsText source (from + padding (slice_range source from to)) (to - padding (slice_range source from to)) × (slice_range source (from + padding (slice_range source from to)) (to - padding (slice_range source from to)) ≡ code_text (slice_range source from to))
code-line source from to place utf8 one =
    let bs : List ℕ = slice_range source from to in
    let pad : ℕ = padding bs in
    let order = place.order in
    let len : length bs ≡ to - from = length-slice source from to place.stop.0 in
    let p = pads bs utf8 in
    let inside = p.place.order in
    let within = p.place.stop.0 in
    let end : from + (length bs - pad) ≡ to - pad = omega arith in
    let part : slice_range bs pad (length bs - pad) ≡ slice_range source (from + pad) (to - pad) =
    slice-slice source from to pad (length bs - pad) inside (omega arith) ∙ ap (slice_range source (from + pad)) end in
    let line : is_one_line (slice_range bs pad (length bs - pad)) ≡ true =
    is_one_line-take (length bs - pad - pad) (drop pad bs) (is_one_line-drop pad bs one) in (
      record {
        place = record {
          order = omega arith;
          start = boundary-out source from to pad place (omega arith) p.place.start;
          stop = subst (IsCharBoundary source) end (boundary-out source from to (length bs - pad) place (omega arith) p.place.stop);
        };
        one_line = ap is_one_line (sym part) ∙ line;
      },
      sym part ∙ (sym (spaced-one_line (slice_range bs pad (length bs - pad)) line) ∙ sym p.value),
    )
  where
    is_one_line-take : (n : ℕ) (xs : List ℕ) → is_one_line xs ≡ true → is_one_line (take n xs) ≡ true
    is_one_line-take n xs h = is_one_line-front (take n xs) (drop n xs) (ap is_one_line (take-append-drop n xs) ∙ h)
