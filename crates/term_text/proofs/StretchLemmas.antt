-- A walk that takes printable bytes at once.
use Rattle.std.proofs.Common.{◌≡◌, ℕ, zero, suc, ◌+◌, ◌-◌, ◌<◌, ◌≤◌, ◌==◌, false, List, [], ◌∷◌, ◌++◌, map, length, take, drop, refl, sym, ap, ap₂, ◌∙◌, arith}
use Rattle.term_text.specs.declared.style.Style.{Style}
use Rattle.term_text.specs.declared.line_graphs.LineGraphemes.{LineGraphemes}
use Rattle.term_text.specs.Cut.{cut_from, mark_of, mark_after, len_of}
use Rattle.term_text.specs.Graph.{Grapheme}
use Rattle.term_text.specs.Iter.{stretch_left}
use Rattle.term_text.specs.LineIter.{line_left}
use Rattle.term_text.specs.Plain.{byte_grapheme}
use Rattle.term_text.proofs.CutLemmas.{cut_from-go, cut_from-stop}
use Rattle.term_text.proofs.LineLemmas.{line_left-stretch}

-- all of the bytes fit
stretch-fits : (style : Style) (bs : List ℕ) (rest : List Grapheme) (room count mark : ℕ) → length bs ≤ room
    → cut_from room count mark (map (byte_grapheme style) bs ++ rest) ≡ cut_from (room - length bs) (count + length bs) (mark_after bs count mark) rest
unfolding mark_after
stretch-fits style [] rest room count mark h = ap₂ (λ (r c : ℕ). cut_from r c mark rest) (omega arith) (omega arith)
stretch-fits style (b ∷ bs) rest room count mark h =
    cut_from-go room count mark (byte_grapheme style b) (map (byte_grapheme style) bs ++ rest) (omega arith)
    ∙ stretch-fits style bs rest (room - 1) (count + 1) (mark_of (b == 32) count mark) (omega arith)
    ∙ ap₂ (λ (r c : ℕ). cut_from r c (mark_after bs (count + 1) (mark_of (b == 32) count mark)) rest) (omega arith) (omega arith)

-- some byte does not fit
stretch-over : (style : Style) (bs : List ℕ) (rest : List Grapheme) (room count mark : ℕ) → room < length bs
    → cut_from room count mark (map (byte_grapheme style) bs ++ rest) ≡ (len_of (mark_after (take (room + 1) bs) count mark) (count + room), false)
unfolding mark_after
stretch-over style [] rest room count mark h = absurd (omega arith)
stretch-over style (b ∷ bs) rest zero count mark h =
    cut_from-stop 0 count mark (byte_grapheme style b) (map (byte_grapheme style) bs ++ rest) (omega arith)
    ∙ ap (λ (n : ℕ). (len_of (mark_of (b == 32) count mark) n, false)) (omega arith)
stretch-over style (b ∷ bs) rest (suc room) count mark h =
    cut_from-go (suc room) count mark (byte_grapheme style b) (map (byte_grapheme style) bs ++ rest) (omega arith)
    ∙ ap (λ (r : ℕ). cut_from r (count + 1) (mark_of (b == 32) count mark) (map (byte_grapheme style) bs ++ rest)) less
    ∙ stretch-over style bs rest room (count + 1) (mark_of (b == 32) count mark) (omega arith)
    ∙ ap₂ (λ (n k : ℕ). (len_of (mark_after (take n bs) (count + 1) (mark_of (b == 32) count mark)) k, false)) refl more
    ∙ ap (λ (n : ℕ). (len_of (mark_after (take n (b ∷ bs)) count mark) (count + suc room), false)) next
  where
    less : suc room - 1 ≡ room
    less = omega arith

    more : count + 1 + room ≡ count + suc room
    more = omega arith

    next : suc (room + 1) ≡ suc room + 1
    next = omega arith

pub line-stretch_fits : (s : LineGraphemes) (room count mark : ℕ) → length (stretch_left s.current) ≤ room
    → cut_from room count mark (line_left s)
    ≡ cut_from (room - length (stretch_left s.current)) (count + length (stretch_left s.current)) (mark_after (stretch_left s.current) count mark)
    (drop (length (stretch_left s.current)) (line_left s))
line-stretch_fits s room count mark h =
    let parts = line_left-stretch s in
    let bs : List ℕ = stretch_left s.current in
    ap (cut_from room count mark) parts.1 ∙ stretch-fits s.current.style bs parts.0 room count mark h
    ∙ ap (cut_from (room - length bs) (count + length bs) (mark_after bs count mark))
    (sym (ap (drop (length bs)) parts.1 ∙ rest-of s.current.style bs parts.0))
  where
    rest-of : (style : Style) (bs : List ℕ) (rest : List Grapheme) → drop (length bs) (map (byte_grapheme style) bs ++ rest) ≡ rest
    rest-of style [] rest = refl
    rest-of style (b ∷ bs) rest = rest-of style bs rest

pub line-stretch_over : (s : LineGraphemes) (room count mark : ℕ) → room < length (stretch_left s.current)
    → cut_from room count mark (line_left s) ≡ (len_of (mark_after (take (room + 1) (stretch_left s.current)) count mark) (count + room), false)
line-stretch_over s room count mark h =
    let parts = line_left-stretch s in
    ap (cut_from room count mark) parts.1 ∙ stretch-over s.current.style (stretch_left s.current) parts.0 room count mark h
