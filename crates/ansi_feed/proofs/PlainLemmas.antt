-- Kept lines that are printed one by one.
use Rattle.std.proofs.Common.{◌≡◌, ◌<◌, ◌≤◌, ◌+◌, ℕ, zero, suc, List, [], ◌∷◌, ◌++◌, length, take, get_or, map, refl, ap, sym, ◌∙◌, arith, append_assoc, append-nil, take_all}
use Rattle.std.specs.Prelude.{Some, None, slice_get}
use Rattle.std.proofs.lemmas.List.{map-append, take_more}
use Rattle.term_text.specs.Lists.{joined}
use Rattle.term_text.specs.Text.{LineView, SpanView}
use Rattle.ansi_feed.specs.Plain.{line_text, printed}

pub printed-none : (out : List ℕ) (lines : List LineView) → out ≡ [] → out ≡ printed (take 0 lines)
unfolding printed
printed-none out lines e = e

pub get-within : {A : Type 0} (xs : List A) (k : ℕ) (x : A) → slice_get xs k ≡ Some x → k < length xs
get-within [] k x h = cc
get-within (y ∷ xs) zero x h = omega arith
get-within (y ∷ xs) (suc k) x h = omega (arith, get-within xs k x h)

printed-append : (xs ys : List LineView) → printed (xs ++ ys) ≡ printed xs ++ printed ys
unfolding printed
printed-append [] ys = refl
printed-append (x ∷ xs) ys =
    ap (λ (bs : List ℕ). line_text x ++ (10 ∷ bs)) (printed-append xs ys)
    ∙ sym (append_assoc (line_text x) (10 ∷ printed xs) (printed ys))

printed-one : (line : LineView) → printed (line ∷ []) ≡ line_text line ++ 10 ∷ []
unfolding printed
printed-one line = refl

take-suc : {A : Type 0} (xs : List A) (k : ℕ) (x : A) → slice_get xs k ≡ Some x → take (suc k) xs ≡ take k xs ++ x ∷ []
take-suc [] k x h = cc
take-suc (y ∷ xs) zero x h = some h
  where
    some : Some y ≡ Some x → y ∷ [] ≡ x ∷ []
    some e = cc
take-suc (y ∷ xs) (suc k) x h = ap (λ zs. y ∷ zs) (take-suc xs k x h)

take-get : {A : Type 0} (xs : List A) (k : ℕ) (x : A) → slice_get xs k ≡ Some x → take (k + 1) xs ≡ take k xs ++ x ∷ []
take-get xs k x h = let next : k + 1 ≡ suc k = omega arith in ap (λ (n : ℕ). take n xs) next ∙ take-suc xs k x h

take-none : {A : Type 0} (xs : List A) (k : ℕ) → slice_get xs k ≡ None → take k xs ≡ xs
take-none [] zero h = refl
take-none [] (suc k) h = refl
take-none (y ∷ xs) zero h = cc
take-none (y ∷ xs) (suc k) h = ap (λ zs. y ∷ zs) (take-none xs k h)

-- one line more
pub printed-more : (out more : List ℕ) (lines : List LineView) (k : ℕ) (line : LineView) → out ≡ printed (take k lines) → slice_get lines k ≡ Some line
    → more ≡ out ++ (line_text line ++ 10 ∷ []) → more ≡ printed (take (k + 1) lines)
printed-more out more lines k line is here more_is =
    more_is ∙ ap (λ (bs : List ℕ). bs ++ (line_text line ++ 10 ∷ [])) is
    ∙ ap (λ (bs : List ℕ). printed (take k lines) ++ bs) (sym (printed-one line))
    ∙ sym (printed-append (take k lines) (line ∷ []))
    ∙ ap printed (sym (take-get lines k line here))

-- no line is left
pub printed-all : (out : List ℕ) (lines : List LineView) (k : ℕ) → out ≡ printed (take k lines) → slice_get lines k ≡ None → out ≡ printed lines
printed-all out lines k is none = is ∙ ap printed (take-none lines k none)

joined-append : (xs ys : List (List ℕ)) → joined (xs ++ ys) ≡ joined xs ++ joined ys
joined-append [] ys = refl
joined-append (x ∷ xs) ys = ap (λ (bs : List ℕ). x ++ bs) (joined-append xs ys) ∙ sym (append_assoc x (joined xs) (joined ys))

-- the texts of spans
abbrev pub span_texts : List SpanView → List ℕ
span_texts ss = joined (map (λ (s : SpanView). s.text) ss)

pub span_texts-append : (xs ys : List SpanView) → span_texts (xs ++ ys) ≡ span_texts xs ++ span_texts ys
span_texts-append xs ys =
    ap joined (map-append (λ (s : SpanView). s.text) xs ys) ∙ joined-append (map (λ (s : SpanView). s.text) xs) (map (λ (s : SpanView). s.text) ys)

-- one span more
pub texts-more : (out more text : List ℕ) (begun : List ℕ) (spans : List SpanView) (k : ℕ) (span : SpanView) → out ≡ begun ++ span_texts (take k spans)
    → k < length spans → span ≡ get_or spans k span → text ≡ span.text → more ≡ out ++ text → more ≡ begun ++ span_texts (take (k + 1) spans)
texts-more out more text begun spans k span is lt here text_is more_is =
    more_is ∙ ap (λ (bs : List ℕ). bs ++ text) is ∙ append_assoc begun (span_texts (take k spans)) text
    ∙ ap (λ (bs : List ℕ). begun ++ bs)
    (ap (λ (bs : List ℕ). span_texts (take k spans) ++ bs) (text_is ∙ sym (append-nil span.text))
    ∙ sym (span_texts-append (take k spans) (span ∷ []))
    ∙ ap span_texts (sym (take_more spans k span lt ∙ ap (λ x. take k spans ++ x ∷ []) (sym here))))

-- the number is not below that of the lines
pub printed-end : (out : List ℕ) (lines : List LineView) (k : ℕ) → out ≡ printed (take k lines) → length lines ≤ k → out ≡ printed lines
printed-end out lines k is h = is ∙ ap printed (take_all k lines h)
