-- Runs and the characters beside them.
use Rattle.std.proofs.Common.{List, [], ◌∷◌, ◌++◌, length, drop, take, reverse, get_or, ◌≡◌, ◌≤◌, ◌<◌, ◌+◌, ◌==◌, ℕ, zero, suc, refl, sym, ap, subst, ◌∙◌, arith, Bool, true, false, cond, append-nil, add-zero, length-drop, Some}
use lib.Utf8.{encode}
use Rattle.std.specs.Char.{IsScalar}
use Rattle.std.specs.Str.{IsUtf8, IsCharBoundary, chars}
use Rattle.std.specs.List.{prefix_len}
use Rattle.std.proofs.lemmas.Bool.Decides.{nat_tests}
use Rattle.std.proofs.lemmas.List.{reverse-append, take_at, get_or-drop, drop-drop}
use Rattle.std.proofs.lemmas.Str.{chars-nil, chars-append, chars_past_char, IsUtf8-encode, IsUtf8-take, IsCharBoundary-at_seam, IsCharBoundary-before_ascii, IsCharBoundary-after_ascii}
use Rattle.md_leaves.specs.declared.leaf.Mark.{Mark}
use Rattle.md_leaves.specs.Runs.{char_after, char_before, mark_of, run, run_between, run_of}

-- the last character of a text
pub char_before-last : (bs front : List ℕ) (c : ℕ) → IsUtf8 bs → IsScalar c → bs ≡ front ++ encode c → c ≡ char_before bs
char_before-last bs front c utf8 scalar is =
    let last : IsUtf8 (encode c) = IsUtf8-encode c scalar in
    let first : IsUtf8 front = subst IsUtf8 (ap (take (length front)) is ∙ take_at front (encode c) (length front) refl) (IsUtf8-take bs (length front) utf8 (IsCharBoundary-at_seam bs front (encode c) is last)) in
    let one : chars (encode c) ≡ c ∷ [] = chars_past_char (encode c) [] c last (sym (append-nil (encode c))) ∙ ap (λ x. c ∷ x) chars-nil in
    let all : chars bs ≡ chars front ++ c ∷ [] = ap chars is ∙ (chars-append front (encode c) first ∙ ap (λ x. chars front ++ x) one) in
    sym (ap (λ x. get_or (reverse x) 0 10) all ∙ ap (λ x. get_or x 0 10) (reverse-append (chars front) (c ∷ [])))

-- the bytes that are counted in front pass the test
pub prefix_len-holds : (p : ℕ → Bool) (bs : List ℕ) (k : ℕ) → k < prefix_len p bs → p (get_or bs k 0) ≡ true
prefix_len-holds p [] k lt = absurd (omega arith)
prefix_len-holds p (x ∷ bs) k lt = go (p x) refl k lt (λ j. prefix_len-holds p bs j)
  where
    go : (v : Bool) → p x ≡ v → (k : ℕ) → k < cond v (1 + prefix_len p bs) 0 → ((j : ℕ) → j < prefix_len p bs → p (get_or bs j 0) ≡ true) → p (get_or (x ∷ bs) k 0) ≡ true
    go true e zero lt rest = e
    go true e (suc k) lt rest = rest k (omega arith)
    go false e k lt rest = absurd (omega arith)

-- and the byte behind them does not
pub prefix_len-stops : (p : ℕ → Bool) (bs : List ℕ) → p 0 ≡ false → p (get_or bs (prefix_len p bs) 0) ≡ false
prefix_len-stops p [] nul = nul
prefix_len-stops p (x ∷ bs) nul = go (p x) refl (prefix_len-stops p bs nul)
  where
    go : (v : Bool) → p x ≡ v → p (get_or bs (prefix_len p bs) 0) ≡ false → p (get_or (x ∷ bs) (cond v (1 + prefix_len p bs) 0) 0) ≡ false
    go true e rest = ap (λ k. p (get_or (x ∷ bs) k 0)) (let h : 1 + prefix_len p bs ≡ suc (prefix_len p bs) = omega arith in h) ∙ rest
    go false e rest = e

pub prefix_len-within : (p : ℕ → Bool) (bs : List ℕ) → prefix_len p bs ≤ length bs
prefix_len-within p [] = omega arith
prefix_len-within p (x ∷ bs) = go (p x) (prefix_len-within p bs)
  where
    go : (v : Bool) → prefix_len p bs ≤ length bs → cond v (1 + prefix_len p bs) 0 ≤ suc (length bs)
    go true h = omega arith
    go false h = omega arith

pub same_byte : (b k : ℕ) → (b == k) ≡ true → b ≡ k
same_byte b k e = grind (arith, nat_tests)

-- a source may be cut at each place in a run of one ASCII byte, and behind it
pub run-place : (source : List ℕ) (at n b : ℕ) → IsUtf8 source → at < length source → get_or source at 0 ≡ b → b < 128 → n ≤ prefix_len (λ x. x == b) (drop at source) → IsCharBoundary source (at + n)
run-place source at zero b utf8 lt is ascii le =
    let low : get_or source at 0 < 128 = omega arith in
    subst (IsCharBoundary source) (sym (add-zero at)) (IsCharBoundary-before_ascii source at lt low)
run-place source at (suc n) b utf8 lt is ascii le =
    let byte : get_or source (at + n) 0 ≡ b = sym (get_or-drop at source n 0) ∙ same_byte (get_or (drop at source) n 0) b (prefix_len-holds (λ x. x == b) (drop at source) n (omega arith)) in
    let low : get_or source (at + n) 0 < 128 = omega arith in
    let within : at + n < length source = omega (arith, prefix_len-within (λ x. x == b) (drop at source), length-drop at source) in
    subst (IsCharBoundary source) (let e : at + n + 1 ≡ at + suc n = omega arith in e) (IsCharBoundary-after_ascii source (at + n) utf8 within low)

pub mark_of-ascii : (b : ℕ) (mark : Mark) → mark_of b ≡ Some mark → b < 128
mark_of-ascii b mark e = grind (arith, nat_tests)

-- the run at a place, by its first byte
pub run-marked : (source : List ℕ) (at n b : ℕ) (mark : Mark) → get_or source at 0 ≡ b → mark_of b ≡ Some mark → n ≡ prefix_len (λ x. x == b) (drop at source) → run source at (drop at source) ≡ Some (run_between mark n (char_before (take at source)) (char_after (drop (at + n) source)))
run-marked source at n b mark is some count =
    let first : get_or (drop at source) 0 0 ≡ b = get_or-drop at source 0 0 ∙ (ap (λ k. get_or source k 0) (add-zero at) ∙ is) in
    ap (λ x. run_of source at (drop at source) (prefix_len (λ y. y == x) (drop at source)) (mark_of x)) first
    ∙ (ap (λ k. run_of source at (drop at source) k (mark_of b)) (sym count)
    ∙ (ap (run_of source at (drop at source) n) some
    ∙ ap (λ x. Some (run_between mark n (char_before (take at source)) (char_after x))) (drop-drop n at source)))

-- so many of the byte at a place stand there
pub record IsCounted (source : List ℕ) (at n b : ℕ) : Type 0 where
  pub first : get_or source at 0 ≡ b
  pub count : n ≡ prefix_len (λ x. x == b) (drop at source)

pub counted : (source bytes rest : List ℕ) (at n : ℕ) → bytes ≡ source → rest ≡ drop at bytes → n ≡ prefix_len (λ x. x == get_or bytes at 0) rest → IsCounted source at n (get_or bytes at 0)
counted source bytes rest at n same behind count = record {
  first = ap (λ x. get_or x at 0) (sym same);
  count = count ∙ ap (prefix_len (λ x. x == get_or bytes at 0)) (behind ∙ ap (drop at) same);
}
