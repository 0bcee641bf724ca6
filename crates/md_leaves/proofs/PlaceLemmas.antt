-- Places of a source without line ends, and where it may be cut.
use Rattle.std.proofs.Common.{List, [], ◌∷◌, length, drop, get_or, ◌≡◌, ◌≤◌, ◌<◌, ◌+◌, ◌-◌, ℕ, suc, refl, sym, ap, subst, ◌∙◌, arith, Bool, true, false, not, ◌&&◌, nat_le, nat_lt, length-take}
use Rattle.std.specs.List.{prefix_len, slice_range}
use Rattle.std.specs.Str.{IsUtf8, IsCharBoundary}
use Rattle.std.proofs.lemmas.Bool.Decides.{nat_tests}
use Rattle.std.proofs.lemmas.List.{get_or-drop, get_or-take, get_or_past}
use Rattle.std.proofs.lemmas.Str.{IsCharBoundary-before_ascii, IsCharBoundary-after_ascii}
use Rattle.term_text.specs.LineEnds.{ends_line, is_one_line}
use Rattle.md_leaves.specs.Cuts.{IsText}
use Rattle.md_leaves.proofs.RunLemmas.{prefix_len-holds}

-- no line end stands between two places
abbrev pub Clean : List ℕ → ℕ → ℕ → Type 0
Clean source from to = (k : ℕ) → from ≤ k → k < to → ends_line (get_or source k 0) ≡ false

pub Clean-join : (source : List ℕ) (from at to : ℕ) → Clean source from at → Clean source at to → Clean source from to
Clean-join source from at to left right k le lt = go (nat_le at k) refl
  where
    go : (v : Bool) → nat_le at k ≡ v → ends_line (get_or source k 0) ≡ false
    go true e = right k (let h : at ≤ k = grind (arith, nat_tests) in h) lt
    go false e = left k le (let h : k < at = grind (arith, nat_tests) in h)

pub Clean-one : (source : List ℕ) (at : ℕ) → ends_line (get_or source at 0) ≡ false → Clean source at (at + 1)
Clean-one source at e k le lt = subst (λ j. ends_line (get_or source j 0) ≡ false) (let h : at ≡ k = omega arith in h) e

pub Clean-front : (p : ℕ → Bool) (source : List ℕ) (at n : ℕ) → ((b : ℕ) → p b ≡ true → ends_line b ≡ false) → n ≤ prefix_len p (drop at source) → Clean source at (at + n)
Clean-front p source at n plain le k from to =
    let place : at + (k - at) ≡ k = omega arith in
    plain (get_or source k 0)
    (ap p (sym (get_or-drop at source (k - at) 0 ∙ ap (λ j. get_or source j 0) place)) ∙ prefix_len-holds p (drop at source) (k - at) (omega arith))

one_line-from : (bs : List ℕ) → ((k : ℕ) → k < length bs → ends_line (get_or bs k 0) ≡ false) → is_one_line bs ≡ true
one_line-from [] clean = refl
one_line-from (b ∷ bs) clean =
    ap (λ v. not v && is_one_line bs) (clean 0 (omega arith)) ∙ one_line-from bs (λ k lt. clean (suc k) (omega arith))

pub Clean-one_line : (source : List ℕ) (from to : ℕ) → Clean source from to → is_one_line (slice_range source from to) ≡ true
Clean-one_line source from to clean = one_line-from (slice_range source from to) each
  where
    each : (k : ℕ) → k < length (slice_range source from to) → ends_line (get_or (slice_range source from to) k 0) ≡ false
    each k lt =
        let short : k < to - from = omega (arith, length-take (to - from) (drop from source)) in
        ap ends_line (get_or-take (to - from) (drop from source) k 0 short ∙ get_or-drop from source k 0) ∙ clean (from + k) (omega arith) (omega arith)

-- a text between two places
pub IsText-clean : (source : List ℕ) (from to : ℕ) → from ≤ to → IsCharBoundary source from → IsCharBoundary source to → Clean source from to → IsText source from to
IsText-clean source from to order start stop clean = record {
  place = record { order = order; start = start; stop = stop };
  one_line = Clean-one_line source from to clean;
}

-- a byte that is no NUL stands within the source
pub byte-within : (source : List ℕ) (at b : ℕ) → get_or source at 0 ≡ b → 0 < b → at < length source
byte-within source at b is some = go (nat_lt at (length source)) refl
  where
    go : (v : Bool) → nat_lt at (length source) ≡ v → at < length source
    go true e = grind (arith, nat_tests)
    go false e =
        let past : length source ≤ at = grind (arith, nat_tests) in
        absurd (omega (arith, get_or_past source at 0 past))

-- a source may be cut before and behind each ASCII byte
pub cut-before : (source : List ℕ) (at b : ℕ) → get_or source at 0 ≡ b → 0 < b → b < 128 → IsCharBoundary source at
cut-before source at b is some low = IsCharBoundary-before_ascii source at (byte-within source at b is some) (let h : get_or source at 0 < 128 = omega arith in h)

pub cut-behind : (source : List ℕ) (at b : ℕ) → IsUtf8 source → get_or source at 0 ≡ b → 0 < b → b < 128 → IsCharBoundary source (at + 1)
cut-behind source at b utf8 is some low = IsCharBoundary-after_ascii source at utf8 (byte-within source at b is some) (let h : get_or source at 0 < 128 = omega arith in h)
