-- The first character of a text.
use Rattle.std.proofs.Common.{◌≡◌, ℕ, ◌-◌, List, ◌++◌, length, take, slice_range, ap, ap₂, sym, subst, ◌∙◌, arith, length-append}
use Rattle.std.specs.Prelude.{encode_utf8}
use Rattle.std.specs.Str.{IsCharBoundary, IsUtf8}
use Rattle.std.proofs.Math.Seq.{take-append_seam}
use Rattle.std.proofs.lemmas.Str.{IsCharBoundary-at_seam}

-- it ends where the rest begins
first-end : (text rest : List ℕ) (c : ℕ) → text ≡ encode_utf8 c ++ rest → length text - length rest ≡ length (encode_utf8 c)
first-end text rest c e =
    let sizes : length text ≡ length (encode_utf8 c ++ rest) = ap length e in
    omega (arith, sizes, length-append (encode_utf8 c) rest)

pub first-boundary : (text rest : List ℕ) (c : ℕ) → text ≡ encode_utf8 c ++ rest → IsUtf8 rest → IsCharBoundary text (length text - length rest)
first-boundary text rest c e utf8 =
    subst (λ (n : ℕ). IsCharBoundary text n) (sym (first-end text rest c e)) (IsCharBoundary-at_seam text (encode_utf8 c) rest e utf8)

pub first-symbol : (text rest : List ℕ) (c : ℕ) → text ≡ encode_utf8 c ++ rest → slice_range text 0 (length text - length rest) ≡ encode_utf8 c
first-symbol text rest c e = ap₂ take (from_start (length text - length rest) ∙ first-end text rest c e) e ∙ take-append_seam (encode_utf8 c) rest
  where
    from_start : (n : ℕ) → n - 0 ≡ n
    from_start n = omega arith
