-- Pads are borrowed from one text of blanks.
use Rattle.std.proofs.Common.{◌≡◌, ◌≤◌, ℕ, zero, suc, IsAscii, replicate, take, refl, ap, subst, sym, ◌∙◌, arith}
use Rattle.std.proofs.lemmas.List.{take-replicate}
use Rattle.std.proofs.lemmas.Str.{IsCharBoundary-from_ascii}
use Rattle.std.proofs.lemmas.Str.Ascii.{IsAscii-cons, IsAscii-nil}
use Rattle.std.specs.Str.{IsCharBoundary}
use Rattle.md_picture.specs.declared.row.TheConstants.{BLANKS}

blanks-whole : BLANKS.now ≡ replicate 256 32
blanks-whole = refl

blanks-ascii : (n : ℕ) → IsAscii (replicate n 32)
blanks-ascii zero = IsAscii-nil
blanks-ascii (suc n) = IsAscii-cons 32 (replicate n 32) (omega arith) (blanks-ascii n)

pub blanks-front : (n : ℕ) → n ≤ 256 → take n BLANKS.now ≡ replicate n 32
blanks-front n few = ap (take n) blanks-whole ∙ take-replicate n 256 32 few

pub blanks-boundary : (n : ℕ) → n ≤ 256 → IsCharBoundary BLANKS.now n
blanks-boundary n few = IsCharBoundary-from_ascii BLANKS.now n (subst IsAscii (sym blanks-whole) (blanks-ascii 256)) few
