-- How many halvings lead to one line.
use Rattle.std.proofs.Common.{◌≡◌, ℕ, ◌+◌, ◌-◌, ◌*◌, ◌^◌, ◌<◌, ◌≤◌, sym, ap, subst, ◌∙◌, arith, add-one}
use Rattle.std.proofs.Math.Nat.{mul-le-mul_left, mul_assoc, pow-suc}

-- so many notes were made while n lines were halved down to d
pub record Halved {S : Type 0} (noted : ℕ → S → S → Type 0) (n d : ℕ) (old new : S) : Type 0 where
  pub count : ℕ
  pub left : 2 ^ count * (d - 1) ≤ n - 1
  pub bound : 2 ^ count ≤ 2 * n + 1
  pub some : d < n → 1 ≤ count
  pub notes : noted count old new

-- a power of two, and the next one
double : (k : ℕ) → 2 ^ (k + 1) ≡ 2 ^ k * 2
double k = ap (λ n. 2 ^ n) (add-one k) ∙ pow-suc 2 k

-- one time more halves what is left, which was two at least
less_left : (p d e n : ℕ) → e * 2 ≤ d + 1 → p * (d - 1) ≤ n → p * 2 * (e - 1) ≤ n
less_left p d e n half le =
    let part : p * (2 * (e - 1)) ≤ p * (d - 1) = mul-le-mul_left p (omega arith) in
    let same : p * 2 * (e - 1) ≡ p * (2 * (e - 1)) = mul_assoc p 2 (e - 1) in
    omega (arith, part, same, le)

within : (p d n : ℕ) → 2 ≤ d → p * (d - 1) ≤ n → p ≤ n
within p d n two le =
    let part : p * 1 ≤ p * (d - 1) = mul-le-mul_left p (omega arith) in
    omega (arith, part, le)

pub halved-more : {S : Type 0} (noted : ℕ → S → S → Type 0) (sum : (m n : ℕ) (a b c : S) → noted m a b → noted n b c → noted (m + n) a c)
    (n d e : ℕ) (a b c : S) → 2 ≤ d → e * 2 ≤ d + 1 → Halved noted n d a b → noted 1 b c → Halved noted n e a c
halved-more noted sum n d e a b c two half before more =
    let next = double before.count in
    let fits = within (2 ^ before.count) d (n - 1) two before.left in
    record {
      count = before.count + 1;
      left = subst (λ p. p * (e - 1) ≤ n - 1) (sym next) (less_left (2 ^ before.count) d e (n - 1) half before.left);
      bound = omega (arith, next, fits);
      some = λ _. omega arith;
      notes = sum before.count 1 a b c before.notes more;
    }
