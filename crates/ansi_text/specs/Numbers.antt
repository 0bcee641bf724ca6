-- Decimal numbers and single bytes that stand in front of bytes.
use Rattle.std.specs.Prelude.{ℕ, ◌+◌, ◌-◌, ◌*◌, ◌==◌, nat_le, Bool, ◌&&◌, List, [], ◌∷◌, Option, Some, None, unwrap_or, if◌then◌else◌}
use Rattle.std.specs.Option.{option_and_then, option_map}

-- a number that was read, and what follows it
pub record NumberRead : Type 0 where
  pub value : ℕ
  pub rest : List ℕ

-- 0 to 9
abbrev pub is_digit : ℕ → Bool
is_digit b = nat_le 48 b && nat_le b 57

-- the digit that stands in front
abbrev pub digit : List ℕ → Option NumberRead
digit [] = None
digit (b ∷ bs) = if is_digit b then Some (record { value = b - 48; rest = bs }) else None

-- the number so far goes on with all the digits that stand there
unfoldable pub with_digits : ℕ → List ℕ → NumberRead
with_digits n [] = record { value = n; rest = [] }
with_digits n (b ∷ bs) = if is_digit b then with_digits (n * 10 + (b - 48)) bs else record { value = n; rest = b ∷ bs }

-- a decimal number is a digit and all the digits that stand behind it
abbrev pub number : List ℕ → Option NumberRead
number bs = option_map (λ (first : NumberRead). with_digits first.value first.rest) (digit bs)

abbrev pub unless_large : NumberRead → Option NumberRead
unless_large n = if nat_le n.value 255 then Some n else None

-- a decimal number of 0 to 255
abbrev pub byte : List ℕ → Option NumberRead
byte bs = option_and_then unless_large (number bs)

-- what follows the byte c, which has to stand in front
abbrev pub required : ℕ → List ℕ → Option (List ℕ)
required c [] = None
required c (b ∷ bs) = if b == c then Some bs else None

-- what follows the byte c, where it stands in front
abbrev pub optional : ℕ → List ℕ → List ℕ
optional c bs = unwrap_or (required c bs) bs
