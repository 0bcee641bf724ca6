-- The number that a word of the command line says.
use Rattle.std.specs.Prelude.{ℕ, ◌&&◌, nat_lt, nat_le, Bool, List, length, Option, Some, None, if◌then◌else◌}
use Rattle.std.specs.List.{list_all}
use Rattle.std.specs.Char.{is_ascii_digit}
use Rattle.std.specs.Str.Parse.{digits_value}

-- the word is 1 to 20 ASCII digits of a value at most the limit
abbrev pub is_number : ℕ → List ℕ → Bool
is_number limit text = list_all is_ascii_digit text
    && (nat_lt 0 (length text) && (nat_le (length text) 20 && nat_le (digits_value 10 text) limit))

-- the number that a word says
abbrev pub number_of : ℕ → List ℕ → Option ℕ
number_of limit text = if is_number limit text then Some (digits_value 10 text) else None
