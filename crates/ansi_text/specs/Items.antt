-- The items of an SGR sequence.
use Rattle.std.specs.Prelude.{ℕ, ◌==◌, Bool, ◌||◌, List, Option, Some, None, if◌then◌else◌}
use Rattle.std.specs.Option.{option_and_then, option_map}
use Rattle.term_text.specs.declared.style.Color.{Color}
use Rattle.term_text.specs.declared.style.Color.TheVariants.{Rgb, Indexed}
use Rattle.ansi_text.specs.declared.item.Item.{Item}
use Rattle.ansi_text.specs.Numbers.{NumberRead, byte, number, required, optional}

-- a colour that was read, and what follows it
pub record ColorRead : Type 0 where
  pub color : Color
  pub rest : List ℕ

-- an item that was read, and what follows it
pub record ItemRead : Type 0 where
  pub item : Item
  pub rest : List ℕ

-- `;` and a number of 0 to 255
abbrev pub next_byte : List ℕ → Option NumberRead
next_byte bs = option_and_then byte (required 59 bs)

-- a number of 0 to 255
abbrev pub indexed : List ℕ → Option ColorRead
indexed bs = option_map (λ (n : NumberRead). record { color = Indexed n.value; rest = n.rest }) (byte bs)

-- the blue of a colour behind its red and green, and its green behind its red
abbrev pub blue : ℕ → ℕ → List ℕ → Option ColorRead
blue r g bs = option_map (λ (b : NumberRead). record { color = Rgb r g b.value; rest = b.rest }) (next_byte bs)

abbrev pub green : ℕ → List ℕ → Option ColorRead
green r bs = option_and_then (λ (g : NumberRead). blue r g.value g.rest) (next_byte bs)

-- three numbers of 0 to 255 with `;` between
abbrev pub rgb : List ℕ → Option ColorRead
rgb bs = option_and_then (λ (r : NumberRead). green r.value r.rest) (byte bs)

-- after a colour's kind: for 2 red, green and blue, for 5 an index; any other number fails
abbrev pub color_of : ℕ → List ℕ → Option ColorRead
color_of kind bs = if kind == 2 then rgb bs else if kind == 5 then indexed bs else None

-- a colour is its kind, a decimal number with an optional sign, then `;`, then an optional `;`, then what the kind asks;
-- a number with a minus is neither 2 nor 5
abbrev pub color : List ℕ → Option ColorRead
color bs = option_and_then (λ (kind : NumberRead). option_and_then (λ rest. color_of kind.value (optional 59 rest)) (required 59 kind.rest)) (number (optional 43 bs))

-- the codes that a colour follows
abbrev pub takes_color : ℕ → Bool
takes_color n = n == 38 || n == 48

-- a code, for 38 and 48 an optional `;` and a colour, and an optional `;`
abbrev pub item_of : NumberRead → Option ItemRead
item_of n =
    if takes_color n.value
    then option_map (λ (c : ColorRead). record { item = record { code = n.value; color = Some c.color }; rest = optional 59 c.rest }) (color (optional 59 n.rest))
    else Some (record { item = record { code = n.value; color = None }; rest = optional 59 n.rest })

-- an item begins with a number of 0 to 255, its code
abbrev pub item : List ℕ → Option ItemRead
item bs = option_and_then item_of (byte bs)
