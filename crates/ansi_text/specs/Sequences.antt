-- SGR sequences.
use Rattle.std.specs.Prelude.{ℕ, zero, suc, ◌==◌, List, [], ◌∷◌, length, Option, Some, None, if◌then◌else◌}
use Rattle.std.specs.Option.{option_and_then}
use Rattle.ansi_text.specs.declared.item.Item.{Item}
use Rattle.ansi_text.specs.Numbers.{required}
use Rattle.ansi_text.specs.Items.{ItemRead, item}

-- the items of a sequence that was read, and what follows it
pub record Sequence : Type 0 where
  pub items : List Item
  pub rest : List ℕ

abbrev pub before : Item → Option Sequence → Option Sequence
before i None = None
before i (Some s) = Some (record { items = i ∷ s.items; rest = s.rest })

abbrev pub with_item : Option ItemRead → (List ℕ → Option Sequence) → Option Sequence
with_item None others = None
with_item (Some i) others = before i.item (others i.rest)

-- any number of items, and `m`, in at most n steps
unfoldable pub items_within : ℕ → List ℕ → Option Sequence
items_within zero bs = None
items_within (suc n) [] = None
items_within (suc n) (b ∷ bs) =
    if b == 109 then Some (record { items = []; rest = bs }) else with_item (item (b ∷ bs)) (λ rest. items_within n rest)

-- any number of items, and `m`; each step takes a byte
abbrev pub items : List ℕ → Option Sequence
items bs = items_within (length bs) bs

-- after ESC: `[`, any number of items, and `m`
abbrev pub sequence : List ℕ → Option Sequence
sequence bs = option_and_then items (required 91 bs)
