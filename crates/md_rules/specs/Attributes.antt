-- The attributes of a heading.
use Rattle.std.specs.Prelude.{ℕ, ◌-◌, ◌==◌, Bool, not, ◌||◌, Option, None, Some, List, [], ◌∷◌, ◌++◌, length, take, drop, slice_index_or, if◌then◌else◌}
use Rattle.std.specs.List.{position_or_len, before_first, after_first, suffix_len}
use Rattle.md_lines.specs.Lines.{is_nothing}
use Rattle.md_rules.specs.declared.attributes.Attribute.{Attribute}
use Rattle.md_rules.specs.declared.attributes.Attribute.TheVariants.{Id, Class, Pair}
use Rattle.md_rules.specs.declared.attributes.Attributes.{Attributes}

abbrev pub is_equals : ℕ → Bool
is_equals b = b == 61

-- `key=value` cut at the first `=` with a key that is not empty, or `key` without `=`
abbrev pub pair : List ℕ → Option Attribute
pair word =
    if position_or_len is_equals word == length word then Some (Pair word None)
    else if position_or_len is_equals word == 0 then None
    else Some (Pair (before_first is_equals word) (Some (after_first is_equals word)))

-- what a word says by the first form that fits: `#id`, `.class`, `key=value` or `key`
abbrev pub attribute_of : List ℕ → Option Attribute
attribute_of [] = None
attribute_of (b ∷ bs) =
    if b == 35 then (if is_nothing bs then None else Some (Id bs))
    else if b == 46 then (if is_nothing bs then None else Some (Class bs))
    else pair (b ∷ bs)

abbrev pub no_attributes : Attributes
no_attributes = record { id = None; classes = []; attrs = [] }

-- one attribute more: the last id counts, classes and attributes stay in their order
abbrev pub with_attribute : Attributes → Attribute → Attributes
with_attribute a (Id id) = record { id = Some id; classes = a.classes; attrs = a.attrs }
with_attribute a (Class class) = record { id = a.id; classes = a.classes ++ class ∷ []; attrs = a.attrs }
with_attribute a (Pair key value) = record { id = a.id; classes = a.classes; attrs = a.attrs ++ (key, value) ∷ [] }

abbrev pub with_word : Option Attributes → Option Attribute → Option Attributes
with_word (Some a) (Some x) = Some (with_attribute a x)
with_word _ _ = None

-- the attributes with those of further words, if each is an attribute word
abbrev pub attributes_after : Option Attributes → List (List ℕ) → Option Attributes
attributes_after a [] = a
attributes_after a (word ∷ words) = attributes_after (with_word a (attribute_of word)) words

-- what one or more attribute words say
abbrev pub attributes_in : List (List ℕ) → Option Attributes
attributes_in [] = None
attributes_in (word ∷ words) = attributes_after (Some no_attributes) (word ∷ words)

-- a text and what stands between braces at its end
pub record Braced : Type 0 where
  pub before : List ℕ
  pub inside : List ℕ

abbrev pub is_brace : ℕ → Bool
is_brace b = b == 123 || b == 125

-- this byte stands last
abbrev pub ends_with : ℕ → List ℕ → Bool
ends_with c bs = slice_index_or bs (length bs - 1) 0 == c

-- the text up to its last brace
abbrev pub to_last_brace : List ℕ → List ℕ
to_last_brace bs = take (length bs - suffix_len (λ b. not (is_brace b)) bs) bs

-- what ends with `{` and the bytes behind it
abbrev pub braced_at : List ℕ → List ℕ → Option Braced
braced_at front text =
    if ends_with 123 front
    then Some (record { before = take (length front - 1) front; inside = drop (length front) text })
    else None

-- the text ends with `}`, and the last brace before it is `{`: so no other `}` stands between its last `{` and the end
abbrev pub braced : List ℕ → Option Braced
braced text =
    if ends_with 125 text
    then braced_at (to_last_brace (take (length text - 1) text)) (take (length text - 1) text)
    else None
