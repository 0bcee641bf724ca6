-- What stands in angle brackets: addresses and HTML tags.
use Rattle.std.specs.Prelude.{ℕ, ◌==◌, nat_lt, Bool, true, not, ◌&&◌, ◌||◌, if◌then◌else◌, Option, Some, None, List, [], ◌∷◌, drop, length, codes}
use Rattle.std.specs.List.{list_any, prefix_len, slice_index, slice_range, starts_with}
use Rattle.std.specs.Char.{is_ascii_alphabetic, is_ascii_alphanumeric}
use Rattle.md_lines.specs.Blanks.{is_blank}
use Rattle.md_leaves.specs.declared.closer.Form.{Form}
use Rattle.md_leaves.specs.declared.leaf.Kind.TheVariants as kind
use Rattle.md_leaves.specs.declared.leaf.Lone.{Lone}
use Rattle.md_leaves.specs.declared.leaf.Lone.TheVariants as lone
use Rattle.md_leaves.specs.declared.cut.Cut.{Cut}
use Rattle.md_leaves.specs.Closers.{angled}

-- a scheme and at least one more character
abbrev pub has_scheme : List ℕ → List ℕ → Bool
has_scheme text scheme = nat_lt (length scheme) (length text) && starts_with (λ a b. a == b) text scheme

abbrev pub begins_address : List ℕ → Bool
begins_address text =
    (has_scheme text (codes "http:") || has_scheme text (codes "https:")) || has_scheme text (codes "mailto:")

-- an address: one of these schemes and more, without blanks
abbrev pub is_address : List ℕ → Bool
is_address text = begins_address text && not (list_any is_blank text)

-- ASCII letters, digits and `-`
abbrev pub is_name_byte : ℕ → Bool
is_name_byte b = is_ascii_alphanumeric b || b == 45

-- behind a name the end, a blank or `/` stands
abbrev pub ends_name : List ℕ → Bool
ends_name [] = true
ends_name (b ∷ bs) = is_blank b || b == 47

-- a name, which begins with a letter, and then anything behind a blank or `/`
abbrev pub named : List ℕ → Bool
named text = is_ascii_alphabetic (slice_index text 0) && ends_name (drop (prefix_len is_name_byte text) text)

-- a tag has its name at its start or behind `/`
abbrev pub is_tag : List ℕ → Bool
is_tag text = if slice_index text 0 == 47 then named (drop 1 text) else named text

abbrev pub lone_of : List ℕ → Option Lone
lone_of text = if is_address text then Some lone.Address else if is_tag text then Some lone.Html else None

abbrev pub cut_of : Form → Option Lone → Option Cut
cut_of form None = None
cut_of form (Some l) = Some (record { kind = kind.Lone l; more = form.to })

abbrev pub in_form : List ℕ → Option Form → Option Cut
in_form bs None = None
in_form bs (Some form) = cut_of form (lone_of (slice_range bs form.from form.to))

-- `<`, characters other than `<` and `>`, and `>` on one line: an address, or else a tag
abbrev pub angle : List ℕ → Option Cut
angle bs = in_form bs (angled bs)
