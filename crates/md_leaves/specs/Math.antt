-- Math: what stands between dollars.
use Rattle.std.specs.Prelude.{ℕ, suc, ◌+◌, ◌-◌, ◌==◌, nat_lt, Bool, not, ◌&&◌, ◌||◌, if◌then◌else◌, Option, Some, None, List, [], ◌∷◌, drop}
use Rattle.std.specs.List.{prefix_len, slice_index}
use Rattle.std.specs.Option.{option_map}
use Rattle.term_text.specs.LineEnds.{ends_line}
use Rattle.md_lines.specs.Blanks.{is_blank}
use Rattle.md_leaves.specs.declared.leaf.Kind.TheVariants as kind
use Rattle.md_leaves.specs.declared.leaf.Lone.TheVariants as lone
use Rattle.md_leaves.specs.declared.cut.Cut.{Cut}

abbrev pub is_dollar : ℕ → Bool
is_dollar b = b == 36

-- how many bytes stand before the first `$$`
unfoldable pub pair_before : List ℕ → Option ℕ
pair_before [] = None
pair_before (b ∷ bs) =
    if is_dollar b && is_dollar (slice_index bs 0) then Some 0 else option_map suc (pair_before bs)

-- `$$` with the k bytes behind it and the next `$$`; the two characters alone where these follow at once, or none do
abbrev pub display_or_text : Option ℕ → Cut
display_or_text None = record { kind = kind.Lone lone.Text; more = 1 }
display_or_text (Some k) =
    if nat_lt 0 k then record { kind = kind.Lone lone.DisplayMath; more = k + 3 }
    else record { kind = kind.Lone lone.Text; more = 1 }

abbrev pub is_in_math : ℕ → Bool
is_in_math b = not (is_dollar b || ends_line b)

-- so many of these bytes may stand between two dollars: there are some, and no blank is the first or the last of them
abbrev pub may_be_math : ℕ → List ℕ → Bool
may_be_math n bs = nat_lt 0 n && (not (is_blank (slice_index bs 0)) && not (is_blank (slice_index bs (n - 1))))

-- `$` with what stands behind it up to the next `$` of the line, or alone
abbrev pub inline_or_text : List ℕ → Cut
inline_or_text bs =
    let n = prefix_len is_in_math bs in
    if is_dollar (slice_index bs n) && may_be_math n bs then record { kind = kind.Lone lone.InlineMath; more = n + 1 }
    else record { kind = kind.Lone lone.Text; more = 0 }

-- `$$` begins display math, and `$` inline math
abbrev pub math : List ℕ → Option Cut
math bs =
    if not (is_dollar (slice_index bs 0)) then None
    else if is_dollar (slice_index bs 1) then Some (display_or_text (pair_before (drop 2 bs)))
    else Some (inline_or_text (drop 1 bs))
