-- Code: backticks, and the text up to as many of them.
use Rattle.std.specs.Prelude.{ℕ, suc, ◌+◌, ◌-◌, ◌==◌, Bool, if◌then◌else◌, Option, Some, None, List, [], ◌∷◌, drop}
use Rattle.std.specs.List.{prefix_len}
use Rattle.std.specs.Option.{option_map}
use Rattle.md_leaves.specs.declared.leaf.Kind.TheVariants as kind
use Rattle.md_leaves.specs.declared.leaf.Lone.TheVariants as lone
use Rattle.md_leaves.specs.declared.cut.Cut.{Cut}

abbrev pub is_tick : ℕ → Bool
is_tick b = b == 96

-- how many bytes stand before the end of the first maximal run of n backticks, where so many backticks stand before the bytes
unfoldable pub run_end : ℕ → ℕ → List ℕ → Option ℕ
run_end n before [] = if before == n then Some 0 else None
run_end n before (b ∷ bs) =
    if is_tick b then option_map suc (run_end n (suc before) bs)
    else if before == n then Some 0
    else option_map suc (run_end n 0 bs)

-- n backticks with what stands behind them up to the end of the next n, or alone
abbrev pub code_or_text : ℕ → Option ℕ → Cut
code_or_text n (Some k) = record { kind = kind.Lone (lone.Code n); more = n - 1 + k }
code_or_text n None = record { kind = kind.Lone lone.Text; more = n - 1 }

-- A maximal run of n backticks is code up to the first later maximal run of exactly n. Without one it is text, and taken
-- whole, so that no code begins inside it.
abbrev pub code : List ℕ → Option Cut
code bs =
    let n = prefix_len is_tick bs in
    if n == 0 then None else Some (code_or_text n (run_end n 0 (drop n bs)))
