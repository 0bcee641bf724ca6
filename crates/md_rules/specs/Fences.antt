-- Code between fences.
use Rattle.std.specs.Prelude.{ℕ, suc, ◌+◌, ◌==◌, nat_le, min, Bool, not, ◌&&◌, Option, None, Some, List, [], ◌∷◌, length, drop, if◌then◌else◌}
use Rattle.std.specs.List.{list_all, list_any, prefix_len}
use Rattle.md_lines.specs.Lines.{LineText}
use Rattle.md_rules.specs.Shallow.{is_shallow}
use Rattle.md_rules.specs.Texts.{trimmed}
use Rattle.md_rules.specs.declared.fence.Fence.{Fence}

-- how often this mark begins a body
abbrev pub fence_run : ℕ → List ℕ → ℕ
fence_run mark body = prefix_len (λ b. b == mark) body

-- the info text is what follows the marks
abbrev pub fence_info : ℕ → List ℕ → List ℕ
fence_info mark body = trimmed (drop (fence_run mark body) body)

-- after backticks no backtick may stand
abbrev pub may_inform : ℕ → List ℕ → Bool
may_inform mark info = not (mark == 96 && list_any (λ b. b == 96) info)

-- a run of at least three of this mark, and an info text
abbrev pub fence_with : ℕ → LineText → Option Fence
fence_with mark line =
    if nat_le 3 (fence_run mark line.body) && may_inform mark (fence_info mark line.body)
    then Some (record { mark = mark; length = fence_run mark line.body; info = fence_info mark line.body; indent = line.indent })
    else None

abbrev pub or_fence : Option Fence → Option Fence → Option Fence
or_fence (Some fence) other = Some fence
or_fence None other = other

-- the fence of backticks or tildes that a line is
abbrev pub fence_of : LineText → Option Fence
fence_of line = if is_shallow line then or_fence (fence_with 96 line) (fence_with 126 line) else None

-- a run of at least as many of the same mark
abbrev pub is_closing : Fence → List ℕ → Bool
is_closing fence text = nat_le fence.length (length text) && list_all (λ b. b == fence.mark) text

abbrev pub closes_fence : Fence → LineText → Bool
closes_fence fence line = is_shallow line && is_closing fence (trimmed line.body)

-- how many lines stand before the one that closes the fence
unfoldable pub fenced : Fence → List LineText → ℕ
fenced fence [] = 0
fenced fence (line ∷ lines) = if closes_fence fence line then 0 else suc (fenced fence lines)

-- how many lines the fence takes: those, and the one that closes it where there is one
abbrev pub fence_more : Fence → List LineText → ℕ
fence_more fence lines = min (fenced fence lines + 1) (length lines)
