-- What is found out of a source once, so that no search in it is made in vain.
use Rattle.std.specs.Prelude.{◌≡◌, ℕ, ◌+◌, ◌-◌, ◌==◌, ◌≤◌, ◌<◌, true, false, if◌then◌else◌, Option, Some, None, List, drop}
use Rattle.std.specs.List.{All, slice_index}
use Rattle.md_leaves.specs.declared.cut.Ahead.{Ahead}
use Rattle.md_leaves.specs.declared.ticks.TickRuns.{TickRuns}
use Rattle.md_leaves.specs.declared.parens.Parens.{Parens}
use Rattle.md_leaves.specs.Code.{is_tick, run_end}
use Rattle.md_leaves.specs.Closers.{balanced, empty_front}

-- from this offset on no maximal run of exactly n backticks stands
abbrev pub IsLastEnd : List ℕ → ℕ → ℕ → Type 0
IsLastEnd source n last = (at : ℕ) → last ≤ at → is_tick (slice_index source at) ≡ false → run_end n 0 (drop at source) ≡ None

-- such an offset for each length
abbrev pub AreLastEnds : List ℕ → List ℕ → Type 0
AreLastEnds source ends = (n : ℕ) → 0 < n → IsLastEnd source n (slice_index ends n)

abbrev pub KnowsRuns : List ℕ → TickRuns → Type 0
KnowsRuns source runs = runs.is_known ≡ true → AreLastEnds source runs.ends.items

-- no front with balanced parentheses goes over this offset
abbrev pub IsStop : List ℕ → ℕ → Type 0
IsStop source at = (level : ℕ) → balanced level (drop at source) ≡ empty_front level

abbrev pub KnowsStops : List ℕ → Parens → Type 0
KnowsStops source parens = parens.is_known ≡ true → All (λ at. IsStop source at) parens.stops.items

abbrev pub Knows : List ℕ → Ahead → Type 0
Knows source ahead = KnowsRuns source ahead.runs × KnowsStops source ahead.parens

-- how many `)` are left for the `(` before one more byte
abbrev pub closers_before : ℕ → ℕ → Option ℕ
closers_before closers b =
    if b == 40 then (if closers == 0 then None else Some (closers - 1))
    else if b == 41 then Some (closers + 1)
    else Some closers
