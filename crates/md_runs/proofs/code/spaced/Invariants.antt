use Rattle.std.proofs.Common.{length, map, ◌≡◌, ◌++◌}
use Rattle.std.specs.Prelude.{string_bytes}
use Rattle.std.specs.List.{slice_range}
use denote.Text.{Utf8}
use denote.Shadow.{shadow}
use Rattle.md_runs.specs.Code.{spaced}
use Rattle.md_runs.proofs.code.spaced.Given as goal

abbrev pub invariant-loop-rest : goal.invariant-loop-rest
invariant-loop-rest l = shadow (Utf8 l.rest) × (string_bytes l.joined ++ map spaced l.rest ≡ map spaced (slice_range l.text l.from l.to))

abbrev pub decreases-loop-rest : goal.decreases-loop-rest
decreases-loop-rest l = length l.rest
