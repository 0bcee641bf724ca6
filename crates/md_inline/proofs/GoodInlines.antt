-- The inlines of lines are good among inlines.
use Rattle.std.proofs.Common.{List, ◌≡◌, ℕ, true}
use Rattle.md_tree.specs.declared.place.Holds.TheVariants as level
use Rattle.md_tree.specs.Good.{good_at, level_of}
use Rattle.md_leaves.specs.Leaves.{leaves}
use Rattle.md_runs.specs.Source.{source_of}
use Rattle.md_runs.proofs.Laws.{inlines_of-good}
use Rattle.md_inline.specs.Inlines.{inlines}

pub inlines-good : (bodies : List (List ℕ)) → good_at (level_of level.Inlines) (inlines bodies) ≡ true
inlines-good bodies = inlines_of-good (source_of bodies) (leaves (source_of bodies))
