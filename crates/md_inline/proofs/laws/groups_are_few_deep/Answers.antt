use Rattle.md_leaves.specs.Leaves.{leaves}
use Rattle.md_runs.specs.Source.{source_of}
use Rattle.md_runs.proofs.Laws.{inlines_of-groups}
use Rattle.md_inline.proofs.laws.groups_are_few_deep.Goals as goal

pub returns : goal.returns
returns c = λ bodies. inlines_of-groups (source_of bodies) (leaves (source_of bodies))
