-- What a contract sees of a part.
use Rattle.std.specs.Prelude.{Option, None, Some, List}
use Rattle.md_leaves.specs.declared.leaf.Leaf.{Leaf}
use Rattle.md_runs.specs.declared.part.Group.{Group}
use Rattle.md_runs.specs.Brackets.{Part, Single, Grouped}

abbrev pub part_of : Leaf → Option Group → List Leaf → Part
part_of leaf None inside = Single leaf
part_of leaf (Some group) inside = Grouped group.is_image group.target inside
