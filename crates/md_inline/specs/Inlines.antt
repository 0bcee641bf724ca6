-- The inlines of the lines of a source.
use Rattle.std.specs.Prelude.{ℕ, Bool, if◌then◌else◌, List, [], ◌∷◌, ◌++◌}
use Rattle.md_tree.specs.Tree.{Nodes}
use Rattle.md_leaves.specs.Leaves.{leaves}
use Rattle.md_runs.specs.Source.{source_of}
use Rattle.md_runs.specs.Texts.{inlines_of}

-- the inlines of the lines with these bodies: the source is cut into leaves, and then brackets, runs and texts are read
abbrev pub inlines : List (List ℕ) → Nodes
inlines bodies = inlines_of (source_of bodies) (leaves (source_of bodies))

-- a line of the source, with LF if it is not the last
abbrev pub with_line_end : List ℕ → Bool → List ℕ
with_line_end body is_last = if is_last then body else body ++ 10 ∷ []
