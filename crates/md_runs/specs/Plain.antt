-- Leaves among which no element begins.
use Rattle.std.specs.Prelude.{ℕ, Bool, true, false, List, [], ◌∷◌, ◌++◌}
use Rattle.md_leaves.specs.declared.leaf.Kind.{Kind}
use Rattle.md_leaves.specs.declared.leaf.Kind.TheVariants as kind
use Rattle.md_leaves.specs.declared.leaf.Leaf.{Leaf}
use Rattle.md_runs.specs.Brackets.{is_opener}
use Rattle.md_runs.specs.Marks.{Step, alone_steps}

-- a link or an image may begin at an opener, and a pair at a run that opens
abbrev pub begins_element : Kind → Bool
begins_element (kind.Opener is_image) = true
begins_element (kind.Run mark opens closes) = opens
begins_element _ = false

abbrev pub leaf_begins_element : Leaf → Bool
leaf_begins_element l = begins_element l.kind

abbrev pub leaf_is_opener : Leaf → Bool
leaf_is_opener l = is_opener l.kind

-- leaves each by itself, in a link or not
unfoldable pub plain_steps : List ℕ → Bool → List Leaf → List Step
plain_steps source in_link [] = []
plain_steps source in_link (l ∷ ls) = alone_steps source in_link l.kind l.from l.to ++ plain_steps source in_link ls
