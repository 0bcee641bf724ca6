-- Inlines with their texts: texts that touch in the source are one.
use Rattle.std.specs.Prelude.{ℕ, ◌==◌, Bool, false, if◌then◌else◌, Option, None, Some, List}
use Rattle.std.specs.List.{slice_range}
use Rattle.md_tree.specs.declared.event.Event.TheVariants as event
use Rattle.md_tree.specs.Tree.{Nodes}
use Rattle.md_tree.specs.Tree as nodes
use Rattle.md_leaves.specs.declared.leaf.Leaf.{Leaf}
use Rattle.md_runs.specs.declared.pen.Place.{Place}
use Rattle.md_runs.specs.Nest.{Inlines, nest}
use Rattle.md_runs.specs.Nest as inline

-- the bytes at a place
abbrev pub bytes_at : List ℕ → Place → List ℕ
bytes_at source p = slice_range source p.from p.to

-- a place begins where another ends
abbrev pub touch : Place → Place → Bool
touch p q = p.to == q.from

abbrev pub both : Place → Place → Place
both p q = record { from = p.from; to = q.to }

-- a text and the one behind it as one, if they touch
abbrev pub longer : Option Place → Place → Option Place
longer None q = None
longer (Some p) q = if touch p q then Some (both p q) else None

-- a text in front of nodes, if there is one
abbrev pub text_then : List ℕ → Option Place → Nodes → Nodes
text_then source None rest = rest
text_then source (Some p) rest = nodes.Leaf (event.Text (bytes_at source p)) rest

-- the nodes of inlines behind a text, if there is one: texts that touch are one text
unfoldable pub spelled : List ℕ → Option Place → Inlines → Nodes
spelled source p inline.Empty = text_then source p nodes.Empty
spelled source None (inline.Text q rest) = spelled source (Some q) rest
spelled source (Some p) (inline.Text q rest) =
    if touch p q then spelled source (Some (both p q)) rest
    else nodes.Leaf (event.Text (bytes_at source p)) (spelled source (Some q) rest)
spelled source p (inline.Leaf e rest) = text_then source p (nodes.Leaf e (spelled source None rest))
spelled source p (inline.Branch t inside rest) =
    text_then source p (nodes.Branch t (spelled source None inside) (spelled source None rest))

-- the nodes of the leaves of a source: links and images stand at most 32 deep, and runs pair in at most 32 levels
abbrev pub inlines_of : List ℕ → List Leaf → Nodes
inlines_of source leaves = spelled source None (nest source 32 32 false leaves)
