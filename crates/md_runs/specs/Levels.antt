-- How deep inlines stand in one another.
use Rattle.std.specs.Prelude.{ℕ, ◌-◌, nat_lt, Bool, true, false, ◌&&◌, ◌||◌, not, if◌then◌else◌}
use Rattle.std.specs.Str.{bytes_eq}
use Rattle.md_tree.specs.declared.event.Event.TheVariants as event
use Rattle.md_tree.specs.declared.event.Tag.{Tag}
use Rattle.md_tree.specs.declared.event.Tag.TheVariants as tag
use Rattle.md_tree.specs.Tree.{Nodes, Empty, Leaf, Branch}

abbrev pub is_group : Tag → Bool
is_group (tag.Link dest) = true
is_group (tag.Image dest) = true
is_group _ = false

-- a link whose text is its destination, as one in angle brackets is
abbrev pub is_address : Tag → Nodes → Bool
is_address (tag.Link dest) (Leaf (event.Text text) Empty) = bytes_eq dest text
is_address _ _ = false

-- links and images stand at most so many deep in one another, an address aside, which may stand in the innermost
abbrev pub groups_within : ℕ → Nodes → Bool
groups_within depth Empty = true
groups_within depth (Leaf e rest) = groups_within depth rest
groups_within depth (Branch t inside rest) =
    (((is_address t inside || not (is_group t)) || nat_lt 0 depth) && groups_within (if is_group t then depth - 1 else depth) inside)
    && groups_within depth rest

-- a styled inline stands in fewer than so many links, images and styled inlines; strong holding emphasis is two of these
abbrev pub styles_within : ℕ → Nodes → Bool
styles_within levels Empty = true
styles_within levels (Leaf e rest) = styles_within levels rest
styles_within levels (Branch t inside rest) =
    ((is_group t || nat_lt 0 levels) && styles_within (levels - 1) inside) && styles_within levels rest
