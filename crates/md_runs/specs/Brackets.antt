-- Brackets: the leaves of a level, grouped into links and images.
use Rattle.std.specs.Prelude.{ℕ, zero, suc, Bool, true, false, not, ◌&&◌, if◌then◌else◌, Option, None, Some, List, [], ◌∷◌, take, drop}
use Rattle.md_leaves.specs.declared.leaf.Kind.{Kind}
use Rattle.md_leaves.specs.declared.leaf.Kind.TheVariants as kind
use Rattle.md_leaves.specs.declared.leaf.Leaf.{Leaf}
use Rattle.md_leaves.specs.declared.leaf.Target.{Target}
use Rattle.md_runs.specs.declared.part.Group.{Group}

-- a part of a level: a leaf by itself, or a link or an image of the leaves between an opener and its closer
pub data Part : Type 0 where
  Single : Leaf → Part
  Grouped : Bool → Target → List Leaf → Part

abbrev pub is_opener : Kind → Bool
is_opener (kind.Opener is_image) = true
is_opener _ = false

abbrev pub is_closer : Kind → Bool
is_closer (kind.Closer target) = true
is_closer _ = false

abbrev pub later : Option ℕ → Option ℕ
later None = None
later (Some k) = Some (suc k)

-- how many leaves stand before the closer that balances so many openers and one more: openers count up and closers down
unfoldable pub balance : ℕ → List Leaf → Option ℕ
balance n [] = None
balance zero (l ∷ ls) =
    if is_opener l.kind then later (balance 1 ls)
    else if is_closer l.kind then Some 0
    else later (balance zero ls)
balance (suc n) (l ∷ ls) =
    if is_opener l.kind then later (balance (suc (suc n)) ls)
    else if is_closer l.kind then later (balance n ls)
    else later (balance (suc n) ls)

-- the destination of a closer, where it has one
abbrev pub target_of : Kind → Option Target
target_of (kind.Closer target) = target
target_of _ = None

abbrev pub first_target : List Leaf → Option Target
first_target [] = None
first_target (l ∷ ls) = target_of l.kind

abbrev pub with_target : Bool → ℕ → Option Target → Option Group
with_target is_image k None = None
with_target is_image k (Some target) = Some (record { is_image = is_image; target = target; more = k })

-- what an opener makes of the leaves up to its balancing closer: a link or an image, if that closer has a destination,
-- and no link inside a link
abbrev pub group_of : Bool → Kind → Option ℕ → List Leaf → Option Group
group_of in_link (kind.Opener is_image) (Some k) ls =
    if in_link && not is_image then None else with_target is_image k (first_target (drop k ls))
group_of in_link _ _ ls = None

abbrev pub group_at : Bool → Leaf → List Leaf → Option Group
group_at in_link l ls = group_of in_link l.kind (balance 0 ls) ls

-- one of two lists, as a leaf makes no group or one
abbrev pub by_group : Option Group → List Part → (Group → List Part) → List Part
by_group None single grouped = single
by_group (Some g) single grouped = grouped g

-- the parts of the leaves after the first so many
unfoldable pub parts_after : Bool → ℕ → List Leaf → List Part
parts_after in_link n [] = []
parts_after in_link (suc n) (l ∷ ls) = parts_after in_link n ls
parts_after in_link zero (l ∷ ls) =
    by_group (group_at in_link l ls)
    (Single l ∷ parts_after in_link zero ls)
    (λ g. Grouped g.is_image g.target (take g.more ls) ∷ parts_after in_link (suc g.more) ls)

-- openers are taken from the left, each with its balancing closer; every other leaf is a part by itself
abbrev pub parts : Bool → List Leaf → List Part
parts in_link ls = parts_after in_link 0 ls

-- each leaf by itself
abbrev pub singles : List Leaf → List Part
singles [] = []
singles (l ∷ ls) = Single l ∷ singles ls
