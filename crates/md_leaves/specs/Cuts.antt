-- Places that a source may be cut at: what a leaf tells of the text at its place.
use Rattle.std.specs.Prelude.{◌≡◌, ℕ, ◌+◌, ◌-◌, ◌≤◌, true, Option, None, Some, List, [], ◌∷◌}
use Rattle.std.specs.List.{slice_range}
use Rattle.std.specs.Str.{IsCharBoundary}
use Rattle.term_text.specs.LineEnds.{is_one_line}
use Rattle.md_leaves.specs.declared.leaf.Kind.{Kind}
use Rattle.md_leaves.specs.declared.leaf.Kind.TheVariants as kind
use Rattle.md_leaves.specs.declared.leaf.Lone.TheVariants as lone
use Rattle.md_leaves.specs.declared.leaf.Leaf.{Leaf}
use Rattle.md_leaves.specs.declared.leaf.Lone.{Lone}
use Rattle.md_leaves.specs.declared.leaf.Target.{Target}

-- a place between two characters each
pub record IsPlace (source : List ℕ) (from to : ℕ) : Type 0 where
  pub order : from ≤ to
  pub start : IsCharBoundary source from
  pub stop : IsCharBoundary source to

-- a place on one line
pub record IsText (source : List ℕ) (from to : ℕ) : Type 0 where
  pub place : IsPlace source from to
  pub one_line : is_one_line (slice_range source from to) ≡ true

abbrev pub IsTarget : List ℕ → Option Target → Type 0
IsTarget source None = Unit {0}
IsTarget source (Some target) = IsText source target.from target.to

-- the texts that a leaf by itself may give
abbrev pub IsLone : List ℕ → Lone → ℕ → ℕ → Type 0
IsLone source lone.Text from to = IsText source from to
IsLone source lone.Escape from to = IsText source (from + 1) to
IsLone source lone.SoftBreak from to = Unit {0}
IsLone source lone.HardBreak from to = Unit {0}
IsLone source (lone.Code ticks) from to = IsPlace source (from + ticks) (to - ticks)
IsLone source lone.DisplayMath from to = IsPlace source (from + 2) (to - 2)
IsLone source lone.InlineMath from to = IsText source (from + 1) (to - 1)
IsLone source lone.Address from to = IsText source from to × IsText source (from + 1) (to - 1)
IsLone source lone.Html from to = IsText source from to
IsLone source lone.FootnoteReference from to = IsText source (from + 2) (to - 1)

-- the texts that a leaf of a kind may give; a run may lose characters at its end
abbrev pub IsCut : List ℕ → Kind → ℕ → ℕ → Type 0
IsCut source (kind.Lone l) from to = IsLone source l from to
IsCut source (kind.Opener is_image) from to = IsText source from to
IsCut source (kind.Closer target) from to = IsText source from to × IsTarget source target
IsCut source (kind.Run mark opens closes) from to = (n : ℕ) → n ≤ to - from → IsText source from (to - n)

abbrev pub IsLeaf : List ℕ → Leaf → Type 0
IsLeaf source leaf = IsCut source leaf.kind leaf.from leaf.to

abbrev pub AreLeaves : List ℕ → List Leaf → Type 0
AreLeaves source [] = Unit {0}
AreLeaves source (leaf ∷ leaves) = IsLeaf source leaf × AreLeaves source leaves
