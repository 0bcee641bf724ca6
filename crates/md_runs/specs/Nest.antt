-- Inlines: links, images and pairs of runs, one in another.
use Rattle.std.specs.Prelude.{ℕ, zero, suc, ◌+◌, ◌-◌, ◌==◌, Bool, true, false, not, ◌||◌, if◌then◌else◌, Option, None, Some, List, [], ◌∷◌}
use Rattle.std.specs.List.{slice_range}
use Rattle.md_tree.specs.declared.event.Event.{Event}
use Rattle.md_tree.specs.declared.event.Event.TheVariants as event
use Rattle.md_tree.specs.declared.event.Tag.{Tag}
use Rattle.md_tree.specs.declared.event.Tag.TheVariants as tag
use Rattle.md_leaves.specs.declared.leaf.Kind.{Kind}
use Rattle.md_leaves.specs.declared.leaf.Kind.TheVariants as kind
use Rattle.md_leaves.specs.declared.leaf.Lone.TheVariants as lone
use Rattle.md_leaves.specs.declared.leaf.Leaf as cut
use Rattle.md_leaves.specs.declared.leaf.Lone.{Lone}
use Rattle.md_leaves.specs.declared.leaf.Mark.{Mark}
use Rattle.md_leaves.specs.declared.leaf.Mark.TheVariants as mark
use Rattle.md_runs.specs.declared.pair.Pair.{Pair}
use Rattle.md_runs.specs.declared.pen.Place.{Place}
use Rattle.md_runs.specs.Code.{code_text}
use Rattle.md_runs.specs.Brackets.{Part, Single, Grouped, parts, singles}
use Rattle.md_runs.specs.Pairs.{pair_at, between}

-- inlines in order: none, or a text, which is still a place in the source, a leaf or an element, and the rest
pub data Inlines : Type 0 where
  Empty : Inlines
  Text : Place → Inlines → Inlines
  Leaf : Event → Inlines → Inlines
  Branch : Tag → Inlines → Inlines → Inlines

-- emphasis, strong, or strong holding emphasis
abbrev pub stressed : ℕ → Inlines → Inlines → Inlines
stressed n inside rest =
    if n == 1 then Branch tag.Emphasis inside rest
    else if n == 2 then Branch tag.Strong inside rest
    else Branch tag.Strong (Branch tag.Emphasis inside Empty) rest

-- what a pair of runs of n of a character gives
abbrev pub styled : Mark → ℕ → Inlines → Inlines → Inlines
styled mark.Star n inside rest = stressed n inside rest
styled mark.Underscore n inside rest = stressed n inside rest
styled mark.Tilde n inside rest =
    if n == 1 then Branch tag.Subscript inside rest else Branch tag.Strikethrough inside rest
styled mark.Caret n inside rest = Branch tag.Superscript inside rest

abbrev pub text_at : ℕ → ℕ → Inlines → Inlines
text_at from to rest = Text (record { from = from; to = to }) rest

-- a link whose text is its destination
abbrev pub address : List ℕ → ℕ → ℕ → Inlines → Inlines
address source from to rest = Branch (tag.Link (slice_range source from to)) (text_at from to Empty) rest

-- a leaf that stands for itself; an address is a link, but in a link it is text
abbrev pub lone_inline : List ℕ → Bool → Lone → ℕ → ℕ → Inlines → Inlines
lone_inline source in_link lone.Text from to rest = text_at from to rest
lone_inline source in_link lone.Escape from to rest = text_at (from + 1) to rest
lone_inline source in_link lone.SoftBreak from to rest = Leaf event.SoftBreak rest
lone_inline source in_link lone.HardBreak from to rest = Leaf event.HardBreak rest
lone_inline source in_link (lone.Code ticks) from to rest =
    Leaf (event.Code (code_text (slice_range source (from + ticks) (to - ticks)))) rest
lone_inline source in_link lone.DisplayMath from to rest = Leaf (event.DisplayMath (slice_range source (from + 2) (to - 2))) rest
lone_inline source in_link lone.InlineMath from to rest = Leaf (event.InlineMath (slice_range source (from + 1) (to - 1))) rest
lone_inline source true lone.Address from to rest = text_at from to rest
lone_inline source false lone.Address from to rest = address source (from + 1) (to - 1) rest
lone_inline source in_link lone.Html from to rest = Leaf (event.InlineHtml (slice_range source from to)) rest
lone_inline source in_link lone.FootnoteReference from to rest =
    Leaf (event.FootnoteReference (slice_range source (from + 2) (to - 1))) rest

-- a leaf by itself, in a link or not; an opener, a closer or a run is text
abbrev pub alone : List ℕ → Bool → Kind → ℕ → ℕ → Inlines → Inlines
alone source in_link (kind.Lone l) from to rest = lone_inline source in_link l from to rest
alone source in_link _ from to rest = text_at from to rest

abbrev pub group_tag : Bool → List ℕ → Tag
group_tag is_image dest = if is_image then tag.Image dest else tag.Link dest

-- a part that is not in a pair, where inner reads the leaves inside a link or an image
abbrev pub unpaired : List ℕ → Bool → (Bool → List cut.Leaf → Inlines) → Part → Inlines → Inlines
unpaired source in_link inner (Single l) rest = alone source in_link l.kind l.from l.to rest
unpaired source in_link inner (Grouped is_image target ls) rest =
    Branch (group_tag is_image (slice_range source target.from target.to)) (inner is_image ls) rest

-- one of two, as a part is in no pair or the first of one
abbrev pub by_pair : Option Pair → Inlines → (Pair → Inlines) → Inlines
by_pair None single paired = single
by_pair (Some pair) single paired = paired pair

-- the inlines of the parts after the first so many, where inside reads the parts in a pair of n
unfoldable pub pairs_after : List ℕ → Bool → ℕ → (Bool → List cut.Leaf → Inlines) → (ℕ → List Part → Inlines) → ℕ → List Part → Inlines
pairs_after source in_link levels inner inside n [] = Empty
pairs_after source in_link levels inner inside (suc n) (p ∷ ps) = pairs_after source in_link levels inner inside n ps
pairs_after source in_link levels inner inside zero (p ∷ ps) =
    by_pair (pair_at source levels p ps)
    (unpaired source in_link inner p (pairs_after source in_link levels inner inside zero ps))
    (λ q. styled q.mark q.size
    (inside q.size (between q.size q.more ps))
    (pairs_after source in_link levels inner inside (suc q.more) ps))

-- The inlines of the parts of a level. From the left, a run that can open pairs with the first later run that fits; the
-- inside is paired in the same way. A pair is made only where so many levels are left; inner reads the leaves inside a
-- link or an image, where one level less is left. The parts stand in a link or not.
unfoldable pub pairs : List ℕ → Bool → (ℕ → Bool → List cut.Leaf → Inlines) → ℕ → List Part → Inlines
pairs source in_link inner zero ps = pairs_after source in_link 0 (λ i ls. inner 0 i ls) (λ n qs. Empty) 0 ps
pairs source in_link inner (suc zero) ps =
    pairs_after source in_link 1 (λ i ls. inner 0 i ls) (λ n qs. pairs source in_link inner zero qs) 0 ps
pairs source in_link inner (suc (suc m)) ps =
    pairs_after source in_link (suc (suc m)) (λ i ls. inner (suc m) i ls)
    (λ n qs. if n == 3 then pairs source in_link inner m qs else pairs source in_link inner (suc m) qs) 0 ps

-- The inlines of leaves, where links and images may stand so many deep, runs may pair so many levels deep, and the leaves
-- stand in a link or not.
unfoldable pub nest : List ℕ → ℕ → ℕ → Bool → List cut.Leaf → Inlines
nest source zero levels in_link ls = pairs source in_link (λ v i qs. Empty) levels (singles ls)
nest source (suc depth) levels in_link ls =
    pairs source in_link (λ v i qs. nest source depth v (in_link || not i) qs) levels (parts in_link ls)

-- how the leaves inside a link or an image are read, where these may stand so many deep further
abbrev pub inner : List ℕ → ℕ → Bool → ℕ → Bool → List cut.Leaf → Inlines
inner source zero in_link levels is_image ls = Empty
inner source (suc depth) in_link levels is_image ls = nest source depth levels (in_link || not is_image) ls

-- the parts of leaves: where no link or image may stand further, each leaf by itself
abbrev pub parts_of : ℕ → Bool → List cut.Leaf → List Part
parts_of zero in_link ls = singles ls
parts_of (suc depth) in_link ls = parts in_link ls
