-- Inlines as a list of texts and events.
use Rattle.std.specs.Prelude.{ℕ, ◌+◌, ◌-◌, ◌==◌, Bool, true, false, if◌then◌else◌, Option, None, Some, List, [], ◌∷◌, ◌++◌}
use Rattle.std.specs.List.{slice_range}
use Rattle.md_tree.specs.declared.event.Event.{Event}
use Rattle.md_tree.specs.declared.event.Event.TheVariants as event
use Rattle.md_tree.specs.declared.event.Tag.TheVariants as tag
use Rattle.md_tree.specs.declared.event.TagEnd.TheVariants as tag_end
use Rattle.md_tree.specs.Tree.{end_of}
use Rattle.md_leaves.specs.declared.leaf.Kind.{Kind}
use Rattle.md_leaves.specs.declared.leaf.Kind.TheVariants as kind
use Rattle.md_leaves.specs.declared.leaf.Lone.TheVariants as lone
use Rattle.md_leaves.specs.declared.leaf.Lone.{Lone}
use Rattle.md_leaves.specs.declared.leaf.Mark as run
use Rattle.md_leaves.specs.declared.leaf.Mark.TheVariants as mark
use Rattle.md_runs.specs.declared.pen.Place.{Place}
use Rattle.md_runs.specs.Code.{code_text}
use Rattle.md_runs.specs.Nest.{Inlines, Empty, Text, Leaf, Branch}
use Rattle.md_runs.specs.Texts.{bytes_at, touch, both}

-- a text, which is still a place, or an event
pub data Step : Type 0 where
  At : Place → Step
  An : Event → Step

-- inlines, one after another, with a start and an end around each element
unfoldable pub steps : Inlines → List Step
steps Empty = []
steps (Text p rest) = At p ∷ steps rest
steps (Leaf e rest) = An e ∷ steps rest
steps (Branch t inside rest) = An (event.Start t) ∷ (steps inside ++ An (event.End (end_of t)) ∷ steps rest)

-- a text in front of events, if there is one
abbrev pub text_first : List ℕ → Option Place → List Event → List Event
text_first source None es = es
text_first source (Some p) es = event.Text (bytes_at source p) ∷ es

-- the events of the steps behind a text, if there is one
unfoldable pub joined : List ℕ → Option Place → List Step → List Event
joined source p [] = text_first source p []
joined source p (An e ∷ ss) = text_first source p (e ∷ joined source None ss)
joined source None (At q ∷ ss) = joined source (Some q) ss
joined source (Some p) (At q ∷ ss) =
    if touch p q then joined source (Some (both p q)) ss
    else event.Text (bytes_at source p) ∷ joined source (Some q) ss

-- what stands before the inside of a pair
abbrev pub stress_opened : ℕ → List Step
stress_opened n =
    if n == 1 then An (event.Start tag.Emphasis) ∷ []
    else if n == 2 then An (event.Start tag.Strong) ∷ []
    else An (event.Start tag.Strong) ∷ An (event.Start tag.Emphasis) ∷ []

abbrev pub opened : run.Mark → ℕ → List Step
opened mark.Star n = stress_opened n
opened mark.Underscore n = stress_opened n
opened mark.Tilde n =
    if n == 1 then An (event.Start tag.Subscript) ∷ [] else An (event.Start tag.Strikethrough) ∷ []
opened mark.Caret n = An (event.Start tag.Superscript) ∷ []

-- what stands after it
abbrev pub stress_closed : ℕ → List Step
stress_closed n =
    if n == 1 then An (event.End tag_end.Emphasis) ∷ []
    else if n == 2 then An (event.End tag_end.Strong) ∷ []
    else An (event.End tag_end.Emphasis) ∷ An (event.End tag_end.Strong) ∷ []

abbrev pub closed : run.Mark → ℕ → List Step
closed mark.Star n = stress_closed n
closed mark.Underscore n = stress_closed n
closed mark.Tilde n =
    if n == 1 then An (event.End tag_end.Subscript) ∷ [] else An (event.End tag_end.Strikethrough) ∷ []
closed mark.Caret n = An (event.End tag_end.Superscript) ∷ []

abbrev pub text_step : ℕ → ℕ → Step
text_step from to = At (record { from = from; to = to })

abbrev pub address_steps : List ℕ → ℕ → ℕ → List Step
address_steps source from to =
    An (event.Start (tag.Link (slice_range source from to))) ∷ text_step from to ∷ An (event.End tag_end.Link) ∷ []

-- a leaf that stands for itself
abbrev pub lone_steps : List ℕ → Bool → Lone → ℕ → ℕ → List Step
lone_steps source in_link lone.Text from to = text_step from to ∷ []
lone_steps source in_link lone.Escape from to = text_step (from + 1) to ∷ []
lone_steps source in_link lone.SoftBreak from to = An event.SoftBreak ∷ []
lone_steps source in_link lone.HardBreak from to = An event.HardBreak ∷ []
lone_steps source in_link (lone.Code ticks) from to =
    An (event.Code (code_text (slice_range source (from + ticks) (to - ticks)))) ∷ []
lone_steps source in_link lone.DisplayMath from to = An (event.DisplayMath (slice_range source (from + 2) (to - 2))) ∷ []
lone_steps source in_link lone.InlineMath from to = An (event.InlineMath (slice_range source (from + 1) (to - 1))) ∷ []
lone_steps source true lone.Address from to = text_step from to ∷ []
lone_steps source false lone.Address from to = address_steps source (from + 1) (to - 1)
lone_steps source in_link lone.Html from to = An (event.InlineHtml (slice_range source from to)) ∷ []
lone_steps source in_link lone.FootnoteReference from to =
    An (event.FootnoteReference (slice_range source (from + 2) (to - 1))) ∷ []

-- a leaf by itself
abbrev pub alone_steps : List ℕ → Bool → Kind → ℕ → ℕ → List Step
alone_steps source in_link (kind.Lone l) from to = lone_steps source in_link l from to
alone_steps source in_link _ from to = text_step from to ∷ []
