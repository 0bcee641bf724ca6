-- What begins at a line.
use Rattle.std.proofs.Common.{ℕ, List, ◌≡◌, refl, ap, ◌∙◌, Bool, true, false, cond, ◌&&◌, Option, Some, None, ◌⊎◌, inl, inr}
use Rattle.md_tree.specs.declared.event.HeadingLevel.{HeadingLevel}
use Rattle.md_tree.proofs.Nodes.{and_left}
use Rattle.md_lines.specs.Lines.{LineText}
use Rattle.md_rules.specs.Code.{is_code}
use Rattle.md_rules.specs.Fences.{fence_of}
use Rattle.md_rules.specs.ThematicBreaks.{is_thematic_break}
use Rattle.md_rules.specs.Headings.{heading_level}
use Rattle.md_rules.specs.Quotes.{quotes}
use Rattle.md_rules.specs.Items.{marker_of}
use Rattle.md_rules.specs.Footnotes.{footnote_label}
use Rattle.md_rules.specs.Html.{html_end}
use Rattle.md_rules.specs.Tables.{starts_table}
use Rattle.md_rules.specs.Definitions.{starts_definitions}
use Rattle.md_rules.specs.Lists.{marker_at}
use Rattle.md_rules.specs.Starts.{block_start, container_or, counted, counts, fence_or, footnote_or, heading_or, html_or, item_or, item_start, start_of_text}
use Rattle.md_rules.specs.declared.fence.Fence.{Fence}
use Rattle.md_rules.specs.declared.html.HtmlEnd.{HtmlEnd}
use Rattle.md_rules.specs.declared.item.Marker.{Marker}
use Rattle.md_rules.specs.declared.start.Items.{Items}
use Rattle.md_rules.specs.declared.start.BlockStart.{BlockStart}
use Rattle.md_rules.specs.declared.start.BlockStart.TheVariants as start

-- no container begins at a line
abbrev pub NoContainer : Bool → Items → LineText → Type 0
NoContainer nests items line = (nests ≡ false) ⊎ ((quotes line ≡ false) × (footnote_label line ≡ None) × (item_start items line ≡ None))

-- no leaf block begins at a line
pub record NoLeaf (line : LineText) : Type 0 where
  pub code : is_code line ≡ false
  pub fence : fence_of line ≡ None
  pub thematic_break : is_thematic_break line ≡ false
  pub heading : heading_level line ≡ None

-- A fact about what begins at a line, from the fact by each rule. What the rule found is told with it, and that those
-- before it do not hold.
pub record EachStart (P : BlockStart → Type 0) (nests : Bool) (items : Items) (line : LineText) (later : List LineText) : Type 0 where
  pub code : is_code line ≡ true → P start.Code
  pub fence : (fence : Fence) → is_code line ≡ false → fence_of line ≡ Some fence → P (start.Fence fence)
  pub thematic_break : is_code line ≡ false → fence_of line ≡ None → is_thematic_break line ≡ true → P start.ThematicBreak
  pub heading : (level : HeadingLevel) → is_code line ≡ false → fence_of line ≡ None → is_thematic_break line ≡ false → heading_level line ≡ Some level → P (start.Heading level)
  pub quote : NoLeaf line → nests ≡ true → quotes line ≡ true → P start.Quote
  pub footnote : (label : List ℕ) → NoLeaf line → nests ≡ true → quotes line ≡ false → footnote_label line ≡ Some label → P (start.Footnote label)
  pub item : (marker : Marker) → NoLeaf line → nests ≡ true → quotes line ≡ false → footnote_label line ≡ None → item_start items line ≡ Some marker → P (start.Item marker)
  pub html : (end : HtmlEnd) → NoLeaf line → NoContainer nests items line → html_end line ≡ Some end → P (start.Html end)
  pub table : NoLeaf line → NoContainer nests items line → html_end line ≡ None → starts_table line later ≡ true → P start.Table
  pub definitions : NoLeaf line → NoContainer nests items line → html_end line ≡ None → starts_table line later ≡ false → (nests && starts_definitions line later) ≡ true → P start.Definitions
  pub paragraph : NoLeaf line → NoContainer nests items line → html_end line ≡ None → starts_table line later ≡ false → (nests && starts_definitions line later) ≡ false → P start.Paragraph

pub each-start : (P : BlockStart → Type 0) (nests : Bool) (items : Items) (line : LineText) (later : List LineText) → EachStart P nests items line later → P (block_start nests items line later)
each-start P nests items line later each = coded (is_code line) refl
  where
    text : NoLeaf line → NoContainer nests items line → P (start_of_text nests line later)
    text no_leaf no_container = tagged (html_end line) refl
      where
        defining : html_end line ≡ None → starts_table line later ≡ false → (v : Bool) → (nests && starts_definitions line later) ≡ v → P (cond v start.Definitions start.Paragraph)
        defining h t true e = each.definitions no_leaf no_container h t e
        defining h t false e = each.paragraph no_leaf no_container h t e

        barred : html_end line ≡ None → (v : Bool) → starts_table line later ≡ v → P (cond v start.Table (cond (nests && starts_definitions line later) start.Definitions start.Paragraph))
        barred h true e = each.table no_leaf no_container h e
        barred h false e = defining h e (nests && starts_definitions line later) refl

        tagged : (found : Option HtmlEnd) → html_end line ≡ found → P (html_or found (cond (starts_table line later) start.Table (cond (nests && starts_definitions line later) start.Definitions start.Paragraph)))
        tagged (Some end) e = each.html end no_leaf no_container e
        tagged None e = barred e (starts_table line later) refl

    itemized : NoLeaf line → nests ≡ true → quotes line ≡ false → footnote_label line ≡ None → (found : Option Marker) → item_start items line ≡ found → P (item_or found (start_of_text nests line later))
    itemized no_leaf n q f (Some marker) e = each.item marker no_leaf n q f e
    itemized no_leaf n q f None e = text no_leaf (inr (q, f, e))

    noted : NoLeaf line → nests ≡ true → quotes line ≡ false → (found : Option (List ℕ)) → footnote_label line ≡ found → P (footnote_or found (item_or (item_start items line) (start_of_text nests line later)))
    noted no_leaf n q (Some label) e = each.footnote label no_leaf n q e
    noted no_leaf n q None e = itemized no_leaf n q e (item_start items line) refl

    quoting : NoLeaf line → nests ≡ true → (v : Bool) → quotes line ≡ v → P (cond v start.Quote (footnote_or (footnote_label line) (item_or (item_start items line) (start_of_text nests line later))))
    quoting no_leaf n true e = each.quote no_leaf n e
    quoting no_leaf n false e = noted no_leaf n e (footnote_label line) refl

    nesting : NoLeaf line → (v : Bool) → nests ≡ v → P (container_or v items line (start_of_text nests line later))
    nesting no_leaf true e = quoting no_leaf e (quotes line) refl
    nesting no_leaf false e = text no_leaf (inl e)

    headed : is_code line ≡ false → fence_of line ≡ None → is_thematic_break line ≡ false → (found : Option HeadingLevel) → heading_level line ≡ found → P (heading_or found (container_or nests items line (start_of_text nests line later)))
    headed c f b (Some level) e = each.heading level c f b e
    headed c f b None e = nesting (record { code = c; fence = f; thematic_break = b; heading = e }) nests refl

    broken : is_code line ≡ false → fence_of line ≡ None → (v : Bool) → is_thematic_break line ≡ v → P (cond v start.ThematicBreak (heading_or (heading_level line) (container_or nests items line (start_of_text nests line later))))
    broken c f true e = each.thematic_break c f e
    broken c f false e = headed c f e (heading_level line) refl

    fenced : is_code line ≡ false → (found : Option Fence) → fence_of line ≡ found → P (fence_or found (cond (is_thematic_break line) start.ThematicBreak (heading_or (heading_level line) (container_or nests items line (start_of_text nests line later)))))
    fenced c (Some fence) e = each.fence fence c e
    fenced c None e = broken c e (is_thematic_break line) refl

    coded : (v : Bool) → is_code line ≡ v → P (cond v start.Code (fence_or (fence_of line) (cond (is_thematic_break line) start.ThematicBreak (heading_or (heading_level line) (container_or nests items line (start_of_text nests line later))))))
    coded true e = each.code e
    coded false e = fenced e (fence_of line) refl

counted-marker : (items : Items) (line : LineText) (found : Option Marker) (m : Marker) → counted items line found ≡ Some m → found ≡ Some m
counted-marker items line None m h = cc
counted-marker items line (Some x) m h = go (counts items line x) h
  where
    go : (v : Bool) → cond v (Some x) None ≡ Some m → Some x ≡ Some m
    go true h = h
    go false h = cc

-- an item that counts is an item
pub item_start-marker : (items : Items) (line : LineText) (m : Marker) → item_start items line ≡ Some m → marker_of line ≡ Some m
item_start-marker items line m h = counted-marker items line (marker_of line) m h

-- the marker of an item that begins is that of the line
pub start-item : (nests : Bool) (items : Items) (line : LineText) (later : List LineText) (m : Marker) → marker_at (block_start nests items line later) ≡ Some m → marker_of line ≡ Some m
start-item nests items line later m =
    each-start (λ s. marker_at s ≡ Some m → marker_of line ≡ Some m) nests items line later
    (record {
      code = λ e h. none h;
      fence = λ fence c e h. none h;
      thematic_break = λ c f e h. none h;
      heading = λ level c f b e h. none h;
      quote = λ n q e h. none h;
      footnote = λ label text n q e h. none h;
      item = λ marker text n q f e h. item_start-marker items line m (e ∙ h);
      html = λ end text c e h. none h;
      table = λ text c w e h. none h;
      definitions = λ text c w t e h. none h;
      paragraph = λ text c w t e h. none h;
    })
  where
    none : None ≡ Some m → marker_of line ≡ Some m
    none h = cc

-- what each of these tells of the line
pub start-quote : (nests : Bool) (items : Items) (line : LineText) (later : List LineText) → block_start nests items line later ≡ start.Quote → (nests ≡ true) × (quotes line ≡ true)
start-quote nests items line later =
    each-start (λ s. s ≡ start.Quote → (nests ≡ true) × (quotes line ≡ true)) nests items line later
    (record {
      code = λ e h. cc;
      fence = λ fence c e h. cc;
      thematic_break = λ c f e h. cc;
      heading = λ level c f b e h. cc;
      quote = λ text n q h. (n, q);
      footnote = λ label text n q e h. cc;
      item = λ marker text n q f e h. cc;
      html = λ end text none e h. cc;
      table = λ text none w e h. cc;
      definitions = λ text none w t e h. cc;
      paragraph = λ text none w t e h. cc;
    })

pub start-marker : (nests : Bool) (items : Items) (line : LineText) (later : List LineText) (m : Marker) → block_start nests items line later ≡ start.Item m → (nests ≡ true) × (marker_of line ≡ Some m)
start-marker nests items line later m =
    each-start (λ s. s ≡ start.Item m → (nests ≡ true) × (marker_of line ≡ Some m)) nests items line later
    (record {
      code = λ e h. cc;
      fence = λ fence c e h. cc;
      thematic_break = λ c f e h. cc;
      heading = λ level c f b e h. cc;
      quote = λ text n q h. cc;
      footnote = λ label text n q e h. cc;
      item = λ marker text n q f e h. (n, item_start-marker items line m (e ∙ ap marker_at h));
      html = λ end text none e h. cc;
      table = λ text none w e h. cc;
      definitions = λ text none w t e h. cc;
      paragraph = λ text none w t e h. cc;
    })

pub start-table : (nests : Bool) (items : Items) (line : LineText) (later : List LineText) → block_start nests items line later ≡ start.Table → starts_table line later ≡ true
start-table nests items line later =
    each-start (λ s. s ≡ start.Table → starts_table line later ≡ true) nests items line later
    (record {
      code = λ e h. cc;
      fence = λ fence c e h. cc;
      thematic_break = λ c f e h. cc;
      heading = λ level c f b e h. cc;
      quote = λ text n q h. cc;
      footnote = λ label text n q e h. cc;
      item = λ marker text n q f e h. cc;
      html = λ end text none e h. cc;
      table = λ text none w e h. e;
      definitions = λ text none w t e h. cc;
      paragraph = λ text none w t e h. cc;
    })

pub start-definitions : (nests : Bool) (items : Items) (line : LineText) (later : List LineText) → block_start nests items line later ≡ start.Definitions → nests ≡ true
start-definitions nests items line later =
    each-start (λ s. s ≡ start.Definitions → nests ≡ true) nests items line later
    (record {
      code = λ e h. cc;
      fence = λ fence c e h. cc;
      thematic_break = λ c f e h. cc;
      heading = λ level c f b e h. cc;
      quote = λ text n q h. cc;
      footnote = λ label text n q e h. cc;
      item = λ marker text n q f e h. cc;
      html = λ end text none e h. cc;
      table = λ text none w e h. cc;
      definitions = λ text none w t e h. and_left nests (starts_definitions line later) e;
      paragraph = λ text none w t e h. cc;
    })

abbrev label_at : BlockStart → Option (List ℕ)
label_at (start.Footnote label) = Some label
label_at _ = None

pub start-footnote : (nests : Bool) (items : Items) (line : LineText) (later : List LineText) (l : List ℕ) → block_start nests items line later ≡ start.Footnote l → (nests ≡ true) × (footnote_label line ≡ Some l)
start-footnote nests items line later l =
    each-start (λ s. s ≡ start.Footnote l → (nests ≡ true) × (footnote_label line ≡ Some l)) nests items line later
    (record {
      code = λ e h. cc;
      fence = λ fence c e h. cc;
      thematic_break = λ c f e h. cc;
      heading = λ level c f b e h. cc;
      quote = λ text n q h. cc;
      footnote = λ label text n q e h. (n, e ∙ ap label_at h);
      item = λ marker text n q f e h. cc;
      html = λ end text none e h. cc;
      table = λ text none w e h. cc;
      definitions = λ text none w t e h. cc;
      paragraph = λ text none w t e h. cc;
    })
