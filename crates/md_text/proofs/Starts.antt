-- Blocks begin lines of their own.
use Rattle.std.proofs.Common.{◌≡◌, ◌==◌, if◌then◌else◌, ℕ, None, Some, List, [], ◌∷◌, ◌++◌, Bool, true, false, not, ◌&&◌, length, refl, ap, ◌∙◌}
use Rattle.std.specs.Str.Lines.{lines}
use Rattle.term_text.specs.Text.{LineView}
use Rattle.md_tree.specs.declared.event.CodeBlockKind.{CodeBlockKind}
use Rattle.md_tree.specs.declared.event.Event.{Event}
use Rattle.md_tree.specs.declared.event.Event.TheVariants as event
use Rattle.md_tree.specs.declared.event.HeadingLevel.{HeadingLevel}
use Rattle.md_tree.specs.declared.event.Tag.{Tag}
use Rattle.md_tree.specs.declared.event.Tag.TheVariants as tag
use Rattle.md_tree.specs.declared.place.Holds.{Holds}
use Rattle.md_tree.specs.declared.place.Holds.TheVariants as level
use Rattle.md_tree.specs.declared.place.Numbers.{Numbers}
use Rattle.md_tree.specs.declared.place.Place.{Place}
use Rattle.md_tree.specs.Tree.{Nodes, Empty, Leaf, Branch}
use Rattle.md_tree.specs.Good.{good, good_at, may_stand, may_hold, numbers_from, holds_items, holds_entries, holds_head, holds_rows, holds_cells, holds_inlines, holds_text, holds_soft_break, place_inside, place_after, place_after_leaf, document_place, level_of}
use Rattle.md_tree.proofs.Nodes.{and_left, and_right, and_false}
use Rattle.ansi_text.specs.Ansi.{ansi}
use Rattle.md_picture.specs.Picture.{TableView}
use Rattle.md_table.specs.declared.alert.AlertKind.{AlertKind}
use Rattle.md_table.specs.Sheet.{Sheet}
use Rattle.md_text.specs.declared.environment.Environment.{Environment}
use Rattle.md_text.specs.declared.environment.Spacing.{Spacing}
use Rattle.md_text.specs.declared.environment.Fresh.{Fresh}
use Rattle.md_text.specs.declared.environment.Fresh.TheVariants as fresh
use Rattle.md_text.specs.Marks.{Mark, Open, Put, Pad, plain_span, begins_line}
use Rattle.md_text.specs.Laid.{Laid, nothing_laid, then_laid, each_laid, open_laid, gap_laid, join_laid, put_laid, put_all}
use Rattle.md_text.specs.Look.{Look}
use Rattle.md_text.specs.Environment.{first_environment, first_spacing, environment_inside, environment_after}
use Rattle.md_text.specs.Headings.{heading}
use Rattle.md_text.specs.Texts.{texts}
use Rattle.md_text.specs.Alerts.{alert_of}
use Rattle.md_text.specs.Containers.{alert, list}
use Rattle.md_text.specs.Html.{html_block}
use Rattle.md_text.specs.Inlines.{text_lines, rule, leaf}
use Rattle.md_text.specs.Notes.{footnote, metadata}
use Rattle.md_text.specs.Code.{info, recognised, code_environment, fence, coloured_line, answered_line, code_lines, code_block}
use Rattle.md_text.specs.Blocks.{is_fresh, paragraph, enter, leave}
use Rattle.md_text.specs.Tables.{in_item, indent, begin_picture_line, picture_line, table, table_of, table_picture}
use Rattle.md_text.specs.Layout.{branch, layout, document_layout}

-- the level outside lines, lists and tables: it holds blocks
abbrev pub outside_lines : Holds → Bool
outside_lines level.Blocks = true
outside_lines _ = false

-- what it does not hold
no_other : (holds : Holds → Bool) → holds level.Blocks ≡ false → (h : Holds) → outside_lines h ≡ true → holds h ≡ true → ⊥
no_other holds b level.Blocks o i = cc
no_other holds b h o i = cc

no_inlines : (h : Holds) → outside_lines h ≡ true → holds_inlines h ≡ true → ⊥
no_inlines = no_other holds_inlines refl

no_text : (h : Holds) → outside_lines h ≡ true → holds_text h ≡ true → ⊥
no_text = no_other holds_text refl

no_soft_break : (h : Holds) → outside_lines h ≡ true → holds_soft_break h ≡ true → ⊥
no_soft_break = no_other holds_soft_break refl

no_items : (h : Holds) → outside_lines h ≡ true → holds_items h ≡ true → ⊥
no_items = no_other holds_items refl

no_entries : (h : Holds) → outside_lines h ≡ true → holds_entries h ≡ true → ⊥
no_entries = no_other holds_entries refl

no_head : (h : Holds) → outside_lines h ≡ true → holds_head h ≡ true → ⊥
no_head = no_other holds_head refl

no_rows : (h : Holds) → outside_lines h ≡ true → holds_rows h ≡ true → ⊥
no_rows = no_other holds_rows refl

no_cells : (h : Holds) → outside_lines h ≡ true → holds_cells h ≡ true → ⊥
no_cells = no_other holds_cells refl

-- where a paragraph begins a line
abbrev pub Ready : Spacing → Type 0
Ready spacing = (is_fresh spacing.fresh && not spacing.due) ≡ false

due-ready : (spacing : Spacing) → spacing.due ≡ true → Ready spacing
due-ready spacing h = ap (λ (due : Bool). is_fresh spacing.fresh && not due) h ∙ and_false (is_fresh spacing.fresh)

-- no mark, or first an Open, and behind them a paragraph begins a line
pub record Begins (laid : Laid) : Type 0 where
  pub starts : begins_line laid.marks ≡ true
  pub ready : Ready laid.after

starts-append : (a b : List Mark) → begins_line a ≡ true → begins_line b ≡ true → begins_line (a ++ b) ≡ true
starts-append [] b s u = u
starts-append (Open quotes style ∷ a) b s u = refl
starts-append (Put span ∷ a) b s u = s
starts-append (Pad blanks ∷ a) b s u = s

-- first an Open
abbrev opens : List Mark → Bool
opens (Open quotes style ∷ marks) = true
opens _ = false

opens-begins : (a : List Mark) → opens a ≡ true → begins_line a ≡ true
opens-begins [] h = cc
opens-begins (Open quotes style ∷ a) h = refl
opens-begins (Put span ∷ a) h = cc
opens-begins (Pad blanks ∷ a) h = cc

opens-append : (a b : List Mark) → opens a ≡ true → opens (a ++ b) ≡ true
opens-append [] b h = cc
opens-append (Open quotes style ∷ a) b h = refl
opens-append (Put span ∷ a) b h = cc
opens-append (Pad blanks ∷ a) b h = cc

paragraph-opens : (env : Environment) (due : Bool) (f : Fresh) (any : Bool) → Ready (record { due = due; fresh = f; any_line = any }) →
    opens (paragraph env (record { due = due; fresh = f; any_line = any })).marks ≡ true
paragraph-opens env true fresh.No any r = refl
paragraph-opens env true fresh.Marker any r = refl
paragraph-opens env true fresh.Prefix any r = refl
paragraph-opens env false fresh.No any r = refl
paragraph-opens env false fresh.Marker any r = cc
paragraph-opens env false fresh.Prefix any r = cc

fence-begins : (sheet : Sheet) (env : Environment) (spacing : Spacing) (bytes : List ℕ) → begins_line (fence sheet env spacing bytes).marks ≡ true
fence-begins sheet env spacing bytes = by_test (length sheet.code_block_fence == 0)
  where
    by_test : (b : Bool) →
        begins_line (if b then nothing_laid spacing
        else then_laid (open_laid env spacing) (λ opened. put_laid opened (plain_span (sheet.code_block_fence ++ bytes)))).marks ≡ true
    by_test true = refl
    by_test false = refl

-- what begins lines one by one
each-begins : {A : Type 0} (one : Spacing → A → Laid) → ((spacing : Spacing) (x : A) → begins_line (one spacing x).marks ≡ true) →
    (spacing : Spacing) (xs : List A) → begins_line (each_laid one spacing xs).marks ≡ true
each-begins one h spacing [] = refl
each-begins one h spacing (x ∷ xs) =
    starts-append (one spacing x).marks (each_laid one (one spacing x).after xs).marks (h spacing x) (each-begins one h (one spacing x).after xs)

answered_line-begins : (look : Look) (lang : List ℕ) (spacing : Spacing) (line : List ℕ) →
    begins_line (answered_line look.answer lang spacing line).marks ≡ true
answered_line-begins look lang spacing line = each-begins coloured_line (λ _ _. refl) spacing (ansi (look.answer lang line))

text_lines-begin : (env : Environment) (spacing : Spacing) (all : List (List ℕ)) → begins_line (text_lines false env spacing all).marks ≡ true
text_lines-begin env spacing [] = refl
text_lines-begin env spacing (line ∷ others) = refl

code_lines-begin : (look : Look) (env : Environment) (spacing : Spacing) (kind : CodeBlockKind) (all : List (List ℕ)) →
    begins_line (code_lines look.known look.answer env spacing kind all).marks ≡ true
code_lines-begin look env spacing kind all = by_test (recognised look.known kind)
  where
    by_test : (b : Bool) →
        begins_line (if b then each_laid (answered_line look.answer (info kind)) spacing all else text_lines false env spacing all).marks ≡ true
    by_test true = each-begins (answered_line look.answer (info kind)) (answered_line-begins look (info kind)) spacing all
    by_test false = text_lines-begin env spacing all

heading-opens : (sheet : Sheet) (env : Environment) (due : Bool) (f : Fresh) (any : Bool) (level : HeadingLevel) →
    opens (heading sheet env (record { due = due; fresh = f; any_line = any }) level).marks ≡ true
heading-opens sheet env true f any level = refl
heading-opens sheet env false f any level = refl

code_block-begins : (look : Look) (env : Environment) (due : Bool) (f : Fresh) (any : Bool) (kind : CodeBlockKind) (content : List ℕ) →
    begins_line (code_block look env (record { due = due; fresh = f; any_line = any }) kind content).marks ≡ true
code_block-begins look env due f true kind content = refl
code_block-begins look env due f false kind content =
    let env_in = code_environment look env kind in
    let spacing : Spacing = record { due = due; fresh = f; any_line = false } in
    let a = fence look.sheet env_in spacing (info kind) in
    let b = code_lines look.known look.answer env_in a.after kind (lines content) in
    let c = fence look.sheet env_in b.after [] in
    starts-append (a.marks ++ (b.marks ++ c.marks)) []
    (starts-append a.marks (b.marks ++ c.marks) (fence-begins look.sheet env_in spacing (info kind))
    (starts-append b.marks c.marks (code_lines-begin look env_in a.after kind (lines content)) (fence-begins look.sheet env_in b.after [])))
    refl

-- a line of a picture opens a line where no marker is fresh
begin_picture_line-opens : (env : Environment) (due any : Bool) →
    opens (begin_picture_line env (record { due = due; fresh = fresh.No; any_line = any })).marks ≡ true
begin_picture_line-opens env due any =
    let s : Spacing = record { due = due; fresh = fresh.No; any_line = any } in
    ap (λ (on_its_line : Bool). opens (if on_its_line then nothing_laid s else then_laid (open_laid env s) (λ opened. indent env opened)).marks)
    (and_false (in_item env))

picture-begins : (env : Environment) (due any : Bool) (all : List LineView) →
    begins_line (each_laid (picture_line env) (record { due = due; fresh = fresh.No; any_line = any }) all).marks ≡ true
picture-begins env due any [] = refl
picture-begins env due any (line ∷ others) =
    let a = begin_picture_line env (record { due = due; fresh = fresh.No; any_line = any }) in
    let b = put_all a.after line.spans in
    let c = each_laid (picture_line env) b.after others in
    opens-begins ((a.marks ++ b.marks) ++ c.marks)
    (opens-append (a.marks ++ b.marks) c.marks (opens-append a.marks b.marks (begin_picture_line-opens env due any)))

-- a table begins a line by the one that is due, or else by its first: where none is due no marker is fresh
table-begins : (look : Look) (env : Environment) (due : Bool) (f : Fresh) (any : Bool) (view : TableView) →
    Ready (record { due = due; fresh = f; any_line = any }) → Begins (table look env (record { due = due; fresh = f; any_line = any }) view)
table-begins look env true f any view r = record { starts = refl; ready = and_false _ }
table-begins look env false fresh.No any view r =
    let b = each_laid (picture_line env) (record { due = false; fresh = fresh.No; any_line = any }) (table_picture look env view) in
    record {
      starts = starts-append b.marks [] (picture-begins env false any (table_picture look env view)) refl;
      ready = and_false _;
    }
table-begins look env false fresh.Marker any view r = cc
table-begins look env false fresh.Prefix any view r = cc

alert-opens : (sheet : Sheet) (env : Environment) (due : Bool) (f : Fresh) (any : Bool) (kind : AlertKind) →
    opens (alert sheet env (record { due = due; fresh = f; any_line = any }) kind).marks ≡ true
alert-opens sheet env true f any kind = refl
alert-opens sheet env false f any kind = refl

join-begins : (env : Environment) (due : Bool) (f : Fresh) (any : Bool) →
    begins_line (join_laid env (record { due = due; fresh = f; any_line = any })).marks ≡ true
join-begins env true f any = refl
join-begins env false f any = refl

join-ready : (env : Environment) (due : Bool) (f : Fresh) (any : Bool) → Ready (record { due = due; fresh = f; any_line = any }) →
    Ready (join_laid env (record { due = due; fresh = f; any_line = any })).after
join-ready env true f any r = refl
join-ready env false f any r = r

gap-begins : (env : Environment) (due : Bool) (f : Fresh) (any : Bool) →
    begins_line (gap_laid env (record { due = due; fresh = f; any_line = any })).marks ≡ true
gap-begins env true f any = refl
gap-begins env false f any = refl

list-begins : (env : Environment) (s : Spacing) → begins_line (list env s).marks ≡ true
list-begins env s = by_test (env.depth == 0)
  where
    by_test : (b : Bool) → begins_line (if b then gap_laid env s else nothing_laid s).marks ≡ true
    by_test true = gap-begins env s.due s.fresh s.any_line
    by_test false = refl

-- the places of a list's items
abbrev items_place : Numbers → Place
items_place numbers = record { holds = level.Items; in_link = false; numbers = numbers; task_mark = false }

no-leaf : (numbers : Numbers) (e : Event) → may_hold (items_place numbers) e ≡ true → ⊥
no-leaf numbers (event.Text bytes) g = cc
no-leaf numbers e g = cc

-- what stands in a list begins with an item, which begins a line
items-begin : (look : Look) (t : Nodes) (env : Environment) (s : Spacing) (numbers : Numbers) → good_at (items_place numbers) t ≡ true →
    begins_line (layout look env s t).marks ≡ true
items-begin look Empty env s numbers g = refl
items-begin look (Leaf e rest) env s numbers g = absurd (no-leaf numbers e (and_left _ _ g))
items-begin look (Branch tag.Item inside rest) env s numbers g = refl
items-begin look (Branch t inside rest) env s numbers g = cc

-- the places of the entries of a definition list
abbrev entries_place : Place
entries_place = level_of level.Entries

no-leaf-entry : (e : Event) → may_hold entries_place e ≡ true → ⊥
no-leaf-entry (event.Text bytes) g = cc
no-leaf-entry e g = cc

-- what stands in a definition list begins with a title or a description, which begins a line
entries-begin : (look : Look) (t : Nodes) (env : Environment) (s : Spacing) → good_at entries_place t ≡ true →
    begins_line (layout look env s t).marks ≡ true
entries-begin look Empty env s g = refl
entries-begin look (Leaf e rest) env s g = absurd (no-leaf-entry e (and_left _ _ g))
entries-begin look (Branch tag.DefinitionListTitle inside rest) env s g = refl
entries-begin look (Branch tag.DefinitionListDefinition inside rest) env s g = refl
entries-begin look (Branch t inside rest) env s g = cc

footnote-opens : (sheet : Sheet) (env : Environment) (due : Bool) (f : Fresh) (any : Bool) (bytes : List ℕ) →
    opens (footnote sheet env (record { due = due; fresh = f; any_line = any }) bytes).marks ≡ true
footnote-opens sheet env true f any bytes = refl
footnote-opens sheet env false f any bytes = refl

metadata-opens : (sheet : Sheet) (env : Environment) (due : Bool) (f : Fresh) (any : Bool) →
    opens (metadata sheet env (record { due = due; fresh = f; any_line = any })).marks ≡ true
metadata-opens sheet env true f any = refl
metadata-opens sheet env false f any = refl

html_block-begins : (sheet : Sheet) (env : Environment) (due : Bool) (f : Fresh) (any : Bool) (bytes : List ℕ) →
    begins_line (html_block sheet env (record { due = due; fresh = f; any_line = any }) bytes).marks ≡ true
html_block-begins sheet env true f any bytes = refl
html_block-begins sheet env false f any bytes = refl

-- a rule begins a line, and a line is due behind it
rule-begins : (env : Environment) (due : Bool) (f : Fresh) (any : Bool) → Begins (rule env (record { due = due; fresh = f; any_line = any }))
rule-begins env true f any = record { starts = refl; ready = refl }
rule-begins env false f any = record { starts = refl; ready = refl }

leaf-begins : (sheet : Sheet) (e : Event) (env : Environment) (s : Spacing) (p : Place) → outside_lines p.holds ≡ true →
    may_hold p e ≡ true → Ready s → Begins (leaf sheet env s e)
leaf-begins sheet (event.Start t) env s p o m r = cc
leaf-begins sheet (event.End e) env s p o m r = cc
leaf-begins sheet (event.Text bytes) env s p o m r = absurd (no_text p.holds o m)
leaf-begins sheet (event.Code bytes) env s p o m r = absurd (no_inlines p.holds o m)
leaf-begins sheet (event.InlineHtml bytes) env s p o m r = absurd (no_inlines p.holds o m)
leaf-begins sheet (event.InlineMath bytes) env s p o m r = absurd (no_inlines p.holds o m)
leaf-begins sheet (event.DisplayMath bytes) env s p o m r = absurd (no_inlines p.holds o m)
leaf-begins sheet (event.FootnoteReference label) env s p o m r = absurd (no_inlines p.holds o m)
leaf-begins sheet event.SoftBreak env s p o m r = absurd (no_soft_break p.holds o m)
leaf-begins sheet event.HardBreak env s p o m r = absurd (no_inlines p.holds o m)
leaf-begins sheet (event.TaskListMarker is_done) env s p o m r = absurd (no_inlines p.holds o (and_left _ _ m))
leaf-begins sheet event.Rule env s p o m r = rule-begins env s.due s.fresh s.any_line
leaf-begins sheet e env s p o m r = record { starts = refl; ready = r }

-- what is laid out inside an element, and the element itself
abbrev within : Look → Environment → Tag → Nodes → Spacing → Laid
within look env t inside spacing = layout look (environment_inside look.sheet env t inside) spacing inside

abbrev element : Look → Environment → Spacing → Tag → Nodes → Laid
element look env s t inside = branch look env s t inside (within look env t inside)

-- an element that begins with an Open, and behind which a line is due
opening-begins : (look : Look) (env : Environment) (s : Spacing) (t : Tag) (inside : Nodes) → opens (enter look.sheet env s t).marks ≡ true →
    ((spacing : Spacing) → (leave look.sheet env spacing t).after.due ≡ true) → Begins (element look env s t inside)
opening-begins look env s (tag.CodeBlock kind) inside h k = cc
opening-begins look env s tag.HtmlBlock inside h k = cc
opening-begins look env s (tag.Table alignments) inside h k = cc
opening-begins look env s (tag.Image dest) inside h k = cc
opening-begins look env s t inside h k =
    let a = enter look.sheet env s t in
    let b = within look env t inside a.after in
    let c = leave look.sheet env b.after t in
    record {
      starts = opens-begins (a.marks ++ (b.marks ++ c.marks)) (opens-append a.marks (b.marks ++ c.marks) h);
      ready = due-ready c.after (k b.after);
    }

-- parts that begin lines, with nothing behind them
parts-begin : (a b : List Mark) → begins_line a ≡ true → begins_line b ≡ true → begins_line (a ++ (b ++ [])) ≡ true
parts-begin a b h k = starts-append a (b ++ []) h (starts-append b [] k refl)

-- an element outside lines begins lines if good nodes inside it do
element-begins : (look : Look) (t : Tag) (inside : Nodes) (env : Environment) (s : Spacing) (p : Place) → outside_lines p.holds ≡ true →
    may_stand p t ≡ true → good_at (place_inside p t) inside ≡ true → Ready s →
    ((spacing : Spacing) → outside_lines (place_inside p t).holds ≡ true → Ready spacing → Begins (within look env t inside spacing)) →
    Begins (element look env s t inside)
element-begins look tag.Paragraph inside env s p o m g r begins =
    opening-begins look env s tag.Paragraph inside (paragraph-opens env s.due s.fresh s.any_line r) (λ _. refl)
element-begins look (tag.Heading h id classes attrs) inside env s p o m g r begins =
    opening-begins look env s (tag.Heading h id classes attrs) inside (heading-opens look.sheet env s.due s.fresh s.any_line h) (λ _. refl)
element-begins look (tag.BlockQuote (Some kind)) inside env s p o m g r begins =
    opening-begins look env s (tag.BlockQuote (Some kind)) inside (alert-opens look.sheet env s.due s.fresh s.any_line (alert_of kind)) (λ _. refl)
element-begins look (tag.BlockQuote None) inside env s p o m g r begins =
    let a = join_laid env s in
    let first = begins a.after refl (join-ready env s.due s.fresh s.any_line r) in
    record {
      starts = parts-begin a.marks (within look env (tag.BlockQuote None) inside a.after).marks (join-begins env s.due s.fresh s.any_line) first.starts;
      ready = and_false _;
    }
element-begins look (tag.CodeBlock kind) inside env s p o m g r begins =
    record { starts = code_block-begins look env s.due s.fresh s.any_line kind (texts inside); ready = and_false _ }
element-begins look tag.HtmlBlock inside env s p o m g r begins =
    record { starts = html_block-begins look.sheet env s.due s.fresh s.any_line (texts inside); ready = and_false _ }
element-begins look (tag.List start) inside env s p o m g r begins =
    let a = list env s in
    record {
      starts = parts-begin a.marks (within look env (tag.List start) inside a.after).marks (list-begins env s)
          (items-begin look inside (environment_inside look.sheet env (tag.List start) inside) a.after (numbers_from start) g);
      ready = and_false _;
    }
element-begins look tag.Item inside env s p o m g r begins = absurd (no_items p.holds o (and_left _ _ m))
element-begins look (tag.FootnoteDefinition label) inside env s p o m g r begins =
    opening-begins look env s (tag.FootnoteDefinition label) inside (footnote-opens look.sheet env s.due s.fresh s.any_line label) (λ _. refl)
element-begins look tag.DefinitionList inside env s p o m g r begins =
    let a = join_laid env s in
    record {
      starts = parts-begin a.marks (within look env tag.DefinitionList inside a.after).marks (join-begins env s.due s.fresh s.any_line)
          (entries-begin look inside env a.after g);
      ready = and_false _;
    }
element-begins look tag.DefinitionListTitle inside env s p o m g r begins = absurd (no_entries p.holds o m)
element-begins look tag.DefinitionListDefinition inside env s p o m g r begins = absurd (no_entries p.holds o m)
element-begins look (tag.Table alignments) inside env s p o m g r begins =
    table-begins look env s.due s.fresh s.any_line (table_of look env alignments inside) r
element-begins look tag.TableHead inside env s p o m g r begins = absurd (no_head p.holds o m)
element-begins look tag.TableRow inside env s p o m g r begins = absurd (no_rows p.holds o m)
element-begins look tag.TableCell inside env s p o m g r begins = absurd (no_cells p.holds o m)
element-begins look tag.MetadataBlock inside env s p o m g r begins =
    opening-begins look env s tag.MetadataBlock inside (metadata-opens look.sheet env s.due s.fresh s.any_line) (λ _. refl)
element-begins look (tag.Link dest) inside env s p o m g r begins = absurd (no_inlines p.holds o (and_left _ _ m))
element-begins look t inside env s p o m g r begins = absurd (no_inlines p.holds o m)

-- the place behind an element outside lines is outside lines
outside-after : (p : Place) (t : Tag) → outside_lines p.holds ≡ true → may_stand p t ≡ true → outside_lines (place_after p t).holds ≡ true
outside-after p tag.Item o m = o
outside-after p tag.TableHead o m = absurd (no_head p.holds o m)
outside-after p t o m = o

-- a layout that begins lines, and then one that does from the spacing state behind it
then-begins : (first : Laid) (next : Spacing → Laid) → Begins first → Begins (next first.after) → Begins (then_laid first next)
then-begins first next h k = record { starts = starts-append first.marks (next first.after).marks h.starts k.starts; ready = k.ready }

-- good nodes outside lines begin lines
pub layout-begins : (look : Look) (t : Nodes) (env : Environment) (s : Spacing) (p : Place) → outside_lines p.holds ≡ true → good_at p t ≡ true →
    Ready s → Begins (layout look env s t)
layout-begins look Empty env s p o g r = record { starts = refl; ready = r }
layout-begins look (Leaf e rest) env s p o g r =
    let a = leaf look.sheet env s e in
    let first = leaf-begins look.sheet e env s p o (and_left _ _ g) r in
    then-begins a (λ behind. layout look env behind rest) first
    (layout-begins look rest env a.after (place_after_leaf p) o (and_right _ _ g) first.ready)
layout-begins look (Branch t inside rest) env s p o g r =
    let m = and_left _ _ g in
    let good_inside = and_left _ _ (and_right _ _ g) in
    let env_in = environment_inside look.sheet env t inside in
    let env_after = environment_after env t in
    let a = element look env s t inside in
    let first = element-begins look t inside env s p o m good_inside r
    (λ entered outside ready. layout-begins look inside env_in entered (place_inside p t) outside good_inside ready) in
    then-begins a (λ behind. layout look env_after behind rest) first
    (layout-begins look rest env_after a.after (place_after p t) (outside-after p t o m) (and_right _ _ (and_right _ _ g)) first.ready)

-- a document's first mark, if there is one, begins a line
pub document-begins : (look : Look) (t : Nodes) → good t ≡ true → begins_line (document_layout look t).marks ≡ true
document-begins look t g =
    let begins : Begins (document_layout look t) = layout-begins look t first_environment first_spacing document_place refl g refl in
    begins.starts
