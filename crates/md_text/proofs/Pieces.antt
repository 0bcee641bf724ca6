-- The spans that a layout puts are the pieces of its tree.
use Rattle.std.proofs.Common.{◌≡◌, ℕ, List, [], ◌∷◌, ◌++◌, Bool, true, false, ◌&&◌, ◌==◌, if◌then◌else◌, Option, None, Some, codes, length, refl, ap, ◌∙◌}
use Rattle.std.proofs.lemmas.List.{append-nil}
use Rattle.std.specs.Str.Lines.{lines}
use Rattle.term_text.specs.declared.style.Style.{Style}
use Rattle.term_text.specs.Style.{no_style, patch}
use Rattle.term_text.specs.Text.{SpanView, LineView}
use Rattle.md_tree.specs.declared.event.BlockQuoteKind.{BlockQuoteKind}
use Rattle.md_tree.specs.declared.event.CodeBlockKind.{CodeBlockKind}
use Rattle.md_tree.specs.declared.event.Event.{Event}
use Rattle.md_tree.specs.declared.event.Event.TheVariants as event
use Rattle.md_tree.specs.declared.event.HeadingLevel.{HeadingLevel}
use Rattle.md_tree.specs.declared.event.Tag.{Tag}
use Rattle.md_tree.specs.declared.event.Tag.TheVariants as tag
use Rattle.md_tree.specs.Tree.{Nodes, Empty, Leaf, Branch}
use Rattle.ansi_text.specs.Ansi.{ansi}
use Rattle.md_picture.specs.Picture.{TableView}
use Rattle.md_table.specs.declared.alert.AlertKind.{AlertKind}
use Rattle.md_table.specs.Defaults.{bold}
use Rattle.md_table.specs.Sheet.{Sheet}
use Rattle.md_text.specs.declared.environment.Environment.{Environment}
use Rattle.md_text.specs.declared.environment.Spacing.{Spacing}
use Rattle.md_text.specs.declared.environment.Fresh.{Fresh}
use Rattle.md_text.specs.declared.environment.Fresh.TheVariants as fresh
use Rattle.md_text.specs.Marks.{Mark, Open, Put, Pad, plain_span, styled_span}
use Rattle.md_text.specs.Laid.{Laid, nothing_laid, then_laid, each_laid, open_styled, open_laid, gap_laid, join_laid, put_laid, put_all, join_all}
use Rattle.md_text.specs.Look.{Look}
use Rattle.md_text.specs.Environment.{environment_inside, environment_after}
use Rattle.md_text.specs.Headings.{level_number, with_blank, heading, attribute_suffix}
use Rattle.md_text.specs.Spans.{piece, pieces_of, each_pieces}
use Rattle.md_text.specs.Blocks.{paragraph, enter, leave}
use Rattle.md_text.specs.Inlines.{begin_line, text_lines, display_math, inline_math, joined_text, math_environment, reference, rule, soft_break, link_spans, leaf}
use Rattle.md_text.specs.Flat.{flat, image_in}
use Rattle.md_text.specs.Html.{html_block, html_environment}
use Rattle.md_text.specs.Notes.{footnote, label, metadata}
use Rattle.md_text.specs.Code.{info, recognised, code_environment, fence, coloured_line, answered_line, code_lines, apart, code_block}
use Rattle.md_text.specs.Texts.{texts}
use Rattle.md_text.specs.Alerts.{alert_of}
use Rattle.md_text.specs.Containers.{alert_title, alert, quote, list}
use Rattle.md_text.specs.Markers.{marker}
use Rattle.md_text.specs.Tables.{in_item, is_marker, indent, begin_picture_line, picture_line, table, table_of, table_picture}
use Rattle.md_text.specs.Layout.{branch, layout}
use Rattle.md_text.specs.Pieces.{puts, line_pieces, leaf_pieces, fence_pieces, coloured_pieces, code_line_pieces, code_pieces, quote_pieces, pieces_before, table_pieces, pieces_behind, branch_pieces, pieces}

pub puts-append : (a b : List Mark) → puts (a ++ b) ≡ puts a ++ puts b
puts-append [] b = refl
puts-append (Open quotes style ∷ a) b = puts-append a b
puts-append (Pad blanks ∷ a) b = puts-append a b
puts-append (Put span ∷ a) b = ap (λ (z : List SpanView). span ∷ z) (puts-append a b)

-- two parts
puts2 : (a b : List Mark) (x y : List SpanView) → puts a ≡ x → puts b ≡ y → puts (a ++ b) ≡ x ++ y
puts2 a b x y h k = puts-append a b ∙ rw (h, k) refl

puts-put : (spacing : Spacing) (span : SpanView) → puts (put_laid spacing span).marks ≡ piece span
puts-put spacing span = by_test (length span.text == 0)
  where
    by_test : (b : Bool) →
        puts (if b then nothing_laid spacing else record { marks = Put span ∷ []; after = record { due = spacing.due; fresh = fresh.No; any_line = spacing.any_line } }).marks
        ≡ (if b then [] else span ∷ [])
    by_test true = refl
    by_test false = refl

-- what each puts, one after another
puts-each : {A : Type 0} (one : Spacing → A → Laid) (pieces : A → List SpanView) →
    ((spacing : Spacing) (x : A) → puts (one spacing x).marks ≡ pieces x) →
    (spacing : Spacing) (xs : List A) → puts (each_laid one spacing xs).marks ≡ each_pieces pieces xs
puts-each one pieces h spacing [] = refl
puts-each one pieces h spacing (x ∷ xs) =
    let a = one spacing x in
    puts2 a.marks (each_laid one a.after xs).marks (pieces x) (each_pieces pieces xs) (h spacing x) (puts-each one pieces h a.after xs)

puts-put_all : (spacing : Spacing) (spans : List SpanView) → puts (put_all spacing spans).marks ≡ pieces_of spans
puts-put_all spacing spans = puts-each put_laid piece puts-put spacing spans

puts-join : (env : Environment) (due : Bool) (f : Fresh) (any : Bool) →
    puts (join_laid env (record { due = due; fresh = f; any_line = any })).marks ≡ []
puts-join env true f any = refl
puts-join env false f any = refl

puts-begin : (is_first : Bool) (env : Environment) (spacing : Spacing) → puts (begin_line is_first env spacing).marks ≡ []
puts-begin true env spacing = puts-join env spacing.due spacing.fresh spacing.any_line
puts-begin false env spacing = refl

puts-text_lines : (is_first : Bool) (env : Environment) (spacing : Spacing) (all : List (List ℕ)) →
    puts (text_lines is_first env spacing all).marks ≡ line_pieces env all
puts-text_lines is_first env spacing [] = refl
puts-text_lines is_first env spacing (line ∷ others) =
    let a = begin_line is_first env spacing in
    let span = styled_span line env.inline_style in
    let b = put_laid a.after span in
    puts2 (a.marks ++ b.marks) (text_lines false env b.after others).marks ([] ++ piece span) (line_pieces env others)
    (puts2 a.marks b.marks [] (piece span) (puts-begin is_first env spacing) (puts-put a.after span))
    (puts-text_lines false env b.after others)

puts-gap : (env : Environment) (due : Bool) (f : Fresh) (any : Bool) →
    puts (gap_laid env (record { due = due; fresh = f; any_line = any })).marks ≡ []
puts-gap env true f any = refl
puts-gap env false f any = refl

puts-rule : (env : Environment) (due : Bool) (f : Fresh) (any : Bool) →
    puts (rule env (record { due = due; fresh = f; any_line = any })).marks ≡ plain_span (codes "---") ∷ []
puts-rule env true f any = refl
puts-rule env false f any = refl

puts-joined : (env : Environment) (spacing : Spacing) (bytes : List ℕ) (style : Style) → puts (joined_text env spacing bytes style).marks ≡ piece (styled_span bytes style)
puts-joined env spacing bytes style =
    let a = join_laid env spacing in
    puts2 a.marks (put_laid a.after (styled_span bytes style)).marks [] (piece (styled_span bytes style))
    (puts-join env spacing.due spacing.fresh spacing.any_line) (puts-put a.after (styled_span bytes style))

puts-soft_break : (env : Environment) (spacing : Spacing) → puts (soft_break env spacing).marks ≡ (if env.in_metadata then [] else plain_span (codes " ") ∷ [])
puts-soft_break env spacing = by_test env.in_metadata
  where
    by_test : (b : Bool) → puts (if b then open_laid env spacing else put_laid spacing (plain_span (codes " "))).marks ≡ (if b then [] else plain_span (codes " ") ∷ [])
    by_test true = refl
    by_test false = refl

-- lines, and then nothing
puts-text_lines-then : (env : Environment) (spacing : Spacing) (all : List (List ℕ)) → puts ((text_lines true env spacing all).marks ++ []) ≡ line_pieces env all
puts-text_lines-then env spacing all =
    ap (λ (marks : List Mark). puts marks) (append-nil (text_lines true env spacing all).marks) ∙ puts-text_lines true env spacing all

puts-leaf : (sheet : Sheet) (env : Environment) (spacing : Spacing) (e : Event) → puts (leaf sheet env spacing e).marks ≡ leaf_pieces sheet env e
puts-leaf sheet env spacing (event.Text bytes) = puts-text_lines true env spacing (lines bytes)
puts-leaf sheet env spacing (event.Code bytes) = puts-joined env spacing bytes sheet.code
puts-leaf sheet env spacing (event.InlineHtml bytes) = puts-joined env spacing bytes (patch env.inline_style sheet.html)
puts-leaf sheet env spacing (event.InlineMath bytes) = puts-joined env spacing (inline_math bytes) (patch env.inline_style sheet.math_inline)
puts-leaf sheet env spacing (event.DisplayMath bytes) = puts-text_lines-then (math_environment sheet env) spacing (lines (display_math bytes))
puts-leaf sheet env spacing (event.FootnoteReference label) = puts-joined env spacing (reference label) (patch env.inline_style sheet.footnote_ref)
puts-leaf sheet env spacing event.SoftBreak = puts-soft_break env spacing
puts-leaf sheet env spacing event.Rule = puts-rule env spacing.due spacing.fresh spacing.any_line
puts-leaf sheet env spacing e = refl

puts-fence : (sheet : Sheet) (env : Environment) (spacing : Spacing) (bytes : List ℕ) →
    puts (fence sheet env spacing bytes).marks ≡ fence_pieces sheet bytes
puts-fence sheet env spacing bytes = by_test (length sheet.code_block_fence == 0)
  where
    span : SpanView
    span = plain_span (sheet.code_block_fence ++ bytes)

    by_test : (b : Bool) →
        puts (if b then nothing_laid spacing else then_laid (open_laid env spacing) (λ opened. put_laid opened span)).marks
        ≡ (if b then [] else piece span)
    by_test true = refl
    by_test false = puts-put (open_laid env spacing).after span

puts-coloured_line : (spacing : Spacing) (line : LineView) → puts (coloured_line spacing line).marks ≡ pieces_of line.spans
puts-coloured_line spacing line = puts-put_all (open_styled 0 no_style spacing).after line.spans

puts-answered_line : (look : Look) (lang : List ℕ) (spacing : Spacing) (line : List ℕ) →
    puts (answered_line look.answer lang spacing line).marks ≡ coloured_pieces (look.answer lang line)
puts-answered_line look lang spacing line =
    puts-each coloured_line (λ (view : LineView). pieces_of view.spans) puts-coloured_line spacing (ansi (look.answer lang line))

puts-code_lines : (look : Look) (env : Environment) (spacing : Spacing) (kind : CodeBlockKind) (all : List (List ℕ)) →
    puts (code_lines look.known look.answer (code_environment look env kind) spacing kind all).marks ≡ code_line_pieces look env kind all
puts-code_lines look env spacing kind all = by_test (recognised look.known kind)
  where
    by_test : (b : Bool) →
        puts (if b then each_laid (answered_line look.answer (info kind)) spacing all
        else text_lines false (if b then env else record env { line_style = look.sheet.code }) spacing all).marks
        ≡ (if b then each_pieces (λ line. coloured_pieces (look.answer (info kind) line)) all else line_pieces env all)
    by_test true =
        puts-each (answered_line look.answer (info kind)) (λ line. coloured_pieces (look.answer (info kind) line)) (puts-answered_line look (info kind)) spacing all
    by_test false = puts-text_lines false (record env { line_style = look.sheet.code }) spacing all

puts-apart : (env : Environment) (due : Bool) (f : Fresh) (any : Bool) →
    puts (apart env (record { due = due; fresh = f; any_line = any })).marks ≡ []
puts-apart env due f true = refl
puts-apart env due f false = refl

puts-code_block : (look : Look) (env : Environment) (spacing : Spacing) (kind : CodeBlockKind) (content : List ℕ) →
    puts (code_block look env spacing kind content).marks ≡ code_pieces look env kind content
puts-code_block look env spacing kind content =
    let env_in = code_environment look env kind in
    let a = apart env spacing in
    let b = fence look.sheet env_in a.after (info kind) in
    let c = code_lines look.known look.answer env_in b.after kind (lines content) in
    let d = fence look.sheet env_in c.after [] in
    let first = fence_pieces look.sheet (info kind) in
    let between = code_line_pieces look env kind (lines content) in
    let last = fence_pieces look.sheet [] in
    puts2 a.marks ((b.marks ++ (c.marks ++ d.marks)) ++ []) [] (first ++ (between ++ last))
    (puts-apart env spacing.due spacing.fresh spacing.any_line)
    (puts2 (b.marks ++ (c.marks ++ d.marks)) [] (first ++ (between ++ last)) []
    (puts2 b.marks (c.marks ++ d.marks) first (between ++ last) (puts-fence look.sheet env_in a.after (info kind))
    (puts2 c.marks d.marks between last (puts-code_lines look env b.after kind (lines content)) (puts-fence look.sheet env_in c.after [])))
    refl
    ∙ append-nil (first ++ (between ++ last)))

puts-paragraph : (env : Environment) (due : Bool) (f : Fresh) (any : Bool) →
    puts (paragraph env (record { due = due; fresh = f; any_line = any })).marks ≡ []
puts-paragraph env true fresh.No any = refl
puts-paragraph env true fresh.Marker any = refl
puts-paragraph env true fresh.Prefix any = refl
puts-paragraph env false fresh.No any = refl
puts-paragraph env false fresh.Marker any = refl
puts-paragraph env false fresh.Prefix any = refl

-- a span put, and then nothing
puts-put-then : (spacing : Spacing) (span : SpanView) → puts ((put_laid spacing span).marks ++ []) ≡ piece span
puts-put-then spacing span = puts2 (put_laid spacing span).marks [] (piece span) [] (puts-put spacing span) refl ∙ append-nil (piece span)

puts-alert : (sheet : Sheet) (env : Environment) (due : Bool) (f : Fresh) (any : Bool) (kind : AlertKind) →
    puts (alert sheet env (record { due = due; fresh = f; any_line = any }) kind).marks ≡ piece (styled_span (alert_title sheet kind) (bold (sheet.alert kind)))
puts-alert sheet env true f any kind = puts-put-then (record { due = false; fresh = fresh.No; any_line = true }) (styled_span (alert_title sheet kind) (bold (sheet.alert kind)))
puts-alert sheet env false f any kind = puts-put-then (record { due = false; fresh = fresh.No; any_line = true }) (styled_span (alert_title sheet kind) (bold (sheet.alert kind)))

puts-heading : (sheet : Sheet) (env : Environment) (due : Bool) (f : Fresh) (any : Bool) (level : HeadingLevel) →
    puts (heading sheet env (record { due = due; fresh = f; any_line = any }) level).marks ≡ piece (plain_span (with_blank (sheet.heading_marker (level_number level))))
puts-heading sheet env true f any level = puts-put-then (record { due = true; fresh = fresh.No; any_line = true }) (plain_span (with_blank (sheet.heading_marker (level_number level))))
puts-heading sheet env false f any level = puts-put-then (record { due = false; fresh = fresh.No; any_line = true }) (plain_span (with_blank (sheet.heading_marker (level_number level))))

puts-quote : (sheet : Sheet) (env : Environment) (s : Spacing) (kind : Option BlockQuoteKind) →
    puts (quote sheet env s kind).marks ≡ quote_pieces sheet kind
puts-quote sheet env s None = puts-join env s.due s.fresh s.any_line
puts-quote sheet env s (Some kind) = puts-alert sheet env s.due s.fresh s.any_line (alert_of kind)

puts-list : (env : Environment) (s : Spacing) → puts (list env s).marks ≡ []
puts-list env s = by_test (env.depth == 0)
  where
    by_test : (b : Bool) → puts (if b then gap_laid env s else nothing_laid s).marks ≡ []
    by_test true = puts-gap env s.due s.fresh s.any_line
    by_test false = refl

puts-footnote : (sheet : Sheet) (env : Environment) (due : Bool) (f : Fresh) (any : Bool) (bytes : List ℕ) →
    puts (footnote sheet env (record { due = due; fresh = f; any_line = any }) bytes).marks ≡ piece (styled_span (label bytes) sheet.footnote_def)
puts-footnote sheet env true f any bytes = puts-put-then (record { due = true; fresh = fresh.No; any_line = true }) (styled_span (label bytes) sheet.footnote_def)
puts-footnote sheet env false f any bytes = puts-put-then (record { due = false; fresh = fresh.No; any_line = true }) (styled_span (label bytes) sheet.footnote_def)

puts-metadata : (sheet : Sheet) (env : Environment) (due : Bool) (f : Fresh) (any : Bool) →
    puts (metadata sheet env (record { due = due; fresh = f; any_line = any })).marks ≡ plain_span (codes "---") ∷ []
puts-metadata sheet env true f any = refl
puts-metadata sheet env false f any = refl

puts-html_block : (sheet : Sheet) (env : Environment) (due : Bool) (f : Fresh) (any : Bool) (bytes : List ℕ) →
    puts (html_block sheet env (record { due = due; fresh = f; any_line = any }) bytes).marks ≡ line_pieces (html_environment sheet env) (lines bytes)
puts-html_block sheet env true f any bytes =
    puts-text_lines-then (html_environment sheet env) (record { due = false; fresh = fresh.No; any_line = true }) (lines bytes)
puts-html_block sheet env false f any bytes =
    puts-text_lines-then (html_environment sheet env) (record { due = false; fresh = fresh.No; any_line = true }) (lines bytes)

puts-enter : (sheet : Sheet) (env : Environment) (s : Spacing) (t : Tag) → puts (enter sheet env s t).marks ≡ pieces_before sheet env t
puts-enter sheet env s tag.Paragraph = puts-paragraph env s.due s.fresh s.any_line
puts-enter sheet env s (tag.Heading level id classes attrs) = puts-heading sheet env s.due s.fresh s.any_line level
puts-enter sheet env s (tag.BlockQuote kind) = puts-quote sheet env s kind
puts-enter sheet env s (tag.List start) = puts-list env s
puts-enter sheet env s tag.Item = puts-put-then (record { due = s.due; fresh = fresh.No; any_line = true }) (marker sheet env.depth env.number)
puts-enter sheet env s (tag.FootnoteDefinition label) = puts-footnote sheet env s.due s.fresh s.any_line label
puts-enter sheet env s tag.DefinitionList = puts-join env s.due s.fresh s.any_line
puts-enter sheet env s tag.MetadataBlock = puts-metadata sheet env s.due s.fresh s.any_line
puts-enter sheet env s t = refl

puts-leave : (sheet : Sheet) (env : Environment) (s : Spacing) (t : Tag) → puts (leave sheet env s t).marks ≡ pieces_behind sheet t
puts-leave sheet env s (tag.Heading level id classes attrs) = puts-put-then s (styled_span (attribute_suffix id classes attrs) sheet.heading_meta)
puts-leave sheet env s (tag.Link dest) = puts-put_all s (link_spans sheet dest)
puts-leave sheet env s t = refl

puts-indent : (env : Environment) (spacing : Spacing) → puts (indent env spacing).marks ≡ []
puts-indent env spacing = by_test (in_item env)
  where
    by_test : (b : Bool) →
        puts (if b then record { marks = Pad env.item_width ∷ []; after = record { due = spacing.due; fresh = fresh.No; any_line = spacing.any_line } }
        else nothing_laid spacing).marks
        ≡ []
    by_test true = refl
    by_test false = refl

puts-begin_picture_line : (env : Environment) (spacing : Spacing) → puts (begin_picture_line env spacing).marks ≡ []
puts-begin_picture_line env spacing = by_test (in_item env && is_marker spacing.fresh)
  where
    by_test : (b : Bool) →
        puts (if b then nothing_laid spacing else then_laid (open_laid env spacing) (λ opened. indent env opened)).marks ≡ []
    by_test true = refl
    by_test false = puts-indent env (open_laid env spacing).after

puts-picture_line : (env : Environment) (spacing : Spacing) (line : LineView) → puts (picture_line env spacing line).marks ≡ pieces_of line.spans
puts-picture_line env spacing line =
    let a = begin_picture_line env spacing in
    puts2 a.marks (put_all a.after line.spans).marks [] (pieces_of line.spans) (puts-begin_picture_line env spacing) (puts-put_all a.after line.spans)

puts-table : (look : Look) (env : Environment) (spacing : Spacing) (view : TableView) →
    puts (table look env spacing view).marks ≡ table_pieces look env view
puts-table look env spacing view =
    let a = join_laid env spacing in
    let b = each_laid (picture_line env) a.after (table_picture look env view) in
    puts2 a.marks (b.marks ++ []) [] (table_pieces look env view)
    (puts-join env spacing.due spacing.fresh spacing.any_line)
    (ap (λ (marks : List Mark). puts marks) (append-nil b.marks)
    ∙ puts-each (picture_line env) (λ (line : LineView). pieces_of line.spans) (puts-picture_line env) a.after (table_picture look env view))

puts-join_all : (env : Environment) (s : Spacing) (spans : List SpanView) → puts (join_all env s spans).marks ≡ pieces_of spans
puts-join_all env s spans =
    let a = join_laid env s in
    puts2 a.marks (put_all a.after spans).marks [] (pieces_of spans) (puts-join env s.due s.fresh s.any_line) (puts-put_all a.after spans)

-- an element puts its pieces if what is inside it puts those of the nodes
puts-branch : (look : Look) (env : Environment) (s : Spacing) (t : Tag) (nodes : Nodes) (inside : Spacing → Laid) (within : List SpanView) →
    ((spacing : Spacing) → puts (inside spacing).marks ≡ within) →
    puts (branch look env s t nodes inside).marks ≡ branch_pieces look env t nodes within
puts-branch look env s (tag.CodeBlock kind) nodes inside within h = puts-code_block look env s kind (texts nodes)
puts-branch look env s tag.HtmlBlock nodes inside within h = puts-html_block look.sheet env s.due s.fresh s.any_line (texts nodes)
puts-branch look env s (tag.Table alignments) nodes inside within h = puts-table look env s (table_of look env alignments nodes)
puts-branch look env s (tag.Image dest) nodes inside within h =
    puts-join_all env s (image_in look env dest (flat look (environment_inside look.sheet env (tag.Image dest) nodes) nodes))
puts-branch look env s t nodes inside within h =
    let a = enter look.sheet env s t in
    let b = inside a.after in
    let c = leave look.sheet env b.after t in
    let first = pieces_before look.sheet env t in
    let last = pieces_behind look.sheet t in
    puts2 a.marks (b.marks ++ c.marks) first (within ++ last) (puts-enter look.sheet env s t)
    (puts2 b.marks c.marks within last (h a.after) (puts-leave look.sheet env b.after t))

-- the spans that a layout puts are the pieces of its tree, good or not
pub puts-layout : (look : Look) (t : Nodes) (env : Environment) (spacing : Spacing) → puts (layout look env spacing t).marks ≡ pieces look env t
puts-layout look Empty env spacing = refl
puts-layout look (Leaf e rest) env spacing =
    let a = leaf look.sheet env spacing e in
    puts2 a.marks (layout look env a.after rest).marks (leaf_pieces look.sheet env e) (pieces look env rest)
    (puts-leaf look.sheet env spacing e) (puts-layout look rest env a.after)
puts-layout look (Branch t inside rest) env spacing =
    let env_in = environment_inside look.sheet env t inside in
    let env_after = environment_after env t in
    let within = pieces look env_in inside in
    let a = branch look env spacing t inside (λ entered. layout look env_in entered inside) in
    puts2 a.marks (layout look env_after a.after rest).marks (branch_pieces look env t inside within) (pieces look env_after rest)
    (puts-branch look env spacing t inside (λ entered. layout look env_in entered inside) within (λ entered. puts-layout look inside env_in entered))
    (puts-layout look rest env_after a.after)
