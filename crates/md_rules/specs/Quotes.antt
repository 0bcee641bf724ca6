-- Quotes and alerts.
use Rattle.std.specs.Prelude.{ℕ, ◌-◌, Bool, true, false, ◌&&◌, Option, None, Some, List, [], ◌∷◌, drop, codes, if◌then◌else◌}
use Rattle.std.specs.Char.{eq_ignore_ascii_case}
use Rattle.md_tree.specs.declared.event.BlockQuoteKind.{BlockQuoteKind}
use Rattle.md_tree.specs.declared.event.BlockQuoteKind.TheVariants.{Note, Tip, Important, Warning, Caution}
use Rattle.md_lines.specs.Lines.{LineText, line_of}
use Rattle.md_rules.specs.Shallow.{is_shallow}
use Rattle.md_rules.specs.Texts.{trimmed, begins_with}

-- a quote begins or goes on at this line
abbrev pub quotes : LineText → Bool
quotes line = is_shallow line && begins_with 62 line.body

-- a line with so many columns taken off
abbrev pub less : ℕ → LineText → LineText
less n line = record { indent = line.indent - n; body = line.body }

-- a line of a quote without its mark: the rest is read anew, and loses one column
abbrev pub unquoted : LineText → LineText
unquoted line = less 1 (line_of (drop 1 line.body))

-- the run of a quote's lines in front, without their marks
unfoldable pub quoted : List LineText → List LineText
quoted [] = []
quoted (line ∷ lines) = if quotes line then unquoted line ∷ quoted lines else []

-- the same text, ASCII case aside
abbrev pub is_same : List ℕ → List ℕ → Bool
is_same [] [] = true
is_same (x ∷ xs) (y ∷ ys) = eq_ignore_ascii_case x y && is_same xs ys
is_same _ _ = false

-- the kind of alert that a text names
abbrev pub kind_of : List ℕ → Option BlockQuoteKind
kind_of text =
    if is_same text (codes "[!NOTE]") then Some Note
    else if is_same text (codes "[!TIP]") then Some Tip
    else if is_same text (codes "[!IMPORTANT]") then Some Important
    else if is_same text (codes "[!WARNING]") then Some Warning
    else if is_same text (codes "[!CAUTION]") then Some Caution
    else None

-- the kind of the alert whose first line, without its mark, this is
abbrev pub alert_of : LineText → Option BlockQuoteKind
alert_of line = if is_shallow line then kind_of (trimmed line.body) else None

abbrev pub first_alert : List LineText → Option BlockQuoteKind
first_alert [] = None
first_alert (line ∷ lines) = alert_of line

-- the lines of an alert without the one that names its kind
abbrev pub without_kind : Option BlockQuoteKind → List LineText → List LineText
without_kind None lines = lines
without_kind (Some kind) lines = drop 1 lines
