-- What a part of a tree lays out, and the words that layouts are made of.
use Rattle.std.specs.Prelude.{ℕ, ◌==◌, if◌then◌else◌, Bool, true, false, List, [], ◌∷◌, ◌++◌, length}
use Rattle.term_text.specs.declared.style.Style.{Style}
use Rattle.term_text.specs.Text.{SpanView}
use Rattle.md_text.specs.declared.environment.Environment.{Environment}
use Rattle.md_text.specs.declared.environment.Spacing.{Spacing}
use Rattle.md_text.specs.declared.environment.Fresh.TheVariants as fresh
use Rattle.md_text.specs.Marks.{Mark, Open, Put}

-- marks, and the spacing state behind them
pub record Laid : Type 0 where
  pub marks : List Mark
  pub after : Spacing

abbrev pub nothing_laid : Spacing → Laid
nothing_laid spacing = record { marks = []; after = spacing }

-- one layout, and then another from the spacing state behind it
abbrev pub then_laid : Laid → (Spacing → Laid) → Laid
then_laid first next =
    let second = next first.after in record { marks = first.marks ++ second.marks; after = second.after }

-- a line of a style, behind quote marks
abbrev pub open_styled : ℕ → Style → Spacing → Laid
open_styled quotes style spacing =
    record {
      marks = Open quotes style ∷ [];
      after = record { due = spacing.due; fresh = fresh.No; any_line = true };
    }

-- Open: a line of the line style, behind the open quotes' marks
abbrev pub open_laid : Environment → Spacing → Laid
open_laid env spacing = open_styled env.quotes env.line_style spacing

abbrev pub with_due : Bool → Spacing → Spacing
with_due due spacing = record { due = due; fresh = spacing.fresh; any_line = spacing.any_line }

-- Gap: if a line is due, Open
abbrev pub gap_laid : Environment → Spacing → Laid
gap_laid env spacing = if spacing.due then open_laid env spacing else nothing_laid spacing

-- Join: if a line is due, Open, and none is due behind it
abbrev pub join_laid : Environment → Spacing → Laid
join_laid env spacing =
    if spacing.due then then_laid (open_laid env spacing) (λ opened. nothing_laid (with_due false opened))
    else nothing_laid spacing

-- Put: a span with a text goes to the last line
abbrev pub put_laid : Spacing → SpanView → Laid
put_laid spacing span =
    if length span.text == 0 then nothing_laid spacing
    else record {
      marks = Put span ∷ [];
      after = record { due = spacing.due; fresh = fresh.No; any_line = spacing.any_line };
    }

-- what each of some things lays out, one after another
abbrev pub each_laid : {A : Type 0} → (Spacing → A → Laid) → Spacing → List A → Laid
each_laid one spacing [] = nothing_laid spacing
each_laid one spacing (x ∷ xs) = then_laid (one spacing x) (λ behind. each_laid one behind xs)

-- spans put one after another
abbrev pub put_all : Spacing → List SpanView → Laid
put_all spacing spans = each_laid put_laid spacing spans

-- Join, and spans put one after another
abbrev pub join_all : Environment → Spacing → List SpanView → Laid
join_all env spacing spans = then_laid (join_laid env spacing) (λ joined. put_all joined spans)
