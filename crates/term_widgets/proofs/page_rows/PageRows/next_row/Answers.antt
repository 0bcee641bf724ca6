use Rattle.std.proofs.Common.{◌≡◌, ◌++◌, [], refl, ap, ap₂, sym, ◌∙◌}
use Rattle.std.proofs.lemmas.List.{drop_all}
use Rattle.term_widgets.specs.Page.{rows_of}
use Rattle.term_widgets.specs.PageRows.{later_rows, page_left}
use Rattle.term_widgets.proofs.LineLemmas.{rows_of-none}
use Rattle.term_widgets.proofs.page_rows.PageRows.next_row.Goals as goal

pub lines-init : goal.lines-init
lines-init g c = record { left = refl; ticks = g.met.L.Ledger.noted_none _ }

pub returns-in-Some-clause-row : goal.returns-in-Some-clause-row
unfolding page_left
returns-in-Some-clause-row g c =
    sym c.lines.invariant.left ∙ ap₂ (λ a b. a ++ b) c.in-Some.ensures.row (sym c.in-Some.ensures.later)

pub returns-in-Some-clause-ticks : goal.returns-in-Some-clause-ticks
returns-in-Some-clause-ticks g c = g.met.L.Ledger.noted_sum 0 1 _ _ _ c.lines.invariant.ticks c.in-Some.ensures.ticks

pub returns-then-self-clause-row : goal.returns-then-self-clause-row
unfolding page_left later_rows
returns-then-self-clause-row g c =
    let s = c.next_of_line.new.self in
    let later : later_rows s ≡ [] = ap (rows_of s.width) (drop_all s.place s.lines.now c.if-self.true) ∙ rows_of-none s.width in (
      sym c.lines.invariant.left ∙ ap₂ (λ a b. a ++ b) c.in_default.ensures.row.0 (sym c.in_default.ensures.later ∙ later),
      ap₂ (λ a b. a ++ b) c.in_default.ensures.row.1 later,
    )

pub returns-then-self-clause-ticks : goal.returns-then-self-clause-ticks
returns-then-self-clause-ticks g c = g.met.L.Ledger.noted_sum 0 0 _ _ _ c.lines.invariant.ticks c.in_default.ensures.ticks

pub lines-preserved : goal.lines-preserved
unfolding page_left
lines-preserved g c = record {
  left = c.open_line.ensures.rows ∙ c.in_default.ensures.later
      ∙ sym (ap (λ t. t ++ later_rows c.lines.self) c.in_default.ensures.row.0) ∙ c.lines.invariant.left;
  ticks = g.met.L.Ledger.noted_sum 0 0 _ _ _ c.lines.invariant.ticks c.in_default.ensures.ticks;
}
