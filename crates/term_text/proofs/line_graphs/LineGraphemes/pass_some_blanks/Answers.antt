use Rattle.std.proofs.Common.{◌≡◌, ◌<◌, ℕ, nat_lt, true, false, length, drop, arith, sym, ap, ◌∙◌, length-drop}
use Rattle.std.proofs.lemmas.Bool.Decides.{nat_tests}
use Rattle.term_text.specs.Cut.{leading_spaces}
use Rattle.term_text.specs.Iter.{stretch_left}
use Rattle.term_text.specs.LineIter.{line_left}
use Rattle.term_text.specs.Wrap.{skip_blanks}
use Rattle.term_text.proofs.LineLemmas.{line_left-some, skip_blanks-blank, skip_blanks-line, skip_blanks-line_none, skip_blanks-nil, skip_blanks-stop}
use Rattle.term_text.proofs.line_graphs.LineGraphemes.pass_some_blanks.Goals as goal

none_of : (n : ℕ) → nat_lt 0 n ≡ false → n ≡ 0
none_of n h = grind (arith, nat_tests)

some_of : (n : ℕ) → nat_lt 0 n ≡ true → 0 < n
some_of n h = grind (arith, nat_tests)

pub returns-then-stretch-gt0-clause-skipped : goal.returns-then-stretch-gt0-clause-skipped
returns-then-stretch-gt0-clause-skipped c =
    let spaces = c.leading_spaces-blanks.ensures.value ∙ ap leading_spaces c.stretch-stretch.ensures in
    ap skip_blanks c.pass_stretch.ensures ∙ skip_blanks-line c.args.self.now c.leading_spaces-blanks.result spaces

pub returns-then-stretch-gt0-clause-stopped : goal.returns-then-stretch-gt0-clause-stopped
returns-then-stretch-gt0-clause-stopped c is =
    let none = none_of c.leading_spaces-blanks.result is in
    let spaces = c.leading_spaces-blanks.ensures.value ∙ ap leading_spaces c.stretch-stretch.ensures in
    let some : 0 < length (stretch_left c.args.self.now.current) = omega (arith, ap length c.stretch-stretch.ensures, c.if-stretch-gt0.true) in
    c.pass_stretch.ensures ∙ ap (λ n. drop n (line_left c.args.self.now)) none
    ∙ sym (skip_blanks-line_none c.args.self.now some (sym spaces ∙ none))

pub returns-then-stretch-gt0-clause-shorter : goal.returns-then-stretch-gt0-clause-shorter
returns-then-stretch-gt0-clause-shorter c is =
    let passed = some_of c.leading_spaces-blanks.result is in
    let some : 0 < length (stretch_left c.args.self.now.current) = omega (arith, ap length c.stretch-stretch.ensures, c.if-stretch-gt0.true) in
    let left = line_left-some c.args.self.now some in
    omega (arith, ap length c.pass_stretch.ensures, length-drop c.leading_spaces-blanks.result (line_left c.args.self.now), left, passed)

pub returns-in_default-clause-stopped : goal.returns-in_default-clause-stopped
returns-in_default-clause-stopped c _ = skip_blanks-nil _ (sym c.copy-ahead.ensures ∙ c.in_default.ensures.steps.0)

pub returns-then-not-graph-clause-stopped : goal.returns-then-not-graph-clause-stopped
returns-then-not-graph-clause-stopped c _ = sym (skip_blanks-stop _ _ _ (sym c.copy-ahead.ensures ∙ c.in-Some.ensures.steps) c.if-not-graph.true)

pub returns-clause-skipped : goal.returns-clause-skipped
returns-clause-skipped c = sym (skip_blanks-blank _ _ _ (sym c.copy-ahead.ensures ∙ c.in-Some.ensures.steps) c.if-not-graph.false)
