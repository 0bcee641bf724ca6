use Rattle.std.proofs.Common.{◌≡◌, ◌<◌, length, false, arith, ap, ℕ, ◌==◌}
use Rattle.std.proofs.lemmas.Bool.Decides.{nat_tests}
use Rattle.term_text.specs.Iter.{stretch_left}
use Rattle.term_text.specs.LineIter.{line_left}
use Rattle.term_text.proofs.LineLemmas.{line_left-some}
use Rattle.term_text.proofs.line_graphs.LineGraphemes.is_empty.Goals as goal

never : (n : ℕ) → 0 < n → false ≡ (n == 0)
never n h = grind (arith, nat_tests)

pub returns-then-stretch-gt0 : goal.returns-then-stretch-gt0
returns-then-stretch-gt0 c =
    let some : 0 < length (stretch_left c.args.self.now.current) = omega (arith, ap length c.stretch.ensures, c.if-stretch-gt0.true) in
    never (length (line_left c.args.self.now)) (line_left-some c.args.self.now some)
