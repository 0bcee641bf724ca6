use Rattle.std.proofs.Common.{arith, ◌≡◌, drop, take}
use Rattle.std.proofs.lemmas.Grind.{common_steps}
use Rattle.term_text.specs.LineEnds.{first_end}
use Rattle.term_text.proofs.EndLemmas.{AtEnd-first_end, raw_lines-rest, after_end-shorter}
use Rattle.term_text.proofs.line_ends.next_line.Goals as goal

pub after_end-requires : goal.after_end-requires
after_end-requires c = rw (c.range_from-rest.ensures.value, c.text_end-end.ensures.value) (AtEnd-first_end _)

pub returns-clause-lines : goal.returns-clause-lines
returns-clause-lines c =
    let line : c.range-line.result.now ≡ take (first_end c.args.text.now) c.args.text.now = grind (arith, common_steps) in
    let rest : c.range_from-rest.result.now ≡ drop (first_end c.args.text.now) c.args.text.now = grind (arith, common_steps) in
    raw_lines-rest c.args.text.now _ _ _ c.requires line rest c.after_end.ensures

pub returns-clause-shorter : goal.returns-clause-shorter
returns-clause-shorter c =
    let rest : c.range_from-rest.result.now ≡ drop (first_end c.args.text.now) c.args.text.now = grind (arith, common_steps) in
    after_end-shorter c.args.text.now _ _ c.requires rest c.after_end.ensures
