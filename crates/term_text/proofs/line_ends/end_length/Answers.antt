use Rattle.std.proofs.Common.{inl, inr}
use Rattle.term_text.proofs.EndLemmas.{end_length-short, end_length-pair, end_length-one}
use Rattle.term_text.proofs.line_ends.end_length.Goals as goal
use Rattle.term_text.proofs.line_ends.end_length.Goals.{else-rest-eq13-via-then-rest-eq13+else-rest-eq10, else-rest-eq13-via-else-rest-eq13}

pub returns-then-rest-lt2-clause-value : goal.returns-then-rest-lt2-clause-value
returns-then-rest-lt2-clause-value c = end_length-short c.args.rest.now c.if-rest-lt2.true

pub returns-then-rest-eq10-clause-value : goal.returns-then-rest-eq10-clause-value
returns-then-rest-eq10-clause-value c = end_length-pair c.args.rest.now c.if-rest-lt2.false c.if-rest-eq13.true c.if-rest-eq10.true

pub returns-else-rest-eq13-clause-value : goal.returns-else-rest-eq13-clause-value
returns-else-rest-eq13-clause-value c =
    end_length-one c.args.rest.now c.if-rest-lt2.false
    (elim c.else-rest-eq13.branch [
      | else-rest-eq13-via-then-rest-eq13+else-rest-eq10 w ↦ inr w.if-rest-eq10.false
      | else-rest-eq13-via-else-rest-eq13 w ↦ inl w.if-rest-eq13.false
    ])
