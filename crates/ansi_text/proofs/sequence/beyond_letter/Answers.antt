use Rattle.std.proofs.Common.{◌∙◌, sym}
use Rattle.ansi_text.specs.Pieces.{is_letter}
use Rattle.ansi_text.proofs.PieceLemmas.{beyond-yes, beyond-no, beyond-none}
use Rattle.ansi_text.proofs.sequence.beyond_letter.Goals as goal

pub returns-then-is_ascii_alphabetic : goal.returns-then-is_ascii_alphabetic
returns-then-is_ascii_alphabetic c =
    beyond-yes is_letter c.loop-first.rest.now _ _ c.in-Some.ensures.cases.0 (sym c.if-is_ascii_alphabetic.ensures.value) ∙ c.loop-first.invariant

pub loop-first-preserved : goal.loop-first-preserved
loop-first-preserved c =
    beyond-no is_letter c.loop-first.rest.now _ _ c.in-Some.ensures.cases.0 (sym c.if-is_ascii_alphabetic.ensures.value) ∙ c.loop-first.invariant

pub returns : goal.returns
returns c = beyond-none is_letter c.loop-first.rest.now c.in_default.ensures.cases ∙ c.loop-first.invariant
