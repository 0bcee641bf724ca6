use Rattle.std.proofs.Common.{ap}
use Rattle.std.specs.Prelude.{IfSome}
use Rattle.programs.proofs.Endings.{usage_says, refused_words_say, done_says, no_fault_says, read_fault_says, not_utf8_says, too_narrow_says, write_fault_says, too_long_says, only_too_long_says, untouched_says, complete_says}
use Rattle.md_page.proofs.Causes.{no_cause}
use Rattle.ansi_page.proofs.Weaker.{ran-weaker, done-parts}
use Rattle.ansi_page.proofs.program.run_ansi.Goals as goal

pub returns-clause-usage : goal.returns-clause-usage
returns-clause-usage g c = usage_says _ _ _ _ _ _ _ _ c.run_words.ensures.ran

pub returns-clause-refused_words : goal.returns-clause-refused_words
returns-clause-refused_words g c = refused_words_say _ _ _ _ _ _ _ _ c.run_words.ensures.ran

pub returns-clause-done : goal.returns-clause-done
returns-clause-done g c job e d = done-parts _ _ _ _ job (done_says _ _ _ _ _ _ _ _ c.run_words.ensures.ran job e d)

pub returns-clause-no_fault : goal.returns-clause-no_fault
returns-clause-no_fault g c = no_fault_says _ _ _ _ _ _ _ _ c.run_words.ensures.ran

pub returns-clause-read_fault : goal.returns-clause-read_fault
returns-clause-read_fault g c = read_fault_says _ _ _ _ _ _ _ _ c.run_words.ensures.ran

pub returns-clause-too_long : goal.returns-clause-too_long
returns-clause-too_long g c = too_long_says _ _ _ _ _ _ _ _ c.run_words.ensures.ran

pub returns-clause-only_too_long : goal.returns-clause-only_too_long
returns-clause-only_too_long g c = only_too_long_says _ _ _ _ _ _ _ _ c.run_words.ensures.ran (ap g.R.Source.left)

pub returns-clause-not_utf8 : goal.returns-clause-not_utf8
returns-clause-not_utf8 g c = not_utf8_says _ _ _ _ _ _ _ (λ job bytes cause. cause) _ _ c.run_words.ensures.ran

pub returns-clause-too_narrow : goal.returns-clause-too_narrow
returns-clause-too_narrow g c = too_narrow_says _ _ _ _ _ _ _ _ c.run_words.ensures.ran

pub returns-clause-write_fault : goal.returns-clause-write_fault
returns-clause-write_fault g c = write_fault_says _ _ _ _ _ _ _ _ c.run_words.ensures.ran

pub returns-clause-untouched : goal.returns-clause-untouched
returns-clause-untouched g c = untouched_says _ _ _ _ _ _ _ _ c.run_words.ensures.ran

pub returns-clause-complete : goal.returns-clause-complete
returns-clause-complete g c = complete_says _ _ _ _ _ _ no_cause _ _ (ran-weaker _ _ _ _ _ _ c.run_words.ensures.ran)
