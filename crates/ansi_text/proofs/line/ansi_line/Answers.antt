use Rattle.std.proofs.Common.{◌≡◌, ◌<◌, ◌∙◌, ap, sym, subst, length, arith}
use Rattle.std.proofs.lemmas.Bool.Decides.{nat_tests}
use Rattle.std.proofs.lemmas.Result.{err_from_is_err_and}
use Rattle.ansi_text.specs.Pieces.{AtEscape}
use Rattle.ansi_text.specs.Reads.{StyleRead, past_escape}
use Rattle.ansi_text.proofs.PieceLemmas.{AtEscape-first_escape}
use Rattle.ansi_text.proofs.LineLemmas.{Reads-start, Reads-step, Reads-end, Reads-bad, past_escape-shorter}
use Rattle.ansi_text.proofs.line.ansi_line.Goals as goal

pub loop-rest-init : goal.loop-rest-init
loop-rest-init c = Reads-start c.args.style c.args.bytes.now c.new-line.result c.new-line.ensures

pub returns-in_err-push_stretch : goal.returns-in_err-push_stretch
returns-in_err-push_stretch c =
    let p = err_from_is_err_and c.from_residual.result c.from_residual.ensures.1 in
    rw (p.1, p.2) (λ is. Reads-bad c.args.style c.args.bytes.now c.loop-rest.line c.loop-rest.style c.loop-rest.rest.now _ c.loop-rest.invariant
    c.first_stretch.ensures.stretch (c.in_err-push_stretch.ensures.not_utf8 is))

pub past_escape-after-requires : goal.past_escape-after-requires
past_escape-after-requires c = subst AtEscape (sym c.first_stretch.ensures.rest) (AtEscape-first_escape c.loop-rest.rest.now)

pub loop-rest-smaller : goal.loop-rest-smaller
loop-rest-smaller c =
    let some : 0 < length c.loop-rest.rest.now = grind (arith, nat_tests, c.is_empty.ensures, c.loop-rest-test.true) in
    let after = c.past_escape-after.ensures ∙ ap (past_escape c.loop-rest.style) c.first_stretch.ensures.rest in
    subst (λ (a : StyleRead). length a.rest < length c.loop-rest.rest.now) (sym after) (past_escape-shorter c.loop-rest.style c.loop-rest.rest.now some)

pub loop-rest-preserved : goal.loop-rest-preserved
loop-rest-preserved c =
    Reads-step c.args.style c.args.bytes.now _ _ c.loop-rest.style c.loop-rest.rest.now _ _ c.loop-rest.invariant
    c.first_stretch.ensures.stretch c.in_ok-push_stretch.ensures.ok.0 c.in_ok-push_stretch.ensures.ok.1
    (c.past_escape-after.ensures ∙ ap (past_escape c.loop-rest.style) c.first_stretch.ensures.rest)

pub returns : goal.returns
returns c =
    let none : length c.loop-rest.rest.now ≡ 0 = grind (arith, nat_tests, c.is_empty.ensures, c.loop-rest-test.false) in
    Reads-end c.args.style c.args.bytes.now c.loop-rest.line c.loop-rest.style c.loop-rest.rest.now c.loop-rest.invariant none
