use Rattle.std.proofs.Common.{rules, ◌≡◌, ◌<◌, ◌∙◌, ap, refl, sym, subst, length, true, false, arith}
use Rattle.std.proofs.lemmas.Bool.Decides.{nat_tests}
use Rattle.std.specs.Str.{is_utf8}
use Rattle.ansi_text.specs.Pieces.{AtEscape}
use Rattle.ansi_text.specs.Reads.{StyleRead, past_escape}
use Rattle.ansi_text.proofs.PieceLemmas.{AtEscape-first_escape}
use Rattle.ansi_text.proofs.LineLemmas.{past_escape-shorter}
use Rattle.ansi_text.proofs.RestyleLemmas.{Restyles-start, Restyles-step, Restyles-end, Restyles-bad}
use Rattle.ansi_text.proofs.line.style_after_line.Goals as goal

pub loop-rest-init : goal.loop-rest-init
loop-rest-init c = Restyles-start c.args.style c.args.line.now

pub past_escape-after-requires : goal.past_escape-after-requires
past_escape-after-requires c = subst AtEscape (sym c.first_stretch.ensures.rest) (AtEscape-first_escape c.loop-rest.rest.now)

pub loop-rest-smaller : goal.loop-rest-smaller
loop-rest-smaller c =
    let some : 0 < length c.loop-rest.rest.now = grind (arith, nat_tests, c.is_empty.ensures, c.loop-rest-test.true) in
    let after = c.past_escape-after.ensures ∙ ap (past_escape c.loop-rest.style) c.first_stretch.ensures.rest in
    subst (λ (a : StyleRead). length a.rest < length c.loop-rest.rest.now) (sym after) (past_escape-shorter c.loop-rest.style c.loop-rest.rest.now some)

pub returns-then-not-is_utf8 : goal.returns-then-not-is_utf8
returns-then-not-is_utf8 c =
    let bad : is_utf8 c.first_stretch.result.0.now ≡ false = search rules in
    (refl, Restyles-bad c.args.style c.args.line.now c.loop-rest.style c.loop-rest.rest.now _ c.loop-rest.invariant c.first_stretch.ensures.stretch bad)

pub loop-rest-preserved : goal.loop-rest-preserved
loop-rest-preserved c =
    let text : is_utf8 c.first_stretch.result.0.now ≡ true = search rules in
    Restyles-step c.args.style c.args.line.now c.loop-rest.style c.loop-rest.rest.now _ _ c.loop-rest.invariant c.first_stretch.ensures.stretch text
    (c.past_escape-after.ensures ∙ ap (past_escape c.loop-rest.style) c.first_stretch.ensures.rest)

pub returns : goal.returns
returns c =
    let none : length c.loop-rest.rest.now ≡ 0 = grind (arith, nat_tests, c.is_empty.ensures, c.loop-rest-test.false) in
    Restyles-end c.args.style c.args.line.now c.loop-rest.style c.loop-rest.rest.now c.loop-rest.invariant none
