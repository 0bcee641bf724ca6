use Rattle.std.proofs.Common.{◌≡◌, ◌<◌, ◌∙◌, ap₂, sym, subst, length, List, [], ◌∷◌, ◌++◌, arith}
use Rattle.std.proofs.lemmas.Bool.Decides.{nat_tests}
use Rattle.std.proofs.lemmas.Result.{err_from_is_err_and}
use Rattle.term_text.specs.declared.style.Style.{Style}
use Rattle.term_text.specs.Text.{LineView}
use Rattle.ansi_text.proofs.TextLemmas.{ReadsLines, ReadsLines-start, ReadsLines-step, ReadsLines-end, ReadsLines-bad, ansi-empty}
use Rattle.ansi_text.proofs.text.bytes_to_text.Goals as goal

pub returns-then-is_empty : goal.returns-then-is_empty
returns-then-is_empty c =
    let none : length c.args.bytes.now ≡ 0 = grind (arith, nat_tests, c.is_empty.ensures, c.if-is_empty.true) in
    let lines = ap₂ (λ (ls : List LineView) (l : LineView). ls ++ l ∷ []) c.new-text.ensures c.new.ensures in
    (c.in_ok-push_line.ensures.ok ∙ lines ∙ (ansi-empty c.args.bytes.now none).0, (ansi-empty c.args.bytes.now none).1)

pub loop-rest-init : goal.loop-rest-init
loop-rest-init c =
    let some : 0 < length c.args.bytes.now = grind (arith, nat_tests, c.is_empty.ensures, c.if-is_empty.false) in
    subst (λ (s : Style). ReadsLines c.args.bytes.now c.new-text.result s c.args.bytes.now) (sym c.new-style.ensures)
    (ReadsLines-start c.args.bytes.now c.new-text.result some c.new-text.ensures)

pub loop-rest-preserved : goal.loop-rest-preserved
loop-rest-preserved c =
    ReadsLines-step c.args.bytes.now c.loop-rest.text _ c.loop-rest.style _ c.loop-rest.rest.now c.next_line_of_bytes.result.0.now _ _
    c.loop-rest.invariant c.next_line_of_bytes.ensures.lines c.in_ok-line.ensures.0 c.in_ok-line.ensures.1 c.in_ok-line.ensures.2
    c.in_ok-push_line-2.ensures.ok

pub returns-in_err-line : goal.returns-in_err-line
returns-in_err-line c =
    let p = err_from_is_err_and c.from_residual-in_err-line.result c.from_residual-in_err-line.ensures.1 in
    rw (p.1, p.2) (λ is. ReadsLines-bad c.args.bytes.now c.loop-rest.text c.loop-rest.style c.loop-rest.rest.now _ _ c.loop-rest.invariant
    c.next_line_of_bytes.ensures.lines (c.in_err-line.ensures is))

pub returns : goal.returns
returns c =
    let none : length c.loop-rest.rest.now ≡ 0 = grind (arith, nat_tests, c.is_empty-in-loop-rest.ensures, c.loop-rest-test.false) in
    ReadsLines-end c.args.bytes.now c.loop-rest.text c.loop-rest.style c.loop-rest.rest.now c.loop-rest.invariant none
