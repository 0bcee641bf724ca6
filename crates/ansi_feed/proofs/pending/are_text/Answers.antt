use Rattle.std.proofs.Common.{◌≡◌, ◌&&◌, length, ap, sym, ◌∙◌, arith}
use Rattle.std.proofs.lemmas.Bool.Decides.{nat_tests}
use Rattle.term_text.specs.Style.{no_style}
use Rattle.ansi_text.specs.Ansi.{is_text}
use Rattle.ansi_feed.specs.Feed.{lines_from}
use Rattle.ansi_feed.proofs.PendingLemmas.{lines_text-style, lines_text-first, lines_text-none}
use Rattle.ansi_feed.proofs.pending.are_text.Goals as goal

pub returns-then-not-is_open_text : goal.returns-then-not-is_open_text
returns-then-not-is_open_text c = λ style.
    lines_text-style style no_style c.args.bytes.now ∙ sym c.loop-rest.invariant
    ∙ lines_text-first no_style c.loop-rest.rest.now _ _ c.next_line_of_bytes.ensures.lines
    ∙ ap (λ v. v && is_text (lines_from no_style c.next_line_of_bytes.result.1.now)) (sym c.if-not-is_open_text.ensures)

pub loop-rest-preserved : goal.loop-rest-preserved
loop-rest-preserved c =
    sym (lines_text-first no_style c.loop-rest.rest.now _ _ c.next_line_of_bytes.ensures.lines
    ∙ ap (λ v. v && is_text (lines_from no_style c.next_line_of_bytes.result.1.now)) (sym c.if-not-is_open_text.ensures))
    ∙ c.loop-rest.invariant

pub returns : goal.returns
returns c = λ style.
    let none : length c.loop-rest.rest.now ≡ 0 = grind (arith, nat_tests, c.is_empty.ensures, c.loop-rest-test.false) in
    lines_text-style style no_style c.args.bytes.now ∙ sym c.loop-rest.invariant ∙ lines_text-none c.loop-rest.rest.now none
