use Rattle.std.proofs.Common.{◌≡◌, ◌++◌, ◌∙◌, sym, length, arith}
use Rattle.std.proofs.lemmas.Bool.Decides.{nat_tests}
use Rattle.std.proofs.lemmas.Result.{err_from_is_err_and}
use Rattle.ansi_feed.proofs.EndedLemmas.{raw_lines-front}
use Rattle.ansi_feed.proofs.ReadLemmas.{Reads, Reads-start, Reads-pass, Reads-step, Reads-bad, Reads-end, one_line-first}
use Rattle.ansi_feed.proofs.lines.read_lines.Goals as goal

pub read_first_line-requires-clause-behind : goal.read_first_line-requires-clause-behind
read_first_line-requires-clause-behind c = one_line-first c.args.bytes.now _ _ c.next_line_of_bytes.ensures.lines

pub returns-in_err-line : goal.returns-in_err-line
returns-in_err-line c =
    let p = err_from_is_err_and c.from_residual.result c.from_residual.ensures.1 in
    rw (p.1, p.2) (λ is. Reads-bad c.args.bound c.args.style (c.args.front.now ++ c.args.bytes.now) c.new-lines.result.items c.args.style (c.args.front.now ++ c.args.bytes.now) _ _
    (Reads-start c.args.bound c.args.style (c.args.front.now ++ c.args.bytes.now) c.new-lines.result.items c.new-lines.ensures.items)
    (raw_lines-front c.args.front.now c.args.bytes.now _ _ c.requires.front c.next_line_of_bytes.ensures.lines) (c.in_err-line.ensures is))

pub returns-in_err-style : goal.returns-in_err-style
returns-in_err-style c =
    let p = err_from_is_err_and c.from_residual-in_err-style.result c.from_residual-in_err-style.ensures.1 in
    rw (p.1, p.2) (λ is. sym (Reads.are_text (Reads-step c.args.bound c.args.style (c.args.front.now ++ c.args.bytes.now) c.new-lines.result.items _ c.args.style _ (c.args.front.now ++ c.args.bytes.now) _ _ _
    (Reads-start c.args.bound c.args.style (c.args.front.now ++ c.args.bytes.now) c.new-lines.result.items c.new-lines.ensures.items)
    (raw_lines-front c.args.front.now c.args.bytes.now _ _ c.requires.front c.next_line_of_bytes.ensures.lines)
    c.in_ok-line.ensures.0 c.in_ok-line.ensures.1 c.in_ok-line.ensures.2 c.in_ok-keep_item.ensures)) ∙ c.in_err-style.ensures.1)

pub loop-rest-init : goal.loop-rest-init
loop-rest-init c =
    Reads-pass c.args.bound c.args.style (c.args.front.now ++ c.args.bytes.now) _ _ _ _ _
    (Reads-step c.args.bound c.args.style (c.args.front.now ++ c.args.bytes.now) c.new-lines.result.items _ c.args.style _ (c.args.front.now ++ c.args.bytes.now) _ _ _
    (Reads-start c.args.bound c.args.style (c.args.front.now ++ c.args.bytes.now) c.new-lines.result.items c.new-lines.ensures.items)
    (raw_lines-front c.args.front.now c.args.bytes.now _ _ c.requires.front c.next_line_of_bytes.ensures.lines)
    c.in_ok-line.ensures.0 c.in_ok-line.ensures.1 c.in_ok-line.ensures.2 c.in_ok-keep_item.ensures)
    c.in_ok-style.ensures

pub read_line-requires : goal.read_line-requires
read_line-requires c = one_line-first c.loop-rest.rest.now _ _ c.next_line_of_bytes-in-loop-rest.ensures.lines

pub returns-in_err-line-2 : goal.returns-in_err-line-2
returns-in_err-line-2 c =
    let p = err_from_is_err_and c.from_residual-in_err-line-2.result c.from_residual-in_err-line-2.ensures.1 in
    rw (p.1, p.2) (λ is. Reads-bad c.args.bound c.args.style (c.args.front.now ++ c.args.bytes.now) c.loop-rest.lines.items c.loop-rest.style c.loop-rest.rest.now _ _
    c.loop-rest.invariant c.next_line_of_bytes-in-loop-rest.ensures.lines (c.in_err-line-2.ensures is))

pub loop-rest-preserved : goal.loop-rest-preserved
loop-rest-preserved c =
    Reads-step c.args.bound c.args.style (c.args.front.now ++ c.args.bytes.now) c.loop-rest.lines.items _ c.loop-rest.style _ c.loop-rest.rest.now _ _ _
    c.loop-rest.invariant c.next_line_of_bytes-in-loop-rest.ensures.lines
    c.in_ok-line-2.ensures.0 c.in_ok-line-2.ensures.1 c.in_ok-line-2.ensures.2 c.in_ok-keep_item-2.ensures

pub returns : goal.returns
returns c =
    let none : length c.loop-rest.rest.now ≡ 0 = grind (arith, nat_tests, c.is_empty.ensures, c.loop-rest-test.false) in
    Reads-end c.args.bound c.args.style (c.args.front.now ++ c.args.bytes.now) c.loop-rest.lines.items c.loop-rest.style c.loop-rest.rest.now c.loop-rest.invariant none
