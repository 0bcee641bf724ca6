use Rattle.std.proofs.Common.{◌≤◌, length, ap, arith}
use Rattle.std.proofs.lemmas.Result.{err_from_is_err_and}
use Rattle.term_text.specs.LineEnds.{raw_lines}
use Rattle.ansi_feed.proofs.ReadLemmas.{Passes-step, Passes-bad, one_line-first, some_bytes}
use Rattle.ansi_feed.proofs.lines.pass_lines.Goals as goal

pub next_line_of_bytes-requires : goal.next_line_of_bytes-requires
next_line_of_bytes-requires c = some_bytes c.loop-left.rest.now (omega (arith, c.loop-left.invariant.left, c.loop-left-test.true))

pub read_style-requires : goal.read_style-requires
read_style-requires c = one_line-first c.loop-left.rest.now _ _ c.next_line_of_bytes.ensures.lines

pub returns-in_err-style : goal.returns-in_err-style
returns-in_err-style c =
    let p = err_from_is_err_and c.from_residual.result c.from_residual.ensures.1 in
    rw (p.1, p.2) (
      c.in_err-style.ensures.0,
      Passes-bad c.args.bound c.args.style c.args.bytes.now c.loop-left.style c.loop-left.rest.now _ _ c.loop-left.invariant.passes
          c.next_line_of_bytes.ensures.lines c.in_err-style.ensures.1,
    )

pub loop-left-preserved : goal.loop-left-preserved
loop-left-preserved c =
    let lines = ap length c.next_line_of_bytes.ensures.lines in
    let many : c.args.bound ≤ length (raw_lines c.next_line_of_bytes.result.1.now) =
    omega (arith, c.loop-left.invariant.left, lines, c.loop-left-test.true) in
    record {
      passes =
          Passes-step c.args.bound c.args.style c.args.bytes.now c.loop-left.style _ c.loop-left.rest.now _ _ c.loop-left.invariant.passes
          c.next_line_of_bytes.ensures.lines many c.in_ok-style.ensures.0 c.in_ok-style.ensures.1;
      left = omega (arith, c.loop-left.invariant.left, lines);
    }
