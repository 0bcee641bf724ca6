use Rattle.std.proofs.Common.{◌≡◌, sym, subst, arith}
use Rattle.std.specs.Str.{IsValidUpTo}
use Rattle.ansi_feed.proofs.PendingLemmas.{passes-whole, passes-part, passes-lost, part-left}
use Rattle.ansi_feed.proofs.pending.pass_open_stretch.Goals as goal

pub returns-in-Ok-clause-passes : goal.returns-in-Ok-clause-passes
returns-in-Ok-clause-passes c = passes-whole c.args.bytes.now c.requires c.in-Ok.ensures.cases.1

pub returns-then-bytes-whole-ge4-clause-passes : goal.returns-then-bytes-whole-ge4-clause-passes
returns-then-bytes-whole-ge4-clause-passes c =
    let valid = subst (IsValidUpTo c.args.bytes.now) (sym c.valid_up_to-whole.ensures) c.in-Err.ensures.cases.1 in
    passes-lost c.args.bytes.now c.valid_up_to-whole.result c.requires valid (omega (arith, c.if-bytes-whole-ge4.true, valid.short))

pub returns-else-bytes-whole-ge4-clause-passes : goal.returns-else-bytes-whole-ge4-clause-passes
returns-else-bytes-whole-ge4-clause-passes c =
    passes-part c.args.bytes.now c.valid_up_to-whole.result c.requires
    (subst (IsValidUpTo c.args.bytes.now) (sym c.valid_up_to-whole.ensures) c.in-Err.ensures.cases.1)

pub returns-else-bytes-whole-ge4-clause-left : goal.returns-else-bytes-whole-ge4-clause-left
returns-else-bytes-whole-ge4-clause-left c = λ _.
    part-left c.args.bytes.now c.valid_up_to-whole.result c.requires
    (subst (IsValidUpTo c.args.bytes.now) (sym c.valid_up_to-whole.ensures) c.in-Err.ensures.cases.1) c.in-Err.ensures.cases.0
