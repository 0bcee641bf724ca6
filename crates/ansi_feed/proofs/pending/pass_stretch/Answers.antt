use Rattle.std.proofs.Common.{◌≡◌, ap, sym, ◌∙◌, take}
use Rattle.std.specs.Str.{is_utf8}
use Rattle.ansi_feed.specs.declared.pending.Pending.TheVariants.{Escape, Lost}
use Rattle.std.proofs.Common.{cond, Bool}
use Rattle.ansi_feed.proofs.PendingLemmas.{passes-ended_as}
use Rattle.ansi_feed.proofs.pending.pass_stretch.Goals as goal
use Rattle.ansi_feed.proofs.pending.pass_stretch.Goals.{then-is_utf8, else-is_utf8}

pub returns-clause-passes : goal.returns-clause-passes
returns-clause-passes c =
    let utf8 : c.is_utf8.result ≡ is_utf8 (take c.first_escape-end.result c.args.bytes.now) = c.is_utf8.ensures in
    passes-ended_as c.args.bytes.now c.is_utf8.result c.if-is_utf8.pending c.first_escape-end.result c.first_escape-end.ensures.value
    c.first_escape-end.ensures.within c.if-end-bytes.false utf8
    (elim c.if-is_utf8.branch [
      | then-is_utf8 w ↦ w.pending-is ∙ ap (λ (v : Bool). cond v Escape Lost) (sym w.if-is_utf8.true)
      | else-is_utf8 w ↦ w.pending-is ∙ ap (λ (v : Bool). cond v Escape Lost) (sym w.if-is_utf8.false)
    ])
