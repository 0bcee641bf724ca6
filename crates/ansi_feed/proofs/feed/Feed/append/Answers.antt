use Rattle.std.proofs.Common.{ℕ, List, ◌∙◌, true, false, sym, ap, subst}
use Rattle.std.proofs.lemmas.Result.{err_from_is_err_and}
use Rattle.ansi_text.specs.Ansi.{is_text}
use Rattle.ansi_feed.specs.Feed.{FeedView, lines_in, pushed}
use Rattle.ansi_feed.specs.declared.pending.Pending.TheVariants.{Stretch}
use Rattle.ansi_feed.specs.declared.pending.Place.{Place}
use Rattle.ansi_feed.specs.Pending.{PassesBytes}
use Rattle.ansi_feed.proofs.PendingLemmas.{passes-behind, passes-none}
use Rattle.ansi_feed.proofs.FeedLemmas.{last_of-short, Stands-with}
use Rattle.ansi_feed.proofs.PushLemmas.{open-pushed, open-text, open-one_line, lines-pushed, lines-text, tail-one_line}
use Rattle.ansi_feed.specs.contracts.feed.Feed.{the_view}
use Rattle.ansi_feed.proofs.feed.Feed.append.Goals as goal

pub invariant_of-self-then-end-eq0 : goal.invariant_of-self-then-end-eq0
invariant_of-self-then-end-eq0 c = (
  c.self.invariant.0,
  open-one_line (the_view c.self.inside) c.args.piece.now c.added-bytes.result.now _ c.ended_length-end.result
      (record { are_bytes = c.added-bytes.ensures; within = c.ended_length-end.ensures.within; are_ended = c.ended_length-end.ensures.ended; are_unfinished = c.ended_length-end.ensures.unfinished })
      c.if-end-eq0.true c.self.invariant.1 c.in_ok-extend_from_slice.ensures.items,
  subst (λ (bs : List ℕ). PassesBytes Stretch bs c.self.inside.place) (sym c.in_ok-extend_from_slice.ensures.items)
      (passes-behind _ c.added-bytes.result.now c.self.inside.place c.self.invariant.2),
)

pub returns-then-end-eq0-clause-ok : goal.returns-then-end-eq0-clause-ok
returns-then-end-eq0-clause-ok c =
    open-pushed (the_view c.self.inside) c.args.piece.now c.added-bytes.result.now _ c.ended_length-end.result _
    (record { are_bytes = c.added-bytes.ensures; within = c.ended_length-end.ensures.within; are_ended = c.ended_length-end.ensures.ended; are_unfinished = c.ended_length-end.ensures.unfinished })
    c.if-end-eq0.true (c.self.invariant.0, c.self.invariant.1) c.in_ok-extend_from_slice.ensures.items c.cr_behind-after_cr.ensures
    ∙ ap (λ (f : FeedView). pushed f c.args.piece.now) c.self.view_is

pub returns-then-end-eq0-clause-text : goal.returns-then-end-eq0-clause-text
returns-then-end-eq0-clause-text c =
    sym (ap (λ (f : FeedView). is_text (lines_in f c.args.piece.now)) c.self.view_is)
    ∙ open-text (the_view c.self.inside) c.args.piece.now c.added-bytes.result.now c.ended_length-end.result
    (record { are_bytes = c.added-bytes.ensures; within = c.ended_length-end.ensures.within; are_ended = c.ended_length-end.ensures.ended; are_unfinished = c.ended_length-end.ensures.unfinished })
    c.if-end-eq0.true c.self.invariant.1

pub returns-then-end-eq0-clause-stands : goal.returns-then-end-eq0-clause-stands
returns-then-end-eq0-clause-stands c = λ u h. Stands-with c.args.self.now _ u c.args.piece.now (returns-then-end-eq0-clause-ok c) h

pub returns-in_err-fresh-clause-not_text : goal.returns-in_err-fresh-clause-not_text
returns-in_err-fresh-clause-not_text c =
    let p = err_from_is_err_and c.from_residual-in_err-fresh.result c.from_residual-in_err-fresh.ensures.1 in
    rw (p.1, p.2) (λ is. sym (ap (λ (f : FeedView). is_text (lines_in f c.args.piece.now)) c.self.view_is)
    ∙ lines-text (the_view c.self.inside) c.args.piece.now c.added-bytes.result.now c.as_slice.result.now c.ended_length-end.result false
    (record { are_bytes = c.added-bytes.ensures; within = c.ended_length-end.ensures.within; are_ended = c.ended_length-end.ensures.ended; are_unfinished = c.ended_length-end.ensures.unfinished })
    c.if-end-eq0.false c.as_slice.ensures.value (c.in_err-fresh.ensures is))

pub invariant_of-self-2 : goal.invariant_of-self-2
invariant_of-self-2 c = (
  rw c.keep_items.ensures (last_of-short c.self.inside.bound _),
  tail-one_line c.added-bytes.result.now _ c.ended_length-end.result c.ended_length-end.ensures.unfinished c.replace.ensures,
  subst (λ (p : Place). PassesBytes Stretch c.replace.new.bytes.items p) (sym c.start-self-inside.ensures) (passes-none Stretch c.replace.new.bytes.items),
)

pub returns-clause-ok : goal.returns-clause-ok
returns-clause-ok c =
    lines-pushed (the_view c.self.inside) c.args.piece.now c.added-bytes.result.now c.as_slice.result.now _ c.ended_length-end.result _ _ _ _ _
    (record { are_bytes = c.added-bytes.ensures; within = c.ended_length-end.ensures.within; are_ended = c.ended_length-end.ensures.ended; are_unfinished = c.ended_length-end.ensures.unfinished })
    c.if-end-eq0.false c.as_slice.ensures.value c.in_ok-reserve-2.ensures.items c.in_ok-fresh.ensures.0 c.keep_items.ensures c.replace.ensures c.in_ok-fresh.ensures.1 c.cr_behind-after_cr.ensures
    ∙ ap (λ (f : FeedView). pushed f c.args.piece.now) c.self.view_is

pub returns-clause-text : goal.returns-clause-text
returns-clause-text c =
    sym (ap (λ (f : FeedView). is_text (lines_in f c.args.piece.now)) c.self.view_is)
    ∙ lines-text (the_view c.self.inside) c.args.piece.now c.added-bytes.result.now c.as_slice.result.now c.ended_length-end.result true
    (record { are_bytes = c.added-bytes.ensures; within = c.ended_length-end.ensures.within; are_ended = c.ended_length-end.ensures.ended; are_unfinished = c.ended_length-end.ensures.unfinished })
    c.if-end-eq0.false c.as_slice.ensures.value c.in_ok-fresh.ensures.2

pub returns-clause-stands : goal.returns-clause-stands
returns-clause-stands c = λ u h. Stands-with c.args.self.now _ u c.args.piece.now (returns-clause-ok c) h
