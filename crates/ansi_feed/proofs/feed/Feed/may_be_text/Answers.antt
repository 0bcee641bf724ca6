use Rattle.std.proofs.Common.{◌≡◌, ◌++◌, Bool, false, take, refl, ap, sym, ◌∙◌}
use Rattle.std.specs.Prelude.{Result, Ok, Err, IfOk}
use Rattle.ansi_text.specs.Ansi.{is_text}
use Rattle.ansi_feed.specs.Feed.{FeedView, lines_from, lines_in}
use Rattle.ansi_feed.proofs.PushLemmas.{lines-text}
use Rattle.ansi_feed.specs.contracts.feed.Feed.{the_view}
use Rattle.ansi_feed.proofs.feed.Feed.may_be_text.Goals as goal

not_text : {E : Type 0} (r : Result Bool E) (x y : Bool) → x ≡ y → IfOk r (λ v. x ≡ v) → IfOk r (λ v. v ≡ false → y ≡ false)
not_text (Ok v) x y e h = λ is. sym e ∙ h ∙ is
not_text (Err u) x y e h = tt

pub returns-clause-not_text : goal.returns-clause-not_text
returns-clause-not_text c =
    not_text c.is_text_with.result _ _
    (ap (λ (f : FeedView). is_text (lines_from f.style (f.unfinished ++ take c.ended_length-end.result c.added-added.result.now))) (sym c.self.view_is)
    ∙ sym (lines-text (the_view c.self.inside) c.args.piece.now c.added-added.result.now c.self.inside.unfinished.items c.ended_length-end.result _
    (record {
      are_bytes = c.added-added.ensures;
      within = c.ended_length-end.ensures.within;
      are_ended = c.ended_length-end.ensures.ended;
      are_unfinished = c.ended_length-end.ensures.unfinished;
    })
    c.if-end-eq0.false refl refl)
    ∙ ap (λ (f : FeedView). is_text (lines_in f c.args.piece.now)) c.self.view_is)
    c.is_text_with.ensures.text
