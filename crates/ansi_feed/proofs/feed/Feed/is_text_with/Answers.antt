use Rattle.std.proofs.Common.{◌≡◌, ◌++◌, ◌&&◌, ℕ, Bool, List, drop, refl, ap, sym, ◌∙◌}
use Rattle.std.proofs.lemmas.List.{take_rest}
use Rattle.term_text.specs.Style.{no_style}
use Rattle.ansi_text.specs.Ansi.{is_text}
use Rattle.ansi_feed.specs.Feed.{FeedView, lines_from}
use Rattle.ansi_feed.specs.Pending.{pending_text}
use Rattle.ansi_feed.proofs.PendingLemmas.{lines_text-behind}
use Rattle.ansi_feed.specs.contracts.feed.Feed.{the_view}
use Rattle.ansi_feed.proofs.feed.Feed.is_text_with.Goals as goal
use Rattle.ansi_feed.proofs.feed.Feed.is_text_with.Goals.{then-branch, else-branch}

pub returns-clause-text : goal.returns-clause-text
returns-clause-text c =
    let place = c.self.inside.place in
    let front = c.self.inside.unfinished.items in
    let first = c.next_line_of_bytes.result.0.now in
    let after = c.next_line_of_bytes.result.1.now in
    let v = c.in_ok-is_text_behind.field-0 in
    let v_is : v ≡ pending_text place.pending (drop place.count front ++ first) =
    c.in_ok-is_text_behind.ensures
    ∙ ap (λ (xs : List ℕ). pending_text place.pending (xs ++ first)) (take_rest c.deref.result.now place.count ∙ ap (λ (xs : List ℕ). drop place.count xs) c.deref.ensures.value) in
    sym (ap (λ (f : FeedView). is_text (lines_from f.style (f.unfinished ++ c.args.ended.now))) (c.self.view_is ∙ c.look_on.ensures))
    ∙ (elim c.if-branch.branch [
      | then-branch w ↦ lines_text-behind c.self.inside.style front c.args.ended.now first after place v w.are_text.result c.self.invariant.2 c.self.invariant.1
          c.next_line_of_bytes.ensures.lines v_is (w.are_text.ensures no_style)
          ∙ ap (λ (a : Bool). a && w.are_text.result) w.if-branch.true ∙ sym w.result-is
      | else-branch w ↦ lines_text-behind c.self.inside.style front c.args.ended.now first after place v (is_text (lines_from no_style after)) c.self.invariant.2 c.self.invariant.1
          c.next_line_of_bytes.ensures.lines v_is refl
          ∙ ap (λ (a : Bool). a && is_text (lines_from no_style after)) w.if-branch.false ∙ sym w.if-branch.false ∙ sym w.result-is
    ])
