use Rattle.std.proofs.Common.{false, ◌≡◌, ◌++◌, ◌∷◌, [], ◌+◌, ◌-◌, List, ℕ, rules, length, length-drop, take, drop, ap, sym, subst, ◌∙◌, arith}
use Rattle.std.specs.List.{slice_range}
use Rattle.md_tree.specs.declared.event.Event.TheVariants as event
use Rattle.md_tree.specs.Tree.{end_of}
use Rattle.md_runs.specs.Brackets.{Single}
use Rattle.md_runs.specs.Seen.{part_of}
use Rattle.md_runs.specs.Pairs.{cost, between}
use Rattle.md_runs.specs.Nest.{Empty, group_tag, inner, pairs, parts_of, unpaired}
use Rattle.md_runs.specs.Marks.{An, closed, joined, opened, steps}
use Rattle.md_runs.specs.Partners.{IsGone}
use Rattle.md_runs.specs.Facts.{AreParts, IsPart}
use Rattle.md_runs.proofs.Lists.{slice-rest}
use Rattle.md_runs.proofs.GoneLemmas.{gone-here, gone-far}
use Rattle.md_runs.proofs.PairSteps.{nest-parts, steps-alone, steps-styled, steps-group, inner-none, turn, three-turns}
use Rattle.md_runs.proofs.PartFacts.{AreParts-drop, AreParts-get, AreParts-parts_of}
use Rattle.md_runs.proofs.Turns.{begins, pair-turn, pair-within, part-turn, no-turn}
use Rattle.std.specs.List.{list_any}
use Rattle.md_runs.specs.Plain.{leaf_begins_element}
use Rattle.md_runs.proofs.PlainSteps.{steps-plain}
use Rattle.md_runs.proofs.write.+nest.Goals as goal

pub write_nest-write_parts-requires : goal.write_nest-write_parts-requires
write_nest-write_parts-requires t c =
    let parts : c.as_slice.result.now ≡ parts_of c.args.level.depth c.args.level.in_link c.args.leaves.now = c.as_slice.ensures.value ∙ c.in_ok-parts.ensures in
    (omega arith, (subst (AreParts c.args.source.now.text) (sym parts) (AreParts-parts_of c.args.source.now.text c.args.level.depth c.args.level.in_link c.args.leaves.now c.requires.leaves), c.requires.pen))

pub write_nest-returns-clause-written : goal.write_nest-returns-clause-written
write_nest-returns-clause-written t c = λ ss.
    let parts : c.as_slice.result.now ≡ parts_of c.args.level.depth c.args.level.in_link c.args.leaves.now = c.as_slice.ensures.value ∙ c.in_ok-parts.ensures in
    c.in_ok-write_parts.ensures.written ss
    ∙ ap (λ x. c.args.out.now.items ++ joined c.args.source.now.text c.args.pen.now.pending (steps x ++ ss))
    (ap (pairs c.args.source.now.text c.args.level.in_link (inner c.args.source.now.text c.args.level.depth c.args.level.in_link) c.args.level.levels) parts
    ∙ sym (nest-parts c.args.source.now.text c.args.level.depth c.args.level.levels c.args.level.in_link c.args.leaves.now))

pub write_pair-between-requires : goal.write_pair-between-requires
write_pair-between-requires t c =
    let b = begins c.args.source.now.text c.args.level.levels c.args.parts.now c.args.pair c.requires.pair in
    let within = b.within in
    let len : length (take (length c.args.parts.now - 1) (drop 1 c.args.parts.now)) ≡ length (drop 1 c.args.parts.now) = ap length (slice-rest 1 c.args.parts.now) in
    let drops = length-drop 1 c.args.parts.now in
    omega arith

pub write_pair-write_parts-requires : goal.write_pair-write_parts-requires
write_pair-write_parts-requires t c =
    let b = begins c.args.source.now.text c.args.level.levels c.args.parts.now c.args.pair c.requires.pair in
    let enough = b.enough in
    let some = b.some in
    let taken : c.cost.result ≡ cost c.args.pair.size = c.cost.ensures in
    let inside : c.as_slice.result.now ≡ between c.args.pair.size c.args.pair.more (drop 1 c.args.parts.now) =
    c.as_slice.ensures.value ∙ (c.in_ok-inside.ensures ∙ ap (between c.args.pair.size c.args.pair.more) (slice-rest 1 c.args.parts.now)) in
    (omega (arith, enough, some, taken), (subst (AreParts c.args.source.now.text) (sym inside) (b.inside c.requires.parts), c.in_ok-open.ensures.pen))

pub write_pair-returns-clause-written : goal.write_pair-returns-clause-written
write_pair-returns-clause-written t c =
    let inside : c.as_slice.result.now ≡ between c.args.pair.size c.args.pair.more (drop 1 c.args.parts.now) =
    c.as_slice.ensures.value ∙ (c.in_ok-inside.ensures ∙ ap (between c.args.pair.size c.args.pair.more) (slice-rest 1 c.args.parts.now)) in
    three-turns
    (λ ss. c.args.out.now.items ++ joined c.args.source.now.text c.args.pen.now.pending ss)
    (λ ss. c.open.new.out.items ++ joined c.args.source.now.text c.open.new.pen.pending ss)
    (λ ss. c.write_parts.new.out.items ++ joined c.args.source.now.text c.write_parts.new.pen.pending ss)
    (λ ss. c.close.new.out.items ++ joined c.args.source.now.text c.close.new.pen.pending ss)
    (opened c.args.pair.mark c.args.pair.size)
    (steps (pairs c.args.source.now.text c.args.level.in_link (inner c.args.source.now.text c.args.level.depth c.args.level.in_link) (c.args.level.levels - cost c.args.pair.size) (between c.args.pair.size c.args.pair.more (drop 1 c.args.parts.now))))
    (closed c.args.pair.mark c.args.pair.size) _
    (steps-styled c.args.pair.mark c.args.pair.size _)
    c.in_ok-open.ensures.written
    (λ ss. c.in_ok-write_parts.ensures.written ss
    ∙ (ap (λ j. c.open.new.out.items ++ joined c.args.source.now.text c.open.new.pen.pending (steps (pairs c.args.source.now.text c.args.level.in_link (inner c.args.source.now.text c.args.level.depth c.args.level.in_link) (c.args.level.levels - j) c.as_slice.result.now) ++ ss)) c.cost.ensures
    ∙ ap (λ x. c.open.new.out.items ++ joined c.args.source.now.text c.open.new.pen.pending (steps (pairs c.args.source.now.text c.args.level.in_link (inner c.args.source.now.text c.args.level.depth c.args.level.in_link) (c.args.level.levels - cost c.args.pair.size) x) ++ ss)) inside))
    c.in_ok-close.ensures.written

pub write_parts-first_pair-requires-clause-gone : goal.write_parts-first_pair-requires-clause-gone
write_parts-first_pair-requires-clause-gone t c = gone-here c.loop-at.gone c.loop-at.at c.args.parts.now c.loop-at.invariant.gone

pub write_parts-write_pair-requires : goal.write_parts-write_pair-requires
write_parts-write_pair-requires t c =
    (omega arith, (sym c.in-Some.ensures.value, (subst (AreParts c.args.source.now.text) (sym (slice-rest c.loop-at.at c.args.parts.now)) (AreParts-drop c.args.source.now.text c.loop-at.at c.args.parts.now c.requires.parts), c.loop-at.invariant.pen)))

pub write_parts-overflow_add-at : goal.write_parts-overflow_add-at
write_parts-overflow_add-at t c =
    let within = pair-within c.args.source.now.text c.args.level.levels c.loop-at.at c.args.parts.now c.in-Some.pair c.loop-at.invariant.within (sym c.in-Some.ensures.value) in
    search (rules, within)

pub write_parts-overflow_add-at-in-Some : goal.write_parts-overflow_add-at-in-Some
write_parts-overflow_add-at-in-Some t c =
    let within = pair-within c.args.source.now.text c.args.level.levels c.loop-at.at c.args.parts.now c.in-Some.pair c.loop-at.invariant.within (sym c.in-Some.ensures.value) in
    search (rules, within)

pub write_parts-loop-at-preserved-in-Some : goal.write_parts-loop-at-preserved-in-Some
write_parts-loop-at-preserved-in-Some t c =
    let far : c.loop-at.at + ((c.in-Some.pair.more + 1) + 1) ≡ c.loop-at.at + (c.in-Some.pair.more + 2) = omega arith in
    record {
      within = pair-within c.args.source.now.text c.args.level.levels c.loop-at.at c.args.parts.now c.in-Some.pair c.loop-at.invariant.within (sym c.in-Some.ensures.value);
      gone = subst (λ (n : ℕ). IsGone c.first_pair.new.gone (drop n c.args.parts.now)) far (gone-far c.first_pair.new.gone c.loop-at.at (c.in-Some.pair.more + 1) c.args.parts.now c.first_pair.ensures.gone);
      pen = c.in_ok-write_pair-in-Some.ensures.pen;
      written = turn
          (λ ss. c.loop-at.out.items ++ joined c.args.source.now.text c.loop-at.pen.pending ss)
          (λ ss. c.write_pair.new.out.items ++ joined c.args.source.now.text c.write_pair.new.pen.pending ss)
          (λ ss. c.args.out.now.items ++ joined c.args.source.now.text c.args.pen.now.pending ss)
          _ _ _ _
          (pair-turn c.args.source.now.text c.args.level.in_link (inner c.args.source.now.text c.args.level.depth c.args.level.in_link) c.args.level.levels c.loop-at.at c.args.parts.now c.in-Some.pair (sym c.in-Some.ensures.value))
          c.in_ok-write_pair-in-Some.ensures.written
          c.loop-at.invariant.written;
    }

pub write_parts-write_part-requires : goal.write_parts-write_part-requires
write_parts-write_part-requires t c =
    (omega arith, (subst (IsPart c.args.source.now.text) (sym c.index-parts-at.is) (AreParts-get c.args.source.now.text c.loop-at.at c.args.parts.now _ c.loop-at-test.true c.requires.parts), c.loop-at.invariant.pen))

pub write_parts-loop-at-preserved : goal.write_parts-loop-at-preserved
write_parts-loop-at-preserved t c = record {
  within = omega arith;
  gone = gone-far c.first_pair.new.gone c.loop-at.at 0 c.args.parts.now c.first_pair.ensures.gone;
  pen = c.in_ok-write_part-in-None.ensures.pen;
  written = turn
      (λ ss. c.loop-at.out.items ++ joined c.args.source.now.text c.loop-at.pen.pending ss)
      (λ ss. c.write_part.new.out.items ++ joined c.args.source.now.text c.write_part.new.pen.pending ss)
      (λ ss. c.args.out.now.items ++ joined c.args.source.now.text c.args.pen.now.pending ss)
      _ _ _ _
      (part-turn c.args.source.now.text c.args.level.in_link (inner c.args.source.now.text c.args.level.depth c.args.level.in_link) c.args.level.levels c.loop-at.at c.args.parts.now c.index-parts-at.result c.loop-at-test.true c.index-parts-at.is (sym c.in-None.ensures.value))
      c.in_ok-write_part-in-None.ensures.written
      c.loop-at.invariant.written;
}

pub write_parts-returns-clause-written : goal.write_parts-returns-clause-written
write_parts-returns-clause-written t c = λ ss.
    ap (λ x. c.loop-at.out.items ++ joined c.args.source.now.text c.loop-at.pen.pending (x ++ ss))
    (sym (no-turn c.args.source.now.text c.args.level.in_link (inner c.args.source.now.text c.args.level.depth c.args.level.in_link) c.args.level.levels c.loop-at.at c.args.parts.now c.loop-at-test.false))
    ∙ c.loop-at.invariant.written ss

pub write_part-returns-in_ok-write_alone-in-None-clause-written : goal.write_part-returns-in_ok-write_alone-in-None-clause-written
write_part-returns-in_ok-write_alone-in-None-clause-written t c = λ ss.
    let here : Single c.part.inside.leaf ≡ c.args.part.now = ap (λ o. part_of c.part.inside.leaf o c.part.inside.inside.now) (sym c.in-None.is) ∙ c.part.view_is in
    c.in_ok-write_alone-in-None.ensures.written ss
    ∙ (ap (λ x. c.args.out.now.items ++ joined c.args.source.now.text c.args.pen.now.pending (x ++ ss)) (sym (steps-alone c.args.source.now.text c.args.level.in_link (inner c.args.source.now.text c.args.level.depth c.args.level.in_link (c.args.level.levels - 1)) c.part.inside.leaf))
    ∙ ap (λ p. c.args.out.now.items ++ joined c.args.source.now.text c.args.pen.now.pending (steps (unpaired c.args.source.now.text c.args.level.in_link (inner c.args.source.now.text c.args.level.depth c.args.level.in_link (c.args.level.levels - 1)) p Empty) ++ ss)) here)

pub write_group-returns-clause-written : goal.write_group-returns-clause-written
write_group-returns-clause-written t c =
    let dest : List ℕ = slice_range c.args.source.now.text c.args.group.target.from c.args.group.target.to in
    three-turns
    (λ ss. c.args.out.now.items ++ joined c.args.source.now.text c.args.pen.now.pending ss)
    (λ ss. c.open_group.new.out.items ++ joined c.args.source.now.text c.open_group.new.pen.pending ss)
    (λ ss. c.write_inside.new.out.items ++ joined c.args.source.now.text c.write_inside.new.pen.pending ss)
    (λ ss. c.close_group.new.out.items ++ joined c.args.source.now.text c.close_group.new.pen.pending ss)
    (An (event.Start (group_tag c.args.group.is_image dest)) ∷ [])
    (steps (inner c.args.source.now.text c.args.level.depth c.args.level.in_link (c.args.level.levels - 1) c.args.group.is_image c.args.leaves.now))
    (An (event.End (end_of (group_tag c.args.group.is_image []))) ∷ []) _
    (steps-group c.args.source.now.text c.args.group.is_image dest _)
    c.in_ok-open_group.ensures.written
    c.in_ok-write_inside.ensures.written
    c.in_ok-close_group.ensures.written

pub write_inside-returns-then-level-eq0-clause-written : goal.write_inside-returns-then-level-eq0-clause-written
write_inside-returns-then-level-eq0-clause-written t c = λ ss.
    ap (λ x. c.args.out.now.items ++ joined c.args.source.now.text c.args.pen.now.pending (x ++ ss))
    (sym (inner-none c.args.source.now.text c.args.level.depth c.args.level.in_link (c.args.level.levels - 1) c.args.is_image c.args.leaves.now c.if-level-eq0.true))

pub write_nest-returns-then-not-has_beginning-clause-written : goal.write_nest-returns-then-not-has_beginning-clause-written
write_nest-returns-then-not-has_beginning-clause-written t c = λ ss.
    let none : list_any leaf_begins_element c.args.leaves.now ≡ false = sym c.if-not-has_beginning.ensures in
    c.in_ok-write_plain.ensures.written ss
    ∙ ap (λ x. c.args.out.now.items ++ joined c.args.source.now.text c.args.pen.now.pending (x ++ ss))
    (sym (steps-plain c.args.source.now.text c.args.level.depth c.args.level.levels c.args.level.in_link c.args.leaves.now none))
