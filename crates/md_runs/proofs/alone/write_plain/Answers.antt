use Rattle.std.proofs.Common.{◌++◌, ◌∷◌, [], arith, get_or}
use Rattle.md_leaves.specs.declared.leaf.Kind.TheVariants as kind
use Rattle.md_leaves.specs.declared.leaf.Lone.TheVariants as lone
use Rattle.md_leaves.specs.declared.leaf.Leaf.{Leaf}
use Rattle.md_runs.specs.Marks.{joined, alone_steps}
use Rattle.md_runs.specs.Plain.{plain_steps}
use Rattle.md_runs.proofs.PairSteps.{turn}
use Rattle.md_runs.proofs.PlainSteps.{AreLeaves-get, plain-step}
use Rattle.md_runs.proofs.alone.write_plain.Goals as goal

pub write_alone-requires-clause-leaf : goal.write_alone-requires-clause-leaf
write_alone-requires-clause-leaf c = AreLeaves-get c.args.source.now.text c.loop-at.at c.args.leaves.now _ c.loop-at-test.true c.requires.leaves

blank : Leaf
blank = record { kind = kind.Lone lone.Text; from = 0; to = 0 }

pub loop-at-preserved : goal.loop-at-preserved
unfolding blank
loop-at-preserved c = record {
  within = omega arith;
  pen = c.in_ok-write_alone.ensures.pen;
  written = turn
      (λ ss. c.loop-at.out.items ++ joined c.args.source.now.text c.loop-at.pen.pending ss)
      (λ ss. c.write_alone.new.out.items ++ joined c.args.source.now.text c.write_alone.new.pen.pending ss)
      (λ ss. c.args.out.now.items ++ joined c.args.source.now.text c.args.pen.now.pending ss)
      (alone_steps c.args.source.now.text c.args.in_link (get_or c.args.leaves.now c.loop-at.at blank).kind (get_or c.args.leaves.now c.loop-at.at blank).from (get_or c.args.leaves.now c.loop-at.at blank).to)
      (plain_steps c.args.source.now.text c.args.in_link c.args.leaves.now) _ _
      (plain-step c.args.source.now.text c.args.in_link c.loop-at.at c.args.leaves.now blank c.loop-at-test.true)
      c.in_ok-write_alone.ensures.written
      c.loop-at.invariant.written;
}
