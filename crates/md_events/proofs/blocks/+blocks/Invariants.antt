use Rattle.std.proofs.Common.{length, drop, ◌-◌, ◌*◌, ◌≡◌, ◌+◌, ◌++◌, ◌≤◌}
use Rattle.md_tree.specs.Tree.{events}
use Rattle.md_events.specs.Containers.{items}
use Rattle.md_events.specs.Definitions.{entries}
use Rattle.md_events.specs.Blocks.{blocks}
use Rattle.md_events.proofs.blocks.+blocks.Given as goal

abbrev pub decreases-write_block : goal.decreases-write_block
decreases-write_block l = 8 * l.levels + 1

abbrev pub decreases-write_blocks : goal.decreases-write_blocks
decreases-write_blocks l = 8 * l.levels + 2

abbrev pub decreases-write_item_blocks : goal.decreases-write_item_blocks
decreases-write_item_blocks l = 8 * l.levels + 3

abbrev pub decreases-write_item : goal.decreases-write_item
decreases-write_item l = 8 * l.levels + 4

abbrev pub decreases-write_items : goal.decreases-write_items
decreases-write_items l = 8 * l.levels + 5

abbrev pub decreases-write_list : goal.decreases-write_list
decreases-write_list l = 8 * l.levels + 6

abbrev pub decreases-write_quote : goal.decreases-write_quote
decreases-write_quote l = 8 * l.levels + 6

abbrev pub decreases-write_footnote : goal.decreases-write_footnote
decreases-write_footnote l = 8 * l.levels + 6

abbrev pub decreases-write_description : goal.decreases-write_description
decreases-write_description l = 8 * l.levels + 3

abbrev pub decreases-write_entry : goal.decreases-write_entry
decreases-write_entry l = 8 * l.levels + 4

abbrev pub decreases-write_entries : goal.decreases-write_entries
decreases-write_entries l = 8 * l.levels + 5

abbrev pub decreases-write_definitions : goal.decreases-write_definitions
decreases-write_definitions l = 8 * l.levels + 6

abbrev pub invariant-write_blocks-loop-at : goal.invariant-write_blocks-loop-at
invariant-write_blocks-loop-at l =
    (l.at ≤ length l.lines)
    × (l.out.items ++ events (blocks l.levels l.tight (drop l.at l.lines)) ≡ l.fn.out.items ++ events (blocks l.levels l.tight l.lines))

abbrev pub decreases-write_blocks-loop-at : goal.decreases-write_blocks-loop-at
decreases-write_blocks-loop-at l = length l.lines - l.at

abbrev pub invariant-write_items-loop-at : goal.invariant-write_items-loop-at
invariant-write_items-loop-at l =
    (l.at ≤ length l.lines)
    × (l.out.items ++ events (items (blocks l.levels) l.tight l.kind 0 (drop l.at l.lines)) ≡ l.fn.out.items ++ events (items (blocks l.levels) l.tight l.kind 0 l.lines))

abbrev pub decreases-write_items-loop-at : goal.decreases-write_items-loop-at
decreases-write_items-loop-at l = length l.lines - l.at

abbrev pub invariant-write_entries-loop-at : goal.invariant-write_entries-loop-at
invariant-write_entries-loop-at l =
    (l.at ≤ length l.lines)
    × (l.out.items ++ events (entries (blocks l.levels) 0 (drop l.at l.lines)) ≡ l.fn.out.items ++ events (entries (blocks l.levels) 0 l.lines))

abbrev pub decreases-write_entries-loop-at : goal.decreases-write_entries-loop-at
decreases-write_entries-loop-at l = length l.lines - l.at
