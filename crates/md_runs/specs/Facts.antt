-- What is known of the parts of a source, and of a pen over it.
use Rattle.std.specs.Prelude.{◌≡◌, ℕ, ◌-◌, ◌≤◌, Option, None, Some, List, [], ◌∷◌, length}
use Rattle.md_leaves.specs.Cuts.{IsText, IsLeaf, AreLeaves}
use Rattle.md_runs.specs.declared.pen.Place.{Place}
use Rattle.md_runs.specs.declared.pen.Pen.{Pen}
use Rattle.md_runs.specs.declared.source.Cursor.{Cursor}
use Rattle.md_runs.specs.Source.{Lined, line_start}
use Rattle.md_runs.specs.Brackets.{Part, Single, Grouped}

abbrev pub IsPart : List ℕ → Part → Type 0
IsPart source (Single l) = IsLeaf source l
IsPart source (Grouped is_image target ls) = IsText source target.from target.to × AreLeaves source ls

abbrev pub AreParts : List ℕ → List Part → Type 0
AreParts source [] = Unit {0}
AreParts source (p ∷ ps) = IsPart source p × AreParts source ps

-- a cursor stands where its line begins, which is the first where there is none
pub record IsCursor (bodies : List (List ℕ)) (cursor : Cursor) : Type 0 where
  pub within : cursor.line ≤ length bodies - 1
  pub start : cursor.start ≡ line_start cursor.line bodies

-- the text that is kept is on one line
abbrev pub IsPending : List ℕ → Option Place → Type 0
IsPending source None = Unit {0}
IsPending source (Some p) = IsText source p.from p.to

pub record IsPen (source : Lined) (pen : Pen) : Type 0 where
  pub cursor : IsCursor source.bodies pen.cursor
  pub pending : IsPending source.text pen.pending
