-- The closers of all openers, found in one pass from the right.
use Rattle.std.specs.Prelude.{◌≡◌, ℕ, ◌+◌, ◌-◌, true, false, if◌then◌else◌, Option, None, Some, List, [], ◌∷◌, ◌++◌, length, take}
use Rattle.md_leaves.specs.declared.leaf.Kind.{Kind}
use Rattle.md_leaves.specs.declared.leaf.Leaf.{Leaf}
use Rattle.md_leaves.specs.declared.leaf.Mark.{Mark}
use Rattle.md_leaves.specs.declared.leaf.Mark.TheVariants as mark
use Rattle.md_runs.specs.declared.pair.Gone.{Gone}
use Rattle.md_runs.specs.declared.pair.Sizes.{Sizes}
use Rattle.md_runs.specs.Brackets.{Part, is_opener, is_closer, balance}
use Rattle.md_runs.specs.Pairs.{search}

-- for each leaf, the closer that balances an opener there: how many leaves stand between the two
unfoldable pub balances : List Leaf → List (Option ℕ)
balances [] = []
balances (l ∷ ls) = balance 0 ls ∷ balances ls

-- an opener closes with the last closer, and a closer at place i is kept
abbrev pub noted : Kind → ℕ → List ℕ → List ℕ
noted kind i closers =
    if is_opener kind then take (length closers - 1) closers
    else if is_closer kind then closers ++ i ∷ []
    else closers

-- the closers from place i on that close nothing there, the first of them last
unfoldable pub unmatched : ℕ → List Leaf → List ℕ
unmatched i [] = []
unmatched i (l ∷ ls) = noted l.kind i (unmatched (i + 1) ls)

abbrev pub moved : ℕ → Option ℕ → Option ℕ
moved i None = None
moved i (Some j) = Some (i + j)

-- how far a place stands behind i
abbrev pub distance : ℕ → Option ℕ → Option ℕ
distance i None = None
distance i (Some j) = Some (j - i)

-- the sizes of runs of a character whose search in these parts finds none
pub record AreGone (m : Mark) (gone : Sizes) (ps : List Part) : Type 0 where
  pub one : gone.one ≡ true → search m 1 ps ≡ None
  pub two : gone.two ≡ true → search m 2 ps ≡ None
  pub three : gone.three ≡ true → search m 3 ps ≡ None

-- the runs whose search in these parts finds none
pub record IsGone (gone : Gone) (ps : List Part) : Type 0 where
  pub star : AreGone mark.Star gone.star ps
  pub underscore : AreGone mark.Underscore gone.underscore ps
  pub tilde : AreGone mark.Tilde gone.tilde ps
  pub caret : AreGone mark.Caret gone.caret ps

abbrev pub no_size : Sizes
no_size = record { one = false; two = false; three = false }

-- no run is known to find none
abbrev pub none_gone : Gone
none_gone = record { star = no_size; underscore = no_size; tilde = no_size; caret = no_size }
