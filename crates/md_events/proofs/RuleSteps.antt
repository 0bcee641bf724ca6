-- The block at a line by what begins there.
use Rattle.std.proofs.Common.{List, [], ◌∷◌, length, drop, take, get_or, ◌≡◌, ◌<◌, ◌+◌, ◌-◌, ℕ, zero, suc, sym, ap, ◌∙◌, arith, Bool, true, false, Some}
use Rattle.std.proofs.lemmas.Bool.{false≢true}
use Rattle.md_lines.specs.Lines.{LineText}
use Rattle.md_rules.specs.declared.item.Marker.{Marker}
use Rattle.md_rules.specs.declared.start.BlockStart.{BlockStart}
use Rattle.md_rules.specs.declared.start.BlockStart.TheVariants as start
use Rattle.md_rules.specs.declared.start.Items.TheVariants.{All}
use Rattle.md_rules.specs.Footnotes.{footnote_label}
use Rattle.md_rules.specs.Starts.{block_start}
use Rattle.md_rules.proofs.StartLemmas.{start-definitions, start-footnote, start-marker, start-quote}
use Rattle.md_events.specs.Node.{block_events}
use Rattle.md_events.specs.Containers.{footnote}
use Rattle.md_events.specs.Definitions.{definitions}
use Rattle.md_events.specs.Blocks.{block_by, blocks}
use Rattle.md_events.specs.Written.{begins_quote, first_block, first_list, first_marker, first_quote, nests, reader}

-- lines from their first on
pub from-first : (lines : List LineText) (line : LineText) (later : List LineText) → 0 < length lines → line ≡ get_or lines 0 line → later ≡ drop 1 lines → lines ≡ line ∷ later
from-first [] line later lt e f = absurd (omega arith)
from-first (first ∷ rest) line later lt e f = ap (λ x. x ∷ rest) (sym e) ∙ ap (λ x. line ∷ x) (sym f)

-- the block at the first of these lines, by what begins there
pub block-is : (n : ℕ) (lines : List LineText) (line : LineText) (later : List LineText) (nested : Bool) (s : BlockStart) → lines ≡ line ∷ later → nested ≡ nests n → block_start nested All line later ≡ s → first_block n lines ≡ block_by (nests n) (reader n) line later s
block-is n lines line later nested s l v e =
    ap (first_block n) l ∙ ap (block_by (nests n) (reader n) line later) (ap (λ x. block_start x All line later) (sym v) ∙ e)

-- containers are read where levels are left
pub reader-some : (n : ℕ) → nests n ≡ true → reader n ≡ blocks (n - 1)
reader-some zero e = absurd (false≢true e)
reader-some (suc n) e = let same : n ≡ suc n - 1 = omega arith in ap blocks same

pub nests-some : (n : ℕ) (nested : Bool) → nested ≡ nests n → nested ≡ true → 0 < n
nests-some zero nested v e = absurd (false≢true (sym v ∙ e))
nests-some (suc n) nested v e = omega arith

pub quote-is : (n : ℕ) (lines : List LineText) (line : LineText) (later : List LineText) (nested : Bool) → lines ≡ line ∷ later → nested ≡ nests n → block_start nested All line later ≡ start.Quote → (begins_quote lines ≡ true) × (first_block n lines ≡ first_quote (n - 1) lines) × (0 < n)
quote-is n lines line later nested l v e =
    let found = start-quote nested All line later e in
    let same : reader n ≡ blocks (n - 1) = reader-some n (sym v ∙ found.0) in (
      ap begins_quote l ∙ found.1,
      block-is n lines line later nested start.Quote l v e ∙ (ap (λ r. block_by (nests n) r line later start.Quote) same ∙ ap (first_quote (n - 1)) (sym l)),
      nests-some n nested v found.0,
    )

pub footnote-is : (n : ℕ) (lines : List LineText) (line : LineText) (later : List LineText) (nested : Bool) (l : List ℕ) → lines ≡ line ∷ later → nested ≡ nests n → block_start nested All line later ≡ start.Footnote l → (footnote_label line ≡ Some l) × (first_block n lines ≡ footnote (blocks (n - 1)) l line later) × (0 < n)
footnote-is n lines line later nested l s v e =
    let found = start-footnote nested All line later l e in
    let same : reader n ≡ blocks (n - 1) = reader-some n (sym v ∙ found.0) in (
      found.1,
      block-is n lines line later nested (start.Footnote l) s v e ∙ ap (λ r. block_by (nests n) r line later (start.Footnote l)) same,
      nests-some n nested v found.0,
    )

pub list-is : (n : ℕ) (lines : List LineText) (line : LineText) (later : List LineText) (nested : Bool) (m : Marker) → lines ≡ line ∷ later → nested ≡ nests n → block_start nested All line later ≡ start.Item m → (first_marker lines ≡ Some m) × (first_block n lines ≡ first_list (n - 1) m lines) × (0 < n)
list-is n lines line later nested m l v e =
    let found = start-marker nested All line later m e in
    let same : reader n ≡ blocks (n - 1) = reader-some n (sym v ∙ found.0) in (
      ap first_marker l ∙ found.1,
      block-is n lines line later nested (start.Item m) l v e ∙ (ap (λ r. block_by (nests n) r line later (start.Item m)) same ∙ ap (first_list (n - 1) m) (sym l)),
      nests-some n nested v found.0,
    )

pub definitions-is : (n : ℕ) (lines : List LineText) (line : LineText) (later : List LineText) (nested : Bool) → lines ≡ line ∷ later → nested ≡ nests n → block_start nested All line later ≡ start.Definitions → (first_block n lines ≡ definitions (blocks (n - 1)) line later) × (0 < n)
definitions-is n lines line later nested l v e =
    let found = start-definitions nested All line later e in
    let same : reader n ≡ blocks (n - 1) = reader-some n (sym v ∙ found) in (
      block-is n lines line later nested start.Definitions l v e ∙ ap (λ r. block_by (nests n) r line later start.Definitions) same,
      nests-some n nested v found,
    )

-- the lines that a block takes
pub own-lines : (lines : List LineText) (line : LineText) (later : List LineText) (k m : ℕ) → lines ≡ line ∷ later → k ≡ m → take (1 + k) lines ≡ line ∷ take m later
own-lines lines line later k m l e =
    let count : 1 + k ≡ suc m = omega (arith, e) in
    ap (take (1 + k)) l ∙ ap (λ n. take n (line ∷ later)) count

pub less-one : (a b : ℕ) → a ≡ b + 1 → a - 1 ≡ b
less-one a b e = omega (arith, e)

-- the events of containers are the same in items of tight lists and elsewhere
pub quote-events : (n : ℕ) (tight : Bool) (lines : List LineText) (line : LineText) (later : List LineText) → lines ≡ line ∷ later → block_events false (first_quote n lines) ≡ block_events tight (first_quote n lines)
quote-events n tight lines line later l = ap (λ x. block_events false (first_quote n x)) l ∙ sym (ap (λ x. block_events tight (first_quote n x)) l)

pub list-events : (n : ℕ) (tight : Bool) (m : Marker) (lines : List LineText) (line : LineText) (later : List LineText) → lines ≡ line ∷ later → block_events false (first_list n m lines) ≡ block_events tight (first_list n m lines)
list-events n tight m lines line later l = ap (λ x. block_events false (first_list n m x)) l ∙ sym (ap (λ x. block_events tight (first_list n m x)) l)
