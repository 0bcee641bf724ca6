-- Whether a line that is not ended yet can still be text.
use Rattle.std.specs.Prelude.{ℕ, ◌≡◌, ◌≤◌, Bool, false, List, ◌∷◌, ◌++◌, length, drop}
use Rattle.term_text.specs.Style.{no_style}
use Rattle.ansi_text.specs.Ansi.{ansi_line, line_is_text}
use Rattle.ansi_feed.specs.declared.pending.Pending.{Pending}
use Rattle.ansi_feed.specs.declared.pending.Pending.TheVariants.{Stretch, Escape, Bracket, Title, Lost}
use Rattle.ansi_feed.specs.declared.pending.Place.{Place}

-- each stretch of the one line of the bytes is UTF-8
abbrev pub text_line : List ℕ → Bool
text_line bytes = line_is_text (ansi_line no_style bytes)

-- whether a line is text that goes on with the bytes behind what stands open: a stretch, an escape byte, `[` or `]` behind
-- one, or a stretch that is not UTF-8, whatever follows
abbrev pub pending_text : Pending → List ℕ → Bool
pending_text Stretch bytes = text_line bytes
pending_text Escape bytes = text_line (27 ∷ bytes)
pending_text Bracket bytes = text_line (27 ∷ 91 ∷ bytes)
pending_text Title bytes = text_line (27 ∷ 93 ∷ bytes)
pending_text Lost bytes = false

-- so many of the bytes behind what stands open were passed: whatever follows, what stands open there tells the same of what
-- is left
pub record PassesBytes (pending : Pending) (bytes : List ℕ) (place : Place) : Type 0 where
  pub within : place.count ≤ length bytes
  pub same : (more : List ℕ) → pending_text pending (bytes ++ more) ≡ pending_text place.pending (drop place.count bytes ++ more)
