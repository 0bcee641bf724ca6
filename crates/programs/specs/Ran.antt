-- How a run over a source and a sink ends, by its last status. The words' reading, the causes of the refusals and the
-- output are arguments, so that every program of this kind has the same clause.
use Rattle.std.specs.Prelude.{◌≡◌, ℕ, ◌+◌, ◌≤◌, List, length, Option, Some, None}
use Rattle.std.specs.Io.KnownBytes.{Consumes}
use Rattle.ends.specs.Causes.{Rose, NoFault}
use Rattle.programs.specs.declared.status.Status.{Status}
use Rattle.programs.specs.declared.status.Status.TheVariants.{Done, Usage, ReadFault, TooLong, NotUtf8, TooNarrow, WriteFault, Memory}
use Rattle.programs.specs.Reading.{Change, TookAll, limit}
use Rattle.programs.specs.Writing.{WroteAll, WroteSome}

-- what was read of the source, by the last status. `Cause status bytes` says that all the bytes of the source have that
-- answer; `Done` and `WriteFault` have one cause, that there is an output.
abbrev pub HasRead : (Status → List ℕ → Type 0) → Status → Change → List ℕ → Type 0
HasRead Cause Done r taken = TookAll r taken × Cause Done taken
HasRead Cause Usage r taken = ⊥
HasRead Cause ReadFault r taken = Rose r.before r.now × (length taken ≤ limit)
HasRead Cause TooLong r taken = (length taken ≡ limit + 1) × NoFault r.before r.now
HasRead Cause NotUtf8 r taken = TookAll r taken × Cause NotUtf8 taken
HasRead Cause TooNarrow r taken = TookAll r taken × Cause TooNarrow taken
HasRead Cause WriteFault r taken = TookAll r taken × Cause Done taken
HasRead Cause Memory r taken = (length taken ≤ limit + 1) × NoFault r.before r.now

-- what was written of the output, by the last status: all of it, a part of it, or nothing; `untouched` says that the
-- sink is as it was
abbrev pub HasWritten : Status → Change → List ℕ → Type 0 → Type 0
HasWritten Done w output untouched = WroteAll w output
HasWritten WriteFault w output untouched = WroteSome w output
HasWritten Usage w output untouched = untouched
HasWritten ReadFault w output untouched = untouched
HasWritten TooLong w output untouched = untouched
HasWritten NotUtf8 w output untouched = untouched
HasWritten TooNarrow w output untouched = untouched
HasWritten Memory w output untouched = untouched

-- the run of a job over a source
pub record Shows (Cause : Status → List ℕ → Type 0) (output : List ℕ → List ℕ) (status : Status) (reading writing : Change)
    (untouched : Type 0) : Type 0 where
  pub taken : List ℕ
  pub took : Consumes reading.old reading.new taken
  pub read : HasRead Cause status reading taken
  pub wrote : HasWritten status writing (output taken) untouched

-- the run of words that say a job or none: without one nothing was read and nothing written
abbrev pub Ran : {J : Type 0} → (J → Status → List ℕ → Type 0) → (J → List ℕ → List ℕ) → Option J → Status → Change → Change → Type 0 → Type 0 → Type 0
Ran Cause output None status r w unread untouched = (status ≡ Usage) × unread × untouched
Ran Cause output (Some job) status r w unread untouched = Shows (Cause job) (output job) status r w untouched
