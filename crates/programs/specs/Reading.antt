-- What a reader of a whole source takes of it, and why it may stop before the end.
use Rattle.std.specs.Prelude.{◌≡◌, ℕ, ◌+◌, ◌<◌, ◌≤◌, List, ◌++◌, length, Bool, true, false, Option}
use Rattle.std.specs.Io.KnownBytes.{Consumes, IsAtEnd}
use Rattle.ends.specs.Causes.{Rose, NoFault}
use Rattle.programs.specs.declared.status.Status.{Status}
use Rattle.programs.specs.declared.status.Status.TheVariants.{Done, Usage, ReadFault, TooLong, NotUtf8, TooNarrow, WriteFault, Memory}

-- the greatest number of bytes that a run reads
abbrev pub limit : ℕ
limit = 16777216

-- what an end tells of its content, and how many faults it counted, before and after a call
pub record Change : Type 0 where
  pub old : Option (List ℕ)
  pub new : Option (List ℕ)
  pub before : ℕ
  pub now : ℕ

-- what a call changed of an end, by the end's meanings
abbrev pub change_of : {S : Type 0} → (S → Option (List ℕ)) → (S → ℕ) → S → S → Change
change_of content faults old new = record { old = content old; new = content new; before = faults old; now = faults new }

-- all the bytes that were left were taken, they are no more than the limit, and no read failed
pub record TookAll (reading : Change) (taken : List ℕ) : Type 0 where
  pub took : Consumes reading.old reading.new taken
  pub end : IsAtEnd reading.new
  pub short : length taken ≤ limit
  pub no_fault : NoFault reading.before reading.now

-- why a reader of a whole source stops before the end, after these bytes
abbrev pub StopsReading : Status → Change → List ℕ → Type 0
StopsReading ReadFault r taken = Rose r.before r.now × (length taken ≤ limit)
StopsReading TooLong r taken = (length taken ≡ limit + 1) × NoFault r.before r.now
StopsReading Memory r taken = (length taken ≤ limit + 1) × NoFault r.before r.now
StopsReading Done r taken = ⊥
StopsReading Usage r taken = ⊥
StopsReading NotUtf8 r taken = ⊥
StopsReading TooNarrow r taken = ⊥
StopsReading WriteFault r taken = ⊥

-- a reader of a whole source stopped before the end
pub record Stopped (status : Status) (reading : Change) : Type 0 where
  pub taken : List ℕ
  pub took : Consumes reading.old reading.new taken
  pub why : StopsReading status reading taken

-- bytes so far, and then those of one read that did not fail; `more` is false at the end
pub record IsStep (more : Bool) (reading : Change) (before after : List ℕ) : Type 0 where
  pub got : List ℕ
  pub took : Consumes reading.old reading.new got
  pub grew : after ≡ before ++ got
  pub short : length after ≤ limit + 1
  pub some : more ≡ true → 0 < length got
  pub end : more ≡ false → IsAtEnd reading.new × (after ≡ before)
  pub no_fault : NoFault reading.before reading.now

-- one read stops, after some bytes more
pub record StopsStep (status : Status) (reading : Change) (before : List ℕ) : Type 0 where
  pub got : List ℕ
  pub took : Consumes reading.old reading.new got
  pub why : StopsReading status reading (before ++ got)
