-- What a writer of everything has written.
use Rattle.std.specs.Prelude.{ℕ, ◌<◌, List, length, take}
use Rattle.std.specs.Io.KnownBytes.{Appends}
use Rattle.ends.specs.Causes.{Rose, NoFault}
use Rattle.programs.specs.Reading.{Change}

-- all the bytes were written, and no write failed
pub record WroteAll (writing : Change) (bytes : List ℕ) : Type 0 where
  pub wrote : Appends writing.old writing.new bytes
  pub no_fault : NoFault writing.before writing.now

-- a part of the bytes was written, and then a write failed
pub record WroteSome (writing : Change) (bytes : List ℕ) : Type 0 where
  pub count : ℕ
  pub part : count < length bytes
  pub wrote : Appends writing.old writing.new (take count bytes)
  pub cause : Rose writing.before writing.now
