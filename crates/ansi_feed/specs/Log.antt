-- How a run ends that feeds a source, by its last status. `taken` are the bytes before the last call of the source, and
-- `got` are those of that call, so that the refusals stand in the order in which the source's calls brought them.
use Rattle.std.specs.Prelude.{◌≡◌, ℕ, ◌+◌, ◌≤◌, List, [], ◌++◌, length, true, false, Option, Some, None, ◌⊎◌}
use Rattle.std.specs.Io.KnownBytes.{Consumes, IsAtEnd}
use Rattle.ends.specs.Causes.{Rose, NoFault}
use Rattle.programs.specs.declared.status.Status.{Status}
use Rattle.programs.specs.declared.status.Status.TheVariants.{Done, Usage, ReadFault, TooLong, NotUtf8, TooNarrow, WriteFault, Memory}
use Rattle.programs.specs.Reading.{Change, limit}
use Rattle.programs.specs.Ran.{HasWritten}
use Rattle.ansi_text.specs.Ansi.{is_text}
use Rattle.ansi_feed.specs.Feed.{FeedView, ended_lines, last_of, lines_in, pushed}
use Rattle.ansi_feed.specs.Plain.{log_lines, shown}

-- the last call told the end of the source, all lines are UTF-8, and no read failed
abbrev pub FedToEnd : Change → List ℕ → List ℕ → Type 0
FedToEnd r taken got = IsAtEnd r.new × (got ≡ []) × (is_text (log_lines taken) ≡ true) × NoFault r.before r.now

-- the last call brought the end of a line that is not UTF-8, or told the end of the source behind a last line that is not
abbrev pub FedBad : Change → List ℕ → List ℕ → Type 0
FedBad r taken got = (is_text (ended_lines (taken ++ got)) ≡ false) ⊎ (IsAtEnd r.new × (got ≡ []) × (is_text (log_lines taken) ≡ false))

-- what the last call of the source brought, by the status
abbrev pub HasFed : Status → Change → List ℕ → List ℕ → Type 0
HasFed Done r taken got = FedToEnd r taken got
HasFed Usage r taken got = ⊥
HasFed ReadFault r taken got = Rose r.before r.now × (got ≡ [])
HasFed TooLong r taken got = (length (taken ++ got) ≡ limit + 1) × NoFault r.before r.now
HasFed NotUtf8 r taken got = (length (taken ++ got) ≤ limit) × FedBad r taken got × NoFault r.before r.now
HasFed TooNarrow r taken got = ⊥
HasFed WriteFault r taken got = FedToEnd r taken got
HasFed Memory r taken got = (length (taken ++ got) ≤ limit) × NoFault r.before r.now

-- what was taken of a source: no more than the limit before the last call, and each line that ended in it is UTF-8
pub record Taken (r : Change) (taken got : List ℕ) : Type 0 where
  pub took : Consumes r.old r.new (taken ++ got)
  pub short : length taken ≤ limit
  pub text : is_text (ended_lines taken) ≡ true

-- the run of a bound over a source
pub record Logs (bound : ℕ) (status : Status) (r w : Change) (untouched : Type 0) : Type 0 where
  pub taken : List ℕ
  pub got : List ℕ
  pub took : Taken r taken got
  pub fed : HasFed status r taken got
  pub wrote : HasWritten status w (shown bound taken) untouched

-- the run of words that say a bound or none: without one nothing was read and nothing written
abbrev pub Ran : Option ℕ → Status → Change → Change → Type 0 → Type 0 → Type 0
Ran None status r w unread untouched = (status ≡ Usage) × unread × untouched
Ran (Some bound) status r w unread untouched = Logs bound status r w untouched

-- a whole source was fed, and finished
pub record FedAll (bound : ℕ) (r : Change) (feed : FeedView) : Type 0 where
  pub taken : List ℕ
  pub took : Taken r taken []
  pub fed : FedToEnd r taken []
  pub lines : feed.lines ≡ last_of bound (log_lines taken)

-- why feeding a source stops before its end
abbrev pub StopsFeed : Status → Change → List ℕ → List ℕ → Type 0
StopsFeed ReadFault r taken got = HasFed ReadFault r taken got
StopsFeed TooLong r taken got = HasFed TooLong r taken got
StopsFeed NotUtf8 r taken got = HasFed NotUtf8 r taken got
StopsFeed Memory r taken got = HasFed Memory r taken got
StopsFeed Done r taken got = ⊥
StopsFeed Usage r taken got = ⊥
StopsFeed TooNarrow r taken got = ⊥
StopsFeed WriteFault r taken got = ⊥

pub record Stopped (status : Status) (r : Change) : Type 0 where
  pub taken : List ℕ
  pub got : List ℕ
  pub took : Taken r taken got
  pub fed : StopsFeed status r taken got

-- one read, pushed, where so many bytes were taken before
pub record Step (r : Change) (feed after : FeedView) (count n : ℕ) : Type 0 where
  pub got : List ℕ
  pub took : Consumes r.old r.new got
  pub long : length got ≡ n
  pub short : count + n ≤ limit
  pub fed : after ≡ pushed feed got
  pub text : is_text (lines_in feed got) ≡ true
  pub end : n ≡ 0 → IsAtEnd r.new
  pub no_fault : NoFault r.before r.now

-- why one read and its push stop
abbrev pub WhyStep : Status → Change → FeedView → ℕ → List ℕ → Type 0
WhyStep ReadFault r feed count got = Rose r.before r.now × (got ≡ [])
WhyStep TooLong r feed count got = (count + length got ≡ limit + 1) × NoFault r.before r.now
WhyStep NotUtf8 r feed count got = (count + length got ≤ limit) × (is_text (lines_in feed got) ≡ false) × NoFault r.before r.now
WhyStep Memory r feed count got = (count + length got ≤ limit) × NoFault r.before r.now
WhyStep Done r feed count got = ⊥
WhyStep Usage r feed count got = ⊥
WhyStep TooNarrow r feed count got = ⊥
WhyStep WriteFault r feed count got = ⊥

pub record StopsStep (status : Status) (r : Change) (feed : FeedView) (count : ℕ) : Type 0 where
  pub got : List ℕ
  pub took : Consumes r.old r.new got
  pub why : WhyStep status r feed count got
