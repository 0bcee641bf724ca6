-- A source that is read into a feed, one read after the other.
use Rattle.std.proofs.Common.{◌≡◌, ℕ, ◌+◌, ◌≤◌, ◌&&◌, List, [], ◌∷◌, ◌++◌, length, true, false, arith, refl, sym, ◌∙◌, ap, ap₂, subst, append-nil, length-append, inl, inr}
use Rattle.std.specs.Prelude.{Option}
use Rattle.std.specs.Io.KnownBytes.{Consumes}
use Rattle.ends.specs.Causes.{Rose, NoFault}
use Rattle.programs.specs.declared.status.Status.{Status}
use Rattle.programs.specs.declared.status.Status.TheVariants.{Done, Usage, ReadFault, TooLong, NotUtf8, TooNarrow, WriteFault, Memory}
use Rattle.programs.specs.Reading.{Change, limit}
use Rattle.programs.proofs.Transfers.{consumes_more, consumes_nothing}
use Rattle.ansi_text.specs.Ansi.{is_text}
use Rattle.term_text.specs.Style.{no_style}
use Rattle.ansi_feed.specs.Ended.{ended, unfinished}
use Rattle.ansi_feed.specs.Feed.{FeedView, Stands, ended_lines, finished, finished_feed, last_of, lines_at_finish}
use Rattle.ansi_feed.specs.Plain.{log_lines}
use Rattle.ansi_feed.specs.Log.{FedAll, Step, Stopped, StopsFeed, StopsStep, Taken, WhyStep}
use Rattle.ansi_feed.proofs.FeedLemmas.{Stands-with, Stands-finished, text-piece, text-finished, finished_feed-bound, lines_from-finished}

-- a finished input has all the lines
pub ended_lines-log : (u : List ℕ) → ended_lines (finished u) ≡ log_lines u
unfolding ended unfinished
ended_lines-log [] = refl
ended_lines-log (b ∷ bs) = lines_from-finished no_style (b ∷ bs) (omega arith)

abbrev change : Option (List ℕ) → Option (List ℕ) → ℕ → ℕ → Change
change old new before now = record { old = old; new = new; before = before; now = now }

-- what was taken so far
pub record FedOn (bound : ℕ) (old new : Option (List ℕ)) (before now : ℕ) (feed : FeedView) (count : ℕ) : Type 0 where
  pub taken : List ℕ
  pub took : Consumes old new taken
  pub no_fault : NoFault before now
  pub long : length taken ≡ count
  pub short : count ≤ limit
  pub is_bound : feed.bound ≡ bound
  pub stands : Stands feed taken
  pub text : is_text (ended_lines taken) ≡ true

pub fed_nothing : (bound : ℕ) (old : Option (List ℕ)) (before : ℕ) (feed : FeedView) → Stands feed [] → feed.bound ≡ bound → FedOn bound old old before before feed 0
unfolding ended
fed_nothing bound old before feed h is_bound = record {
  taken = [];
  took = consumes_nothing old;
  no_fault = refl;
  long = refl;
  short = omega arith;
  is_bound = is_bound;
  stands = h;
  text = refl;
}

pub fed_more : (bound : ℕ) (old middle new : Option (List ℕ)) (before then now : ℕ) (feed after : FeedView) (count n : ℕ) → FedOn bound old middle before then feed count
    → Step (change middle new then now) feed after count n → FedOn bound old new before now after (count + n)
fed_more bound old middle new before then now feed after count n on step = record {
  taken = on.taken ++ step.got;
  took = consumes_more old middle new on.taken step.got on.took step.took;
  no_fault = step.no_fault ∙ on.no_fault;
  long = length-append on.taken step.got ∙ ap₂ (λ (a b : ℕ). a + b) on.long step.long;
  short = step.short;
  is_bound = ap (λ (f : FeedView). f.bound) step.fed ∙ on.is_bound;
  stands = Stands-with feed after on.taken step.got step.fed on.stands;
  text = text-piece feed on.taken step.got on.stands ∙ ap₂ (λ u v. u && v) on.text step.text;
}

taken_all : (r : Change) (taken : List ℕ) → Consumes r.old r.new taken → length taken ≤ limit → is_text (ended_lines taken) ≡ true → Taken r taken []
taken_all r taken took short text = record { took = subst (λ (t : List ℕ). Consumes r.old r.new t) (sym (append-nil taken)) took; short = short; text = text }

pub fed_end : (bound : ℕ) (old middle new : Option (List ℕ)) (before then now : ℕ) (feed after last : FeedView) (count n : ℕ) → FedOn bound old middle before then feed count
    → Step (change middle new then now) feed after count n → n ≡ 0 → last ≡ finished_feed after → is_text (lines_at_finish after) ≡ true
    → FedAll bound (change old new before now) last
fed_end bound old middle new before then now feed after last count n on step zero is text =
    let more = fed_more bound old middle new before then now feed after count n on step in
    let same : last.bound ≡ bound = ap (λ (f : FeedView). f.bound) is ∙ finished_feed-bound after ∙ more.is_bound in
    record {
      taken = more.taken;
      took = taken_all (change old new before now) more.taken more.took (omega (arith, more.long, more.short)) more.text;
      fed = (
        step.end zero,
        refl,
        ap is_text (sym (ended_lines-log more.taken)) ∙ text-finished after more.taken more.stands ∙ ap₂ (λ u v. u && v) more.text text,
        more.no_fault,
      );
      lines =
          ap (λ (f : FeedView). f.lines) (Stands-finished after last more.taken is more.stands)
          ∙ ap₂ last_of same (ended_lines-log more.taken);
    }

pub fed_bad_end : (bound : ℕ) (old middle new : Option (List ℕ)) (before then now : ℕ) (feed after : FeedView) (count n : ℕ) → FedOn bound old middle before then feed count
    → Step (change middle new then now) feed after count n → n ≡ 0 → is_text (lines_at_finish after) ≡ false
    → Stopped NotUtf8 (change old new before now)
fed_bad_end bound old middle new before then now feed after count n on step zero bad =
    let more = fed_more bound old middle new before then now feed after count n on step in
    record {
      taken = more.taken;
      got = [];
      took = taken_all (change old new before now) more.taken more.took (omega (arith, more.long, more.short)) more.text;
      fed = (
        omega (arith, length-append more.taken [], more.long, more.short),
        inr (
          step.end zero,
          refl,
          ap is_text (sym (ended_lines-log more.taken)) ∙ text-finished after more.taken more.stands ∙ ap₂ (λ u v. u && v) more.text bad,
        ),
        more.no_fault,
      );
    }

pub fed_memory : (bound : ℕ) (old middle new : Option (List ℕ)) (before then now : ℕ) (feed after : FeedView) (count n : ℕ) → FedOn bound old middle before then feed count
    → Step (change middle new then now) feed after count n → Stopped Memory (change old new before now)
fed_memory bound old middle new before then now feed after count n on step =
    let more = fed_more bound old middle new before then now feed after count n on step in
    record {
      taken = more.taken;
      got = [];
      took = taken_all (change old new before now) more.taken more.took (omega (arith, more.long, more.short)) more.text;
      fed = (omega (arith, length-append more.taken [], more.long, more.short), more.no_fault);
    }

pub fed_no_part : (old : Option (List ℕ)) (before : ℕ) → Stopped Memory (change old old before before)
unfolding ended
fed_no_part old before = record {
  taken = [];
  got = [];
  took = record { took = consumes_nothing old; short = omega arith; text = refl };
  fed = (omega arith, refl);
}

pub fed_stop : (bound : ℕ) (status : Status) (old middle new : Option (List ℕ)) (before then now : ℕ) (feed : FeedView) (count : ℕ)
    → FedOn bound old middle before then feed count → StopsStep status (change middle new then now) feed count → Stopped status (change old new before now)
fed_stop bound status old middle new before then now feed count on step = record {
  taken = on.taken;
  got = step.got;
  took = record {
    took = consumes_more old middle new on.taken step.got on.took step.took;
    short = omega (arith, on.long, on.short);
    text = on.text;
  };
  fed = go status step.got step.why;
}
  where
    go : (status : Status) (got : List ℕ) → WhyStep status (change middle new then now) feed count got → StopsFeed status (change old new before now) on.taken got
    go ReadFault got h = (subst (λ (b : ℕ). Rose b now) on.no_fault h.0, h.1)
    go TooLong got h = (length-append on.taken got ∙ ap (λ (n : ℕ). n + length got) on.long ∙ h.0, h.1 ∙ on.no_fault)
    go NotUtf8 got h = (
      omega (arith, length-append on.taken got, on.long, h.0),
      inl (text-piece feed on.taken got on.stands ∙ ap₂ (λ u v. u && v) on.text h.1),
      h.2 ∙ on.no_fault,
    )
    go Memory got h = (omega (arith, length-append on.taken got, on.long, h.0), h.1 ∙ on.no_fault)
    go Done got h = h
    go Usage got h = h
    go TooNarrow got h = h
    go WriteFault got h = h
