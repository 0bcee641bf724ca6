-- One step after another.
use Rattle.std.proofs.Common.{◌≡◌, ℕ, ◌-◌, ◌≤◌, ◌<◌, List, [], ◌∷◌, ◌++◌, length, take, drop, arith, rules, refl, sym, ◌∙◌, ap, subst, append_assoc, append-nil, length-append}
use Rattle.std.specs.Prelude.{Option, Some, None, Bool, false}
use Rattle.std.specs.Io.KnownBytes.{Appends, Consumes, Keeps}
use Rattle.std.proofs.lemmas.List.{take_at, take-append-drop, take_rest}
use Rattle.programs.specs.declared.status.Status.{Status}
use Rattle.programs.specs.declared.status.Status.TheVariants.{Done, Usage, ReadFault, TooLong, NotUtf8, TooNarrow, WriteFault, Memory}
use Rattle.programs.specs.Reading.{TookAll, Stopped, StopsReading, IsStep, StopsStep, limit}
use Rattle.programs.specs.Writing.{WroteAll, WroteSome}
use Rattle.ends.specs.Causes.{Rose, NoFault}

pub appends_more : (a b c : Option (List ℕ)) (xs ys : List ℕ) → Appends a b xs → Appends b c ys → Appends a c (xs ++ ys)
appends_more None b c xs ys p q = search rules
appends_more (Some x) None c xs ys p q = absurd p
appends_more (Some x) (Some y) None xs ys p q = absurd q
appends_more (Some x) (Some y) (Some z) xs ys p q = q ∙ ap (λ (f : List ℕ). f ++ ys) p ∙ append_assoc x xs ys

pub consumes_more : (a b c : Option (List ℕ)) (xs ys : List ℕ) → Consumes a b xs → Consumes b c ys → Consumes a c (xs ++ ys)
consumes_more None b c xs ys p q = search rules
consumes_more (Some x) None c xs ys p q = absurd p
consumes_more (Some x) (Some y) None xs ys p q = absurd q
consumes_more (Some x) (Some y) (Some z) xs ys p q = p ∙ ap (λ (f : List ℕ). xs ++ f) q ∙ sym (append_assoc xs ys z)

-- what a writer of everything has written, and what is left of the bytes
pub record WritesOn (old new : Option (List ℕ)) (before now : ℕ) (bytes rest : List ℕ) : Type 0 where
  pub front : List ℕ
  pub parts : front ++ rest ≡ bytes
  pub wrote : Appends old new front
  pub no_fault : NoFault before now

-- what a reader of everything has read
pub record ReadsOn (old new : Option (List ℕ)) (before now : ℕ) (bytes : List ℕ) : Type 0 where
  pub took : Consumes old new bytes
  pub no_fault : NoFault before now

appends_kept : (a b c : Option (List ℕ)) (xs : List ℕ) → Appends a b xs → Keeps b c → Appends a c xs
appends_kept None b c xs p q = search rules
appends_kept (Some x) None c xs p q = absurd p
appends_kept (Some x) (Some y) None xs p q = absurd q
appends_kept (Some x) (Some y) (Some z) xs p q = q ∙ p

pub writes_on : (old middle new : Option (List ℕ)) (before then now : ℕ) (bytes rest : List ℕ) (n : ℕ) → WritesOn old middle before then bytes rest
    → Appends middle new (take n rest) → NoFault then now → WritesOn old new before now bytes (take (length rest - n) (drop n rest))
writes_on old middle new before then now bytes rest n so_far more passed = rw (take_rest rest n) (record {
  front = so_far.front ++ take n rest;
  parts = append_assoc so_far.front (take n rest) (drop n rest) ∙ ap (λ (r : List ℕ). so_far.front ++ r) (take-append-drop n rest) ∙ so_far.parts;
  wrote = appends_more old middle new so_far.front (take n rest) so_far.wrote more;
  no_fault = passed ∙ so_far.no_fault;
})

pub writes_end : (old new : Option (List ℕ)) (before now : ℕ) (bytes rest : List ℕ) → WritesOn old new before now bytes rest
    → length rest ≡ 0 → WroteAll (record { old = old; new = new; before = before; now = now }) bytes
writes_end old new before now bytes [] so_far none = record {
  wrote = subst (Appends old new) (sym (append-nil so_far.front) ∙ so_far.parts) so_far.wrote;
  no_fault = so_far.no_fault;
}
writes_end old new before now bytes (x ∷ rest) so_far none = absurd (omega (arith, none))

pub stops_writing : (old middle new : Option (List ℕ)) (before then now : ℕ) (bytes rest : List ℕ) → WritesOn old middle before then bytes rest
    → 0 < length rest → Keeps middle new → Rose then now → WroteSome (record { old = old; new = new; before = before; now = now }) bytes
stops_writing old middle new before then now bytes rest so_far some kept rose = record {
  count = length so_far.front;
  part = omega (arith, ap length so_far.parts, length-append so_far.front rest);
  wrote = rw (← so_far.parts, take_at so_far.front rest (length so_far.front) refl) (appends_kept old middle new so_far.front so_far.wrote kept);
  cause = subst (λ (b : ℕ). Rose b now) so_far.no_fault rose;
}

pub consumes_nothing : (a : Option (List ℕ)) → Consumes a a []
consumes_nothing None = search rules
consumes_nothing (Some x) = refl

pub reads_nothing : (a : Option (List ℕ)) (before : ℕ) → ReadsOn a a before before []
reads_nothing a before = record { took = consumes_nothing a; no_fault = refl }

pub reads_more : (more : Bool) (old middle new : Option (List ℕ)) (before then now : ℕ) (bytes after : List ℕ) → ReadsOn old middle before then bytes
    → IsStep more (record { old = middle; new = new; before = then; now = now }) bytes after → ReadsOn old new before now after
reads_more more old middle new before then now bytes after so_far step = record {
  took = rw step.grew (consumes_more old middle new bytes step.got so_far.took step.took);
  no_fault = step.no_fault ∙ so_far.no_fault;
}

pub reads_end : (old middle new : Option (List ℕ)) (before then now : ℕ) (bytes after : List ℕ) → ReadsOn old middle before then bytes
    → IsStep false (record { old = middle; new = new; before = then; now = now }) bytes after → length bytes ≤ limit
    → TookAll (record { old = old; new = new; before = before; now = now }) after
reads_end old middle new before then now bytes after so_far step short =
    let read = reads_more false old middle new before then now bytes after so_far step in
    record {
      took = read.took;
      end = (step.end refl).0;
      short = omega (arith, ap length (step.end refl).1);
      no_fault = read.no_fault;
    }

stops_sooner : (status : Status) (old middle new : Option (List ℕ)) (before then now : ℕ) (taken : List ℕ) → NoFault before then
    → StopsReading status (record { old = middle; new = new; before = then; now = now }) taken
    → StopsReading status (record { old = old; new = new; before = before; now = now }) taken
stops_sooner Done old middle new before then now taken e h = h
stops_sooner Usage old middle new before then now taken e h = h
stops_sooner ReadFault old middle new before then now taken e h = (subst (λ (b : ℕ). Rose b now) e h.0, h.1)
stops_sooner TooLong old middle new before then now taken e h = (h.0, h.1 ∙ e)
stops_sooner NotUtf8 old middle new before then now taken e h = h
stops_sooner TooNarrow old middle new before then now taken e h = h
stops_sooner WriteFault old middle new before then now taken e h = h
stops_sooner Memory old middle new before then now taken e h = (h.0, h.1 ∙ e)

pub reads_stop : (status : Status) (old middle new : Option (List ℕ)) (before then now : ℕ) (bytes : List ℕ) → ReadsOn old middle before then bytes
    → StopsStep status (record { old = middle; new = new; before = then; now = now }) bytes → Stopped status (record { old = old; new = new; before = before; now = now })
reads_stop status old middle new before then now bytes so_far step = record {
  taken = bytes ++ step.got;
  took = consumes_more old middle new bytes step.got so_far.took step.took;
  why = stops_sooner status old middle new before then now (bytes ++ step.got) so_far.no_fault step.why;
}
