-- What a run that feeds a source says, status by status.
use Rattle.std.proofs.Common.{◌≡◌, ℕ, ◌+◌, ◌≤◌, ◌&&◌, true, false, List, [], ◌++◌, length, refl, sym, ap, subst, ◌∙◌, arith, append-nil, length-append, inl, inr}
use Rattle.std.proofs.lemmas.Bool.{false≢true}
use Rattle.std.specs.Prelude.{◌⊎◌, Option, Some, None, IfSome, IsSomeAnd}
use Rattle.std.specs.Io.KnownBytes.{Consumes, Appends, IsAtEnd}
use Rattle.ends.specs.Causes.{Rose, NoFault}
use Rattle.programs.specs.declared.status.Status.{Status}
use Rattle.programs.specs.declared.status.Status.TheVariants.{Done, Usage, ReadFault, TooLong, NotUtf8, TooNarrow, WriteFault, Memory}
use Rattle.programs.specs.Status.{code_of}
use Rattle.programs.specs.Reading.{Change, limit}
use Rattle.programs.specs.Writing.{WroteSome}
use Rattle.programs.specs.Ran.{HasWritten}
use Rattle.ansi_text.specs.Ansi.{is_text}
use Rattle.ansi_feed.specs.Feed.{ended_lines, feed_of, lines_at_finish, lines_in}
use Rattle.ansi_feed.specs.Plain.{log_lines, shown}
use Rattle.ansi_feed.specs.Log.{FedBad, HasFed, Ran}
use Rattle.ansi_feed.proofs.FeedLemmas.{text-piece, text-finished}
use Rattle.ansi_feed.proofs.Feeding.{ended_lines-log}

-- a line that is not UTF-8 and ended is one of the input, whatever follows
log_bad : (u rest : List ℕ) → is_text (ended_lines u) ≡ false → is_text (log_lines (u ++ rest)) ≡ false
log_bad u rest bad =
    ap is_text (sym (ended_lines-log (u ++ rest)))
    ∙ text-finished (feed_of 0 (u ++ rest)) (u ++ rest) refl
    ∙ ap (λ v. v && is_text (lines_at_finish (feed_of 0 (u ++ rest))))
    (text-piece (feed_of 0 u) u rest refl ∙ ap (λ v. v && is_text (lines_in (feed_of 0 u) rest)) bad)

-- what is known of all bytes that were taken is known of those that were left, where the source tells them
told : (P : List ℕ → Type 0) (old new : Option (List ℕ)) (taken got : List ℕ) → Consumes old new (taken ++ got) → IsAtEnd new → got ≡ [] → P taken
    → IfSome old P
told P None new taken got took end none p = tt
told P (Some b) None taken got took end none p = absurd took
told P (Some b) (Some n) taken got took end none p = subst P (sym all) p
  where
    all : b ≡ taken
    all = took ∙ ap (λ rest. (taken ++ got) ++ rest) end ∙ append-nil (taken ++ got) ∙ ap (λ g. taken ++ g) none ∙ append-nil taken

-- a status is known by its code
apart : (a b : Status) → a ≡ b → code_of a ≡ code_of b
apart a b e = ap code_of e

module _ (r w : Change) (unread untouched : Type 0) where
  abbrev Runs : Option ℕ → Status → Type 0
  Runs o status = Ran o status r w unread untouched

  pub usage_says : (o : Option ℕ) (status : Status) → Runs o status → status ≡ Usage → o ≡ None
  usage_says None status h e = refl
  usage_says (Some bound) status h e = absurd (subst (λ s. HasFed s r h.taken h.got) e h.fed)

  pub refused_words_say : (o : Option ℕ) (status : Status) → Runs o status → o ≡ None → (status ≡ Usage) × unread × untouched
  refused_words_say None status h e = h
  refused_words_say (Some bound) status h e = cc

  pub done_says : (o : Option ℕ) (status : Status) → Runs o status → (bound : ℕ) → o ≡ Some bound → status ≡ Done
      → IfSome r.old (λ bytes. IsAtEnd r.new × (is_text (log_lines bytes) ≡ true) × Appends w.old w.new (shown bound bytes))
  done_says None status h bound e d = cc
  done_says (Some own) status h bound e d =
      let same : own ≡ bound = cc in
      let fed = subst (λ s. HasFed s r h.taken h.got) d h.fed in
      let wrote = subst (λ s. HasWritten s w (shown own h.taken) untouched) d h.wrote in
      told (λ bytes. IsAtEnd r.new × (is_text (log_lines bytes) ≡ true) × Appends w.old w.new (shown bound bytes)) r.old r.new h.taken h.got h.took.took fed.0 fed.1
      (fed.0, fed.2, subst (λ n. Appends w.old w.new (shown n h.taken)) same wrote.wrote)

  -- no call of either end failed before a run was done
  pub no_fault_says : (o : Option ℕ) (status : Status) → Runs o status → status ≡ Done → NoFault r.before r.now × NoFault w.before w.now
  no_fault_says None status h e = absurd (omega (arith, apart Usage Done (sym h.0 ∙ e)))
  no_fault_says (Some bound) status h e =
      let fed = subst (λ s. HasFed s r h.taken h.got) e h.fed in
      let wrote = subst (λ s. HasWritten s w (shown bound h.taken) untouched) e h.wrote in
      (fed.3, wrote.no_fault)

  pub read_fault_says : (o : Option ℕ) (status : Status) → Runs o status → status ≡ ReadFault → Rose r.before r.now
  read_fault_says None status h e = absurd (omega (arith, apart Usage ReadFault (sym h.0 ∙ e)))
  read_fault_says (Some bound) status h e = (subst (λ s. HasFed s r h.taken h.got) e h.fed).0

  pub too_long_says : (o : Option ℕ) (status : Status) → Runs o status → status ≡ TooLong
      → IfSome r.old (λ bytes. IfSome r.new (λ rest. length bytes ≡ length rest + (limit + 1)))
  too_long_says None status h e = absurd (omega (arith, apart Usage TooLong (sym h.0 ∙ e)))
  too_long_says (Some bound) status h e = counted r.old r.new (h.taken ++ h.got) h.took.took (subst (λ s. HasFed s r h.taken h.got) e h.fed).0
    where
      counted : (old new : Option (List ℕ)) (all : List ℕ) → Consumes old new all → length all ≡ limit + 1
          → IfSome old (λ bytes. IfSome new (λ rest. length bytes ≡ length rest + (limit + 1)))
      counted None new all took n = tt
      counted (Some b) None all took n = tt
      counted (Some b) (Some rest) all took n = omega (arith, ap length took, length-append all rest, n)

  -- a run that did not end by too many bytes took fewer
  few : (status : Status) (taken got : List ℕ) → HasFed status r taken got → length taken ≤ limit → (length (taken ++ got) ≤ limit) ⊎ (status ≡ TooLong)
  few Done taken got h short = inl (omega (arith, length-append taken got, ap length h.1, short))
  few Usage taken got h short = absurd h
  few ReadFault taken got h short = inl (omega (arith, length-append taken got, ap length h.1, short))
  few TooLong taken got h short = inr refl
  few NotUtf8 taken got h short = inl h.0
  few TooNarrow taken got h short = absurd h
  few WriteFault taken got h short = inl (omega (arith, length-append taken got, ap length h.1, short))
  few Memory taken got h short = inl h.0

  pub only_too_long_says : (o : Option ℕ) (status : Status) → Runs o status → (unread → r.new ≡ r.old)
      → IfSome r.old (λ bytes. IfSome r.new (λ rest. length bytes ≡ length rest + (limit + 1) → status ≡ TooLong))
  only_too_long_says None status h same = stays r.old r.new (same h.1)
    where
      stays : (old new : Option (List ℕ)) → new ≡ old → IfSome old (λ bytes. IfSome new (λ rest. length bytes ≡ length rest + (limit + 1) → status ≡ TooLong))
      stays None new e = tt
      stays (Some b) None e = tt
      stays (Some b) (Some n) e = λ longer. (let same : n ≡ b = cc in absurd (omega (arith, ap length same, longer)))
  only_too_long_says (Some bound) status h same = counted r.old r.new (h.taken ++ h.got) h.took.took (few status h.taken h.got h.fed h.took.short)
    where
      counted : (old new : Option (List ℕ)) (all : List ℕ) → Consumes old new all → (length all ≤ limit) ⊎ (status ≡ TooLong)
          → IfSome old (λ bytes. IfSome new (λ rest. length bytes ≡ length rest + (limit + 1) → status ≡ TooLong))
      counted None new all took n = tt
      counted (Some b) None all took n = tt
      counted (Some b) (Some rest) all took (inl n) = λ longer. absurd (omega (arith, ap length took, length-append all rest, n, longer))
      counted (Some b) (Some rest) all took (inr too) = λ longer. too

  -- a line that is not UTF-8 is one of the source
  bad_says : (old new : Option (List ℕ)) (taken got : List ℕ) → Consumes old new (taken ++ got)
      → (is_text (ended_lines (taken ++ got)) ≡ false) ⊎ (IsAtEnd new × (got ≡ []) × (is_text (log_lines taken) ≡ false))
      → IfSome old (λ bytes. is_text (log_lines bytes) ≡ false)
  bad_says None new taken got took bad = tt
  bad_says (Some b) None taken got took bad = absurd took
  bad_says (Some b) (Some n) taken got took (inl bad) = ap (λ bytes. is_text (log_lines bytes)) took ∙ log_bad (taken ++ got) n bad
  bad_says (Some b) (Some n) taken got took (inr end) =
      told (λ bytes. is_text (log_lines bytes) ≡ false) (Some b) (Some n) taken got took end.0 end.1 end.2

  pub not_utf8_says : (o : Option ℕ) (status : Status) → Runs o status → status ≡ NotUtf8 → IfSome r.old (λ bytes. is_text (log_lines bytes) ≡ false)
  not_utf8_says None status h e = absurd (omega (arith, apart Usage NotUtf8 (sym h.0 ∙ e)))
  not_utf8_says (Some bound) status h e =
      bad_says r.old r.new h.taken h.got h.took.took (subst (λ s. HasFed s r h.taken h.got) e h.fed).1

  pub write_fault_says : (o : Option ℕ) (status : Status) → Runs o status → (bound : ℕ) → o ≡ Some bound → status ≡ WriteFault
      → Rose w.before w.now × IfSome r.old (λ bytes. IsAtEnd r.new × WroteSome w (shown bound bytes))
  write_fault_says None status h bound e d = cc
  write_fault_says (Some own) status h bound e d =
      let same : own ≡ bound = cc in
      let fed = subst (λ s. HasFed s r h.taken h.got) d h.fed in
      let wrote = subst (λ s. HasWritten s w (shown own h.taken) untouched) d h.wrote in (
        wrote.cause,
        told (λ bytes. IsAtEnd r.new × WroteSome w (shown bound bytes)) r.old r.new h.taken h.got h.took.took fed.0 fed.1
            (fed.0, subst (λ n. WroteSome w (shown n h.taken)) same wrote),
      )

  pub never_says : (o : Option ℕ) (status : Status) → Runs o status → status ≡ TooNarrow → ⊥
  never_says None status h =
      λ e. absurd (omega (arith, apart Usage TooNarrow (sym h.0 ∙ e)))
  never_says (Some bound) status h =
      λ e. subst (λ s. HasFed s r h.taken h.got) e h.fed

  pub untouched_says : (o : Option ℕ) (status : Status) → Runs o status → (status ≡ Done → ⊥) → (status ≡ WriteFault → ⊥) → untouched
  untouched_says None status h done fault = h.2
  untouched_says (Some bound) status h done fault = each status (shown bound h.taken) h.wrote done fault
    where
      each : (s : Status) (output : List ℕ) → HasWritten s w output untouched → (s ≡ Done → ⊥) → (s ≡ WriteFault → ⊥) → untouched
      each Done output k done fault = absurd (done refl)
      each Usage output k done fault = k
      each ReadFault output k done fault = k
      each TooLong output k done fault = k
      each NotUtf8 output k done fault = k
      each TooNarrow output k done fault = k
      each WriteFault output k done fault = absurd (fault refl)
      each Memory output k done fault = k

  -- what a run over a source of few bytes and lines of text ends with
  complete_by : (status : Status) (taken got output : List ℕ) → HasFed status r taken got → HasWritten status w output untouched
      → length (taken ++ got) ≤ limit → (FedBad r taken got → ⊥) → (Rose r.before r.now → ⊥) → (Rose w.before w.now → ⊥) → (status ≡ Done) ⊎ (status ≡ Memory)
  complete_by Done taken got output h k short good rf wf = inl refl
  complete_by Usage taken got output h k short good rf wf = absurd h
  complete_by ReadFault taken got output h k short good rf wf = absurd (rf h.0)
  complete_by TooLong taken got output h k short good rf wf = absurd (omega (arith, h.0, short))
  complete_by NotUtf8 taken got output h k short good rf wf = absurd (good h.1)
  complete_by TooNarrow taken got output h k short good rf wf = absurd h
  complete_by WriteFault taken got output h k short good rf wf = absurd (wf k.cause)
  complete_by Memory taken got output h k short good rf wf = inr refl

  pub complete_says : (o : Option ℕ) (status : Status) → Runs o status → (bound : ℕ) → o ≡ Some bound
      → IsSomeAnd r.old (λ bytes. (length bytes ≤ limit) × (is_text (log_lines bytes) ≡ true))
      → (Rose r.before r.now → ⊥) → (Rose w.before w.now → ⊥) → (status ≡ Done) ⊎ (status ≡ Memory)
  complete_says None status h bound e can rf wf = cc
  complete_says (Some own) status h bound e can rf wf =
      let parts = of_taken r.old r.new h.taken h.got h.took.took can in
      complete_by status h.taken h.got (shown own h.taken) h.fed h.wrote parts.0 parts.1 rf wf
    where
      of_taken : (old new : Option (List ℕ)) (taken got : List ℕ) → Consumes old new (taken ++ got)
          → IsSomeAnd old (λ bytes. (length bytes ≤ limit) × (is_text (log_lines bytes) ≡ true))
          → (length (taken ++ got) ≤ limit)
          × ((is_text (ended_lines (taken ++ got)) ≡ false) ⊎ (IsAtEnd new × (got ≡ []) × (is_text (log_lines taken) ≡ false)) → ⊥)
      of_taken None new taken got took can = absurd can
      of_taken (Some b) None taken got took can = absurd took
      of_taken (Some b) (Some n) taken got took can = (
        omega (arith, ap length took, length-append (taken ++ got) n, can.0),
        λ bad. false≢true (sym (bad_says (Some b) (Some n) taken got took bad) ∙ can.1),
      )
