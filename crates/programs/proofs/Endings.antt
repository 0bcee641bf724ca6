-- What a run says, status by status.
use Rattle.std.proofs.Common.{◌≡◌, ℕ, ◌+◌, ◌≤◌, List, ◌++◌, length, refl, sym, ap, subst, ◌∙◌, arith, append-nil, length-append, inl, inr}
use Rattle.std.specs.Prelude.{◌⊎◌, Option, Some, None, IfSome, IsSomeAnd}
use Rattle.std.specs.Io.KnownBytes.{Consumes, Appends, IsAtEnd}
use Rattle.ends.specs.Causes.{Rose, NoFault}
use Rattle.programs.specs.declared.status.Status.{Status}
use Rattle.programs.specs.declared.status.Status.TheVariants.{Done, Usage, ReadFault, TooLong, NotUtf8, TooNarrow, WriteFault, Memory}
use Rattle.programs.specs.Status.{code_of}
use Rattle.programs.specs.Reading.{Change, TookAll, Stopped, limit}
use Rattle.programs.specs.Writing.{WroteAll, WroteSome}
use Rattle.programs.specs.Ran.{HasRead, HasWritten, Shows, Ran}

-- what is known of all bytes that were taken is known of those that were left, where the source tells them
told : (P : List ℕ → Type 0) (old new : Option (List ℕ)) (taken : List ℕ) → Consumes old new taken → IsAtEnd new → P taken
    → IfSome old (λ bytes. IsAtEnd new × P bytes)
told P None new taken took end p = tt
told P (Some b) None taken took end p = absurd took
told P (Some b) (Some n) taken took end p = (end, subst P (sym (took ∙ ap (λ rest. taken ++ rest) end ∙ append-nil taken)) p)

-- a status is known by its code
apart : (a b : Status) → a ≡ b → code_of a ≡ code_of b
apart a b e = ap code_of e

-- there is none of the causes why bytes have no output
abbrev pub HasNoCause : {J : Type 0} → (J → Status → List ℕ → Type 0) → J → List ℕ → Type 0
HasNoCause Cause job bytes = (Cause job NotUtf8 bytes → ⊥) × (Cause job TooNarrow bytes → ⊥)

module _ {J : Type 0} (Cause : J → Status → List ℕ → Type 0) (shown : J → List ℕ → List ℕ) (r w : Change)
    (unread untouched : Type 0) where
  abbrev Runs : Option J → Status → Type 0
  Runs o status = Ran Cause shown o status r w unread untouched

  pub usage_says : (o : Option J) (status : Status) → Runs o status → status ≡ Usage → o ≡ None
  usage_says None status h e = refl
  usage_says (Some job) status h e = absurd (subst (λ s. HasRead (Cause job) s r h.taken) e h.read)

  pub refused_words_say : (o : Option J) (status : Status) → Runs o status → o ≡ None → (status ≡ Usage) × unread × untouched
  refused_words_say None status h e = h
  refused_words_say (Some job) status h e = cc

  pub done_says : (o : Option J) (status : Status) → Runs o status → (job : J) → o ≡ Some job → status ≡ Done
      → IfSome r.old (λ bytes. IsAtEnd r.new × Cause job Done bytes × Appends w.old w.new (shown job bytes))
  done_says None status h job e d = cc
  done_says (Some own) status h job e d =
      let same : own ≡ job = cc in
      let read = subst (λ s. HasRead (Cause own) s r h.taken) d h.read in
      let wrote = subst (λ s. HasWritten s w (shown own h.taken) untouched) d h.wrote in
      each r.old r.new h.taken h.took read.0.end (subst (λ j. Cause j Done h.taken) same read.1) (subst (λ j. Appends w.old w.new (shown j h.taken)) same wrote.wrote)
    where
      each : (old new : Option (List ℕ)) (taken : List ℕ) → Consumes old new taken → IsAtEnd new → Cause job Done taken → Appends w.old w.new (shown job taken)
          → IfSome old (λ bytes. IsAtEnd new × Cause job Done bytes × Appends w.old w.new (shown job bytes))
      each None new taken took end p q = tt
      each (Some b) None taken took end p q = absurd took
      each (Some b) (Some n) taken took end p q =
          let all : taken ≡ b = sym (took ∙ ap (λ rest. taken ++ rest) end ∙ append-nil taken) in
          (end, subst (λ t. Cause job Done t) all p, subst (λ t. Appends w.old w.new (shown job t)) all q)

  -- no call of either end failed before a run was done
  pub no_fault_says : (o : Option J) (status : Status) → Runs o status → status ≡ Done → NoFault r.before r.now × NoFault w.before w.now
  no_fault_says None status h e = absurd (omega (arith, apart Usage Done (sym h.0 ∙ e)))
  no_fault_says (Some job) status h e =
      let read = subst (λ s. HasRead (Cause job) s r h.taken) e h.read in
      let wrote = subst (λ s. HasWritten s w (shown job h.taken) untouched) e h.wrote in
      (read.0.no_fault, wrote.no_fault)

  pub read_fault_says : (o : Option J) (status : Status) → Runs o status → status ≡ ReadFault → Rose r.before r.now
  read_fault_says None status h e = absurd (omega (arith, apart Usage ReadFault (sym h.0 ∙ e)))
  read_fault_says (Some job) status h e = (subst (λ s. HasRead (Cause job) s r h.taken) e h.read).0

  pub not_utf8_says : (P : List ℕ → Type 0) → ((job : J) (bytes : List ℕ) → Cause job NotUtf8 bytes → P bytes) → (o : Option J) (status : Status)
      → Runs o status → status ≡ NotUtf8 → IfSome r.old (λ bytes. IsAtEnd r.new × P bytes)
  not_utf8_says P known None status h e = absurd (omega (arith, apart Usage NotUtf8 (sym h.0 ∙ e)))
  not_utf8_says P known (Some job) status h e =
      let read = subst (λ s. HasRead (Cause job) s r h.taken) e h.read in
      told P r.old r.new h.taken h.took read.0.end (known job h.taken read.1)

  pub too_narrow_says : (o : Option J) (status : Status) → Runs o status → (job : J) → o ≡ Some job → status ≡ TooNarrow
      → IfSome r.old (λ bytes. IsAtEnd r.new × Cause job TooNarrow bytes)
  too_narrow_says None status h job e d = cc
  too_narrow_says (Some own) status h job e d =
      let same : own ≡ job = cc in
      let read = subst (λ s. HasRead (Cause own) s r h.taken) d h.read in
      told (λ bytes. Cause job TooNarrow bytes) r.old r.new h.taken h.took read.0.end (subst (λ j. Cause j TooNarrow h.taken) same read.1)

  pub write_fault_says : (o : Option J) (status : Status) → Runs o status → (job : J) → o ≡ Some job → status ≡ WriteFault
      → Rose w.before w.now × IfSome r.old (λ bytes. IsAtEnd r.new × WroteSome w (shown job bytes))
  write_fault_says None status h job e d = cc
  write_fault_says (Some own) status h job e d =
      let same : own ≡ job = cc in
      let read = subst (λ s. HasRead (Cause own) s r h.taken) d h.read in
      let wrote = subst (λ s. HasWritten s w (shown own h.taken) untouched) d h.wrote in
      (wrote.cause, told (λ bytes. WroteSome w (shown job bytes)) r.old r.new h.taken h.took read.0.end (subst (λ j. WroteSome w (shown j h.taken)) same wrote))

  pub too_long_says : (o : Option J) (status : Status) → Runs o status → status ≡ TooLong
      → IfSome r.old (λ bytes. IfSome r.new (λ rest. length bytes ≡ length rest + (limit + 1)))
  too_long_says None status h e = absurd (omega (arith, apart Usage TooLong (sym h.0 ∙ e)))
  too_long_says (Some job) status h e = counted r.old r.new h.taken h.took (subst (λ s. HasRead (Cause job) s r h.taken) e h.read).0
    where
      counted : (old new : Option (List ℕ)) (taken : List ℕ) → Consumes old new taken → length taken ≡ limit + 1
          → IfSome old (λ bytes. IfSome new (λ rest. length bytes ≡ length rest + (limit + 1)))
      counted None new taken took n = tt
      counted (Some b) None taken took n = tt
      counted (Some b) (Some rest) taken took n = omega (arith, ap length took, length-append taken rest, n)

  -- a run that did not end by too many bytes took fewer, where it read at all
  abbrev Fewer : Status → List ℕ → Type 0
  Fewer status taken = (length taken ≤ limit) ⊎ (status ≡ TooLong) ⊎ (status ≡ Memory)

  fewer : (job : J) (status : Status) (taken : List ℕ) → HasRead (Cause job) status r taken → Fewer status taken
  fewer job Done taken h = inl h.0.short
  fewer job Usage taken h = absurd h
  fewer job ReadFault taken h = inl h.1
  fewer job TooLong taken h = inr (inl refl)
  fewer job NotUtf8 taken h = inl h.0.short
  fewer job TooNarrow taken h = inl h.0.short
  fewer job WriteFault taken h = inl h.0.short
  fewer job Memory taken h = inr (inr refl)

  pub only_too_long_says : (o : Option J) (status : Status) → Runs o status → (unread → r.new ≡ r.old)
      → IfSome r.old (λ bytes. IfSome r.new (λ rest. length bytes ≡ length rest + (limit + 1) → (status ≡ TooLong) ⊎ (status ≡ Memory)))
  only_too_long_says None status h same = stays r.old r.new (same h.1)
    where
      stays : (old new : Option (List ℕ)) → new ≡ old
          → IfSome old (λ bytes. IfSome new (λ rest. length bytes ≡ length rest + (limit + 1) → (status ≡ TooLong) ⊎ (status ≡ Memory)))
      stays None new e = tt
      stays (Some b) None e = tt
      stays (Some b) (Some n) e = λ longer. (let same : n ≡ b = cc in absurd (omega (arith, ap length same, longer)))
  only_too_long_says (Some job) status h same = counted r.old r.new h.taken h.took (fewer job status h.taken h.read)
    where
      counted : (old new : Option (List ℕ)) (taken : List ℕ) → Consumes old new taken → Fewer status taken
          → IfSome old (λ bytes. IfSome new (λ rest. length bytes ≡ length rest + (limit + 1) → (status ≡ TooLong) ⊎ (status ≡ Memory)))
      counted None new taken took n = tt
      counted (Some b) None taken took n = tt
      counted (Some b) (Some rest) taken took (inl n) = λ longer. absurd (omega (arith, ap length took, length-append taken rest, n, longer))
      counted (Some b) (Some rest) taken took (inr either) = λ longer. either

  pub untouched_says : (o : Option J) (status : Status) → Runs o status → (status ≡ Done → ⊥) → (status ≡ WriteFault → ⊥) → untouched
  untouched_says None status h done fault = h.2
  untouched_says (Some job) status h done fault = each status (shown job h.taken) h.wrote done fault
    where
      each : (s : Status) (output : List ℕ) → HasWritten s w output untouched → (s ≡ Done → ⊥) → (s ≡ WriteFault → ⊥) → untouched
      each Done output k done fault = absurd (done refl)
      each Usage output k done fault = k
      each ReadFault output k done fault = k
      each TooLong output k done fault = k
      each NotUtf8 output k done fault = k
      each TooNarrow output k done fault = k
      each WriteFault output k done fault = absurd (fault refl)
      each Memory output k done fault = k

  -- what a run over a source that has an output ends with
  complete_by : (job : J) (status : Status) (taken : List ℕ) (output : List ℕ) → HasRead (Cause job) status r taken → HasWritten status w output untouched
      → length taken ≤ limit → (TookAll r taken → HasNoCause Cause job taken) → (Rose r.before r.now → ⊥) → (Rose w.before w.now → ⊥) → (status ≡ Done) ⊎ (status ≡ Memory)
  complete_by job Done taken output h k short can rf wf = inl refl
  complete_by job Usage taken output h k short can rf wf = absurd h
  complete_by job ReadFault taken output h k short can rf wf = absurd (rf h.0)
  complete_by job TooLong taken output h k short can rf wf = absurd (omega (arith, h.0, short))
  complete_by job NotUtf8 taken output h k short can rf wf = absurd ((can h.0).0 h.1)
  complete_by job TooNarrow taken output h k short can rf wf = absurd ((can h.0).1 h.1)
  complete_by job WriteFault taken output h k short can rf wf = absurd (wf k.cause)
  complete_by job Memory taken output h k short can rf wf = inr refl

  pub complete_says : ((job : J) (bytes : List ℕ) → Cause job Done bytes → HasNoCause Cause job bytes) → (o : Option J) (status : Status) → Runs o status
      → (job : J) → o ≡ Some job → IsSomeAnd r.old (λ bytes. (length bytes ≤ limit) × Cause job Done bytes)
      → (Rose r.before r.now → ⊥) → (Rose w.before w.now → ⊥) → (status ≡ Done) ⊎ (status ≡ Memory)
  complete_says no_cause None status h job e can rf wf = cc
  complete_says no_cause (Some own) status h job e can rf wf =
      let same : own ≡ job = cc in
      let known = subst (λ j. IsSomeAnd r.old (λ bytes. (length bytes ≤ limit) × Cause j Done bytes)) (sym same) can in
      let parts = of_taken r.old r.new h.taken h.took known in
      complete_by own status h.taken (shown own h.taken) h.read h.wrote parts.0 (λ t. no_cause own h.taken (parts.1 t.end)) rf wf
    where
      of_taken : (old new : Option (List ℕ)) (taken : List ℕ) → Consumes old new taken → IsSomeAnd old (λ bytes. (length bytes ≤ limit) × Cause own Done bytes)
          → (length taken ≤ limit) × (IsAtEnd new → Cause own Done taken)
      of_taken None new taken took can = absurd can
      of_taken (Some b) None taken took can = absurd took
      of_taken (Some b) (Some n) taken took can = (
        omega (arith, ap length took, length-append taken n, can.0),
        λ end. subst (λ t. Cause own Done t) (took ∙ ap (λ rest. taken ++ rest) end ∙ append-nil taken) can.1,
      )
