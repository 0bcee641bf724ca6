-- The runs of backticks of a source, read from the left.
use Rattle.std.proofs.Common.{List, [], ◌∷◌, length, drop, get_or, ◌≡◌, ◌≤◌, ◌<◌, ◌+◌, ◌-◌, ◌==◌, ℕ, suc, refl, sym, ap, subst, ◌∙◌, arith, Bool, true, false, cond, Some, None, nat_lt, nat_le, add-zero, length-drop}
use Rattle.std.specs.Option.{option_map}
use Rattle.std.specs.List.{prefix_len, slice_index}
use Rattle.std.proofs.lemmas.Bool.{false≢true}
use Rattle.std.proofs.lemmas.Bool.Decides.{nat_tests}
use Rattle.std.proofs.lemmas.List.{get_or-drop, drop-drop, drop_more, drop_all}
use Rattle.md_leaves.specs.Ahead.{AreLastEnds}
use Rattle.md_leaves.specs.Code.{is_tick, run_end}
use Rattle.md_leaves.proofs.RunLemmas.{prefix_len-holds, prefix_len-within}

-- so many numbers are known for the runs up to a place: a run that does not stand before a place does not stand in between
pub record Ends (source : List ℕ) (at : ℕ) (ends : List ℕ) : Type 0 where
  pub within : at ≤ length source
  pub none : (n p : ℕ) → 0 < n → p ≤ at → slice_index ends n ≤ p → is_tick (slice_index source p) ≡ false → run_end n 0 (drop at source) ≡ None → run_end n 0 (drop p source) ≡ None

zero-none : (n : ℕ) → 0 < n → (0 == n) ≡ false
zero-none n some = grind (arith, nat_tests)

-- at the end no run is left
pub run_end-past : (source : List ℕ) (n at : ℕ) → 0 < n → length source ≤ at → run_end n 0 (drop at source) ≡ None
unfolding run_end
run_end-past source n at some le = ap (run_end n 0) (drop_all at source le) ∙ ap (λ v. cond v (Some 0) None) (zero-none n some)

pub Ends-all : (source : List ℕ) (at : ℕ) (ends : List ℕ) → length source ≤ at → Ends source at ends → AreLastEnds source ends
Ends-all source at ends le e n some p last plain = go (nat_le p at) refl
  where
    go : (v : Bool) → nat_le p at ≡ v → run_end n 0 (drop p source) ≡ None
    go true h = e.none n p some (grind (arith, nat_tests)) last plain (run_end-past source n at some le)
    go false h = run_end-past source n p some (let far : at < p = grind (arith, nat_tests) in omega arith)

-- a byte that is no backtick
pub Ends-other : (source : List ℕ) (at : ℕ) (ends : List ℕ) → at < length source → (get_or source at 0 ≡ 96 → ⊥) → Ends source at ends → Ends source (at + 1) ends
unfolding run_end
Ends-other source at ends lt other e = record { within = omega arith; none = λ n p some le last plain rest. go n p some last plain rest (nat_le p at) refl le }
  where
    go : (n p : ℕ) → 0 < n → slice_index ends n ≤ p → is_tick (slice_index source p) ≡ false → run_end n 0 (drop (at + 1) source) ≡ None → (v : Bool) → nat_le p at ≡ v → p ≤ at + 1 → run_end n 0 (drop p source) ≡ None
    go n p some last plain rest true h le =
        let b : ℕ = get_or source at 0 in
        let tick : is_tick b ≡ false = grind (arith, nat_tests) in
        e.none n p some (grind (arith, nat_tests)) last plain
        (ap (run_end n 0) (drop_more source at 0 lt)
        ∙ (ap (λ v. cond v (option_map suc (run_end n 1 (drop (at + 1) source))) (cond (0 == n) (Some 0) (option_map suc (run_end n 0 (drop (at + 1) source))))) tick
        ∙ (ap (λ v. cond v (Some 0) (option_map suc (run_end n 0 (drop (at + 1) source)))) (zero-none n some)
        ∙ ap (option_map suc) rest)))
    go n p some last plain rest false h le =
        let far : at < p = grind (arith, nat_tests) in
        subst (λ k. run_end n 0 (drop k source) ≡ None) (let same : at + 1 ≡ p = omega arith in same) rest

-- a run of another length
run_end-other : (n before : ℕ) (bs : List ℕ) → 0 < n → (before + prefix_len is_tick bs ≡ n → ⊥) → run_end n 0 (drop (prefix_len is_tick bs) bs) ≡ None → run_end n before bs ≡ None
unfolding run_end
run_end-other n before [] some other rest = ap (λ v. cond v (Some 0) None) (let h : (before == n) ≡ false = grind (arith, nat_tests) in h)
run_end-other n before (b ∷ bs) some other rest = go (is_tick b) refl (run_end-other n (suc before) bs some) other rest
  where
    go : (v : Bool) → is_tick b ≡ v → ((suc before + prefix_len is_tick bs ≡ n → ⊥) → run_end n 0 (drop (prefix_len is_tick bs) bs) ≡ None → run_end n (suc before) bs ≡ None) → (before + cond v (1 + prefix_len is_tick bs) 0 ≡ n → ⊥) → run_end n 0 (drop (cond v (1 + prefix_len is_tick bs) 0) (b ∷ bs)) ≡ None → cond v (option_map suc (run_end n (suc before) bs)) (cond (before == n) (Some 0) (option_map suc (run_end n 0 bs))) ≡ None
    go true tick inner other rest =
        let one : 1 + prefix_len is_tick bs ≡ suc (prefix_len is_tick bs) = omega arith in
        ap (option_map suc) (inner (λ e. other (let h : before + (1 + prefix_len is_tick bs) ≡ n = omega arith in h)) (ap (λ k. run_end n 0 (drop k (b ∷ bs))) (sym one) ∙ rest))
    go false tick inner other rest =
        ap (λ v. cond v (Some 0) (option_map suc (run_end n 0 bs))) (let h : (before == n) ≡ false = grind (arith, nat_tests) in h)
        ∙ (sym (ap (λ v. cond v (Some 0) (option_map suc (run_end n 0 bs))) (zero-none n some))
        ∙ (sym (ap (λ v. cond v (option_map suc (run_end n 1 bs)) (cond (0 == n) (Some 0) (option_map suc (run_end n 0 bs)))) tick) ∙ rest))

some-tick : (bs : List ℕ) → 0 < length bs → get_or bs 0 0 ≡ 96 → 0 < prefix_len is_tick bs
some-tick [] some is = absurd (omega arith)
some-tick (b ∷ bs) some is = subst (λ v. 0 < cond v (1 + prefix_len is_tick bs) 0) (let h : true ≡ is_tick b = grind (arith, nat_tests) in h) (omega arith)

-- a run of n, behind which n has this place
pub Ends-run : (source : List ℕ) (at n : ℕ) (ends new : List ℕ) → at < length source → get_or source at 0 ≡ 96 → n ≡ prefix_len is_tick (drop at source) → ((k : ℕ) → slice_index new k ≡ cond (k == n) (at + n) (slice_index ends k)) → Ends source at ends → Ends source (at + n) new
Ends-run source at n ends new lt tick count put e = record {
  within = omega (arith, prefix_len-within is_tick (drop at source), length-drop at source);
  none = λ m p some le last plain rest. go m p some le last plain rest (nat_le p at) refl;
}
  where
    many : 0 < n
    many = let h : 0 < prefix_len is_tick (drop at source) = some-tick (drop at source) (omega (arith, length-drop at source)) (get_or-drop at source 0 0 ∙ (ap (λ k. get_or source k 0) (add-zero at) ∙ tick)) in omega arith

    before : (m p : ℕ) → 0 < m → p ≤ at → slice_index new m ≤ p → is_tick (slice_index source p) ≡ false → run_end m 0 (drop (at + n) source) ≡ None → (v : Bool) → (m == n) ≡ v → run_end m 0 (drop p source) ≡ None
    before m p some le last plain rest true same =
        let here : slice_index new m ≡ at + n = put m ∙ ap (λ v. cond v (at + n) (slice_index ends m)) same in
        let n_some : 0 < n = many in
        absurd (omega arith)
    before m p some le last plain rest false other =
        let here : slice_index new m ≡ slice_index ends m = put m ∙ ap (λ v. cond v (at + n) (slice_index ends m)) other in
        let left : run_end m 0 (drop (prefix_len is_tick (drop at source)) (drop at source)) ≡ None = ap (λ k. run_end m 0 (drop k (drop at source))) (sym count) ∙ (ap (run_end m 0) (drop-drop n at source) ∙ rest) in
        e.none m p some le (omega arith) plain (run_end-other m 0 (drop at source) some (λ z. let same : m ≡ n = omega arith in false≢true (sym other ∙ (let h : (m == n) ≡ true = grind (arith, nat_tests) in h))) left)

    go : (m p : ℕ) → 0 < m → p ≤ at + n → slice_index new m ≤ p → is_tick (slice_index source p) ≡ false → run_end m 0 (drop (at + n) source) ≡ None → (v : Bool) → nat_le p at ≡ v → run_end m 0 (drop p source) ≡ None
    go m p some le last plain rest true h = before m p some (grind (arith, nat_tests)) last plain rest (m == n) refl
    go m p some le last plain rest false h =
        let far : at < p = grind (arith, nat_tests) in
        behind (nat_lt p (at + n)) refl far
      where
        behind : (v : Bool) → nat_lt p (at + n) ≡ v → at < p → run_end m 0 (drop p source) ≡ None
        behind true h far =
            let near : p < at + n = grind (arith, nat_tests) in
            let place : at + (p - at) ≡ p = omega arith in
            let inside : is_tick (get_or source p 0) ≡ true = ap is_tick (sym (get_or-drop at source (p - at) 0 ∙ ap (λ k. get_or source k 0) place)) ∙ prefix_len-holds is_tick (drop at source) (p - at) (omega arith) in
            absurd (false≢true (sym plain ∙ inside))
        behind false h far =
            let past : at + n ≤ p = grind (arith, nat_tests) in
            subst (λ k. run_end m 0 (drop k source) ≡ None) (let same : at + n ≡ p = omega arith in same) rest
