-- The closer that counting up and down finds is the one that a stack from the right finds.
use Rattle.std.proofs.Common.{List, [], ◌∷◌, ◌++◌, length, drop, take, get_or, ◌≡◌, ◌≤◌, ◌<◌, ◌+◌, ◌-◌, ℕ, zero, suc, refl, sym, ap, subst, ◌∙◌, arith, true, false, cond, Option, Some, None, reverse, length-append}
use Rattle.std.specs.Prelude.{slice_get}
use Rattle.std.proofs.lemmas.List.{reverse-append, reverse-reverse, take-append-le, take_all, drop_more}
use Rattle.std.proofs.Math.ListN.{drop_of_length-le}
use Rattle.md_leaves.specs.declared.leaf.Leaf.{Leaf}
use Rattle.md_runs.specs.Brackets.{is_opener, is_closer, balance, later}
use Rattle.md_runs.specs.Partners.{balances, unmatched, noted, moved, distance}

moved-later : (i : ℕ) (o : Option ℕ) → moved i (later o) ≡ moved (i + 1) o
moved-later i None = refl
moved-later i (Some j) = ap Some (omega arith)

-- the k-th element from the back
abbrev back : ℕ → List ℕ → Option ℕ
back k xs = slice_get (reverse xs) k

back-push-first : (xs : List ℕ) (x : ℕ) → back 0 (xs ++ x ∷ []) ≡ Some x
back-push-first xs x = ap (λ ys. slice_get ys 0) (reverse-append xs (x ∷ []))

back-push-next : (xs : List ℕ) (x k : ℕ) → back (suc k) (xs ++ x ∷ []) ≡ back k xs
back-push-next xs x k = ap (λ ys. slice_get ys (suc k)) (reverse-append xs (x ∷ []))

take-front : (ys : List ℕ) (y : ℕ) → take (length (ys ++ y ∷ []) - 1) (ys ++ y ∷ []) ≡ ys
take-front ys y =
    let n : length (ys ++ y ∷ []) - 1 ≡ length ys = omega (arith, length-append ys (y ∷ [])) in
    ap (λ n. take n (ys ++ y ∷ [])) n ∙ (take-append-le (length ys) ys (y ∷ []) (omega arith) ∙ take_all (length ys) ys (omega arith))

back-pop-of : (ys xs : List ℕ) (k : ℕ) → xs ≡ reverse ys → back k (take (length xs - 1) xs) ≡ back (suc k) xs
back-pop-of [] xs k e = rw e refl
back-pop-of (y ∷ ys) xs k e =
    let e' : xs ≡ reverse ys ++ y ∷ [] = e ∙ reverse-append (y ∷ []) ys in
    subst (λ (z : List ℕ). back k (take (length z - 1) z) ≡ back (suc k) z) (sym e')
    (ap (back k) (take-front (reverse ys) y) ∙ sym (back-push-next (reverse ys) y k))

back-pop : (xs : List ℕ) (k : ℕ) → back k (take (length xs - 1) xs) ≡ back (suc k) xs
back-pop xs k = back-pop-of (reverse xs) xs k (sym (reverse-reverse xs))

last-of : (ys xs : List ℕ) → xs ≡ reverse ys → slice_get xs (length xs - 1) ≡ back 0 xs
last-of [] xs e = rw e refl
last-of (y ∷ ys) xs e =
    let e' : xs ≡ reverse ys ++ y ∷ [] = e ∙ reverse-append (y ∷ []) ys in
    subst (λ (z : List ℕ). slice_get z (length z - 1) ≡ back 0 z) (sym e')
    (last (reverse ys) ∙ sym (back-push-first (reverse ys) y))
  where
    at-end : (zs : List ℕ) → slice_get (zs ++ y ∷ []) (length zs) ≡ Some y
    at-end [] = refl
    at-end (z ∷ zs) = at-end zs

    last : (zs : List ℕ) → slice_get (zs ++ y ∷ []) (length (zs ++ y ∷ []) - 1) ≡ Some y
    last zs =
        let n : length (zs ++ y ∷ []) - 1 ≡ length zs = omega (arith, length-append zs (y ∷ [])) in
        ap (slice_get (zs ++ y ∷ [])) n ∙ at-end zs

-- the closer that balances k openers and one more is the k-th unmatched one
balance-unmatched : (k i : ℕ) (ls : List Leaf) → moved i (balance k ls) ≡ back k (unmatched i ls)
unfolding balance unmatched
balance-unmatched k i [] = refl
balance-unmatched zero i (l ∷ ls) =
    let opens = moved-later i (balance 1 ls) ∙ (balance-unmatched 1 (i + 1) ls ∙ sym (back-pop (unmatched (i + 1) ls) 0)) in
    let closes = ap Some (omega arith) ∙ sym (back-push-first (unmatched (i + 1) ls) i) in
    let passes = moved-later i (balance 0 ls) ∙ balance-unmatched 0 (i + 1) ls in
    elim (is_opener l.kind) as (λ v. moved i (cond v (later (balance 1 ls)) (cond (is_closer l.kind) (Some 0) (later (balance zero ls)))) ≡ back zero (cond v (take (length (unmatched (i + 1) ls) - 1) (unmatched (i + 1) ls)) (cond (is_closer l.kind) (unmatched (i + 1) ls ++ i ∷ []) (unmatched (i + 1) ls)))) [
      | true ↦ opens
      | false ↦ elim (is_closer l.kind) as (λ w. moved i (cond w (Some 0) (later (balance zero ls))) ≡ back zero (cond w (unmatched (i + 1) ls ++ i ∷ []) (unmatched (i + 1) ls))) [ true ↦ closes | false ↦ passes ]
    ]
balance-unmatched (suc k) i (l ∷ ls) =
    let opens = moved-later i (balance (suc (suc k)) ls) ∙ (balance-unmatched (suc (suc k)) (i + 1) ls ∙ sym (back-pop (unmatched (i + 1) ls) (suc k))) in
    let closes = moved-later i (balance k ls) ∙ (balance-unmatched k (i + 1) ls ∙ sym (back-push-next (unmatched (i + 1) ls) i k)) in
    let passes = moved-later i (balance (suc k) ls) ∙ balance-unmatched (suc k) (i + 1) ls in
    elim (is_opener l.kind) as (λ v. moved i (cond v (later (balance (suc (suc k)) ls)) (cond (is_closer l.kind) (later (balance k ls)) (later (balance (suc k) ls)))) ≡ back (suc k) (cond v (take (length (unmatched (i + 1) ls) - 1) (unmatched (i + 1) ls)) (cond (is_closer l.kind) (unmatched (i + 1) ls ++ i ∷ []) (unmatched (i + 1) ls)))) [
      | true ↦ opens
      | false ↦ elim (is_closer l.kind) as (λ w. moved i (cond w (later (balance k ls)) (later (balance (suc k) ls))) ≡ back (suc k) (cond w (unmatched (i + 1) ls ++ i ∷ []) (unmatched (i + 1) ls))) [ true ↦ closes | false ↦ passes ]
    ]

distance-moved : (i : ℕ) (o : Option ℕ) → distance i (moved i o) ≡ o
distance-moved i None = refl
distance-moved i (Some j) = ap Some (omega arith)

-- the nearest unmatched closer
pub unmatched-last : (i : ℕ) (xs : List ℕ) (ls : List Leaf) → xs ≡ unmatched i ls → distance i (slice_get xs (length xs - 1)) ≡ balance 0 ls
unmatched-last i xs ls e =
    ap (distance i) (last-of (reverse xs) xs (sym (reverse-reverse xs)) ∙ (ap (back 0) e ∙ sym (balance-unmatched 0 i ls)))
    ∙ distance-moved i (balance 0 ls)

pub balances-get : (at : ℕ) (ls : List Leaf) (d : Option ℕ) → at < length ls → get_or (balances ls) at d ≡ balance 0 (drop (at + 1) ls)
unfolding balances
balances-get at [] d lt = absurd (omega arith)
balances-get zero (l ∷ ls) d lt = refl
balances-get (suc at) (l ∷ ls) d lt =
    balances-get at ls d (omega arith) ∙ ap (λ k. balance 0 (drop k (l ∷ ls))) (let m : suc (at + 1) ≡ suc at + 1 = omega arith in m)

pub length-balances : (ls : List Leaf) → length (balances ls) ≡ length ls
unfolding balances
length-balances [] = refl
length-balances (l ∷ ls) = ap suc (length-balances ls)

reverse-balances : (l : Leaf) (ls : List Leaf) → reverse (balances (l ∷ ls)) ≡ reverse (balances ls) ++ balance 0 ls ∷ []
unfolding balances
reverse-balances l ls = reverse-append (balance 0 ls ∷ []) (balances ls)

-- how far the pass from the right has come
pub record Matches (leaves : List Leaf) (at : ℕ) (open_ : List ℕ) (done : List (Option ℕ)) : Type 0 where
  pub within : at ≤ length leaves
  pub closers : open_ ≡ unmatched at (drop at leaves)
  pub found : done ≡ reverse (balances (drop at leaves))

pub Matches-start : (leaves : List Leaf) (closers : List ℕ) (found : List (Option ℕ)) → closers ≡ [] → found ≡ [] → Matches leaves (length leaves) closers found
unfolding unmatched balances
Matches-start leaves closers found c f =
    let none : drop (length leaves) leaves ≡ [] = drop_of_length-le leaves (omega arith) in
    record {
      within = omega arith;
      closers = c ∙ ap (unmatched (length leaves)) (sym none);
      found = f ∙ ap (λ x. reverse (balances x)) (sym none);
    }

pub Matches-step : (leaves : List Leaf) (at : ℕ) (d : Leaf) (closers kept : List ℕ) (found more : List (Option ℕ)) → 0 < at → more ≡ found ++ distance at (slice_get closers (length closers - 1)) ∷ [] → kept ≡ noted (get_or leaves (at - 1) d).kind (at - 1) closers → Matches leaves at closers found → Matches leaves (at - 1) kept more
unfolding unmatched
Matches-step leaves at d closers kept found more some f k m =
    let lt : at - 1 < length leaves = omega (arith, m.within) in
    let same : at - 1 + 1 ≡ at = omega arith in
    let here : drop (at - 1) leaves ≡ get_or leaves (at - 1) d ∷ drop at leaves = drop_more leaves (at - 1) d lt ∙ ap (λ n. get_or leaves (at - 1) d ∷ drop n leaves) same in
    record {
      within = omega arith;
      closers = k ∙ (ap (noted (get_or leaves (at - 1) d).kind (at - 1)) (m.closers ∙ ap (λ n. unmatched n (drop at leaves)) (sym same)) ∙ ap (unmatched (at - 1)) (sym here));
      found =
          f ∙ (ap (λ x. x ++ distance at (slice_get closers (length closers - 1)) ∷ []) m.found
          ∙ (ap (λ o. reverse (balances (drop at leaves)) ++ o ∷ []) (unmatched-last at closers (drop at leaves) m.closers)
          ∙ (sym (reverse-balances (get_or leaves (at - 1) d) (drop at leaves)) ∙ ap (λ x. reverse (balances x)) (sym here))));
    }

pub Matches-end : (leaves : List Leaf) (at : ℕ) (closers : List ℕ) (found : List (Option ℕ)) → at ≡ 0 → Matches leaves at closers found → reverse found ≡ balances leaves
Matches-end leaves at closers found z m = ap reverse (m.found ∙ ap (λ n. reverse (balances (drop n leaves))) z) ∙ reverse-reverse (balances leaves)
