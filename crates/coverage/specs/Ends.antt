-- Laws: The end of a claim by its columns: a moment in range is before it exactly where every claim on the chain, the claim included, is current.
-- Assumes nothing.
use Rattle.std.specs.Prelude.{◌≡◌, Bool, true, not, ◌&&◌, cond, List, [], ◌∷◌, ◌++◌, ℕ, zero, suc, ◌-◌, ◌≤◌, ◌<◌, eqb, leb, ltb, length, get_or, replicate}
use Rattle.std.proofs.Math.Path.{refl}
use Rattle.std.proofs.Common.{sym, ap, ◌∙◌, arith, eqb-true, lt-ltb, le-ltb, ltb-true, ltb-false}
use Rattle.std.proofs.Math.Bool.{and-false}
use Rattle.std.proofs.lemmas.Bool.{eqb-false}
use Rattle.std.proofs.Math.ListN.{length-append, get_or-append}
use Rattle.std.proofs.lemmas.List.{length-replicate, get_or_at}
use Rattle.lists.specs.Tests.{cases}
use Rattle.lists.specs.Lists.{every}
use Rattle.register.specs.Limits.{claim_limit, moment_end}
use Rattle.register.specs.Chain.{current, weighing}
use Rattle.register.proofs.Liveness.{above_unpast}
use Rattle.columns.specs.Columns.{latest_place, chain_places, current_at}
use Rattle.columns.specs.Laws.{place_cases, place_found_lem, chain_places_at, chain_places_nowhere}
use Rattle.lookup.specs.Finding.{asked, earlier_places}
use Rattle.lookup.specs.Laws.{earlier_at}
use Rattle.coverage.specs.Gathering.{end_under, end_behind, ends_to, ending_of, ends_of}

-- a moment is before the lesser of two where it is before both
lesser : (moment a b : ℕ) → ltb moment (cond (ltb a b) a b) ≡ ltb moment a && ltb moment b
lesser moment a b =
    cases (ltb a b)
    (λ t. rw t (cases (ltb moment a) (λ e. rw (e, lt-ltb moment b (omega (arith, ltb-true a b t, ltb-true moment a e)))) (λ e. rw e)))
    (λ t. rw t (cases (ltb moment b) (λ e. rw (e, lt-ltb moment a (omega (arith, ltb-false a b t, ltb-true moment b e))))
    (λ e. rw e (sym (and-false (ltb moment a))))))

-- the same of a claim's expiry, where it has one, and another end
within : (moment expiry most : ℕ)
    → ltb moment (cond (not (eqb expiry 0) && ltb expiry most) expiry most) ≡ not (not (eqb expiry 0) && leb expiry moment) && ltb moment most
within moment expiry most =
    cases (eqb expiry 0) (λ e. rw e)
    (λ e. rw e (lesser moment expiry most ∙ ap (λ b. b && ltb moment most) (sym (above_unpast moment expiry))))

-- a moment is before the end of a claim where the claim is current and the moment is before the end of what it is drawn from
under_natural : (moment weight expiry most : ℕ) → ltb moment (end_under weight expiry most) ≡ current moment (weighing weight expiry) && ltb moment most
under_natural moment weight expiry most =
    cases (eqb weight 0)
    (λ e. rw (e, le-ltb 0 weight (omega (arith, eqb-true weight 0 e))) (le-ltb moment 0 (omega arith)))
    (λ e. rw (e, lt-ltb 0 weight (omega (arith, eqb-false weight 0 e))) (within moment expiry most))

module _ (weights expiries ups : List ℕ) where
  pub ends_none : ends_to weights expiries ups 0 ≡ []
  unfolding ends_to
  ends_none = refl

  pub ends_next : (n : ℕ) → ends_to weights expiries ups (suc n)
      ≡ ends_to weights expiries ups n ++ (end_behind weights expiries ups (ends_to weights expiries ups n) n ∷ [])
  unfolding ends_to
  ends_next n = refl

  pub ends_length : (n : ℕ) → length (ends_to weights expiries ups n) ≡ n
  ends_length zero = ap length ends_none
  ends_length (suc n) =
      ap length (ends_next n)
      ∙ length-append (ends_to weights expiries ups n) (end_behind weights expiries ups (ends_to weights expiries ups n) n ∷ [])
      ∙ omega (arith, ends_length n)

  -- those behind it do not change an end
  pub ends_at : (n i : ℕ) → i < n → get_or (ends_to weights expiries ups n) i 0 ≡ end_behind weights expiries ups (ends_to weights expiries ups i) i
  ends_at zero i h = absurd (omega arith)
  ends_at (suc n) i h =
      cases (eqb i n)
      (λ e. let same : i ≡ n = eqb-true i n e in
      rw (same, ends_next n)
      (get_or_at (ends_to weights expiries ups n) (end_behind weights expiries ups (ends_to weights expiries ups n) n) [] 0 n (ends_length n)))
      (λ e. let before : i < n = omega (arith, eqb-false i n e) in
      ap (λ l. get_or l i 0) (ends_next n)
      ∙ get_or-append (ends_to weights expiries ups n) (end_behind weights expiries ups (ends_to weights expiries ups n) n ∷ []) 0 i (omega (arith, ends_length n))
      ∙ ends_at n i before)

  -- the array of the ends holds each at its place
  pub ends_read : (n i : ℕ) → i < ending_of weights expiries ups n
      → get_or (ends_of weights expiries ups n) i 0 ≡ end_behind weights expiries ups (ends_to weights expiries ups i) i
  unfolding ends_of
  ends_read n i h =
      let top = ending_of weights expiries ups n in
      get_or-append (ends_to weights expiries ups top) (replicate (claim_limit - top) 0) 0 i (omega (arith, ends_length top)) ∙ ends_at top i h

  pub ends_long : (n : ℕ) → length (ends_of weights expiries ups n) ≡ claim_limit
  unfolding ends_of
  ends_long n =
      let top = ending_of weights expiries ups n in
      length-append (ends_to weights expiries ups top) (replicate (claim_limit - top) 0)
      ∙ rw (ends_length top, length-replicate) (omega arith)

-- the first n claims, none of which has the number 0, by their columns, and a moment in range
module _ (ids parents weights expiries : List ℕ) (n : ℕ) (few : n ≤ claim_limit) (long : n ≤ length parents)
    (numbered : (j : ℕ) → j < n → get_or ids j 0 ≡ 0 → ⊥) (moment : ℕ) (timely : ltb moment moment_end ≡ true) where
  abbrev ups : List ℕ
  ups = earlier_places ids parents n

  -- the ends of those before a place, and the end there
  abbrev ends : ℕ → List ℕ
  ends k = ends_to weights expiries ups k

  abbrev end : ℕ → ℕ
  end k = end_behind weights expiries ups (ends k) k

  -- whether every claim of a chain is current
  abbrev lasts : List ℕ → Bool
  lasts l = every (current_at weights expiries moment) l

  -- the end of what the claim at a place is drawn from
  source : (k : ℕ) → k < n → ((i : ℕ) → i < k → ltb moment (end i) ≡ lasts (i ∷ chain_places ids parents i (get_or parents i 0)))
      → ltb moment (cond (ltb (get_or ups k 0) k) (get_or (ends k) (get_or ups k 0) 0) moment_end) ≡ lasts (chain_places ids parents k (get_or parents k 0))
  source k inside known =
      let all_asked : k < asked n parents = omega arith in
      let up = earlier_at ids parents n k 0 all_asked in
      place_cases (latest_place ids k (get_or parents k 0))
      (λ i q. let found = place_found_lem ids (get_or parents k 0) k i q in
      let other : (get_or parents k 0 ≡ 0 → ⊥) = λ z. numbered i (omega (arith, found.0)) (found.2 ∙ z) in
      rw (up, q, lt-ltb i k found.0, ends_at weights expiries ups k i found.0, chain_places_at ids parents k (get_or parents k 0) i other q) (known i found.0))
      (λ q. rw (up, q, le-ltb claim_limit k (omega arith), chain_places_nowhere ids parents k (get_or parents k 0) q) timely)

  up_to_each : (bound k : ℕ) → k < bound → k < n → ltb moment (end k) ≡ lasts (k ∷ chain_places ids parents k (get_or parents k 0))
  up_to_each zero k h inside = absurd (omega arith)
  up_to_each (suc bound) k h inside =
      under_natural moment (get_or weights k 0) (get_or expiries k 0) (cond (ltb (get_or ups k 0) k) (get_or (ends k) (get_or ups k 0) 0) moment_end)
      ∙ ap (λ b. current_at weights expiries moment k && b) (source k inside (λ i before. up_to_each bound i (omega arith) (omega arith)))

  -- a moment is before the end of the claim at a place where every claim on its chain, by the places of its columns, is current
  pub end_lasts : (k : ℕ) → k < n → ltb moment (end k) ≡ lasts (k ∷ chain_places ids parents k (get_or parents k 0))
  end_lasts k h = up_to_each (suc k) k (omega arith) h
