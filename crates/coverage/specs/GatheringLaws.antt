-- Laws: What is gathered, and what a spot is, in the words of the register's lists. Assumes nothing.
use Rattle.std.specs.Prelude.{◌≡◌, not, List, [], map, ℕ, ◌+◌, ◌-◌, ◌≤◌, ◌<◌, min, ltb, take, replicate, get_or}
use Rattle.std.proofs.Common.{sym, ap, ◌∙◌, zero-add, length-take, arith}
use Rattle.std.proofs.Math.ListN.{length, get_or-map}
use Rattle.std.proofs.lemmas.List.{length-map}
use Rattle.std.proofs.Math.Seq.{take-append_seam}
use Rattle.lists.specs.Lists.{All, counted, filter}
use Rattle.lists.specs.Each.{all_imp}
use Rattle.lists.specs.Counts.{counted_below}
use Rattle.lists.specs.Filters.{filter_nil, all_dropping, dropping_same}
use Rattle.register.specs.Limits.{claim_limit}
use Rattle.register.specs.Register.{claims_of, no_claim}
use Rattle.register.specs.Chain.{latest, live}
use Rattle.register.specs.declared.Claims.{Claims}
use Rattle.columns.specs.Columns.{holder_of}
use Rattle.coverage.specs.Gathering.{can_cover, cover_places, looked_at, held_at, held_places, gathered_by}

module _ (holders ends : List ℕ) (n : ℕ) where
  -- what is looked at is there
  pub record Looked : Type 0 where
    pub few : looked_at holders ends n ≤ claim_limit
    pub held : looked_at holders ends n ≤ length holders
    pub ending : looked_at holders ends n ≤ length ends

  pub looked_within : Looked
  unfolding looked_at
  looked_within = record { few = omega arith; held = omega arith; ending = omega arith }

  -- where both columns are as long, what is looked at is the first n of that many
  looked_long : (long : ℕ) → length holders ≡ long → length ends ≡ long → long ≤ claim_limit → looked_at holders ends n ≡ min n long
  unfolding looked_at
  looked_long long h e few = rw (h, e) (omega arith)

module _ (k : Claims) (x moment : ℕ) where
  places_below : All (λ j. j < length (claims_of k)) (counted 0 (length (claims_of k)))
  places_below = rw (zero-add (length (claims_of k))) at (counted_below 0 (length (claims_of k)))

  -- by the columns of holders and of ends the same places are gathered, where the ends tell which claims are live
  pub held_natural : (ends : List ℕ) → length k.list ≡ claim_limit → length ends ≡ claim_limit
      → ((j : ℕ) → j < length (claims_of k) → ltb moment (get_or ends j 0) ≡ live moment (latest (claims_of k)) (get_or k.list j no_claim))
      → held_places (map holder_of k.list) ends k.count x moment ≡ cover_places k x moment
  held_natural ends long ended tells =
      let looked : looked_at (map holder_of k.list) ends k.count ≡ length (claims_of k) =
      looked_long (map holder_of k.list) ends k.count (length k.list) (length-map k.list holder_of) (omega arith) (omega arith)
      ∙ sym (length-take k.count k.list) in
      ap (λ n. filter (λ j. held_at (map holder_of k.list) ends x moment j) (counted 0 n)) looked
      ∙ dropping_same (λ M j. not (held_at (map holder_of k.list) ends x moment j)) (λ M j. not (can_cover x moment (latest (claims_of k)) (get_or k.list j no_claim)))
      (counted 0 (length (claims_of k)))
      (all_imp (λ j. j < length (claims_of k))
      (λ j. not (held_at (map holder_of k.list) ends x moment j) ≡ not (can_cover x moment (latest (claims_of k)) (get_or k.list j no_claim)))
      (λ j inside. rw (get_or-map holder_of k.list j no_claim, tells j inside)) (counted 0 (length (claims_of k))) places_below)

module _ (holders ends : List ℕ) where
  -- the first places, as many as are counted, are the gathered ones
  pub gathered_first : (n x moment : ℕ)
      → take (gathered_by holders ends n x moment).count (gathered_by holders ends n x moment).places ≡ held_places holders ends n x moment
  unfolding gathered_by
  gathered_first n x moment =
      take-append_seam (held_places holders ends n x moment) (replicate (claim_limit - length (held_places holders ends n x moment)) 0)

  -- each of them is below the limit of claims
  pub held_below : (n x moment : ℕ) → All (λ j. j < claim_limit) (held_places holders ends n x moment)
  held_below n x moment =
      all_dropping (λ M j. not (held_at holders ends x moment j)) (λ j. j < claim_limit) (counted 0 (looked_at holders ends n))
      (all_imp (λ j. j < 0 + looked_at holders ends n) (λ j. j < claim_limit) (λ j inside. omega (arith, inside, (looked_within holders ends n).few))
      (counted 0 (looked_at holders ends n)) (counted_below 0 (looked_at holders ends n)))

  looked_none : looked_at holders ends 0 ≡ 0
  unfolding looked_at
  looked_none = omega arith

  -- of no claims none are gathered
  pub held_none : (x moment : ℕ) → held_places holders ends 0 x moment ≡ []
  held_none x moment = rw looked_none (filter_nil (λ j. held_at holders ends x moment j))
