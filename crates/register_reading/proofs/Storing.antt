-- Claims of a list stored one after the other, where they stand: each with the hands that it has left, by the hops that are kept of those before it. Assumes nothing.
use Rattle.std.proofs.Common.{Option, ℕ, ◌≡◌, refl, sym, ap, ◌∙◌, cond, List, [], ◌∷◌, ◌++◌, map, append_assoc, suc, ◌+◌, ◌≤◌, ◌<◌, add-one, arith, eqb-true, eqb, leb, length, take, drop, get_or, set, length-set, length-take, take-suc, drop-cons, get_or-set_same, get_or-set_other}
use borrow.Author.Tests.{eqb-false, lt-leb}
use lib.ListN.{length-map, length-reverse, get_or-map}
use lib.Seq.{set_at, get_or-append_seam}
use Rattle.lists.specs.Tests.{cases}
use Rattle.register.specs.Limits.{claim_limit}
use Rattle.register.specs.Register.{with_left, no_claim}
use Rattle.register.specs.Laws.{bare}
use Rattle.register.specs.Chain.{latest}
use Rattle.register.specs.declared.Claim.{Claim}
use Rattle.columns.specs.Columns.{claim_id, parent_of, latest_place, chain_places}
use Rattle.columns.specs.Laws.{place_cases, place_found_lem, chain_places_at, chain_places_nowhere, chain_places_zero}
use Rattle.columns.specs.Laws as column-laws
use Rattle.lookup.specs.Finding.{place_number, earlier_places, earlier_found}
use Rattle.lookup.specs.declared.Found.{Found}
use Rattle.lookup.specs.Laws.{earlier_at}
use Rattle.soundness_rules.specs.Sound.{stored, each_stored}
use Rattle.soundness_rules.proofs.Alike.{each_stored_bare, stored_claims_next}
use Rattle.claim_judging.specs.Over.{hands_at}
use Rattle.register_reading.specs.Lefts.{hops_by, links_of}
use Rattle.register_reading.specs.declared.Links.{Links}

-- the places of the parents, by the ids and the parents of the claims
pub places_told : (cs : List Claim) (n : ℕ) {l : Links} {e : Found} → l ≡ links_of cs → e ≡ earlier_found l.ids l.parents n
    → e.places ≡ earlier_places (map claim_id cs) (map parent_of cs) n
unfolding earlier_found
places_told cs n linked found = ap (λ f. f.places) found ∙ ap (λ m. earlier_places m.ids m.parents n) linked

-- the hops of a claim before place i, by those that are kept
module _ (ids parents hops : List ℕ) (i p : ℕ) (few : i ≤ claim_limit)
    (kept : (j : ℕ) → j < i → get_or hops j 0 ≡ length (chain_places ids parents j (get_or parents j 0))) where
  abbrev looked : Option ℕ → ℕ
  looked w = cond (leb claim_limit (place_number claim_limit w)) 0 (get_or hops (place_number claim_limit w) 0 + 1)

  hops_chain : hops_by hops p (place_number claim_limit (latest_place ids i p)) ≡ length (chain_places ids parents i p)
  hops_chain =
      cases (eqb p 0)
      (λ e. ap (λ b. cond b 0 (looked (latest_place ids i p))) e
      ∙ sym (ap (λ x. length (chain_places ids parents i x)) (eqb-true p 0 e) ∙ ap length (chain_places_zero ids parents i)))
      (λ e. ap (λ b. cond b 0 (looked (latest_place ids i p))) e
      ∙ place_cases (latest_place ids i p)
      (λ k q. let found = place_found_lem ids p i k q in
      ap looked q
      ∙ ap (λ b. cond b 0 (get_or hops k 0 + 1)) (lt-leb claim_limit k (omega (arith, found.0, few)))
      ∙ add-one (get_or hops k 0)
      ∙ ap suc (kept k found.0)
      ∙ sym (ap length (chain_places_at ids parents i p k (eqb-false p 0 e) q)))
      (λ q. ap looked q ∙ sym (ap length (chain_places_nowhere ids parents i p q))))

  -- no more than there are places before it
  hops_low : ((j : ℕ) → j < i → get_or hops j 0 ≤ j) → length (chain_places ids parents i p) ≤ i
  hops_low low =
      cases (eqb p 0)
      (λ e. omega (arith, ap (λ x. length (chain_places ids parents i x)) (eqb-true p 0 e), ap length (chain_places_zero ids parents i)))
      (λ e. place_cases (latest_place ids i p)
      (λ k q. let found = place_found_lem ids p i k q in
      omega (arith, ap length (chain_places_at ids parents i p k (eqb-false p 0 e) q), kept k found.0, low k found.0, found.0))
      (λ q. omega (arith, ap length (chain_places_nowhere ids parents i p q))))

-- the claims before place i are stored, those from there on are as they came, and the hops of those stored are kept
pub record Storing (version : ℕ) (cs : List Claim) (n : ℕ) (list : List Claim) (hops : List ℕ) (i : ℕ) : Type 0 where
  pub within : i ≤ n
  pub room : length hops ≡ claim_limit
  pub kept : (j : ℕ) → j < i → get_or hops j 0 ≡ length (chain_places (map claim_id cs) (map parent_of cs) j (get_or (map parent_of cs) j 0))
  pub low : (j : ℕ) → j < i → get_or hops j 0 ≤ j
  pub put : list ≡ latest (each_stored version (latest (take i cs))) ++ drop i cs

none_stored : (version : ℕ) → latest (each_stored version (latest [])) ≡ []
unfolding each_stored
none_stored version = refl

pub storing_start : (version : ℕ) (cs : List Claim) (n : ℕ) (hops : List ℕ) → length hops ≡ claim_limit → Storing version cs n cs hops 0
storing_start version cs n hops room = record {
  within = omega arith;
  room = room;
  kept = λ j h. absurd (omega arith);
  low = λ j h. absurd (omega arith);
  put = sym (ap (λ l. l ++ cs) (none_stored version));
}

pub stored_length : (version : ℕ) (cs : List Claim) → length (latest (each_stored version (latest cs))) ≡ length cs
stored_length version cs =
    length-reverse (each_stored version (latest cs))
    ∙ sym (length-map (each_stored version (latest cs)) bare)
    ∙ ap length (each_stored_bare version (latest cs))
    ∙ length-map (latest cs) bare
    ∙ length-reverse cs

module _ {version : ℕ} {cs : List Claim} {n : ℕ} {list : List Claim} {hops : List ℕ} {i : ℕ} (p : Storing version cs n list hops i) (short : n ≤ claim_limit)
    (long : length cs ≡ claim_limit) (inside : i < n) {ups : List ℕ} (of-ups : ups ≡ earlier_places (map claim_id cs) (map parent_of cs) n) where
  abbrev ids : List ℕ
  ids = map claim_id cs

  abbrev parents : List ℕ
  parents = map parent_of cs

  abbrev before : List Claim
  before = latest (each_stored version (latest (take i cs)))

  many : length before ≡ i
  many = omega (arith, stored_length version (take i cs), length-take i cs, long, inside, short)

  up_told : get_or ups i 0 ≡ place_number claim_limit (latest_place ids i (get_or parents i 0))
  up_told = ap (λ l. get_or l i 0) of-ups ∙ earlier_at ids parents n i 0 (omega (arith, inside, short, length-map cs parent_of, long))

  standing : list ≡ before ++ (get_or cs i no_claim ∷ drop (suc i) cs)
  standing = p.put ∙ ap (λ l. before ++ l) (drop-cons cs i no_claim (omega (arith, long, inside, short)))

  -- the claim at place i is as it came
  pub here : get_or list i no_claim ≡ get_or cs i no_claim
  here =
      ap (λ l. get_or l i no_claim) standing
      ∙ ap (λ m. get_or (before ++ (get_or cs i no_claim ∷ drop (suc i) cs)) m no_claim) (sym many)
      ∙ get_or-append_seam before (get_or cs i no_claim) (drop (suc i) cs) no_claim

  module _ {c : Claim} (read : c ≡ get_or list i no_claim) {steps : ℕ} (counted : steps ≡ hops_by hops c.parent (get_or ups i 0)) where
    came : c ≡ get_or cs i no_claim
    came = read ∙ here

    pub steps_told_lem : steps ≡ length (chain_places ids parents i (get_or parents i 0))
    steps_told_lem =
        counted
        ∙ ap (λ d. hops_by hops d.parent (get_or ups i 0)) came
        ∙ ap (λ d. hops_by hops d (get_or ups i 0)) (sym (get_or-map parent_of cs i no_claim))
        ∙ ap (hops_by hops (get_or parents i 0)) up_told
        ∙ hops_chain ids parents hops i (get_or parents i 0) (omega (arith, inside, short)) p.kept

    pub steps_low : steps ≤ i
    steps_low = omega (arith, steps_told_lem, hops_low ids parents hops i (get_or parents i 0) (omega (arith, inside, short)) p.kept p.low)

    stored_here : with_left (hands_at version steps c) c ≡ stored version (latest (take i cs)) (get_or cs i no_claim)
    stored_here =
        ap (λ d. with_left (hands_at version steps d) d) came
        ∙ ap (λ m. with_left (hands_at version m (get_or cs i no_claim)) (get_or cs i no_claim)) (steps_told_lem ∙ column-laws.hops_natural cs i)

    pub storing_next : {d : Claim} → d ≡ with_left (hands_at version steps c) c → Storing version cs n (set list i d) (set hops i steps) (i + 1)
    storing_next {d} made = record {
      within = omega (arith, inside);
      room = length-set hops i steps ∙ p.room;
      kept = λ j h. cases (eqb j i)
          (λ t. let same : j ≡ i = eqb-true j i t in rw same (get_or-set_same hops i steps 0 (omega (arith, p.room, inside, short)) ∙ steps_told_lem))
          (λ t. let other : (j ≡ i → ⊥) = eqb-false j i t in get_or-set_other hops i j steps 0 other ∙ p.kept j (omega arith));
      low = λ j h. cases (eqb j i)
          (λ t. let same : j ≡ i = eqb-true j i t in rw (same, get_or-set_same hops i steps 0 (omega (arith, p.room, inside, short))) steps_low)
          (λ t. let other : (j ≡ i → ⊥) = eqb-false j i t in rw (get_or-set_other hops i j steps 0 other) (p.low j (omega arith)));
      put =
          ap (λ l. set l i d) standing
          ∙ set_at before (get_or cs i no_claim) (drop (suc i) cs) d i many
          ∙ sym (append_assoc before (d ∷ []) (drop (suc i) cs))
          ∙ ap (λ x. (before ++ (x ∷ [])) ++ drop (suc i) cs) (made ∙ stored_here)
          ∙ ap (λ l. l ++ drop (suc i) cs)
          (sym (ap (λ l. latest (each_stored version (latest l))) (take-suc cs i no_claim (omega (arith, long, inside, short)))
          ∙ stored_claims_next version (take i cs) (get_or cs i no_claim)))
          ∙ ap (λ m. latest (each_stored version (latest (take m cs))) ++ drop m cs) (sym (add-one i));
    }
