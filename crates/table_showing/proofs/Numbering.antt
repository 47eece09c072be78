-- The numbers of the table: 1 is a claim that lives, 257 a use that is not covered, and a number below 256 the place of the claim relied on. Assumes nothing.
use Rattle.std.proofs.Common.{Err, Ok, ◌≡◌, refl, ap, sym, ◌∙◌, Bool, true, false, not, ◌&&◌, cond, List, [], ◌∷◌, ℕ, suc, ◌<◌, ◌+◌, arith, ne_eqb, eqb-true, lt-ltb, eqb, ltb, length, length-append, length-take}
use borrow.Author.Tests.{eqb-false}
use Rattle.lists.specs.Tests.{cases}
use Rattle.lists.specs.Lists.{any}
use Rattle.lists.specs.Each.{cons_clash}
use Rattle.register.specs.Limits.{claim_limit}
use Rattle.register.specs.Register.{claims_of}
use Rattle.register.specs.Chain.{expired}
use Rattle.register.specs.declared.Claim.{Claim}
use Rattle.register.specs.declared.Register.{Register}
use Rattle.soundness_rules.specs.Sound.{sound}
use Rattle.soundness_rules.proofs.Registers.{sound_out}
use Rattle.actions.specs.declared.Usage.{Usage}
use Rattle.gate_rules.specs.Gate.{covering, covers, reach_of, relied}
use Rattle.gate_rules.specs.Nearest.{nearest_found, nearest_none}
use Rattle.gate_rules.specs.Authority.{IsIn}
use Rattle.coverage_table.specs.Table.{Remark, Entry, nothing, openly, claimed, remark_of, lives_over, remark_on, cover_table, looked_up, is_nothing, entry_claim}
use Rattle.coverage_table.proofs.Uses.{lookup_answers}
use Rattle.refusals.specs.Refusals.{outcome_of}
use Rattle.refusals.specs.declared.Refusal.{Refusal}
use Rattle.table_showing.specs.Shown.{remark_number, place_named, nothing_number, entry_number, table_tests, table_none, table_held, table_on, table_shown}
use Rattle.table_showing.proofs.Showing.{place_standing_lem}

-- a remark of the walk has the number 1 exactly where the claim lives
lives_numbered : (weightless gone source : Bool)
    → eqb (cond weightless 2 (cond gone 3 (cond ((not weightless && not gone) && source) 1 4))) 1 ≡ (not weightless && not gone) && source
lives_numbered true gone source = refl
lives_numbered false true source = refl
lives_numbered false false true = refl
lives_numbered false false false = refl

weighs_not : (n : ℕ) → ltb 0 n ≡ not (eqb n 0)
weighs_not n =
    cases (eqb n 0)
    (λ e. rw (eqb-true n 0 e))
    (λ e. let other : (n ≡ 0 → ⊥) = eqb-false n 0 e in rw (e, lt-ltb 0 n (omega (arith, other))))

pub remark_number_lem : (moment : ℕ) (remarks : List Remark) (c : Claim) → eqb (remark_number moment (remark_on moment remarks c)) 1 ≡ (remark_on moment remarks c).lives
remark_number_lem moment remarks c =
    rw (weighs_not c.weight) (lives_numbered (eqb c.weight 0) (expired moment c) (lives_over (remark_of remarks c.parent)))

module _ (r : Register) (h : sound r ≡ true) (c : Claim) (at : IsIn (claims_of r.claims) c) where
  place_below : length at.before < claim_limit
  place_below =
      let few = (sound_out r h).limits.claim_count in
      let taken = length-take r.claims.count r.claims.list in
      let split : length (claims_of r.claims) ≡ length at.before + suc (length at.after) =
      ap length at.split ∙ length-append at.before (c ∷ at.after) in
      omega (arith, few, taken, split)

module _ (r : Register) (h : sound r ≡ true) (moment x : ℕ) (u : Usage) where
  abbrev far : Claim → ℕ
  far c = reach_of r c.resource u.resource

  one_claim : (a b : Claim) → a ∷ [] ≡ b ∷ [] → a ≡ b
  one_claim a b e = cc

  -- the claim relied on stands
  relied_stands : (c : Claim) → relied r moment x u ≡ c ∷ [] → IsIn (claims_of r.claims) c
  relied_stands c alone =
      cases (any (covering r moment x u) (claims_of r.claims))
      (λ some. let found = nearest_found (covering r moment x u) far (claims_of r.claims) some in
      let one : found.0 ≡ c = one_claim found.0 c (sym found.1.alone ∙ alone) in
      rw one at found.1.place)
      (λ none. cons_clash (sym alone ∙ nearest_none (covering r moment x u) far (claims_of r.claims) none))

  -- an entry with the claim relied on has the number 257 exactly where it is nothing
  nothing_numbered : (e : Entry) → entry_claim e ≡ relied r moment x u → eqb (entry_number r e) nothing_number ≡ is_nothing e
  nothing_numbered nothing k = refl
  nothing_numbered openly k = refl
  nothing_numbered (claimed c hops len) k =
      let at = relied_stands c (sym k) in
      let place = place_standing_lem r h c at in
      let below = place_below r h c at in
      ne_eqb (place_named c.id (claims_of r.claims)) nothing_number (λ same. omega (arith, place, below, same))

  claim_numbered : (e : Entry) (c : Claim) → entry_claim e ≡ c ∷ [] → entry_number r e ≡ place_named c.id (claims_of r.claims)
  claim_numbered nothing c k = cons_clash (sym k)
  claim_numbered openly c k = cons_clash (sym k)
  claim_numbered (claimed d hops len) c k = let one : d ≡ c = one_claim d c k in rw one

  pub cell_number_nothing : eqb (entry_number r (looked_up (cover_table r moment x) u)) nothing_number ≡ not (covers r moment x u)
  cell_number_nothing =
      let told = lookup_answers r h moment x u in
      nothing_numbered (looked_up (cover_table r moment x) u) told.claim ∙ told.lacks

  -- and where a claim is relied on the number is its place, below 256
  pub cell_number_claim : (c : Claim) → relied r moment x u ≡ c ∷ []
      → (at : IsIn (claims_of r.claims) c) × (entry_number r (looked_up (cover_table r moment x) u) ≡ length at.before) × (length at.before < claim_limit)
  cell_number_claim c alone =
      let at = relied_stands c alone in (
        at,
        claim_numbered (looked_up (cover_table r moment x) u) c ((lookup_answers r h moment x u).claim ∙ alone) ∙ place_standing_lem r h c at,
        place_below r h c at,
      )

-- what is shown by the outcome of the tests
pub table_refused : (r : Register) (x moment : ℕ) (why : Refusal) → outcome_of (table_tests r x moment) ≡ Err why
    → table_shown r x moment ≡ table_none (Err why)
unfolding table_shown
table_refused r x moment why refused = ap (λ o. table_on o r x moment) refused

pub table_accepted : (r : Register) (x moment : ℕ) → outcome_of (table_tests r x moment) ≡ Ok tt → table_shown r x moment ≡ table_held r x moment
unfolding table_shown
table_accepted r x moment accepted = ap (λ o. table_on o r x moment) accepted
