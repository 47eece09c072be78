-- Laws: What the answer of the gate says part by part: what stops it, what it is otherwise, and what an empty list of violations says. Assumes
-- nothing.
use Rattle.std.specs.Prelude.{◌≡◌, refl, Bool, true, false, ◌&&◌, cond, List, [], ◌∷◌, ◌++◌, ℕ, suc, ◌≤◌, ◌<◌, ◌^◌, leb, ltb, Err, Ok}
use Rattle.std.proofs.Common.{ap, sym, ◌∙◌, arith, leb-true, ltb-true}
use Rattle.lists.specs.Tests.{cases}
use Rattle.lists.specs.Lists.{every, All}
use Rattle.lists.specs.Each.{ands_out, list_cases, cons_clash}
use Rattle.rights.specs.Rights.{is_right}
use Rattle.register.specs.Limits.{id_limit, moment_end}
use Rattle.register.specs.Register.{actors_of}
use Rattle.register.specs.declared.Register.{Register}
use Rattle.soundness_rules.specs.Sound.{is_machine}
use Rattle.refusals.specs.Refusals.{outcome_of}
use Rattle.refusals.proofs.Laws.{outcome_cases, accepted_out, accepted_in}
use Rattle.refusals.specs.declared.Refusal.{Refusal}
use Rattle.actions.specs.Actions.{use_limit, govern_limit, flag_count, uses_of, governs_of, action_fits}
use Rattle.actions.specs.declared.Usage.{Usage}
use Rattle.actions.specs.declared.Action.{Action}
use Rattle.actions.specs.declared.Violation.{Violation}
use Rattle.actions.specs.declared.Violation.TheVariants.{NoOwner, MachineGoverns, NotCovered, OwnerNotCovering}
use Rattle.actions.specs.declared.Decision.TheVariants.{Permitted, Refused, Stopped}
use Rattle.gate_rules.specs.Gate.{covers, is_ownerless, owner_lacks, flags_set, governed, use_violation, use_violations, violations_of, hop_counts, action_tests, gate_tests, listed, padded, decided, verdict_on, gated}
use Rattle.gate_rules.specs.Authority.{Passed}
use Rattle.gate_rules.specs.Fitting.{Fit}

-- a stopped gate call gives no violations and no hop counts
pub gated_stopped : (r : Register) (a : Action) (why : Refusal) → outcome_of (gate_tests r a) ≡ Err why
    → gated r a ≡ record { decision = Stopped why; violations = listed []; hops = padded [] }
unfolding gated
gated_stopped r a why e = ap (λ o. verdict_on o r a) e

-- one that is not stopped answers with the violations and the hop counts
pub gated_judged : (r : Register) (a : Action) → outcome_of (gate_tests r a) ≡ Ok tt
    → gated r a ≡ record { decision = decided (violations_of r a); violations = listed (violations_of r a); hops = padded (hop_counts r a) }
unfolding gated
gated_judged r a e = ap (λ o. verdict_on o r a) e

-- an action's fields and counts are in their ranges
pub record Ranges (a : Action) : Type 0 where
  pub actor_greatest : a.actor ≤ id_limit
  pub moment_below : a.now < moment_end
  pub flags_few : a.flags < 2 ^ flag_count
  pub uses_most : a.used ≤ use_limit
  pub governed_most : a.governed ≤ govern_limit

pub action_fits_out : (a : Action) → action_fits a ≡ true → Ranges a
unfolding action_fits
action_fits_out a h =
    let told = ands_out (leb a.actor id_limit ∷ ltb a.now moment_end ∷ ltb a.flags (2 ^ flag_count) ∷ leb a.used use_limit
    ∷ every (λ u. leb u.resource id_limit && is_right u.right) (uses_of a) ∷ leb a.governed govern_limit ∷ every (λ g. leb g id_limit) (governs_of a) ∷ []) h in
    record {
      actor_greatest = leb-true a.actor id_limit told.0;
      moment_below = ltb-true a.now moment_end told.1.0;
      flags_few = ltb-true a.flags (2 ^ flag_count) told.1.1.0;
      uses_most = leb-true a.used use_limit told.1.1.1.0;
      governed_most = leb-true a.governed govern_limit told.1.1.1.1.1.0;
    }

pub action_tests_out : (r : Register) (a : Action) → outcome_of (action_tests r a) ≡ Ok tt → Fit r a
unfolding action_tests
action_tests_out r a h = let told = accepted_out (action_tests r a) h in record { fits = told.0; known = told.1.0 }

pub gate_tests_out : (r : Register) (a : Action) → outcome_of (gate_tests r a) ≡ Ok tt → Passed r a
unfolding gate_tests action_tests
gate_tests_out r a h = let told = accepted_out (gate_tests r a) h in record { soundly = told.0; fits = told.1.0; known = told.1.1.0 }

pub gate_tests_in : (r : Register) (a : Action) → Passed r a → outcome_of (gate_tests r a) ≡ Ok tt
unfolding gate_tests action_tests
gate_tests_in r a h = accepted_in (gate_tests r a) (h.soundly, (h.fits, (h.known, tt)))

-- two lists that make an empty one are empty
pub append_none_left : {A : Type 0} (L M : List A) → L ++ M ≡ [] → L ≡ []
append_none_left [] M h = refl
append_none_left (c ∷ L) M h = cons_clash h

pub append_none_right : {A : Type 0} (L M : List A) → L ++ M ≡ [] → M ≡ []
append_none_right [] M h = h
append_none_right (c ∷ L) M h = cons_clash h

-- a choice between something and nothing that is nothing
pub choice_none : {A : Type 0} (b : Bool) (c : A) (L : List A) → cond b (c ∷ L) [] ≡ [] → b ≡ false
choice_none true c L h = cons_clash h
choice_none false c L h = refl

-- what an empty list of violations says of an action
pub record Clean (r : Register) (a : Action) : Type 0 where
  pub flagless : flags_set a.flags ≡ []
  pub owned : is_ownerless r a.actor ≡ false
  pub ungoverning : is_machine (actors_of r.actors) a.actor ≡ true → governs_of a ≡ []
  pub covered : use_violations r a.now a.actor 0 (uses_of a) ≡ []

pub governed_nil : (n : ℕ) → governed n [] ≡ []
unfolding governed
governed_nil n = refl

pub governed_cons : (n g : ℕ) (entries : List ℕ) → governed n (g ∷ entries) ≡ MachineGoverns n ∷ governed (suc n) entries
unfolding governed
governed_cons n g entries = refl

governed_none : (n : ℕ) (entries : List ℕ) → governed n entries ≡ [] → entries ≡ []
unfolding governed
governed_none n [] h = refl
governed_none n (g ∷ entries) h = cons_clash h

pub violations_none_out : (r : Register) (a : Action) → violations_of r a ≡ [] → Clean r a
unfolding violations_of
violations_none_out r a h =
    let flags = flags_set a.flags in
    let owners : List Violation = cond (is_ownerless r a.actor) (NoOwner a.actor ∷ []) [] in
    let governing = cond (is_machine (actors_of r.actors) a.actor) (governed 0 (governs_of a)) [] in
    let uses = use_violations r a.now a.actor 0 (uses_of a) in
    let past = append_none_right flags (owners ++ (governing ++ uses)) h in
    let further = append_none_right owners (governing ++ uses) past in
    record {
      flagless = append_none_left flags (owners ++ (governing ++ uses)) h;
      owned = choice_none (is_ownerless r a.actor) (NoOwner a.actor) [] (append_none_left owners (governing ++ uses) past);
      ungoverning = λ e. governed_none 0 (governs_of a) (rw e at (append_none_left governing uses further));
      covered = append_none_right governing uses further;
    }

pub violations_none_in : (r : Register) (a : Action) → Clean r a → violations_of r a ≡ []
unfolding violations_of governed
violations_none_in r a h =
    rw (h.flagless, h.owned, h.covered) (cases (is_machine (actors_of r.actors) a.actor) (λ e. rw (e, h.ungoverning e)) (λ e. rw e))

-- what no violation says of a use by x
pub record UseClean (r : Register) (moment x : ℕ) (u : Usage) : Type 0 where
  pub covered : covers r moment x u ≡ true
  pub owner_covers : owner_lacks r moment x u ≡ false

use_choice : {A : Type 0} (covered lacks : Bool) (f s : A) → cond covered (cond lacks (s ∷ []) []) (f ∷ []) ≡ []
    → (covered ≡ true) × (lacks ≡ false)
use_choice true lacks f s h = (refl, choice_none lacks s [] h)
use_choice false lacks f s h = cons_clash h

pub use_violation_out : (r : Register) (moment x n : ℕ) (u : Usage) → use_violation r moment x n u ≡ [] → UseClean r moment x u
unfolding use_violation
use_violation_out r moment x n u h =
    let told = use_choice (covers r moment x u) (owner_lacks r moment x u) (NotCovered n) (OwnerNotCovering n) h in
    record { covered = told.0; owner_covers = told.1 }

pub use_violation_in : (r : Register) (moment x n : ℕ) (u : Usage) → UseClean r moment x u → use_violation r moment x n u ≡ []
unfolding use_violation
use_violation_in r moment x n u h = rw (h.covered, h.owner_covers)

pub use_violations_nil : (r : Register) (moment x n : ℕ) → use_violations r moment x n [] ≡ []
unfolding use_violations
use_violations_nil r moment x n = refl

pub use_violations_cons : (r : Register) (moment x n : ℕ) (u : Usage) (us : List Usage)
    → use_violations r moment x n (u ∷ us) ≡ use_violation r moment x n u ++ use_violations r moment x (suc n) us
unfolding use_violations
use_violations_cons r moment x n u us = refl

pub use_violations_out : (r : Register) (moment x n : ℕ) (us : List Usage) → use_violations r moment x n us ≡ [] → All (λ u. UseClean r moment x u) us
use_violations_out r moment x n [] h = tt
use_violations_out r moment x n (u ∷ us) h =
    let both = sym (use_violations_cons r moment x n u us) ∙ h in (
      use_violation_out r moment x n u (append_none_left (use_violation r moment x n u) (use_violations r moment x (suc n) us) both),
      use_violations_out r moment x (suc n) us (append_none_right (use_violation r moment x n u) (use_violations r moment x (suc n) us) both),
    )

pub use_violations_in : (r : Register) (moment x n : ℕ) (us : List Usage) → All (λ u. UseClean r moment x u) us → use_violations r moment x n us ≡ []
use_violations_in r moment x n [] h = use_violations_nil r moment x n
use_violations_in r moment x n (u ∷ us) h =
    rw (use_violations_cons r moment x n u us, use_violation_in r moment x n u h.0) (use_violations_in r moment x (suc n) us h.1)

-- permitted means that the tests are passed and that there are no violations
pub record Permits (r : Register) (a : Action) : Type 0 where
  pub passed : Passed r a
  pub clean : Clean r a

stopped_clash : {A : Type 0} {why : Refusal} → Stopped why ≡ Permitted → A
stopped_clash e = let never : ◌≡◌ {A = ℕ} 0 1 = cc in absurd (omega arith)

refused_clash : {A : Type 0} → Refused ≡ Permitted → A
refused_clash e = let never : ◌≡◌ {A = ℕ} 0 1 = cc in absurd (omega arith)

decided_permitted : (vs : List Violation) → decided vs ≡ Permitted → vs ≡ []
decided_permitted [] h = refl
decided_permitted (v ∷ vs) h = refused_clash h

pub permitted_out : (r : Register) (a : Action) → (gated r a).decision ≡ Permitted → Permits r a
permitted_out r a h =
    outcome_cases (outcome_of (gate_tests r a))
    (λ e. record {
      passed = gate_tests_out r a e;
      clean = violations_none_out r a (decided_permitted (violations_of r a) (sym (ap (λ v. v.decision) (gated_judged r a e)) ∙ h));
    })
    (λ why e. stopped_clash (sym (ap (λ v. v.decision) (gated_stopped r a why e)) ∙ h))

pub permitted_in : (r : Register) (a : Action) → Permits r a → (gated r a).decision ≡ Permitted
permitted_in r a h =
    ap (λ v. v.decision) (gated_judged r a (gate_tests_in r a h.passed)) ∙ ap decided (violations_none_in r a h.clean)

-- an action that is not stopped is refused where there are violations
pub refused_in : (r : Register) (a : Action) → Passed r a → (violations_of r a ≡ [] → ⊥) → (gated r a).decision ≡ Refused
refused_in r a passed some =
    ap (λ v. v.decision) (gated_judged r a (gate_tests_in r a passed))
    ∙ list_cases (violations_of r a) (λ e. absurd (some e)) (λ v vs e. ap decided e)
