-- Laws: The reason of an actor for a use: it has the use covered exactly where the gate does; its chain; what is wanting; and an absent resource is answered as
-- one that is not held. Assumes nothing.
use Rattle.std.specs.Prelude.{◌≡◌, refl, Bool, true, not, ◌&&◌, cond, List, [], ◌∷◌, ℕ, suc, ◌≤◌, eqb}
use Rattle.std.proofs.Math.Path.{ap, fun_ext}
use Rattle.std.proofs.Common.{sym, ◌∙◌, arith, eq-eqb}
use Rattle.std.proofs.Math.Bool.{false, and-false}
use Rattle.std.proofs.lemmas.Bool.{not-true, not-false}
use Rattle.lists.specs.Tests.{cases, clash, and_left, and_right, and_both}
use Rattle.lists.specs.Lists.{any, every}
use Rattle.lists.specs.Each.{all_imp, none_all, all_none, none_weaken, each_all}
use Rattle.rights.specs.Rights.{has_right, reading}
use Rattle.paths.specs.Containment.{contained}
use Rattle.register.specs.Limits.{machine_kind, hop_limit}
use Rattle.register.specs.Register.{actors_of, resources_of, claims_of, path_of}
use Rattle.register.specs.Chain.{chain_of, hops_of, current, live}
use Rattle.register.specs.declared.Resource.{Resource}
use Rattle.register.specs.declared.Claim.{Claim}
use Rattle.register.specs.declared.Register.{Register}
use Rattle.soundness_rules.specs.Sound.{sound}
use Rattle.change_rules.specs.Changes.{standing}
use Rattle.actions.specs.declared.Usage.{Usage}
use Rattle.actions.specs.declared.Violation.TheVariants.{NotCovered, OwnerNotCovering}
use Rattle.gate_rules.specs.Gate.{public_read, contains, covering, covers, owner_lacks, use_violation, nearest_of, relied, hops_for, hops_in}
use Rattle.gate_rules.specs.Authority.{IsIn, Nearest}
use Rattle.gate_rules.specs.Places.{first_found, all_place, place_any}
use Rattle.gate_rules.specs.Nearest.{nearest_found, nearest_none}
use Rattle.gate_rules.proofs.Coverage.{covering_out, covering_in}
use Rattle.gate_rules.proofs.Trace.{place_hops_most, place_keeper}
use Rattle.reasons.specs.Reasons.{held_over, held_with, used_reach, Reason, relying, publicly, not_live, lacking, unheld, reason_of, is_covering, first_id, telling, owner_uncovered, telling_of, ReliesOn, EndedAt, LacksRight, HoldsNone}

-- what each reason says
abbrev ReasonSays : Register → ℕ → ℕ → Usage → Reason → Type 0
ReasonSays r moment x u (relying c) = ReliesOn r moment x u c
ReasonSays r moment x u publicly = (public_read r u ≡ true) × (relied r moment x u ≡ [])
ReasonSays r moment x u (not_live c) = EndedAt r moment x u c
ReasonSays r moment x u (lacking c) = LacksRight r x u c
ReasonSays r moment x u unheld = HoldsNone r x u

-- a nearest one is found, or none passes
near_cases : {B : Type 0} (p : Claim → Bool) (f : Claim → ℕ) (L : List Claim) → ((c : Claim) → Nearest p f L c → B) → (any p L ≡ false → nearest_of p f L ≡ [] → B) → B
near_cases p f L found none =
    cases (any p L) (λ e. let at = nearest_found p f L e in found at.0 at.1) (λ e. none e (nearest_none p f L e))

module _ (r : Register) (moment x : ℕ) (u : Usage) where
  abbrev cs : List Claim
  cs = claims_of r.claims

  -- every reason with what it comes from
  reason_elim : (Q : Reason → Type 0) → ((c : Claim) → Nearest (covering r moment x u) (used_reach r u) cs c → Q (relying c))
      → (any (covering r moment x u) cs ≡ false → public_read r u ≡ true → Q publicly)
      → ((c : Claim) → any (covering r moment x u) cs ≡ false → public_read r u ≡ false → Nearest (held_with r x u) (used_reach r u) cs c → Q (not_live c))
      → ((c : Claim) → any (covering r moment x u) cs ≡ false → public_read r u ≡ false → any (held_with r x u) cs ≡ false
      → Nearest (held_over r x u) (used_reach r u) cs c → Q (lacking c))
      → (any (covering r moment x u) cs ≡ false → public_read r u ≡ false → any (held_over r x u) cs ≡ false → Q unheld) → Q (reason_of r moment x u)
  unfolding reason_of
  reason_elim Q one two three four five =
      near_cases (covering r moment x u) (used_reach r u) cs (λ c at. rw at.alone (one c at))
      (λ none nil. rw nil (cases (public_read r u) (λ e. rw e (two none e))
      (λ e. rw e (near_cases (held_with r x u) (used_reach r u) cs (λ c at. rw at.alone (three c none e at))
      (λ without nil. rw nil (near_cases (held_over r x u) (used_reach r u) cs (λ c at. rw at.alone (four c none e without at))
      (λ nothing nil. rw nil (five none e nothing))))))))

  covers_public : public_read r u ≡ true → true ≡ covers r moment x u
  unfolding covers
  covers_public e = rw e

  covers_claim : any (covering r moment x u) cs ≡ true → true ≡ covers r moment x u
  unfolding covers
  covers_claim e = rw e (cases (public_read r u) (λ k. rw k) (λ k. rw k))

  covers_not : any (covering r moment x u) cs ≡ false → public_read r u ≡ false → false ≡ covers r moment x u
  unfolding covers
  covers_not e k = rw (k, e)

  -- a reason of kind 1 or 2 is given exactly where the use is covered
  pub reason_covers : is_covering (reason_of r moment x u) ≡ covers r moment x u
  reason_covers =
      reason_elim (λ w. is_covering w ≡ covers r moment x u)
      (λ c at. covers_claim (place_any (covering r moment x u) cs c at.place at.passes))
      (λ none e. covers_public e) (λ c none e at. covers_not none e) (λ c none e without at. covers_not none e) (λ none e nothing. covers_not none e)

  -- what covers is held with the right; and what is held with the right covers where it is live
  with_covering : (c : Claim) → held_with r x u c ≡ true → live moment (standing r) c ≡ true → covering r moment x u c ≡ true
  with_covering c h lives =
      let over : held_over r x u c ≡ true = and_left (held_over r x u c) (has_right c.rights u.right) h in
      covering_in r moment x u c record {
        held = and_left (eqb c.holder x) (contains r c.resource u.resource) over;
        lives = lives;
        has = and_right (held_over r x u c) (has_right c.rights u.right) h;
        containing = and_right (eqb c.holder x) (contains r c.resource u.resource) over;
      }

  dead_with : (c : Claim) → covering r moment x u c ≡ false → held_with r x u c ≡ true → live moment (standing r) c ≡ false
  dead_with c out h = cases (live moment (standing r) c) (λ e. clash (covering r moment x u c) (with_covering c h e) out) (λ e. e)

  lacks_over : (c : Claim) → held_with r x u c ≡ false → held_over r x u c ≡ true → has_right c.rights u.right ≡ false
  lacks_over c out h =
      cases (has_right c.rights u.right) (λ e. clash (held_with r x u c) (and_both (held_over r x u c) (has_right c.rights u.right) h e) out) (λ e. e)

  unheld_over : (c : Claim) → held_over r x u c ≡ false → c.holder ≡ x → contains r c.resource u.resource ≡ false
  unheld_over c out h =
      cases (contains r c.resource u.resource)
      (λ e. clash (held_over r x u c) (and_both (eqb c.holder x) (contains r c.resource u.resource) (eq-eqb c.holder x h) e) out) (λ e. e)

  hops_relied : (c : Claim) → relied r moment x u ≡ c ∷ [] → hops_for r moment x u ≡ hops_of (standing r) c
  unfolding hops_for
  hops_relied c e = ap (hops_in r) e

  -- some fails where not every one passes
  some_fails : (p : Claim → Bool) (L : List Claim) → every p L ≡ false → any (λ d. not (p d)) L ≡ true
  some_fails p [] h = clash true refl h
  some_fails p (d ∷ L) h = cases (p d) (λ e. rw e (some_fails p L (rw e at h))) (λ e. rw e)

  says : ReasonSays r moment x u (reason_of r moment x u)
  says =
      reason_elim (λ w. ReasonSays r moment x u w)
      (λ c at. record {
        claim = at.alone;
        nearest = at;
        count = ap suc (sym (hops_relied c at.alone));
        most = λ h. omega (arith, place_hops_most r h c at.place);
        keeper = λ h. place_keeper r h c at.place;
      })
      (λ none e. (e, nearest_none (covering r moment x u) (used_reach r u) cs none))
      (λ c none e at.
      let out = all_place (λ d. covering r moment x u d ≡ false) cs (none_all (covering r moment x u) cs none) c at.place in
      let dead = dead_with c out at.passes in
      let first = first_found (λ d. not (current moment d)) (chain_of (standing r) c) (some_fails (current moment) (chain_of (standing r) c) dead) in
      record {
        private = e;
        nearest = at;
        dead = dead;
        first = first.0;
        place = first.1.place;
        not_current = not-true (current moment first.0) first.1.passes;
        before = all_imp (λ d. not (current moment d) ≡ false) (λ d. current moment d ≡ true) (λ d k. not-false (current moment d) k) first.1.place.before
            (none_all (λ d. not (current moment d)) first.1.place.before first.1.none_before);
        told = ap first_id first.1.alone;
        others = all_imp (λ d. covering r moment x u d ≡ false) (λ d. held_with r x u d ≡ true → live moment (standing r) d ≡ false) dead_with cs
            (none_all (covering r moment x u) cs none);
      })
      (λ c none e without at. record {
        private = e;
        nearest = at;
        lacks = lacks_over c (all_place (λ d. held_with r x u d ≡ false) cs (none_all (held_with r x u) cs without) c at.place) at.passes;
        others = all_imp (λ d. held_with r x u d ≡ false) (λ d. held_over r x u d ≡ true → has_right d.rights u.right ≡ false) lacks_over cs
            (none_all (held_with r x u) cs without);
      })
      (λ none e nothing. record {
        private = e;
        others = all_imp (λ d. held_over r x u d ≡ false) (λ d. d.holder ≡ x → contains r d.resource u.resource ≡ false) unheld_over cs
            (none_all (held_over r x u) cs nothing);
      })

  -- the claim relied on, with its chain
  pub reason_chain : (c : Claim) → reason_of r moment x u ≡ relying c → ReliesOn r moment x u c
  reason_chain c e = rw e at says

  -- a public READ that no claim covers
  pub reason_public : reason_of r moment x u ≡ publicly → (public_read r u ≡ true) × (relied r moment x u ≡ [])
  reason_public e = rw e at says

  -- what is wanting
  pub reason_ended : (c : Claim) → reason_of r moment x u ≡ not_live c → EndedAt r moment x u c
  reason_ended c e = rw e at says

  pub reason_lacking : (c : Claim) → reason_of r moment x u ≡ lacking c → LacksRight r x u c
  reason_lacking c e = rw e at says

  pub reason_none : reason_of r moment x u ≡ unheld → HoldsNone r x u
  reason_none e = rw e at says

  -- no claim held contains it, and it is no public READ
  pub reason_unheld : public_read r u ≡ false → any (held_over r x u) cs ≡ false → reason_of r moment x u ≡ unheld
  unfolding reason_of
  reason_unheld e nothing =
      let without : any (held_with r x u) cs ≡ false =
      none_weaken (held_with r x u) (held_over r x u) (λ c. and_left (held_over r x u c) (has_right c.rights u.right)) cs nothing in
      let none : any (covering r moment x u) cs ≡ false =
      none_weaken (covering r moment x u) (held_over r x u) (λ c k. let told = covering_out r moment x u c k in
      and_both (eqb c.holder x) (contains r c.resource u.resource) told.held told.containing) cs nothing in
      rw (
        nearest_none (covering r moment x u) (used_reach r u) cs none,
        e,
        nearest_none (held_with r x u) (used_reach r u) cs without,
        nearest_none (held_over r x u) (used_reach r u) cs nothing,
      )

-- whatever claim is told: in a sound register its chain fits 17 places, and the keeper told is that of its resource
module _ (r : Register) (h : sound r ≡ true) (c : Claim) (at : IsIn (claims_of r.claims) c) (kind ended : ℕ) where
  pub told_count : (telling_of r kind c ended).count ≤ suc hop_limit
  told_count = omega (arith, place_hops_most r h c at)

  pub told_keeper : (o : Resource) → IsIn (resources_of r.resources) o → o.id ≡ c.resource → (telling_of r kind c ended).keeper ≡ o.keeper
  told_keeper = place_keeper r h c at

-- ---- what does not stand

abbrev Absent : Register → Usage → Type 0
Absent r u = any (λ o. eqb u.resource o.id) (resources_of r.resources) ≡ false

absent_uncontained : (r : Register) (y x : ℕ) → any (λ o. eqb y o.id) (resources_of r.resources) ≡ false → contains r x y ≡ false
unfolding contains
absent_uncontained r y x h =
    all_none (λ o. eqb x o.id && any (λ i. eqb y i.id && contained (path_of o) (path_of i)) (resources_of r.resources))
    (resources_of r.resources) (each_all (λ M o. eqb x o.id && any (λ i. eqb y i.id && contained (path_of o) (path_of i)) (resources_of r.resources) ≡ false)
    (λ M o. rw (none_weaken (λ i. eqb y i.id && contained (path_of o) (path_of i)) (λ i. eqb y i.id)
    (λ i. and_left (eqb y i.id) (contained (path_of o) (path_of i))) (resources_of r.resources) h)
    (and-false (eqb x o.id))) (resources_of r.resources))

absent_private : (r : Register) (u : Usage) → Absent r u → public_read r u ≡ false
unfolding public_read
absent_private r u h =
    rw (none_weaken (λ o. eqb u.resource o.id && eqb o.public 1) (λ o. eqb u.resource o.id)
    (λ o. and_left (eqb u.resource o.id) (eqb o.public 1)) (resources_of r.resources) h)
    (and-false (eqb u.right reading))

pub absent_unheld : (r : Register) (moment x : ℕ) (u : Usage) → Absent r u → reason_of r moment x u ≡ unheld
absent_unheld r moment x u h =
    reason_unheld r moment x u (absent_private r u h)
    (all_none (held_over r x u) (claims_of r.claims) (each_all (λ M c. held_over r x u c ≡ false)
    (λ M c. rw (absent_uncontained r u.resource c.resource h) (and-false (eqb c.holder x))) (claims_of r.claims)))

-- a resource that does not stand is answered as one that no claim held contains, public READs apart
pub reason_absent : (r : Register) (moment x : ℕ) (u v : Usage) → Absent r u → public_read r v ≡ false → any (held_over r x v) (claims_of r.claims) ≡ false
    → telling r moment (reason_of r moment x u) ≡ telling r moment (reason_of r moment x v)
reason_absent r moment x u v absent private nothing =
    ap (telling r moment) (absent_unheld r moment x u absent ∙ sym (reason_unheld r moment x v private nothing))

-- so the violation of a use is told by the reason of the actor and that of a machine's owner
pub violation_told : (r : Register) (moment x n : ℕ) (u : Usage) → use_violation r moment x n u
    ≡ cond (is_covering (reason_of r moment x u)) (cond (owner_uncovered r moment x u) (OwnerNotCovering n ∷ []) []) (NotCovered n ∷ [])
unfolding use_violation owner_lacks
violation_told r moment x n u =
    let told : ℕ → Bool = λ y. is_covering (reason_of r moment y u) in
    let asked : ℕ → Bool = λ y. covers r moment y u in
    let same : asked ≡ told = fun_ext (λ y. sym (reason_covers r moment y u)) in
    ap (λ (f : ℕ → Bool). cond (f x) (cond (any (λ a. eqb x a.id && (eqb machine_kind a.kind && (not (eqb a.owner 0) && not (f a.owner)))) (actors_of r.actors))
    (OwnerNotCovering n ∷ []) []) (NotCovered n ∷ [])) same
