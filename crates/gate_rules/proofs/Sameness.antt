-- Laws: Registers that are the same get the same answers of the gate and of the plan; so do registers that are alike, whatever their claims hold as
-- left. Assumes nothing.
use Rattle.refusals.specs.declared.Refusal.{Refusal}
use Rattle.std.proofs.Common.{◌≡◌, Bool, false, ◌&&◌, ◌||◌, leb, length, Result, Err, Ok, sym, ◌∙◌, List, [], ◌∷◌, map, ℕ, suc}
use Rattle.std.proofs.Math.Path.{refl, ap, fun_ext}
use Rattle.std.proofs.Math.Bool.{not}
use Rattle.std.proofs.Math.Dec.{eqb}
use Rattle.std.proofs.lemmas.List.{length-map}
use Rattle.lists.specs.Tests.{cases}
use Rattle.lists.specs.Lists.{any, every}
use Rattle.lists.specs.Each.{each_all, any_map, any_same, every_map, reverse_map}
use Rattle.paths.specs.Containment.{contained}
use Rattle.rights.specs.Rights.{reading}
use Rattle.register.specs.Limits.{machine_kind}
use Rattle.register.specs.Register.{actors_of, resources_of, path_of, Standing, Same, resource_standing, claims_of}
use Rattle.register.specs.Chain.{latest, above, hops_of, current, live}
use Rattle.register.specs.Laws.{bare}
use Rattle.register.specs.declared.Resource.{Resource}
use Rattle.register.specs.declared.Claim.{Claim}
use Rattle.register.specs.declared.Register.{Register}
use Rattle.soundness_rules.proofs.Alike.{chain_bare}
use Rattle.soundness_rules.proofs.Sameness.{Alike, same_alike}
use Rattle.soundness_rules.specs.Sound.{is_machine}
use Rattle.refusals.specs.Refusals.{outcome_of}
use Rattle.actions.specs.Actions.{uses_of}
use Rattle.actions.specs.declared.Usage.{Usage}
use Rattle.actions.specs.declared.Action.{Action}
use Rattle.actions.specs.declared.Plan.{Plan}
use Rattle.gate_rules.specs.Gate.{public_read, contains, covering, covers, is_ownerless, owner_lacks, relied, use_violation, use_violations, violations_of, hops_in, hops_for, hop_counts, action_tests, gate_tests, verdict_on, gated, first_of, unexceeded, nearest_of, path_in, path_by, reach_of}
use Rattle.gate_rules.specs.Plans.{actions_of, judgements, Halt, runs, halts, halt_on, first_halt, halt_of, held, plan_verdict, planned}

-- resources as they stand decide
abbrev path_as : List Standing → List ℕ
path_as [] = []
path_as (o ∷ more) = o.path

path_standing : (x : ℕ) (resources : List Resource)
    → path_in (first_of (λ o. eqb x o.id) resources) ≡ path_as (first_of (λ o. eqb x o.id) (map resource_standing resources))
unfolding first_of
path_standing x [] = refl
path_standing x (o ∷ resources) = cases (eqb x o.id) (λ e. rw e) (λ e. rw e (path_standing x resources))

abbrev contains_in : List Standing → ℕ → ℕ → Bool
contains_in resources x y = any (λ o. eqb x o.id && any (λ i. eqb y i.id && contained o.path i.path) resources) resources

contains_standing : (r : Register) (x y : ℕ) → contains r x y ≡ contains_in (map resource_standing (resources_of r.resources)) x y
unfolding contains
contains_standing r x y =
    let resources = resources_of r.resources in
    any_same (λ o. eqb x o.id && any (λ i. eqb y i.id && contained (path_of o) (path_of i)) resources)
    (λ o. eqb x o.id && any (λ i. eqb y i.id && contained (path_of o) i.path) (map resource_standing resources)) resources
    (each_all (λ M o. (eqb x o.id && any (λ i. eqb y i.id && contained (path_of o) (path_of i)) resources)
    ≡ (eqb x o.id && any (λ i. eqb y i.id && contained (path_of o) i.path) (map resource_standing resources)))
    (λ M o. ap (λ b. eqb x o.id && b) (sym (any_map resource_standing (λ i. eqb y i.id && contained (path_of o) i.path) resources))) resources)
    ∙ sym (any_map resource_standing (λ o. eqb x o.id && any (λ i. eqb y i.id && contained o.path i.path) (map resource_standing resources)) resources)

public_standing : (r : Register) (u : Usage)
    → public_read r u ≡ (eqb u.right reading && any (λ o. eqb u.resource o.id && eqb o.public 1) (map resource_standing (resources_of r.resources)))
unfolding public_read
public_standing r u =
    ap (λ b. eqb u.right reading && b) (sym (any_map resource_standing (λ o. eqb u.resource o.id && eqb o.public 1) (resources_of r.resources)))

-- what claims hold as left is not asked
live_bare : (moment : ℕ) (l : List Claim) (c : Claim) → live moment (latest (map bare l)) c ≡ live moment (latest l) c
live_bare moment l c =
    ap (λ L. live moment L c) (reverse_map bare l)
    ∙ ap (λ H. current moment c && every (current moment) H) (chain_bare (latest l) c.parent)
    ∙ ap (λ b. current moment c && b) (every_map bare (current moment) (above (latest l) c))

hops_bare : (l : List Claim) (c : Claim) → hops_of (latest (map bare l)) c ≡ hops_of (latest l) c
hops_bare l c =
    ap (λ L. hops_of L c) (reverse_map bare l) ∙ ap length (chain_bare (latest l) c.parent) ∙ length-map (above (latest l) c) bare

hops_in_bare : (r : Register) (cs : List Claim) → hops_in r (map bare cs) ≡ hops_in r cs
hops_in_bare r [] = refl
hops_in_bare r (c ∷ cs) = refl

-- the first and the nearest of elements read through g
module _ {E C : Type 0} (g : E → C) where
  first_map : (p : C → Bool) (l : List E) → first_of p (map g l) ≡ map g (first_of (λ e. p (g e)) l)
  unfolding first_of
  first_map p [] = refl
  first_map p (e ∷ l) = cases (p (g e)) (λ k. rw k) (λ k. rw k (first_map p l))

  nearest_map : (p : C → Bool) (f : C → ℕ) (l : List E) → nearest_of p f (map g l) ≡ map g (nearest_of (λ e. p (g e)) (λ e. f (g e)) l)
  nearest_map p f l =
      first_map (unexceeded p f (map g l)) l
      ∙ ap (λ q. map g (first_of q l)) (fun_ext (λ e. ap (λ b. p (g e) && b) (every_map g (λ d. not (p d) || leb (f d) (f (g e))) l)))

module _ (r s : Register) (same : Alike r s) where
  -- what is read off the claims without what they hold as left is the same
  claims_read : {A : Type 0} (f : List Claim → A) → ((l : List Claim) → f (map bare l) ≡ f l) → f (claims_of r.claims) ≡ f (claims_of s.claims)
  claims_read f blind = sym (blind (claims_of r.claims)) ∙ ap f same.claims ∙ blind (claims_of s.claims)

  contains_same : (x y : ℕ) → contains r x y ≡ contains s x y
  contains_same x y = contains_standing r x y ∙ ap (λ l. contains_in l x y) same.resources ∙ sym (contains_standing s x y)

  public_same : (u : Usage) → public_read r u ≡ public_read s u
  public_same u =
      public_standing r u ∙ ap (λ l. eqb u.right reading && any (λ o. eqb u.resource o.id && eqb o.public 1) l) same.resources
      ∙ sym (public_standing s u)

  covering_claim_same : (moment x : ℕ) (u : Usage) (c : Claim) → covering r moment x u c ≡ covering s moment x u c
  unfolding covering
  covering_claim_same moment x u c = rw (contains_same c.resource u.resource, claims_read (λ l. live moment (latest l) c) (λ l. live_bare moment l c))

  covering_same : (moment x : ℕ) (u : Usage) → covering r moment x u ≡ covering s moment x u
  covering_same moment x u = fun_ext (λ c. covering_claim_same moment x u c)

  covers_same : (moment x : ℕ) (u : Usage) → covers r moment x u ≡ covers s moment x u
  unfolding covers covering
  covers_same moment x u =
      ap (λ b. b || any (covering r moment x u) (claims_of r.claims)) (public_same u)
      ∙ ap (λ p. public_read s u || any p (claims_of r.claims)) (covering_same moment x u)
      ∙ ap (λ b. public_read s u || b) (claims_read (λ l. any (covering s moment x u) l) (λ l. any_map bare (covering s moment x u) l))

  machine_same : (x : ℕ) → is_machine (actors_of r.actors) x ≡ is_machine (actors_of s.actors) x
  machine_same x = rw same.actors

  ownerless_same : (x : ℕ) → is_ownerless r x ≡ is_ownerless s x
  unfolding is_ownerless
  ownerless_same x = rw same.actors

  lacks_same : (moment x : ℕ) (u : Usage) → owner_lacks r moment x u ≡ owner_lacks s moment x u
  unfolding owner_lacks
  lacks_same moment x u =
      ap (λ (f : ℕ → Bool). any (λ a. eqb x a.id && (eqb machine_kind a.kind && (not (eqb a.owner 0) && not (f a.owner)))) (actors_of r.actors))
      (fun_ext (λ y. covers_same moment y u))
      ∙ ap (λ l. any (λ a. eqb x a.id && (eqb machine_kind a.kind && (not (eqb a.owner 0) && not (covers s moment a.owner u)))) l) same.actors

  path_same : (x : ℕ) → path_by r x ≡ path_by s x
  path_same x =
      path_standing x (resources_of r.resources) ∙ ap (λ l. path_as (first_of (λ o. eqb x o.id) l)) same.resources
      ∙ sym (path_standing x (resources_of s.resources))

  reach_same : (x y : ℕ) → reach_of r x y ≡ reach_of s x y
  unfolding reach_of
  reach_same x y = rw (path_same x, path_same y)

  -- the claim relied on may hold another number as left, and has the same hops
  relied_same : (moment x : ℕ) (u : Usage) → hops_in s (relied r moment x u) ≡ hops_in s (relied s moment x u)
  unfolding covering
  relied_same moment x u =
      ap (λ p. hops_in s (nearest_of p (λ c. reach_of r c.resource u.resource) (claims_of r.claims))) (covering_same moment x u)
      ∙ ap (λ f. hops_in s (nearest_of (covering s moment x u) f (claims_of r.claims))) (fun_ext (λ (c : Claim). reach_same c.resource u.resource))
      ∙ claims_read (λ l. hops_in s (nearest_of (covering s moment x u) (λ c. reach_of s c.resource u.resource) l))
      (λ l. ap (hops_in s) (nearest_map bare (covering s moment x u) (λ c. reach_of s c.resource u.resource) l)
      ∙ hops_in_bare s (nearest_of (covering s moment x u) (λ c. reach_of s c.resource u.resource) l))

  violation_same : (moment x n : ℕ) (u : Usage) → use_violation r moment x n u ≡ use_violation s moment x n u
  unfolding use_violation
  violation_same moment x n u = rw (covers_same moment x u, lacks_same moment x u)

  use_violations_same : (moment x n : ℕ) (us : List Usage) → use_violations r moment x n us ≡ use_violations s moment x n us
  unfolding use_violations
  use_violations_same moment x n [] = refl
  use_violations_same moment x n (u ∷ us) = rw (violation_same moment x n u, use_violations_same moment x (suc n) us)

  violations_alike : (a : Action) → violations_of r a ≡ violations_of s a
  unfolding violations_of
  violations_alike a = rw (ownerless_same a.actor, machine_same a.actor, use_violations_same a.now a.actor 0 (uses_of a))

  hops_in_same : (cs : List Claim) → hops_in r cs ≡ hops_in s cs
  hops_in_same [] = refl
  hops_in_same (c ∷ cs) = claims_read (λ l. hops_of (latest l) c) (λ l. hops_bare l c)

  hops_same : (moment x : ℕ) (u : Usage) → hops_for r moment x u ≡ hops_for s moment x u
  unfolding hops_for
  hops_same moment x u = hops_in_same (relied r moment x u) ∙ relied_same moment x u

  hop_counts_alike : (a : Action) → hop_counts r a ≡ hop_counts s a
  hop_counts_alike a = ap (λ (f : Usage → ℕ). map f (uses_of a)) (fun_ext (λ u. hops_same a.now a.actor u))

  action_tests_same : (a : Action) → action_tests r a ≡ action_tests s a
  unfolding action_tests
  action_tests_same a = rw same.actors

  gate_tests_same : (a : Action) → gate_tests r a ≡ gate_tests s a
  unfolding gate_tests
  gate_tests_same a = rw (same.judged, action_tests_same a)

  verdict_same : (o : Result Unit Refusal) (a : Action) → verdict_on o r a ≡ verdict_on o s a
  verdict_same (Ok _) a = rw (violations_alike a, hop_counts_alike a)
  verdict_same (Err why) a = refl

  -- the gate
  pub gated_alike : (a : Action) → gated r a ≡ gated s a
  unfolding gated
  gated_alike a = ap (λ tests. verdict_on (outcome_of tests) r a) (gate_tests_same a) ∙ verdict_same (outcome_of (gate_tests s a)) a

  pub judgements_alike : (cancelled : Bool) (actions : List Action) → judgements r cancelled actions ≡ judgements s cancelled actions
  unfolding judgements
  judgements_alike cancelled [] = refl
  judgements_alike cancelled (a ∷ actions) = rw (violations_alike a, judgements_alike (cancelled || not (eqb a.flags 0)) actions)

  pub first_halt_alike : (n : ℕ) (actions : List Action) → first_halt r n actions ≡ first_halt s n actions
  unfolding first_halt
  first_halt_alike n [] = refl
  first_halt_alike n (a ∷ actions) =
      ap (λ tests. halt_on (outcome_of tests) n (first_halt r (suc n) actions)) (action_tests_same a)
      ∙ ap (λ more. halt_on (outcome_of (action_tests s a)) n more) (first_halt_alike (suc n) actions)

  halt_same : (p : Plan) → halt_of r p ≡ halt_of s p
  unfolding halt_of
  halt_same p = rw (same.judged, first_halt_alike 0 (actions_of p))

  plan_verdict_same : (h : Halt) (p : Plan) → plan_verdict h r p ≡ plan_verdict h s p
  plan_verdict_same runs p = ap held (judgements_alike false (actions_of p))
  plan_verdict_same (halts why n) p = refl

  -- the plan
  pub planned_alike : (p : Plan) → planned r p ≡ planned s p
  unfolding planned
  planned_alike p = ap (λ h. plan_verdict h r p) (halt_same p) ∙ plan_verdict_same (halt_of s p) p

-- registers that are the same are alike
module _ (r s : Register) (same : Same r s) where
  pub gated_same : (a : Action) → gated r a ≡ gated s a
  gated_same = gated_alike r s (same_alike r s same)

  pub planned_same : (p : Plan) → planned r p ≡ planned s p
  planned_same = planned_alike r s (same_alike r s same)
