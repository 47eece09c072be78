-- Laws: What an action judged by lent columns is in 01's words, and what tests 2 and 3 by them are. Assumes nothing.
use Rattle.std.specs.Prelude.{◌≡◌, refl, Bool, true, false, ◌&&◌, cond, ℕ, suc, ◌≤◌, eqb, ltb, length, get_or, Option, None, Some, List, [], ◌∷◌, ◌++◌, map}
use Rattle.std.proofs.Common.{ap, ◌∙◌, arith, lt-ltb, append_assoc}
use Rattle.std.proofs.Math.Path.{sym}
use Rattle.std.proofs.Math.Dec.{eqb-suc-zero}
use Rattle.std.proofs.Math.ListN.{get_or-map}
use Rattle.register.specs.Limits.{claim_limit, machine_kind, moment_end}
use Rattle.register.specs.Register.{actors_of, no_actor, Shaped}
use Rattle.register.specs.declared.Register.{Register}
use Rattle.soundness_rules.specs.Sound.{sound, is_machine}
use Rattle.soundness_rules.proofs.Sameness.{sound_same}
use Rattle.columns.specs.Columns.{actor_id, actor_owner, resource_id, holder_of, latest_place, actor_kind, actors_to, claim_id, parent_of, claimed_of, rights_of, weight_of}
use Rattle.columns.specs.Laws.{among_natural, beside_natural}
use Rattle.columns.specs.Sheet.{sheet_limit, sheet_of, id_column, parent_column, holder_column, resource_column, rights_column, weight_column}
use Rattle.columns.specs.SheetLaws.{column_natural, sheet_long}
use Rattle.lookup.specs.Asked.{asked_at}
use Rattle.actions.specs.Actions.{violation_limit, uses_of, action_fits}
use Rattle.actions.specs.declared.Action.{Action}
use Rattle.actions.specs.declared.Usage.{Usage}
use Rattle.actions.specs.declared.Violation.{Violation}
use Rattle.actions.specs.declared.Decision.TheVariants.{Permitted, Refused}
use Rattle.gate_rules.specs.Gate.{is_ownerless, use_violations, hops_for, hop_counts, violations_of, listed, padded, decided, action_tests}
use Rattle.gate_rules.proofs.Laws.{use_violations_nil, use_violations_cons, action_fits_out}
use Rattle.gate_rules.proofs.Bounds.{violations_most}
use Rattle.violations.specs.Pushed.{besides, pushed_all}
use Rattle.violations.specs.PushedLaws.{pushed_all_natural, pushed_all_append, pushed_all_most}
use Rattle.coverage.specs.Gathering.{cover_places, held_places}
use Rattle.coverage.specs.GatheringLaws.{held_none}
use Rattle.coverage.specs.Laid.{laid}
use Rattle.soundness.specs.Judged.{findings_by}
use Rattle.soundness.specs.Laws.{judged_sound}
use Rattle.soundness.specs.declared.Findings.{Findings}
use Rattle.uses.specs.Sights.{owner_at, owner_number, owned_in, spots_of, ups_of, ends_in, sight_of, spot_for}
use Rattle.uses.specs.SightsLaws.{use_natural, asked_actor}
use Rattle.uses.specs.Ends.{cover_natural}
use Rattle.uses.specs.Uses.{use_hops, faults_from, uses_judged}
use Rattle.gate.specs.Judged.{Lent, action_judged, counts_of, sheet_ends, lent_of, lent_in, lent_tests, machine_by, owner_by, sight_by, lent_judged}
use Rattle.gate.specs.Sheets.{sheeted, sheeted_same, sheeted_laid, sheeted_shaped, column_natural_expiries}

-- permitted means an empty list
pub decided_natural : (vs : List Violation) → cond (eqb (length vs) 0) Permitted Refused ≡ decided vs
decided_natural [] = refl
decided_natural (v ∷ vs) = rw (eqb-suc-zero (length vs))

-- a machine without owner: by its place, since ids are distinct
ownerless_natural : (r : Register) → sound r ≡ true → (x : ℕ) → is_ownerless r x ≡ is_machine (actors_of r.actors) x && eqb (owner_number r x) 0
unfolding is_ownerless
ownerless_natural r h x =
    asked_actor r h x (λ a. eqb machine_kind a.kind && eqb a.owner 0)
    ∙ there (latest_place (map actor_id r.actors.list) r.actors.count x)
    ∙ sym (ap (λ b. b && eqb (owner_number r x) 0) (asked_actor r h x (λ a. eqb machine_kind a.kind)))
  where
    there : (p : Option ℕ) → asked_at no_actor r.actors.list (λ a. eqb machine_kind a.kind && eqb a.owner 0) p
        ≡ asked_at no_actor r.actors.list (λ a. eqb machine_kind a.kind) p && eqb (owner_at (map actor_owner r.actors.list) p) 0
    there (Some j) =
        ap (λ o. eqb machine_kind (get_or r.actors.list j no_actor).kind && eqb o 0) (sym (get_or-map actor_owner r.actors.list j no_actor))
    there None = refl

module _ (r : Register) (shaped : Shaped r) (h : sound r ≡ true) where
  judged_faults : (moment x n : ℕ) (us : List Usage) →
      faults_from (sight_of r moment x) (map resource_id r.resources.list) r.resources.count n us ≡ use_violations r moment x n us
  unfolding faults_from
  judged_faults moment x n [] = sym (use_violations_nil r moment x n)
  judged_faults moment x n (u ∷ us) =
      rw (use_violations_cons r moment x n u us, (use_natural r shaped h moment x n u).0, judged_faults moment x (suc n) us)

  hops_judged : (moment x : ℕ) (us : List Usage) →
      map (λ u. use_hops (sight_of r moment x) (spot_for r u) u.right) us ≡ map (λ u. hops_for r moment x u) us
  hops_judged moment x [] = refl
  hops_judged moment x (u ∷ us) = rw ((use_natural r shaped h moment x 0 u).1, hops_judged moment x us)

  all_violations : (a : Action) → besides (is_machine (actors_of r.actors) a.actor) (owner_number r a.actor) a ++ use_violations r a.now a.actor 0 (uses_of a) ≡ violations_of r a
  unfolding violations_of
  all_violations a = rw (ownerless_natural r h a.actor) (simp append_assoc)

  judged_violations : (a : Action) → action_fits a ≡ true →
      pushed_all (pushed_all (listed []) (besides (is_machine (actors_of r.actors) a.actor) (owner_number r a.actor) a)) (faults_from (sight_of r a.now a.actor) (map resource_id r.resources.list) r.resources.count 0 (uses_of a))
      ≡ listed (violations_of r a)
  judged_violations a fits =
      ap (pushed_all (pushed_all (listed []) (besides (is_machine (actors_of r.actors) a.actor) (owner_number r a.actor) a))) (judged_faults a.now a.actor 0 (uses_of a))
      ∙ sym (pushed_all_append (listed []) (besides (is_machine (actors_of r.actors) a.actor) (owner_number r a.actor) a) (use_violations r a.now a.actor 0 (uses_of a)))
      ∙ ap (pushed_all (listed [])) (all_violations a)
      ∙ pushed_all_natural [] (violations_of r a) (omega (arith, violations_most r a fits))

  -- an action in range, judged by the columns of a sound register, has 01's violations and hop counts
  pub judged_natural : (a : Action) → action_fits a ≡ true →
      action_judged r a ≡ record { violations = listed (violations_of r a); hops = padded (hop_counts r a) }
  unfolding uses_judged
  judged_natural a fits = rw (judged_violations a fits, hops_judged a.now a.actor (uses_of a))

-- ---- what is lent of a register

module _ (r : Register) where
  -- tests 2 and 3 by the names of the actors
  pub tests_natural : (a : Action) → lent_tests (lent_in r).names (lent_in r).actors a ≡ action_tests (sheeted r) a
  unfolding action_tests
  tests_natural a = rw (among_natural actor_id a.actor r.actors.count (actors_to r.actors).list)

  -- a machine, by the columns of names and kinds
  machine_natural : (x : ℕ) → machine_by (lent_in r) x ≡ is_machine (actors_of (sheeted r).actors) x
  machine_natural x = beside_natural actor_id actor_kind x machine_kind r.actors.count (actors_to r.actors).list

-- in a sound register, at a moment in range, the claims gathered for an owner that is asked or not
theirs_natural : (r : Register) → Shaped r → sound r ≡ true → (moment : ℕ) → ltb moment moment_end ≡ true → (owned : Bool) (x : ℕ)
    → held_places (map holder_of r.claims.list) (ends_in r) (cond owned r.claims.count 0) x moment ≡ cond owned (cover_places r.claims x moment) []
theirs_natural r shaped h moment timely true x = cover_natural r shaped h moment timely x
theirs_natural r shaped h moment timely false x = held_none (map holder_of r.claims.list) (ends_in r) x moment

-- whatever is lent, no more violations are judged than there are places
pub judged_most : (l : Lent) (a : Action) → (lent_judged l a).violations.count ≤ violation_limit
unfolding lent_judged uses_judged
judged_most l a =
    pushed_all_most _ _ (pushed_all_most (besides (machine_by l a.actor) (owner_by l a.actor) a) (listed []) (omega arith))

-- where the columns are those of a register
module _ (r : Register) (shaped : Shaped r) (h : sound (sheeted r) ≡ true) where
  abbrev sheet : List ℕ
  sheet = sheet_of r.claims

  sheet_full : length sheet ≡ sheet_limit
  sheet_full = sheet_long r.claims

  ups_natural : (lent_in r).ups ≡ ups_of (sheeted r)
  ups_natural = rw (column_natural sheet sheet_full claim_id id_column (omega arith) (λ g. refl), column_natural sheet sheet_full parent_of parent_column (omega arith) (λ g. refl))

  spots_natural : (lent_in r).spots ≡ spots_of (sheeted r)
  spots_natural = rw (column_natural sheet sheet_full claimed_of resource_column (omega arith) (λ g. refl))

  lent_ends : (lent_in r).ends ≡ ends_in (sheeted r)
  lent_ends = rw (ups_natural, column_natural sheet sheet_full weight_of weight_column (omega arith) (λ g. refl), column_natural_expiries r shaped h)

  -- an actor's sight is that of the register
  sight_natural : (moment : ℕ) → ltb moment moment_end ≡ true → (x : ℕ) → sight_by (lent_in r) moment x ≡ sight_of (sheeted r) moment x
  sight_natural moment timely x =
      let wholly = sheeted_shaped r shaped in
      rw (
        machine_natural r x,
        column_natural sheet sheet_full holder_of holder_column (omega arith) (λ g. refl),
        column_natural sheet sheet_full rights_of rights_column (omega arith) (λ g. refl),
        lent_ends,
        spots_natural,
        ups_natural,
        cover_natural (sheeted r) wholly h moment timely x,
        theirs_natural (sheeted r) wholly h moment timely (owned_in (sheeted r) x) (owner_number (sheeted r) x),
        sheeted_laid r.resources,
      )

  -- an action in range that is judged by what is lent of a sound register is judged by the register
  pub lent_natural : (a : Action) → action_fits a ≡ true → lent_judged (lent_in r) a ≡ action_judged (sheeted r) a
  unfolding lent_judged
  lent_natural a fits =
      rw (sight_natural a.now (lt-ltb a.now moment_end (action_fits_out a fits).moment_below) a.actor, machine_natural r a.actor)

-- what was found of a register when its claims were put into a sheet
module _ (r : Register) (places : length r.claims.list ≡ claim_limit) {sheet : List ℕ} (put : sheet ≡ sheet_of r.claims) {found : Findings}
    (told : found ≡ findings_by r.version r.actors r.resources sheet r.claims.count) where
  pub found_sound : found.sound ≡ sound (sheeted r)
  found_sound = judged_sound r (record { put = put; told = told }) places ∙ sym (sound_same (sheeted r) r (sheeted_same r places))

  pub lent_told : {lens ends bytes : List ℕ} → lens ≡ (laid r.resources).lens → ends ≡ sheet_ends sheet found.ups r.claims.count
      → bytes ≡ (laid r.resources).bytes → lent_of (counts_of r) found lens ends sheet bytes ≡ lent_in r
  lent_told of-lens of-ends of-bytes =
      rw (of-lens, of-ends, of-bytes, told ∙ ap (λ s. findings_by r.version r.actors r.resources s r.claims.count) put, put)
