-- Laws: Who may: an actor is listed exactly where the action with the one use is permitted. Assumes nothing.
use Rattle.std.proofs.Common.{◌≡◌, Bool, ◌&&◌, ◌||◌, ℕ, ◌≤◌, ◌^◌, length, Err, Ok, ap, sym, ◌∙◌, arith, length-take, List, [], ◌∷◌, map, eqb-true, le-leb}
use Rattle.std.proofs.Math.Path.{refl}
use Rattle.std.proofs.Math.Bool.{true, false, not}
use borrow.Author.Tests.{not-true}
use Rattle.std.proofs.Math.Dec.{eqb, leb, ltb}
use Rattle.std.proofs.lemmas.List.{length-map}
use Rattle.lists.specs.Tests.{cases, clash, and_left, and_right, and_both, or_other}
use Rattle.lists.specs.Lists.{any, filter, dropping}
use Rattle.lists.specs.Each.{any_map, ands_out, all_imp, all_none, every_all, each_all}
use Rattle.lists.specs.Filters.{dropping_nil, dropping_hit, dropping_miss, dropping_length, filter_none}
use Rattle.rights.specs.Rights.{is_right}
use Rattle.register.specs.Limits.{id_limit, moment_end, machine_kind, actor_limit}
use Rattle.register.specs.Register.{actors_of, resources_of}
use Rattle.register.specs.declared.Actor.{Actor}
use Rattle.register.specs.declared.Register.{Register}
use Rattle.soundness_rules.specs.Sound.{sound, human, actor_fits}
use Rattle.soundness_rules.proofs.Registers.{sound_out, actor_fits_out}
use Rattle.refusals.specs.Refusals.{Test, outcome_of, is_accepted}
use Rattle.refusals.proofs.Laws.{outcome_cases, outcome_pass, outcome_fail, accepted_out, accepted_in}
use Rattle.refusals.specs.declared.Refusal.TheVariants.{Unsound, Range}
use Rattle.actions.specs.Actions.{one_use, flag_count, use_limit, govern_limit, action_fits}
use Rattle.actions.specs.declared.Usage.{Usage}
use Rattle.actions.specs.declared.Decision.TheVariants.{Permitted}
use Rattle.gate_rules.specs.Gate.{covers, is_ownerless, owner_lacks, flags_set, gated}
use Rattle.gate_rules.specs.Authority.{Passed, IsIn}
use Rattle.gate_rules.specs.Places.{any_place, place_any, none_place, all_place, each_place}
use Rattle.gate_rules.proofs.Trace.{distinct_place}
use Rattle.gate_rules.proofs.Laws.{permitted_out, permitted_in, use_violations_out, use_violations_in}
use Rattle.gate_rules.proofs.Coverage.{absent_not_covered}
use Rattle.reasons.specs.Reasons.{reason_of, is_covering}
use Rattle.reasons.specs.Holders.{ask_fits, who_tests, may_use, who_may, holders_of, who_held}
use Rattle.reasons.proofs.ReasonsLaws.{reason_covers}

-- some of those that pass one test passes another where some passes both
any_filter : {C : Type 0} (p q : C → Bool) (L : List C) → any q (filter p L) ≡ any (λ c. p c && q c) L
any_filter p q [] = ap (any q) (dropping_nil (λ M c. not (p c)))
any_filter p q (c ∷ L) =
    cases (p c)
    (λ e. ap (any q) (dropping_miss (λ M c. not (p c)) c L (rw e)) ∙ rw (e, any_filter p q L))
    (λ e. ap (any q) (dropping_hit (λ M c. not (p c)) c L (rw e)) ∙ rw (e, any_filter p q L))

module _ (r : Register) (u : Usage) (moment : ℕ) where
  -- the tests, passed
  record WhoAsked : Type 0 where
    soundly : sound r ≡ true
    ranged : leb u.resource id_limit && is_right u.right ≡ true
    timely : ltb moment moment_end ≡ true

  who_asked_out : outcome_of (who_tests r u moment) ≡ Ok tt → WhoAsked
  unfolding who_tests
  who_asked_out h =
      let told = accepted_out (who_tests r u moment) h in
      record {
        soundly = told.0;
        ranged = and_left (leb u.resource id_limit && is_right u.right) (ltb moment moment_end) told.1.0;
        timely = and_right (leb u.resource id_limit && is_right u.right) (ltb moment moment_end) told.1.0;
      }

  who_asked_in : WhoAsked → outcome_of (who_tests r u moment) ≡ Ok tt
  unfolding who_tests
  who_asked_in h =
      accepted_in (who_tests r u moment)
      (h.soundly, (and_both (leb u.resource id_limit && is_right u.right) (ltb moment moment_end) h.ranged h.timely, tt))

  who_accepted : outcome_of (who_tests r u moment) ≡ Ok tt → who_may r u moment ≡ map (λ a. a.id) (filter (may_use r moment u) (actors_of r.actors))
  unfolding who_may
  who_accepted e = rw e

  who_refused : is_accepted (outcome_of (who_tests r u moment)) ≡ false → who_may r u moment ≡ []
  unfolding who_may
  who_refused e = rw e

  -- whether x is listed
  abbrev listed_actor : ℕ → Actor → Bool
  listed_actor x a = may_use r moment u a && eqb x a.id

  who_listed : (x : ℕ) → outcome_of (who_tests r u moment) ≡ Ok tt → any (eqb x) (who_may r u moment) ≡ any (listed_actor x) (actors_of r.actors)
  who_listed x e =
      ap (any (eqb x)) (who_accepted e)
      ∙ any_map (λ a. a.id) (eqb x) (filter (may_use r moment u) (actors_of r.actors))
      ∙ any_filter (may_use r moment u) (λ a. eqb x a.id) (actors_of r.actors)

  -- what an actor who may has, and back
  record May (a : Actor) : Type 0 where
    itself : covers r moment a.id u ≡ true
    owned : eqb machine_kind a.kind ≡ true → eqb a.owner 0 ≡ false
    owner_covers : eqb machine_kind a.kind ≡ true → covers r moment a.owner u ≡ true

  may_out : (a : Actor) → may_use r moment u a ≡ true → May a
  unfolding may_use
  may_out a h =
      let machine : (eqb machine_kind a.kind ≡ true → not (eqb a.owner 0) && covers r moment a.owner u ≡ true) =
      λ e. or_other (not (eqb machine_kind a.kind)) (not (eqb a.owner 0) && covers r moment a.owner u)
      (and_right (covers r moment a.id u) (not (eqb machine_kind a.kind) || (not (eqb a.owner 0) && covers r moment a.owner u)) h) (rw e) in
      record {
        itself = and_left (covers r moment a.id u) (not (eqb machine_kind a.kind) || (not (eqb a.owner 0) && covers r moment a.owner u)) h;
        owned = λ e. not-true (eqb a.owner 0) (and_left (not (eqb a.owner 0)) (covers r moment a.owner u) (machine e));
        owner_covers = λ e. and_right (not (eqb a.owner 0)) (covers r moment a.owner u) (machine e);
      }

  may_in : (a : Actor) → May a → may_use r moment u a ≡ true
  unfolding may_use
  may_in a h = rw h.itself (cases (eqb machine_kind a.kind) (λ e. rw (e, h.owned e, h.owner_covers e)) (λ e. rw e))

  flags_none : flags_set 0 ≡ []
  unfolding flags_set dropping
  flags_none = refl

  who_fits : (x : ℕ) → leb x id_limit ≡ true → WhoAsked → action_fits (one_use x u moment) ≡ true
  unfolding action_fits
  who_fits x known h = rw (known, h.timely, h.ranged)

  -- the numbers of an action with the one use that fits
  pub one_ranged : (x : ℕ) → action_fits (one_use x u moment) ≡ true → (leb u.resource id_limit && is_right u.right ≡ true) × (ltb moment moment_end ≡ true)
  unfolding action_fits
  one_ranged x h =
      let told = ands_out (leb x id_limit ∷ ltb moment moment_end ∷ ltb 0 (2 ^ flag_count) ∷ leb 1 use_limit
      ∷ ((leb u.resource id_limit && is_right u.right) && true) ∷ leb 0 govern_limit ∷ true ∷ []) h in
      (and_left (leb u.resource id_limit && is_right u.right) true told.1.1.1.1.0, told.1.0)

  -- in a sound register the one actor with a number decides what is asked of the number
  module _ (x : ℕ) (soundly : sound r ≡ true) (a : Actor) (at : IsIn (actors_of r.actors) a) (named : eqb x a.id ≡ true) where
    pub only : (b : Actor) → IsIn (actors_of r.actors) b → eqb x b.id ≡ true → b ≡ a
    only b by same =
        distinct_place (λ q. q.id) (actors_of r.actors) (sound_out r soundly).actors.apart b a by at
        (sym (eqb-true x b.id same) ∙ eqb-true x a.id named)

    pub none_but : (q : Actor → Bool) → q a ≡ false → any (λ b. eqb x b.id && q b) (actors_of r.actors) ≡ false
    none_but q out =
        all_none (λ b. eqb x b.id && q b) (actors_of r.actors) (all_imp (λ b. IsIn (actors_of r.actors) b) (λ b. eqb x b.id && q b ≡ false)
        (λ b by. cases (eqb x b.id && q b)
        (λ e. clash (q a) (rw (only b by (and_left (eqb x b.id) (q b) e)) at (and_right (eqb x b.id) (q b) e)) out) (λ e. e))
        (actors_of r.actors) (each_place (actors_of r.actors)))

    may_owned : May a → is_ownerless r x ≡ false
    unfolding is_ownerless
    may_owned h = none_but (λ b. eqb machine_kind b.kind && eqb b.owner 0)
        (cases (eqb machine_kind a.kind) (λ e. rw (e, h.owned e)) (λ e. rw e))

    may_owner_covers : May a → owner_lacks r moment x u ≡ false
    unfolding owner_lacks
    may_owner_covers h = none_but (λ b. eqb machine_kind b.kind && (not (eqb b.owner 0) && not (covers r moment b.owner u)))
        (cases (eqb machine_kind a.kind) (λ e. rw (e, h.owned e, h.owner_covers e)) (λ e. rw e))

    known_ranged : leb x id_limit ≡ true
    known_ranged =
        let fits = all_place (λ b. actor_fits (human (actors_of r.actors)) b ≡ true) (actors_of r.actors)
        (every_all (actor_fits (human (actors_of r.actors))) (actors_of r.actors) (sound_out r soundly).actors.fit) a at in
        rw (eqb-true x a.id named) (le-leb a.id id_limit (actor_fits_out (human (actors_of r.actors)) a fits).id_greatest)

    who_passing : WhoAsked → Passed r (one_use x u moment)
    who_passing asked = record {
      soundly = soundly;
      fits = who_fits x known_ranged asked;
      known = place_any (λ b. eqb x b.id) (actors_of r.actors) a at named;
    }

    may_permitted : WhoAsked → May a → (gated r (one_use x u moment)).decision ≡ Permitted
    may_permitted asked h = permitted_in r (one_use x u moment) record {
      passed = who_passing asked;
      clean = record {
        flagless = flags_none;
        owned = may_owned h;
        ungoverning = λ e. refl;
        covered = use_violations_in r moment x 0 (u ∷ [])
            (record { covered = rw (eqb-true x a.id named) h.itself; owner_covers = may_owner_covers h }, tt);
      };
    }

  -- an actor who is listed is permitted
  pub listed_permitted : (x : ℕ) → any (eqb x) (who_may r u moment) ≡ true → (gated r (one_use x u moment)).decision ≡ Permitted
  listed_permitted x h =
      outcome_cases (outcome_of (who_tests r u moment))
      (λ e. let found = any_place (listed_actor x) (actors_of r.actors) (sym (who_listed x e) ∙ h) in
      let a : Actor = found.0 in
      may_permitted x (who_asked_out e).soundly a found.1 (and_right (may_use r moment u a) (eqb x a.id) found.2) (who_asked_out e)
      (may_out a (and_left (may_use r moment u a) (eqb x a.id) found.2)))
      (λ why e. clash (any (eqb x) (who_may r u moment)) h (ap (any (eqb x)) (who_refused (ap is_accepted e))))

  -- who is permitted is listed
  pub permitted_listed : (x : ℕ) → (gated r (one_use x u moment)).decision ≡ Permitted → any (eqb x) (who_may r u moment) ≡ true
  unfolding is_ownerless owner_lacks
  permitted_listed x h =
      let told = permitted_out r (one_use x u moment) h in
      let fits = one_ranged x told.passed.fits in
      let asked : WhoAsked = record { soundly = told.passed.soundly; ranged = fits.0; timely = fits.1 } in
      let found = any_place (λ b. eqb x b.id) (actors_of r.actors) told.passed.known in
      let a : Actor = found.0 in
      let named : x ≡ a.id = eqb-true x a.id found.2 in
      let clean = (use_violations_out r moment x 0 (u ∷ []) told.clean.covered).0 in
      let owned : (eqb machine_kind a.kind ≡ true → eqb a.owner 0 ≡ false) =
      λ e. ownerless_out (eqb x a.id) (eqb machine_kind a.kind) (eqb a.owner 0) found.2 e
      (none_place (λ b. eqb x b.id && (eqb machine_kind b.kind && eqb b.owner 0)) (actors_of r.actors) told.clean.owned a found.1) in
      let may : May a = record {
        itself = rw (← named) clean.covered;
        owned = owned;
        owner_covers = λ e. lacks_out (eqb x a.id) (eqb machine_kind a.kind) (eqb a.owner 0) (covers r moment a.owner u) found.2 e (owned e)
            (none_place (λ b. eqb x b.id && (eqb machine_kind b.kind && (not (eqb b.owner 0) && not (covers r moment b.owner u))))
            (actors_of r.actors) clean.owner_covers a found.1);
      } in
      who_listed x (who_asked_in asked)
      ∙ place_any (listed_actor x) (actors_of r.actors) a found.1 (and_both (may_use r moment u a) (eqb x a.id) (may_in a may) found.2)
    where
      ownerless_out : (x m o : Bool) → x ≡ true → m ≡ true → x && (m && o) ≡ false → o ≡ false
      ownerless_out true true o e k h = h
      ownerless_out true false o e k h = clash false k refl
      ownerless_out false m o e k h = clash false e refl

      lacks_out : (x m o c : Bool) → x ≡ true → m ≡ true → o ≡ false → x && (m && (not o && not c)) ≡ false → c ≡ true
      lacks_out false m o c e k l h = clash false e refl
      lacks_out true false o c e k l h = clash false k refl
      lacks_out true true true c e k l h = clash true refl l
      lacks_out true true false true e k l h = refl
      lacks_out true true false false e k l h = sym h

  -- not more than 64 are listed
  pub who_most : length (who_may r u moment) ≤ actor_limit
  who_most =
      outcome_cases (outcome_of (who_tests r u moment))
      (λ e. rw (who_accepted e) (
      omega (
        arith,
        length-map (filter (may_use r moment u) (actors_of r.actors)) (λ a. a.id),
        dropping_length (λ M a. not (may_use r moment u a)) (actors_of r.actors),
        length-take r.actors.count r.actors.list,
        (sound_out r (who_asked_out e).soundly).limits.actor_count,
      )))
      (λ why e. rw (who_refused (ap is_accepted e)) (omega arith))

  -- none may use a resource that does not stand
  pub who_absent : any (λ o. eqb u.resource o.id) (resources_of r.resources) ≡ false → who_may r u moment ≡ []
  who_absent absent =
      outcome_cases (outcome_of (who_tests r u moment))
      (λ e. who_accepted e ∙ ap (map (λ a. a.id)) (filter_none (may_use r moment u) (actors_of r.actors)
      (each_all (λ M a. may_use r moment u a ≡ false) (λ M a. may_not a (absent_not_covered r moment a.id u absent)) (actors_of r.actors))))
      (λ why e. who_refused (ap is_accepted e))
    where
      may_not : (a : Actor) → covers r moment a.id u ≡ false → may_use r moment u a ≡ false
      may_not a e = cases (may_use r moment u a) (λ h. clash (covers r moment a.id u) (may_out a h).itself e) (λ h. h)

  -- an actor may by its reason and, of a machine, by that of its owner
  pub may_reasons : (a : Actor) → may_use r moment u a ≡ is_covering (reason_of r moment a.id u)
      && (not (eqb machine_kind a.kind) || (not (eqb a.owner 0) && is_covering (reason_of r moment a.owner u)))
  unfolding may_use
  may_reasons a = rw (reason_covers r moment a.id u, reason_covers r moment a.owner u)

  -- of an action that no test stops, the one actor with the number decides
  pub may_passed : (x : ℕ) → Passed r (one_use x u moment) → (a : Actor) → IsIn (actors_of r.actors) a → eqb x a.id ≡ true
      → may_use r moment u a ≡ true → (gated r (one_use x u moment)).decision ≡ Permitted
  may_passed x passed a at named h =
      let fits = one_ranged x passed.fits in
      may_permitted x passed.soundly a at named record { soundly = passed.soundly; ranged = fits.0; timely = fits.1 } (may_out a h)

  pub permitted_may : (x : ℕ) → (gated r (one_use x u moment)).decision ≡ Permitted → (a : Actor) → IsIn (actors_of r.actors) a → eqb x a.id ≡ true
      → may_use r moment u a ≡ true
  permitted_may x h a at named =
      let passed = (permitted_out r (one_use x u moment) h).passed in
      let fits = one_ranged x passed.fits in
      let asked : WhoAsked = record { soundly = passed.soundly; ranged = fits.0; timely = fits.1 } in
      let found = any_place (listed_actor x) (actors_of r.actors) (sym (who_listed x (who_asked_in asked)) ∙ permitted_listed x h) in
      let same = only x passed.soundly a at named found.0 found.1 (and_right (may_use r moment u found.0) (eqb x found.0.id) found.2) in
      rw same at (and_left (may_use r moment u found.0) (eqb x found.0.id) found.2)

  abbrev rest : List Test
  rest = record { passed = ask_fits u moment; refusal = Range } ∷ []

  -- the answer where a test stops the call, and where none does
  pub held_unsound : sound r ≡ false → who_held r u moment ≡ holders_of (Err Unsound) []
  unfolding who_held who_tests who_may
  held_unsound e = rw (outcome_fail (record { passed = sound r; refusal = Unsound }) rest e)

  module _ (h : sound r ≡ true) where
    pub held_ranged : ask_fits u moment ≡ false → who_held r u moment ≡ holders_of (Err Range) []
    unfolding who_held who_tests who_may
    held_ranged e =
        rw (outcome_pass (record { passed = sound r; refusal = Unsound }) rest h ∙ outcome_fail (record { passed = ask_fits u moment; refusal = Range }) [] e)

    pub held_asked : ask_fits u moment ≡ true → who_held r u moment ≡ holders_of (Ok tt) (map (λ a. a.id) (filter (may_use r moment u) (actors_of r.actors)))
    unfolding who_held who_tests who_may
    held_asked e = rw (accepted_in (who_tests r u moment) (h, (e, tt)))
