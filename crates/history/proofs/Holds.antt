-- Registers that hold certain claims, latest first, over the actors and resources of a register: how calls change the claims that they
-- hold, and when they are sound. Assumes nothing.
use Rattle.std.proofs.Common.{◌≡◌, refl, ap, sym, ◌∙◌, Bool, true, List, ◌∷◌, map, suc, ◌-◌, ◌≤◌, ◌<◌, add-one, arith, length, replicate, length-set, length-take, length-take-le}
use mathlib.Core.List.{reverse-reverse}
use lib.ListN.{length-reverse}
use lib.Seq.{take-append_seam}
use Rattle.lists.specs.Tests.{cases}
use Rattle.lists.specs.Fills.{full_length}
use Rattle.register.specs.Limits.{claim_limit}
use Rattle.register.specs.Register.{Same, claims_of, actors_of, resources_of, claim_as, no_claim, resource_standing, with_claims, Shaped}
use Rattle.register.specs.Chain.{latest}
use Rattle.register.specs.declared.Claim.{Claim}
use Rattle.register.specs.declared.Claims.{Claims}
use Rattle.register.specs.declared.Register.{Register}
use Rattle.soundness_rules.specs.Sound.{sound_claims, sound, stored}
use Rattle.soundness_rules.proofs.Registers.{SoundRegister, sound_out, sound_in}
use Rattle.soundness_rules.proofs.Striking.{strike_sound, strike_length}
use Rattle.soundness_rules.specs.Struck.{strike}
use Rattle.change_rules.specs.Changes.{world_in, standing, appended, unstruck, holding, names}
use Rattle.history.specs.History.{Change, grant, changed, took, withdraw}
use Rattle.change_rules.proofs.Grants.{grant_out, granted_register, take_appended, appended_sound, stored_passed}
use Rattle.history.proofs.Changing.{refused_register, withdrawn_register}

-- s holds the claims L, latest first, over the actors and resources of r and in its version
pub record Holds (r s : Register) (L : List Claim) : Type 0 where
  pub actors : s.actors ≡ r.actors
  pub resources : s.resources ≡ r.resources
  pub version : s.version ≡ r.version
  pub places : length s.claims.list ≡ claim_limit
  pub count : s.claims.count ≡ length L
  pub claims : standing s ≡ L

pub holds_self : (r : Register) → Shaped r → sound r ≡ true → Holds r r (standing r)
holds_self r shaped h =
    let within : r.claims.count ≤ claim_limit = (sound_out r h).limits.claim_count in
    let fits : r.claims.count ≤ length r.claims.list = omega (arith, shaped.claims, within) in
    record {
      actors = refl;
      resources = refl;
      version = refl;
      places = shaped.claims;
      count = sym (length-reverse (claims_of r.claims) ∙ length-take-le r.claims.count r.claims.list fits);
      claims = refl;
    }

pub holds_appended : (r s : Register) (L : List Claim) (c : Claim) → Holds r s L → length L < claim_limit → Holds r (appended s c) (c ∷ L)
holds_appended r s L c h room =
    let fits : s.claims.count < length s.claims.list = omega (arith, h.places, h.count, room) in
    record {
      actors = h.actors;
      resources = h.resources;
      version = h.version;
      places = length-set s.claims.list s.claims.count c ∙ h.places;
      count = add-one s.claims.count ∙ ap suc h.count;
      claims = take_appended s.claims.list s.claims.count c fits ∙ ap (λ K. c ∷ K) h.claims;
    }

pub claims_holding : (s : Register) (cs : List Claim) → claims_of (holding s cs).claims ≡ cs
claims_holding s cs = take-append_seam cs (replicate (claim_limit - length cs) no_claim)

pub standing_holding : (s : Register) (L : List Claim) → standing (holding s (latest L)) ≡ L
standing_holding s L = ap latest (claims_holding s (latest L)) ∙ reverse-reverse L

pub holds_holding : (r s : Register) (L : List Claim) → s.actors ≡ r.actors → s.resources ≡ r.resources → s.version ≡ r.version → length L ≤ claim_limit
    → Holds r (holding s (latest L)) L
holds_holding r s L actors resources version room = record {
  actors = actors;
  resources = resources;
  version = version;
  places = full_length (latest L) claim_limit no_claim (rw (length-reverse L) room);
  count = length-reverse L;
  claims = standing_holding s L;
}

-- registers that hold the same claims are the same
pub holds_same : (r s t : Register) (L : List Claim) → Holds r s L → Holds r t L → Same s t
holds_same r s t L h k =
    let actors = h.actors ∙ sym k.actors in
    let resources = h.resources ∙ sym k.resources in
    let version = h.version ∙ sym k.version in
    let claims = sym (reverse-reverse (claims_of s.claims)) ∙ ap latest (h.claims ∙ sym k.claims) ∙ reverse-reverse (claims_of t.claims) in
    record {
      actor_count = ap (λ a. a.count) actors;
      actors = ap actors_of actors;
      resource_count = ap (λ o. o.count) resources;
      resources = ap (λ o. map resource_standing (resources_of o)) resources;
      claim_count = h.count ∙ sym k.count;
      claims = ap (λ v. map (claim_as v) (claims_of s.claims)) version ∙ ap (map (claim_as t.version)) claims;
      version = version;
    }

-- a register with sound claims over the actors and resources of a sound one, and in its version, is sound
pub sound_with : (r s : Register) → SoundRegister r → s.actors ≡ r.actors → s.resources ≡ r.resources → s.version ≡ r.version
    → s.claims.count ≤ claim_limit → sound_claims (world_in r) (standing s) ≡ true → sound s ≡ true
sound_with r s h actors resources version within claims = sound_in s record {
  version = rw version h.version;
  limits = record { actor_count = rw actors h.limits.actor_count; resource_count = rw resources h.limits.resource_count; claim_count = within };
  actors = rw actors h.actors;
  resources = rw (actors, resources) h.resources;
  claims = rw (actors, resources, version) claims;
}

pub holds_sound : (r s : Register) (L : List Claim) → SoundRegister r → Holds r s L → length L ≤ claim_limit → sound_claims (world_in r) L ≡ true → sound s ≡ true
holds_sound r s L sr h room k = sound_with r s sr h.actors h.resources h.version (rw h.count room) (rw h.claims k)

-- a sound register stays sound when what P names is struck with all drawn from it
pub without_sound : (r : Register) (P : Claim → Bool) → sound r ≡ true → sound (holding r (unstruck P r)) ≡ true
without_sound r P h =
    let sr = sound_out r h in
    let K : List Claim = strike (λ c. c.id) (λ c. c.parent) P (standing r) in
    let stood : length (standing r) ≤ r.claims.count =
    omega (arith, length-reverse (claims_of r.claims), length-take r.claims.count r.claims.list) in
    let fewer : length K ≤ length (standing r) = strike_length (λ c. c.id) (λ c. c.parent) P (standing r) in
    let room : length K ≤ claim_limit = omega (arith, sr.limits.claim_count, stood, fewer) in
    holds_sound r (holding r (latest K)) K sr (holds_holding r r K refl refl refl room) room (strike_sound (world_in r) P (standing r) sr.claims)

-- every call leaves a sound register
pub changed_sound : (r : Register) (k : Change) → sound r ≡ true → sound (changed r k) ≡ true
changed_sound r k h = cases (took r k) (taken k) (λ e. rw (refused_register r k e) h)
  where
    taken : (k : Change) → took r k ≡ true → sound (changed r k) ≡ true
    taken (grant c moment) e =
        rw (granted_register r c moment e) (appended_sound r (stored r.version (standing r) c) moment
        (stored_passed r c moment (grant_out r c moment e)))
    taken (withdraw w) e = rw (withdrawn_register r w e) (without_sound r (names w) h)

-- every call leaves a register its shape
pub changed_shaped : (r : Register) (k : Change) → Shaped r → Shaped (changed r k)
changed_shaped r k h = cases (took r k) (taken k) (λ e. rw (refused_register r k e) h)
  where
    with_claims_lem : (cs : Claims) → length cs.list ≡ claim_limit → Shaped (with_claims r cs)
    with_claims_lem cs long = record { actors = h.actors; resources = h.resources; paths = h.paths; claims = long }

    taken : (k : Change) → took r k ≡ true → Shaped (changed r k)
    taken (grant c moment) e = rw (granted_register r c moment e) (with_claims_lem _
        (length-set r.claims.list r.claims.count (stored r.version (standing r) c) ∙ h.claims))
    taken (withdraw w) e =
        let K : List Claim = strike (λ c. c.id) (λ c. c.parent) (names w) (standing r) in
        let fewer : length K ≤ length (standing r) = strike_length (λ c. c.id) (λ c. c.parent) (names w) (standing r) in
        let room : length (latest K) ≤ claim_limit =
        omega (arith, length-reverse K, fewer, length-reverse (claims_of r.claims), length-take r.claims.count r.claims.list, h.claims) in
        rw (withdrawn_register r w e) (with_claims_lem _ (full_length (latest K) claim_limit no_claim room))
