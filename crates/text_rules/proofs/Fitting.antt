-- Laws: What a sound register has in each of its lists may stand in its lines. Assumes nothing.
use Rattle.std.proofs.Common.{ℕ, ◌-◌, ◌^◌, ◌≤◌, ◌≡◌, refl, Bool, true, ◌&&◌, ◌||◌, eqb, leb, length, take, List, [], ◌∷◌, ◌++◌, reverse, arith, length-take, leb-true}
use mathlib.Core.List.{reverse-cons}
use Rattle.lists.specs.Tests.{cases, and_left, and_right, and_both}
use Rattle.lists.specs.Lists.{every, All}
use Rattle.lists.specs.Each.{all_imp, every_all, ands_out}
use Rattle.register.specs.Limits.{actor_limit, resource_limit, claim_limit, path_limit, id_limit, weight_limit, left_limit, tells_left, moment_end, path_byte_least, path_byte_greatest, human_kind, machine_kind, ranged, is_id}
use Rattle.register.specs.Register.{actors_of, resources_of, claims_of, path_of}
use Rattle.register.specs.Chain.{latest}
use Rattle.register.specs.declared.Actor.{Actor}
use Rattle.register.specs.declared.Resource.{Resource}
use Rattle.register.specs.declared.Claim.{Claim}
use Rattle.register.specs.declared.Register.{Register}
use Rattle.rights.specs.Rights.{right_count}
use Rattle.soundness_rules.specs.Sound.{World, world_of, human, actor_fits, resource_fits, claim_fits, sound_claims, sound}
use Rattle.soundness_rules.proofs.Laws.{ranged_in, claim_fits_out, acceptable_out}
use Rattle.soundness_rules.proofs.Registers.{resource_fits_out, sound_out}
use Rattle.soundness_rules.proofs.Places.{latest_acceptable, earlier_sound}
use Rattle.lines.specs.Reading.{LineForm}
use Rattle.lines.proofs.Laws.{form_fits}
use Rattle.text_rules.specs.Registers.{actor_forms, actor_numbers, resource_forms, resource_numbers, claim_forms, claim_numbers, version_form}

unfoldable pub lines_fit : List LineForm → List ℕ → Bool
lines_fit [] numbers = true
lines_fit (f ∷ forms) [] = true
lines_fit (f ∷ forms) (n ∷ numbers) = form_fits f n && lines_fit forms numbers

-- numbers that may stand in their lines, one line more
pub lines_fit_none : (numbers : List ℕ) → lines_fit [] numbers ≡ true
unfolding lines_fit
lines_fit_none numbers = refl

pub lines_fit_more : (f : LineForm) (forms : List LineForm) (n : ℕ) (numbers : List ℕ) → form_fits f n ≡ true → lines_fit forms numbers ≡ true →
    lines_fit (f ∷ forms) (n ∷ numbers) ≡ true
unfolding lines_fit
lines_fit_more f forms n numbers h more = and_both (form_fits f n) (lines_fit forms numbers) h more

pub lines_fit_first : (f : LineForm) (forms : List LineForm) (n : ℕ) (numbers : List ℕ) → lines_fit (f ∷ forms) (n ∷ numbers) ≡ true → form_fits f n ≡ true
unfolding lines_fit
lines_fit_first f forms n numbers h = and_left (form_fits f n) (lines_fit forms numbers) h

pub lines_fit_others : (f : LineForm) (forms : List LineForm) (n : ℕ) (numbers : List ℕ) → lines_fit (f ∷ forms) (n ∷ numbers) ≡ true → lines_fit forms numbers ≡ true
unfolding lines_fit
lines_fit_others f forms n numbers h = and_right (form_fits f n) (lines_fit forms numbers) h

-- the first n of a list are at most n
pub take_few : {A : Type 0} (n limit : ℕ) (l : List A) → n ≤ limit → length (take n l) ≤ limit
take_few n limit l h = omega (arith, length-take n l)

pub actor_lines_fit : (human : ℕ → Bool) (a : Actor) → actor_fits human a ≡ true → lines_fit actor_forms (actor_numbers a) ≡ true
unfolding actor_fits
actor_lines_fit human a h =
    let told = ands_out (is_id a.id ∷ (eqb a.kind human_kind || eqb a.kind machine_kind) ∷ leb a.owner id_limit
    ∷ (eqb a.owner 0 || (eqb a.kind machine_kind && human a.owner)) ∷ []) h in
    lines_fit_more _ _ _ _ told.0
    (lines_fit_more _ _ _ _ told.1.0
    (lines_fit_more _ _ _ _ (ranged_in 0 id_limit a.owner (omega arith) (leb-true a.owner id_limit told.1.1.0))
    (lines_fit_none [])))

-- a resource's numbers and its path may stand in their lines
pub record ResourceLines (o : Resource) : Type 0 where
  pub numbers : lines_fit resource_forms (resource_numbers o) ≡ true
  pub bytes : every (ranged path_byte_least path_byte_greatest) (path_of o) ≡ true
  pub short : length (path_of o) ≤ path_limit

pub resource_lines_fit : (human : ℕ → Bool) (o : Resource) → resource_fits human o ≡ true → ResourceLines o
resource_lines_fit human o h =
    let told = resource_fits_out human o h in
    record {
      numbers =
          lines_fit_more _ _ _ _ (ranged_in 1 id_limit o.id told.id_least told.id_greatest)
          (lines_fit_more _ _ _ _ (ranged_in 0 1 o.public (omega arith) told.public_greatest)
          (lines_fit_more _ _ _ _ (ranged_in 1 id_limit o.keeper told.keeper_least told.keeper_greatest)
          (lines_fit_none [])));
      bytes = told.bytes;
      short = take_few o.len path_limit o.path told.len_greatest;
    }

pub claim_lines_fit : (version : ℕ) (c : Claim) → claim_fits version c ≡ true → lines_fit (claim_forms version) (claim_numbers version c) ≡ true
claim_lines_fit version c h =
    let told = claim_fits_out version c h in
    let last = lines_fit_more _ _ _ _ (ranged_in 0 (moment_end - 1) c.expiry (omega arith) (let below = told.expiry_below in omega arith)) (lines_fit_none []) in
    lines_fit_more _ _ _ _ (ranged_in 1 id_limit c.id told.id_least told.id_greatest)
    (lines_fit_more _ _ _ _ (ranged_in 0 id_limit c.parent (omega arith) told.parent_greatest)
    (lines_fit_more _ _ _ _ (ranged_in 1 id_limit c.grantor told.grantor_least told.grantor_greatest)
    (lines_fit_more _ _ _ _ (ranged_in 1 id_limit c.holder told.holder_least told.holder_greatest)
    (lines_fit_more _ _ _ _ (ranged_in 1 id_limit c.resource told.resource_least told.resource_greatest)
    (lines_fit_more _ _ _ _ (ranged_in 1 (2 ^ right_count - 1) c.rights told.rights_least (let below = told.rights_below in omega arith))
    (lines_fit_more _ _ _ _ (ranged_in 0 weight_limit c.weight (omega arith) told.weight_greatest)
    (cases (tells_left version)
    (λ tells. rw tells (lines_fit_more _ _ _ _ (ranged_in 0 left_limit c.left (omega arith) (told.left_greatest tells)) last))
    (λ untold. rw untold last))))))))

-- what holds of each the other way round
all_append_left : {C : Type 0} (Q : C → Type 0) (L M : List C) → All Q (L ++ M) → All Q L
all_append_left Q [] M h = tt
all_append_left Q (c ∷ L) M h = (h.0, all_append_left Q L M h.1)

all_last : {C : Type 0} (Q : C → Type 0) (L : List C) (c : C) → All Q (L ++ (c ∷ [])) → Q c
all_last Q [] c h = h.0
all_last Q (d ∷ L) c h = all_last Q L c h.1

all_reverse : {C : Type 0} (Q : C → Type 0) (L : List C) → All Q (reverse L) → All Q L
all_reverse Q [] h = tt
all_reverse Q (c ∷ L) h =
    let turned = rw (reverse-cons c L) at h in
    (all_last Q (reverse L) c turned, all_reverse Q L (all_append_left Q (reverse L) (c ∷ []) turned))

sound_claims_fit : (w : World) (L : List Claim) → sound_claims w L ≡ true
    → All (λ c. lines_fit (claim_forms w.version) (claim_numbers w.version c) ≡ true) L
sound_claims_fit w [] h = tt
sound_claims_fit w (c ∷ L) h =
    (claim_lines_fit w.version c (acceptable_out w L c (latest_acceptable w c L h)).by_itself.fits, sound_claims_fit w L (earlier_sound w c L h))

-- a register of which each entry may stand in its lines, with no more of them than the limits
pub record RegisterLines (r : Register) : Type 0 where
  pub few_actors : length (actors_of r.actors) ≤ actor_limit
  pub actors : All (λ a. lines_fit actor_forms (actor_numbers a) ≡ true) (actors_of r.actors)
  pub few_resources : length (resources_of r.resources) ≤ resource_limit
  pub resources : All ResourceLines (resources_of r.resources)
  pub few_claims : length (claims_of r.claims) ≤ claim_limit
  pub claims : All (λ c. lines_fit (claim_forms r.version) (claim_numbers r.version c) ≡ true) (claims_of r.claims)
  pub version : form_fits version_form r.version ≡ true

pub register_lines_fit : (r : Register) → sound r ≡ true → RegisterLines r
register_lines_fit r h =
    let told = sound_out r h in
    let people = human (actors_of r.actors) in
    record {
      few_actors = take_few r.actors.count actor_limit r.actors.list told.limits.actor_count;
      actors = all_imp (λ a. actor_fits people a ≡ true) (λ a. lines_fit actor_forms (actor_numbers a) ≡ true) (actor_lines_fit people)
          (actors_of r.actors) (every_all (actor_fits people) (actors_of r.actors) told.actors.fit);
      few_resources = take_few r.resources.count resource_limit r.resources.list told.limits.resource_count;
      resources = all_imp (λ o. resource_fits people o ≡ true) ResourceLines (resource_lines_fit people)
          (resources_of r.resources) (every_all (resource_fits people) (resources_of r.resources) told.resources.fit);
      few_claims = take_few r.claims.count claim_limit r.claims.list told.limits.claim_count;
      claims = all_reverse (λ c. lines_fit (claim_forms r.version) (claim_numbers r.version c) ≡ true) (claims_of r.claims)
          (sound_claims_fit (world_of r.version (actors_of r.actors) (resources_of r.resources)) (latest (claims_of r.claims)) told.claims);
      version = told.version;
    }
