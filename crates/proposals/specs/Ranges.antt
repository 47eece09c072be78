-- Laws: What stands in a sound register is in range: actors, a keeper, a claim's names; and a right's worth as a rights number. Assumes nothing.
use Rattle.std.specs.Prelude.{◌≡◌, refl, Bool, true, false, ◌&&◌, List, ℕ, eqb}
use Rattle.std.proofs.Common.{ap, sym, ◌∙◌, zero-le, arith, eqb-true, eq-eqb, ltb-true}
use Rattle.std.specs.Bool.{beq}
use Rattle.lists.specs.Tests.{cases, and_left, and_right, beq_same, iff_same}
use Rattle.lists.specs.Lists.{every}
use Rattle.lists.specs.Each.{every_all}
use Rattle.lists.specs.Counts.{every_counted_sound}
use Rattle.rights.specs.Rights.{right_count, the_rights, is_right, worth_of, is_rights, has_right, has_rights}
use Rattle.rights.specs.Laws.{had_right, has_rights_sound, has_rights_complete}
use Rattle.register.specs.Limits.{human_kind, machine_kind, is_id, id_limit}
use Rattle.register.specs.Register.{actors_of, resources_of}
use Rattle.register.specs.declared.Actor.{Actor}
use Rattle.register.specs.declared.Resource.{Resource}
use Rattle.register.specs.declared.Register.{Register}
use Rattle.soundness_rules.specs.Sound.{human, is_machine, actor_fits, resource_fits, sound}
use Rattle.soundness_rules.proofs.Laws.{ranged_in}
use Rattle.soundness_rules.proofs.Registers.{actor_fits_out, resource_fits_out, sound_out}
use Rattle.change_rules.specs.Changes.{world_in}
use Rattle.gate_rules.specs.Places.{any_place, place_any, all_place}
use Rattle.proposals.specs.Owners.{one_by_id}

-- a right's worth is a rights number, and has that right alone
worth_apart : ℕ → ℕ → Bool
worth_apart b c = beq (has_right (worth_of b) c) (eqb b c)

pub worth_alone : (b c : ℕ) → is_right b ≡ true → is_right c ≡ true → has_right (worth_of b) c ≡ eqb b c
unfolding worth_apart has_right
worth_alone b c one other =
    beq_same (has_right (worth_of b) c) (eqb b c)
    (every_counted_sound (worth_apart b) right_count 0
    (every_counted_sound (λ b. every (worth_apart b) the_rights) right_count 0 refl b zero-le (ltb-true b right_count one))
    c zero-le (ltb-true c right_count other))

pub worth_rights : (b : ℕ) → is_right b ≡ true → is_rights (worth_of b) ≡ true
worth_rights b one = every_counted_sound (λ b. is_rights (worth_of b)) right_count 0 refl b zero-le (ltb-true b right_count one)

pub worth_has : (b : ℕ) → is_right b ≡ true → has_right (worth_of b) b ≡ true
worth_has b one = worth_alone b b one one ∙ eq-eqb b b refl

pub has_worth : (n b : ℕ) → is_right b ≡ true → has_rights n (worth_of b) ≡ has_right n b
has_worth n b one =
    iff_same (has_rights n (worth_of b)) (has_right n b) (λ h. has_rights_sound n (worth_of b) h b (worth_has b one))
    (λ h. has_rights_complete n (worth_of b)
    (λ c k. let same : b ≡ c = eqb-true b c (sym (worth_alone b c one (had_right (worth_of b) c k)) ∙ k) in rw (← same) h))

-- an actor's number is in range
pub known_id : (r : Register) → sound r ≡ true → (x : ℕ) → (world_in r).known x ≡ true → is_id x ≡ true
known_id r h x k =
    let actors : List Actor = actors_of r.actors in
    let found = any_place (λ a. eqb x a.id) actors k in
    let fits = actor_fits_out (human actors) found.0 (all_place (λ b. actor_fits (human actors) b ≡ true) actors
    (every_all (actor_fits (human actors)) actors (sound_out r h).actors.fit) found.0 found.1) in
    let same : x ≡ found.0.id = eqb-true x found.0.id found.2 in
    rw same (ranged_in 1 id_limit found.0.id fits.id_least fits.id_greatest)

-- a human stands and is no machine
pub human_known : (r : Register) (x : ℕ) → human (actors_of r.actors) x ≡ true → (world_in r).known x ≡ true
human_known r x k =
    let found = any_place (λ a. eqb x a.id && eqb human_kind a.kind) (actors_of r.actors) k in
    place_any (λ a. eqb x a.id) (actors_of r.actors) found.0 found.1 (and_left (eqb x found.0.id) (eqb human_kind found.0.kind) found.2)

pub human_unlike : (r : Register) → sound r ≡ true → (x : ℕ) → human (actors_of r.actors) x ≡ true → (world_in r).machine x ≡ false
human_unlike r h x k =
    let actors : List Actor = actors_of r.actors in
    cases (is_machine actors x)
    (λ m. let a = any_place (λ a. eqb x a.id && eqb human_kind a.kind) actors k in
    let b = any_place (λ a. eqb x a.id && eqb machine_kind a.kind) actors m in
    let first : x ≡ a.0.id = eqb-true x a.0.id (and_left (eqb x a.0.id) (eqb human_kind a.0.kind) a.2) in
    let second : x ≡ b.0.id = eqb-true x b.0.id (and_left (eqb x b.0.id) (eqb machine_kind b.0.kind) b.2) in
    let one : a.0 ≡ b.0 = one_by_id (λ (c : Actor). c.id) actors (sound_out r h).actors.apart a.0 b.0 a.1 b.1 (sym first ∙ second) in
    let lower : human_kind ≡ a.0.kind = eqb-true human_kind a.0.kind (and_right (eqb x a.0.id) (eqb human_kind a.0.kind) a.2) in
    let upper : machine_kind ≡ b.0.kind = eqb-true machine_kind b.0.kind (and_right (eqb x b.0.id) (eqb machine_kind b.0.kind) b.2) in
    let never : human_kind ≡ machine_kind = lower ∙ ap (λ e. e.kind) one ∙ sym upper in
    absurd (omega (arith, never)))
    (λ e. e)

-- a keeper is a human, of a resource that stands, both in range
pub record Keeping (r : Register) (g o : ℕ) : Type 0 where
  pub keeper_human : human (actors_of r.actors) g ≡ true
  pub keeper_id : is_id g ≡ true
  pub kept_id : is_id o ≡ true
  pub kept : (world_in r).listed o ≡ true

pub keeps_out : (r : Register) → sound r ≡ true → (g o : ℕ) → (world_in r).keeps g o ≡ true → Keeping r g o
keeps_out r h g o k =
    let actors : List Actor = actors_of r.actors in
    let resources : List Resource = resources_of r.resources in
    let found = any_place (λ i. eqb o i.id && eqb g i.keeper) resources k in
    let i : Resource = found.0 in
    let named = and_left (eqb o i.id) (eqb g i.keeper) found.2 in
    let fits = resource_fits_out (human actors) i (all_place (λ b. resource_fits (human actors) b ≡ true) resources
    (every_all (resource_fits (human actors)) resources (sound_out r h).resources.fit) i found.1) in
    let same : o ≡ i.id = eqb-true o i.id named in
    let keeper : g ≡ i.keeper = eqb-true g i.keeper (and_right (eqb o i.id) (eqb g i.keeper) found.2) in
    record {
      keeper_human = rw keeper fits.keeper_human;
      keeper_id = rw keeper (ranged_in 1 id_limit i.keeper fits.keeper_least fits.keeper_greatest);
      kept_id = rw same (ranged_in 1 id_limit i.id fits.id_least fits.id_greatest);
      kept = place_any (λ i. eqb o i.id) resources i found.1 named;
    }
