-- Laws: A machine's owner is asked by the owner's own one-use action. Assumes nothing.
use Rattle.std.proofs.Common.{◌≡◌, true, false, ◌&&◌, ℕ, sym, ◌∙◌, eqb-true, eq-eqb, ne_eqb, List}
use Rattle.std.proofs.Math.Path.{ap}
use Rattle.std.proofs.Math.Bool.{Bool, not}
use Rattle.std.proofs.Math.Dec.{eqb}
use Rattle.lists.specs.Tests.{and_left, and_right, and_both, iff_same}
use Rattle.lists.specs.Lists.{any}
use Rattle.lists.specs.Each.{every_all, none_weaken}
use Rattle.register.specs.Limits.{machine_kind}
use Rattle.register.specs.Register.{actors_of}
use Rattle.register.specs.declared.Actor.{Actor}
use Rattle.register.specs.declared.Register.{Register}
use Rattle.soundness_rules.specs.Sound.{human, actor_fits}
use Rattle.soundness_rules.proofs.Registers.{actor_fits_out, sound_out}
use Rattle.change_rules.specs.Changes.{world_in}
use Rattle.actions.specs.declared.Usage.{Usage}
use Rattle.gate_rules.specs.Gate.{covers, is_ownerless, owner_lacks}
use Rattle.gate_rules.specs.Authority.{IsIn}
use Rattle.gate_rules.specs.Places.{any_place, place_any, all_place}
use Rattle.actions.specs.Actions.{one_use}
use Rattle.proposals.specs.Proposals.{permits}
use Rattle.proposals.specs.Permitting.{permits_out, permits_in}
use Rattle.proposals.specs.Owners.{one_by_id}
use Rattle.proposals.specs.Ranges.{human_known, human_unlike}
use Rattle.proposals.proofs.Exact.{one_fits}
use Rattle.proposals.specs.Asked.{Asked}

-- who is no machine has no owner to ask
unlike_owned : (r : Register) (x : ℕ) → (world_in r).machine x ≡ false → is_ownerless r x ≡ false
unfolding is_ownerless
unlike_owned r x h =
    none_weaken (λ a. eqb x a.id && (eqb machine_kind a.kind && eqb a.owner 0)) (λ a. eqb x a.id && eqb machine_kind a.kind)
    (λ a e. and_both (eqb x a.id) (eqb machine_kind a.kind) (and_left (eqb x a.id) (eqb machine_kind a.kind && eqb a.owner 0) e)
    (and_left (eqb machine_kind a.kind) (eqb a.owner 0) (and_right (eqb x a.id) (eqb machine_kind a.kind && eqb a.owner 0) e)))
    (actors_of r.actors) h

pub unlike_lacks : (r : Register) (moment x : ℕ) (u : Usage) → (world_in r).machine x ≡ false → owner_lacks r moment x u ≡ false
unfolding owner_lacks
unlike_lacks r moment x u h =
    none_weaken (λ a. eqb x a.id && (eqb machine_kind a.kind && (not (eqb a.owner 0) && not (covers r moment a.owner u))))
    (λ a. eqb x a.id && eqb machine_kind a.kind)
    (λ a e. and_both (eqb x a.id) (eqb machine_kind a.kind)
    (and_left (eqb x a.id) (eqb machine_kind a.kind && (not (eqb a.owner 0) && not (covers r moment a.owner u))) e)
    (and_left (eqb machine_kind a.kind) (not (eqb a.owner 0) && not (covers r moment a.owner u))
    (and_right (eqb x a.id) (eqb machine_kind a.kind && (not (eqb a.owner 0) && not (covers r moment a.owner u))) e)))
    (actors_of r.actors) h

-- a human's one-use action is permitted where the human covers the use
pub human_permits : (r : Register) (y : ℕ) (u : Usage) (moment : ℕ) → Asked r y u moment → human (actors_of r.actors) y ≡ true
    → permits r (one_use y u moment) ≡ covers r moment y u
human_permits r y u moment asked h =
    let unlike = human_unlike r asked.judged y h in
    iff_same (permits r (one_use y u moment)) (covers r moment y u) (λ e. (permits_out r y u moment e).covered)
    (λ e. permits_in r y u moment record {
      passed = record { soundly = asked.judged; fits = one_fits r y u moment asked; known = asked.known };
      owned = unlike_owned r y unlike;
      covered = e;
      owner_covers = unlike_lacks r moment y u unlike;
    })

module _ (r : Register) (x : ℕ) (u : Usage) (moment : ℕ) (asked : Asked r x u moment) (a : Actor) (at : IsIn (actors_of r.actors) a) (named : x ≡ a.id)
    (machine : a.kind ≡ machine_kind) (owned : a.owner ≡ 0 → ⊥) where
  -- a machine's owner lacks the use where that owner does not cover it
  lacks_owner : owner_lacks r moment x u ≡ not (covers r moment a.owner u)
  unfolding owner_lacks
  lacks_owner =
      let actors : List Actor = actors_of r.actors in
      let test : Actor → Bool = λ b. eqb x b.id && (eqb machine_kind b.kind && (not (eqb b.owner 0) && not (covers r moment b.owner u))) in
      iff_same (any test actors) (not (covers r moment a.owner u))
      (λ e. let found = any_place test actors e in
      let b : Actor = found.0 in
      let first = and_left (eqb x b.id) (eqb machine_kind b.kind && (not (eqb b.owner 0) && not (covers r moment b.owner u))) found.2 in
      let rest = and_right (eqb x b.id) (eqb machine_kind b.kind && (not (eqb b.owner 0) && not (covers r moment b.owner u))) found.2 in
      let last = and_right (not (eqb b.owner 0)) (not (covers r moment b.owner u))
      (and_right (eqb machine_kind b.kind) (not (eqb b.owner 0) && not (covers r moment b.owner u)) rest) in
      let one : b ≡ a = one_by_id (λ (c : Actor). c.id) actors (sound_out r asked.judged).actors.apart b a found.1 at (sym (eqb-true x b.id first) ∙ named) in
      let same : covers r moment b.owner u ≡ covers r moment a.owner u = ap (λ c. covers r moment c.owner u) one in
      rw (← same) last)
      (λ e. place_any test actors a at
      (and_both (eqb x a.id) _ (eq-eqb x a.id named) (and_both (eqb machine_kind a.kind) _ (eq-eqb machine_kind a.kind (sym machine))
      (and_both (not (eqb a.owner 0)) _ (ap not (ne_eqb a.owner 0 owned)) e))))

  -- so the owner's own one-use action tells
  pub owner_own_use : owner_lacks r moment x u ≡ not (permits r (one_use a.owner u moment))
  owner_own_use =
      let actors : List Actor = actors_of r.actors in
      let fits = actor_fits_out (human actors) a (all_place (λ b. actor_fits (human actors) b ≡ true) actors
      (every_all (actor_fits (human actors)) actors (sound_out r asked.judged).actors.fit) a at) in
      let person = fits.owner_human owned in
      lacks_owner
      ∙ ap not (sym (human_permits r a.owner u moment
      record { judged = asked.judged; ranged = asked.ranged; right = asked.right; timely = asked.timely; known = human_known r a.owner person } person))
