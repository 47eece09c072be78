-- In a sound register the record of an actor's owner is told by the actor's own, so two registers that agree on the one agree on the other.
-- Assumes nothing.
use Rattle.std.proofs.Common.{◌≡◌, ap, sym, ◌∙◌, true, ◌&&◌, [], ◌∷◌, ℕ, arith, eqb-true, eq-eqb, eqb}
use borrow.Author.Tests.{eqb-false}
use Rattle.lists.specs.Tests.{cases, and_left, and_right}
use Rattle.lists.specs.Lists.{any}
use Rattle.lists.specs.Each.{every_all}
use Rattle.register.specs.Limits.{human_kind}
use Rattle.register.specs.Register.{actors_of}
use Rattle.register.specs.declared.Actor.{Actor}
use Rattle.register.specs.declared.Register.{Register}
use Rattle.soundness_rules.specs.Sound.{human, actor_fits, sound}
use Rattle.soundness_rules.proofs.Registers.{ActorFits, actor_fits_out, sound_out}
use Rattle.gate_rules.specs.Authority.{IsIn}
use Rattle.gate_rules.specs.Places.{any_place, place_any, all_place, first_found, first_none}
use Rattle.gate_rules.proofs.Trace.{distinct_place}
use Rattle.guesses.specs.Alike.{record_of, owner_in, owner_of}

actor_fields_lem : (b : Actor) (n : ℕ) → n ≡ b.id → human_kind ≡ b.kind → b.owner ≡ 0 → b ≡ record { id = n; kind = human_kind; owner = 0 }
actor_fields_lem b n named kind owner = rw (named, kind, ← owner)

module _ (r : Register) (h : sound r ≡ true) where
  fits : (a : Actor) → IsIn (actors_of r.actors) a → ActorFits (human (actors_of r.actors)) a
  fits a at =
      actor_fits_out (human (actors_of r.actors)) a
      (all_place (λ a. actor_fits (human (actors_of r.actors)) a ≡ true) (actors_of r.actors)
      (every_all (actor_fits (human (actors_of r.actors))) (actors_of r.actors) (sound_out r h).actors.fit) a at)

  -- no actor has the number 0
  nobody : record_of r 0 ≡ []
  nobody =
      cases (any (λ a. eqb 0 a.id) (actors_of r.actors))
      (λ some. let found = any_place (λ a. eqb 0 a.id) (actors_of r.actors) some in
      absurd (omega (arith, eqb-true 0 found.0.id found.2, (fits found.0 found.1).id_least)))
      (λ none. first_none (λ a. eqb 0 a.id) (actors_of r.actors) none)

  -- a human has no owner
  human_at : (n : ℕ) (b : Actor) → IsIn (actors_of r.actors) b → n ≡ b.id → human_kind ≡ b.kind
      → record_of r n ≡ record { id = n; kind = human_kind; owner = 0 } ∷ []
  human_at n b at named kind =
      let first = first_found (λ a. eqb n a.id) (actors_of r.actors)
      (place_any (λ a. eqb n a.id) (actors_of r.actors) b at (eq-eqb n b.id named)) in
      let one : first.0 ≡ b =
      distinct_place (λ a. a.id) (actors_of r.actors) (sound_out r h).actors.apart first.0 b first.1.place at
      (sym (eqb-true n first.0.id first.1.passes) ∙ named) in
      let owner : b.owner ≡ 0 =
      cases (eqb b.owner 0) (λ e. eqb-true b.owner 0 e)
      (λ e. absurd (omega (arith, kind, (fits b at).owned_machine (eqb-false b.owner 0 e)))) in
      first.1.alone ∙ ap (λ a. a ∷ []) (one ∙ actor_fields_lem b n named kind owner)

  human_record : (n : ℕ) → human (actors_of r.actors) n ≡ true → record_of r n ≡ record { id = n; kind = human_kind; owner = 0 } ∷ []
  human_record n is =
      let found = any_place (λ a. eqb n a.id && eqb human_kind a.kind) (actors_of r.actors) is in
      human_at n found.0 found.1 (eqb-true n found.0.id (and_left (eqb n found.0.id) (eqb human_kind found.0.kind) found.2))
      (eqb-true human_kind found.0.kind (and_right (eqb n found.0.id) (eqb human_kind found.0.kind) found.2))

  -- the owner in a record is a human, or 0
  owner_human_lem : (x : ℕ) → (owner_of r x ≡ 0 → ⊥) → human (actors_of r.actors) (owner_of r x) ≡ true
  owner_human_lem x some =
      cases (any (λ a. eqb x a.id) (actors_of r.actors))
      (λ stands. let found = first_found (λ a. eqb x a.id) (actors_of r.actors) stands in
      let owner : owner_of r x ≡ found.0.owner = ap owner_in found.1.alone in
      ap (human (actors_of r.actors)) owner ∙ (fits found.0 found.1.place).owner_human (λ none. some (owner ∙ none)))
      (λ absent. absurd (some (ap owner_in (first_none (λ a. eqb x a.id) (actors_of r.actors) absent))))

-- so the premise on the owner's record follows from that on the actor's
pub owner_record_same : (r s : Register) → sound r ≡ true → sound s ≡ true → (x : ℕ) → record_of r x ≡ record_of s x
    → record_of r (owner_of r x) ≡ record_of s (owner_of s x)
owner_record_same r s h k x e =
    let one : owner_of r x ≡ owner_of s x = ap owner_in e in
    cases (eqb (owner_of r x) 0)
    (λ none. let zero : owner_of r x ≡ 0 = eqb-true (owner_of r x) 0 none in
    ap (record_of r) zero ∙ nobody r h ∙ sym (ap (record_of s) (sym one ∙ zero) ∙ nobody s k))
    (λ owned. let some = eqb-false (owner_of r x) 0 owned in
    human_record r h (owner_of r x) (owner_human_lem r h x some)
    ∙ ap (λ n. record { id = n; kind = human_kind; owner = 0 } ∷ []) one
    ∙ sym (human_record s k (owner_of s x) (owner_human_lem s k x (λ none. some (one ∙ none)))))
