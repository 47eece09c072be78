-- Laws: A machine's owner is human, so not the machine: what is granted to a machine leaves its owner's cover as it was. Assumes nothing.
use Rattle.std.specs.Prelude.{◌≡◌, refl, Bool, true, false, not, ◌&&◌, List, [], ◌∷◌, map, ◌⊎◌, ℕ, eqb}
use Rattle.std.proofs.Common.{ap, sym, ◌∙◌, inl, inr, arith, eqb-true, eq-eqb}
use Rattle.std.proofs.lemmas.Bool.{eqb-false, not-true}
use Rattle.lists.specs.Tests.{clash, and_left, and_right}
use Rattle.lists.specs.Lists.{any, distinct}
use Rattle.lists.specs.Distinct.{distinct_cons}
use Rattle.lists.specs.Each.{all_imp, any_same, any_map, every_all}
use Rattle.register.specs.Limits.{human_kind, machine_kind}
use Rattle.register.specs.Register.{actors_of, Shaped}
use Rattle.register.specs.declared.Actor.{Actor}
use Rattle.register.specs.declared.Claim.{Claim}
use Rattle.register.specs.declared.Register.{Register}
use Rattle.soundness_rules.specs.Sound.{human, actor_fits, sound}
use Rattle.soundness_rules.proofs.Registers.{actor_fits_out, sound_out}
use Rattle.change_rules.specs.Changes.{appended}
use Rattle.actions.specs.declared.Usage.{Usage}
use Rattle.gate_rules.specs.Gate.{covers, owner_lacks}
use Rattle.gate_rules.specs.Authority.{IsIn}
use Rattle.gate_rules.specs.Places.{any_place, place_any, all_place, each_place, is_in_cases}
use Rattle.change_rules.proofs.Grants.{GrantPassed}
use Rattle.proposals.specs.Appending.{others_cover}

-- with distinct ids, two at places with one id are one
pub one_by_id : {C : Type 0} (id : C → ℕ) (L : List C) → distinct (map id L) ≡ true → (a b : C) → IsIn L a → IsIn L b → id a ≡ id b → a ≡ b
one_by_id {C} id [] h a b p q same = clash false (place_any (λ (c : C). true) [] a p refl) refl
one_by_id {C} id (d ∷ L) h a b p q same =
    let told = sym (distinct_cons (id d) (map id L)) ∙ h in
    let apart = not-true (any (eqb (id d)) (map id L)) (and_left (not (any (eqb (id d)) (map id L))) (distinct (map id L)) told) in
    let more = and_right (not (any (eqb (id d)) (map id L))) (distinct (map id L)) told in
    split (is_in_cases d L a p) (is_in_cases d L b q) (elsewhere apart) (one_by_id id L more a b)
  where
    elsewhere : any (eqb (id d)) (map id L) ≡ false → (e : C) → IsIn L e → id d ≡ id e → ⊥
    elsewhere apart e at k =
        clash (any (λ a. eqb (id d) (id a)) L) (place_any (λ a. eqb (id d) (id a)) L e at (eq-eqb (id d) (id e) k))
        (sym (any_map id (eqb (id d)) L) ∙ apart)

    split : (a ≡ d) ⊎ IsIn L a → (b ≡ d) ⊎ IsIn L b → ((e : C) → IsIn L e → id d ≡ id e → ⊥) → (IsIn L a → IsIn L b → id a ≡ id b → a ≡ b) → a ≡ b
    split (inl x) (inl y) f g = x ∙ sym y
    split (inl x) (inr y) f g = absurd (f b y (ap id (sym x) ∙ same))
    split (inr x) (inl y) f g = absurd (f a x (ap id (sym y) ∙ sym same))
    split (inr x) (inr y) f g = g x y same

-- a machine of a sound register is not its own owner
pub owner_other : (r : Register) → sound r ≡ true → (a : Actor) → IsIn (actors_of r.actors) a → a.kind ≡ machine_kind → (a.owner ≡ 0 → ⊥)
    → a.id ≡ a.owner → ⊥
owner_other r h a at machine owned same =
    let actors : List Actor = actors_of r.actors in
    let told = (sound_out r h).actors in
    let fits = actor_fits_out (human actors) a (all_place (λ b. actor_fits (human actors) b ≡ true) actors (every_all (actor_fits (human actors)) actors told.fit) a at) in
    let found = any_place (λ b. eqb a.owner b.id && eqb human_kind b.kind) actors (fits.owner_human owned) in
    let b : Actor = found.0 in
    let named : a.owner ≡ b.id = eqb-true a.owner b.id (and_left (eqb a.owner b.id) (eqb human_kind b.kind) found.2) in
    let kind : human_kind ≡ b.kind = eqb-true human_kind b.kind (and_right (eqb a.owner b.id) (eqb human_kind b.kind) found.2) in
    let one : a ≡ b = one_by_id (λ (c : Actor). c.id) actors told.apart a b at found.1 (same ∙ named) in
    let never : human_kind ≡ machine_kind = kind ∙ ap (λ e. e.kind) (sym one) ∙ machine in
    omega (arith, never)

-- the last of four tests decides only where the others are passed
last_same : (a b c d e : Bool) → (a ≡ true → b ≡ true → c ≡ true → d ≡ e) → a && (b && (c && not d)) ≡ a && (b && (c && not e))
last_same true true true d e f = ap not (f refl refl refl)
last_same true true false d e f = refl
last_same true false c d e f = refl
last_same false b c d e f = refl

-- so what its holder is granted leaves the owner's cover as it was
pub owner_kept : (r : Register) (c : Claim) (moment x : ℕ) (u : Usage) → Shaped r → GrantPassed r c moment → c.holder ≡ x
    → owner_lacks (appended r c) moment x u ≡ owner_lacks r moment x u
unfolding owner_lacks
owner_kept r c moment x u shaped h held =
    any_same (λ a. eqb x a.id && (eqb machine_kind a.kind && (not (eqb a.owner 0) && not (covers (appended r c) moment a.owner u))))
    (λ a. eqb x a.id && (eqb machine_kind a.kind && (not (eqb a.owner 0) && not (covers r moment a.owner u)))) (actors_of r.actors)
    (all_imp (λ a. IsIn (actors_of r.actors) a)
    (λ a. (eqb x a.id && (eqb machine_kind a.kind && (not (eqb a.owner 0) && not (covers (appended r c) moment a.owner u))))
    ≡ (eqb x a.id && (eqb machine_kind a.kind && (not (eqb a.owner 0) && not (covers r moment a.owner u)))))
    (λ a at. last_same (eqb x a.id) (eqb machine_kind a.kind) (not (eqb a.owner 0)) (covers (appended r c) moment a.owner u) (covers r moment a.owner u)
    (λ named machine owned. others_cover r c moment shaped h moment a.owner u
    (λ same. owner_other r h.judged a at (sym (eqb-true machine_kind a.kind machine)) (eqb-false a.owner 0 (not-true (eqb a.owner 0) owned))
    (sym (eqb-true x a.id named) ∙ sym held ∙ same))))
    (actors_of r.actors) (each_place (actors_of r.actors)))
