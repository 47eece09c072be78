-- The owner of a machine, found actor by actor; in a sound register it is another than the machine. Assumes nothing.
use Rattle.std.proofs.Common.{◌≡◌, refl, sym, ap, ◌∙◌, Bool, true, false, not, ◌&&◌, cond, List, [], ◌∷◌, map, ℕ, ◌≤◌, arith, eqb-true, eqb}
use borrow.Author.Tests.{eqb-false, not-true}
use Rattle.lists.specs.Tests.{cases, and_left, and_right}
use Rattle.lists.specs.Lists.{any}
use Rattle.lists.specs.Each.{every_all}
use Rattle.register.specs.Limits.{resource_limit, human_kind, machine_kind}
use Rattle.register.specs.Register.{actors_of}
use Rattle.register.specs.declared.Actor.{Actor}
use Rattle.register.specs.declared.Register.{Register}
use Rattle.soundness_rules.specs.Sound.{human, actor_fits, sound}
use Rattle.soundness_rules.proofs.Registers.{sound_out, actor_fits_out}
use Rattle.gate_rules.specs.Gate.{first_of}
use Rattle.gate_rules.specs.Places.{any_place, all_place, first_hit, first_miss, first_none, first_found}
use Rattle.gate_rules.proofs.Trace.{distinct_place}
use Rattle.coverage_table.specs.Table.{table_owner}
use Rattle.table_showing.specs.Shown.{owner_shown}

-- whether an actor is the machine numbered x, with an owner
abbrev owned : ℕ → Actor → Bool
owned x a = eqb x a.id && (eqb machine_kind a.kind && not (eqb a.owner 0))

-- the owner of the first that is
abbrev pub first_owner : ℕ → List Actor → ℕ
first_owner x l = owner_shown (map (λ a. a.owner) (first_of (owned x) l))

-- an actor is read, which is the first of those left
pub owner_here : (x : ℕ) {a b : Actor} (l : List Actor) → b ≡ a → eqb x b.id && (eqb machine_kind b.kind && not (eqb b.owner 0)) ≡ true
    → first_owner x (a ∷ l) ≡ b.owner
owner_here x {a} {b} l read e = rw (← read) (ap (λ m. owner_shown (map (λ a. a.owner) m)) (first_hit (owned x) b l e))

pub owner_further : (x : ℕ) {a b : Actor} (l : List Actor) → b ≡ a → eqb x b.id && (eqb machine_kind b.kind && not (eqb b.owner 0)) ≡ false
    → first_owner x (a ∷ l) ≡ first_owner x l
owner_further x {a} {b} l read e = rw (← read) (ap (λ m. owner_shown (map (λ a. a.owner) m)) (first_miss (owned x) b l e))

pub owner_none : (x : ℕ) → first_owner x [] ≡ 0
owner_none x = ap (λ m. owner_shown (map (λ a. a.owner) m)) (first_none (owned x) [] refl)

-- the owner of an actor: none, or one that is not 0 and another than the actor
pub owner_cases : {A : Type 0} (r : Register) → sound r ≡ true → (x : ℕ) → (table_owner r x ≡ [] → A)
    → ((y : ℕ) → table_owner r x ≡ y ∷ [] → (y ≡ 0 → ⊥) → (x ≡ y → ⊥) → A) → A
owner_cases r h x f g =
    let actors : List Actor = actors_of r.actors in
    cases (any (owned x) actors)
    (λ some. let found = first_found (owned x) actors some in
    let a : Actor = found.0 in
    let named : x ≡ a.id = eqb-true x a.id (and_left (eqb x a.id) (eqb machine_kind a.kind && not (eqb a.owner 0)) found.1.passes) in
    let kept = and_right (eqb x a.id) (eqb machine_kind a.kind && not (eqb a.owner 0)) found.1.passes in
    let machine : machine_kind ≡ a.kind = eqb-true machine_kind a.kind (and_left (eqb machine_kind a.kind) (not (eqb a.owner 0)) kept) in
    let owns : (a.owner ≡ 0 → ⊥) = eqb-false a.owner 0 (not-true (eqb a.owner 0) (and_right (eqb machine_kind a.kind) (not (eqb a.owner 0)) kept)) in
    let fits = all_place (λ b. actor_fits (human actors) b ≡ true) actors (every_all (actor_fits (human actors)) actors (sound_out r h).actors.fit) a found.1.place in
    let person = any_place (λ b. eqb a.owner b.id && eqb human_kind b.kind) actors ((actor_fits_out (human actors) a fits).owner_human owns) in
    let b : Actor = person.0 in
    let known : a.owner ≡ b.id = eqb-true a.owner b.id (and_left (eqb a.owner b.id) (eqb human_kind b.kind) person.2) in
    let kind : human_kind ≡ b.kind = eqb-true human_kind b.kind (and_right (eqb a.owner b.id) (eqb human_kind b.kind) person.2) in
    g a.owner (ap (map (λ a. a.owner)) found.1.alone) owns
    (λ same. let one : a ≡ b = distinct_place (λ c. c.id) actors (sound_out r h).actors.apart a b found.1.place person.1 (sym named ∙ same ∙ known) in
    omega (arith, machine, kind, ap (λ c. c.kind) one)))
    (λ none. f (ap (map (λ a. a.owner)) (first_none (owned x) actors none)))

-- as many rows are shown of it as there are, or none
pub rows_few : (owner m n : ℕ) → n ≡ cond (eqb owner 0) 0 m → m ≤ resource_limit → n ≤ resource_limit
rows_few owner m n told few =
    cases (eqb owner 0)
    (λ e. let none : n ≡ 0 = told ∙ rw e in omega (arith, none))
    (λ e. let every : n ≡ m = told ∙ rw e in omega (arith, every, few))
