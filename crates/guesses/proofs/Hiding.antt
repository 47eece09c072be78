-- What is hidden from an actor is covered neither by the actor nor by its owner. Assumes nothing.
use Rattle.std.proofs.Common.{◌≡◌, refl, true, false, not, ◌&&◌, ◌||◌, inl, inr, ℕ, eqb}
use mathlib.Core.Bool.{and-false}
use borrow.Author.Tests.{not-true}
use Rattle.lists.specs.Tests.{cases, and_left, and_right}
use Rattle.lists.specs.Lists.{any}
use Rattle.lists.specs.Each.{none_weaken}
use Rattle.rights.specs.Rights.{reading}
use Rattle.register.specs.Register.{resources_of, claims_of}
use Rattle.register.specs.declared.Register.{Register}
use Rattle.actions.specs.declared.Usage.{Usage}
use Rattle.gate_rules.specs.Gate.{public_read, contains, covering, covers}
use Rattle.gate_rules.proofs.Coverage.{covering_out, absent_not_covered}
use Rattle.guesses.specs.Alike.{owner_of, held_by, hidden}
use Rattle.guesses.proofs.Firsts.{any_filter}
use Rattle.guesses.proofs.Views.{Sees, covering_held}

-- a hidden number, taken apart
pub hidden_cases : {A : Type 0} (r : Register) (x n : ℕ) → hidden r x n ≡ true
    → (any (λ o. eqb n o.id) (resources_of r.resources) ≡ false → A)
    → (any (λ o. eqb n o.id && eqb o.public 1) (resources_of r.resources) ≡ false → any (λ c. contains r c.resource n) (held_by r x) ≡ false → A) → A
unfolding hidden
hidden_cases r x n h f g =
    let is_public = any (λ o. eqb n o.id && eqb o.public 1) (resources_of r.resources) in
    let inside = any (λ c. contains r c.resource n) (held_by r x) in
    cases (any (λ o. eqb n o.id) (resources_of r.resources))
    (λ stands. let told : not is_public && not inside ≡ true = rw stands at h in
    g (not-true is_public (and_left (not is_public) (not inside) told)) (not-true inside (and_right (not is_public) (not inside) told)))
    f

-- neither x nor its owner y covers a use of what is hidden from x
pub hidden_uncovered : (r : Register) (moment x y : ℕ) → Sees r x y → (u : Usage) → hidden r x u.resource ≡ true → covers r moment y u ≡ false
unfolding covers public_read
hidden_uncovered r moment x y who u h =
    hidden_cases r x u.resource h (absent_not_covered r moment y u)
    (λ closed outside. rw (
      closed,
      and-false (eqb u.right reading),
      any_filter (covering r moment y u) (λ c. eqb c.holder x || eqb c.holder (owner_of r x)) (covering_held r moment x y who u) (claims_of r.claims),
    ) (none_weaken (covering r moment y u) (λ c. contains r c.resource u.resource) (λ c e. (covering_out r moment y u c e).containing) (held_by r x) outside))

-- what is hidden from x is covered by x and by its owner as little
pub actor_uncovered : (r : Register) (moment x : ℕ) (u : Usage) → hidden r x u.resource ≡ true → covers r moment x u ≡ false
actor_uncovered r moment x = hidden_uncovered r moment x x (inl refl)

pub owner_uncovered_lem : (r : Register) (moment x : ℕ) (u : Usage) → hidden r x u.resource ≡ true → covers r moment (owner_of r x) u ≡ false
owner_uncovered_lem r moment x = hidden_uncovered r moment x (owner_of r x) (inr refl)
