-- A machine without an owner is never permitted, and neither is one that governs. Assumes nothing.
use Rattle.std.proofs.Common.{◌≡◌, ap, true, false, ◌<◌, arith, length, length-take}
use Rattle.lists.specs.Tests.{clash}
use Rattle.register.specs.Register.{actors_of}
use Rattle.register.specs.declared.Register.{Register}
use Rattle.soundness_rules.specs.Sound.{is_machine}
use Rattle.actions.specs.Actions.{governs_of}
use Rattle.actions.specs.declared.Action.{Action}
use Rattle.actions.specs.declared.Decision.TheVariants.{Permitted}
use Rattle.gate_rules.specs.Gate.{is_ownerless, gated}
use Rattle.gate_rules.proofs.Laws.{permitted_out}

pub permitted_owned : (r : Register) (a : Action) → (gated r a).decision ≡ Permitted → is_ownerless r a.actor ≡ false
permitted_owned r a h = (permitted_out r a h).clean.owned

pub ownerless_never : (r : Register) (a : Action) → is_ownerless r a.actor ≡ true → (gated r a).decision ≡ Permitted → ⊥
ownerless_never r a e h = clash (is_ownerless r a.actor) e (permitted_owned r a h)

pub governing_never : (r : Register) (a : Action) → is_machine (actors_of r.actors) a.actor ≡ true → 0 < length (governs_of a) → (gated r a).decision ≡ Permitted → ⊥
governing_never r a e some h = omega (arith, ap length ((permitted_out r a h).clean.ungoverning e))

-- a count above 0 is a governed entry, where the list has room for it
pub governing_entries : (a : Action) → 0 < a.governed → 0 < length a.governs → 0 < length (governs_of a)
governing_entries a some room = omega (arith, length-take a.governed a.governs)
