-- What is proved of the gate's answer `gated`: what stops it, what it permits and what it never permits. TheoremsUses has what is proved of uses,
-- TheoremsPlans what is proved of plans, TheoremsViolations what is proved of the list of violations. Assumes nothing.
use Rattle.std.proofs.Common.{Err, Ok, ◌≡◌, true, false, List, [], ℕ, ◌<◌, ◌/◌, ◌%◌, ◌^◌, length}
use Rattle.lists.specs.Lists.{All}
use Rattle.refusals.specs.Refusals.{outcome_of}
use Rattle.refusals.specs.declared.Refusal.{Refusal}
use Rattle.refusals.specs.declared.Refusal.TheVariants.{Unsound}
use Rattle.register.specs.Register.{actors_of, claims_of}
use Rattle.register.specs.Chain.{latest, chain_of, live, Lasting}
use Rattle.register.proofs.Liveness as liveness
use Rattle.register.specs.declared.Actor.{Actor}
use Rattle.register.specs.declared.Claim.{Claim}
use Rattle.register.specs.declared.Register.{Register}
use Rattle.soundness_rules.specs.Sound.{sound, is_machine}
use Rattle.actions.specs.Actions.{flag_count, uses_of, governs_of}
use Rattle.actions.specs.declared.Usage.{Usage}
use Rattle.actions.specs.declared.Action.{Action}
use Rattle.actions.specs.declared.Decision.TheVariants.{Permitted, Refused, Stopped}
use Rattle.gate_rules.specs.Gate.{is_ownerless, violations_of, hop_counts, gate_tests, listed, padded, decided, gated}
use Rattle.gate_rules.proofs.Laws as laws
use Rattle.gate_rules.specs.Authority.{IsIn, Passed, higher_than, Authority}
use Rattle.gate_rules.proofs.Stops as stops
use Rattle.gate_rules.proofs.Flags as flags
use Rattle.gate_rules.proofs.Machines as machines
use Rattle.gate_rules.proofs.Liveness as lives
use Rattle.gate_rules.proofs.Tracing as authority
use Rattle.gate_rules.proofs.Permission as permission

-- 1a. A call that a test stops gives no violations and no hop counts.
pub gated_stopped : (r : Register) (a : Action) (why : Refusal) → outcome_of (gate_tests r a) ≡ Err why
    → gated r a ≡ record { decision = Stopped why; violations = listed []; hops = padded [] }
gated_stopped = laws.gated_stopped

-- 1b. Any other gives the violations and the hop counts, and permits where there are no violations.
pub gated_judged : (r : Register) (a : Action) → outcome_of (gate_tests r a) ≡ Ok tt
    → gated r a ≡ record { decision = decided (violations_of r a); violations = listed (violations_of r a); hops = padded (hop_counts r a) }
gated_judged = laws.gated_judged

-- 1c. A call over a register that is not sound is stopped with 1, whatever the action.
pub gate_unsound : (r : Register) (a : Action) → sound r ≡ false → gated r a ≡ record { decision = Stopped Unsound; violations = listed []; hops = padded [] }
gate_unsound = stops.gate_unsound

-- 2a. Whatever is permitted rests, use by use, on a public READ or on a claim of the actor that is live over its whole chain, which only weakens from
-- a root granted by the resource's keeper; and a machine's owner, who is a human of the register, has as much.
pub traceable_authority : (r : Register) (a : Action) → (gated r a).decision ≡ Permitted → (u : Usage) → IsIn (uses_of a) u → Authority r a u
traceable_authority = authority.permitted_authority

-- 2b. The actor of what is permitted stands.
pub permitted_actor : (r : Register) (a : Action) → (gated r a).decision ≡ Permitted → (b : Actor) × IsIn (actors_of r.actors) b × (b.id ≡ a.actor)
permitted_actor = authority.permitted_actor

-- 2c. Such authority is enough: an action that no test stops is permitted where it has no flag, is by no machine that governs or lacks an owner, and has
-- authority for each use.
pub authority_permits : (r : Register) (a : Action) → Passed r a → a.flags ≡ 0 → is_ownerless r a.actor ≡ false
    → (is_machine (actors_of r.actors) a.actor ≡ true → governs_of a ≡ []) → ((u : Usage) → IsIn (uses_of a) u → Authority r a u) → (gated r a).decision ≡ Permitted
authority_permits = permission.authority_permits

-- 2d. A claim is live exactly where each claim on its chain has weight above 0, and expiry 0 or above the moment.
pub live_natural : (moment : ℕ) (earlier : List Claim) (c : Claim)
    → (live moment earlier c ≡ true → All (λ d. Lasting moment d) (chain_of earlier c)) × (All (λ d. Lasting moment d) (chain_of earlier c) → live moment earlier c ≡ true)
live_natural moment earlier c = (liveness.live_lasting moment earlier c, liveness.lasting_live moment earlier c)

-- 2e. In a sound register, where a claim is live, so is each claim higher on its chain: a grant does not outlive its source.
pub source_lives : (r : Register) → sound r ≡ true → (moment : ℕ) (c : Claim) → live moment (latest (claims_of r.claims)) c ≡ true
    → All (λ d. live moment (latest (claims_of r.claims)) d ≡ true) (higher_than r c)
source_lives = lives.source_lives

-- 3a. A permitted action has no flag set.
pub permitted_flagless : (r : Register) (a : Action) → (gated r a).decision ≡ Permitted → a.flags ≡ 0
permitted_flagless = flags.permitted_flagless

-- 3b. An action with one of the ten flags set is refused, where no test stops it.
pub flag_refuses : (r : Register) (a : Action) → Passed r a → (i : ℕ) → i < flag_count → (a.flags / 2 ^ i % 2 ≡ 0 → ⊥) → (gated r a).decision ≡ Refused
flag_refuses = flags.flag_refuses

-- 4a. A machine without an owner is never permitted.
pub ownerless_never : (r : Register) (a : Action) → is_ownerless r a.actor ≡ true → (gated r a).decision ≡ Permitted → ⊥
ownerless_never = machines.ownerless_never

-- 4b. A machine that governs is never permitted.
pub governing_never : (r : Register) (a : Action) → is_machine (actors_of r.actors) a.actor ≡ true → 0 < length (governs_of a) → (gated r a).decision ≡ Permitted → ⊥
governing_never = machines.governing_never

-- 4c. A governed count above 0 is a governed entry, where the list has one.
pub governing_entries : (a : Action) → 0 < a.governed → 0 < length a.governs → 0 < length (governs_of a)
governing_entries = machines.governing_entries
