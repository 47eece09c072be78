-- Believed: The answer to why an actor may make a use or may not: the gate's refusal, or the reason of the actor and, of a machine with an owner, the owner's.
use Rattle.std.specs.Prelude.{Bool, ◌&&◌, ◌||◌, not, cond, List, [], ◌∷◌, ◌++◌, ℕ, suc, ◌-◌, eqb, length, replicate, Result, Err, Ok}
use Rattle.register.specs.Limits.{machine_kind, hop_limit}
use Rattle.register.specs.Register.{actors_of}
use Rattle.register.specs.declared.Actor.{Actor}
use Rattle.register.specs.declared.Register.{Register}
use Rattle.refusals.specs.Refusals.{outcome_of, is_accepted}
use Rattle.refusals.specs.declared.Refusal.{Refusal}
use Rattle.actions.specs.Actions.{one_use}
use Rattle.actions.specs.declared.Usage.{Usage}
use Rattle.gate_rules.specs.Gate.{first_of, gate_tests}
use Rattle.reasons.specs.Reasons.{reason_of, Telling, telling, telling_none}
use Rattle.reasons.specs.declared.Told.{Told}
use Rattle.reasons.specs.declared.UseTold.{UseTold}

-- the owner of the machine numbered x; 0 where it has none, or is no machine
abbrev pub first_owner : List Actor → ℕ
first_owner [] = 0
first_owner (a ∷ more) = a.owner

abbrev pub machine_owner : Register → ℕ → ℕ
machine_owner r x = first_owner (first_of (λ a. eqb x a.id && eqb machine_kind a.kind) (actors_of r.actors))

pub record UseTelling : Type 0 where
  pub outcome : Result Unit Refusal
  pub reason : Telling
  pub owner : ℕ
  pub owner_reason : Telling

-- nothing was asked
abbrev pub refused_for : Refusal → UseTelling
refused_for why = record { outcome = Err why; reason = telling_none 0; owner = 0; owner_reason = telling_none 0 }

abbrev pub why_on : Result Unit Refusal → Register → ℕ → Usage → ℕ → UseTelling
why_on (Ok _) r x u moment = record {
  outcome = Ok tt;
  reason = telling r moment (reason_of r moment x u);
  owner = machine_owner r x;
  owner_reason = cond (eqb (machine_owner r x) 0) (telling_none 0) (telling r moment (reason_of r moment (machine_owner r x) u));
}
why_on (Err why) r x u moment = refused_for why

unfoldable pub why_use : Register → ℕ → Usage → ℕ → UseTelling
why_use r x u moment = why_on (outcome_of (gate_tests r (one_use x u moment))) r x u moment

-- whether a reason told has the use covered: kinds 1 and 2
abbrev pub covering_kind : Telling → Bool
covering_kind t = eqb t.kind 1 || eqb t.kind 2

-- whether the answer has the use permitted, of a machine or not
abbrev pub tells_permitted : Bool → UseTelling → Bool
tells_permitted machine t = is_accepted t.outcome && (covering_kind t.reason && (not machine || covering_kind t.owner_reason))

-- what is told as the answer holds it: the chain in an array of 17, with zeros past it
abbrev pub chain_limit : ℕ
chain_limit = suc hop_limit

abbrev pub told_of : Telling → Told
told_of t = record {
  kind = t.kind;
  count = t.count;
  chain = t.chain ++ replicate (chain_limit - length t.chain) 0;
  keeper = t.keeper;
  ended = t.ended;
}

abbrev pub use_told_of : UseTelling → UseTold
use_told_of t = record { outcome = t.outcome; actor = told_of t.reason; owner = t.owner; owners = told_of t.owner_reason }
