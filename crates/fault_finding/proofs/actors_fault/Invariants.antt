-- The first broken actor is the first of what is left, behind those that were passed (Walking).
use Rattle.register.specs.Register.{actors_of}
use Rattle.soundness_rules.specs.Sound.{human}
use Rattle.faults.specs.Faults.{actor_tests}
use Rattle.fault_finding.proofs.Walking.{Walk}
use Rattle.fault_finding.proofs.actors_fault.Given as goal

abbrev pub invariant-loop-i : goal.invariant-loop-i
invariant-loop-i l = Walk (actor_tests (human (actors_of l.a))) l.a.count l.a.list l.top l.i
