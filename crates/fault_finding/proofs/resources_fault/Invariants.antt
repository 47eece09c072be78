-- The first broken resource is the first of what is left, behind those that were passed (Walking).
use Rattle.register.specs.Register.{actors_of}
use Rattle.soundness_rules.specs.Sound.{human}
use Rattle.faults.specs.Faults.{resource_tests}
use Rattle.fault_finding.proofs.Walking.{Walk}
use Rattle.fault_finding.proofs.resources_fault.Given as goal

abbrev pub invariant-loop-i : goal.invariant-loop-i
invariant-loop-i l = Walk (resource_tests (human (actors_of l.a))) l.o.count l.o.list l.top l.i
