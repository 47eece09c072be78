-- Small texts that are to be registers: what is told of a failing line, and of the register that the lines say. All by computing. Assumes nothing.
use Rattle.std.proofs.Common.{◌≡◌, refl, cond, List, [], ◌∷◌, ℕ, eqb}
use Prim.Native.Char.{code}
use Prim.Native.String.{String, [] as end, ◌∷◌ as ◌then◌}
use Rattle.lists.specs.Lists.{dropping}
use Rattle.decimals.specs.Decimals.{after, value, canonical, parse, digit_run}
use Rattle.lines.specs.Lines.{begins, ended, parse_limited, at_least, parse_word, path_on, parse_scope}
use Rattle.soundness_rules.specs.Sound.{each_stored, claim_fits, names_stand, root_kept, fresh}
use Rattle.refusals.specs.Refusals.{outcome_of}
use Rattle.text_rules.specs.Records.{values, passed, many}
use Rattle.text_rules.specs.Registers.{read_actors, read_resources, read_claims, register_from}
use Rattle.change_rules.specs.Changes.{world_tests, parent_tests, source_live}
use Rattle.faults.specs.Faults.{broken_in, actor_tests, resource_tests, higher_tests, claim_tests, record_fault, first_fault, fault_of}
use Rattle.faults.specs.Unread.{why_unread}
use Rattle.faults.specs.declared.Fault.{Fault}

-- the bytes of a text: one line per item, split by spaces
abbrev lined : String → List ℕ
lined end = 10 ∷ []
lined (c then s) = cond (eqb (code c) 32) 10 (code c) ∷ lined s

abbrev fault : ℕ → ℕ → ℕ → ℕ → ℕ → Fault
fault why list place id line = record { sound = 0; why = why; list = list; id = id; place = place; line = line }

texts : (why_unread [] ≡ fault 19 0 0 0 1)
    × (why_unread (lined "register=1 actors=65") ≡ fault 20 0 0 0 2)
    × (why_unread (lined "register=1 actors=0 resources=0 claims=0") ≡ record { sound = 1; why = 0; list = 0; id = 0; place = 0; line = 0 })
    × (why_unread (lined "register=1 actors=1 actor=7 kind=human owner=7 resources=0 claims=0") ≡ fault 32 1 0 7 0)
    × (why_unread (lined "register=1 actors=1 actor=7 kind=human owner=7 resources=0 claims=0 more") ≡ fault 19 0 0 0 8)
unfolding why_unread register_from read_actors read_resources read_claims values passed many parse_limited at_least begins ended parse canonical digit_run after value parse_word parse_scope path_on each_stored fault_of first_fault record_fault broken_in outcome_of actor_tests resource_tests higher_tests claim_tests world_tests parent_tests source_live dropping claim_fits names_stand root_kept fresh
texts = (refl, refl, refl, refl, refl)
