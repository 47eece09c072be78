-- Laws: What code that walks claim by claim and cell by cell cites: a cell after one claim more, and that in a sound register containment by numbers is
-- that of the paths. Assumes nothing.
use Rattle.std.specs.Prelude.{◌≡◌, refl, true, not, ◌&&◌, cond, List, [], ◌∷◌, ◌++◌, ℕ, eqb}
use Rattle.std.proofs.Common.{◌∙◌}
use Rattle.lists.specs.Lists.{any, ands}
use Rattle.lists.specs.Each.{ands_out}
use Rattle.rights.specs.Rights.{has_right}
use Rattle.paths.specs.Containment.{contained, reached}
use Rattle.register.specs.Register.{resources_of, claims_of, path_of}
use Rattle.register.specs.Chain.{latest}
use Rattle.register.specs.declared.Resource.{Resource}
use Rattle.register.specs.declared.Claim.{Claim}
use Rattle.register.specs.declared.Register.{Register}
use Rattle.soundness_rules.specs.Sound.{names_stand, sound}
use Rattle.soundness_rules.proofs.Places.{place_acceptable}
use Rattle.soundness_rules.proofs.Registers.{sound_out}
use Rattle.gate_rules.specs.Gate.{contains}
use Rattle.gate_rules.proofs.Coverage.{sound_place}
use Rattle.gate_rules.proofs.Reaching.{reach_natural}
use Rattle.gate_rules.specs.Authority.{IsIn}
use Rattle.coverage_table.specs.Table.{Remark, Entry, claimed, speaks, keeps_off, entry_after}
use Rattle.coverage_table.proofs.Remarks.{world_around}
use Rattle.coverage_table.proofs.Cells.{any_named}
use Rattle.coverage_table.specs.Hearing.{heard}

-- one claim more
pub heard_next : (r : Register) (x : ℕ) (o : Resource) (b : ℕ) (remarks : List Remark) (n : Remark) (e : Entry)
    → heard r x o b (remarks ++ (n ∷ [])) e ≡ entry_after r x o b n (heard r x o b remarks e)
heard_next r x o b [] n e = refl
heard_next r x o b (m ∷ remarks) n e = heard_next r x o b remarks n (entry_after r x o b m e)

-- by the numbers of two resources that stand, containment is that of their paths
contained_paths : (r : Register) → sound r ≡ true → (o i : Resource) → IsIn (resources_of r.resources) o → IsIn (resources_of r.resources) i
    → contains r o.id i.id ≡ contained (path_of o) (path_of i)
unfolding contains
contained_paths r h o i at by =
    let apart = (sound_out r h).resources.apart in
    any_named (λ q. q.id) (λ o. any (λ q. eqb i.id q.id && contained (path_of o) (path_of q)) (resources_of r.resources)) (resources_of r.resources) apart o at
    ∙ any_named (λ q. q.id) (λ q. contained (path_of o) (path_of q)) (resources_of r.resources) apart i by

-- the resource of a claim stands
pub resource_stands : (r : Register) → sound r ≡ true → (c : Claim) → IsIn (claims_of r.claims) c
    → any (λ o. eqb c.resource o.id) (resources_of r.resources) ≡ true
unfolding names_stand
resource_stands r h c at =
    (ands_out ((world_around r).known c.grantor ∷ (world_around r).known c.holder ∷ (world_around r).listed c.resource ∷ [])
    (place_acceptable (world_around r) (latest at.after) c (latest at.before) (sound_place r h c at)).by_itself.stands).1.1.0

-- a cell after one claim more may be asked of the paths: q is the claim's resource, o the cell's
pub entered_natural : (r : Register) → sound r ≡ true → (x : ℕ) (o : Resource) (b : ℕ) (n : Remark) (e : Entry) (q : Resource)
    → IsIn (resources_of r.resources) q → IsIn (resources_of r.resources) o → q.id ≡ n.claim.resource
    → entry_after r x o b n e
    ≡ cond (ands (eqb n.claim.holder x ∷ n.lives ∷ has_right n.claim.rights b ∷ contained (path_of q) (path_of o) ∷ [])
    && not (keeps_off e (reached (path_of q) (path_of o)))) (claimed n.claim n.hops (reached (path_of q) (path_of o))) e
unfolding speaks
entered_natural r h x o b n e q at by named =
    rw (← named, contained_paths r h q o at by, reach_natural r h q o at by)
