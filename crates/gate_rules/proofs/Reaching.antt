-- Laws: How far a resource reaches to another, by their numbers: in a sound register that is asked of the paths of those that stand. Assumes nothing.
use Rattle.std.specs.Prelude.{◌≡◌, refl, true, eqb}
use Rattle.std.proofs.Common.{sym, ap, ◌∙◌, eqb-true, eq-eqb}
use Rattle.paths.specs.Containment.{reached}
use Rattle.register.specs.Register.{resources_of, path_of}
use Rattle.register.specs.declared.Resource.{Resource}
use Rattle.register.specs.declared.Register.{Register}
use Rattle.soundness_rules.specs.Sound.{sound}
use Rattle.soundness_rules.proofs.Registers.{sound_out}
use Rattle.gate_rules.specs.Gate.{path_in, path_by, reach_of}
use Rattle.gate_rules.specs.Places.{place_any, first_found}
use Rattle.gate_rules.proofs.Trace.{distinct_place}
use Rattle.gate_rules.specs.Authority.{IsIn}

module _ (r : Register) (h : sound r ≡ true) where
  -- the path by a number is that of the resource that has it
  pub path_natural : (o : Resource) → IsIn (resources_of r.resources) o → path_by r o.id ≡ path_of o
  path_natural o at =
      let found = first_found (λ q. eqb o.id q.id) (resources_of r.resources)
      (place_any (λ q. eqb o.id q.id) (resources_of r.resources) o at (eq-eqb o.id o.id refl)) in
      let one : found.0 ≡ o =
      distinct_place (λ q. q.id) (resources_of r.resources) (sound_out r h).resources.apart found.0 o found.1.place at
      (sym (eqb-true o.id found.0.id found.1.passes)) in
      ap path_in found.1.alone ∙ ap path_of one

  -- and how far one reaches to another is how far its path does
  pub reach_natural : (o i : Resource) → IsIn (resources_of r.resources) o → IsIn (resources_of r.resources) i
      → reach_of r o.id i.id ≡ reached (path_of o) (path_of i)
  unfolding reach_of
  reach_natural o i at by = rw (path_natural o at, path_natural i by)
