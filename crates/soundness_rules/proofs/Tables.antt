-- Laws: A table of claims is judged as the register whose claims it holds, and one of too many claims is not sound. Assumes nothing.
use Rattle.std.specs.Prelude.{◌≡◌, refl, false, List, map, ℕ, ◌≤◌, ◌<◌, length}
use Rattle.std.proofs.Common.{ap, arith, take_all, length-take-le}
use Rattle.lists.specs.Tests.{cases}
use Rattle.register.specs.Limits.{claim_limit}
use Rattle.register.specs.Register.{claims_of, claim_as, Shaped}
use Rattle.register.specs.declared.Actors.{Actors}
use Rattle.register.specs.declared.Resources.{Resources}
use Rattle.register.specs.declared.Claim.{Claim}
use Rattle.register.specs.declared.Register.{Register}
use Rattle.soundness_rules.specs.Sound.{sound, table_sound}
use Rattle.soundness_rules.proofs.Sameness.{sound_same}
use Rattle.soundness_rules.proofs.Registers.{sound_out}

-- the register of a table
abbrev pub table_register : ℕ → Actors → Resources → List Claim → Register
table_register version a o cs = record { actors = a; resources = o; claims = record { list = cs; count = length cs }; version = version }

pub table_as_register : (r : Register) → Shaped r → r.claims.count ≤ claim_limit → table_sound r.version r.actors r.resources (claims_of r.claims) ≡ sound r
table_as_register r shaped few =
    let cs = claims_of r.claims in
    sound_same (table_register r.version r.actors r.resources cs) r (record {
      actor_count = refl;
      actors = refl;
      resource_count = refl;
      resources = refl;
      claim_count = length-take-le r.claims.count r.claims.list (omega (arith, few, shaped.claims));
      claims = ap (map (claim_as r.version)) (take_all (length cs) cs (omega arith));
      version = refl;
    })

pub table_many : (version : ℕ) (a : Actors) (o : Resources) (cs : List Claim) → claim_limit < length cs → table_sound version a o cs ≡ false
table_many version a o cs many =
    cases (table_sound version a o cs) (λ yes. absurd (omega (arith, many, (sound_out (table_register version a o cs) yes).limits.claim_count))) (λ no. no)
