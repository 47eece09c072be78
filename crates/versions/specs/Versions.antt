-- Believed: A register of version 1 as version 2 has it.
use Rattle.std.specs.Prelude.{◌++◌, drop}
use Rattle.register.specs.Limits.{version_two}
use Rattle.register.specs.Register.{claims_of}
use Rattle.register.specs.Chain.{latest}
use Rattle.register.specs.declared.Register.{Register}
use Rattle.soundness_rules.specs.Sound.{each_stored}

-- The register in version 2: each of its claims holds the hands that it has left in its own version. The count is kept, also one above its limit.
unfoldable pub as_two : Register → Register
as_two r = record {
  actors = r.actors;
  resources = r.resources;
  claims = record {
    list = latest (each_stored r.version (latest (claims_of r.claims))) ++ drop r.claims.count r.claims.list;
    count = r.claims.count;
  };
  version = version_two;
}
