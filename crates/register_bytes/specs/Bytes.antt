-- Believed: A register as the bytes of its struct: where each field stands, the register that bytes hold, and the bytes of a register. A number's
-- least byte stands first, and there is no byte between two fields.
use Rattle.std.specs.Prelude.{cond, List, [], ◌∷◌, ◌++◌, ℕ, zero, suc, ◌+◌, ◌*◌, ◌/◌, ◌%◌, ◌^◌, ◌<◌, eqb, length, take, drop, get_or}
use Rattle.lists.specs.Lists.{All}
use Rattle.register.specs.Limits.{actor_limit, resource_limit, claim_limit, path_limit}
use Rattle.register.specs.Register.{empty_register}
use Rattle.register.specs.declared.Actor.{Actor}
use Rattle.register.specs.declared.Resource.{Resource}
use Rattle.register.specs.declared.Claim.{Claim}
use Rattle.register.specs.declared.Register.{Register}

-- how many bytes there are of a number, of a wide number (a count, an expiry, the version), of an actor, a resource, a claim
abbrev pub number_size : ℕ
number_size = 4

abbrev pub wide_size : ℕ
wide_size = 8

abbrev pub actor_size : ℕ
actor_size = 3 * number_size

abbrev pub resource_size : ℕ
resource_size = 4 * number_size + path_limit

abbrev pub claim_size : ℕ
claim_size = 8 * number_size + wide_size

-- where the count of the actors stands, behind them; the resources; their count; the claims; their count; the version; and how many bytes there are
abbrev pub actor_count_at : ℕ
actor_count_at = actor_limit * actor_size

abbrev pub resources_at : ℕ
resources_at = actor_count_at + wide_size

abbrev pub resource_count_at : ℕ
resource_count_at = resources_at + resource_limit * resource_size

abbrev pub claims_at : ℕ
claims_at = resource_count_at + wide_size

abbrev pub claim_count_at : ℕ
claim_count_at = claims_at + claim_limit * claim_size

abbrev pub version_at : ℕ
version_at = claim_count_at + wide_size

abbrev pub register_size : ℕ
register_size = version_at + wide_size

-- the number of so many bytes from a place on; a byte past the end is 0
unfoldable pub number_in : ℕ → ℕ → List ℕ → ℕ
number_in zero at bytes = 0
number_in (suc width) at bytes = get_or bytes at 0 + 256 * number_in width (at + 1) bytes

-- number k of those that stand one behind the other from a place on
abbrev pub field_in : List ℕ → ℕ → ℕ → ℕ
field_in bytes at k = number_in number_size (at + k * number_size) bytes

abbrev pub actor_in : List ℕ → ℕ → Actor
actor_in bytes at = record { id = field_in bytes at 0; kind = field_in bytes at 1; owner = field_in bytes at 2 }

abbrev pub resource_in : List ℕ → ℕ → Resource
resource_in bytes at = record {
  id = field_in bytes at 0;
  public = field_in bytes at 1;
  keeper = field_in bytes at 2;
  len = field_in bytes at 3;
  path = take path_limit (drop (at + 4 * number_size) bytes);
}

abbrev pub claim_in : List ℕ → ℕ → Claim
claim_in bytes at = record {
  id = field_in bytes at 0;
  parent = field_in bytes at 1;
  grantor = field_in bytes at 2;
  holder = field_in bytes at 3;
  resource = field_in bytes at 4;
  rights = field_in bytes at 5;
  weight = field_in bytes at 6;
  left = field_in bytes at 7;
  expiry = number_in wide_size (at + 8 * number_size) bytes;
}

-- n records of a size, one behind the other from a place on
unfoldable pub records_in : {A : Type 0} → (ℕ → A) → ℕ → ℕ → ℕ → List A
records_in read size at zero = []
records_in read size at (suc n) = read at ∷ records_in read size (at + size) n

-- the register whose fields stand in the bytes
abbrev pub register_at : List ℕ → Register
register_at bytes = record {
  actors = record { list = records_in (actor_in bytes) actor_size 0 actor_limit; count = number_in wide_size actor_count_at bytes };
  resources = record { list = records_in (resource_in bytes) resource_size resources_at resource_limit; count = number_in wide_size resource_count_at bytes };
  claims = record { list = records_in (claim_in bytes) claim_size claims_at claim_limit; count = number_in wide_size claim_count_at bytes };
  version = number_in wide_size version_at bytes;
}

-- the register of version 0, which is not sound
abbrev pub versionless : Register
versionless = record { actors = empty_register.actors; resources = empty_register.resources; claims = empty_register.claims; version = 0 }

-- the register that bytes hold: that of version 0 where they are not as many as a register has
unfoldable pub register_in : List ℕ → Register
register_in bytes = cond (eqb (length bytes) register_size) (register_at bytes) versionless

-- so many bytes of a number
unfoldable pub bytes_of : ℕ → ℕ → List ℕ
bytes_of zero n = []
bytes_of (suc width) n = n % 256 ∷ bytes_of width (n / 256)

-- the bytes of each, one behind the other
unfoldable pub bytes_of_all : {A : Type 0} → (A → List ℕ) → List A → List ℕ
bytes_of_all image [] = []
bytes_of_all image (a ∷ l) = image a ++ bytes_of_all image l

-- the numbers of an actor, a resource, a claim, in the order of their fields
abbrev pub actor_fields : Actor → List ℕ
actor_fields a = a.id ∷ a.kind ∷ a.owner ∷ []

abbrev pub resource_fields : Resource → List ℕ
resource_fields o = o.id ∷ o.public ∷ o.keeper ∷ o.len ∷ []

abbrev pub claim_fields : Claim → List ℕ
claim_fields c = c.id ∷ c.parent ∷ c.grantor ∷ c.holder ∷ c.resource ∷ c.rights ∷ c.weight ∷ c.left ∷ []

abbrev pub actor_image : Actor → List ℕ
actor_image a = bytes_of_all (bytes_of number_size) (actor_fields a)

abbrev pub resource_image : Resource → List ℕ
resource_image o = bytes_of_all (bytes_of number_size) (resource_fields o) ++ o.path

abbrev pub claim_image : Claim → List ℕ
claim_image c = bytes_of_all (bytes_of number_size) (claim_fields c) ++ bytes_of wide_size c.expiry

-- the bytes of a register
unfoldable pub image_of : Register → List ℕ
image_of r =
    bytes_of_all actor_image r.actors.list
    ++ (bytes_of wide_size r.actors.count
    ++ (bytes_of_all resource_image r.resources.list
    ++ (bytes_of wide_size r.resources.count
    ++ (bytes_of_all claim_image r.claims.list ++ (bytes_of wide_size r.claims.count ++ bytes_of wide_size r.version)))))

-- Each number of a register has the width of its field. Every register of the program has this by its type.
pub record Wide (r : Register) : Type 0 where
  pub actors : All (λ a. All (λ n. n < 256 ^ number_size) (actor_fields a)) r.actors.list
  pub resources : All (λ o. All (λ n. n < 256 ^ number_size) (resource_fields o)) r.resources.list
  pub claims : All (λ c. All (λ n. n < 256 ^ number_size) (claim_fields c) × (c.expiry < 256 ^ wide_size)) r.claims.list
  pub actor_count : r.actors.count < 256 ^ wide_size
  pub resource_count : r.resources.count < 256 ^ wide_size
  pub claim_count : r.claims.count < 256 ^ wide_size
  pub version : r.version < 256 ^ wide_size
