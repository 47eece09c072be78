-- Believed: The numbers of 01, each once, and what it is to be in range. The code reads them by name from the crate `register`.
use Rattle.std.specs.Prelude.{Bool, ◌&&◌, ℕ, ◌^◌, eqb, leb}

-- how many actors, resources and claims stand at most, how many hops a chain has at most, how many bytes a path has at most
abbrev pub actor_limit : ℕ
actor_limit = 64

abbrev pub resource_limit : ℕ
resource_limit = 64

abbrev pub claim_limit : ℕ
claim_limit = 256

abbrev pub hop_limit : ℕ
hop_limit = 16

abbrev pub path_limit : ℕ
path_limit = 64

-- the greatest id, and the greatest number of an owner, parent, keeper, grantor, holder or claimed resource
abbrev pub id_limit : ℕ
id_limit = 65535

-- the greatest weight
abbrev pub weight_limit : ℕ
weight_limit = 1000

-- the greatest number of hands that a claim may still pass through
abbrev pub left_limit : ℕ
left_limit = 16

-- the versions of a register
abbrev pub version_one : ℕ
version_one = 1

abbrev pub version_two : ℕ
version_two = 2

-- whether claims of this version tell how many more hands they may pass through
abbrev pub tells_left : ℕ → Bool
tells_left version = eqb version version_two

-- moments and expiries are below this
abbrev pub moment_end : ℕ
moment_end = 2 ^ 32

-- the least and the greatest byte of a path
abbrev pub path_byte_least : ℕ
path_byte_least = 33

abbrev pub path_byte_greatest : ℕ
path_byte_greatest = 126

-- the kinds of an actor
abbrev pub human_kind : ℕ
human_kind = 1

abbrev pub machine_kind : ℕ
machine_kind = 2

-- a number from the least to the greatest, both included
abbrev pub ranged : ℕ → ℕ → ℕ → Bool
ranged least greatest n = leb least n && leb n greatest

-- an id, keeper, grantor, holder or claimed resource: 1 to 65,535
abbrev pub is_id : ℕ → Bool
is_id n = ranged 1 id_limit n
