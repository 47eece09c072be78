-- Believed: The keys of the lines, '=' included.
use Rattle.std.specs.Prelude.{ℕ, List}
use Rattle.lists.specs.Bytes.{bytes}

abbrev pub register_key : List ℕ
register_key = bytes "register="

abbrev pub actors_key : List ℕ
actors_key = bytes "actors="

abbrev pub actor_key : List ℕ
actor_key = bytes "actor="

abbrev pub owner_key : List ℕ
owner_key = bytes "owner="

abbrev pub resources_key : List ℕ
resources_key = bytes "resources="

abbrev pub resource_key : List ℕ
resource_key = bytes "resource="

abbrev pub public_key : List ℕ
public_key = bytes "public="

abbrev pub keeper_key : List ℕ
keeper_key = bytes "keeper="

abbrev pub claims_key : List ℕ
claims_key = bytes "claims="

abbrev pub claim_key : List ℕ
claim_key = bytes "claim="

abbrev pub parent_key : List ℕ
parent_key = bytes "parent="

abbrev pub grantor_key : List ℕ
grantor_key = bytes "grantor="

abbrev pub holder_key : List ℕ
holder_key = bytes "holder="

abbrev pub rights_key : List ℕ
rights_key = bytes "rights="

abbrev pub weight_key : List ℕ
weight_key = bytes "weight="

abbrev pub left_key : List ℕ
left_key = bytes "left="

abbrev pub expiry_key : List ℕ
expiry_key = bytes "expiry="

abbrev pub now_key : List ℕ
now_key = bytes "now="

abbrev pub flags_key : List ℕ
flags_key = bytes "flags="

abbrev pub uses_key : List ℕ
uses_key = bytes "uses="

abbrev pub use_key : List ℕ
use_key = bytes "use="

abbrev pub right_key : List ℕ
right_key = bytes "right="

abbrev pub governs_key : List ℕ
governs_key = bytes "governs="

abbrev pub govern_key : List ℕ
govern_key = bytes "govern="
