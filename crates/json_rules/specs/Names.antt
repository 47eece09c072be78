-- Believed: The names of the builder's form (002, section 7, version 2), each in its group's order.
use Rattle.std.specs.Prelude.{ℕ, suc, List, [], ◌∷◌, cond}
use Rattle.lists.specs.Bytes.{bytes}
use Rattle.lists.specs.Lists.{same}

-- the keys of an action
abbrev pub key_names : List (List ℕ)
key_names =
    bytes "id"
    ∷ bytes "actor"
    ∷ bytes "capability_kind"
    ∷ bytes "resources_read"
    ∷ bytes "resources_write"
    ∷ bytes "resources_execute"
    ∷ bytes "flags"
    ∷ bytes "trust_domain"
    ∷ bytes "delegation_depth"
    ∷ []

-- the kinds: the seventeen rights, right b being kind b
abbrev pub kind_names : List (List ℕ)
kind_names =
    bytes "READ"
    ∷ bytes "WRITE"
    ∷ bytes "EXECUTE"
    ∷ bytes "DELETE"
    ∷ bytes "DELEGATE"
    ∷ bytes "NETWORK_EGRESS"
    ∷ bytes "NETWORK_INGRESS"
    ∷ bytes "FILE_SYSTEM"
    ∷ bytes "PROCESS_SPAWN"
    ∷ bytes "MEMORY_WRITE"
    ∷ bytes "CREDENTIAL_READ"
    ∷ bytes "CREDENTIAL_WRITE"
    ∷ bytes "AUDIT_READ"
    ∷ bytes "AUDIT_WRITE"
    ∷ bytes "POLICY_READ"
    ∷ bytes "REGISTRY_MODIFY"
    ∷ bytes "POLICY_MODIFY"
    ∷ []

-- the flags: the i-th, counted from 0, is 01's flag i
abbrev pub flag_names : List (List ℕ)
flag_names =
    bytes "increases_machine_sovereignty"
    ∷ bytes "resists_human_correction"
    ∷ bytes "bypasses_verifier"
    ∷ bytes "weakens_verifier"
    ∷ bytes "disables_corrigibility"
    ∷ bytes "machine_coalition_dominion"
    ∷ bytes "coerces"
    ∷ bytes "deceives"
    ∷ bytes "self_modification_weakens_verifier"
    ∷ bytes "machine_coalition_reduces_freedom"
    ∷ []

-- the one trust domain that is taken
abbrev pub default_domain : List ℕ
default_domain = bytes "default"

-- the keys by their places
abbrev pub id_place : ℕ
id_place = 0

abbrev pub actor_place : ℕ
actor_place = 1

abbrev pub kind_place : ℕ
kind_place = 2

abbrev pub read_place : ℕ
read_place = 3

abbrev pub write_place : ℕ
write_place = 4

abbrev pub execute_place : ℕ
execute_place = 5

abbrev pub flags_place : ℕ
flags_place = 6

abbrev pub domain_place : ℕ
domain_place = 7

abbrev pub depth_place : ℕ
depth_place = 8

-- the place of a name among others, or how many they are where it is none of them
unfoldable pub place_of : List (List ℕ) → List ℕ → ℕ
place_of [] x = 0
place_of (n ∷ names) x = let more = place_of names x in cond (same x n) 0 (suc more)
