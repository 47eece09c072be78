-- Each rule of soundness on small registers, once yes and once no. All by computing. Assumes
-- nothing.
use Rattle.std.proofs.Common.{◌≡◌, refl, true, false, List, [], ◌∷◌, map, ℕ, ◌+◌, ◌-◌, length, replicate}
use Rattle.lists.specs.Lists.{counted, distinct}
use Rattle.rights.specs.Rights.{has_right, has_rights, bars_machine}
use Rattle.register.specs.Register.{with_left}
use Rattle.register.specs.Chain.{latest, chain, root_granted, circling}
use Rattle.register.specs.declared.Actor.{Actor}
use Rattle.register.specs.declared.Resource.{Resource}
use Rattle.register.specs.declared.Claim.{Claim}
use Rattle.register.specs.declared.Register.{Register}
use Rattle.soundness_rules.specs.Sound.{actor_fits, resource_fits, claim_fits, names_stand, root_kept, drawn_from, machine_may, over_chain, drawn, fresh, alone, over, acceptable, sound_claims, sound_actors, sound_resources, within_limits, sound, table_sound, each_stored}

abbrev actor : ℕ → ℕ → ℕ → Actor
actor id kind owner = record { id = id; kind = kind; owner = owner }

-- a resource with a path of one byte
abbrev resource : ℕ → ℕ → ℕ → ℕ → Resource
resource id public keeper byte = record { id = id; public = public; keeper = keeper; len = 1; path = byte ∷ replicate 63 0 }

abbrev claim : ℕ → ℕ → ℕ → ℕ → ℕ → ℕ → ℕ → ℕ → Claim
claim id parent grantor holder resource rights weight expiry =
    record { id = id; parent = parent; grantor = grantor; holder = holder; resource = resource; rights = rights; weight = weight; left = 0; expiry = expiry }

abbrev register : List Actor → List Resource → List Claim → Register
register actors resources claims = record {
  actors = record { list = actors; count = length actors };
  resources = record { list = resources; count = length resources };
  claims = record { list = claims; count = length claims };
  version = 1;
}

-- the same in another version
abbrev of : ℕ → Register → Register
of version r = record { actors = r.actors; resources = r.resources; claims = r.claims; version = version }

-- two humans, 1 and 3; a machine of the first, 2, and one without an owner, 4
people : List Actor
people = actor 1 1 0 ∷ actor 2 2 1 ∷ actor 3 1 0 ∷ actor 4 2 0 ∷ []

-- each human keeps one
reports : List Resource
reports = resource 10 0 1 33 ∷ resource 11 1 3 126 ∷ []

abbrev claiming : List Claim → Register
claiming claims = register people reports claims

-- a root with READ, WRITE and DELEGATE, which the keeper of 10 grants to herself, and one that she
-- grants to the other human
abbrev root : Claim
root = claim 7 0 1 1 10 19 600 0

abbrev lent : Claim
lent = claim 7 0 1 3 10 19 600 0

claims_sound : map (λ cs. sound (claiming cs)) (
    []
    ∷ (root ∷ [])
    -- every number at its greatest
    ∷ (claim 65535 0 3 4 11 131071 1000 4294967295 ∷ [])
    -- drawn with the parent's rights and weight, for a machine and by it; with weight 0
    ∷ (root ∷ claim 8 7 1 2 10 19 600 0 ∷ claim 9 8 2 3 10 1 0 0 ∷ [])
    -- the greatest rights that a machine may grant; two claims from one parent to one holder
    ∷ (claim 7 0 1 2 10 131071 600 0 ∷ claim 8 7 2 3 10 24575 600 0 ∷ claim 9 7 2 3 10 1 0 0 ∷ [])
    -- a machine without an owner holds a claim; who granted a root holds one of another chain
    ∷ (claim 7 0 1 4 10 19 600 0 ∷ claim 8 0 1 3 10 19 600 0 ∷ claim 9 0 1 1 10 1 0 0 ∷ [])
    ∷ [])
    ≡ replicate 6 true
unfolding people reports sound within_limits sound_actors sound_resources sound_claims acceptable alone over fresh drawn over_chain machine_may drawn_from root_kept names_stand claim_fits resource_fits actor_fits distinct chain circling root_granted has_right has_rights bars_machine
claims_sound = refl

claims_unsound : map (λ cs. sound (claiming cs)) (
    -- the id 0 and 65,536; no rights and 2^17; the weight 1,001; the expiry 2^32
    (claim 0 0 1 1 10 19 600 0 ∷ [])
    ∷ (claim 65536 0 1 1 10 19 600 0 ∷ [])
    ∷ (claim 7 0 1 1 10 0 600 0 ∷ [])
    ∷ (claim 7 0 1 1 10 131072 600 0 ∷ [])
    ∷ (claim 7 0 1 1 10 19 1001 0 ∷ [])
    ∷ (claim 7 0 1 1 10 19 600 4294967296 ∷ [])
    -- a grantor, a holder and a resource that do not stand; an id twice
    ∷ (claim 7 0 5 1 10 19 600 0 ∷ [])
    ∷ (root ∷ claim 8 7 1 5 10 1 600 0 ∷ [])
    ∷ (claim 7 0 1 1 12 19 600 0 ∷ [])
    ∷ (root ∷ claim 7 0 1 3 10 1 500 0 ∷ [])
    -- (a): a root by another human, by a machine of the keeper's, by its holder
    ∷ (claim 7 0 3 1 10 19 600 0 ∷ [])
    ∷ (claim 7 0 2 1 10 19 600 0 ∷ [])
    ∷ (claim 7 0 3 3 10 19 600 0 ∷ [])
    -- (b): the parent later, absent, held by another, on another resource, without DELEGATE, without
    -- a right, of less weight
    ∷ (claim 8 7 1 2 10 17 500 0 ∷ root ∷ [])
    ∷ (root ∷ claim 8 6 1 2 10 17 500 0 ∷ [])
    ∷ (root ∷ claim 8 7 3 2 10 17 500 0 ∷ [])
    ∷ (root ∷ claim 8 7 1 2 11 17 500 0 ∷ [])
    ∷ (claim 7 0 1 1 10 3 600 0 ∷ claim 8 7 1 2 10 1 500 0 ∷ [])
    ∷ (root ∷ claim 8 7 1 2 10 4 500 0 ∷ [])
    ∷ (root ∷ claim 8 7 1 2 10 17 601 0 ∷ [])
    -- (c): by a machine without an owner; AUDIT_WRITE, REGISTRY_MODIFY and POLICY_MODIFY by a machine
    ∷ (claim 7 0 1 4 10 19 600 0 ∷ claim 8 7 4 3 10 1 500 0 ∷ [])
    ∷ (claim 7 0 1 2 10 131071 600 0 ∷ claim 8 7 2 3 10 8192 500 0 ∷ [])
    ∷ (claim 7 0 1 2 10 131071 600 0 ∷ claim 8 7 2 3 10 32768 500 0 ∷ [])
    ∷ (claim 7 0 1 2 10 131071 600 0 ∷ claim 8 7 2 3 10 65536 500 0 ∷ [])
    -- (e): to the holder of the parent, of the claim above it, and to the root's grantor, who holds none
    ∷ (lent ∷ claim 8 7 3 3 10 17 500 0 ∷ [])
    ∷ (lent ∷ claim 8 7 3 2 10 17 500 0 ∷ claim 9 8 2 3 10 1 500 0 ∷ [])
    ∷ (lent ∷ claim 8 7 3 1 10 17 500 0 ∷ [])
    ∷ [])
    ≡ replicate 27 false
unfolding people reports sound within_limits sound_actors sound_resources sound_claims acceptable alone over fresh drawn over_chain machine_may drawn_from root_kept names_stand claim_fits resource_fits actor_fits distinct chain circling root_granted has_right has_rights bars_machine
claims_unsound = refl

-- (d): n claims, each drawn from the one before it: the last has n - 1 hops
abbrev line : ℕ → Register
line n = register (map (λ i. actor i 1 0) (counted 1 20)) (resource 10 0 1 120 ∷ [])
    (map (λ i. claim i (i - 1) i (i + 1) 10 16 600 0) (counted 1 n))

hops_told_lem : map (λ n. sound (line n)) (17 ∷ 18 ∷ []) ≡ true ∷ false ∷ []
unfolding sound within_limits sound_actors sound_resources sound_claims acceptable alone over fresh drawn over_chain machine_may drawn_from root_kept names_stand claim_fits resource_fits actor_fits distinct chain circling root_granted has_right has_rights bars_machine
hops_told_lem = refl

-- a register of version 0 and of version 3 is not sound, even an empty one
versions_told : map (λ version. sound (of version (claiming []))) (0 ∷ 1 ∷ 2 ∷ 3 ∷ []) ≡ false ∷ true ∷ true ∷ false ∷ []
unfolding people reports sound within_limits sound_actors sound_resources sound_claims resource_fits actor_fits distinct
versions_told = refl

-- a chain of three, with these numbers of hands left
abbrev falling : ℕ → ℕ → ℕ → List Claim
falling a b c = with_left a root ∷ with_left b (claim 8 7 1 2 10 19 600 0) ∷ with_left c (claim 9 8 2 3 10 1 0 0) ∷ []

-- (d) in version 2: left falls from parent to claim, by one or by more; it does not stay, and does not rise; 17 is no left, of a root either.
-- In version 1 none of this is asked.
left_told : map (λ version. map (λ cs. sound (of version (claiming cs))) (
    falling 16 15 14
    ∷ falling 2 1 0
    ∷ falling 9 4 0
    ∷ falling 2 2 0
    ∷ falling 2 1 1
    ∷ falling 1 0 1
    ∷ falling 17 1 0
    ∷ [])) (2 ∷ 1 ∷ [])
    ≡ (true ∷ true ∷ true ∷ false ∷ false ∷ false ∷ false ∷ []) ∷ replicate 7 true ∷ []
unfolding people reports sound within_limits sound_actors sound_resources sound_claims acceptable alone over fresh drawn over_chain machine_may drawn_from root_kept names_stand claim_fits resource_fits actor_fits distinct chain circling root_granted has_right has_rights bars_machine
left_told = refl

-- what is stored: in version 1 16 less the hops, in version 2 what is held
stored_told : map (λ version. map (λ c. c.left) (each_stored version (latest (falling 9 4 0)))) (1 ∷ 2 ∷ []) ≡ (14 ∷ 15 ∷ 16 ∷ []) ∷ (0 ∷ 4 ∷ 9 ∷ []) ∷ []
unfolding each_stored chain
stored_told = refl

-- 64 actors, and an actor of each kind with the greatest id; 65, a human with an owner, a machine of
-- a machine and of none that stands, a third kind, the id 0 and 65,536, an id twice
actors_told : map (λ actors. sound (register actors [] [])) (
    map (λ i. actor i 1 0) (counted 1 64)
    ∷ (actor 65535 1 0 ∷ actor 65534 2 65535 ∷ actor 65533 2 0 ∷ [])
    ∷ map (λ i. actor i 1 0) (counted 1 65)
    ∷ (actor 1 1 0 ∷ actor 3 1 1 ∷ [])
    ∷ (actor 1 1 0 ∷ actor 2 2 1 ∷ actor 4 2 2 ∷ [])
    ∷ (actor 2 2 1 ∷ [])
    ∷ (actor 1 3 0 ∷ [])
    ∷ (actor 0 1 0 ∷ [])
    ∷ (actor 65536 1 0 ∷ [])
    ∷ (actor 1 1 0 ∷ actor 1 2 0 ∷ [])
    ∷ [])
    ≡ true ∷ true ∷ replicate 8 false
unfolding sound within_limits sound_actors sound_resources sound_claims actor_fits resource_fits distinct
actors_told = refl

-- 64 resources; 65, a keeper who is a machine and one who does not stand, neither public nor not,
-- the bytes 0x20 and 0x7F, the id 0, an id twice, a path of 65 bytes
resources_told : map (λ resources. sound (register people resources [])) (
    map (λ i. resource i 1 3 120) (counted 1 64)
    ∷ reports
    ∷ map (λ i. resource i 1 3 120) (counted 1 65)
    ∷ (resource 10 0 2 120 ∷ [])
    ∷ (resource 10 0 5 120 ∷ [])
    ∷ (resource 10 2 1 120 ∷ [])
    ∷ (resource 10 0 1 32 ∷ [])
    ∷ (resource 10 0 1 127 ∷ [])
    ∷ (resource 0 0 1 120 ∷ [])
    ∷ (resource 10 0 1 120 ∷ resource 10 0 3 121 ∷ [])
    ∷ (record { id = 10; public = 0; keeper = 1; len = 65; path = replicate 65 120 } ∷ [])
    ∷ [])
    ≡ true ∷ true ∷ replicate 9 false
unfolding people reports sound within_limits sound_actors sound_resources sound_claims actor_fits resource_fits distinct
resources_told = refl

-- 256 roots, and 257
counts_told : map (λ n. sound (claiming (map (λ i. claim i 0 1 3 10 1 1 0) (counted 1 n)))) (256 ∷ 257 ∷ []) ≡ true ∷ false ∷ []
unfolding people reports sound within_limits sound_actors sound_resources sound_claims acceptable alone over fresh drawn over_chain machine_may drawn_from root_kept names_stand claim_fits resource_fits actor_fits distinct chain circling root_granted has_right has_rights bars_machine
counts_told = refl

-- a table of one claim, of that claim twice, of none, of a claim behind its parent and of one before it
tables_told : map (table_sound 1 (claiming []).actors (claiming []).resources) (
    (root ∷ [])
    ∷ (root ∷ root ∷ [])
    ∷ []
    ∷ (root ∷ claim 8 7 1 2 10 19 600 0 ∷ [])
    ∷ (claim 8 7 1 2 10 19 600 0 ∷ root ∷ [])
    ∷ [])
    ≡ true ∷ false ∷ true ∷ true ∷ false ∷ []
unfolding people reports sound within_limits sound_actors sound_resources sound_claims acceptable alone over fresh drawn over_chain machine_may drawn_from root_kept names_stand claim_fits resource_fits actor_fits distinct chain circling root_granted has_right has_rights bars_machine
tables_told = refl
