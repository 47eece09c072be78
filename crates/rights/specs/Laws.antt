-- Laws: What the definitions of rights numbers say right by right, and what follows from it. Assumes nothing.
use Rattle.std.specs.Prelude.{◌≡◌, refl, Bool, true, false, not, ◌&&◌, ◌||◌, ℕ, ◌/◌, ◌%◌, ◌^◌, eqb}
use Rattle.std.proofs.Math.Bool.{and-false, and-true, or-false}
use Rattle.std.proofs.Common.{zero-le, ltb-true}
use Rattle.std.proofs.lemmas.Bool.{not-true}
use Rattle.lists.specs.Tests.{and_left, and_right, and_both}
use Rattle.lists.specs.Counts.{every_counted_sound, every_counted_complete, any_counted_sound, any_counted_complete}
use Rattle.rights.specs.Rights.{right_count, audit_writing, registry_modifying, policy_modifying, is_right, machine_grants, has_right, has_rights, bars_machine}

implied_sound : (a b : Bool) → not a || b ≡ true → a ≡ true → b ≡ true
implied_sound true b t h = t
implied_sound false b t h = cc

implied_complete : (a b : Bool) → (a ≡ true → b ≡ true) → not a || b ≡ true
implied_complete true b f = f refl
implied_complete false b f = refl

-- what is had is a right
pub had_right : (n b : ℕ) → has_right n b ≡ true → is_right b ≡ true
unfolding has_right
had_right n b h = and_left (is_right b) (eqb (n / 2 ^ b % 2) 1) h

-- who has every right of m has each right that m has
pub has_rights_sound : (n m : ℕ) → has_rights n m ≡ true → (b : ℕ) → has_right m b ≡ true → has_right n b ≡ true
unfolding has_rights
has_rights_sound n m t b h =
    implied_sound (has_right m b) (has_right n b)
    (every_counted_sound (λ (b : ℕ). not (has_right m b) || has_right n b) right_count 0 t b zero-le
    (ltb-true b right_count (had_right m b h)))
    h

-- who has each right that m has has every right of m
pub has_rights_complete : (n m : ℕ) → ((b : ℕ) → has_right m b ≡ true → has_right n b ≡ true) → has_rights n m ≡ true
unfolding has_rights
has_rights_complete n m f =
    every_counted_complete (λ (b : ℕ). not (has_right m b) || has_right n b) right_count 0
    (λ b low high. implied_complete (has_right m b) (has_right n b) (f b))

-- a rights number has every right of itself
pub has_rights_reflexive : (n : ℕ) → has_rights n n ≡ true
has_rights_reflexive n = has_rights_complete n n (λ b h. h)

-- who has every right of one who has every right of m has every right of m
pub has_rights_transitive : (n k m : ℕ) → has_rights n k ≡ true → has_rights k m ≡ true → has_rights n m ≡ true
has_rights_transitive n k m t u = has_rights_complete n m (λ b h. has_rights_sound n k t b (has_rights_sound k m u b h))

-- where a machine is barred there is a right that is had and that no machine may grant
pub bars_machine_sound : (n : ℕ) → bars_machine n ≡ true → (b : ℕ) × (is_right b ≡ true) × (has_right n b ≡ true) × (machine_grants b ≡ false)
unfolding bars_machine
bars_machine_sound n t =
    let found = any_counted_sound (λ (b : ℕ). has_right n b && not (machine_grants b)) right_count 0 t in
    let b : ℕ = found.0 in
    let had : has_right n b ≡ true = and_left (has_right n b) (not (machine_grants b)) found.3 in
    (b, had_right n b had, had, not-true (machine_grants b) (and_right (has_right n b) (not (machine_grants b)) found.3))

-- a right that is had and that no machine may grant bars a machine
pub bars_machine_complete : (n b : ℕ) → has_right n b ≡ true → machine_grants b ≡ false → bars_machine n ≡ true
unfolding bars_machine
bars_machine_complete n b had kept =
    any_counted_complete (λ (b : ℕ). has_right n b && not (machine_grants b)) right_count 0 b zero-le
    (ltb-true b right_count (had_right n b had))
    (and_both (has_right n b) (not (machine_grants b)) had (rw kept))

-- what bars a machine from m bars it from all that has every right of m
pub bars_machine_kept : (n m : ℕ) → has_rights n m ≡ true → bars_machine m ≡ true → bars_machine n ≡ true
bars_machine_kept n m t bars =
    let found = bars_machine_sound m bars in
    bars_machine_complete n found.0 (has_rights_sound n m t found.0 found.2) found.3

-- the rights that bar a machine are AUDIT_WRITE, REGISTRY_MODIFY and POLICY_MODIFY
pub bars_machine_natural : (n : ℕ) → bars_machine n ≡ (has_right n audit_writing || (has_right n registry_modifying || has_right n policy_modifying))
unfolding bars_machine
bars_machine_natural n = simp (and-false, and-true, or-false)
