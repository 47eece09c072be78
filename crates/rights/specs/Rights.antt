-- Believed: The seventeen rights of 002, section 4: what each is worth in a rights number, which of them a machine may grant, and how a rights number
-- is read.
use Rattle.std.specs.Prelude.{Bool, not, ◌&&◌, ◌||◌, cond, List, [], ◌∷◌, ℕ, ◌/◌, ◌%◌, ◌^◌, eqb, ltb}
use Rattle.lists.specs.Lists.{any, every}

-- how many rights there are
abbrev pub right_count : ℕ
right_count = 17

-- the rights, in 002's order
abbrev pub the_rights : List ℕ
the_rights = 0 ∷ 1 ∷ 2 ∷ 3 ∷ 4 ∷ 5 ∷ 6 ∷ 7 ∷ 8 ∷ 9 ∷ 10 ∷ 11 ∷ 12 ∷ 13 ∷ 14 ∷ 15 ∷ 16 ∷ []

-- the rights that 01's rules name
abbrev pub reading : ℕ
reading = 0

abbrev pub delegating : ℕ
delegating = 4

abbrev pub audit_writing : ℕ
audit_writing = 13

abbrev pub registry_modifying : ℕ
registry_modifying = 15

abbrev pub policy_modifying : ℕ
policy_modifying = 16

-- whether a number names a right: 0 up to, not including, 17
abbrev pub is_right : ℕ → Bool
is_right b = ltb b right_count

-- right b is worth 2^b in a rights number; what is no right is worth nothing
abbrev pub worth_of : ℕ → ℕ
worth_of b = cond (is_right b) (2 ^ b) 0

-- whether a machine may grant right b: every right but AUDIT_WRITE, REGISTRY_MODIFY and POLICY_MODIFY
abbrev pub machine_grants : ℕ → Bool
machine_grants b = is_right b && not (eqb b audit_writing || eqb b registry_modifying || eqb b policy_modifying)

-- whether n is a rights number, 1 to 131,071: at least one right, and the worth of nothing else
abbrev pub is_rights : ℕ → Bool
is_rights n = ltb 0 n && ltb n (2 ^ right_count)

-- whether the rights number n has right b
unfoldable pub has_right : ℕ → ℕ → Bool
has_right n b = is_right b && eqb (n / 2 ^ b % 2) 1

-- whether the rights number n has every right of m
unfoldable pub has_rights : ℕ → ℕ → Bool
has_rights n m = every (λ b. not (has_right m b) || has_right n b) the_rights

-- whether the rights number n has a right that a machine may not grant
unfoldable pub bars_machine : ℕ → Bool
bars_machine n = any (λ b. has_right n b && not (machine_grants b)) the_rights
