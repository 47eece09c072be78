-- What is proved of rights and rights numbers: the table's rule, what a worth is read as, what it is to have every right of a
-- number, and what bars a machine. Assumes nothing.
use Rattle.std.proofs.Common.{◌≡◌, true, false, ◌||◌, ℕ, ◌^◌, ◌<◌, eqb, get_or, bit_and}
use Rattle.rights.specs.Rights.{right_count, audit_writing, registry_modifying, policy_modifying, is_right, worth_of, machine_grants, is_rights, has_right, has_rights, bars_machine}
use Rattle.rights.specs.Laws as laws
use Rattle.rights.specs.Table.{the_table, no_row}
use Rattle.rights.proofs.Table as table
use Rattle.rights.proofs.Masks as masks

-- 1a. Right b's place in the code's table says that the right is worth 2^b.
pub table_worth : (b : ℕ) → b < right_count → (get_or the_table b no_row).worth ≡ 2 ^ b
table_worth = table.table_worth

-- 1b. Right b's place in the code's table says whether a machine may grant the right.
pub table_machine : (b : ℕ) → b < right_count → (get_or the_table b no_row).machine ≡ machine_grants b
table_machine = table.table_machine

-- 2. The worth of a right, read as a rights number, has that right and no other.
pub worth_alone : (b c : ℕ) → is_right b ≡ true → is_right c ≡ true → has_right (worth_of b) c ≡ eqb b c
worth_alone = masks.worth_alone

-- 3a. Where a machine is barred, there is a right that is had and that no machine may grant.
pub bars_machine_sound : (n : ℕ) → bars_machine n ≡ true → (b : ℕ) × (is_right b ≡ true) × (has_right n b ≡ true) × (machine_grants b ≡ false)
bars_machine_sound = laws.bars_machine_sound

-- 3b. A right that is had and that no machine may grant bars a machine.
pub bars_machine_complete : (n b : ℕ) → has_right n b ≡ true → machine_grants b ≡ false → bars_machine n ≡ true
bars_machine_complete = laws.bars_machine_complete

-- 3c. A machine is barred by AUDIT_WRITE, REGISTRY_MODIFY and POLICY_MODIFY, and by no other right.
pub bars_machine_natural : (n : ℕ) → bars_machine n ≡ (has_right n audit_writing || (has_right n registry_modifying || has_right n policy_modifying))
bars_machine_natural = laws.bars_machine_natural

-- 3d. What has every right of a number from which a machine is barred bars the machine too.
pub bars_machine_kept : (n m : ℕ) → has_rights n m ≡ true → bars_machine m ≡ true → bars_machine n ≡ true
bars_machine_kept = laws.bars_machine_kept

-- 4. Every right of a rights number m is had by n where the binary digits that m has in common with n are all of m's.
pub has_rights_mask : (n m : ℕ) → is_rights m ≡ true → has_rights n m ≡ eqb (bit_and m n) m
has_rights_mask = masks.rights_mask

-- 5a. Who has every right of m has each right that m has.
pub has_rights_sound : (n m : ℕ) → has_rights n m ≡ true → (b : ℕ) → has_right m b ≡ true → has_right n b ≡ true
has_rights_sound = laws.has_rights_sound

-- 5b. Who has each right that m has has every right of m.
pub has_rights_complete : (n m : ℕ) → ((b : ℕ) → has_right m b ≡ true → has_right n b ≡ true) → has_rights n m ≡ true
has_rights_complete = laws.has_rights_complete

-- 5c. A number has every right of itself.
pub has_rights_reflexive : (n : ℕ) → has_rights n n ≡ true
has_rights_reflexive = laws.has_rights_reflexive

-- 5d. Who has every right of a number that has every right of m has every right of m.
pub has_rights_transitive : (n k m : ℕ) → has_rights n k ≡ true → has_rights k m ≡ true → has_rights n m ≡ true
has_rights_transitive = laws.has_rights_transitive
