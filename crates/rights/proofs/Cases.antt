-- The definitions of rights on small values, each once yes and once no. Assumes nothing.
use Rattle.std.proofs.Common.{◌≡◌, refl, true, false, ◌-◌}
use Rattle.rights.specs.Rights.{is_right, worth_of, machine_grants, is_rights, has_right, has_rights, bars_machine}

policy_modify_is_right : is_right 16 ≡ true
policy_modify_is_right = refl

seventeen_is_no_right : is_right 17 ≡ false
seventeen_is_no_right = refl

delegate_worth : worth_of 4 ≡ 16
delegate_worth = refl

no_right_worth : worth_of 17 ≡ 0
no_right_worth = refl

machine_grants_policy_read : machine_grants 14 ≡ true
machine_grants_policy_read = refl

machine_keeps_from_audit_write : machine_grants 13 ≡ false
machine_keeps_from_audit_write = refl

machine_keeps_from_no_right : machine_grants 17 ≡ false
machine_keeps_from_no_right = refl

nothing_is_no_rights : is_rights 0 ≡ false
nothing_is_no_rights = refl

all_is_rights : is_rights 131071 ≡ true
all_is_rights = refl

past_all_is_no_rights : is_rights 131072 ≡ false
past_all_is_no_rights = refl

delegate_had : has_right 19 4 ≡ true
unfolding has_right
delegate_had = refl

execute_not_had : has_right 19 2 ≡ false
unfolding has_right
execute_not_had = refl

no_right_not_had : has_right 4294967295 17 ≡ false
unfolding has_right
no_right_not_had = refl

read_all_had : has_rights 19 1 ≡ true
unfolding has_right has_rights
read_all_had = refl

execute_all_not_had : has_rights 19 4 ≡ false
unfolding has_right has_rights
execute_all_not_had = refl

audit_write_bars : bars_machine 8192 ≡ true
unfolding has_right bars_machine
audit_write_bars = refl

other_rights_free : bars_machine (131071 - 8192 - 32768 - 65536) ≡ false
unfolding has_right bars_machine
other_rights_free = refl
