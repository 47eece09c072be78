-- The book by computing: attach, fetch, attach anew, fetch; who is refused and with what; full and broken books. Assumes nothing.
use Rattle.std.proofs.Common.{Result, Err, Ok, ◌≡◌, refl, List, [], ◌∷◌, ◌++◌, map, ℕ, replicate}
use Rattle.refusals.specs.declared.Refusal.{Refusal}
use Rattle.lists.specs.Bytes.{bytes}
use Rattle.lists.specs.Lists.{dropping, counted, distinct, same}
use Rattle.rights.specs.Rights.{has_right, has_rights, bars_machine}
use Rattle.paths.specs.Containment.{components, climbing, trimmed, starting, contained}
use Rattle.register.specs.Register.{no_actor, no_resource, no_claim}
use Rattle.register.specs.Chain.{chain, root_granted, circling}
use Rattle.register.specs.declared.Register.{Register}
use Rattle.soundness_rules.specs.Sound.{actor_fits, resource_fits, claim_fits, names_stand, root_kept, drawn_from, machine_may, over_chain, drawn, fresh, alone, over, acceptable, sound_claims, sound_actors, sound_resources, within_limits, sound}
use Rattle.refusals.specs.Refusals.{number_of, outcome_of}
use Rattle.refusals.specs.declared.Refusal.TheVariants.{NotPermitted, NoEntry}
use Rattle.actions.specs.Actions.{action_fits}
use Rattle.gate_rules.specs.Gate.{public_read, contains, covering, covers, is_ownerless, owner_lacks, first_of, flags_set, governed, use_violation, use_violations, violations_of, action_tests, gate_tests, gated}
use Rattle.fingerprints.specs.Fingerprints.{zeros, empty_book, entry_place, book_fits, book_tests, entry, attached, fetched, Deed, attaches, fetches, book_after, noted}
use Rattle.fingerprints.specs.declared.Book.{Book}

-- 1 keeps 10 and 11, the second public, and has READ, WRITE and DELEGATE on 10; its machine 2 has READ of it; the machine 3 has WRITE of it, which its owner 4 lacks
case_r : Register
case_r = record {
  actors = record {
    list = record { id = 1; kind = 1; owner = 0 } ∷ record { id = 2; kind = 2; owner = 1 } ∷ record { id = 3; kind = 2; owner = 4 }
        ∷ record { id = 4; kind = 1; owner = 0 } ∷ replicate 60 no_actor;
    count = 4;
  };
  resources = record {
    list = record { id = 10; public = 0; keeper = 1; len = 6; path = bytes "site/a" ++ replicate 58 0 }
        ∷ record { id = 11; public = 1; keeper = 1; len = 6; path = bytes "site/b" ++ replicate 58 0 }
        ∷ replicate 62 no_resource;
    count = 2;
  };
  claims = record {
    list = record { id = 1; parent = 0; grantor = 1; holder = 1; resource = 10; rights = 19; weight = 1000; left = 0; expiry = 0 }
        ∷ record { id = 2; parent = 1; grantor = 1; holder = 2; resource = 10; rights = 1; weight = 600; left = 0; expiry = 2000 }
        ∷ record { id = 3; parent = 0; grantor = 1; holder = 3; resource = 10; rights = 2; weight = 1000; left = 0; expiry = 0 }
        ∷ replicate 253 no_claim;
    count = 3;
  };
  version = 1;
}

-- the same with 65 actors told, so not sound
unsound_r : Register
unsound_r = record { actors = record { list = case_r.actors.list; count = 65 }; resources = case_r.resources; claims = case_r.claims; version = 1 }

abbrev sheet : ℕ → List ℕ
sheet n = replicate 32 n

-- books of the numbers from 100 on; 64 of them with 10 as the last; two entries of one number; 65 entries
abbrev filled : ℕ → Book
filled k = record { entries = map (λ n. entry n (sheet 7)) (counted 100 64); count = k }

abbrev full_with_ten : Book
full_with_ten = record { entries = map (λ n. entry n (sheet 7)) (counted 100 63) ++ (entry 10 (sheet 9) ∷ []); count = 64 }

abbrev twice : Book
twice = record { entries = entry 10 (sheet 7) ∷ entry 10 (sheet 8) ∷ replicate 62 (entry 0 zeros); count = 2 }

-- 1 attaches; the machine 3 and, with a register that is not sound, 1 try to; 1 attaches anew; a fetch
abbrev done : List Deed
done = attaches case_r 1 10 1999 (sheet 7) ∷ attaches case_r 3 10 1999 (sheet 6) ∷ attaches unsound_r 1 10 1999 (sheet 5) ∷ []

abbrev done_anew : List Deed
done_anew = done ++ (attaches case_r 1 10 1999 (sheet 8) ∷ fetches case_r 2 10 1999 ∷ [])

fetch_first : fetched (book_after empty_book done) case_r 2 10 1999 ≡ record { fingerprint = sheet 7; outcome = (Ok tt) }
unfolding case_r unsound_r attached fetched book_tests outcome_of book_fits entry_place first_of gated gate_tests action_tests action_fits violations_of flags_set dropping is_ownerless governed use_violations use_violation covers covering public_read contains owner_lacks contained climbing components same trimmed starting sound within_limits sound_actors sound_resources sound_claims acceptable alone over fresh drawn over_chain machine_may drawn_from root_kept names_stand claim_fits resource_fits actor_fits distinct chain circling root_granted has_right has_rights bars_machine
fetch_first = refl

fetch_anew : fetched (book_after empty_book done_anew) case_r 2 10 1999 ≡ record { fingerprint = sheet 8; outcome = (Ok tt) }
unfolding case_r unsound_r attached fetched book_tests outcome_of book_fits entry_place first_of gated gate_tests action_tests action_fits violations_of flags_set dropping is_ownerless governed use_violations use_violation covers covering public_read contains owner_lacks contained climbing components same trimmed starting sound within_limits sound_actors sound_resources sound_claims acceptable alone over fresh drawn over_chain machine_may drawn_from root_kept names_stand claim_fits resource_fits actor_fits distinct chain circling root_granted has_right has_rights bars_machine
fetch_anew = refl

noted_anew : noted empty_book done_anew ≡ entry 10 (sheet 8) ∷ entry 10 (sheet 7) ∷ []
unfolding case_r unsound_r attached fetched book_tests outcome_of book_fits entry_place first_of gated gate_tests action_tests action_fits violations_of flags_set dropping is_ownerless governed use_violations use_violation covers covering public_read contains owner_lacks contained climbing components same trimmed starting sound within_limits sound_actors sound_resources sound_claims acceptable alone over fresh drawn over_chain machine_may drawn_from root_kept names_stand claim_fits resource_fits actor_fits distinct chain circling root_granted has_right has_rights bars_machine
noted_anew = refl

book_anew : book_after empty_book done_anew ≡ record { entries = entry 10 (sheet 8) ∷ replicate 63 (entry 0 zeros); count = 1 }
unfolding case_r unsound_r attached fetched book_tests outcome_of book_fits entry_place first_of gated gate_tests action_tests action_fits violations_of flags_set dropping is_ownerless governed use_violations use_violation covers covering public_read contains owner_lacks contained climbing components same trimmed starting sound within_limits sound_actors sound_resources sound_claims acceptable alone over fresh drawn over_chain machine_may drawn_from root_kept names_stand claim_fits resource_fits actor_fits distinct chain circling root_granted has_right has_rights bars_machine
book_anew = refl

-- nothing is attached: 28 with zeros
fetch_none : fetched empty_book case_r 1 10 1999 ≡ record { fingerprint = zeros; outcome = Err NoEntry }
unfolding case_r unsound_r attached fetched book_tests outcome_of book_fits entry_place first_of gated gate_tests action_tests action_fits violations_of flags_set dropping is_ownerless governed use_violations use_violation covers covering public_read contains owner_lacks contained climbing components same trimmed starting sound within_limits sound_actors sound_resources sound_claims acceptable alone over fresh drawn over_chain machine_may drawn_from root_kept names_stand claim_fits resource_fits actor_fits distinct chain circling root_granted has_right has_rights bars_machine
fetch_none = refl

-- an entry stands, and who may not read is told zeros with 27
fetch_not_permitted : fetched full_with_ten case_r 4 10 1999 ≡ record { fingerprint = zeros; outcome = Err NotPermitted }
unfolding case_r unsound_r attached fetched book_tests outcome_of book_fits entry_place first_of gated gate_tests action_tests action_fits violations_of flags_set dropping is_ownerless governed use_violations use_violation covers covering public_read contains owner_lacks contained climbing components same trimmed starting sound within_limits sound_actors sound_resources sound_claims acceptable alone over fresh drawn over_chain machine_may drawn_from root_kept names_stand claim_fits resource_fits actor_fits distinct chain circling root_granted has_right has_rights bars_machine
fetch_not_permitted = refl

-- 0 for acceptance, else the refusal's number
abbrev number_told : Result Unit Refusal → ℕ
number_told (Ok _) = 0
number_told (Err why) = number_of why

abbrev fetch_told : Book → Register → ℕ → ℕ → ℕ → ℕ
fetch_told b r x n moment = number_told (fetched b r x n moment).outcome

abbrev attach_told : Book → Register → ℕ → ℕ → ℕ → ℕ
attach_told b r x n moment = number_told (attached b r x n moment (sheet 1)).outcome

-- fetches: the machine's claim is dead at 2000 (27); no entry or none permitted: 28, 27; a public one by anyone: 28; absent and 0: 27; actors unknown and out
-- of range, a moment out of range; a broken book; that with a register that is not sound
fetches_told : fetch_told full_with_ten case_r 2 10 1999 ∷ fetch_told full_with_ten case_r 2 10 2000 ∷ fetch_told empty_book case_r 4 10 1999 ∷ fetch_told empty_book case_r 4 11 1999
    ∷ fetch_told empty_book case_r 1 20 1999 ∷ fetch_told empty_book case_r 1 0 1999 ∷ fetch_told empty_book case_r 5 10 1999 ∷ fetch_told empty_book case_r 65536 10 1999
    ∷ fetch_told empty_book case_r 1 10 4294967296 ∷ fetch_told twice case_r 65536 10 1999 ∷ fetch_told twice unsound_r 1 10 1999 ∷ []
    ≡ 0 ∷ 27 ∷ 27 ∷ 28 ∷ 27 ∷ 27 ∷ 3 ∷ 2 ∷ 2 ∷ 30 ∷ 1 ∷ []
unfolding case_r unsound_r attached fetched book_tests outcome_of book_fits entry_place first_of gated gate_tests action_tests action_fits violations_of flags_set dropping is_ownerless governed use_violations use_violation covers covering public_read contains owner_lacks contained climbing components same trimmed starting sound within_limits sound_actors sound_resources sound_claims acceptable alone over fresh drawn over_chain machine_may drawn_from root_kept names_stand claim_fits resource_fits actor_fits distinct chain circling root_granted has_right has_rights bars_machine
fetches_told = refl

-- attaches: the 64th is taken, a 65th is not (29), one over an entry in a full book is; who may not is told 27, in a full book too, and so is one without WRITE
-- on a public one, and a machine whose owner lacks it; 65 entries told
attaches_told : attach_told (filled 63) case_r 1 10 1999 ∷ attach_told (filled 64) case_r 1 10 1999 ∷ attach_told full_with_ten case_r 1 10 1999
    ∷ attach_told (filled 64) case_r 2 10 1999 ∷ attach_told empty_book case_r 4 11 1999 ∷ attach_told empty_book case_r 3 10 1999
    ∷ attach_told (filled 65) case_r 1 10 1999 ∷ []
    ≡ 0 ∷ 29 ∷ 0 ∷ 27 ∷ 27 ∷ 27 ∷ 30 ∷ []
unfolding case_r unsound_r attached fetched book_tests outcome_of book_fits entry_place first_of gated gate_tests action_tests action_fits violations_of flags_set dropping is_ownerless governed use_violations use_violation covers covering public_read contains owner_lacks contained climbing components same trimmed starting sound within_limits sound_actors sound_resources sound_claims acceptable alone over fresh drawn over_chain machine_may drawn_from root_kept names_stand claim_fits resource_fits actor_fits distinct chain circling root_granted has_right has_rights bars_machine
attaches_told = refl

-- what stands past the count is kept
past_kept : (attached (filled 2) case_r 1 10 1999 (sheet 1)).book
    ≡ record { entries = entry 100 (sheet 7) ∷ entry 101 (sheet 7) ∷ entry 10 (sheet 1) ∷ map (λ n. entry n (sheet 7)) (counted 103 61); count = 3 }
unfolding case_r unsound_r attached fetched book_tests outcome_of book_fits entry_place first_of gated gate_tests action_tests action_fits violations_of flags_set dropping is_ownerless governed use_violations use_violation covers covering public_read contains owner_lacks contained climbing components same trimmed starting sound within_limits sound_actors sound_resources sound_claims acceptable alone over fresh drawn over_chain machine_may drawn_from root_kept names_stand claim_fits resource_fits actor_fits distinct chain circling root_granted has_right has_rights bars_machine
past_kept = refl

-- what stands past the count is ignored; numbers in a lent book are not range-tested
ignored_told : fetch_told (record { entries = entry 10 (sheet 7) ∷ replicate 63 (entry 0 zeros); count = 0 }) case_r 1 10 1999
    ∷ fetch_told (record { entries = entry 70000 (sheet 7) ∷ replicate 63 (entry 0 zeros); count = 1 }) case_r 1 10 1999 ∷ []
    ≡ 28 ∷ 28 ∷ []
unfolding case_r unsound_r attached fetched book_tests outcome_of book_fits entry_place first_of gated gate_tests action_tests action_fits violations_of flags_set dropping is_ownerless governed use_violations use_violation covers covering public_read contains owner_lacks contained climbing components same trimmed starting sound within_limits sound_actors sound_resources sound_claims acceptable alone over fresh drawn over_chain machine_may drawn_from root_kept names_stand claim_fits resource_fits actor_fits distinct chain circling root_granted has_right has_rights bars_machine
ignored_told = refl

-- 32 zeros may be attached: the refusal alone tells them from none
zeros_attached : fetched (book_after empty_book (attaches case_r 1 10 1999 zeros ∷ [])) case_r 1 10 1999 ≡ record { fingerprint = zeros; outcome = (Ok tt) }
unfolding case_r unsound_r attached fetched book_tests outcome_of book_fits entry_place first_of gated gate_tests action_tests action_fits violations_of flags_set dropping is_ownerless governed use_violations use_violation covers covering public_read contains owner_lacks contained climbing components same trimmed starting sound within_limits sound_actors sound_resources sound_claims acceptable alone over fresh drawn over_chain machine_may drawn_from root_kept names_stand claim_fits resource_fits actor_fits distinct chain circling root_granted has_right has_rights bars_machine
zeros_attached = refl

-- entries go by number: a register that gives 10 to another report, kept by 4, hands out what was attached under the first
other_r : Register
other_r = record {
  actors = case_r.actors;
  resources = record { list = record { id = 10; public = 0; keeper = 4; len = 3; path = bytes "x/y" ++ replicate 61 0 } ∷ replicate 63 no_resource; count = 1 };
  claims = record {
    list = record { id = 1; parent = 0; grantor = 4; holder = 4; resource = 10; rights = 1; weight = 1; left = 0; expiry = 0 } ∷ replicate 255 no_claim;
    count = 1;
  };
  version = 1;
}

other_register : fetched (book_after empty_book done) other_r 4 10 1999 ≡ record { fingerprint = sheet 7; outcome = (Ok tt) }
unfolding case_r unsound_r other_r attached fetched book_tests outcome_of book_fits entry_place first_of gated gate_tests action_tests action_fits violations_of flags_set dropping is_ownerless governed use_violations use_violation covers covering public_read contains owner_lacks contained climbing components same trimmed starting sound within_limits sound_actors sound_resources sound_claims acceptable alone over fresh drawn over_chain machine_may drawn_from root_kept names_stand claim_fits resource_fits actor_fits distinct chain circling root_granted has_right has_rights bars_machine
other_register = refl
