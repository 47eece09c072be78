-- Names and their places: each name's place is its own, and what has a place is the name that stands there. Assumes nothing.
use Rattle.std.proofs.Common.{ℕ, ◌<◌, ◌≡◌, refl, sym, Bool, true, List, [], ◌∷◌, arith, eqb-true, eqb, length, get_or}
use Rattle.lists.specs.Tests.{cases}
use Rattle.lists.specs.Lists.{every, counted, same}
use Rattle.lists.specs.Counts.{every_counted_sound}
use Rattle.lists.specs.Same.{same_sound}
use Rattle.rights.specs.Rights.{right_count}
use Rattle.actions.specs.Actions.{flag_count}
use Rattle.json_rules.specs.Names.{key_names, kind_names, flag_names, place_of}
use Rattle.json_rules.specs.Items.{key_count}

-- whether each of some names stands at its own place, so that no two are the same
abbrev pub apart : List (List ℕ) → Bool
apart names = every (λ k. eqb (place_of names (get_or names k [])) k) (counted 0 (length names))

own_place : (names : List (List ℕ)) → apart names ≡ true → (k : ℕ) → k < length names → place_of names (get_or names k []) ≡ k
own_place names t k h =
    eqb-true (place_of names (get_or names k [])) k
    (every_counted_sound (λ k. eqb (place_of names (get_or names k [])) k) (length names) 0 t k (omega arith) (omega arith))

pub keys_apart : apart key_names ≡ true
unfolding place_of same
keys_apart = refl

pub kinds_apart : apart kind_names ≡ true
unfolding place_of same
kinds_apart = refl

pub flags_apart : apart flag_names ≡ true
unfolding place_of same
flags_apart = refl

pub key_place : (k : ℕ) → k < key_count → place_of key_names (get_or key_names k []) ≡ k
key_place = own_place key_names keys_apart

pub kind_place_lem : (k : ℕ) → k < right_count → place_of kind_names (get_or kind_names k []) ≡ k
kind_place_lem = own_place kind_names kinds_apart

pub flag_place : (k : ℕ) → k < flag_count → place_of flag_names (get_or flag_names k []) ≡ k
flag_place = own_place flag_names flags_apart

-- what has a place among some names is the name at that place
pub placed_name : (names : List (List ℕ)) (x : List ℕ) → place_of names x < length names → get_or names (place_of names x) [] ≡ x
unfolding place_of
placed_name [] x h = absurd (omega arith)
placed_name (n ∷ names) x h =
    cases (same x n) (λ here. rw here (sym (same_sound x n here)))
    (λ other. rw other (placed_name names x (let less = rw other at h in omega arith)))
