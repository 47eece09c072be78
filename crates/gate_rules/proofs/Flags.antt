-- A set flag always refuses. Assumes nothing.
use Rattle.std.proofs.Common.{◌≡◌, refl, true, false, List, [], ◌∷◌, map, ℕ, ◌<◌, ◌/◌, ◌%◌, ◌^◌, zero-le, arith, eqb-true, eq-eqb, eqb}
use borrow.Author.Tests.{eqb-false}
use Rattle.lists.specs.Each.{cons_clash, all_imp, all_every}
use Rattle.lists.specs.Counts.{every_counted_sound}
use Rattle.lists.specs.Filters.{filter_none, none_filter}
use Rattle.lists.specs.Lists.{counted, filter}
use Rattle.register.specs.declared.Register.{Register}
use Rattle.actions.specs.Actions.{flag_count}
use Rattle.actions.specs.declared.Action.{Action}
use Rattle.actions.specs.declared.Violation.TheVariants.{FlagSet}
use Rattle.actions.specs.declared.Decision.TheVariants.{Permitted, Refused}
use Rattle.gate_rules.specs.Gate.{flags_set, gated}
use Rattle.gate_rules.proofs.Laws.{action_fits_out, permitted_out, refused_in, violations_none_out}
use Rattle.gate_rules.specs.Authority.{Passed}

map_none : {A C : Type 0} (f : A → C) (L : List A) → map f L ≡ [] → L ≡ []
map_none f [] h = refl
map_none f (c ∷ L) h = cons_clash h

-- where there is no violation by a flag, no flag is set
pub flags_none_out : (flags : ℕ) → flags_set flags ≡ [] → (i : ℕ) → i < flag_count → flags / 2 ^ i % 2 ≡ 0
unfolding flags_set
flags_none_out flags h i below =
    let unset = all_imp (λ i. eqb (flags / 2 ^ i % 2) 1 ≡ false) (λ i. eqb (flags / 2 ^ i % 2) 0 ≡ true)
    (λ i e. let other = eqb-false (flags / 2 ^ i % 2) 1 e in eq-eqb (flags / 2 ^ i % 2) 0 (omega arith)) (counted 0 flag_count)
    (none_filter (λ i. eqb (flags / 2 ^ i % 2) 1) (counted 0 flag_count)
    (map_none (λ i. FlagSet i) (filter (λ i. eqb (flags / 2 ^ i % 2) 1) (counted 0 flag_count)) h)) in
    eqb-true (flags / 2 ^ i % 2) 0 (every_counted_sound (λ i. eqb (flags / 2 ^ i % 2) 0) flag_count 0
    (all_every (λ i. eqb (flags / 2 ^ i % 2) 0) (counted 0 flag_count) unset) i zero-le below)

-- numbers below 1,024 of which no bit is set are 0: from the highest bit down, half the room is left
bits_none : (n : ℕ) → n < 2 ^ flag_count → ((i : ℕ) → i < flag_count → n / 2 ^ i % 2 ≡ 0) → n ≡ 0
bits_none n small unset =
    let ninth : n < 512 = omega (arith, unset 9 (omega arith)) in
    let eighth : n < 256 = omega (arith, unset 8 (omega arith)) in
    let seventh : n < 128 = omega (arith, unset 7 (omega arith)) in
    let sixth : n < 64 = omega (arith, unset 6 (omega arith)) in
    let fifth : n < 32 = omega (arith, unset 5 (omega arith)) in
    let fourth : n < 16 = omega (arith, unset 4 (omega arith)) in
    let third : n < 8 = omega (arith, unset 3 (omega arith)) in
    let second : n < 4 = omega (arith, unset 2 (omega arith)) in
    let first : n < 2 = omega (arith, unset 1 (omega arith)) in
    omega (arith, unset 0 (omega arith))

pub flags_none_zero : (flags : ℕ) → flags < 2 ^ flag_count → flags_set flags ≡ [] → flags ≡ 0
flags_none_zero flags small h = bits_none flags small (flags_none_out flags h)

-- a permitted action has no flag set
pub permitted_flagless : (r : Register) (a : Action) → (gated r a).decision ≡ Permitted → a.flags ≡ 0
permitted_flagless r a h =
    let told = permitted_out r a h in flags_none_zero a.flags (action_fits_out a told.passed.fits).flags_few told.clean.flagless

-- an action with a flag set that is not stopped is refused
pub flag_refuses : (r : Register) (a : Action) → Passed r a → (i : ℕ) → i < flag_count → (a.flags / 2 ^ i % 2 ≡ 0 → ⊥) → (gated r a).decision ≡ Refused
flag_refuses r a passed i below set =
    refused_in r a passed (λ none. set (flags_none_out a.flags (violations_none_out r a none).flagless i below))

-- no flag is no violation
pub flags_zero : flags_set 0 ≡ []
unfolding flags_set
flags_zero = rw (filter_none (λ i. eqb (0 / 2 ^ i % 2) 1) (counted 0 flag_count) (refl, (refl, (refl, (refl, (refl, (refl, (refl, (refl, (refl, (refl, tt)))))))))))
