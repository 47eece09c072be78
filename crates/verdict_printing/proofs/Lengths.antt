-- How long a printed text can be: each violation names a number of 16 bits and there are at most 51, so no text is longer than 1,103 bytes.
-- Assumes nothing.
use Rattle.std.proofs.Common.{Result, Err, Ok, ℕ, suc, ◌+◌, ◌-◌, ◌/◌, ◌%◌, ◌^◌, ◌≤◌, ◌<◌, ◌≡◌, refl, ap, Bool, true, false, cond, not, List, [], ◌∷◌, ◌++◌, map, arith, eqb, length, take, replicate, length-append, length-take}
use Rattle.lists.specs.Each.{all_imp, all_append, all_map}
use Rattle.lists.specs.Counts.{counted_below}
use Rattle.lists.specs.Filters.{all_dropping}
use Rattle.lists.specs.Lists.{All, counted, filter}
use Rattle.register.specs.Limits.{id_limit}
use Rattle.register.specs.Register.{actors_of}
use Rattle.register.specs.declared.Register.{Register}
use Rattle.soundness_rules.specs.Sound.{is_machine}
use Rattle.refusals.specs.Refusals.{number_of, outcome_of}
use Rattle.refusals.proofs.Laws.{number_bounds, outcome_cases}
use Rattle.refusals.specs.declared.Refusal.{Refusal}
use Rattle.actions.specs.Actions.{violation_limit, flag_count, uses_of, governs_of, kind_of, value_of, action_fits}
use Rattle.actions.specs.declared.Usage.{Usage}
use Rattle.actions.specs.declared.Action.{Action}
use Rattle.actions.specs.declared.Violation.{Violation}
use Rattle.actions.specs.declared.Violation.TheVariants.{FlagSet, NoOwner, NotCovered, OwnerNotCovering}
use Rattle.actions.specs.declared.Violated.{Violated}
use Rattle.actions.specs.declared.Violations.{Violations}
use Rattle.actions.specs.declared.Decision.{Decision}
use Rattle.actions.specs.declared.Decision.TheVariants.{Permitted, Refused, Stopped}
use Rattle.gate_rules.specs.Gate.{covers, is_ownerless, owner_lacks, flags_set, governed, use_violation, use_violations, violations_of, gate_tests, listed, decided, gated}
use Rattle.gate_rules.specs.Kinds.{kinds_five}
use Rattle.gate_rules.proofs.Laws.{action_fits_out, gate_tests_out, gated_judged, gated_stopped, governed_nil, governed_cons, use_violations_nil, use_violations_cons}
use Rattle.gate_rules.proofs.Bounds.{violations_most}
use Rattle.decimals.specs.Walk.{length_small, length_under}
use Rattle.lines.specs.Lines.{decimal_line}
use Rattle.lines.proofs.Laws.{decimal_line_length}
use Rattle.lines.specs.Reading.{State, going, failed, closed}
use Rattle.json_rules.specs.Actions.{json_read}
use Rattle.text_rules.specs.Records.{texts}
use Rattle.text_rules.specs.Registers.{register_read}
use Rattle.text_rules.specs.Actions.{action_read}
use Rattle.text_rules.proofs.Lengths.{texts_length}
use Rattle.verdict_printing.specs.Printed.{permitted_line, refused_line, stopped_line, violations_key, violation_key, at_key, refusal_key, violations_in, pair_text, list_text, stopped_text, verdict_lines, verdict_text, unless_refused, printed, printed_limit, clock_read, clock_lines, json_printed}

-- a violation names a number of 16 bits
abbrev pub Small : Violation → Type 0
Small v = value_of v ≤ id_limit

chosen_small : (b : Bool) (vs : List Violation) → All Small vs → All Small (cond b vs [])
chosen_small true vs h = h
chosen_small false vs h = tt

flags_small : (flags : ℕ) → All Small (flags_set flags)
unfolding flags_set
flags_small flags =
    let raised : ℕ → Bool = λ i. eqb (flags / 2 ^ i % 2) 1 in
    all_map (λ i. FlagSet i) Small (filter raised (counted 0 flag_count))
    (all_dropping (λ M i. not (raised i)) (λ i. i ≤ id_limit) (counted 0 flag_count)
    (all_imp (λ i. i < 0 + flag_count) (λ i. i ≤ id_limit) (λ i h. omega arith) (counted 0 flag_count) (counted_below 0 flag_count)))

governed_small : (n : ℕ) (entries : List ℕ) → n + length entries ≤ id_limit → All Small (governed n entries)
governed_small n [] h = rw (governed_nil n) tt
governed_small n (g ∷ entries) h = rw (governed_cons n g entries) (omega arith, governed_small (suc n) entries (omega arith))

choice_small : (covered lacks : Bool) (n : ℕ) → n ≤ id_limit → All Small (cond covered (cond lacks (OwnerNotCovering n ∷ []) []) (NotCovered n ∷ []))
choice_small true lacks n h = chosen_small lacks (OwnerNotCovering n ∷ []) (h, tt)
choice_small false lacks n h = (h, tt)

use_small : (r : Register) (moment x n : ℕ) (u : Usage) → n ≤ id_limit → All Small (use_violation r moment x n u)
unfolding use_violation
use_small r moment x n u h = choice_small (covers r moment x u) (owner_lacks r moment x u) n h

uses_small : (r : Register) (moment x n : ℕ) (us : List Usage) → n + length us ≤ id_limit → All Small (use_violations r moment x n us)
uses_small r moment x n [] h = rw (use_violations_nil r moment x n) tt
uses_small r moment x n (u ∷ us) h =
    rw (use_violations_cons r moment x n u us)
    (all_append Small (use_violation r moment x n u) (use_violations r moment x (suc n) us) (use_small r moment x n u (omega arith)) (uses_small r moment x (suc n) us (omega arith)))

-- the violations of an action in range: flags and positions are below 32, and its actor's number has 16 bits
pub violations_small : (r : Register) (a : Action) → action_fits a ≡ true → All Small (violations_of r a)
unfolding violations_of
violations_small r a h =
    let told = action_fits_out a h in
    let owners : List Violation = cond (is_ownerless r a.actor) (NoOwner a.actor ∷ []) [] in
    let governing : List Violation = cond (is_machine (actors_of r.actors) a.actor) (governed 0 (governs_of a)) [] in
    let uses = use_violations r a.now a.actor 0 (uses_of a) in
    all_append Small (flags_set a.flags) (owners ++ (governing ++ uses)) (flags_small a.flags)
    (all_append Small owners (governing ++ uses) (chosen_small (is_ownerless r a.actor) (NoOwner a.actor ∷ []) (told.actor_greatest, tt))
    (all_append Small governing uses
    (chosen_small (is_machine (actors_of r.actors) a.actor) (governed 0 (governs_of a))
    (governed_small 0 (governs_of a) (omega (arith, length-take a.governed a.governs, told.governed_most))))
    (uses_small r a.now a.actor 0 (uses_of a) (omega (arith, length-take a.used a.uses, told.uses_most)))))

-- a list that an answer holds is read back
pub listed_in : (vs : List Violation) → violations_in (listed vs) ≡ vs
listed_in vs = front vs (replicate (violation_limit - length vs) (record { what = FlagSet 0 }))
  where
    front : (vs : List Violation) (rest : List Violated) → map (λ v. v.what) (take (length vs) (map (λ v. record { what = v }) vs ++ rest)) ≡ vs
    front [] rest = refl
    front (v ∷ vs) rest = ap (λ l. v ∷ l) (front vs rest)

kind_small : (v : Violation) → kind_of v < 10
kind_small v = omega (arith, (kinds_five v).1)

pair_length : (v : Violation) → Small v → length (pair_text v) ≤ 21
unfolding pair_text
pair_length v h =
    omega (
      arith,
      length-append (decimal_line violation_key (kind_of v)) (decimal_line at_key (value_of v)),
      decimal_line_length violation_key (kind_of v),
      decimal_line_length at_key (value_of v),
      length_small (kind_of v) (kind_small v),
      length_under 4 (value_of v) (omega arith),
    )

list_length : (vs : List Violation) → length vs ≤ violation_limit → All Small vs → length (list_text (listed vs)) ≤ 1085
unfolding list_text
list_length vs few small =
    let pairs = texts_length pair_text 21 violation_limit vs few (all_imp Small (λ v. length (pair_text v) ≤ 21) pair_length vs small) in
    let read : texts pair_text (violations_in (listed vs)) ≡ texts pair_text vs = ap (texts pair_text) (listed_in vs) in
    omega (
      arith,
      length-append (decimal_line violations_key (length vs)) (texts pair_text (violations_in (listed vs))),
      ap length read,
      decimal_line_length violations_key (length vs),
      length_under 1 (length vs) (omega arith),
      pairs,
    )

pub stopped_length : (why : Refusal) → length (stopped_text why) ≤ printed_limit
unfolding stopped_text
stopped_length why =
    omega (
      arith,
      length-append stopped_line (decimal_line refusal_key (number_of why)),
      decimal_line_length refusal_key (number_of why),
      length_under 1 (number_of why) (omega (arith, (number_bounds why).1)),
    )

lines_length : (d : Decision) (vs : Violations) → length (list_text vs) ≤ 1085 → length (verdict_lines d vs) ≤ printed_limit
lines_length Permitted vs h = omega (arith, length-append permitted_line (list_text vs))
lines_length Refused vs h = omega (arith, length-append refused_line (list_text vs))
lines_length (Stopped why) vs h = stopped_length why

-- the gate's verdict fits, and so does its list of violations
pub record Fitting (r : Register) (a : Action) : Type 0 where
  pub text : length (verdict_text (gated r a)) ≤ printed_limit
  pub few : (gated r a).violations.count ≤ violation_limit

pub gated_fitting : (r : Register) (a : Action) → Fitting r a
unfolding verdict_text
gated_fitting r a =
    outcome_cases (outcome_of (gate_tests r a))
    (λ e.
    let fits = (gate_tests_out r a e).fits in
    let few = violations_most r a fits in
    let vs = violations_of r a in
    record {
      text = rw (gated_judged r a e) (lines_length (decided vs) (listed vs) (list_length vs few (violations_small r a fits)));
      few = rw (gated_judged r a e) few;
    })
    (λ why e. record {
      text = rw (gated_stopped r a why e) (stopped_length why);
      few = rw (gated_stopped r a why e) (omega arith);
    })

unless_length : (o : Result Unit Refusal) (lines : List ℕ) → length lines ≤ printed_limit → length (unless_refused stopped_text o lines) ≤ printed_limit
unless_length (Ok _) lines short = short
unless_length (Err why) lines short = stopped_length why

posed_length : (r : Register) (o : Result Unit Refusal) (a : Action) → length (unless_refused stopped_text o (verdict_text (gated r a))) ≤ printed_limit
posed_length r o a = unless_length o (verdict_text (gated r a)) (gated_fitting r a).text

-- no printed text is longer than 1,103 bytes
pub printed_length : (register action : List ℕ) → length (printed register action) ≤ printed_limit
unfolding printed
printed_length register action =
    let read = action_read action in
    unless_length (register_read register).outcome _ (posed_length (register_read register).register read.outcome read.action)

-- so with the three texts of a JSON action
clock_length : (r : Register) (st : State) (moment : ℕ) (action : List ℕ) → length (clock_lines r st moment action) ≤ printed_limit
clock_length r (going t l) moment action = posed_length r (json_read action moment).outcome (json_read action moment).action
clock_length r (failed why l) moment action = stopped_length why

pub json_printed_length : (register clock action : List ℕ) → length (json_printed register clock action) ≤ printed_limit
unfolding json_printed
json_printed_length register clock action =
    unless_length (register_read register).outcome _ (clock_length (register_read register).register (closed (clock_read clock).state) (clock_read clock).value action)
