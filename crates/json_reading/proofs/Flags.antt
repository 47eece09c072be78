-- Laws of the flags: counted as a number, and kept by their places while the settings are read. Assumes nothing.
use Rattle.std.proofs.Common.{ℕ, zero, suc, ◌+◌, ◌*◌, ◌^◌, ◌≤◌, ◌<◌, ◌≡◌, refl, sym, ap, ◌∙◌, subst, List, [], ◌∷◌, ◌++◌, map, Bool, true, false, cond, ◌&&◌, pow-suc, add-one, arith, eqb-true, eqb, length, drop, get_or, set, replicate, length-set, get_or-set_same, get_or-set_other, Some, None}
use mathlib.Core.List.{map-append}
use mathlib.Core.Bool.{or-true, or-false}
use native.Mathlib.Nat.{pow-le-pow_right}
use borrow.Author.Tests.{eqb-false}
use lib.ListN.{get_or-replicate}
use Rattle.lists.specs.Tests.{cases, clash, and_left, iff_same}
use Rattle.lists.specs.Lists.{any, every, counted, distinct}
use Rattle.lists.specs.Each.{any_map, none_weaken, any_append}
use Rattle.lists.specs.Counts.{every_counted_sound, every_counted_complete}
use Rattle.lists.specs.Distinct.{distinct_nil, distinct_last}
use Rattle.actions.specs.Actions.{flag_count}
use Rattle.json_tokens.specs.Tokens.{tokens}
use Rattle.json_rules.specs.Members.{Setting, among_all, is_full_set, taking}
use Rattle.json_rules.specs.Actions.{set_among, flags_below}
use Rattle.json_reading.specs.Answers.{Behind, flags_in, flags_found, full_set, SettingsSays}

-- The flags as a number.

-- the flags below i as a number are below that of i alone
flags_below_lem : (i : ℕ) (sets : List Bool) → flags_in i sets < 2 ^ i
unfolding flags_in
flags_below_lem zero sets = omega arith
flags_below_lem (suc i) sets =
    let twice : 2 ^ suc i ≡ 2 ^ i * 2 = pow-suc 2 i in
    let behind = flags_below_lem i sets in
    cases (get_or sets i false) (λ e. rw e (omega arith)) (λ e. rw e (omega arith))

-- the flags below i are counted, and each of them was seen
pub record Counting (seen sets : List Bool) (flags worth i : ℕ) : Type 0 where
  pub within : i ≤ flag_count
  pub power : worth ≡ 2 ^ i
  pub number : flags ≡ flags_in i sets
  pub passed : (k : ℕ) → k < i → get_or seen k false ≡ true

pub counting_start : (seen sets : List Bool) → Counting seen sets 0 1 0
unfolding flags_in
counting_start seen sets = record { within = omega arith; power = refl; number = refl; passed = λ k h. absurd (omega arith) }

module _ {seen sets : List Bool} {flags worth i : ℕ} (c : Counting seen sets flags worth i) where
  -- what is counted, and the next flag, are small
  pub counting_room : (flags < 1024) × (worth ≤ 1024)
  counting_room =
      let least : 2 ^ i ≤ 2 ^ flag_count = pow-le-pow_right {n = 2} (omega arith) c.within in
      let below = flags_below_lem i sets in
      (omega (arith, c.number, c.power), omega (arith, c.power))

  next_power : worth * 2 ≡ 2 ^ (i + 1)
  next_power = let twice : 2 ^ suc i ≡ 2 ^ i * 2 = pow-suc 2 i in rw add-one (omega (arith, c.power))

  next_passed : get_or seen i false ≡ true → (k : ℕ) → k < i + 1 → get_or seen k false ≡ true
  next_passed here k h =
      cases (eqb k i) (λ e. rw (eqb-true k i e) here) (λ e. let other = eqb-false k i e in c.passed k (omega arith))

  pub counting_set : i < flag_count → get_or seen i false ≡ true → get_or sets i false ≡ true → Counting seen sets (flags + worth) (worth * 2) (i + 1)
  unfolding flags_in
  counting_set below here on = record {
    within = omega arith;
    power = next_power;
    number = rw (add-one, on, c.number, c.power);
    passed = next_passed here;
  }

  pub counting_unset : i < flag_count → get_or seen i false ≡ true → get_or sets i false ≡ false → Counting seen sets flags (worth * 2) (i + 1)
  unfolding flags_in
  counting_unset below here off = record {
    within = omega arith;
    power = next_power;
    number = rw (add-one, off, c.number) (omega arith);
    passed = next_passed here;
  }

-- whether each of the ten was seen
abbrev all_seen : List Bool → Bool
all_seen seen = every (λ i. get_or seen i false) (counted 0 flag_count)

found_by : (seen sets : List Bool) (next : ℕ) (b : Bool) → all_seen seen ≡ b → flags_found seen sets next ≡ cond b (Some (flags_in flag_count sets, next)) None
unfolding flags_found
found_by seen sets next b e = ap (λ x. cond x (Some (flags_in flag_count sets, next)) None) e

pub flags_unseen : (seen sets : List Bool) (next i : ℕ) → i < flag_count → get_or seen i false ≡ false → flags_found seen sets next ≡ None
flags_unseen seen sets next i below e =
    found_by seen sets next false
    (cases (all_seen seen)
    (λ all. clash (get_or seen i false) (every_counted_sound (λ k. get_or seen k false) flag_count 0 all i (omega arith) (omega arith)) e) (λ none. none))

pub counting_done : {seen sets : List Bool} {flags worth i : ℕ} (next : ℕ) → Counting seen sets flags worth i → flag_count ≤ i
    → flags_found seen sets next ≡ Some (flags, next)
counting_done {seen = seen} {sets = sets} {i = i} next c end =
    let last : i ≡ flag_count = omega (arith, c.within) in
    found_by seen sets next true (every_counted_complete (λ k. get_or seen k false) flag_count 0 (λ k low high. c.passed k (omega arith)))
    ∙ ap (λ n. Some (n, next)) (ap (λ k. flags_in k sets) (sym last) ∙ sym c.number)

-- The settings behind one another.

-- whether a flag is one of those of some settings
abbrev pub is_among : List Setting → ℕ → Bool
is_among ss i = any (λ s. eqb i s.flag) ss

-- what the code keeps of some settings, by their flags
pub record Noted (seen sets : List Bool) (ss : List Setting) : Type 0 where
  pub once : distinct (map (λ s. s.flag) ss) ≡ true
  pub marked : (k : ℕ) → k < flag_count → get_or seen k false ≡ is_among ss k
  pub valued : (k : ℕ) → k < flag_count → get_or sets k false ≡ set_among ss k
  pub seen_count : length seen ≡ flag_count
  pub sets_count : length sets ≡ flag_count

pub noted_none : Noted (replicate flag_count false) (replicate flag_count false) []
noted_none = record {
  once = distinct_nil;
  marked = λ k below. get_or-replicate flag_count k false false below;
  valued = λ k below. get_or-replicate flag_count k false false below;
  seen_count = refl;
  sets_count = refl;
}

module _ {seen sets : List Bool} {ss : List Setting} (noted : Noted seen sets ss) where
  module _ (i : ℕ) (on : Bool) (known : i < flag_count) (fresh : get_or seen i false ≡ false) where
    abbrev next : Setting
    next = record { flag = i; set = on }

    unheard : is_among ss i ≡ false
    unheard = sym (noted.marked i known) ∙ fresh

    unset : set_among ss i ≡ false
    unset = none_weaken (λ s. eqb i s.flag && s.set) (λ s. eqb i s.flag) (λ s h. and_left (eqb i s.flag) s.set h) ss unheard

    still_once : distinct (map (λ s. s.flag) (ss ++ (next ∷ []))) ≡ true
    still_once =
        rw (map-append (λ (s : Setting). s.flag) ss (next ∷ []))
        (distinct_last (map (λ s. s.flag) ss) i noted.once (any_map (λ (s : Setting). s.flag) (eqb i) ss ∙ unheard))

    now_marked : (k : ℕ) → k < flag_count → get_or (set seen i true) k false ≡ is_among (ss ++ (next ∷ [])) k
    now_marked k below =
        cases (eqb k i)
        (λ e. let same : k ≡ i = eqb-true k i e in
        ap (λ j. get_or (set seen i true) j false) same
        ∙ get_or-set_same seen i true false (omega (arith, noted.seen_count))
        ∙ sym (any_append (λ s. eqb k s.flag) ss (next ∷ []) ∙ rw e (or-true (is_among ss k))))
        (λ e. get_or-set_other seen i k true false (eqb-false k i e)
        ∙ noted.marked k below
        ∙ sym (any_append (λ s. eqb k s.flag) ss (next ∷ []) ∙ rw e (or-false (is_among ss k))))

    now_valued : (k : ℕ) → k < flag_count → get_or (set sets i on) k false ≡ set_among (ss ++ (next ∷ [])) k
    now_valued k below =
        cases (eqb k i)
        (λ e. let same : k ≡ i = eqb-true k i e in
        let none : set_among ss k ≡ false = ap (set_among ss) same ∙ unset in
        ap (λ j. get_or (set sets i on) j false) same
        ∙ get_or-set_same sets i on false (omega (arith, noted.sets_count))
        ∙ sym (any_append (λ s. eqb k s.flag && s.set) ss (next ∷ []) ∙ rw (none, e) (or-false on)))
        (λ e. get_or-set_other sets i k on false (eqb-false k i e)
        ∙ noted.valued k below
        ∙ sym (any_append (λ s. eqb k s.flag && s.set) ss (next ∷ []) ∙ rw e (or-false (set_among ss k))))

    pub noted_more : Noted (set seen i true) (set sets i on) (ss ++ (next ∷ []))
    noted_more = record {
      once = still_once;
      marked = now_marked;
      valued = now_valued;
      seen_count = length-set seen i true ∙ noted.seen_count;
      sets_count = length-set sets i on ∙ noted.sets_count;
    }

  -- the number of the flags that are set among the settings
  flags_same : (n : ℕ) → n ≤ flag_count → flags_in n sets ≡ flags_below n ss
  unfolding flags_in flags_below
  flags_same zero h = refl
  flags_same (suc n) h = rw (flags_same n (omega arith), noted.valued n (omega arith))

  full_same : is_full_set ss ≡ all_seen seen
  unfolding is_full_set
  full_same =
      let heard : (k : ℕ) → k < flag_count → any (eqb k) (map (λ s. s.flag) ss) ≡ get_or seen k false =
      λ k below. any_map (λ (s : Setting). s.flag) (eqb k) ss ∙ sym (noted.marked k below) in
      ap (λ b. b && among_all (counted 0 flag_count) (map (λ s. s.flag) ss)) noted.once
      ∙ iff_same (among_all (counted 0 flag_count) (map (λ s. s.flag) ss)) (all_seen seen)
      (λ all. every_counted_complete (λ k. get_or seen k false) flag_count 0
      (λ k low high. sym (heard k high) ∙ every_counted_sound (λ k. any (eqb k) (map (λ s. s.flag) ss)) flag_count 0 all k low high))
      (λ all. every_counted_complete (λ k. any (eqb k) (map (λ s. s.flag) ss)) flag_count 0
      (λ k low high. heard k high ∙ every_counted_sound (λ k. get_or seen k false) flag_count 0 all k low high))

  -- the answer at the closing mark
  pub noted_answer : (s : List ℕ) (begun next : ℕ) → Behind s begun next
      → SettingsSays s begun (flags_found seen sets next) (full_set (taking ss (tokens (drop next s))))
  noted_answer s begun next behind =
      cases (all_seen seen)
      (λ all. subst (λ r. SettingsSays s begun r (full_set (taking ss (tokens (drop next s))))) (sym (found_by seen sets next true all))
      (ss, rw (full_same ∙ all), flags_same flag_count (omega arith), behind))
      (λ some. subst (λ r. SettingsSays s begun r (full_set (taking ss (tokens (drop next s))))) (sym (found_by seen sets next false some))
      (rw (full_same ∙ some)))
