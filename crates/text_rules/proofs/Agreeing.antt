-- Texts that are the same in their first lines: what a line is read as depends on that line alone, and so does each reading up to the line at
-- which it fails. Assumes nothing.
use Rattle.std.proofs.Common.{ℕ, zero, suc, ◌+◌, ◌-◌, ◌≤◌, ◌<◌, ◌≡◌, refl, sym, ap, subst, ◌∙◌, Bool, true, false, not, cond, List, [], ◌∷◌, ◌++◌, ◌⊎◌, inl, inr, arith, eqb, ltb, leb, length, drop, eq-eqb, ne_eqb, eqb-true}
use native.Mathlib.Decide.{dec_lt}
use borrow.Author.Tests.{eqb-false}
use Rattle.lists.specs.Tests.{cases}
use Rattle.lists.specs.Tests as tests
use Rattle.lists.specs.Lists.{every, All}
use Rattle.lists.specs.Each.{cons_clash}
use Rattle.lists.specs.Bytes.{bytes}
use Rattle.decimals.specs.Decimals.{is_digit, digit_run, after, value, canonical, got, large, bad, judge, parse}
use Rattle.register.specs.Limits.{human_kind, machine_kind, path_limit, path_byte_least, path_byte_greatest}
use Rattle.lines.specs.Lines.{line_feed, Line, line, beyond, fault, begins, ended, parse_limited, at_least, parse_decimal, parse_word, scope_key, path_on, parse_scope}
use Rattle.refusals.specs.declared.Refusal.{Refusal}
use Rattle.refusals.specs.declared.Refusal.TheVariants.{Form}
use Rattle.lines.specs.Reading.{State, going, failed, Read, LineForm, decimal, kind, count, parse_form, above_refusal, taken, read_form, read_scope, closed}
use Rattle.text_rules.specs.FirstLines.{first_lines}
use Rattle.text_rules.specs.Records.{values, passed, many, section}

-- two texts are the same in their first n lines
abbrev pub Alike : ℕ → List ℕ → List ℕ → Type 0
Alike n t u = first_lines n t ≡ first_lines n u

first_none : (n : ℕ) → first_lines n [] ≡ []
unfolding first_lines
first_none zero = refl
first_none (suc n) = refl

first_end : (n b : ℕ) (t : List ℕ) → b ≡ line_feed → first_lines (suc n) (b ∷ t) ≡ b ∷ first_lines n t
unfolding first_lines
first_end n b t ends = rw (eq-eqb b line_feed ends)

first_on : (n b : ℕ) (t : List ℕ) → (b ≡ line_feed → ⊥) → first_lines (suc n) (b ∷ t) ≡ b ∷ first_lines (suc n) t
unfolding first_lines
first_on n b t other = rw (ne_eqb b line_feed other)

first_byte : (n b : ℕ) (t : List ℕ) → (l : List ℕ) × (first_lines (suc n) (b ∷ t) ≡ b ∷ l)
first_byte n b t =
    cases (eqb b line_feed)
    (λ e. (first_lines n t, first_end n b t (eqb-true b line_feed e)))
    (λ e. (first_lines (suc n) t, first_on n b t (eqb-false b line_feed e)))

-- where one of two texts ends, so does the other
alike_nil : (n : ℕ) (u : List ℕ) → Alike (suc n) [] u → u ≡ []
alike_nil n [] same = refl
alike_nil n (c ∷ u) same = cons_clash (sym (first_byte n c u).1 ∙ sym same ∙ first_none (suc n))

cons_head : {b c : ℕ} {l m : List ℕ} → ◌≡◌ {A = List ℕ} (b ∷ l) (c ∷ m) → b ≡ c
cons_head same = cc

cons_tail : {b c : ℕ} {l m : List ℕ} → ◌≡◌ {A = List ℕ} (b ∷ l) (c ∷ m) → l ≡ m
cons_tail same = cc

-- two texts, byte by byte: the other text has the same first byte, and behind it they are the same in as many lines, or in one less behind a line's end
record Beside (n b : ℕ) (t u : List ℕ) : Type 0 where
  rest : List ℕ
  text : u ≡ b ∷ rest
  ended_line : b ≡ line_feed → Alike n t rest
  same_line : (b ≡ line_feed → ⊥) → Alike (suc n) t rest

beside : (n b : ℕ) (t u : List ℕ) → Alike (suc n) (b ∷ t) u → Beside n b t u
beside n b t [] same = cons_clash (sym (first_byte n b t).1 ∙ same ∙ first_none (suc n))
beside n b t (c ∷ u) same =
    let byte : c ≡ b = sym (cons_head (sym (first_byte n b t).1 ∙ same ∙ (first_byte n c u).1)) in
    let here : Alike (suc n) (b ∷ t) (b ∷ u) = same ∙ ap (λ x. first_lines (suc n) (x ∷ u)) byte in
    record {
      rest = u;
      text = ap (λ x. x ∷ u) byte;
      ended_line = λ ends. cons_tail (sym (first_end n b t ends) ∙ here ∙ first_end n b u ends);
      same_line = λ other. cons_tail (sym (first_on n b t other) ∙ here ∙ first_on n b u other);
    }

-- what two lines are read as: the same, and what follows them is the same in n lines
abbrev LineAlike : {A : Type 0} → ℕ → Line A → Line A → Type 0
LineAlike n (line a t) (line c u) = (a ≡ c) × Alike n t u
LineAlike n (line a t) beyond = ⊥
LineAlike n (line a t) fault = ⊥
LineAlike n beyond (line c u) = ⊥
LineAlike n beyond beyond = Unit {0}
LineAlike n beyond fault = ⊥
LineAlike n fault (line c u) = ⊥
LineAlike n fault beyond = ⊥
LineAlike n fault fault = Unit {0}

-- no byte of a key ends a line
abbrev pub Within : List ℕ → Type 0
Within [] = Unit {0}
Within (k ∷ key) = (k ≡ line_feed → ⊥) × Within key

-- a key that is so by computing
pub within_plain : (key : List ℕ) → every (λ k. not (eqb k line_feed)) key ≡ true → Within key
within_plain [] plain = tt
within_plain (k ∷ key) plain =
    let first = tests.and_left (not (eqb k line_feed)) (every (λ k. not (eqb k line_feed)) key) plain in (
      λ feeds. tests.clash (not (eqb k line_feed)) first (ap not (eq-eqb k line_feed feeds)),
      within_plain key (tests.and_right (not (eqb k line_feed)) (every (λ k. not (eqb k line_feed)) key) plain),
    )

begins_same : (k b : ℕ) (key t : List ℕ) → eqb k b ≡ true → begins (k ∷ key) (b ∷ t) ≡ begins key t
unfolding begins
begins_same k b key t e = rw e

begins_other : (k b : ℕ) (key t : List ℕ) → eqb k b ≡ false → begins (k ∷ key) (b ∷ t) ≡ false
unfolding begins
begins_other k b key t e = rw e

-- both texts begin with a key or neither, and behind it they are the same in as many lines
record Keyed (n : ℕ) (key t u : List ℕ) : Type 0 where
  both : begins key t ≡ begins key u
  behind : begins key t ≡ true → Alike (suc n) (drop (length key) t) (drop (length key) u)

keyed : (n : ℕ) (key t u : List ℕ) → Within key → Alike (suc n) t u → Keyed n key t u
unfolding begins
keyed n [] t u within same = record { both = refl; behind = λ e. same }
keyed n (k ∷ key) [] u within same = rw (alike_nil n u same) (record { both = refl; behind = λ e. refl })
keyed n (k ∷ key) (b ∷ t) u within same =
    let next = beside n b t u same in
    rw next.text
    (cases (eqb k b)
    (λ e. let inside : (b ≡ line_feed → ⊥) = λ feeds. within.0 (eqb-true k b e ∙ feeds) in
    let more = keyed n key t next.rest within.1 (next.same_line inside) in
    record {
      both = begins_same k b key t e ∙ more.both ∙ sym (begins_same k b key next.rest e);
      behind = λ h. more.behind (sym (begins_same k b key t e) ∙ h);
    })
    (λ e. record {
      both = begins_other k b key t e ∙ sym (begins_other k b key next.rest e);
      behind = λ h. tests.clash (begins (k ∷ key) (b ∷ t)) h (begins_other k b key t e);
    }))

-- digits are of one line
digit_within : (b : ℕ) → is_digit b ≡ true → b ≡ line_feed → ⊥
digit_within b digit feeds = tests.clash (is_digit b) digit (ap is_digit feeds)

record Counted (n : ℕ) (t u : List ℕ) : Type 0 where
  run : digit_run t ≡ digit_run u
  behind : Alike (suc n) (after t) (after u)

counted : (n : ℕ) (t u : List ℕ) → Alike (suc n) t u → Counted n t u
unfolding digit_run after
counted n [] u same = rw (alike_nil n u same) (record { run = refl; behind = refl })
counted n (b ∷ t) u same =
    let next = beside n b t u same in
    rw next.text
    (cases (is_digit b)
    (λ e. let more = counted n t next.rest (next.same_line (digit_within b e)) in
    record { run = rw e (ap (λ l. b ∷ l) more.run); behind = rw e more.behind })
    (λ e. record { run = rw e; behind = rw e (same ∙ ap (first_lines (suc n)) next.text) }))

-- a number whose line ends, or one above its limit, is told by that line
got_alike : (n v : ℕ) (t u : List ℕ) → Alike (suc n) t u → LineAlike n (ended (got v t)) (ended (got v u))
unfolding ended
got_alike n v [] u same = rw (alike_nil n u same) tt
got_alike n v (b ∷ t) u same =
    let next = beside n b t u same in
    rw next.text (cases (eqb b line_feed) (λ e. rw e (refl, next.ended_line (eqb-true b line_feed e))) (λ e. rw e tt))

large_alike : (n : ℕ) (t u : List ℕ) → Alike (suc n) t u → LineAlike n (ended (large t)) (ended (large u))
unfolding ended
large_alike n [] u same = rw (alike_nil n u same) tt
large_alike n (b ∷ t) u same = let next = beside n b t u same in rw next.text (cases (eqb b line_feed) (λ e. rw e tt) (λ e. rw e tt))

bad_alike : (n : ℕ) → LineAlike n (ended bad) (ended bad)
unfolding ended
bad_alike n = tt

-- the number of a run of digits, by what follows it
abbrev numbered : ℕ → List ℕ → List ℕ → Line ℕ
numbered greatest run rest = ended (cond (canonical run) (judge greatest (value 0 run) rest) bad)

numbered_alike : (n greatest : ℕ) (run t u : List ℕ) → Alike (suc n) t u → LineAlike n (numbered greatest run t) (numbered greatest run u)
numbered_alike n greatest run t u same =
    cases (canonical run)
    (λ e. rw e (cases (leb (value 0 run) greatest) (λ f. rw f (got_alike n (value 0 run) t u same)) (λ f. rw f (large_alike n t u same))))
    (λ e. rw e (bad_alike n))

parse_alike : (n greatest : ℕ) (t u : List ℕ) → Alike (suc n) t u → LineAlike n (ended (parse greatest t)) (ended (parse greatest u))
unfolding parse
parse_alike n greatest t u same =
    let digits = counted n t u same in
    subst (λ run. LineAlike n (numbered greatest (digit_run t) (after t)) (numbered greatest run (after u))) digits.run
    (numbered_alike n greatest (digit_run t) (after t) (after u) digits.behind)

limited_alike : (n : ℕ) (key : List ℕ) (greatest : ℕ) (t u : List ℕ) → Within key → Alike (suc n) t u
    → LineAlike n (parse_limited key greatest t) (parse_limited key greatest u)
unfolding parse_limited
limited_alike n key greatest t u within same =
    let k = keyed n key t u within same in
    cases (begins key t)
    (λ e. rw (e, sym k.both ∙ e) (parse_alike n greatest (drop (length key) t) (drop (length key) u) (k.behind e)))
    (λ e. rw (e, sym k.both ∙ e) tt)

least_alike : (n least : ℕ) (L M : Line ℕ) → LineAlike n L M → LineAlike n (at_least least L) (at_least least M)
unfolding at_least
least_alike n least (line a t) (line c u) same =
    rw (← same.0) (cases (leb least a) (λ e. rw e (refl, same.1)) (λ e. rw e tt))
least_alike n least (line a t) beyond same = absurd same
least_alike n least (line a t) fault same = absurd same
least_alike n least beyond (line c u) same = absurd same
least_alike n least beyond beyond same = tt
least_alike n least beyond fault same = absurd same
least_alike n least fault (line c u) same = absurd same
least_alike n least fault beyond same = absurd same
least_alike n least fault fault same = tt

-- 1. a line of a decimal
pub decimal_alike : (n : ℕ) (key : List ℕ) (least greatest : ℕ) (t u : List ℕ) → Within key → Alike (suc n) t u
    → LineAlike n (parse_decimal key least greatest t) (parse_decimal key least greatest u)
decimal_alike n key least greatest t u within same =
    least_alike n least (parse_limited key greatest t) (parse_limited key greatest u) (limited_alike n key greatest t u within same)

-- a word, its line's end included
begins_then : (key more t : List ℕ) → begins (key ++ more) t ≡ cond (begins key t) (begins more (drop (length key) t)) false
unfolding begins
begins_then [] more t = refl
begins_then (k ∷ key) more [] = refl
begins_then (k ∷ key) more (b ∷ t) = cases (eqb k b) (λ e. rw e (begins_then key more t)) (λ e. rw e)

drop_then : (key : List ℕ) (c : ℕ) (t : List ℕ) → drop (length (key ++ (c ∷ []))) t ≡ drop 1 (drop (length key) t)
drop_then [] c t = refl
drop_then (k ∷ key) c [] = refl
drop_then (k ∷ key) c (b ∷ t) = drop_then key c t

record Worded (n : ℕ) (word t u : List ℕ) : Type 0 where
  both : begins word t ≡ begins word u
  behind : begins word t ≡ true → Alike n (drop (length word) t) (drop (length word) u)

feed_alike : (n : ℕ) (t u : List ℕ) → Alike (suc n) t u → Worded n (line_feed ∷ []) t u
unfolding begins
feed_alike n [] u same = rw (alike_nil n u same) (record { both = refl; behind = λ e. refl })
feed_alike n (b ∷ t) u same =
    let next = beside n b t u same in
    rw next.text (record {
      both = refl;
      behind = λ h. next.ended_line (cases (eqb line_feed b) (λ e. sym (eqb-true line_feed b e)) (λ e. tests.clash (cond (eqb line_feed b) true false) h (ap (λ x. cond x true false) e)));
    })

worded : (n : ℕ) (key t u : List ℕ) → Within key → Alike (suc n) t u → Worded n (key ++ (line_feed ∷ [])) t u
worded n key t u within same =
    let k = keyed n key t u within same in
    let feed = line_feed ∷ [] in
    cases (begins key t)
    (λ e. let other : begins key u ≡ true = sym k.both ∙ e in
    let end = feed_alike n (drop (length key) t) (drop (length key) u) (k.behind e) in
    let first : begins (key ++ feed) t ≡ begins feed (drop (length key) t) = begins_then key feed t ∙ ap (λ x. cond x (begins feed (drop (length key) t)) false) e in
    let second : begins (key ++ feed) u ≡ begins feed (drop (length key) u) = begins_then key feed u ∙ ap (λ x. cond x (begins feed (drop (length key) u)) false) other in
    record {
      both = first ∙ end.both ∙ sym second;
      behind = λ h. rw (drop_then key line_feed t, drop_then key line_feed u) (end.behind (sym first ∙ h));
    })
    (λ e. let first : begins (key ++ feed) t ≡ false = begins_then key feed t ∙ ap (λ x. cond x (begins feed (drop (length key) t)) false) e in
    let second : begins (key ++ feed) u ≡ false = begins_then key feed u ∙ ap (λ x. cond x (begins feed (drop (length key) u)) false) (sym k.both ∙ e) in
    record { both = first ∙ sym second; behind = λ h. tests.clash (begins (key ++ feed) t) h first })

word_alike : (n : ℕ) (first second : List ℕ) (one other : ℕ) (t u : List ℕ) → Within first → Within second → Alike (suc n) t u
    → LineAlike n (parse_word (first ++ (line_feed ∷ [])) one (second ++ (line_feed ∷ [])) other t) (parse_word (first ++ (line_feed ∷ [])) one (second ++ (line_feed ∷ [])) other u)
unfolding parse_word
word_alike n first second one other t u withinFirst withinSecond same =
    let f = worded n first t u withinFirst same in
    let s = worded n second t u withinSecond same in
    cases (begins (first ++ (line_feed ∷ [])) t)
    (λ e. rw (e, sym f.both ∙ e) (refl, f.behind e))
    (λ e. rw (e, sym f.both ∙ e)
    (cases (begins (second ++ (line_feed ∷ [])) t) (λ g. rw (g, sym s.both ∙ g) (refl, s.behind g)) (λ g. rw (g, sym s.both ∙ g) tt)))

-- 2. a line of a path
path_alike : (n : ℕ) (path t u : List ℕ) → Alike (suc n) t u → LineAlike n (path_on path t) (path_on path u)
unfolding path_on
path_alike n path [] u same = rw (alike_nil n u same) tt
path_alike n path (b ∷ t) u same =
    let next = beside n b t u same in
    rw next.text
    (cases (eqb b line_feed)
    (λ e. rw e (refl, next.ended_line (eqb-true b line_feed e)))
    (λ e. rw e
    (cases (ltb b path_byte_least) (λ f. rw f tt)
    (λ f. rw f
    (cases (ltb path_byte_greatest b) (λ g. rw g tt)
    (λ g. rw g
    (cases (ltb (length path) path_limit)
    (λ h. rw h (path_alike n (path ++ (b ∷ [])) t next.rest (next.same_line (eqb-false b line_feed e))))
    (λ h. rw h tt))))))))

scope_alike : (n : ℕ) (t u : List ℕ) → Alike (suc n) t u → LineAlike n (parse_scope t) (parse_scope u)
unfolding parse_scope
scope_alike n t u same =
    let k = keyed n scope_key t u (scope_within) same in
    cases (begins scope_key t)
    (λ e. rw (e, sym k.both ∙ e) (path_alike n [] (drop (length scope_key) t) (drop (length scope_key) u) (k.behind e)))
    (λ e. rw (e, sym k.both ∙ e) tt)
  where
    scope_within : Within scope_key
    scope_within = within_plain scope_key refl

-- the forms of lines whose keys hold no line's end
abbrev pub Plain : LineForm → Type 0
Plain (decimal key least greatest above) = Within key
Plain kind = Unit {0}

-- forms that are so by computing
abbrev is_plain : LineForm → Bool
is_plain (decimal key least greatest above) = every (λ k. not (eqb k line_feed)) key
is_plain kind = true

pub all_plain : (forms : List LineForm) → every is_plain forms ≡ true → All Plain forms
all_plain [] plain = tt
all_plain (decimal key least greatest above ∷ forms) plain =
    let first = every (λ k. not (eqb k line_feed)) key in
    (within_plain key (tests.and_left first (every is_plain forms) plain), all_plain forms (tests.and_right first (every is_plain forms) plain))
all_plain (kind ∷ forms) plain = (tt, all_plain forms plain)

form_alike : (n : ℕ) (f : LineForm) (t u : List ℕ) → Plain f → Alike (suc n) t u → LineAlike n (parse_form f t) (parse_form f u)
form_alike n (decimal key least greatest above) t u within same = decimal_alike n key least greatest t u within same
form_alike n kind t u within same =
    word_alike n (bytes "kind=human") (bytes "kind=machine") human_kind machine_kind t u
    (within_plain (bytes "kind=human") refl) (within_plain (bytes "kind=machine") refl) same

-- where two readings stand, by a line up to which their texts are the same: before the same lines, or failed alike
abbrev pub StateAlike : ℕ → State → State → Type 0
StateAlike m (going t l) (going u k) = (l ≡ k) × Alike (suc m - l) t u
StateAlike m (going t l) (failed why k) = ⊥
StateAlike m (failed why l) (going u k) = ⊥
StateAlike m (failed why l) (failed other k) = (why ≡ other) × (l ≡ k)

-- a reading has passed that line
abbrev pub Past : ℕ → State → Type 0
Past m (going t l) = m < l
Past m (failed why l) = m < l

-- two readings have the same value and stand alike, or the first has passed the line
abbrev pub Agrees : {A : Type 0} → ℕ → Read A → Read A → Type 0
Agrees m x y = ((x.value ≡ y.value) × StateAlike m x.state y.state) ⊎ Past m x.state

-- a reading that asks no more than each line in its turn
pub record Local {A : Type 0} (m : ℕ) (read : State → Read A) : Type 0 where
  pub on : (st su : State) → StateAlike m st su → Agrees m (read st) (read su)
  pub past : (st : State) → Past m st → Past m (read st).state

taken_alike : {A : Type 0} (m : ℕ) (none : A) (above : Refusal) (l : ℕ) (L M : Line A) → l ≤ m → LineAlike (m - l) L M
    → Agrees m (taken none above l L) (taken none above l M)
taken_alike m none above l (line a t) (line c u) inside same =
    inl (same.0, (refl, subst (λ k. Alike k t u) (lines_left m l inside) same.1))
  where
    lines_left : (m l : ℕ) → l ≤ m → m - l ≡ suc m - (l + 1)
    lines_left m l inside = omega arith
taken_alike m none above l (line a t) beyond inside same = absurd same
taken_alike m none above l (line a t) fault inside same = absurd same
taken_alike m none above l beyond (line c u) inside same = absurd same
taken_alike m none above l beyond beyond inside same = inl (refl, (refl, refl))
taken_alike m none above l beyond fault inside same = absurd same
taken_alike m none above l fault (line c u) inside same = absurd same
taken_alike m none above l fault beyond inside same = absurd same
taken_alike m none above l fault fault inside same = inl (refl, (refl, refl))

taken_past : {A : Type 0} (m : ℕ) (none : A) (above : Refusal) (l : ℕ) (L : Line A) → m < l → Past m (taken none above l L).state
taken_past m none above l (line a t) h = omega (arith, h)
taken_past m none above l beyond h = h
taken_past m none above l fault h = h

line_local : {A : Type 0} (m : ℕ) (none : A) (above : Refusal) (parse : List ℕ → Line A)
    → ((n : ℕ) (t u : List ℕ) → Alike (suc n) t u → LineAlike n (parse t) (parse u)) → (l : ℕ) (t u : List ℕ) → Alike (suc m - l) t u
    → Agrees m (taken none above l (parse t)) (taken none above l (parse u))
line_local m none above parse alike l t u same = elim (dec_lt m l) [
  | yes past ↦ inr (taken_past m none above l (parse t) past)
  | no inside ↦ let here : suc m - l ≡ suc (m - l) = omega arith in
      taken_alike m none above l (parse t) (parse u) (omega arith) (alike (m - l) t u (subst (λ k. Alike k t u) here same))
]

pub form_local : (m : ℕ) (f : LineForm) → Plain f → Local m (read_form f)
form_local m f within = record { on = on; past = past }
  where
    on : (st su : State) → StateAlike m st su → Agrees m (read_form f st) (read_form f su)
    on (going t l) (going u k) same = rw (← same.0) (line_local m 0 (above_refusal f) (parse_form f) (λ n t u. form_alike n f t u within) l t u same.1)
    on (going t l) (failed why k) same = absurd same
    on (failed why l) (going u k) same = absurd same
    on (failed why l) (failed other k) same = inl (refl, same)

    past : (st : State) → Past m st → Past m (read_form f st).state
    past (going t l) h = taken_past m 0 (above_refusal f) l (parse_form f t) h
    past (failed why l) h = h

pub scope_local : (m : ℕ) → Local m read_scope
scope_local m = record { on = on; past = past }
  where
    on : (st su : State) → StateAlike m st su → Agrees m (read_scope st) (read_scope su)
    on (going t l) (going u k) same = rw (← same.0) (line_local m [] Form parse_scope scope_alike l t u same.1)
    on (going t l) (failed why k) same = absurd same
    on (failed why l) (going u k) same = absurd same
    on (failed why l) (failed other k) same = inl (refl, same)

    past : (st : State) → Past m st → Past m (read_scope st).state
    past (going t l) h = taken_past m [] Form l (parse_scope t) h
    past (failed why l) h = h

-- one reading behind another
abbrev pub in_turn : {A B C : Type 0} → (State → Read A) → (A → State → Read B) → (A → B → C) → State → Read C
in_turn first second join st =
    let one = first st in
    let more = second one.value one.state in
    record { value = join one.value more.value; state = more.state }

pub in_turn_local : {A B C : Type 0} (m : ℕ) (first : State → Read A) (second : A → State → Read B) (join : A → B → C) → Local m first
    → ((a : A) → Local m (second a)) → Local m (in_turn first second join)
in_turn_local {A} {B} {C} m first second join f s = record {
  on = λ st su same. go st su (f.on st su same);
  past = λ st h. (s (first st).value).past (first st).state (f.past st h);
}
  where
    more : (a c : A) (st su : State) → a ≡ c → Agrees m (second a st) (second a su)
        → Agrees m (record { value = join a (second a st).value; state = (second a st).state }) (record { value = join c (second c su).value; state = (second c su).state })
    more a c st su e (inl same) = inl (rw (← e) (ap (join a) same.0), rw (← e) same.1)
    more a c st su e (inr passed-line) = inr passed-line

    go : (st su : State) → Agrees m (first st) (first su) → Agrees m (in_turn first second join st) (in_turn first second join su)
    go st su (inl same) =
        more (first st).value (first su).value (first st).state (first su).state same.0 ((s (first st).value).on (first st).state (first su).state same.1)
    go st su (inr passed-line) = inr ((s (first st).value).past (first st).state passed-line)

-- nothing read
pub none_local : {A : Type 0} (m : ℕ) (a : A) → Local m (λ st. record { value = a; state = st })
none_local m a = record { on = λ st su same. inl (refl, same); past = λ st h. h }

-- lines of these forms
abbrev pub lines_read : List LineForm → State → Read (List ℕ)
lines_read forms st = record { value = values forms st; state = passed forms st }

pub forms_local : (m : ℕ) (forms : List LineForm) → All Plain forms → Local m (lines_read forms)
unfolding values passed
forms_local m [] plain = none_local m []
forms_local m (f ∷ forms) plain =
    in_turn_local m (read_form f) (λ v. lines_read forms) (λ v vs. v ∷ vs) (form_local m f plain.0) (λ v. forms_local m forms plain.1)

pub many_local : {A : Type 0} (m : ℕ) (read : State → Read A) → Local m read → (n : ℕ) → Local m (many read n)
unfolding many
many_local m read one zero = none_local m []
many_local m read one (suc n) = in_turn_local m read (λ a. many read n) (λ a more. a ∷ more) one (λ a. many_local m read one n)

pub section_local : {A : Type 0} (m : ℕ) (key : List ℕ) (limit : ℕ) (read : State → Read A) → Within key → Local m read → Local m (section key limit read)
section_local m key limit read within one = in_turn_local m (read_form (count key limit)) (many read) (λ n things. things) (form_local m (count key limit) within) (many_local m read one)

-- the end of a text
abbrev pub ending : {A : Type 0} → A → State → Read A
ending a st = record { value = a; state = closed st }

pub ending_local : {A : Type 0} (m : ℕ) (a : A) → Local m (ending a)
ending_local {A} m a = record { on = on; past = past }
  where
    shut : (l : ℕ) (t u : List ℕ) → l ≤ m → Alike (suc (m - l)) t u → StateAlike m (closed (going t l)) (closed (going u l))
    shut l [] u inside same = rw (alike_nil (m - l) u same) (refl, refl)
    shut l (b ∷ t) u inside same = rw (beside (m - l) b t u same).text (refl, refl)

    shut_past : (l : ℕ) (t : List ℕ) → m < l → Past m (closed (going t l))
    shut_past l [] h = h
    shut_past l (b ∷ t) h = h

    on : (st su : State) → StateAlike m st su → Agrees m (ending a st) (ending a su)
    on (going t l) (going u k) same = subst (λ j. Agrees m (ending a (going t l)) (ending a (going u j))) same.0 (elim (dec_lt m l) [
      | yes h ↦ inr (shut_past l t h)
      | no inside ↦ let here : suc m - l ≡ suc (m - l) = omega arith in
          inl (refl, shut l t u (omega arith) (subst (λ j. Alike j t u) here same.1))
    ])
    on (going t l) (failed why k) same = absurd same
    on (failed why l) (going u k) same = absurd same
    on (failed why l) (failed other k) same = inl (refl, same)

    past : (st : State) → Past m st → Past m (closed st)
    past (going t l) h = shut_past l t h
    past (failed why l) h = h
