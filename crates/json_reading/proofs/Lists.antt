-- Laws of one number and of a list of numbers. Assumes nothing.
use Rattle.std.proofs.Common.{ℕ, ◌+◌, ◌≤◌, ◌<◌, ◌≡◌, refl, sym, ap, ◌∙◌, List, [], ◌∷◌, ◌++◌, true, false, arith, length, drop, set, length-append, length-set, drop-cons, le-leb, Option, Some, None}
use borrow.Author.Tests.{lt-leb}
use Rattle.lists.specs.Splices.{splice_nil, splice_snoc}
use Rattle.lists.specs.Lists.{splice}
use Rattle.register.specs.Limits.{id_limit}
use Rattle.decimals.specs.Decimals.{Parsed, got, parse}
use Rattle.actions.specs.Actions.{use_limit}
use Rattle.json_tokens.specs.Tokens.{Token, mark, text, opens_list, closes_list, tokens}
use Rattle.json_rules.specs.Members.{Taken, taking, missed, past, is_exact, exact_of, take_number, take_numbers, led_by, further, items, any_items}
use Rattle.json_rules.specs.Items.{taken_cases, missed_took, items_step, number_shrinks, prefixed, prefixed_nil}
use Rattle.json_reading.specs.Answers.{Behind, Separation, more, no_more, broken, separation, is_marked, limited, NumbersSays}
use Rattle.json_reading.proofs.Laws.{past_marked, past_unmarked, continued, separated_natural, items_missed, items_more, items_done, items_broken, any_items_none, any_items_some, number_no_token}

module _ (s : List ℕ) (n next : ℕ) (p : Parsed) (read : p ≡ got n (drop next s)) where
  pub exact_behind : next < length s → is_exact p ≡ false
  exact_behind inside = rw (read, drop-cons s next 0 inside)

-- a number is a text that holds it
pub number_taken : (x : List ℕ) (n : ℕ) (ts : List Token) → is_exact (parse id_limit x) ≡ true → exact_of (parse id_limit x) ≡ n →
    take_number (text x ∷ ts) ≡ taking n ts
unfolding take_number
number_taken x n ts exact value = rw (exact, value)

pub number_inexact : (x : List ℕ) (ts : List Token) → is_exact (parse id_limit x) ≡ false → take_number (text x ∷ ts) ≡ missed
unfolding take_number
number_inexact x ts inexact = rw inexact

pub number_mark : (b : ℕ) (ts : List Token) → take_number (mark b ∷ ts) ≡ missed
unfolding take_number
number_mark b ts = refl

pub number_nil : take_number [] ≡ missed
unfolding take_number
number_nil = refl

-- items are one at least
led_filled : {A : Type 0} (a : A) (x : Taken (List A)) (l : List A) (rest : List Token) → led_by a x ≡ taking l rest → 0 < length l
led_filled a (taking m ts) l rest e = let whole : a ∷ m ≡ l = cc in omega (arith, ap length whole)
led_filled a missed l rest e = missed_took e

continued_filled : {A : Type 0} (go : List Token → Taken (List A)) (a : A) (p : Separation) (l : List A) (rest : List Token) → continued go a p ≡ taking l rest →
    0 < length l
continued_filled go a (more ts) l rest e = led_filled a (go ts) l rest e
continued_filled go a (no_more ts) l rest e = let whole : a ∷ [] ≡ l = cc in omega (arith, ap length whole)
continued_filled go a broken l rest e = missed_took e

-- the numbers of a list, from its first one on
abbrev pub listed : List Token → Taken (List ℕ)
listed ts = items take_number closes_list ts

listed_filled : (ts : List Token) (l : List ℕ) (rest : List Token) → listed ts ≡ taking l rest → 0 < length l
listed_filled ts l rest e =
    taken_cases (take_number ts)
    (λ n us taken. continued_filled listed n (separation closes_list us) l rest (
    sym (items_step take_number closes_list number_shrinks ts ∙ ap (further closes_list listed) taken ∙ separated_natural closes_list listed n us) ∙ e
    ))
    (λ none. missed_took (sym (items_missed take_number closes_list number_shrinks ts none) ∙ e))

-- up to 32 numbers are a list; more are not
limited_fits : (l : List ℕ) (ts : List Token) → length l ≤ use_limit → limited (taking l ts) ≡ taking l ts
limited_fits l ts fit = rw (le-leb (length l) use_limit fit)

limited_over : (l : List ℕ) (x : Taken (List ℕ)) → ((m : List ℕ) (rest : List Token) → x ≡ taking m rest → 0 < length m) → use_limit ≤ length l →
    limited (prefixed l x) ≡ missed
unfolding prefixed
limited_over l (taking m ts) filled full = rw (lt-leb (length (l ++ m)) use_limit (simp length-append (omega (arith, filled m ts refl))))
limited_over l missed filled full = refl

-- what was read of a list of numbers: it began at `begun`, and goes on at `at`
pub record Listing (s : List ℕ) (begun base : ℕ) (old new : List ℕ) (at count : ℕ) : Type 0 where
  pub ns : List ℕ
  pub whole : listed (tokens (drop begun s)) ≡ prefixed ns (listed (tokens (drop at s)))
  pub counted : length ns ≡ count
  pub within : count ≤ use_limit
  pub written : new ≡ splice base ns old
  pub kept : length new ≡ length old
  pub onward : begun ≤ at

pub listing_start : (s : List ℕ) (begun base : ℕ) (old : List ℕ) → Listing s begun base old old begun 0
listing_start s begun base old = record {
  ns = [];
  whole = sym (prefixed_nil _);
  counted = refl;
  within = omega arith;
  written = sym (splice_nil base old);
  kept = refl;
  onward = omega arith;
}

module _ {s : List ℕ} {begun base : ℕ} {old new : List ℕ} {at count : ℕ} (l : Listing s begun base old new at count) where
  pub listing_missed : take_number (tokens (drop at s)) ≡ missed → limited (listed (tokens (drop begun s))) ≡ missed
  unfolding prefixed
  listing_missed none = rw (l.whole, items_missed take_number closes_list number_shrinks (tokens (drop at s)) none)

  pub listing_full : use_limit ≤ count → limited (listed (tokens (drop begun s))) ≡ missed
  listing_full full = ap limited l.whole ∙ limited_over l.ns (listed (tokens (drop at s))) (listed_filled (tokens (drop at s))) (omega (arith, l.counted))

  module _ (n : ℕ) (rest : List Token) (taken : take_number (tokens (drop at s)) ≡ taking n rest) where
    pub listing_broken : separation closes_list rest ≡ broken → limited (listed (tokens (drop begun s))) ≡ missed
    listing_broken e = ap limited (l.whole ∙ items_broken take_number closes_list number_shrinks l.ns n (tokens (drop at s)) rest taken e)

    module _ (room : base + use_limit ≤ length old) (less : count < use_limit) (next : ℕ) (ahead : at < next) where
      next_written : set new (base + count) n ≡ splice base (l.ns ++ (n ∷ [])) old
      next_written = splice_snoc base l.ns n old new (base + count) (omega (arith, l.counted)) (omega (arith, l.counted)) l.written

      next_counted : length (l.ns ++ (n ∷ [])) ≡ count + 1
      next_counted = simp length-append (omega (arith, l.counted))

      pub listing_more : separation closes_list rest ≡ more (tokens (drop next s)) →
          Listing s begun base old (set new (base + count) n) next (count + 1)
      listing_more e = record {
        ns = l.ns ++ (n ∷ []);
        whole = l.whole ∙ items_more take_number closes_list number_shrinks l.ns n (tokens (drop at s)) rest taken (tokens (drop next s)) e;
        counted = next_counted;
        within = omega arith;
        written = next_written;
        kept = simp length-set l.kept;
        onward = omega (arith, l.onward);
      }

      pub listing_done : separation closes_list rest ≡ no_more (tokens (drop next s)) → next ≤ length s →
          NumbersSays s begun base old (set new (base + count) n) (Some (count + 1, next)) (limited (listed (tokens (drop begun s))))
      listing_done e inside = (
        l.ns ++ (n ∷ []),
        ap limited (l.whole ∙ items_done take_number closes_list number_shrinks l.ns n (tokens (drop at s)) rest taken (tokens (drop next s)) e)
            ∙ limited_fits (l.ns ++ (n ∷ [])) (tokens (drop next s)) (omega (arith, next_counted)),
        sym next_counted,
        omega arith,
        next_written,
        (omega (arith, l.onward), inside),
      )

-- a list of numbers, by its first marks
pub numbers_unopened : (ts : List Token) → is_marked opens_list ts ≡ false → take_numbers ts ≡ missed
unfolding take_numbers
numbers_unopened ts unopened = past_unmarked opens_list (any_items take_number closes_list) ts unopened

module _ (ts us : List Token) (opened : ts ≡ mark opens_list ∷ us) where
  numbers_opened : take_numbers ts ≡ any_items take_number closes_list us
  unfolding take_numbers
  numbers_opened = ap (past opens_list (any_items take_number closes_list)) opened ∙ past_marked opens_list (any_items take_number closes_list) us

  pub numbers_some : is_marked closes_list us ≡ false → take_numbers ts ≡ listed us
  numbers_some unclosed = numbers_opened ∙ any_items_some take_number closes_list number_shrinks number_no_token us unclosed

  numbers_none : (vs : List Token) → us ≡ mark closes_list ∷ vs → take_numbers ts ≡ taking [] vs
  numbers_none vs closed = numbers_opened ∙ ap (any_items take_number closes_list) closed ∙ any_items_none take_number closes_list vs

-- nothing is written of an empty list
pub says_none : (s : List ℕ) (at next base : ℕ) (old : List ℕ) (us : List Token) → tokens (drop at s) ≡ mark opens_list ∷ us →
    us ≡ mark closes_list ∷ tokens (drop next s) → Behind s at next →
    NumbersSays s at base old old (Some (0, next)) (limited (take_numbers (tokens (drop at s))))
says_none s at next base old us opened closed behind =
    ([], ap limited (numbers_none (tokens (drop at s)) us opened (tokens (drop next s)) closed), refl, omega arith, sym (splice_nil base old), behind)

-- what is said of the numbers from a later position on
pub says_from : (s : List ℕ) (at begun base : ℕ) (old new : List ℕ) (r : Option (ℕ × ℕ)) (p q : Taken (List ℕ)) → at ≤ begun → p ≡ q →
    NumbersSays s begun base old new r q → NumbersSays s at base old new r p
says_from s at begun base old new (Some r) p q onward e says =
    (says.0, e ∙ says.1, says.2, says.3, says.4, (omega (arith, says.5.0), says.5.1))
says_from s at begun base old new None p q onward e says = e ∙ says
