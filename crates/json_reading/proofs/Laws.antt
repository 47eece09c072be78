-- Laws of what stands behind a mark, of what follows an item, and of lists that may be empty. Assumes nothing.
use Rattle.std.proofs.Common.{ℕ, ◌≡◌, refl, sym, ap, ◌∙◌, List, [], ◌∷◌, ◌++◌, false, arith, eqb, eq-eqb}
use Rattle.lists.specs.Tests.{cases}
use Rattle.json_tokens.specs.Tokens.{Token, mark, text, no_token, comma}
use Rattle.json_rules.specs.Members.{Taken, taking, missed, past, led_by, separated, further, items, any_items, take_number}
use Rattle.json_rules.specs.Items.{Shrinks, items_step, taken_cases, prefixed, prefixed_led}
use Rattle.json_reading.specs.Answers.{Separation, more, no_more, broken, separation, is_marked}

-- what stands behind a mark
pub past_marked : {A : Type 0} (b : ℕ) (go : List Token → Taken A) (ts : List Token) → past b go (mark b ∷ ts) ≡ go ts
past_marked b go ts = rw (eq-eqb b b refl)

pub past_unmarked : {A : Type 0} (b : ℕ) (go : List Token → Taken A) (ts : List Token) → is_marked b ts ≡ false → past b go ts ≡ missed
past_unmarked b go [] other = refl
past_unmarked b go (mark c ∷ ts) other = rw other
past_unmarked b go (text x ∷ ts) other = refl
past_unmarked b go (no_token ∷ ts) other = refl

-- an item and what follows it
abbrev pub continued : {A : Type 0} → (List Token → Taken (List A)) → A → Separation → Taken (List A)
continued go a (more ts) = led_by a (go ts)
continued go a (no_more ts) = taking (a ∷ []) ts
continued go a broken = missed

module _ {A : Type 0} (close : ℕ) (go : List Token → Taken (List A)) (a : A) where
  pub separated_natural : (ts : List Token) → separated close go a ts ≡ continued go a (separation close ts)
  separated_natural [] = refl
  separated_natural (mark b ∷ ts) = cases (eqb b comma) (λ e. rw e) (λ other. cases (eqb b close) (λ e. rw (other, e)) (λ another. rw (other, another)))
  separated_natural (text x ∷ ts) = refl
  separated_natural (no_token ∷ ts) = refl

  pub separated_more : (ts us : List Token) → separation close ts ≡ more us → separated close go a ts ≡ led_by a (go us)
  separated_more ts us e = separated_natural ts ∙ ap (continued go a) e

  pub separated_done : (ts us : List Token) → separation close ts ≡ no_more us → separated close go a ts ≡ taking (a ∷ []) us
  separated_done ts us e = separated_natural ts ∙ ap (continued go a) e

  pub separated_broken : (ts : List Token) → separation close ts ≡ broken → separated close go a ts ≡ missed
  separated_broken ts e = separated_natural ts ∙ ap (continued go a) e

-- a list that is closed at once is empty
pub any_items_none : {A : Type 0} (item : List Token → Taken A) (close : ℕ) (us : List Token) → any_items item close (mark close ∷ us) ≡ taking [] us
any_items_none item close us = rw (eq-eqb close close refl)

module _ {A : Type 0} (item : List Token → Taken A) (close : ℕ) (shrinks : Shrinks item) where
  pub items_missed : (ts : List Token) → item ts ≡ missed → items item close ts ≡ missed
  items_missed ts e = items_step item close shrinks ts ∙ ap (further close (items item close)) e

  -- what items follow those so far, by what follows the next one
  module _ (l : List A) (a : A) (ts rest : List Token) (taken : item ts ≡ taking a rest) where
    items_taken : items item close ts ≡ separated close (items item close) a rest
    items_taken = items_step item close shrinks ts ∙ ap (further close (items item close)) taken

    pub items_more : (us : List Token) → separation close rest ≡ more us →
        prefixed l (items item close ts) ≡ prefixed (l ++ (a ∷ [])) (items item close us)
    items_more us e = ap (prefixed l) (items_taken ∙ separated_more close (items item close) a rest us e) ∙ prefixed_led l a (items item close us)

    pub items_done : (us : List Token) → separation close rest ≡ no_more us → prefixed l (items item close ts) ≡ taking (l ++ (a ∷ [])) us
    unfolding prefixed
    items_done us e = ap (prefixed l) (items_taken ∙ separated_done close (items item close) a rest us e)

    pub items_broken : separation close rest ≡ broken → prefixed l (items item close ts) ≡ missed
    unfolding prefixed
    items_broken e = ap (prefixed l) (items_taken ∙ separated_broken close (items item close) a rest e)

  items_nil : items item close [] ≡ missed
  items_nil = items_missed [] (taken_cases (item []) (λ a rest taken. absurd (omega (arith, shrinks [] a rest taken))) (λ none. none))

  -- a list that is not closed at once has an item, where what is no token is no item
  pub any_items_some : ((ts : List Token) → item (no_token ∷ ts) ≡ missed) → (ts : List Token) → is_marked close ts ≡ false →
      any_items item close ts ≡ items item close ts
  any_items_some unheld [] unclosed = sym items_nil
  any_items_some unheld (mark b ∷ ts) unclosed = rw unclosed
  any_items_some unheld (text x ∷ ts) unclosed = refl
  any_items_some unheld (no_token ∷ ts) unclosed = sym (items_missed (no_token ∷ ts) (unheld ts))

-- what is no token is no number
pub number_no_token : (ts : List Token) → take_number (no_token ∷ ts) ≡ missed
unfolding take_number
number_no_token ts = refl
