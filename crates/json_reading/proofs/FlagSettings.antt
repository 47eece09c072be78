-- Laws of the flags' settings as they are read: one of them, those behind one another, and the object that they are in. Assumes nothing.
use Rattle.std.proofs.Common.{ℕ, ◌≤◌, ◌<◌, ◌≡◌, refl, sym, ap, ◌∙◌, subst, List, [], ◌∷◌, ◌++◌, map, Bool, true, false, ◌&&◌, arith, eqb, drop, get_or, set, replicate, Option, Some, None}
use mathlib.Core.List.{map-append}
use Rattle.lists.specs.Tests.{cases}
use Rattle.lists.specs.Each.{any_map}
use Rattle.lists.specs.Lists.{counted, distinct}
use Rattle.lists.specs.Distinct.{distinct_again}
use Rattle.actions.specs.Actions.{flag_count}
use Rattle.json_tokens.specs.Tokens.{Token, mark, text, no_token, colon, closes_object, opens_object, tokens}
use Rattle.json_rules.specs.Names.{flag_names, place_of}
use Rattle.json_rules.specs.Members.{Setting, Taken, missed, led_by, separated, items, any_items, take_text, take_set, take_setting, take_settings, among_all, is_full_set, taking}
use Rattle.json_rules.specs.Items.{items_step, setting_shrinks, prefixed, prefixed_nil, prefixed_led}
use Rattle.json_reading.proofs.Laws.{past_unmarked, continued, separated_natural, separated_more, separated_done, separated_broken, items_missed}
use Rattle.json_reading.specs.Answers.{Behind, Separation, more, no_more, broken, separation, is_marked, SettingSays, flags_found, full_set, SettingsSays}
use Rattle.json_reading.proofs.Flags.{is_among, Noted, noted_none, noted_more, noted_answer}

-- One setting.

-- a name, a colon and what the flag is set to
module _ (ts us : List Token) (x : List ℕ) (named : ts ≡ text x ∷ us) where
  pub setting_valued : (vs : List Token) → us ≡ mark colon ∷ vs → take_setting ts ≡ take_set (place_of flag_names x) vs
  unfolding take_setting
  setting_valued vs e = rw (named, e)

  pub setting_unvalued : is_marked colon us ≡ false → take_setting ts ≡ missed
  unfolding take_setting
  setting_unvalued e = rw named (past_unmarked colon (take_set (place_of flag_names x)) us e)

pub setting_nameless : {ts us : List Token} → ts ≡ us → take_text us ≡ missed → take_setting ts ≡ missed
unfolding take_setting
setting_nameless e none = rw (e, none)

-- what the word's setting says is said of the whole setting, which begins before it
pub setting_from : (s : List ℕ) (at next : ℕ) (r : Option (ℕ × Bool × ℕ)) (p q : Taken Setting) → at ≤ next → q ≡ p
    → SettingSays s next r p → SettingSays s at r q
setting_from s at next (Some r) p q before e h = (e ∙ h.0, h.1, (omega (arith, h.2.0), h.2.1))
setting_from s at next None p q before e h = e ∙ h

-- The object of the flags.

-- a flag that comes again: the settings are no full set, whatever follows
full_again : (ss : List Setting) (a : Setting) (others : List Setting) → is_among ss a.flag ≡ true → is_full_set (ss ++ (a ∷ others)) ≡ false
unfolding is_full_set
full_again ss a others again =
    let twice : distinct (map (λ s. s.flag) (ss ++ (a ∷ others))) ≡ false =
    ap distinct (map-append (λ (s : Setting). s.flag) ss (a ∷ others))
    ∙ distinct_again (map (λ s. s.flag) ss) a.flag (map (λ s. s.flag) others) (any_map (λ (s : Setting). s.flag) (eqb a.flag) ss ∙ again) in
    ap (λ b. b && among_all (counted 0 flag_count) (map (λ s. s.flag) (ss ++ (a ∷ others)))) twice

module _ (ss : List Setting) (a : Setting) (again : is_among ss a.flag ≡ true) where
  took_again : (others : List Setting) (rest : List Token) → full_set (taking (ss ++ (a ∷ others)) rest) ≡ missed
  took_again others rest = rw (full_again ss a others again)

  led_again : (x : Taken (List Setting)) → full_set (prefixed ss (led_by a x)) ≡ missed
  unfolding prefixed
  led_again (taking others rest) = took_again others rest
  led_again missed = refl

  continued_again : (go : List Token → Taken (List Setting)) (x : Separation) → full_set (prefixed ss (continued go a x)) ≡ missed
  unfolding prefixed
  continued_again go (more ts) = led_again (go ts)
  continued_again go (no_more ts) = took_again [] ts
  continued_again go broken = refl

-- the settings of an object from a position on, up to the closing mark
abbrev settings_from : List ℕ → ℕ → Taken (List Setting)
settings_from s at = items take_setting closes_object (tokens (drop at s))

-- the settings up to a position were read
pub record Reading (s : List ℕ) (begun : ℕ) (seen sets : List Bool) (at : ℕ) : Type 0 where
  pub read : List Setting
  pub whole : settings_from s begun ≡ prefixed read (settings_from s at)
  pub noted : Noted seen sets read
  pub onward : begun ≤ at

pub reading_start : (s : List ℕ) (begun : ℕ) → Reading s begun (replicate flag_count false) (replicate flag_count false) begun
reading_start s begun = record { read = []; whole = sym (prefixed_nil (settings_from s begun)); noted = noted_none; onward = omega arith }

module _ {s : List ℕ} {begun : ℕ} {seen sets : List Bool} {at : ℕ} (r : Reading s begun seen sets at) where
  -- no setting follows
  pub reading_missed : take_setting (tokens (drop at s)) ≡ missed → full_set (settings_from s begun) ≡ missed
  unfolding prefixed
  reading_missed e = rw (r.whole, items_missed take_setting closes_object setting_shrinks (tokens (drop at s)) e)

  module _ {i : ℕ} {on : Bool} {us : List Token} (one : take_setting (tokens (drop at s)) ≡ taking (record { flag = i; set = on }) us) (known : i < flag_count) where
    abbrev this : Setting
    this = record { flag = i; set = on }

    whole_on : settings_from s begun ≡ prefixed r.read (separated closes_object (items take_setting closes_object) this us)
    whole_on = r.whole ∙ ap (prefixed r.read) (items_step take_setting closes_object setting_shrinks (tokens (drop at s)) ∙ rw one)

    pub reading_again : get_or seen i false ≡ true → full_set (settings_from s begun) ≡ missed
    reading_again e =
        ap full_set (whole_on ∙ ap (prefixed r.read) (separated_natural closes_object (items take_setting closes_object) this us))
        ∙ continued_again r.read this (sym (r.noted.marked i known) ∙ e) (items take_setting closes_object) (separation closes_object us)

    pub reading_broken : separation closes_object us ≡ broken → full_set (settings_from s begun) ≡ missed
    unfolding prefixed
    reading_broken e = rw (whole_on, separated_broken closes_object (items take_setting closes_object) this us e)

    module _ (next : ℕ) (fresh : get_or seen i false ≡ false) where
      pub reading_more : separation closes_object us ≡ more (tokens (drop next s)) → begun ≤ next → Reading s begun (set seen i true) (set sets i on) next
      reading_more e after = record {
        read = r.read ++ (this ∷ []);
        whole =
            whole_on
            ∙ ap (prefixed r.read) (separated_more closes_object (items take_setting closes_object) this us (tokens (drop next s)) e)
            ∙ prefixed_led r.read this (settings_from s next);
        noted = noted_more r.noted i on known fresh;
        onward = after;
      }

      pub reading_done : separation closes_object us ≡ no_more (tokens (drop next s)) → Behind s begun next
          → SettingsSays s begun (flags_found (set seen i true) (set sets i on) next) (full_set (settings_from s begun))
      unfolding prefixed
      reading_done e behind =
          let all : settings_from s begun ≡ taking (r.read ++ (this ∷ [])) (tokens (drop next s)) =
          whole_on ∙ ap (prefixed r.read) (separated_done closes_object (items take_setting closes_object) this us (tokens (drop next s)) e) in
          subst (λ p. SettingsSays s begun (flags_found (set seen i true) (set sets i on) next) (full_set p)) (sym all)
          (noted_answer (noted_more r.noted i on known fresh) s begun next behind)

full_none : is_full_set [] ≡ false
unfolding is_full_set distinct
full_none = refl

-- flags that are none are no full set, so nothing is lost where they are read as if there were one
any_full : (us : List Token) → full_set (any_items take_setting closes_object us) ≡ full_set (items take_setting closes_object us)
any_full [] = ap full_set (sym (items_missed take_setting closes_object setting_shrinks [] (setting_nameless refl refl)))
any_full (mark b ∷ us) =
    let none = items_missed take_setting closes_object setting_shrinks (mark b ∷ us) (setting_nameless refl refl) in
    cases (eqb b closes_object) (λ here. rw (here, none, full_none)) (λ other. rw other)
any_full (text x ∷ us) = refl
any_full (no_token ∷ us) = ap full_set (sym (items_missed take_setting closes_object setting_shrinks (no_token ∷ us) (setting_nameless refl refl)))

-- the object of the flags is its full set
pub settings_some : (ts us : List Token) → ts ≡ mark opens_object ∷ us → take_settings ts ≡ full_set (items take_setting closes_object us)
unfolding take_settings
settings_some ts us e = rw e (any_full us)

pub settings_none : (ts : List Token) → is_marked opens_object ts ≡ false → take_settings ts ≡ missed
unfolding take_settings
settings_none ts e = rw (past_unmarked opens_object (any_items take_setting closes_object) ts e)

-- what the flags' answer says is said of the whole object, which begins before them
pub settings_from_lem : (s : List ℕ) (at next : ℕ) (r : Option (ℕ × ℕ)) (p q : Taken (List Setting)) → at ≤ next → q ≡ p
    → SettingsSays s next r p → SettingsSays s at r q
settings_from_lem s at next (Some r) p q before e h = (h.0, e ∙ h.1, h.2, (omega (arith, h.3.0), h.3.1))
settings_from_lem s at next None p q before e h = e ∙ h
