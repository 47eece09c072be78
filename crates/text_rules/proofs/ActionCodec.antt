-- Laws: An action as a thing with one text. It is taken apart into its numbers, its uses and its governed entries, which are read one behind the
-- other. Assumes nothing.
use Rattle.std.specs.Prelude.{ℕ, ◌-◌, ◌^◌, ◌≤◌, ◌≡◌, true, ◌&&◌, List, [], ◌∷◌, ◌++◌, leb, ltb, length, get_or}
use Rattle.std.proofs.Math.Path.{refl}
use Rattle.std.proofs.Common.{sym, ap, subst, ◌∙◌, arith, le-leb, lt-ltb, leb-true, ltb-true, length-take-le}
use Rattle.lists.specs.Tests.{and_left, and_right, and_both}
use Rattle.lists.specs.Lists.{every, All}
use Rattle.lists.specs.Each.{all_imp, every_all, all_every, ands_out}
use Rattle.register.specs.Limits.{id_limit, moment_end}
use Rattle.rights.specs.Rights.{right_count, is_right}
use Rattle.soundness_rules.proofs.Laws.{ranged_in, ranged_greatest}
use Rattle.actions.specs.Actions.{no_use, use_limit, govern_limit, flag_count, uses_of, governs_of, action_fits, SameAction}
use Rattle.actions.specs.declared.Usage.{Usage}
use Rattle.actions.specs.declared.Action.{Action}
use Rattle.lines.specs.Reading.{State}
use Rattle.text_rules.specs.Keys.{uses_key, governs_key}
use Rattle.text_rules.specs.Records.{values, passed, lines_text, section_text}
use Rattle.text_rules.specs.Actions.{head_forms, head_numbers, use_forms, use_numbers, use_from, use_text, govern_form, govern_text, action_from, ShapedAction, read_uses, read_governs, read_action, action_text}
use Rattle.text_rules.proofs.Fitting.{lines_fit_none, lines_fit_more, lines_fit_first, lines_fit_others, take_few, lines_fit}
use Rattle.text_rules.specs.Things.{Codec, Pair, pair_codec, made_codec}
use Rattle.text_rules.proofs.Forms.{lines_codec, section_codec}
use Rattle.text_rules.specs.Holding.{held_entries}

-- a use: numbers in lines
pub use_back : (st : State) → use_numbers (use_from (values use_forms st)) ≡ values use_forms st
unfolding values
use_back st = refl

abbrev pub use_codec : Codec Usage
use_codec = made_codec (lines_codec use_forms) use_from use_numbers use_back

use_fits_lem : (u : Usage) → lines_fit use_forms (use_numbers u) ≡ true → use_codec.Fits u
use_fits_lem u h = record { whole = record { count = refl; each = h }; clean = refl }

-- a governed entry: one number in a line
abbrev pub entry_of : List ℕ → ℕ
entry_of ns = get_or ns 0 0

pub govern_back : (st : State) → entry_of (values (govern_form ∷ []) st) ∷ [] ≡ values (govern_form ∷ []) st
unfolding values
govern_back st = refl

abbrev pub govern_codec : Codec ℕ
govern_codec = made_codec (lines_codec (govern_form ∷ [])) entry_of (λ g. g ∷ []) govern_back

govern_fits : (g : ℕ) → lines_fit (govern_form ∷ []) (g ∷ []) ≡ true → govern_codec.Fits g
govern_fits g h = record { whole = record { count = refl; each = h }; clean = refl }

-- an action of which each number may stand in its line, with no more entries than the limits
pub record ActionLines (a : Action) : Type 0 where
  pub head : lines_fit head_forms (head_numbers a) ≡ true
  pub few_uses : a.used ≤ use_limit
  pub uses : All (λ u. lines_fit use_forms (use_numbers u) ≡ true) (uses_of a)
  pub few_governs : a.governed ≤ govern_limit
  pub governs : All (λ g. lines_fit (govern_form ∷ []) (g ∷ []) ≡ true) (governs_of a)

use_lines_out : (u : Usage) → leb u.resource id_limit && is_right u.right ≡ true → lines_fit use_forms (use_numbers u) ≡ true
use_lines_out u h =
    let resource = leb-true u.resource id_limit (and_left (leb u.resource id_limit) (is_right u.right) h) in
    let right = ltb-true u.right right_count (and_right (leb u.resource id_limit) (is_right u.right) h) in
    lines_fit_more _ _ _ _ (ranged_in 0 id_limit u.resource (omega arith) resource)
    (lines_fit_more _ _ _ _ (ranged_in 0 (right_count - 1) u.right (omega arith) (omega arith)) (lines_fit_none []))

use_lines_in : (u : Usage) → lines_fit use_forms (use_numbers u) ≡ true → leb u.resource id_limit && is_right u.right ≡ true
use_lines_in u h =
    let resource = ranged_greatest 0 id_limit u.resource (lines_fit_first _ _ _ _ h) in
    let right = ranged_greatest 0 (right_count - 1) u.right (lines_fit_first _ _ _ _ (lines_fit_others _ _ _ _ h)) in
    and_both (leb u.resource id_limit) (is_right u.right) (le-leb u.resource id_limit resource) (lt-ltb u.right right_count (omega arith))

govern_lines_out : (g : ℕ) → leb g id_limit ≡ true → lines_fit (govern_form ∷ []) (g ∷ []) ≡ true
govern_lines_out g h = lines_fit_more _ _ _ _ (ranged_in 0 id_limit g (omega arith) (leb-true g id_limit h)) (lines_fit_none [])

govern_lines_in : (g : ℕ) → lines_fit (govern_form ∷ []) (g ∷ []) ≡ true → leb g id_limit ≡ true
govern_lines_in g h = le-leb g id_limit (ranged_greatest 0 id_limit g (lines_fit_first _ _ _ _ h))

pub action_lines_out : (a : Action) → action_fits a ≡ true → ActionLines a
unfolding action_fits
action_lines_out a h =
    let told = ands_out (leb a.actor id_limit ∷ ltb a.now moment_end ∷ ltb a.flags (2 ^ flag_count) ∷ leb a.used use_limit
    ∷ every (λ u. leb u.resource id_limit && is_right u.right) (uses_of a) ∷ leb a.governed govern_limit ∷ every (λ g. leb g id_limit) (governs_of a) ∷ []) h in
    let moment = ltb-true a.now moment_end told.1.0 in
    let flags = ltb-true a.flags (2 ^ flag_count) told.1.1.0 in
    record {
      head =
          lines_fit_more _ _ _ _ (ranged_in 0 (moment_end - 1) a.now (omega arith) (omega arith))
          (lines_fit_more _ _ _ _ (ranged_in 0 id_limit a.actor (omega arith) (leb-true a.actor id_limit told.0))
          (lines_fit_more _ _ _ _ (ranged_in 0 (2 ^ flag_count - 1) a.flags (omega arith) (omega arith)) (lines_fit_none [])));
      few_uses = leb-true a.used use_limit told.1.1.1.0;
      uses = all_imp (λ u. leb u.resource id_limit && is_right u.right ≡ true) (λ u. lines_fit use_forms (use_numbers u) ≡ true) use_lines_out (uses_of a)
          (every_all (λ u. leb u.resource id_limit && is_right u.right) (uses_of a) told.1.1.1.1.0);
      few_governs = leb-true a.governed govern_limit told.1.1.1.1.1.0;
      governs = all_imp (λ g. leb g id_limit ≡ true) (λ g. lines_fit (govern_form ∷ []) (g ∷ []) ≡ true) govern_lines_out (governs_of a)
          (every_all (λ g. leb g id_limit) (governs_of a) told.1.1.1.1.1.1.0);
    }

pub action_lines_in : (a : Action) → ActionLines a → action_fits a ≡ true
unfolding action_fits
action_lines_in a h =
    let moment = ranged_greatest 0 (moment_end - 1) a.now (lines_fit_first _ _ _ _ h.head) in
    let actor = ranged_greatest 0 id_limit a.actor (lines_fit_first _ _ _ _ (lines_fit_others _ _ _ _ h.head)) in
    let flags = ranged_greatest 0 (2 ^ flag_count - 1) a.flags (lines_fit_first _ _ _ _ (lines_fit_others _ _ _ _ (lines_fit_others _ _ _ _ h.head))) in
    let uses = all_every (λ u. leb u.resource id_limit && is_right u.right) (uses_of a)
    (all_imp (λ u. lines_fit use_forms (use_numbers u) ≡ true) (λ u. leb u.resource id_limit && is_right u.right ≡ true) use_lines_in (uses_of a) h.uses) in
    let governs = all_every (λ g. leb g id_limit) (governs_of a)
    (all_imp (λ g. lines_fit (govern_form ∷ []) (g ∷ []) ≡ true) (λ g. leb g id_limit ≡ true) govern_lines_in (governs_of a) h.governs) in
    rw (
      le-leb a.actor id_limit actor,
      lt-ltb a.now moment_end (omega arith),
      lt-ltb a.flags (2 ^ flag_count) (omega arith),
      le-leb a.used use_limit h.few_uses,
      uses,
      le-leb a.governed govern_limit h.few_governs,
      governs,
    )

-- the parts of an action, in the order of its text
abbrev pub ActionLists : Type 0
ActionLists = Pair (List ℕ) (Pair (List Usage) (List ℕ))

abbrev pub action_parts : Codec ActionLists
action_parts = pair_codec (lines_codec head_forms) (pair_codec (section_codec uses_key use_limit use_codec) (section_codec governs_key govern_limit govern_codec))

abbrev pub action_holding : ActionLists → Action
action_holding p = action_from p.first p.second.first p.second.second

abbrev pub action_lists_of : Action → ActionLists
action_lists_of a = record { first = head_numbers a; second = record { first = uses_of a; second = governs_of a } }

pub reads_parts : (st : State) → read_action st ≡ record { value = action_holding (action_parts.read st).value; state = (action_parts.read st).state }
unfolding read_action read_uses read_governs values passed
reads_parts st = refl

pub text_parts : (a : Action) → action_text a ≡ action_parts.text (action_lists_of a)
unfolding action_text
text_parts a = refl

pub parts_fit : (a : Action) → ActionLines a → action_parts.Fits (action_lists_of a)
parts_fit a h = record {
  one = record { count = refl; each = h.head };
  other = record {
    one = record {
      few = take_few a.used use_limit a.uses h.few_uses;
      each = all_imp (λ u. lines_fit use_forms (use_numbers u) ≡ true) use_codec.Fits use_fits_lem (uses_of a) h.uses;
    };
    other = record {
      few = take_few a.governed govern_limit a.governs h.few_governs;
      each = all_imp (λ g. lines_fit (govern_form ∷ []) (g ∷ []) ≡ true) govern_codec.Fits govern_fits (governs_of a) h.governs;
    };
  };
}

pub holding_same : (a : Action) → action_fits a ≡ true → ShapedAction a → SameAction (action_holding (action_lists_of a)) a
holding_same a h shaped =
    let fits = action_lines_out a h in
    record {
      actor = refl;
      flags = refl;
      now = refl;
      used = length-take-le a.used a.uses (omega (arith, fits.few_uses, shaped.uses));
      uses = held_entries (uses_of a) (use_limit - length (uses_of a)) no_use;
      governed = length-take-le a.governed a.governs (omega (arith, fits.few_governs, shaped.governs));
      governs = held_entries (governs_of a) (govern_limit - length (governs_of a)) 0;
    }

-- three texts one behind the other, piece by piece
pub pieces_same : (a b c d e f : List ℕ) → a ≡ d → b ≡ e → c ≡ f → a ++ (b ++ c) ≡ d ++ (e ++ f)
pieces_same a b c d e f p q r = rw (p, q, r)

-- what a reading gives as numbers, uses and entries stands in the action that holds them
module _ (st : State) where
  abbrev given : ActionLists
  given = (action_parts.read st).value

  pub given_head : head_numbers (action_holding given) ≡ given.first
  unfolding values
  given_head = refl

  pub given_uses : uses_of (action_holding given) ≡ given.second.first
  given_uses = held_entries given.second.first (use_limit - length given.second.first) no_use

  pub given_governs : governs_of (action_holding given) ≡ given.second.second
  given_governs = held_entries given.second.second (govern_limit - length given.second.second) 0

  pub given_text : action_text (action_holding given) ≡ action_parts.text given
  unfolding action_text
  given_text =
      pieces_same _ _ _ _ _ _ (ap (lines_text head_forms) given_head) (ap (section_text uses_key use_limit use_text) given_uses)
      (ap (section_text governs_key govern_limit govern_text) given_governs)

  pub given_fits : action_parts.Fits given → ActionLines (action_holding given)
  given_fits h = record {
    head = ap (lines_fit head_forms) given_head ∙ h.one.each;
    few_uses = h.other.one.few;
    uses = subst (All (λ u. lines_fit use_forms (use_numbers u) ≡ true)) (sym given_uses)
        (all_imp use_codec.Fits (λ u. lines_fit use_forms (use_numbers u) ≡ true) (λ u f. f.whole.each) given.second.first h.other.one.each);
    few_governs = h.other.other.few;
    governs = subst (All (λ g. lines_fit (govern_form ∷ []) (g ∷ []) ≡ true)) (sym given_governs)
        (all_imp govern_codec.Fits (λ g. lines_fit (govern_form ∷ []) (g ∷ []) ≡ true) (λ g f. f.whole.each) given.second.second h.other.other.each);
  }
