-- Laws: The two laws of an action's lines inside a longer text, and of actions that are the same. An action that was read has zeros past its counts.
-- Assumes nothing.
use Rattle.std.specs.Prelude.{ℕ, ◌-◌, ◌≡◌, true, List, [], ◌∷◌, ◌++◌, length}
use Rattle.std.proofs.Common.{sym, ap, ◌∙◌}
use Rattle.lists.specs.Fills.{full_length}
use Rattle.actions.specs.Actions.{no_use, use_limit, govern_limit, uses_of, governs_of, action_fits, SameAction}
use Rattle.actions.specs.declared.Usage.{Usage}
use Rattle.actions.specs.declared.Action.{Action}
use Rattle.lines.specs.Reading.{State, going, Read}
use Rattle.text_rules.specs.Keys.{uses_key, governs_key}
use Rattle.text_rules.specs.Records.{lines_text, section_text}
use Rattle.text_rules.specs.Actions.{head_forms, head_numbers, use_text, govern_text, ShapedAction, read_action, action_text}
use Rattle.text_rules.proofs.Fitting.{take_few}
use Rattle.text_rules.specs.Things.{ReadsAs, Stood}
use Rattle.text_rules.specs.Holding.{held_entries}
use Rattle.text_rules.proofs.ActionCodec.{action_parts, action_holding, action_lists_of, reads_parts, text_parts, parts_fit, holding_same, action_lines_out, action_lines_in, given_head, given_uses, given_governs, given_text, given_fits, pieces_same}

-- an action as a reading holds it: zeros past its counts
abbrev pub cleaned_action : Action → Action
cleaned_action a = action_holding (action_lists_of a)

-- an action as it is read
pub record ReadFine (a : Action) : Type 0 where
  pub fine : action_fits a ≡ true
  pub clean : cleaned_action a ≡ a
  pub shaped : ShapedAction a

pub action_reads : (a : Action) (rest : List ℕ) (l : ℕ) → ReadFine a → ReadsAs read_action (action_text a ++ rest) l a rest
action_reads a rest l h =
    let one = action_parts.reads (action_lists_of a) rest l (parts_fit a (action_lines_out a h.fine)) in
    let e = ap (λ (t : List ℕ). read_action (going (t ++ rest) l)) (text_parts a) ∙ reads_parts (going (action_parts.text (action_lists_of a) ++ rest) l) in
    record {
      next = one.next;
      value = ap (λ (x : Read Action). x.value) e ∙ ap action_holding one.value ∙ h.clean;
      state = ap (λ (x : Read Action). x.state) e ∙ one.state;
    }

-- what was read is clean
parts_back : (st : State) → action_lists_of (action_holding (action_parts.read st).value) ≡ (action_parts.read st).value
parts_back st =
    let g = (action_parts.read st).value in
    ap (λ (ns : List ℕ). record { first = ns; second = record { first = uses_of (action_holding g); second = governs_of (action_holding g) } }) (given_head st)
    ∙ ap (λ (us : List Usage). record { first = g.first; second = record { first = us; second = governs_of (action_holding g) } }) (given_uses st)
    ∙ ap (λ (gs : List ℕ). record { first = g.first; second = record { first = g.second.first; second = gs } }) (given_governs st)

pub action_stood : (st : State) (rest : List ℕ) (m : ℕ) → (read_action st).state ≡ going rest m → Stood action_text ReadFine (read_action st).value st rest
action_stood st rest m h =
    let g = (action_parts.read st).value in
    let one = action_parts.stood st rest m (sym (ap (λ (x : Read Action). x.state) (reads_parts st)) ∙ h) in
    let fine : ReadFine (action_holding g) = record {
      fine = action_lines_in (action_holding g) (given_fits st one.fits);
      clean = ap action_holding (parts_back st);
      shaped = record {
        uses = full_length g.second.first use_limit no_use one.fits.other.one.few;
        governs = full_length g.second.second govern_limit 0 one.fits.other.other.few;
      };
    } in
    rw (ap (λ (x : Read Action). x.value) (reads_parts st)) (record {
      at = one.at;
      before = one.before ∙ ap (λ (t : List ℕ). going (t ++ rest) one.at) (sym (given_text st));
      fits = fine;
    })

-- an action in its ranges with zeros past its counts: it is as it is read, the same, and has the same text
cleaned_parts : (a : Action) → action_lists_of (cleaned_action a) ≡ action_lists_of a
cleaned_parts a =
    ap (λ (us : List Usage). record { first = head_numbers a; second = record { first = us; second = governs_of (cleaned_action a) } })
    (held_entries (uses_of a) (use_limit - length (uses_of a)) no_use)
    ∙ ap (λ (gs : List ℕ). record { first = head_numbers a; second = record { first = uses_of a; second = gs } })
    (held_entries (governs_of a) (govern_limit - length (governs_of a)) 0)

pub cleaned_action_text : (a : Action) → action_text (cleaned_action a) ≡ action_text a
cleaned_action_text a = text_parts (cleaned_action a) ∙ ap action_parts.text (cleaned_parts a) ∙ sym (text_parts a)

pub cleaned_action_same : (a : Action) → action_fits a ≡ true → ShapedAction a → SameAction (cleaned_action a) a
cleaned_action_same = holding_same

fits_as : (a b : Action) → SameAction a b → action_fits a ≡ action_fits b
unfolding action_fits
fits_as a b same = rw (same.uses, same.governs, same.actor, same.flags, same.now, same.used, same.governed)

pub cleaned_action_fine : (a : Action) → action_fits a ≡ true → ShapedAction a → ReadFine (cleaned_action a)
cleaned_action_fine a h shaped =
    let few = action_lines_out a h in
    record {
      fine = fits_as (cleaned_action a) a (holding_same a h shaped) ∙ h;
      clean = ap action_holding (cleaned_parts a);
      shaped = record {
        uses = full_length (uses_of a) use_limit no_use (take_few a.used use_limit a.uses few.few_uses);
        governs = full_length (governs_of a) govern_limit 0 (take_few a.governed govern_limit a.governs few.few_governs);
      };
    }

pub same_action_sym : (a b : Action) → SameAction a b → SameAction b a
same_action_sym a b same = record {
  actor = sym same.actor;
  flags = sym same.flags;
  now = sym same.now;
  used = sym same.used;
  uses = sym same.uses;
  governed = sym same.governed;
  governs = sym same.governs;
}

pub same_action_trans : (a b c : Action) → SameAction a b → SameAction b c → SameAction a c
same_action_trans a b c one other = record {
  actor = one.actor ∙ other.actor;
  flags = one.flags ∙ other.flags;
  now = one.now ∙ other.now;
  used = one.used ∙ other.used;
  uses = one.uses ∙ other.uses;
  governed = one.governed ∙ other.governed;
  governs = one.governs ∙ other.governs;
}

-- the same actions have one text
pub same_action_text : (a b : Action) → SameAction a b → action_text a ≡ action_text b
unfolding action_text
same_action_text a b same =
    pieces_same _ _ _ _ _ _
    (ap (λ (n : ℕ). lines_text head_forms (n ∷ a.actor ∷ a.flags ∷ [])) same.now
    ∙ ap (λ (n : ℕ). lines_text head_forms (b.now ∷ n ∷ a.flags ∷ [])) same.actor
    ∙ ap (λ (n : ℕ). lines_text head_forms (b.now ∷ b.actor ∷ n ∷ [])) same.flags)
    (ap (section_text uses_key use_limit use_text) same.uses)
    (ap (section_text governs_key govern_limit govern_text) same.governs)
