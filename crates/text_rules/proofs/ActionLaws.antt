-- What follows from the two laws of an action's text for a whole text. Assumes nothing.
use Rattle.std.proofs.Common.{Err, Ok, ℕ, ◌≡◌, sym, ap, subst, ◌∙◌, true, List, [], ◌++◌, append-nil}
use Rattle.actions.specs.Actions.{action_fits, SameAction, no_action}
use Rattle.actions.specs.declared.Action.{Action}
use Rattle.refusals.specs.declared.Refusal.{Refusal}
use Rattle.lines.specs.Reading.{State, going, Read, closed}
use Rattle.text_rules.specs.Actions.{ShapedAction, read_action, action_of, action_text, action_read, action_ending}
use Rattle.text_rules.proofs.ActionCodec.{ActionLists, action_parts, action_holding, action_lists_of, reads_parts, text_parts, parts_fit, holding_same, action_lines_out}
use Rattle.text_rules.proofs.ActionTexts.{action_stood}
use Rattle.text_rules.specs.Telling.{going_same, closed_going}
use Rattle.text_rules.specs.declared.ActionRead.{ActionRead}
use Rattle.text_rules.proofs.Answering.{accepted_action, refused_action}

from_parts : (t : List ℕ) → action_of t ≡ record { value = action_holding (action_parts.read (going t 1)).value; state = closed (action_parts.read (going t 1)).state }
unfolding action_of
from_parts t = ap (λ (x : Read Action). record { value = x.value; state = closed x.state }) (reads_parts (going t 1))

-- reading what was written: accepted, and the action of its parts
written_answer_lem : (a : Action) → action_fits a ≡ true → action_read (action_text a) ≡ record { action = action_holding (action_lists_of a); outcome = Ok tt; line = 0 }
unfolding action_read
written_answer_lem a h =
    let reads = action_parts.reads (action_lists_of a) [] 1 (parts_fit a (action_lines_out a h)) in
    let whole = action_parts.text (action_lists_of a) ++ [] in
    let text : action_text a ≡ whole = text_parts a ∙ sym (append-nil (action_parts.text (action_lists_of a))) in
    ap (λ (x : Read Action). action_ending x.value x.state) (ap action_of text ∙ from_parts whole)
    ∙ ap (λ (p : ActionLists). action_ending (action_holding p) (closed (action_parts.read (going whole 1)).state)) reads.value
    ∙ ap (λ (st : State). action_ending (action_holding (action_lists_of a)) (closed st)) reads.state

pub written_accepted : (a : Action) → action_fits a ≡ true → (action_read (action_text a)).outcome ≡ Ok tt
written_accepted a h = ap (λ (x : ActionRead). x.outcome) (written_answer_lem a h)

pub read_written : (a : Action) → action_fits a ≡ true → ShapedAction a → SameAction (action_read (action_text a)).action a
read_written a h shaped = subst (λ (x : ActionRead). SameAction x.action a) (sym (written_answer_lem a h)) (holding_same a h shaped)

-- a text that reads: the action read fits, and the text is its text
pub record TextOf (t : List ℕ) (a : Action) : Type 0 where
  pub fine : action_fits a ≡ true
  pub shaped : ShapedAction a
  pub text : action_text a ≡ t

pub accepted_text : (t : List ℕ) → (action_read t).outcome ≡ Ok tt → TextOf t (action_read t).action
unfolding action_read action_of
accepted_text t h =
    let read = read_action (going t 1) in
    let answer = accepted_action read.value (closed read.state) h in
    let stood = action_stood (going t 1) [] answer.at (closed_going read.state answer.rest answer.at answer.goes) in
    subst (TextOf t) (sym answer.same) (record {
      fine = stood.fits.fine;
      shaped = stood.fits.shaped;
      text = sym (append-nil (action_text read.value)) ∙ sym (going_same t (action_text read.value ++ []) 1 stood.at stood.before);
    })

pub refused_action_read : (t : List ℕ) (why : Refusal) → (action_read t).outcome ≡ Err why → (action_read t).action ≡ no_action
unfolding action_read
refused_action_read t why h = refused_action (action_of t).value (action_of t).state why h
