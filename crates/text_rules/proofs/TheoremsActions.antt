-- What is proved of the texts of actions, over the definitions that the contract of reading cites. Where an array's places matter, it has as many as
-- its type says (`ShapedAction`), as every action of the program has. Assumes nothing.
use Rattle.std.proofs.Common.{Ok, ℕ, ◌≡◌, true, List}
use Rattle.actions.specs.Actions.{action_fits, SameAction}
use Rattle.actions.specs.declared.Action.{Action}
use Rattle.text_rules.specs.Actions.{ShapedAction, action_text, action_read}
use Rattle.text_rules.proofs.ActionTexts as texts
use Rattle.text_rules.proofs.ActionLaws as actions
use Rattle.text_rules.proofs.Sameness as sameness

-- 7a. The text of every action in its ranges is accepted.
pub action_accepted : (a : Action) → action_fits a ≡ true → (action_read (action_text a)).outcome ≡ Ok tt
action_accepted = actions.written_accepted

-- 7b. Reading what was written gives the same action.
pub action_read_written : (a : Action) → action_fits a ≡ true → ShapedAction a → SameAction (action_read (action_text a)).action a
action_read_written = actions.read_written

-- 7c. A text that reads as an action is the action's text, and no other text is accepted.
pub action_written_read : (t : List ℕ) → (action_read t).outcome ≡ Ok tt → action_text (action_read t).action ≡ t
action_written_read t h = (actions.accepted_text t h).text

-- 7d. What was read is in its ranges.
pub action_read_fits : (t : List ℕ) → (action_read t).outcome ≡ Ok tt → action_fits (action_read t).action ≡ true
action_read_fits t h = (actions.accepted_text t h).fine

-- 7e. No action has two texts.
pub action_one_text : (a b : Action) → SameAction a b → action_text a ≡ action_text b
action_one_text = texts.same_action_text

-- 7f. No text is that of two actions in their ranges.
pub text_one_action : (a b : Action) → action_fits a ≡ true → ShapedAction a → action_fits b ≡ true → ShapedAction b → action_text a ≡ action_text b → SameAction a b
text_one_action = sameness.text_same_action
