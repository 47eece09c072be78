-- What is proved of the writing of an action in the builder's form, over the definitions that the contract of `write_json` cites. Assumes nothing.
use Rattle.std.proofs.Common.{Err, ℕ, ◌≤◌, ◌≡◌, List, true, length}
use Rattle.refusals.specs.declared.Refusal.{Refusal}
use Rattle.actions.specs.declared.Action.{Action}
use Rattle.json_rules.specs.Actions.{json_text, json_fits, json_written, json_buffer, json_limit}
use Rattle.json_writing.proofs.Laws as laws
use Rattle.json_writing.proofs.Answers as answers

module _ (a : Action) (id : List ℕ) (kind : ℕ) where
  -- 1. The text of an action, an id and a kind in range is never longer than 807 bytes.
  pub json_length : json_fits a id kind ≡ true → length (json_text a id kind) ≤ json_limit
  json_length = laws.json_length a id kind

  -- 2. A refused write, for whatever reason, gives length 0 and leaves every byte of the buffer.
  pub json_unwritten : (old : List ℕ) (why : Refusal) → (json_written a id kind old).outcome ≡ Err why
      → ((json_written a id kind old).length ≡ 0) × (json_buffer a id kind old ≡ old)
  json_unwritten = answers.json_unwritten a id kind
