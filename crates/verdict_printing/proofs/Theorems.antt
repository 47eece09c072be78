-- What is proved of the text that the program prints of a register's text and an action's, over the definitions that the contract of
-- `verdict_text` cites. Assumes nothing.
use Rattle.std.proofs.Common.{Err, Ok, ℕ, ◌≤◌, ◌≡◌, List, ◌++◌, length}
use Rattle.lists.specs.Bytes.{bytes}
use Rattle.refusals.specs.Refusals.{outcome_of}
use Rattle.refusals.specs.declared.Refusal.{Refusal}
use Rattle.actions.specs.declared.Decision.TheVariants.{Permitted, Refused}
use Rattle.gate_rules.specs.Gate.{violations_of, gate_tests, gated}
use Rattle.lines.specs.Lines.{decimal_line}
use Rattle.text_rules.specs.Records.{texts}
use Rattle.text_rules.specs.Registers.{register_read}
use Rattle.text_rules.specs.Actions.{action_read}
use Rattle.verdict_printing.specs.Printed.{refused_line, violations_key, pair_text, stopped_text, printed, Heard, printed_limit}
use Rattle.verdict_printing.proofs.Lengths as lengths
use Rattle.verdict_printing.proofs.Answers as answers

module _ (register action : List ℕ) where
  -- 1a. The first refusal stops: a register's text that is refused is answered with its number, whatever the action's text is.
  pub register_stops : (why : Refusal) → (register_read register).outcome ≡ Err why → printed register action ≡ stopped_text why
  register_stops = answers.register_stops register action

  -- 1b. Then an action's text that is refused is answered with its number.
  pub action_stops : (why : Refusal) → (register_read register).outcome ≡ Ok tt → (action_read action).outcome ≡ Err why
      → printed register action ≡ stopped_text why
  action_stops = answers.action_stops register action

  -- 1c. Then the first test of the gate that fails is.
  pub gate_stops : (why : Refusal) → Heard register action → outcome_of (gate_tests (register_read register).register (action_read action).action) ≡ Err why
      → printed register action ≡ stopped_text why
  gate_stops = answers.gate_stops register action

  -- 2a. Of an action that the gate permits "verdict=permitted" and "violations=0" are printed, each ended by LF, and nothing else.
  pub permitted_printed : Heard register action → (gated (register_read register).register (action_read action).action).decision ≡ Permitted
      → printed register action ≡ bytes "verdict=permitted\nviolations=0\n"
  permitted_printed = answers.permitted_printed register action

  -- 2b. They are printed of no other: both texts were read, and the gate permits.
  pub printed_permitted : printed register action ≡ bytes "verdict=permitted\nviolations=0\n"
      → Heard register action × ((gated (register_read register).register (action_read action).action).decision ≡ Permitted)
  printed_permitted = answers.printed_permitted register action

  -- 3. Of an action that the gate refuses "verdict=refused" is printed, the number of its violations, and the pair of each in 01's order.
  pub refused_printed : Heard register action → (gated (register_read register).register (action_read action).action).decision ≡ Refused
      → let vs = violations_of (register_read register).register (action_read action).action in
      printed register action ≡ refused_line ++ (decimal_line violations_key (length vs) ++ texts pair_text vs)
  refused_printed = answers.refused_printed register action

  -- 4. No printed text is longer than 1,103 bytes.
  pub printed_length : length (printed register action) ≤ printed_limit
  printed_length = lengths.printed_length register action
