-- The order of the refusals of JSON: where two faults meet, the first test is told. All by computing.
-- Assumes nothing.
use Rattle.std.proofs.Common.{Result, Err, Ok, ℕ, ◌≡◌, refl, [], ◌∷◌, map, replicate}
use Rattle.refusals.specs.declared.Refusal.{Refusal}
use Rattle.refusals.specs.Refusals.{number_of}
use Rattle.actions.specs.Actions.{action_fits}
use Rattle.actions.specs.declared.Action.{Action}
use Rattle.buffers.specs.Delivery.{delivered}
use Rattle.json_tokens.specs.Tokens.{tokens, tokens_with, leading, unblanked}
use Rattle.json_tokens.specs.Spelling.{spelled, spelled_all}
use Rattle.decimals.specs.Decimals.{digits, digits_with}
use Rattle.json_rules.specs.Members.{is_id_text, members_of}
use Rattle.json_rules.specs.Actions.{json_read, resources_with, members_from, commaed, number_tokens, value_tokens, member_tokens, object_tokens, json_text, json_fits, json_holds, json_written}

abbrev told : Result Unit Refusal → ℕ
told (Ok _) = 0
told (Err why) = number_of why

-- reading: 24 of the empty text; 2 before 24
read_told : map (λ moment. told (json_read [] moment).outcome) (4294967295 ∷ 4294967296 ∷ []) ≡ 24 ∷ 2 ∷ []
unfolding json_read tokens tokens_with leading unblanked members_of
read_told = refl

-- an action with one use, and with the first of two governed actors or not
abbrev acting : ℕ → ℕ → ℕ → Action
acting moment right governed = record {
  actor = 1;
  flags = 0;
  now = moment;
  uses = record { resource = 10; right = right } ∷ replicate 31 (record { resource = 0; right = 0 });
  used = 1;
  governs = replicate 8 0;
  governed = governed;
}

-- writing of an action with the id `x` and a kind, into an empty buffer
abbrev writing : Action → ℕ → ℕ
writing a kind = told (json_written a (120 ∷ []) kind []).outcome

-- 21; 25, of a right above 2 and of a governed actor, before 21; 2, of a moment and of a kind, before 25
written_told : writing (acting 0 2 0) 0 ∷ writing (acting 0 3 0) 0 ∷ writing (acting 0 2 1) 0 ∷ writing (acting 4294967296 3 0) 0 ∷ writing (acting 0 3 1) 17 ∷ []
    ≡ 21 ∷ 25 ∷ 25 ∷ 2 ∷ 2 ∷ []
unfolding json_written json_fits json_holds action_fits is_id_text delivered json_text spelled_all spelled object_tokens member_tokens value_tokens number_tokens commaed members_from resources_with digits digits_with
written_told = refl
