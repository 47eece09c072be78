-- Working: The reason of an actor for a use by the columns of a register. It is that of the register (`reason_natural`, `use_natural`).
use Rattle.std.specs.Prelude.{not, cond, List, ◌∷◌, map, ℕ, eqb, length, take, replicate, Option, None, Some, Ok}
use Rattle.register.specs.Limits.{claim_limit, hop_limit, moment_end, machine_kind}
use Rattle.register.specs.Chain.{current}
use Rattle.register.specs.declared.Claim.{Claim}
use Rattle.columns.specs.Columns.{places_up, latest_place, beside}
use Rattle.columns.specs.Sheet.{column_of, claim_at, holder_column, rights_column}
use Rattle.soundness_rules.specs.Roots.{root_of}
use Rattle.soundness.specs.declared.Findings.{Findings}
use Rattle.coverage.specs.Coverage.{nearest_covering}
use Rattle.coverage.specs.Gathering.{held_places}
use Rattle.gate_rules.specs.Gate.{first_of}
use Rattle.gate.specs.declared.Counts.{Counts}
use Rattle.uses.specs.Sights.{owner_at}
use Rattle.uses.specs.Uses.{open_to}
use Rattle.reasons.specs.Reasons.{Telling, telling_none, first_id}
use Rattle.reasons.specs.Uses.{told_of}
use Rattle.reasons.specs.declared.Told.{Told}
use Rattle.reasons.specs.declared.UseTold.{UseTold}
use Rattle.reason_finding.specs.declared.Ask.{Ask}

-- the claims above the one at a place, at most 16, by the places of the parents
abbrev pub higher_by : List ℕ → List ℕ → ℕ → List Claim
higher_by sheet ups from = map (claim_at sheet) (take hop_limit (places_up ups from))

-- a claim told with those above it
abbrev pub chain_telling : ℕ → Claim → List Claim → ℕ → Telling
chain_telling kind c higher at = record {
  kind = kind;
  count = length (c ∷ higher);
  chain = map (λ d. d.id) (c ∷ higher);
  keeper = (root_of c higher).grantor;
  ended = at;
}

abbrev pub chain_told : ℕ → List ℕ → List ℕ → ℕ → ℕ → Told
chain_told kind sheet ups from at = told_of (chain_telling kind (claim_at sheet from) (higher_by sheet ups from) at)

-- the first of them that is not current
abbrev pub ended_by : List ℕ → List ℕ → ℕ → ℕ → ℕ
ended_by sheet ups moment from = first_id (first_of (λ d. not (current moment d)) (claim_at sheet from ∷ higher_by sheet ups from))

-- the nearest claim with the right that the actor holds and that has not ended
abbrev pub held_place : List ℕ → List ℕ → List ℕ → List ℕ → List ℕ → List ℕ → ℕ → Ask → Option ℕ
held_place holders ends rights spots bytes lens n ask =
    nearest_covering (held_places holders ends n ask.actor ask.moment) rights spots bytes lens ask.right ask.spot

-- ends that no moment comes to, and the rights number of all rights
abbrev pub always : List ℕ
always = replicate claim_limit moment_end

abbrev pub whole : List ℕ
whole = replicate claim_limit 131071

-- what is told of the claim at a place, or else
abbrev pub told_at : (ℕ → Told) → Option ℕ → Told → Told
told_at by (Some j) more = by j
told_at by None more = more

module _ (n : ℕ) (found : Findings) (lens : List ℕ) where
  unfoldable pub lacking_by : List ℕ → List ℕ → Ask → Told
  lacking_by sheet bytes ask =
      told_at (λ j. chain_told 4 sheet found.ups j 0) (held_place (column_of holder_column sheet) always whole found.spots bytes lens n ask)
      (told_of (telling_none 5))

  unfoldable pub missing_by : List ℕ → List ℕ → Ask → Told
  missing_by sheet bytes ask =
      told_at (λ j. chain_told 3 sheet found.ups j (ended_by sheet found.ups ask.moment j))
      (held_place (column_of holder_column sheet) always (column_of rights_column sheet) found.spots bytes lens n ask)
      (lacking_by sheet bytes ask)

  unfoldable pub reason_by : List ℕ → List ℕ → List ℕ → Ask → Told
  reason_by ends sheet bytes ask =
      told_at (λ j. chain_told 1 sheet found.ups j 0)
      (held_place (column_of holder_column sheet) ends (column_of rights_column sheet) found.spots bytes lens n ask)
      (cond (open_to found.resources.publics ask.spot ask.right) (told_of (telling_none 2)) (missing_by sheet bytes ask))

-- the owner of the machine numbered x among the first n actors
abbrev pub owner_for : Findings → ℕ → ℕ → ℕ
owner_for found n x =
    cond (beside (take n found.actors.names) (take n found.actors.kinds) x machine_kind)
    (owner_at found.actors.owners (latest_place found.actors.names n x)) 0

abbrev pub ask_of : Ask → ℕ → Ask
ask_of ask x = record { actor = x; right = ask.right; spot = ask.spot; moment = ask.moment }

-- the reason of the actor and, where it is a machine with an owner, his
unfoldable pub use_by : Counts → Findings → List ℕ → List ℕ → List ℕ → List ℕ → Ask → UseTold
use_by counts found lens ends sheet bytes ask =
    let owner = owner_for found counts.actors ask.actor in
    record {
      outcome = Ok tt;
      actor = reason_by counts.claims found lens ends sheet bytes ask;
      owner = owner;
      owners = cond (eqb owner 0) (told_of (telling_none 0)) (reason_by counts.claims found lens ends sheet bytes (ask_of ask owner));
    }
