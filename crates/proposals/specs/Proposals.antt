-- Believed: Whose signature is missing, in 02's words: the tests of both calls, when a proposal passes the check, and what the planner proposes.
use Rattle.std.specs.Prelude.{Bool, ◌&&◌, ◌||◌, cond, List, [], ◌∷◌, ◌++◌, map, ℕ, zero, suc, eqb, leb, ltb, length, take, Result, Err, Ok}
use Rattle.lists.specs.Lists.{any, ands}
use Rattle.rights.specs.Rights.{is_right, worth_of}
use Rattle.register.specs.Limits.{id_limit, weight_limit, moment_end}
use Rattle.register.specs.Register.{claims_of, no_claim}
use Rattle.register.specs.declared.Claim.{Claim}
use Rattle.register.specs.declared.Register.{Register}
use Rattle.soundness_rules.specs.Sound.{sound}
use Rattle.refusals.specs.Refusals.{Test, outcome_of, is_accepted}
use Rattle.refusals.specs.declared.Refusal.{Refusal}
use Rattle.refusals.specs.declared.Refusal.TheVariants.{Unsound, Range, Absent, NoProposal}
use Rattle.change_rules.specs.Changes.{world_in, granted}
use Rattle.actions.specs.Actions.{one_use, is_permitted}
use Rattle.actions.specs.declared.Usage.{Usage}
use Rattle.actions.specs.declared.Action.{Action}
use Rattle.gate_rules.specs.Gate.{gated, first_of}
use Rattle.proposals.specs.declared.Signers.{Signers}
use Rattle.proposals.specs.declared.Proposal.{Proposal}
use Rattle.proposals.specs.declared.Proposed.{Proposed}
use Rattle.proposals.specs.declared.Checked.{Checked}
use Rattle.proposals.specs.declared.Checked.TheVariants.{Passes, Fails, Stopped}

-- how many signers there are at most
abbrev pub signer_limit : ℕ
signer_limit = 8

-- the kinds of a proposal; 0, which memory that was never written holds, is neither
abbrev pub no_grant_kind : ℕ
no_grant_kind = 1

abbrev pub grant_kind : ℕ
grant_kind = 2

-- entries past the count are ignored
abbrev pub signers_of : Signers → List ℕ
signers_of s = take s.count s.list

-- at most 8 signers, and the fields of the use and the moment in range
unfoldable pub asks_fit : Usage → ℕ → Signers → Bool
asks_fit u moment s = ands (leb s.count signer_limit ∷ leb u.resource id_limit ∷ is_right u.right ∷ ltb moment moment_end ∷ [])

-- the tests of both calls: 1; 2 for more than 8 signers or a field of the use or the moment out of range; 3 for the actor
unfoldable pub ask_tests : Register → ℕ → Usage → ℕ → Signers → List Test
ask_tests r x u moment s =
    record { passed = sound r; refusal = Unsound }
    ∷ record { passed = asks_fit u moment s; refusal = Range }
    ∷ record { passed = (world_in r).known x; refusal = Absent }
    ∷ []

-- whether the gate permits an action
unfoldable pub permits : Register → Action → Bool
permits r a = is_permitted (gated r a).decision

-- a grant to the actor of that single right on that resource by one of the signers
unfoldable pub of_form : ℕ → Usage → Signers → Claim → Bool
of_form x u s c = ands (
    eqb c.holder x
    ∷ eqb c.resource u.resource
    ∷ eqb c.rights (worth_of u.right)
    ∷ any (eqb c.grantor) (signers_of s)
    ∷ [])

-- a grant that would be accepted at the moment, and the one-use action would then be permitted
unfoldable pub helping : Register → ℕ → Usage → ℕ → Claim → Bool
helping r x u moment c = is_accepted (granted r c moment).outcome && permits (granted r c moment).register (one_use x u moment)

-- a grant that passes the check
abbrev pub passing_grant : Register → ℕ → Usage → ℕ → Signers → Claim → Bool
passing_grant r x u moment s c = of_form x u s c && helping r x u moment c

-- A proposal passes when it is no grant and the one-use action is permitted, or it is a grant that passes; nothing else does.
unfoldable pub passing : Register → ℕ → Usage → ℕ → Signers → Proposal → Bool
passing r x u moment s p =
    (eqb p.kind no_grant_kind && permits r (one_use x u moment)) || (eqb p.kind grant_kind && passing_grant r x u moment s p.claim)

-- the check: the tests, then whether the proposal passes
abbrev pub checked_on : Result Unit Refusal → Bool → Checked
checked_on (Ok _) passes = cond passes Passes Fails
checked_on (Err why) passes = Stopped why

unfoldable pub checked : Register → ℕ → Usage → ℕ → Signers → Proposal → Checked
checked r x u moment s p = checked_on (outcome_of (ask_tests r x u moment s)) (passing r x u moment s p)

-- the number of the check's answer; 0 is no answer's
abbrev pub checked_number : Checked → ℕ
checked_number Passes = 1
checked_number Fails = 2
checked_number (Stopped why) = 3

-- the least number from n on that is no claim's id, where so many of them are tried
unfoldable pub free_from : ℕ → ℕ → List Claim → ℕ
free_from zero n cs = n
free_from (suc tries) n cs = let more = free_from tries (suc n) cs in cond (any (λ c. eqb n c.id) cs) more n

-- the least free id: among so many claims one number more is enough
abbrev pub least_free : List Claim → ℕ
least_free cs = free_from (length cs) 1 cs

-- the grant that g would sign, below a parent (0: a root), with a weight: it never expires, may not be passed on, and has the least free id
abbrev pub candidate : Register → ℕ → Usage → ℕ → ℕ → ℕ → Claim
candidate r x u g parent weight = record {
  id = least_free (claims_of r.claims);
  parent = parent;
  grantor = g;
  holder = x;
  resource = u.resource;
  rights = worth_of u.right;
  weight = weight;
  left = 0;
  expiry = 0;
}

-- what g would sign: a root of weight 1,000, then one below each claim in register order, of its weight
abbrev pub signed_by : Register → ℕ → Usage → ℕ → List Claim
signed_by r x u g = candidate r x u g 0 weight_limit ∷ map (λ p. candidate r x u g p.id p.weight) (claims_of r.claims)

-- the candidates, signers in their order
abbrev pub candidates : Register → ℕ → Usage → List ℕ → List Claim
candidates r x u [] = []
candidates r x u (g ∷ gs) = signed_by r x u g ++ candidates r x u gs

-- no grant, with a claim of zeros; a grant
abbrev pub no_grant : Proposal
no_grant = record { kind = no_grant_kind; claim = no_claim }

abbrev pub a_grant : Claim → Proposal
a_grant c = record { kind = grant_kind; claim = c }

-- the planner's answers: a proposal; a refusal, beside which stands neither kind
abbrev pub proposes : Proposal → Proposed
proposes p = record { outcome = Ok tt; proposal = p }

abbrev pub unproposed : Refusal → Proposed
unproposed why = record { outcome = Err why; proposal = record { kind = 0; claim = no_claim } }

-- a grant of the first of a list, or 26 where there is none
abbrev pub proposed_first : List Claim → Proposed
proposed_first [] = unproposed NoProposal
proposed_first (c ∷ cs) = proposes (a_grant c)

-- the planner: the tests; no grant where that passes; else the first candidate that passes; else 26
abbrev pub proposed_on : Result Unit Refusal → Register → ℕ → Usage → ℕ → Signers → Proposed
proposed_on (Ok tt) r x u moment s =
    cond (permits r (one_use x u moment)) (proposes no_grant)
    (proposed_first (first_of (passing_grant r x u moment s) (candidates r x u (signers_of s))))
proposed_on (Err why) r x u moment s = unproposed why

unfoldable pub proposed : Register → ℕ → Usage → ℕ → Signers → Proposed
proposed r x u moment s = proposed_on (outcome_of (ask_tests r x u moment s)) r x u moment s
