-- Working: The planner by columns: the claims under which a claim of the actor may be drawn, the least free id, and what each signer would sign. It is
-- shaped for the code; what it comes to is `planned_proposed` of proposals/Planning, by the contract of `propose`.
use Rattle.std.specs.Prelude.{Option, Some, None, Bool, false, not, ◌&&◌, ◌||◌, cond, List, [], ◌∷◌, ◌++◌, map, ℕ, zero, suc, ◌-◌, min, eqb, ltb, take, get_or, replicate}
use Rattle.lists.specs.Lists.{any, counted}
use Rattle.lists.specs.Fills.{filled_by}
use Rattle.rights.specs.Rights.{delegating, has_right, bars_machine, worth_of}
use Rattle.paths.specs.Containment.{contained}
use Rattle.register.specs.Limits.{resource_limit, claim_limit, weight_limit, left_limit, machine_kind, tells_left}
use Rattle.register.specs.Register.{path_of, no_resource, Shaped}
use Rattle.register.specs.declared.Claim.{Claim}
use Rattle.register.specs.declared.Resources.{Resources}
use Rattle.register.specs.declared.Register.{Register}
use Rattle.columns.specs.Columns.{beside}
use Rattle.columns.specs.Sheet.{column_of, claim_at, claims_in, grantor_column, holder_column}
use Rattle.columns.specs.declared.ActorColumns.{ActorColumns}
use Rattle.refusals.specs.Refusals.{Test}
use Rattle.refusals.specs.declared.Refusal.TheVariants.{Unsound, Range, Absent}
use Rattle.actions.specs.declared.Usage.{Usage}
use Rattle.gate_rules.specs.Gate.{first_of}
use Rattle.soundness.specs.Opened.{Opened}
use Rattle.soundness.specs.declared.Findings.{Findings}
use Rattle.gate.specs.Judged.{sheet_ends}
use Rattle.gate.specs.declared.Counts.{Counts}
use Rattle.proposals.specs.Proposals.{least_free}
use Rattle.proposals.specs.Marks.{or_else}
use Rattle.proposals.specs.Asked.{Asked}

-- the tests of the call by what was found out for each
abbrev pub tests_on : Bool → Bool → Bool → List Test
tests_on whole inside known =
    record { passed = whole; refusal = Unsound }
    ∷ record { passed = inside; refusal = Range }
    ∷ record { passed = known; refusal = Absent }
    ∷ []

-- what is known once the tests are passed: the sheet and the findings are the register's, and what the tests tell
pub record Ready (r : Register) (s : List ℕ) (found : Findings) (x : ℕ) (u : Usage) (moment : ℕ) : Type 0 where
  pub opened : Opened r s found
  pub shaped : Shaped r
  pub asked : Asked r x u moment

-- a resource stands at the place, and its path contains itself
abbrev pub clean_at : Resources → ℕ → Bool
clean_at k spot = ltb spot (min k.count resource_limit) && contained (path_of (get_or k.list spot no_resource)) (path_of (get_or k.list spot no_resource))

-- whether x is no machine, or one with an owner, who is permitted, by the first n actors
abbrev pub owner_allows : ActorColumns → ℕ → ℕ → ℕ → Bool → Bool
owner_allows actors n x owner permitted =
    not (beside (take n actors.names) (take n actors.kinds) x machine_kind) || (not (eqb owner 0) && permitted)

-- how many hands a step down takes of what is left: in version 2 none, as each claim tells what is left
abbrev pub hands_taken : ℕ → ℕ
hands_taken version = cond (tells_left version) 0 1

-- How many more hands a claim may pass through before x, its room, counted by the steps down: none from where x holds a claim or granted the root.
-- Of a root, and of a claim under one that has so much.
abbrev pub room_of_root : ℕ → ℕ → ℕ → ℕ
room_of_root x grantor holder = cond (eqb holder x || eqb grantor x) 0 left_limit

module _ (step x : ℕ) where
  abbrev pub room_under : ℕ → ℕ → ℕ
  room_under holder higher = cond (eqb holder x) 0 (higher - step)

  -- by the columns and the parents' places
  module _ (ups grantors holders : List ℕ) where
    -- of the claim at place i, by those before it
    abbrev pub room_behind : List ℕ → ℕ → ℕ
    room_behind before i =
        cond (ltb (get_or ups i 0) i) (room_under (get_or holders i 0) (get_or before (get_or ups i 0) 0)) (room_of_root x (get_or grantors i 0) (get_or holders i 0))

    -- of the first n
    unfoldable pub rooms_to : ℕ → List ℕ
    rooms_to zero = []
    rooms_to (suc n) = rooms_to n ++ (room_behind (rooms_to n) n ∷ [])

    -- of the first n, and 0 past them
    unfoldable pub rooms_of : ℕ → List ℕ
    rooms_of n = rooms_to n ++ replicate (claim_limit - n) 0

-- whether a claim of a version may be drawn under c, by its end and its room
abbrev pub marked_by : ℕ → Usage → ℕ → Claim → ℕ → ℕ → Bool
marked_by version u moment c end room =
    ((((eqb c.resource u.resource && ltb moment end) && has_right c.rights delegating) && has_right c.rights u.right) && ltb 0 room)
    && (not (tells_left version) || ltb 0 c.left)

-- the marks of the first n claims of a sheet
abbrev pub mark_at : ℕ → Usage → ℕ → List ℕ → List ℕ → List ℕ → ℕ → Bool
mark_at version u moment s ends rooms i = marked_by version u moment (claim_at s i) (get_or ends i 0) (get_or rooms i 0)

unfoldable pub marks_by : ℕ → Usage → ℕ → List ℕ → List ℕ → List ℕ → ℕ → List Bool
marks_by version u moment s ends rooms n = filled_by claim_limit (mark_at version u moment s ends rooms) n false

-- the first place of a list of places
abbrev pub place_first : List ℕ → Option ℕ
place_first [] = None
place_first (j ∷ l) = Some j

-- the first marked claim of g, among the first n
abbrev pub marked_of : List ℕ → List Bool → ℕ → ℕ → Bool
marked_of holders marks g j = eqb (get_or holders j 0) g && get_or marks j false

unfoldable pub first_marked : List ℕ → List Bool → ℕ → ℕ → List ℕ
first_marked holders marks n g = first_of (marked_of holders marks g) (counted 0 n)

-- how many numbers are looked at for a free one: one more than there may be claims
abbrev pub ids_tried : ℕ
ids_tried = 257

-- which of them are among some ids
unfoldable pub ids_used : List ℕ → List Bool
ids_used ids = map (λ k. any (eqb k) ids) (counted 0 ids_tried)

-- a claim that g signs
abbrev pub signed_as : Claim → ℕ → ℕ → ℕ → Claim
signed_as blank g parent weight = record {
  id = blank.id;
  parent = parent;
  grantor = g;
  holder = blank.holder;
  resource = blank.resource;
  rights = blank.rights;
  weight = weight;
  left = blank.left;
  expiry = blank.expiry;
}

-- whether g is barred by neither 7 nor 8, by the first h actors
abbrev pub may_sign_by : ActorColumns → ℕ → ℕ → ℕ → Bool
may_sign_by actors h rights g =
    not (beside (take h actors.names) (take h actors.kinds) g machine_kind)
    || (not (beside (take h actors.names) (take h actors.owners) g 0) && not (bars_machine rights))

-- what g would sign: the keeper a root, another below his first marked claim
abbrev pub signing_by : Counts → Findings → List ℕ → List Bool → Claim → ℕ → List Claim
signing_by counts found s marks blank g =
    cond (beside (take counts.resources found.resources.reports) (take counts.resources found.resources.keepers) blank.resource g)
    (signed_as blank g 0 weight_limit ∷ [])
    (cond (may_sign_by found.actors counts.actors blank.rights g)
    (map (λ j. signed_as blank g (claim_at s j).id (claim_at s j).weight) (first_marked (column_of holder_column s) marks counts.claims g)) [])

-- the first that one of the signers would sign
abbrev pub signed_through : (ℕ → List Claim) → List ℕ → List Claim
signed_through f [] = []
signed_through f (g ∷ gs) = or_else (f g) (signed_through f gs)

-- the first of a list of claims, if there is one
abbrev pub first_claim : List Claim → Option Claim
first_claim [] = None
first_claim (c ∷ cs) = Some c

-- what the actor would be granted, but for who grants it, under what and with which weight
abbrev pub blank_for : List ℕ → ℕ → ℕ → Usage → Claim
blank_for s n x u = record {
  id = least_free (take n (claims_in s));
  parent = 0;
  grantor = 0;
  holder = x;
  resource = u.resource;
  rights = worth_of u.right;
  weight = 0;
  left = 0;
  expiry = 0;
}

-- the first that one of the signers would sign, by the counts, the findings and the sheet of a register of a version
abbrev pub rooms_by : ℕ → Counts → Findings → List ℕ → ℕ → List ℕ
rooms_by version counts found s x =
    rooms_of (hands_taken version) x found.ups (column_of grantor_column s) (column_of holder_column s) counts.claims

abbrev pub marks_for : ℕ → Counts → Findings → List ℕ → ℕ → Usage → ℕ → List Bool
marks_for version counts found s x u moment =
    marks_by version u moment s (sheet_ends s found.ups counts.claims) (rooms_by version counts found s x) counts.claims

unfoldable pub drawn_by : ℕ → Counts → Findings → List ℕ → ℕ → Usage → ℕ → List ℕ → List Claim
drawn_by version counts found s x u moment gs =
    signed_through (signing_by counts found s (marks_for version counts found s x u moment) (blank_for s counts.claims x u)) gs
