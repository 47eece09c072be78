-- Believed: The gate that a technician follows on paper (02, T-06). One walk through the claims from first to last remarks on each its hop count
-- and whether it lives, and fills a table of what an actor covers, for each resource and right, at one moment. Uses are looked up in the table.
use Rattle.refusals.specs.declared.Refusal.{Refusal}
use Rattle.std.specs.Prelude.{Bool, true, false, not, ◌&&◌, ◌||◌, cond, List, [], ◌∷◌, ◌++◌, map, ℕ, suc, eqb, leb, Result, Err, Ok}
use Rattle.lists.specs.Lists.{any, ands}
use Rattle.rights.specs.Rights.{the_rights, reading, has_right}
use Rattle.register.specs.Limits.{machine_kind}
use Rattle.register.specs.Register.{actors_of, resources_of, claims_of}
use Rattle.register.specs.Chain.{numbered, current}
use Rattle.register.specs.declared.Resource.{Resource}
use Rattle.register.specs.declared.Claim.{Claim}
use Rattle.register.specs.declared.Register.{Register}
use Rattle.soundness_rules.specs.Sound.{is_machine}
use Rattle.refusals.specs.Refusals.{outcome_of}
use Rattle.actions.specs.Actions.{uses_of, governs_of}
use Rattle.actions.specs.declared.Usage.{Usage}
use Rattle.actions.specs.declared.Action.{Action}
use Rattle.actions.specs.declared.Plan.{Plan}
use Rattle.actions.specs.declared.Violation.{Violation}
use Rattle.actions.specs.declared.Violation.TheVariants.{NoOwner, NotCovered, OwnerNotCovering}
use Rattle.actions.specs.declared.Decision.TheVariants.{Stopped}
use Rattle.actions.specs.declared.Verdict.{Verdict}
use Rattle.actions.specs.declared.Judgement.{Judgement}
use Rattle.actions.specs.declared.Judgement.TheVariants.{Cancelled}
use Rattle.actions.specs.declared.PlanVerdict.{PlanVerdict}
use Rattle.gate_rules.specs.Gate.{contains, reach_of, first_of, is_ownerless, flags_set, governed, gate_tests, listed, padded, decided}
use Rattle.gate_rules.specs.Plans.{actions_of, judged, Halt, runs, halts, halt_of, held, stopped}

-- ---- remarks on the claims

-- what is remarked on a claim when the walk comes past it: its hop count, and whether it lives
pub record Remark : Type 0 where
  pub claim : Claim
  pub hops : ℕ
  pub lives : Bool

-- the remark on the claim numbered p, alone in a list, or none: 0 is no claim's number
abbrev pub remark_of : List Remark → ℕ → List Remark
remark_of remarks p = first_of (λ n. numbered (λ d. d.id) (λ d. d.parent) p n.claim) remarks

-- the hop count over the parent's remark: one more; 0 for a root, which has no parent
abbrev pub hops_over : List Remark → ℕ
hops_over [] = 0
hops_over (n ∷ more) = suc n.hops

-- whether the source lives: the parent's remark does; a root has none to ask
abbrev pub lives_over : List Remark → Bool
lives_over [] = true
lives_over (n ∷ more) = n.lives

-- the remark on the next claim, behind the remarks on those before it
abbrev pub remark_on : ℕ → List Remark → Claim → Remark
remark_on moment remarks c = record {
  claim = c;
  hops = hops_over (remark_of remarks c.parent);
  lives = current moment c && lives_over (remark_of remarks c.parent);
}

-- ---- cells

-- what stands in a cell: nothing, public, or a claim with its hop count and the length of its resource's trimmed path
pub data Entry : Type 0 where
  nothing : Entry
  openly : Entry
  claimed : Claim → ℕ → ℕ → Entry

-- a row for a resource, in it a cell for each right
pub record Cell : Type 0 where
  pub right : ℕ
  pub entry : Entry

pub record Row : Type 0 where
  pub resource : Resource
  pub cells : List Cell

-- before the first claim: public at READ of a public resource, else nothing
abbrev pub is_open : Resource → ℕ → Bool
is_open o b = eqb b reading && eqb o.public 1

abbrev pub open_entry : Resource → ℕ → Entry
open_entry o b = cond (is_open o b) openly nothing

abbrev pub open_row : Resource → Row
open_row o = record { resource = o; cells = map (λ b. record { right = b; entry = open_entry o b }) the_rights }

-- whether a claim speaks for x in the cell of resource o and right b: x holds it, it lives, it has the right, and the path of its resource
-- contains that of o
unfoldable pub speaks : Register → ℕ → Resource → ℕ → Remark → Bool
speaks r x o b n = ands (
    eqb n.claim.holder x
    ∷ n.lives
    ∷ has_right n.claim.rights b
    ∷ contains r n.claim.resource o.id
    ∷ [])

-- whether a cell has a claim whose length is this one or more
abbrev pub keeps_off : Entry → ℕ → Bool
keeps_off nothing len = false
keeps_off openly len = false
keeps_off (claimed c hops most) len = leb len most

-- a cell after one claim more: the claim, where it speaks and the cell does not keep it off
abbrev pub entry_after : Register → ℕ → Resource → ℕ → Remark → Entry → Entry
entry_after r x o b n e =
    let len = reach_of r n.claim.resource o.id in
    cond (speaks r x o b n && not (keeps_off e len)) (claimed n.claim n.hops len) e

abbrev pub row_after : Register → ℕ → Remark → Row → Row
row_after r x n row = record {
  resource = row.resource;
  cells = map (λ c. record { right = c.right; entry = entry_after r x row.resource c.right n c.entry }) row.cells;
}

-- ---- the walk

-- what is on the paper: the remarks, the latest first, and a row for each resource that stands
pub record Paper : Type 0 where
  pub remarks : List Remark
  pub rows : List Row

-- one claim more
abbrev pub paper_after : Register → ℕ → ℕ → Paper → Claim → Paper
paper_after r moment x s c =
    let n = remark_on moment s.remarks c in
    record { remarks = n ∷ s.remarks; rows = map (row_after r x n) s.rows }

-- the claims from first to last
abbrev pub walked : Register → ℕ → ℕ → Paper → List Claim → Paper
walked r moment x s [] = s
walked r moment x s (c ∷ cs) = walked r moment x (paper_after r moment x s c) cs

unfoldable pub paper_of : Register → ℕ → ℕ → Paper
paper_of r moment x = walked r moment x (record { remarks = []; rows = map open_row (resources_of r.resources) }) (claims_of r.claims)

-- the table of what x covers at a moment
abbrev pub cover_table : Register → ℕ → ℕ → List Row
cover_table r moment x = (paper_of r moment x).rows

-- ---- uses are looked up

abbrev pub cells_in : List Row → List Cell
cells_in [] = []
cells_in (row ∷ more) = row.cells

abbrev pub entry_in : List Cell → Entry
entry_in [] = nothing
entry_in (c ∷ more) = c.entry

-- the entry in the row of the used resource at the right; nothing, where there is no such cell
unfoldable pub looked_up : List Row → Usage → Entry
looked_up table u = entry_in (first_of (λ c. eqb u.right c.right) (cells_in (first_of (λ row. eqb u.resource row.resource.id) table)))

abbrev pub is_nothing : Entry → Bool
is_nothing nothing = true
is_nothing openly = false
is_nothing (claimed c hops len) = false

-- the claim in a cell, alone in a list, or none
abbrev pub entry_claim : Entry → List Claim
entry_claim nothing = []
entry_claim openly = []
entry_claim (claimed c hops len) = c ∷ []

-- the hop count of the claim in a cell, 0 where there is none
abbrev pub entry_hops : Entry → ℕ
entry_hops nothing = 0
entry_hops openly = 0
entry_hops (claimed c hops len) = hops

-- ---- the plain gate

-- the owner of x, alone in a list, where x is a machine that has one
abbrev pub table_owner : Register → ℕ → List ℕ
table_owner r x =
    map (λ a. a.owner) (first_of (λ a. eqb x a.id && (eqb machine_kind a.kind && not (eqb a.owner 0))) (actors_of r.actors))

-- the two tables of an action: its actor's, and its owner's alone in a list, where there is one
pub record Tables : Type 0 where
  pub own : List Row
  pub owners : List (List Row)

abbrev pub tables_of : Register → Action → Tables
tables_of r a = record { own = cover_table r a.now a.actor; owners = map (cover_table r a.now) (table_owner r a.actor) }

-- 4, 5: by use position from n, where the actor's cell has nothing; else where the owner's has nothing
abbrev pub plain_use : Tables → ℕ → Usage → List Violation
plain_use t n u =
    cond (is_nothing (looked_up t.own u)) (NotCovered n ∷ [])
    (cond (any (λ table. is_nothing (looked_up table u)) t.owners) (OwnerNotCovering n ∷ []) [])

abbrev pub plain_uses : Tables → ℕ → List Usage → List Violation
plain_uses t n [] = []
plain_uses t n (u ∷ us) = plain_use t n u ++ plain_uses t (suc n) us

unfoldable pub plain_violations : Register → Action → List Violation
plain_violations r a =
    flags_set a.flags
    ++ (cond (is_ownerless r a.actor) (NoOwner a.actor ∷ []) []
    ++ (cond (is_machine (actors_of r.actors) a.actor) (governed 0 (governs_of a)) []
    ++ plain_uses (tables_of r a) 0 (uses_of a)))

unfoldable pub plain_hops : Register → Action → List ℕ
plain_hops r a = map (λ u. entry_hops (looked_up (tables_of r a).own u)) (uses_of a)

abbrev pub plain_verdict : Result Unit Refusal → Register → Action → Verdict
plain_verdict (Ok tt) r a =
    record { decision = decided (plain_violations r a); violations = listed (plain_violations r a); hops = padded (plain_hops r a) }
plain_verdict (Err why) r a = record { decision = Stopped why; violations = listed []; hops = padded [] }

-- the answer of the plain gate
unfoldable pub plainly_gated : Register → Action → Verdict
plainly_gated r a = plain_verdict (outcome_of (gate_tests r a)) r a

-- ---- plans: each action has its own tables; soundness is judged once

abbrev pub plain_judgements : Register → Bool → List Action → List Judgement
plain_judgements r cancelled [] = []
plain_judgements r cancelled (a ∷ actions) =
    cond cancelled Cancelled (judged (plain_violations r a)) ∷ plain_judgements r (cancelled || not (eqb a.flags 0)) actions

abbrev pub plain_plan_verdict : Halt → Register → Plan → PlanVerdict
plain_plan_verdict runs r p = held (plain_judgements r false (actions_of p))
plain_plan_verdict (halts why n) r p = stopped why n

-- the answer of the plain gate for a plan
unfoldable pub plainly_planned : Register → Plan → PlanVerdict
plainly_planned r p = plain_plan_verdict (halt_of r p) r p
