-- Working: A grant's tests in the parts that the code decides one by one: tests 1 and 2 where it is told whether the register is sound; tests 3 to 8
-- where it is told whether the claim's id stands; those of the parent and the claim alone; those of the chain, over anything that has grantors and
-- holders. That 01's tests are these parts in this order is proved here (`world_tests_lem`, `parent_tests_lem`). Assumes nothing.
use Rattle.refusals.specs.declared.Refusal.{Refusal}
use Rattle.std.specs.Prelude.{◌≡◌, refl, Bool, not, ◌&&◌, cond, List, [], ◌∷◌, ◌++◌, map, ℕ, eqb, leb, ltb, Option, Result, Err, Ok}
use Rattle.std.proofs.Common.{sym, ap, ◌∙◌}
use Rattle.lists.specs.Lists.{any, every}
use Rattle.rights.specs.Rights.{delegating, has_right, has_rights, bars_machine}
use Rattle.register.specs.Limits.{claim_limit, moment_end}
use Rattle.register.specs.Chain.{circling, current}
use Rattle.register.specs.declared.Claim.{Claim}
use Rattle.register.specs.declared.Actor.{Actor}
use Rattle.register.specs.declared.Resource.{Resource}
use Rattle.soundness_rules.specs.Sound.{World, world_of, names_stand, fresh, root_kept, fewer_left, claim_fits}
use Rattle.refusals.specs.Refusals.{Test, outcome_of}
use Rattle.refusals.proofs.Laws.{outcome_cases, outcome_append, outcome_append_refused}
use Rattle.change_rules.specs.Changes.{source_live, world_tests, parent_tests}
use Rattle.refusals.specs.declared.Refusal.TheVariants.{Absent, Stands, Full, NotKeeper, Ownerless, NotByMachine, NotHeld, NotLive, NoDelegate, RightLacking, WeightAbove, TooManyHops, Circle, Unsound, Range}
use Rattle.columns.specs.Sheet.{claim_at}
use Rattle.lookup.specs.Walks.{up_from}

-- tests 3 to 8 in a world, where it is told whether the id of the claim c stands, and that n claims do
unfoldable pub told_tests : World → Bool → ℕ → Claim → List Test
told_tests w stands n c =
    record { passed = names_stand w c; refusal = Absent }
    ∷ record { passed = not stands; refusal = Stands }
    ∷ record { passed = ltb n claim_limit; refusal = Full }
    ∷ record { passed = root_kept w c; refusal = NotKeeper }
    ∷ record { passed = not (w.machine c.grantor && w.ownerless c.grantor); refusal = Ownerless }
    ∷ record { passed = not (w.machine c.grantor && bars_machine c.rights); refusal = NotByMachine }
    ∷ []

-- tests 10 to 14, of the parent p, whether it lives, and the claim c
unfoldable pub drawn_tests : Bool → Claim → Claim → List Test
drawn_tests lives p c =
    record { passed = eqb p.holder c.grantor && eqb p.resource c.resource; refusal = NotHeld }
    ∷ record { passed = lives; refusal = NotLive }
    ∷ record { passed = has_right p.rights delegating; refusal = NoDelegate }
    ∷ record { passed = has_rights p.rights c.rights; refusal = RightLacking }
    ∷ record { passed = leb c.weight p.weight; refusal = WeightAbove }
    ∷ []

-- tests 15 and 16, of the chain above a claim and its holder h, where it is told whether the claim has fewer hands left than its parent
unfoldable pub chain_tests : {A : Type 0} → (A → ℕ) → (A → ℕ) → Bool → List A → ℕ → List Test
chain_tests grantor holder fewer l h =
    record { passed = fewer; refusal = TooManyHops }
    ∷ record { passed = not (circling grantor holder l h); refusal = Circle }
    ∷ []

-- the outcome of tests one behind the other, where that of each part is told
abbrev pub outcome_then : Result Unit Refusal → Result Unit Refusal → Result Unit Refusal
outcome_then (Err why) next = Err why
outcome_then (Ok _) next = next

-- tests 1 and 2, where it is told whether the register is sound
abbrev pub first_tests : Bool → ℕ → Claim → ℕ → List Test
first_tests whole version c moment =
    record { passed = whole; refusal = Unsound }
    ∷ record { passed = claim_fits version c && ltb moment moment_end; refusal = Range }
    ∷ []

-- tests 9 to 16, over the chain above the claim c as the claims of a sheet and the places of the parents have it, where the parent of c stands at a place;
-- of a root there are none
abbrev pub parent_asked : ℕ → List ℕ → List ℕ → Option ℕ → Claim → ℕ → List Test
parent_asked version s ups place c moment = cond (eqb c.parent 0) [] (parent_tests version moment (map (claim_at s) (up_from ups place)) c)

pub world_tests_lem : (w : World) (earlier : List Claim) (n : ℕ) (c : Claim)
    → world_tests w earlier n c ≡ told_tests w (any (λ d. eqb c.id d.id) earlier) n c
unfolding world_tests told_tests fresh
world_tests_lem w earlier n c = refl

-- none of them asks for the version
pub told_version : (v w : ℕ) (actors : List Actor) (resources : List Resource) (stands : Bool) (n : ℕ) (c : Claim)
    → told_tests (world_of v actors resources) stands n c ≡ told_tests (world_of w actors resources) stands n c
unfolding told_tests names_stand root_kept
told_version v w actors resources stands n c = refl

-- the liveness that a grant asks for is that of every claim from the parent up
pub source_live_lem : (moment : ℕ) (p : Claim) (higher : List Claim) → source_live moment (p ∷ higher) ≡ every (current moment) (p ∷ higher)
unfolding source_live
source_live_lem moment p higher = refl

pub parent_tests_lem : (version moment : ℕ) (p : Claim) (higher : List Claim) (c : Claim)
    → parent_tests version moment (p ∷ higher) c ≡ drawn_tests (every (current moment) (p ∷ higher)) p c
    ++ chain_tests (λ d. d.grantor) (λ d. d.holder) (fewer_left version p higher c) (p ∷ higher) c.holder
unfolding parent_tests drawn_tests chain_tests
parent_tests_lem version moment p higher c = rw (source_live_lem moment p higher)

-- tests decided one part after the other are decided together
pub decided_then : (tests more : List Test) {first next : Result Unit Refusal} → first ≡ outcome_of tests → next ≡ outcome_of more → outcome_then first next ≡ outcome_of (tests ++ more)
decided_then tests more {first} {next} e told =
    outcome_cases first
    (λ passed. ap (λ o. outcome_then o next) passed ∙ told ∙ sym (outcome_append tests more (sym e ∙ passed)))
    (λ why refused. ap (λ o. outcome_then o next) refused ∙ sym (outcome_append_refused tests more why (sym e ∙ refused)))
