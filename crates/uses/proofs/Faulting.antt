-- A loop over the uses of an action that stores the violations of each. Assumes nothing.
use Rattle.std.proofs.Common.{◌≡◌, refl, Bool, true, false, not, ◌&&◌, ◌||◌, List, map, ℕ, ◌+◌, ◌≤◌, ◌<◌, min, arith, ltb, length, get_or}
use mathlib.Core.List.{flatten}
use Rattle.register.specs.Limits.{claim_limit}
use Rattle.actions.specs.Actions.{use_limit}
use Rattle.actions.specs.declared.Violation.{Violation}
use Rattle.actions.specs.declared.Violations.{Violations}
use Rattle.violations.specs.Pushed.{pushed_all}
use Rattle.violations.specs.Pushing.{one_where, Pushing, pushing_start, pushing_next, pushing_end}
use Rattle.uses.specs.Uses.{open_to, faults_of}
use Rattle.uses.specs.Passes.{fault_told, faults_at, faults_all}
use Rattle.uses.specs.declared.Uses.{Uses}

-- a use has a violation where its owner lacks or the actor does not cover it
fault_one : (n : ℕ) (covered lacking : Bool) → faults_of n covered lacking ≡ one_where (lacking || not covered) (fault_told covered n)
fault_one n false false = refl
fault_one n false true = refl
fault_one n true false = refl
fault_one n true true = refl

-- the tests of the use at a place that is open or not
abbrev pub covered_to : Bool → List ℕ → ℕ → Bool
covered_to freely claims i = freely || ltb (get_or claims i 0) claim_limit

abbrev pub faulty : Bool → List ℕ → List ℕ → Bool → ℕ → Bool
faulty freely relied theirs owned i = (owned && not (covered_to freely theirs i)) || not (covered_to freely relied i)

module _ (relied theirs : List ℕ) (owned : Bool) (publics : List ℕ) (uses : Uses) where
  -- the violations of the uses at some places
  abbrev pub faults_among : List ℕ → List Violation
  faults_among l = flatten (map (faults_at relied theirs owned publics uses) l)

  -- the loop has come to a position: of the top uses that each list has, those before it are put
  pub record Faulting (top position : ℕ) (first violations : Violations) : Type 0 where
    pub few : top ≤ use_limit
    pub mine : top ≤ length relied
    pub other : top ≤ length theirs
    pub put : Pushing faults_among top position first violations

module _ {relied theirs : List ℕ} {owned : Bool} {publics : List ℕ} {uses : Uses} {top : ℕ} {first : Violations} where
  pub faulting_start : {position : ℕ} → top ≡ min uses.count (min use_limit (min (length relied) (length theirs))) → position ≡ 0
      → Faulting relied theirs owned publics uses top position first first
  faulting_start e z = record { few = omega arith; mine = omega arith; other = omega arith; put = pushing_start z }

  module _ {position : ℕ} {violations : Violations} (s : Faulting relied theirs owned publics uses top position first violations) where
    -- to the next use, the violation put of one with a fault
    pub faulting_next : {after : Violations} (freely : Bool) → position < top
        → freely ≡ open_to publics (get_or uses.spots position 0) (get_or uses.rights position 0)
        → after ≡ pushed_all violations (one_where (faulty freely relied theirs owned position) (fault_told (covered_to freely relied position) position))
        → Faulting relied theirs owned publics uses top (position + 1) first after
    unfolding flatten
    faulting_next freely h e q =
        let told : faults_at relied theirs owned publics uses position
        ≡ one_where (faulty freely relied theirs owned position) (fault_told (covered_to freely relied position) position) =
        rw (← e) (fault_one position (covered_to freely relied position) (owned && not (covered_to freely theirs position))) in
        record { few = s.few; mine = s.mine; other = s.other; put = pushing_next s.put _ h (λ l. rw told) q }

    -- after the loop all are put
    pub faulting_end : top ≤ position → top ≡ min uses.count (min use_limit (min (length relied) (length theirs)))
        → violations ≡ pushed_all first (faults_all relied theirs owned publics uses)
    unfolding flatten faults_all
    faulting_end h e = rw (← e) (pushing_end s.put h refl)
