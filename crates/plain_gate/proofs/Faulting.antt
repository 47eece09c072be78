-- A loop over the uses of an action that puts the violations of each, by its cell and the owner's. Assumes nothing.
use Rattle.std.proofs.Common.{◌≡◌, refl, ◌∙◌, Bool, true, false, ◌&&◌, List, ℕ, ◌+◌, ◌≤◌, ◌<◌, min, ne_eqb, eqb, length, get_or}
use Rattle.actions.specs.Actions.{use_limit}
use Rattle.actions.specs.declared.Violation.TheVariants.{NotCovered, OwnerNotCovering}
use Rattle.actions.specs.declared.Violations.{Violations}
use Rattle.violations.specs.Pushed.{pushed, pushed_all}
use Rattle.violations.specs.Pushing.{Pushing, pushing_next, pushing_end}
use Rattle.plain_gate.specs.Cells.{cell_faults, faults_among, faults_in}

-- the loop has come to a position: of the top uses that each list has, those before it are put
pub record Faulting (own theirs : List ℕ) (owned : Bool) (top position : ℕ) (first put : Violations) : Type 0 where
  pub few : top ≤ use_limit
  pub mine : top ≤ length own
  pub other : top ≤ length theirs
  pub come : Pushing (faults_among own theirs owned) top position first put

module _ {own theirs : List ℕ} {owned : Bool} {top : ℕ} {first : Violations} where
  module _ {position : ℕ} {put : Violations} (s : Faulting own theirs owned top position first put) where
    faulting_next : {after : Violations} → position < top
        → after ≡ pushed_all put (cell_faults owned position (get_or own position 0) (get_or theirs position 0))
        → Faulting own theirs owned top (position + 1) first after
    faulting_next h q = record { few = s.few; mine = s.mine; other = s.other; come = pushing_next s.come _ h (λ l. refl) q }

    -- to the next use: the actor's cell has nothing
    pub faulting_own : {after : Violations} → position < top → get_or own position 0 ≡ 0 → after ≡ pushed put (NotCovered position)
        → Faulting own theirs owned top (position + 1) first after
    unfolding pushed_all
    faulting_own h e q = faulting_next h (q ∙ rw e)

    -- the owner's has nothing
    pub faulting_owner : {after : Violations} → position < top → (get_or own position 0 ≡ 0 → ⊥) → owned && eqb (get_or theirs position 0) 0 ≡ true
        → after ≡ pushed put (OwnerNotCovering position) → Faulting own theirs owned top (position + 1) first after
    unfolding pushed_all
    faulting_owner h some e q = faulting_next h (q ∙ rw (ne_eqb (get_or own position 0) 0 some, e))

    -- each has something, or there is no owner to ask
    pub faulting_kept : position < top → (get_or own position 0 ≡ 0 → ⊥) → owned && eqb (get_or theirs position 0) 0 ≡ false
        → Faulting own theirs owned top (position + 1) first put
    unfolding pushed_all
    faulting_kept h some e = faulting_next h (rw (ne_eqb (get_or own position 0) 0 some, e))

    -- after the loop all are put
    pub faulting_end : (n : ℕ) → top ≤ position → top ≡ min n (min use_limit (min (length own) (length theirs)))
        → put ≡ pushed_all first (faults_in own theirs owned n)
    unfolding faults_in
    faulting_end n h e = rw (← e) (pushing_end s.come h refl)
