-- A change keeps the version of a register, and outside version 2 a grant does not ask what the claim holds as left. Assumes nothing.
use Rattle.std.proofs.Common.{◌≡◌, refl, Bool, true, false, cond, List, [], ◌∷◌, ℕ}
use Rattle.register.specs.Limits.{tells_left}
use Rattle.register.specs.Register.{with_left}
use Rattle.register.specs.Chain.{above}
use Rattle.register.specs.declared.Claim.{Claim}
use Rattle.register.specs.declared.Register.{Register}
use Rattle.soundness_rules.specs.Sound.{World, claim_fits, names_stand, root_kept, fresh, stored}
use Rattle.refusals.specs.Refusals.{outcome_of, is_accepted}
use Rattle.change_rules.specs.Changes.{world_in, standing, parent_tests, world_tests, grant_tests, appended, granted, unstruck, holding, Withdrawal, names, withdraw_tests, withdrawn}

-- whichever of two registers of one version is chosen
chosen_version : (b : Bool) (after before : Register) → after.version ≡ before.version → (cond b after before).version ≡ before.version
chosen_version true after before e = e
chosen_version false after before e = refl

pub granted_version : (r : Register) (c : Claim) (moment : ℕ) → (granted r c moment).register.version ≡ r.version
unfolding granted
granted_version r c moment = chosen_version (is_accepted (outcome_of (grant_tests r c moment))) (appended r (stored r.version (standing r) c)) r refl

pub withdrawn_version : (r : Register) (w : Withdrawal) → (withdrawn r w).register.version ≡ r.version
unfolding withdrawn
withdrawn_version r w = chosen_version (is_accepted (outcome_of (withdraw_tests r w))) (holding r (unstruck (names w) r)) r refl

module _ (version : ℕ) (untold : tells_left version ≡ false) (n : ℕ) (c : Claim) where
  fits_unasked : claim_fits version (with_left n c) ≡ claim_fits version c
  unfolding claim_fits
  fits_unasked = rw untold

  parent_unasked : (moment : ℕ) (H : List Claim) → parent_tests version moment H (with_left n c) ≡ parent_tests version moment H c
  unfolding parent_tests
  parent_unasked moment [] = refl
  parent_unasked moment (p ∷ higher) = rw untold

  stored_unasked : (L : List Claim) → stored version L (with_left n c) ≡ stored version L c
  stored_unasked L = rw untold

world_unasked : (w : World) (L : List Claim) (count n : ℕ) (c : Claim) → world_tests w L count (with_left n c) ≡ world_tests w L count c
unfolding world_tests names_stand root_kept fresh
world_unasked w L count n c = refl

-- outside version 2
module _ (r : Register) (untold : tells_left r.version ≡ false) (n : ℕ) (c : Claim) (moment : ℕ) where
  tests_unasked : grant_tests r (with_left n c) moment ≡ grant_tests r c moment
  unfolding grant_tests
  tests_unasked = rw (
    fits_unasked r.version untold n c,
    world_unasked (world_in r) (standing r) r.claims.count n c,
    parent_unasked r.version untold n c moment (above (standing r) c),
  )

  pub grant_left_unasked : granted r (with_left n c) moment ≡ granted r c moment
  unfolding granted
  grant_left_unasked = rw (tests_unasked, stored_unasked r.version untold n c (standing r))
