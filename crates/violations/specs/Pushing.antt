-- Laws: A loop over the numbers from 0 that stores violations behind those of a held list, while there is a place. Assumes nothing.
use Rattle.std.specs.Prelude.{◌≡◌, refl, Bool, true, false, ◌&&◌, cond, List, [], ◌∷◌, ◌++◌, ℕ, suc, ◌+◌, ◌-◌, ◌≤◌, ◌<◌, ltb}
use Rattle.std.proofs.Common.{◌∙◌, add-one, arith}
use Rattle.std.proofs.Math.Path.{sym}
use Rattle.std.proofs.Math.Nat.{sub-zero}
use Rattle.lists.specs.Lists.{counted}
use Rattle.actions.specs.Actions.{violation_limit}
use Rattle.actions.specs.declared.Violation.{Violation}
use Rattle.actions.specs.declared.Violations.{Violations}
use Rattle.violations.specs.Pushed.{pushed, pushed_all}
use Rattle.violations.specs.PushedLaws.{pushed_all_append}

-- a violation alone where a test holds, else none
abbrev pub one_where : Bool → Violation → List Violation
one_where b v = cond b (v ∷ []) []

-- where the test holds, a violation more is the one of the test
pub pushing_put : (b : Bool) (v : Violation) (vs : Violations) → b ≡ true → pushed vs v ≡ pushed_all vs (one_where b v)
unfolding pushed_all
pushing_put true v vs h = refl
pushing_put false v vs h = cc

-- else all is as it was
pub pushing_kept : (b : Bool) (v : Violation) (vs : Violations) → b && ltb vs.count violation_limit ≡ false → vs ≡ pushed_all vs (one_where b v)
unfolding pushed pushed_all
pushing_kept true v vs h = rw h
pushing_kept false v vs h = refl

-- of the n numbers from 0 the loop has come to i: what f makes of all of them, put to the list begun with, is what f makes of those
-- left, put to the list now
pub record Pushing (f : List ℕ → List Violation) (n i : ℕ) (first violations : Violations) : Type 0 where
  pub within : i ≤ n
  pub ahead : pushed_all first (f (counted 0 n)) ≡ pushed_all violations (f (counted i (n - i)))

-- the numbers left, taken apart
counted_next : (n i : ℕ) → i < n → counted i (n - i) ≡ i ∷ counted (i + 1) (n - (i + 1))
counted_next n i h =
    let left : n - i ≡ suc (n - (i + 1)) = omega arith in
    rw (left, add-one)

module _ {f : List ℕ → List Violation} {n : ℕ} {first : Violations} where
  pub pushing_start : {i : ℕ} → i ≡ 0 → Pushing f n i first first
  pushing_start h = record { within = omega arith; ahead = rw (h, sub-zero) }

  module _ {i : ℕ} {violations : Violations} (s : Pushing f n i first violations) where
    -- to the next number, the violations put that f makes of this one
    pub pushing_next : (vs : List Violation) {after : Violations} → i < n → ((l : List ℕ) → f (i ∷ l) ≡ vs ++ f l) → after ≡ pushed_all violations vs
        → Pushing f n (i + 1) first after
    pushing_next vs h one q =
        record {
          within = omega arith;
          ahead = s.ahead ∙ rw (counted_next n i h, one, q) (pushed_all_append violations vs (f (counted (i + 1) (n - (i + 1)))));
        }

    -- after the loop all is put
    pub pushing_end : n ≤ i → f [] ≡ [] → violations ≡ pushed_all first (f (counted 0 n))
    unfolding pushed_all
    pushing_end h none = let last : n - i ≡ 0 = omega arith in sym (s.ahead ∙ rw (last, none))
