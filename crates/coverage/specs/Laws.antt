-- Laws: What covering by columns says of the claims and the resources that they are the columns of, and which place is the nearest. Assumes nothing.
use Rattle.std.specs.Prelude.{◌≡◌, Bool, true, false, ◌&&◌, cond, ℕ, suc, ◌+◌, ltb, eqb, length, get_or, Option, None, Some, List, [], ◌∷◌, map}
use Rattle.std.proofs.Common.{add-one, arith, eq-eqb, ne_eqb}
use Rattle.std.proofs.Math.Path.{refl}
use Rattle.std.proofs.Math.Dec.{leb}
use Rattle.std.proofs.Math.ListN.{get_or-map}
use Rattle.lists.specs.Tests.{cases}
use Rattle.lists.specs.Filters.{filter_nil, filter_hit, filter_miss}
use Rattle.lists.specs.Lists.{All, filter}
use Rattle.rights.specs.Rights.{has_right}
use Rattle.paths.specs.Containment.{contained}
use Rattle.register.specs.Limits.{resource_limit, path_limit}
use Rattle.register.specs.Register.{resources_of, path_of, no_resource, no_claim}
use Rattle.register.specs.declared.Claim.{Claim}
use Rattle.register.specs.declared.Resources.{Resources}
use Rattle.columns.specs.Columns.{rights_of}
use Rattle.coverage.specs.Laid.{laid}
use Rattle.coverage.specs.LaidLaws.{part_laid}
use Rattle.coverage.specs.Coverage.{reaching, nearest_from}

-- ---- a claim reaches by its rights and by the paths of two resources

-- whether the path of the resource at place x contains that of the resource at place y
abbrev pub containing : Resources → ℕ → ℕ → Bool
containing k x y = contained (path_of (get_or (resources_of k) x no_resource)) (path_of (get_or (resources_of k) y no_resource))

module _ (cs : List Claim) (spots : List ℕ) (k : Resources) (sized : All (λ o. length o.path ≡ path_limit) k.list) (right spot j : ℕ) where
  pub reaching_natural : reaching (map rights_of cs) spots (laid k).bytes (laid k).lens right spot j
      ≡ has_right (get_or cs j no_claim).rights right
      && (ltb j (length spots) && (ltb (get_or spots j 0) resource_limit && (ltb spot resource_limit && containing k (get_or spots j 0) spot)))
  reaching_natural = rw (get_or-map rights_of cs j no_claim, part_laid k sized (get_or spots j 0), part_laid k sized spot)

-- ---- the nearest place
module _ (p : ℕ → Bool) (f : ℕ → ℕ) (best bar : ℕ) where
  pub nearest_nowhere : bar ≡ 0 → nearest_from p f best bar [] ≡ None
  unfolding nearest_from
  nearest_nowhere none = rw (eq-eqb bar 0 none)

  pub nearest_best : (bar ≡ 0 → ⊥) → nearest_from p f best bar [] ≡ Some best
  unfolding nearest_from
  nearest_best some = rw (ne_eqb bar 0 some)

  module _ (j : ℕ) (l : List ℕ) where
    pub nearest_taken : (n : ℕ) → n ≡ f j → p j && leb bar (f j) ≡ true → nearest_from p f best bar (j ∷ l) ≡ nearest_from p f j (n + 1) l
    unfolding nearest_from
    nearest_taken n same e = rw (e, same, add-one)

    pub nearest_passed : p j && leb bar (f j) ≡ false → nearest_from p f best bar (j ∷ l) ≡ nearest_from p f best bar l
    unfolding nearest_from
    nearest_passed e = rw e

module _ (f : ℕ → ℕ) where
  -- of what passes a filter, the nearest that passes a test is the nearest that passes both
  pub nearest_filtered : (p s : ℕ → Bool) (best bar : ℕ) (l : List ℕ)
      → nearest_from p f best bar (filter s l) ≡ nearest_from (λ j. s j && p j) f best bar l
  unfolding nearest_from
  nearest_filtered p s best bar [] = rw (filter_nil s)
  nearest_filtered p s best bar (i ∷ l) =
      cases (s i) (λ e. rw (filter_hit s i l e, e, nearest_filtered p s i (suc (f i)) l, nearest_filtered p s best bar l))
      (λ e. rw (filter_miss s i l e, e) (nearest_filtered p s best bar l))

  -- tests that agree on a list, and numbers that agree where these pass, find the same
  pub nearest_same : (p q : ℕ → Bool) (g : ℕ → ℕ) (best bar : ℕ) (l : List ℕ) → All (λ j. (p j ≡ q j) × (q j ≡ true → f j ≡ g j)) l
      → nearest_from p f best bar l ≡ nearest_from q g best bar l
  unfolding nearest_from
  nearest_same p q g best bar [] h = refl
  nearest_same p q g best bar (i ∷ l) h =
      cases (q i)
      (λ e. rw (h.0.0, e, h.0.1 e, nearest_same p q g i (suc (g i)) l h.1, nearest_same p q g best bar l h.1))
      (λ e. rw (h.0.0, e) (nearest_same p q g best bar l h.1))

  -- what holds of the place taken so far, or of none, and of each place of a list, holds of the nearest
  pub nearest_any : (M : Option ℕ → Type 0) (p : ℕ → Bool) (best bar : ℕ) (l : List ℕ) → M (cond (eqb bar 0) None (Some best)) → All (λ j. M (Some j)) l
      → M (nearest_from p f best bar l)
  unfolding nearest_from
  nearest_any M p best bar [] so_far each = so_far
  nearest_any M p best bar (i ∷ l) so_far each =
      cases (p i && leb bar (f i))
      (λ e. rw e (nearest_any M p i (suc (f i)) l (rw (ne_eqb (suc (f i)) 0 (λ none. omega arith)) each.0) each.1))
      (λ e. rw e (nearest_any M p best bar l so_far each.1))
