-- The violations of flags and of governed entries, one number after the other. Assumes nothing.
use Rattle.std.proofs.Common.{◌≡◌, Bool, List, [], ◌∷◌, ◌++◌, map, ℕ, ◌/◌, ◌%◌, ◌^◌, eqb}
use Rattle.lists.specs.Tests.{cases}
use Rattle.lists.specs.Filters.{filter_nil, filter_hit, filter_miss}
use Rattle.lists.specs.Lists.{filter}
use Rattle.actions.specs.declared.Violation.{Violation}
use Rattle.actions.specs.declared.Violation.TheVariants.{FlagSet, MachineGoverns}
use Rattle.violations.specs.Pushing.{one_where}

-- whether a flag is set
abbrev pub is_set : ℕ → ℕ → Bool
is_set flags i = eqb (flags / 2 ^ i % 2) 1

-- the violations that the set ones among some flags are
abbrev pub set_among : ℕ → List ℕ → List Violation
set_among flags l = map (λ i. FlagSet i) (filter (is_set flags) l)

module _ (flags : ℕ) where
  pub flag_next : (i : ℕ) (l : List ℕ) → set_among flags (i ∷ l) ≡ one_where (is_set flags i) (FlagSet i) ++ set_among flags l
  flag_next i l =
      cases (is_set flags i)
      (λ e. rw (filter_hit (is_set flags) i l e, e))
      (λ e. rw (filter_miss (is_set flags) i l e, e))

  pub flag_none : set_among flags [] ≡ []
  flag_none = rw (filter_nil (is_set flags))

-- the violations that governed entries at some positions are
abbrev pub governs_at : List ℕ → List Violation
governs_at l = map (λ i. MachineGoverns i) l
