-- What a number out of range, or every number in range, says of an action's ranges. Assumes nothing.
use Rattle.std.proofs.Common.{◌≡◌, false, ◌&&◌, ◌^◌, ◌≤◌, ◌<◌, le-leb, lt-ltb, le-ltb, leb}
use mathlib.Core.Bool.{and-false, and-true}
use borrow.Author.Tests.{lt-leb}
use Rattle.lists.specs.Lists.{every}
use Rattle.rights.specs.Rights.{is_right}
use Rattle.register.specs.Limits.{id_limit, moment_end}
use Rattle.actions.specs.Actions.{use_limit, govern_limit, flag_count, uses_of, governs_of, action_fits}
use Rattle.actions.specs.declared.Action.{Action}

module _ (a : Action) where
  pub actor_out : id_limit < a.actor → action_fits a ≡ false
  unfolding action_fits
  actor_out h = simp (lt-leb a.actor id_limit h)

  pub now_out : moment_end ≤ a.now → action_fits a ≡ false
  unfolding action_fits
  now_out h = simp (le-ltb a.now moment_end h, and-false)

  pub flags_out : 2 ^ flag_count ≤ a.flags → action_fits a ≡ false
  unfolding action_fits
  flags_out h = simp (le-ltb a.flags (2 ^ flag_count) h, and-false)

  pub used_out : use_limit < a.used → action_fits a ≡ false
  unfolding action_fits
  used_out h = simp (lt-leb a.used use_limit h, and-false)

  pub governed_out : govern_limit < a.governed → action_fits a ≡ false
  unfolding action_fits
  governed_out h = simp (lt-leb a.governed govern_limit h, and-false)

  -- with the five numbers in range the entries decide
  pub entries_decide : a.actor ≤ id_limit → a.now < moment_end → a.flags < 2 ^ flag_count → a.used ≤ use_limit → a.governed ≤ govern_limit
      → action_fits a ≡ every (λ u. leb u.resource id_limit && is_right u.right) (uses_of a) && every (λ g. leb g id_limit) (governs_of a)
  unfolding action_fits
  entries_decide actor moment flags used governed =
      simp (
        le-leb a.actor id_limit actor,
        lt-ltb a.now moment_end moment,
        lt-ltb a.flags (2 ^ flag_count) flags,
        le-leb a.used use_limit used,
        le-leb a.governed govern_limit governed,
        and-true,
      )
