-- What a number out of range, or every number but the moment in range, says of test 2 of both calls. Assumes nothing.
use Rattle.std.proofs.Common.{◌≡◌, false, ℕ, ◌≤◌, ◌<◌, le-leb, lt-ltb, le-ltb, ltb}
use mathlib.Core.Bool.{and-false, and-true}
use borrow.Author.Tests.{lt-leb}
use Rattle.rights.specs.Rights.{right_count}
use Rattle.register.specs.Limits.{id_limit, moment_end}
use Rattle.actions.specs.declared.Usage.{Usage}
use Rattle.proposals.specs.Proposals.{signer_limit, asks_fit}
use Rattle.proposals.specs.declared.Signers.{Signers}

module _ (u : Usage) (moment : ℕ) (s : Signers) where
  pub signers_out : signer_limit < s.count → asks_fit u moment s ≡ false
  unfolding asks_fit
  signers_out h = simp (lt-leb s.count signer_limit h)

  pub resource_out : id_limit < u.resource → asks_fit u moment s ≡ false
  unfolding asks_fit
  resource_out h = simp (lt-leb u.resource id_limit h, and-false)

  pub right_out : right_count ≤ u.right → asks_fit u moment s ≡ false
  unfolding asks_fit
  right_out h = simp (le-ltb u.right right_count h, and-false)

  -- with the other numbers in range the moment decides
  pub moment_decides : s.count ≤ signer_limit → u.resource ≤ id_limit → u.right < right_count → asks_fit u moment s ≡ ltb moment moment_end
  unfolding asks_fit
  moment_decides signers resource right =
      simp (le-leb s.count signer_limit signers, le-leb u.resource id_limit resource, lt-ltb u.right right_count right, and-true)
